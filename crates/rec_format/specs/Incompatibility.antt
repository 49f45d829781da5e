-- What is printed of versions that don't fit.
use Rattle.std.specs.Fmt.{decimal}
use Rattle.std.specs.Prelude.{ℕ, List, [], ◌∷◌, ◌++◌, codes}
use
    Rattle.rec_format.specs.declared.incompatibility.PortableRecordingVersionIncompatibility.TheVariants
    as portable
use Rattle.rec_format.specs.declared.incompatibility.PortableRecordingVersionIncompatibility.{
  PortableRecordingVersionIncompatibility,
}
use Rattle.rec_format.specs.declared.incompatibility.Release.{Release}
use Rattle.rec_format.specs.declared.incompatibility.StoreVersionIncompatibility.TheVariants
    as store
use Rattle.rec_format.specs.declared.incompatibility.StoreVersionIncompatibility.{
  StoreVersionIncompatibility,
}
use Rattle.rec_format.specs.declared.incompatibility.TooOldRecordingGuidance.TheVariants.{
  UseOlderNextest,
  Discard,
  Unknown,
}
use Rattle.rec_format.specs.declared.incompatibility.TooOldRecordingGuidance.{
  TooOldRecordingGuidance,
}

abbrev pub release_text : Release → List ℕ
release_text r = decimal r.major ++ 46 ∷ decimal r.minor ++ 46 ∷ decimal r.patch

-- a line of its own, or nothing
abbrev pub guidance_text : TooOldRecordingGuidance → List ℕ
guidance_text (UseOlderNextest release) =
    codes "\n(use nextest <= " ++ (release_text release ++ codes " to replay this recording)")
guidance_text (Discard release) =
    codes "\n(recordings from nextest "
    ++ (release_text release
    ++ codes " and earlier are no longer supported; discard this recording and record a new run)")
guidance_text Unknown = []

abbrev pub minor_text : ℕ → ℕ → List ℕ
minor_text recorded supported =
    codes "minor version "
    ++ (decimal recorded ++ (codes " is newer than supported version " ++ decimal supported))

abbrev pub store_incompatibility_text : StoreVersionIncompatibility → List ℕ
store_incompatibility_text (store.RecordingTooOld recorded supported guidance) =
    codes "recording has major version "
    ++ (decimal recorded ++ (codes ", but this nextest requires version "
    ++ (decimal supported ++ guidance_text guidance)))
store_incompatibility_text (store.RecordingTooNew recorded supported) =
    codes "recording has major version "
    ++ (decimal recorded ++ (codes ", but this nextest only supports version "
    ++ (decimal supported ++ codes " (upgrade nextest to replay this recording)")))
store_incompatibility_text (store.MinorTooNew recorded supported) = minor_text recorded supported

abbrev pub portable_incompatibility_text : PortableRecordingVersionIncompatibility → List ℕ
portable_incompatibility_text (portable.MajorMismatch recorded supported) =
    codes "major version "
    ++ (decimal recorded ++ (codes " differs from supported version " ++ decimal supported))
portable_incompatibility_text (portable.MinorTooNew recorded supported) =
    minor_text recorded supported
