-- What the commands do that read a bundle, and make something of it.
use Rattle.std.specs.Prelude.{◌≡◌, ◌⊎◌, ℕ, List, Option, Result, Ok, Err}
use Rattle.rec_container.specs.Container.{Entry, IsContainer}
use Rattle.rec_container.specs.declared.errors.ContainerError.{ContainerError}
use Rattle.rec_container.specs.declared.within.ReadError.{ReadError}
use Rattle.rec_container.specs.Reading.{IsFault}
use Rattle.rec_container.specs.Within.{Gave, Unread}
use Rattle.rec_format.specs.declared.manifest.PortableManifest.{PortableManifest}
use Rattle.rec_portable.specs.declared.errors.PortableRecordingReadError.TheVariants.{
  OutOfMemory,
  ReadArchive,
}
use Rattle.rec_portable.specs.declared.errors.PortableRecordingReadError.{
  PortableRecordingReadError,
}
use Rattle.rec_portable.specs.Errors.{source_error}
use Rattle.rec_portable.specs.Judging.{judged}

-- Over what a command makes of the entries of a bundle under a read limit, such as the text that it
-- prints, and over its refusal for a bundle that isn't opened
module _ {A E : Type 0} (opening : PortableRecordingReadError → E)
    (makes : ℕ → List Entry → Result A E → Type 0) (limit : ℕ) where
  -- this is made of entries whose manifest is judged so, or why nothing is:
  -- a manifest that is refused comes first
  abbrev pub OfJudged : List Entry → Result PortableManifest PortableRecordingReadError → Result A E
      → Type 0
  OfJudged es (Ok manifest) r = makes limit es r
  OfJudged es (Err fault) r = Err (opening fault) ≡ r

  -- these bytes are a bundle of which this is made, or nothing and why; or they are no container
  abbrev pub IsMadeOf : List ℕ → Result A E → Type 0
  IsMadeOf bytes r =
      ((es : List Entry) × IsContainer bytes es × OfJudged es (judged limit es) r)
      ⊎ ((fault : ContainerError) × IsFault bytes fault × (Err (opening (ReadArchive fault)) ≡ r))

  module _ {S : Type 0} (left : S → Option (List ℕ)) (faults : S → ℕ) (spool : ℕ) where
    -- the source was read to its end, and this is made of its bytes
    abbrev pub Shows : S → S → A → Type 0
    Shows old new made =
        (bytes : List ℕ) × Gave left faults spool old new bytes × IsMadeOf bytes (Ok made)

    -- why nothing is made: the source wasn't read, or memory ran out for its bytes; or it was read
    -- to its end, and memory ran out or its bytes are refused
    abbrev pub Withholds : S → S → E → Type 0
    Withholds old new e =
        ((fault : ReadError) × (e ≡ opening (source_error fault))
        × Unread left faults spool old new fault)
        ⊎ ((bytes : List ℕ) × Gave left faults spool old new bytes
        × ((e ≡ opening OutOfMemory) ⊎ IsMadeOf bytes (Err e)))
