-- What is printed of a bundle's manifest.
use Rattle.std.proofs.Common.{◌≡◌, ℕ, List, Ok, sym, ap, ◌∙◌}
use Rattle.rec_container.specs.Container.{Entry, IsContainer}
use Rattle.rec_container.specs.Reading.{◌>>=◌}
use Rattle.rec_format.specs.declared.manifest.PortableManifest.{PortableManifest}
use Rattle.rec_portable.specs.Judging.{IsJudged, judged}
use Rattle.rec_reading.proofs.Listed.{judged_of}
use Rattle.rec_reading.specs.Listing.{info_printed, manifest_line}
use Rattle.rec_reading.specs.RunParts.{of_bundle}

module _ (limit : ℕ) (bytes : List ℕ) (manifest : PortableManifest)
    (has : IsJudged bytes limit (Ok manifest)) (es : List Entry) (is : IsContainer bytes es) where
  manifest_at : of_bundle (judged limit es) ≡ Ok manifest
  manifest_at = ap of_bundle (judged_of bytes limit (Ok manifest) es has is)

  pub info_made : (text : List ℕ) → text ≡ manifest_line manifest → info_printed limit es ≡ Ok text
  info_made text made = ap (λ r. r >>= (λ m. Ok (manifest_line m))) manifest_at ∙ ap Ok (sym made)
