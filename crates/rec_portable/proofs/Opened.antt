-- What is known of a bundle that is open.
use Rattle.std.proofs.Common.{◌≡◌, ℕ, List, Option, Some, None}
use Rattle.std.proofs.Common.{Result, Ok, refl, sym, ap, subst, ◌∙◌}
use Rattle.std.specs.Option.{option_map}
use Rattle.std.specs.Prelude.{is_some}
use Rattle.rec_container.proofs.Unique.{one_reading_spec}
use Rattle.rec_container.specs.Container.{Entry, IsContainer, ParsedContainer, content_of}
use Rattle.rec_format.specs.declared.manifest.PortableManifest.{PortableManifest}
use Rattle.rec_store.specs.Entries.{log_name, store_name}
use Rattle.rec_portable.specs.declared.errors.PortableRecordingReadError.{
  PortableRecordingReadError,
}
use Rattle.rec_portable.specs.declared.parts.BundleParts.{BundleParts}
use Rattle.rec_portable.specs.declared.window.Window.{Window}
use Rattle.rec_portable.specs.Judging.{judged, IsJudged}
use Rattle.rec_portable.specs.Opening.{IsOpen}
use Rattle.rec_portable.specs.Windows.{IsWindowOf, bytes_in}

-- what a window shows
pub window_found : (bytes : List ℕ) (found : Option (List ℕ)) (w : Option Window)
    → IsWindowOf bytes found w → option_map (bytes_in bytes) w ≡ found
window_found bytes None None h = refl
window_found bytes None (Some w) h = absurd h
window_found bytes (Some part) None h = absurd h
window_found bytes (Some part) (Some w) h = ap Some h.1

-- a window is there exactly where something was found
pub window_there : (bytes : List ℕ) (found : Option (List ℕ)) (w : Option Window)
    → IsWindowOf bytes found w → is_some w ≡ is_some found
window_there bytes None None h = refl
window_there bytes None (Some w) h = absurd h
window_there bytes (Some part) None h = absurd h
window_there bytes (Some part) (Some w) h = refl

module _ (bytes : List ℕ) (limit : ℕ) (parts : BundleParts) (o : IsOpen bytes limit parts) where
  -- the bytes spell one list of entries
  same_content : (name : List ℕ) (es : List Entry) → IsContainer bytes es
      → content_of o.entries name ≡ content_of es name
  same_content name es h =
      ap (λ fs. content_of fs name) (one_reading_spec bytes o.entries es o.spelled h)

  pub store_shown : (es : List Entry) → IsContainer bytes es
      → option_map (bytes_in bytes) parts.store ≡ content_of es store_name
  store_shown es h = window_found bytes _ parts.store o.store ∙ same_content store_name es h

  pub log_shown : (es : List Entry) → IsContainer bytes es
      → option_map (bytes_in bytes) parts.log ≡ content_of es log_name
  log_shown es h = window_found bytes _ parts.log o.log ∙ same_content log_name es h

  pub store_there : (es : List Entry) → IsContainer bytes es
      → is_some parts.store ≡ is_some (content_of es store_name)
  store_there es h =
      window_there bytes _ parts.store o.store ∙ ap is_some (same_content store_name es h)

  pub log_there : (es : List Entry) → IsContainer bytes es
      → is_some parts.log ≡ is_some (content_of es log_name)
  log_there es h = window_there bytes _ parts.log o.log ∙ ap is_some (same_content log_name es h)

  pub one_manifest : (manifest : PortableManifest) → IsJudged bytes limit (Ok manifest)
      → parts.manifest ≡ manifest
  one_manifest manifest h =
      let same : (let r : Result PortableManifest PortableRecordingReadError = Ok parts.manifest in
      r)
      ≡ Ok manifest =
      sym o.judged ∙ ap (judged limit) (one_reading_spec bytes o.entries h.0 o.spelled h.1) ∙ h.2 in
      cc

  pub is_judged : IsJudged bytes limit (Ok parts.manifest)
  is_judged = (o.entries, o.spelled, o.judged)

-- the parts of a container whose manifest was judged
pub opened_at : (bytes : List ℕ) (limit : ℕ) (parts : BundleParts) (c : ParsedContainer)
    → (c.bytes ≡ bytes) × IsContainer bytes c.entries → judged limit c.entries ≡ Ok parts.manifest
    → IsWindowOf c.bytes (content_of c.entries log_name) parts.log
    → IsWindowOf c.bytes (content_of c.entries store_name) parts.store → IsOpen bytes limit parts
opened_at bytes limit parts c parsed judges log store = record {
  entries = c.entries;
  spelled = parsed.1;
  judged = judges;
  log = subst (λ (b : List ℕ). IsWindowOf b (content_of c.entries log_name) parts.log) parsed.0 log;
  store =
      subst (λ (b : List ℕ). IsWindowOf b (content_of c.entries store_name) parts.store)
      parsed.0 store;
}
