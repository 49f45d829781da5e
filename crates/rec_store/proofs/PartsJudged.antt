-- The parts that are judged are those that a bundle is read as.
use Rattle.std.proofs.Common.{◌≡◌, ℕ, List, [], ◌∷◌, Bool, true, false, not, filter}
use Rattle.std.proofs.Common.{length, nat_lt, Option, Some, None, Result, Ok, Err}
use Rattle.std.proofs.Common.{is_some, option_map, refl, sym, ap, subst, ◌∙◌}
use Rattle.std.specs.List.{flat_map, list_all}
use Rattle.std.specs.Str.{is_utf8}
use Rattle.serde_json.specs.Data.{Data}
use Rattle.rec_container.specs.Container.{Entry, content_of}
use Rattle.rec_container.specs.Reading.{◌>>=◌}
use Rattle.rec_forms.specs.Recording.{test_list_form, record_opts_form}
use Rattle.rec_forms.specs.Shape.{only}
use Rattle.rec_forms.specs.TextForm.{bytes_form}
use Rattle.rec_format.specs.declared.manifest.PortableManifest.{PortableManifest}
use Rattle.rec_format.specs.declared.rerun.RerunInfo.{RerunInfo}
use Rattle.rec_format.specs.RerunForms.{rerun_info_form}
use Rattle.rec_format.specs.RunForms.{manifest_form}
use Rattle.rec_format.specs.ScopeForms.{recorded_scope_form}
use Rattle.rec_codec.proofs.LineReadings.{log_events-whole}
use Rattle.rec_codec.specs.declared.line_events.LineError.{LineError}
use Rattle.rec_codec.specs.Event.{RecordedEvent, log_events}
use Rattle.rec_codec.specs.Lines.{lines}
use Rattle.rec_store.specs.declared.read_error.RecordReadError.{RecordReadError}
use Rattle.rec_store.specs.Entries.{build_scope_path, cargo_metadata_path}
use Rattle.rec_store.specs.Entries.{record_opts_path, rerun_info_path, test_list_path}
use Rattle.rec_store.specs.JudgedParts.{events_or_fault, first_unnamed, is_named}
use Rattle.rec_store.specs.JudgedParts.{log_judged, outputs_judged, parts_judged}
use Rattle.rec_store.specs.Kept.{event_paths}
use Rattle.rec_store.specs.Parts.{content_within, entry_part, found_rerun_info}
use Rattle.rec_store.specs.Parts.{found_within, item_of, metadata_part, or_refused}
use Rattle.rec_store.specs.Parts.{rerun_item, some_info, utf8_of, utf8_part}
use Rattle.rec_store.specs.RunParts.{RunParts, is_metadata, maybe_part, part, parts_of, text_part}

bind_ok : {A B E : Type 0} (r : Result A E) (f : A → Result B E) (y : B) → (r >>= f) ≡ Ok y
    → (x : A) × (r ≡ Ok x) × (f x ≡ Ok y)
bind_ok (Ok x) f y h = (x, refl, h)
bind_ok (Err e) f y h = absurd (let k = h in cc)

refused_ok : {A : Type 0} (e : RecordReadError) (o : Option A) (x : A) → or_refused e o ≡ Ok x
    → o ≡ Some x
refused_ok e None x h = absurd (let k = h in cc)
refused_ok e (Some y) x h = let k = h in cc

within_ok : (path : List ℕ) (limit : ℕ) (content x : List ℕ)
    → content_within path limit content ≡ Ok x → content ≡ x
within_ok path limit content x h = by (nat_lt limit (length content)) refl
  where
    by : (b : Bool) → nat_lt limit (length content) ≡ b → content ≡ x
    by true p = absurd (let k = (rw (p) at h) in cc)
    by false p = let k = (rw (p) at h) in cc

found_ok : (path : List ℕ) (limit : ℕ) (o : Option (List ℕ)) (x : List ℕ)
    → found_within path limit o ≡ Ok x → o ≡ Some x
found_ok path limit None x h = absurd (let k = h in cc)
found_ok path limit (Some content) x h = ap Some (within_ok path limit content x h)

metadata_ok : {T : Type 0} (form : Data → Option T) (path : List ℕ) (es : List Entry) (limit : ℕ)
    (x : T)
    → metadata_part form path es limit ≡ Ok x → part form es path ≡ Some x
metadata_ok form path es limit x h =
    let b = bind_ok (entry_part es path limit) (item_of form path) x h in
    rw (found_ok path limit (content_of es path) b.0 b.1) (refused_ok _ (bytes_form form b.0) x b.2)

utf8_ok : (path : List ℕ) (es : List Entry) (limit : ℕ) (x : List ℕ)
    → utf8_part path es limit ≡ Ok x → text_part es path ≡ Some x
utf8_ok path es limit x h =
    let b = bind_ok (entry_part es path limit) (utf8_of path) x h in
    rw (found_ok path limit (content_of es path) b.0 b.1)
    (refused_ok _ (only (is_utf8 b.0) b.0) x b.2)

same_ok : {A E : Type 0} (x y : A) → ◌≡◌ {A = Result A E} (Ok x) (Ok y) → x ≡ y
same_ok x y h = let k = h in cc

rerun_found : (limit : ℕ) (o : Option (List ℕ)) (x : Option RerunInfo)
    → found_rerun_info limit o ≡ Ok x → maybe_part rerun_info_form o ≡ Some x
rerun_found limit None x h = let k = h in cc
rerun_found limit (Some content) x h =
    let b = bind_ok (rerun_item limit content) some_info x h in
    let c = bind_ok (content_within rerun_info_path limit content)
    (item_of rerun_info_form rerun_info_path) b.0 b.1 in
    let read = subst (λ s. bytes_form rerun_info_form s ≡ Some b.0)
    (sym (within_ok rerun_info_path limit content c.0 c.1))
    (refused_ok _ (bytes_form rerun_info_form c.0) b.0 c.2) in
    ap (option_map Some) read ∙ ap Some (same_ok (Some b.0) x b.2)

outputs_ok : (limit : ℕ) (es : List Entry) (paths : List (List ℕ))
    → outputs_judged limit es paths ≡ Ok tt → list_all (λ p. is_some (content_of es p)) paths ≡ true
outputs_ok limit es [] h = refl
outputs_ok limit es (path ∷ paths) h =
    let b = bind_ok (entry_part es path limit) (λ content. outputs_judged limit es paths) tt h in
    rw (found_ok path limit (content_of es path) b.0 b.1) (outputs_ok limit es paths b.2)

named_ok : (paths : List (List ℕ)) (es : List Entry) → first_unnamed paths es ≡ None
    → list_all (λ e. is_named paths e) (filter (λ e. not (is_metadata e.name)) es) ≡ true
named_ok paths [] h = refl
named_ok paths (e ∷ es) h =
    by (is_metadata e.name) (is_named paths e) refl refl h (named_ok paths es)
  where
    by : (m n : Bool) → is_metadata e.name ≡ m → is_named paths e ≡ n
        → first_unnamed paths (e ∷ es) ≡ None
        → (first_unnamed paths es ≡ None
        → list_all (λ d. is_named paths d) (filter (λ d. not (is_metadata d.name)) es) ≡ true)
        → list_all (λ d. is_named paths d) (filter (λ d. not (is_metadata d.name)) (e ∷ es)) ≡ true
    by true n p q h more = rw (p) (more (rw (p) at h))
    by false true p q h more = rw (p) (rw (q) (more (rw (p, q) at h)))
    by false false p q h more = absurd (let k = (rw (p, q) at h) in cc)

fault_ok : (events found : List RecordedEvent) (fault : Option LineError)
    → events_or_fault found fault ≡ Ok events → (found ≡ events) × (fault ≡ None)
fault_ok events found None h = (let k = h in cc, refl)
fault_ok events found (Some e) h = absurd (let k = h in cc)

log_ok : (log : List ℕ) (events : List RecordedEvent) → log_judged log ≡ Ok events
    → log_events (lines log) ≡ Some events
log_ok log events h = (log_events-whole 1 (lines log) events).1 (fault_ok events _ _ h)

-- the metadata, the log and the outputs that are judged are read,
-- and what is neither named nor metadata isn't there
pub judged_read : (limit : ℕ) (manifest log : List ℕ) (m : PortableManifest) (es : List Entry)
    (p : RunParts)
    → bytes_form manifest_form manifest ≡ Some m
    → parts_judged limit m log es ≡ Ok p → first_unnamed (flat_map event_paths p.events) es ≡ None
    → parts_of manifest log es ≡ Some p
judged_read limit manifest log m es p is h none =
    let s = bind_ok _ _ p h in
    let r = bind_ok _ _ p s.2 in
    let t = bind_ok _ _ p r.2 in
    let c = bind_ok _ _ p t.2 in
    let o = bind_ok _ _ p c.2 in
    let e = bind_ok _ _ p o.2 in
    let n = bind_ok _ _ p e.2 in
    let made = same_ok _ p n.2 in
    let named : first_unnamed (flat_map event_paths e.0) es ≡ None =
    ap (λ (x : RunParts). first_unnamed (flat_map event_paths x.events) es) made ∙ none in
    rw (
      is,
      log_ok log e.0 e.1,
      utf8_ok cargo_metadata_path es limit c.0 c.1,
      metadata_ok test_list_form test_list_path es limit t.0 t.1,
      metadata_ok record_opts_form record_opts_path es limit o.0 o.1,
      metadata_ok recorded_scope_form build_scope_path es limit s.0 s.1,
      rerun_found limit (content_of es rerun_info_path) r.0 r.1,
      outputs_ok limit es (flat_map event_paths e.0) n.1,
      named_ok (flat_map event_paths e.0) es named,
    ) (ap Some made)
