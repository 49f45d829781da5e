-- The outputs that the store of a run is read as.
use Rattle.std.proofs.Common.{◌≡◌, ℕ, List, [], ◌∷◌, ◌++◌, Bool, true, false, Option}
use Rattle.std.proofs.Common.{Some, None, is_some, not, ◌&&◌, ◌||◌, refl, ap, subst, ◌∙◌}
use Rattle.std.proofs.lemmas.Slice.Eq.{bytes_eq-Decides}
use Rattle.std.specs.List.{filter, flat_map, AllByRecursion, list_any, list_all}
use Rattle.std.specs.Str.{bytes_eq}
use Rattle.rec_container.specs.Container.{Entry, content_of}
use Rattle.rec_forms.specs.Shape.{only}
use Rattle.rec_format.specs.declared.head.SessionHead.{SessionHead}
use Rattle.rec_codec.specs.Event.{LiveEvent, RecordedEvent}
use Rattle.rec_store.proofs.Held.{all_held, all_weaker, all_with}
use Rattle.rec_store.proofs.KeptLaws.{names, paths_of_events}
use Rattle.rec_store.proofs.OtherEntries.{others_after}
use Rattle.rec_store.proofs.OutputLaws.{outputs_of_events, outputs_are_others}
use Rattle.rec_store.proofs.OutputLaws.{stored_are_outputs, with_outputs, clash_outputs}
use Rattle.rec_store.specs.Bundle.{events_recorded, run_outputs, outputs_stored, run_store}
use Rattle.rec_store.specs.Clashes.{clash}
use Rattle.rec_store.specs.Kept.{event_paths, IsHeld}
use Rattle.rec_store.specs.RunParts.{is_metadata, outputs_of}
use Rattle.rec_store.specs.Store.{store_entries}

abbrev IsAmong : List (List ℕ) → Entry → Type 0
IsAmong paths e = list_any (λ p. bytes_eq e.name p) paths ≡ true

or_true : (b c : Bool) → c ≡ true → (b || c) ≡ true
or_true true c h = refl
or_true false c h = h

entries_among : (fs : List Entry) → AllByRecursion (IsAmong (names fs)) fs
entries_among [] = tt
entries_among (f ∷ fs) = (
  ap (λ b. b || list_any (λ p. bytes_eq f.name p) (names fs))
      ((bytes_eq-Decides f.name f.name).1 refl),
  all_weaker (IsAmong (names fs)) (IsAmong (names (f ∷ fs)))
      (λ e h. or_true (bytes_eq e.name f.name) (list_any (λ p. bytes_eq e.name p) (names fs)) h) fs
      (entries_among fs),
)

all_among : (paths : List (List ℕ)) (es : List Entry) → AllByRecursion (IsAmong paths) es
    → list_all (λ (e : Entry). list_any (λ p. bytes_eq e.name p) paths) es ≡ true
all_among paths [] h = refl
all_among paths (e ∷ es) h =
    ap (λ b. b && list_all (λ (d : Entry). list_any (λ p. bytes_eq d.name p) paths) es) h.0
    ∙ all_among paths es h.1

all_found : (es fs : List Entry) → AllByRecursion (IsHeld es) fs
    → list_all (λ p. is_some (content_of es p)) (names fs) ≡ true
all_found es [] h = refl
all_found es (f ∷ fs) h =
    ap (λ o. is_some o && list_all (λ p. is_some (content_of es p)) (names fs)) h.0
    ∙ all_found es fs h.1

abbrev chosen : List (List ℕ) → List Entry → List Entry → Option (List Entry)
chosen paths es others =
    only (list_all (λ p. is_some (content_of es p)) paths
    && list_all (λ (e : Entry). list_any (λ p. bytes_eq e.name p) paths) others)
    others

-- entries that are held, and named by the events, are the outputs
outputs_among : (events : List RecordedEvent) (es outs fs : List Entry)
    → flat_map event_paths events ≡ names fs
    → filter (λ (e : Entry). not (is_metadata e.name)) es ≡ outs
    → AllByRecursion (IsHeld es) fs → AllByRecursion (IsAmong (names fs)) outs
    → outputs_of events es ≡ Some outs
outputs_among events es outs fs paths others held among =
    ap (λ l. chosen l es (filter (λ (e : Entry). not (is_metadata e.name)) es)) paths
    ∙ ap (chosen (names fs) es) others
    ∙ ap (λ b.
    only (b && list_all (λ (e : Entry). list_any (λ p. bytes_eq e.name p) (names fs)) outs) outs)
    (all_found es fs held)
    ∙ ap (λ b. only b outs) (all_among (names fs) outs among)

module _ (number : List ℕ → ℕ) (m : ℕ) (head : SessionHead) (events : List LiveEvent)
    (agree : clash [] (run_outputs number m events) ≡ None) where
  -- the store of a run holds each output
  pub run_held : AllByRecursion (IsHeld (run_store number m head events))
      (run_outputs number m events)
  run_held =
      let outs = run_outputs number m events in
      let are = outputs_of_events number m events in
      subst (λ (es : List Entry). AllByRecursion (IsHeld es) outs) (with_outputs head [] outs are)
      (all_held (store_entries head ++ []) outs (clash_outputs head [] outs are ∙ agree))

  -- and they are what its outputs are read as
  pub run_outputs_read : outputs_of (events_recorded number m events)
      (run_store number m head events)
      ≡ Some (outputs_stored number m events)
  run_outputs_read =
      outputs_among (events_recorded number m events) (run_store number m head events)
      (outputs_stored number m events) (run_outputs number m events)
      (paths_of_events number m events)
      (others_after head.build_scope head.rerun_info head.cargo_metadata head.test_list
      head.record_opts (outputs_stored number m events)
      (outputs_are_others (outputs_stored number m events) (stored_are_outputs number m events)))
      run_held (all_with (IsAmong (names (run_outputs number m events))) []
      (run_outputs number m events) tt (entries_among (run_outputs number m events)))
