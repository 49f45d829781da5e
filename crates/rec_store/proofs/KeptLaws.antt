-- What is kept of outputs, by the names under which they were recorded.
use Rattle.std.proofs.Common.{◌≡◌, ℕ, List, [], ◌∷◌, ◌++◌, length, nat_le, Bool}
use Rattle.std.proofs.Common.{true, false, Option, Some, None, option_map, unwrap_or}
use Rattle.std.proofs.Common.{map, refl, sym, ap, ◌∙◌, if◌then◌else◌, ◌==◌}
use Rattle.std.proofs.lemmas.List.{map-append}
use Rattle.std.specs.List.{flat_map, AllByRecursion}
use Rattle.rec_container.specs.Container.{Entry, content_of}
use Rattle.rec_container.specs.Writing.{entry_named}
use Rattle.rec_events.specs.declared.output_names.OutputFileName.{OutputFileName}
use Rattle.rec_events.specs.declared.output_names.OutputKind.TheVariants as kind
use Rattle.rec_events.specs.declared.output_names.OutputKind.{OutputKind}
use Rattle.rec_events.specs.declared.outputs.ChildOutputDescription.TheVariants as live
use Rattle.rec_events.specs.declared.outputs.ChildOutputDescription.{ChildOutputDescription}
use Rattle.rec_events.specs.declared.outputs.RecordingSpec.{RecordingSpec}
use Rattle.rec_events.specs.declared.outputs.ZipStoreOutput.TheVariants.{Empty, Full, Truncated}
use Rattle.rec_codec.specs.Event.{LiveEvent}
use Rattle.rec_store.proofs.EventMapLaws.{of_event-with, event_twice}
use Rattle.rec_store.proofs.Held.{all_prefix, all_back}
use Rattle.rec_store.specs.Cut.{cut}
use Rattle.rec_store.specs.EventOutputs.{file_name, output_entries, captured_entries}
use Rattle.rec_store.specs.EventOutputs.{description_entries, event_entries, stored_as}
use Rattle.rec_store.specs.EventOutputs.{description_recorded, event_recorded}
use Rattle.rec_store.specs.Kept.{empty, full, truncated, split, combined, kept}
use Rattle.rec_store.specs.Kept.{outputs_kept, event_kept, bytes_under, resolved}
use Rattle.rec_store.specs.Kept.{outputs_resolved, event_resolved, output_paths}
use Rattle.rec_store.specs.Kept.{captured_paths, description_paths, event_paths, IsHeld}
use Rattle.rec_store.specs.OutputPaths.{output_path}

-- the names of entries
abbrev pub names : List Entry → List (List ℕ)
names es = map (λ (e : Entry). e.name) es

module _ (number : List ℕ → ℕ) (m : ℕ) where
  -- ---- the paths that an event names are those of its entries

  paths_unless : (z l : Bool) (f : OutputFileName) (content : List ℕ) (n : ℕ)
      → output_paths (if z then Empty else if l then Full f else Truncated f n)
      ≡ names (if z then [] else entry_named (output_path f) content ∷ [])
  paths_unless true l f content n = refl
  paths_unless false true f content n = refl
  paths_unless false false f content n = refl

  paths_of_output : (kind : OutputKind) (b : List ℕ)
      → output_paths (stored_as number m kind b) ≡ names (output_entries number m kind b)
  paths_of_output kind b =
      paths_unless (length b == 0) (nat_le (length b) m) (file_name number m kind b) (cut b m)
      (length b)

  paths_of_captured : (kind : OutputKind) (o : Option (List ℕ))
      → captured_paths (option_map (stored_as number m kind) o)
      ≡ names (captured_entries number m kind o)
  paths_of_captured kind None = refl
  paths_of_captured kind (Some b) = paths_of_output kind b

  paths_of_description : (o : ChildOutputDescription)
      → description_paths (description_recorded number m o) ≡ names (description_entries number m o)
  paths_of_description (live.Split out err) =
      ap (λ l. l ++ captured_paths (option_map (stored_as number m kind.Stderr) err))
      (paths_of_captured kind.Stdout out)
      ∙ ap (λ l. names (captured_entries number m kind.Stdout out) ++ l)
      (paths_of_captured kind.Stderr err)
      ∙ sym (map-append (λ (e : Entry). e.name) (captured_entries number m kind.Stdout out)
      (captured_entries number m kind.Stderr err))
  paths_of_description (live.Combined both) = paths_of_output kind.Combined both
  paths_of_description live.NotLoaded = refl

  pub paths_of_event : (e : LiveEvent)
      → event_paths (event_recorded number m e) ≡ names (event_entries number m e)
  paths_of_event e =
      of_event-with RecordingSpec (description_recorded number m) description_paths
      (description_entries number m) (λ (e : Entry). e.name) paths_of_description e

  -- the paths that events name are those of their entries
  pub paths_of_events : (events : List LiveEvent)
      → flat_map event_paths (map (event_recorded number m) events)
      ≡ names (flat_map (event_entries number m) events)
  paths_of_events [] = refl
  paths_of_events (e ∷ events) =
      ap (λ l. l ++ flat_map event_paths (map (event_recorded number m) events)) (paths_of_event e)
      ∙ ap (λ l. names (event_entries number m e) ++ l) (paths_of_events events)
      ∙ sym (map-append (λ (e : Entry). e.name) (event_entries number m e)
      (flat_map (event_entries number m) events))

  -- ---- what a store has under these names is what is kept

  uncut : (b : List ℕ) (s : Bool) (t : List ℕ) → s ≡ true → (if s then b else t) ≡ b
  uncut b true t h = refl
  uncut b false t h = absurd cc

  module _ (es : List Entry) where
    bytes_held : (f : OutputFileName) (content : List ℕ)
        → content_of es (output_path f) ≡ Some content → bytes_under es f ≡ content
    bytes_held f content h = ap (λ o. unwrap_or o []) h

    resolved_unless : (z l : Bool) (f : OutputFileName) (b content : List ℕ)
        → (l ≡ true → content ≡ b)
        → AllByRecursion (IsHeld es) (if z then [] else entry_named (output_path f) content ∷ [])
        → resolved es (if z then Empty else if l then Full f else Truncated f (length b))
        ≡ (if z then empty else if l then full b else truncated content (length b))
    resolved_unless true l f b content whole h = refl
    resolved_unless false true f b content whole h = ap full (bytes_held f content h.0 ∙ whole refl)
    resolved_unless false false f b content whole h =
        ap (λ c. truncated c (length b)) (bytes_held f content h.0)

    resolved_output : (kind : OutputKind) (b : List ℕ)
        → AllByRecursion (IsHeld es) (output_entries number m kind b)
        → resolved es (stored_as number m kind b) ≡ kept m b
    resolved_output kind b h =
        resolved_unless (length b == 0) (nat_le (length b) m) (file_name number m kind b) b
        (cut b m) (uncut b (nat_le (length b) m) _) h

    resolved_captured : (kind : OutputKind) (o : Option (List ℕ))
        → AllByRecursion (IsHeld es) (captured_entries number m kind o)
        → option_map (resolved es) (option_map (stored_as number m kind) o) ≡ option_map (kept m) o
    resolved_captured kind None h = refl
    resolved_captured kind (Some b) h = ap Some (resolved_output kind b h)

    resolved_description : (o : ChildOutputDescription)
        → AllByRecursion (IsHeld es) (description_entries number m o)
        → outputs_resolved es (description_recorded number m o) ≡ outputs_kept m o
    resolved_description (live.Split out err) h =
        ap
        (λ o. split o (option_map (resolved es) (option_map (stored_as number m kind.Stderr) err)))
        (resolved_captured kind.Stdout out (all_prefix (IsHeld es)
        (captured_entries number m kind.Stdout out) (captured_entries number m kind.Stderr err) h))
        ∙ ap (λ o. split (option_map (kept m) out) o)
        (resolved_captured kind.Stderr err (all_back (IsHeld es)
        (captured_entries number m kind.Stdout out) (captured_entries number m kind.Stderr err) h))
    resolved_description (live.Combined both) h = ap combined (resolved_output kind.Combined both h)
    resolved_description live.NotLoaded h = refl

    resolved_event : (e : LiveEvent) → AllByRecursion (IsHeld es) (event_entries number m e)
        → event_resolved es (event_recorded number m e) ≡ event_kept m e
    resolved_event e h =
        event_twice RecordingSpec RecordingSpec (description_recorded number m)
        (outputs_resolved es) (outputs_kept m) (description_entries number m) (IsHeld es)
        resolved_description e h

    -- where the store holds the entries of events, what they name there is what is kept of them
    pub resolved_events : (events : List LiveEvent)
        → AllByRecursion (IsHeld es) (flat_map (event_entries number m) events)
        → map (event_resolved es) (map (event_recorded number m) events) ≡ map (event_kept m) events
    resolved_events [] h = refl
    resolved_events (e ∷ events) h =
        ap (λ x. x ∷ map (event_resolved es) (map (event_recorded number m) events))
        (resolved_event e (all_prefix (IsHeld es) (event_entries number m e)
        (flat_map (event_entries number m) events) h))
        ∙ ap (λ l. event_kept m e ∷ l) (resolved_events events (all_back (IsHeld es)
        (event_entries number m e) (flat_map (event_entries number m) events) h))
