-- The outputs of events among the entries of a store.
use Rattle.std.proofs.Common.{◌≡◌, ℕ, List, [], ◌∷◌, ◌++◌, length, Bool, true, false, Option}
use Rattle.std.proofs.Common.{Some, None, refl, sym, ap, ◌∙◌, append-nil, if◌then◌else◌, ◌==◌}
use Rattle.std.proofs.lemmas.Grind.{flat_map-append}
use Rattle.std.proofs.lemmas.List.{map-append}
use Rattle.std.specs.List.{flat_map, AllByRecursion}
use Rattle.std.specs.Option.{option_or}
use Rattle.rec_container.specs.Container.{Entry}
use Rattle.rec_container.specs.Writing.{entry_named}
use Rattle.rec_events.specs.declared.output_names.OutputFileName.{OutputFileName}
use Rattle.rec_events.specs.declared.output_names.OutputKind.TheVariants as kind
use Rattle.rec_events.specs.declared.output_names.OutputKind.{OutputKind}
use Rattle.rec_events.specs.declared.outputs.ChildOutputDescription.TheVariants as live
use Rattle.rec_events.specs.declared.outputs.ChildOutputDescription.{ChildOutputDescription}
use Rattle.rec_format.specs.declared.head.SessionHead.{SessionHead}
use Rattle.rec_codec.specs.Event.{LiveEvent, event_line}
use Rattle.rec_store.proofs.EventMapLaws.{all_of_event}
use Rattle.rec_store.proofs.Held.{IsAbsent, all_append, all_weaker, all_with, with_entries-append}
use Rattle.rec_store.proofs.Held.{clash-append, with_entries-after, clash-after}
use Rattle.rec_store.proofs.OtherEntries.{IsOther, metadata_without, path_of_output}
use Rattle.rec_store.specs.Bundle.{events_recorded, run_log, run_outputs, outputs_stored, run_store}
use Rattle.rec_store.specs.Clashes.{with_entries, clash}
use Rattle.rec_store.specs.Cut.{cut}
use Rattle.rec_store.specs.EventOutputs.{file_name, output_entries, captured_entries}
use Rattle.rec_store.specs.EventOutputs.{description_entries, event_entries, event_recorded}
use Rattle.rec_store.specs.OutputPaths.{output_path}
use Rattle.rec_store.specs.RunParts.{is_metadata}
use Rattle.rec_store.specs.Store.{store_entries}

-- an entry that stands where an output does
abbrev pub IsOutputEntry : Entry → Type 0
IsOutputEntry e = (f : OutputFileName) × (e.name ≡ output_path f)

-- ---- the entries of events are outputs

module _ (number : List ℕ → ℕ) (m : ℕ) where
  output_unless : (z : Bool) (f : OutputFileName) (content : List ℕ)
      → AllByRecursion IsOutputEntry (if z then [] else entry_named (output_path f) content ∷ [])
  output_unless true f content = tt
  output_unless false f content = ((f, refl), tt)

  outputs_of_output : (kind : OutputKind) (b : List ℕ)
      → AllByRecursion IsOutputEntry (output_entries number m kind b)
  outputs_of_output kind b = output_unless (length b == 0) (file_name number m kind b) (cut b m)

  outputs_of_captured : (kind : OutputKind) (o : Option (List ℕ))
      → AllByRecursion IsOutputEntry (captured_entries number m kind o)
  outputs_of_captured kind None = tt
  outputs_of_captured kind (Some b) = outputs_of_output kind b

  outputs_of_description : (o : ChildOutputDescription)
      → AllByRecursion IsOutputEntry (description_entries number m o)
  outputs_of_description (live.Split out err) =
      all_append IsOutputEntry (captured_entries number m kind.Stdout out)
      (captured_entries number m kind.Stderr err) (outputs_of_captured kind.Stdout out)
      (outputs_of_captured kind.Stderr err)
  outputs_of_description (live.Combined both) = outputs_of_output kind.Combined both
  outputs_of_description live.NotLoaded = tt

  -- those of an event
  pub outputs_of_event : (e : LiveEvent) → AllByRecursion IsOutputEntry (event_entries number m e)
  outputs_of_event e =
      all_of_event IsOutputEntry (description_entries number m) outputs_of_description e

  -- those of several
  pub outputs_of_events : (events : List LiveEvent)
      → AllByRecursion IsOutputEntry (run_outputs number m events)
  outputs_of_events [] = tt
  outputs_of_events (e ∷ events) =
      all_append IsOutputEntry (event_entries number m e) (run_outputs number m events)
      (outputs_of_event e) (outputs_of_events events)

  -- and those that are stored
  pub stored_are_outputs : (events : List LiveEvent)
      → AllByRecursion IsOutputEntry (outputs_stored number m events)
  stored_are_outputs events =
      all_with IsOutputEntry [] (run_outputs number m events) tt (outputs_of_events events)

-- ---- outputs stand apart from metadata

output_is_other : (e : Entry) → IsOutputEntry e → IsOther e
output_is_other e is = ap is_metadata is.1 ∙ path_of_output is.0

-- they are no metadata
pub outputs_are_others : (fs : List Entry) → AllByRecursion IsOutputEntry fs
    → AllByRecursion IsOther fs
outputs_are_others fs h = all_weaker IsOutputEntry IsOther output_is_other fs h

absent : (head : SessionHead) (fs : List Entry) → AllByRecursion IsOutputEntry fs
    → AllByRecursion (IsAbsent (store_entries head)) fs
absent head fs h =
    all_weaker IsOther (IsAbsent (store_entries head))
    (λ f is. metadata_without head.build_scope head.rerun_info head.cargo_metadata head.test_list
    head.record_opts f.name is)
    fs (outputs_are_others fs h)

-- outputs go after the metadata, as if it were not there
pub with_outputs : (head : SessionHead) (outs fs : List Entry) → AllByRecursion IsOutputEntry fs
    → with_entries (store_entries head ++ outs) fs ≡ store_entries head ++ with_entries outs fs
with_outputs head outs fs h = with_entries-after (store_entries head) outs fs (absent head fs h)

-- and don't clash with it
pub clash_outputs : (head : SessionHead) (outs fs : List Entry) → AllByRecursion IsOutputEntry fs
    → clash (store_entries head ++ outs) fs ≡ clash outs fs
clash_outputs head outs fs h = clash-after (store_entries head) outs fs (absent head fs h)

-- ---- one more event

pub flat_map-push : {A B : Type 0} (f : A → List B) (xs : List A) (x : A)
    → flat_map f (xs ++ x ∷ []) ≡ flat_map f xs ++ f x
flat_map-push f xs x =
    flat_map-append f xs (x ∷ []) ∙ ap (λ l. flat_map f xs ++ l) (append-nil (f x))

module _ (number : List ℕ → ℕ) (m : ℕ) (events : List LiveEvent) (e : LiveEvent) where
  -- its outputs go after those before it
  pub outputs_push : outputs_stored number m (events ++ e ∷ [])
      ≡ with_entries (outputs_stored number m events) (event_entries number m e)
  outputs_push =
      ap (with_entries []) (flat_map-push (event_entries number m) events e)
      ∙ with_entries-append [] (run_outputs number m events) (event_entries number m e)

  -- nothing clashes where its outputs don't
  pub clash_push : clash [] (run_outputs number m events) ≡ None
      → clash (outputs_stored number m events) (event_entries number m e) ≡ None
      → clash [] (run_outputs number m (events ++ e ∷ [])) ≡ None
  clash_push before now =
      ap (clash []) (flat_map-push (event_entries number m) events e)
      ∙ clash-append [] (run_outputs number m events) (event_entries number m e)
      ∙ ap (λ o. option_or o (clash (outputs_stored number m events) (event_entries number m e)))
      before
      ∙ now

  -- its line goes after those of the log
  pub log_push : run_log number m (events ++ e ∷ [])
      ≡ run_log number m events ++ event_line (event_recorded number m e)
  log_push =
      ap (flat_map event_line) (map-append (event_recorded number m) events (e ∷ []))
      ∙ flat_map-push event_line (events_recorded number m events) (event_recorded number m e)

-- and so its outputs go after those in the store
pub store_push : (number : List ℕ → ℕ) (m : ℕ) (head : SessionHead) (events : List LiveEvent)
    (e : LiveEvent)
    → run_store number m head (events ++ e ∷ [])
    ≡ with_entries (run_store number m head events) (event_entries number m e)
store_push number m head events e =
    ap (λ l. store_entries head ++ l) (outputs_push number m events e)
    ∙ sym (with_outputs head (outputs_stored number m events) (event_entries number m e)
    (outputs_of_event number m e))
