-- What a recorder has accepted, whatever its calls came to.
use Rattle.std.proofs.Common.{◌≡◌, ℕ, List, [], ◌∷◌, ◌++◌, Bool, true, false, ◌||◌}
use Rattle.std.proofs.Common.{Option, Some, None, is_some, IsTrue, Result, Ok, Err}
use Rattle.std.proofs.Common.{OnOk, IfErr, refl, sym, ap, subst, ◌∙◌, inl, inr}
use Rattle.std.proofs.lemmas.List.{map-append}
use Rattle.std.specs.Bool.{⊤}
use Rattle.std.specs.Io.KnownBytes.{Appends}
use Rattle.std.specs.List.{AllByRecursion}
use Rattle.rec_container.proofs.Contents.{content_of-found}
use Rattle.rec_container.specs.Container.{Entry, content_of, IsName}
use Rattle.rec_container.specs.Taking.{TookPart}
use Rattle.rec_container.specs.Writing.{Writing}
use Rattle.rec_events.specs.declared.output_names.OutputFileName.{OutputFileName}
use Rattle.rec_codec.specs.Event.{LiveEvent, RecordedEvent, event_line, log_text, IsLogged}
use Rattle.rec_store.proofs.EntrySpellings.{path_is_name}
use Rattle.rec_store.proofs.Growing.{held_each, keeps_each, keeps_up_to, keeps_stopped}
use Rattle.rec_store.proofs.Held.{all_append, all_weaker}
use Rattle.rec_store.proofs.OutputLaws.{IsOutputEntry, flat_map-push, log_push, outputs_of_event}
use Rattle.rec_store.proofs.StoreTaken.{HasStored, IsStorable, appended, stored_each}
use Rattle.rec_store.proofs.StoreTaken.{stored_refused, stored_stopped, stored_up_to}
use Rattle.rec_store.proofs.Storing.{sound_store}
use Rattle.rec_store.specs.Bundle.{events_recorded, run_log}
use Rattle.rec_store.specs.declared.error.RunStoreError.TheVariants.{
  Failed,
  NotLoadedOutput,
  NameCollision,
  CountOutOfRange,
  StoreWrite,
  RunLogWrite,
  OutOfMemory,
}
use Rattle.rec_store.specs.declared.error.RunStoreError.{RunStoreError}
use Rattle.rec_store.specs.EventOutputs.{event_entries, event_recorded}
use Rattle.rec_store.specs.Kept.{HavePaths, IsHeld}
use Rattle.rec_store.specs.Logging.{LogsLoaded, Unappended}
use Rattle.rec_store.specs.OutputPaths.{output_path}
use Rattle.rec_store.specs.Recording.{Recording, has_failed, AddsEach}
use Rattle.rec_store.specs.Recording.{AddsUpTo, KeepsEntries, Stores, Unstored}
use Rattle.rec_store.specs.Saved.{is_readable, IsReadable, HasAccepted}
use Rattle.rec_store.specs.Saved.{KeepsAccepted, AcceptsEvent, TookLines}

-- ---- outputs are no metadata

output_readable : (f : OutputFileName) (content : List ℕ)
    → IsTrue (is_readable (output_path f) content)
unfolding output_path
output_readable f content = refl

output_storable : (e : Entry) → IsOutputEntry e → IsStorable e
output_storable e is = (
  subst IsName (sym is.1) (path_is_name is.0),
  subst (λ (path : List ℕ). IsTrue (is_readable path e.content)) (sym is.1)
      (output_readable is.0 e.content),
)

outputs_storable : (number : List ℕ → ℕ) (m : ℕ) (event : LiveEvent)
    → AllByRecursion IsStorable (event_entries number m event)
outputs_storable number m event =
    all_weaker IsOutputEntry IsStorable output_storable (event_entries number m event)
    (outputs_of_event number m event)

-- ---- what is held

still_held : {S : Type 0} (old new : Writing S) → KeepsEntries old new → (es : List Entry)
    → AllByRecursion (IsHeld old.entries) es → AllByRecursion (IsHeld new.entries) es
still_held old new grows es h =
    all_weaker (IsHeld old.entries) (IsHeld new.entries)
    (λ e is. ap (λ (l : List Entry). content_of l e.name) grows.1
    ∙ content_of-found old.entries grows.0 e.name e.content is)
    es h

some_stays : (es more : List Entry) (path : List ℕ) (held : Option (List ℕ))
    → content_of es path ≡ held → IsTrue (is_some held)
    → IsTrue (is_some (content_of (es ++ more) path))
some_stays es more path None is some = absurd (let k = some in cc)
some_stays es more path (Some content) is some =
    subst (λ o. IsTrue (is_some o)) (sym (content_of-found es more path content is)) refl

-- paths of entries stay paths of entries, whatever a call did
pub paths_stay : {S : Type 0} (old new : Writing S) (paths : List (List ℕ)) → KeepsEntries old new
    → HavePaths old.entries paths → HavePaths new.entries paths
paths_stay old new paths grows h =
    subst (λ (es : List Entry). HavePaths es paths) (sym grows.1)
    (all_weaker (λ path. IsTrue (is_some (content_of old.entries path)))
    (λ path. IsTrue (is_some (content_of (old.entries ++ grows.0) path)))
    (λ path. some_stays old.entries grows.0 path (content_of old.entries path) refl) paths h)

-- ---- a sink that took lines

took_lines : (failed : Bool) (events : List RecordedEvent) (now : Option (List ℕ)) → failed ≡ false
    → TookLines failed events now → now ≡ Some (log_text events)
took_lines true events now sound h = absurd (let k = sound in cc)
took_lines false events now sound h = h

from_lines : (failed : Bool) (events : List RecordedEvent) (now : Option (List ℕ)) → failed ≡ false
    → now ≡ Some (log_text events) → TookLines failed events now
from_lines true events now sound h = absurd (let k = sound in cc)
from_lines false events now sound h = h

second_false : (a b : Bool) → (a || b) ≡ false → b ≡ false
second_false true b h = absurd (let k = h in cc)
second_false false b h = h

-- ---- what calls leave

module _ {S L N : Type 0} (taken : S → Option (List ℕ)) (log_taken : L → Option (List ℕ))
    (number : N → List ℕ → ℕ) where
  stored_of : (events : List LiveEvent) (r : Recording S L N)
      → HasAccepted taken log_taken number events r → HasStored taken r.store
  stored_of events r h = record { took = h.store; distinct = h.distinct; readable = h.readable }

  -- where the store alone has changed
  with_store : (old : Recording S L N) (w : Writing S) (events : List LiveEvent) → HasStored taken w
      → KeepsEntries old.store w → HasAccepted taken log_taken number events old
      → HasAccepted taken log_taken number events (record old { store = w })
  with_store old w events stored grows h = record {
    store = stored.took;
    log = h.log;
    distinct = stored.distinct;
    readable = stored.readable;
    outputs = still_held old.store w grows _ h.outputs;
    logged = h.logged;
  }

  store_changed : (old new : Recording S L N) (events : List LiveEvent)
      → new ≡ record old { store = new.store } → HasStored taken new.store
      → KeepsEntries old.store new.store
      → HasAccepted taken log_taken number events old
      → HasAccepted taken log_taken number events new
  store_changed old new events kept stored grows h =
      subst (HasAccepted taken log_taken number events) (sym kept)
      (with_store old new.store events stored grows h)

  -- a recorder over empty sinks has accepted nothing
  pub none_accepted : (w : Writing S) (store : S) (log : L) (namer : N) (m : ℕ) → w.entries ≡ []
      → w.sink ≡ store → w.failed ≡ false → taken store ≡ Some [] → log_taken log ≡ Some []
      → HasAccepted taken log_taken number [] (record {
        store = w;
        log = log;
        log_failed = false;
        log_bytes = 0;
        events = 0;
        namer = namer;
        max_output = m;
      })
  none_accepted w store log namer m no_entries same sound store_empty log_empty =
      let is : w ≡ record { entries = []; sink = store; failed = false } =
      (λ i. record { entries = no_entries i; sink = same i; failed = sound i }) in
      subst (λ (v : Writing S). HasAccepted taken log_taken number [] (record {
        store = v;
        log = log;
        log_failed = false;
        log_bytes = 0;
        events = 0;
        namer = namer;
        max_output = m;
      })) (sym is)
      (record {
        store = store_empty;
        log = log_empty;
        distinct = tt;
        readable = tt;
        outputs = tt;
        logged = tt;
      })

  pub same_accepted : (old new : Recording S L N) → new ≡ old
      → KeepsAccepted taken log_taken number old new
  same_accepted old new same events h =
      subst (HasAccepted taken log_taken number events) (sym same) h

  -- and one more line stands in the log
  with_line : (old : Recording S L N) (w : Writing S) (l : L) (bytes count : ℕ)
      (events : List LiveEvent) (event : LiveEvent)
      → old.log_failed ≡ false → HasStored taken w → KeepsEntries old.store w
      → AllByRecursion (IsHeld w.entries) (event_entries (number old.namer) old.max_output event)
      → Appends (log_taken old.log) (log_taken l)
      (event_line (event_recorded (number old.namer) old.max_output event))
      → IsLogged (event_recorded (number old.namer) old.max_output event)
      → HasAccepted taken log_taken number events old
      → HasAccepted taken log_taken number (events ++ event ∷ [])
      (record old { store = w; log = l; log_bytes = bytes; events = count })
  with_line old w l bytes count events event sound stored grows held appends logged h =
      let f = number old.namer in
      let m = old.max_output in
      let line = event_line (event_recorded f m event) in
      let before =
      took_lines old.log_failed (events_recorded f m events) (log_taken old.log) sound h.log in
      let now = appended (run_log f m events) line (log_taken l)
      (subst (λ (known : Option (List ℕ)). Appends known (log_taken l) line) before appends) in
      record {
        store = stored.took;
        log =
            from_lines old.log_failed (events_recorded f m (events ++ event ∷ [])) (log_taken l)
            sound (now ∙ ap Some (sym (log_push f m events event)));
        distinct = stored.distinct;
        readable = stored.readable;
        outputs =
            subst (AllByRecursion (IsHeld w.entries))
            (sym (flat_map-push (event_entries f m) events event))
            (all_append (IsHeld w.entries) _ (event_entries f m event)
            (still_held old.store w grows _ h.outputs) held);
        logged =
            subst (AllByRecursion IsLogged)
            (sym (map-append (event_recorded f m) events (event ∷ [])))
            (all_append IsLogged (events_recorded f m events) (event_recorded f m event ∷ [])
            h.logged (logged, tt));
      }

  -- or a part of one
  with_part : (old : Recording S L N) (w : Writing S) (l : L) (events : List LiveEvent)
      (event : RecordedEvent)
      → old.log_failed ≡ false → HasStored taken w → KeepsEntries old.store w
      → TookPart (log_taken old.log) (log_taken l) (event_line event)
      → HasAccepted taken log_taken number events old
      → HasAccepted taken log_taken number events
      (record old { store = w; log = l; log_failed = true })
  with_part old w l events event sound stored grows part h =
      let before = took_lines old.log_failed
      (events_recorded (number old.namer) old.max_output events) (log_taken old.log) sound h.log in
      record {
        store = stored.took;
        log = (
          event,
          subst (λ (known : Option (List ℕ)). TookPart known (log_taken l) (event_line event))
              before part,
        );
        distinct = stored.distinct;
        readable = stored.readable;
        outputs = still_held old.store w grows _ h.outputs;
        logged = h.logged;
      }

module _ {S L N : Type 0} (taken : S → Option (List ℕ)) (faults : S → ℕ)
    (log_taken : L → Option (List ℕ)) (number : N → List ℕ → ℕ) where
  -- ---- metadata

  -- entries were stored, or were not
  pub entries_accepted : (old new : Recording S L N) (es : List Entry) (r : Result ⊤ RunStoreError)
      → old.store.failed ≡ false → AllByRecursion IsStorable es
      → new ≡ record old { store = new.store }
      → OnOk r (AddsEach taken faults old.store new.store es)
      → IfErr r (AddsUpTo taken faults old.store new.store es)
      → KeepsAccepted taken log_taken number old new
  entries_accepted old new es (Ok done) sound are kept ok err events h =
      store_changed taken log_taken number old new events kept (stored_each taken faults old.store
      new.store es (stored_of taken log_taken number events old h) sound are ok)
      (keeps_each taken faults old.store new.store es ok) h
  entries_accepted old new es (Err error) sound are kept ok err events h =
      store_changed taken log_taken number old new events kept (stored_up_to taken faults old.store
      new.store es error (stored_of taken log_taken number events old h) sound are err)
      (keeps_up_to taken faults old.store new.store es error err) h

  one_refused : (old new : Writing S) (e : Entry) (error : RunStoreError) → HasStored taken old
      → old.failed ≡ false → IsName e.name → AddsUpTo taken faults old new (e ∷ []) error
      → HasStored taken new
  one_refused old new e error stored sound is (inl h) =
      stored_refused taken faults old new e error stored sound is h
  one_refused old new e error stored sound is (inr h) = absurd h.2

  -- one entry was stored, which is read by its form then; or it was not
  pub entry_accepted : (old new : Recording S L N) (e : Entry) (r : Result ⊤ RunStoreError)
      → IsName e.name → OnOk r (IsReadable e) → OnOk r (Stores taken faults old new (e ∷ []))
      → IfErr r (Unstored taken faults old new (e ∷ []))
      → KeepsAccepted taken log_taken number old new
  entry_accepted old new e (Ok done) is read ok err events h =
      store_changed taken log_taken number old new events ok.kept
      (stored_each taken faults old.store new.store (e ∷ [])
      (stored_of taken log_taken number events old h) (sound_store old ok.sound) ((is, read), tt)
      ok.added)
      (keeps_each taken faults old.store new.store (e ∷ []) ok.added) h
  entry_accepted old new e (Err error) is read ok (inl err) events h =
      same_accepted taken log_taken number old new err.2 events h
  entry_accepted old new e (Err error) is read ok (inr err) events h =
      store_changed taken log_taken number old new events err.1
      (one_refused old.store new.store e error (stored_of taken log_taken number events old h)
      (sound_store old err.0) is err.2)
      (keeps_up_to taken faults old.store new.store (e ∷ []) error err.2) h

  -- ---- events

  module _ (log_faults : L → ℕ) (old new : Recording S L N) (event : LiveEvent)
      (sound : has_failed old ≡ false) (events : List LiveEvent)
      (h : HasAccepted taken log_taken number events old) where
    outputs_stored : AddsEach taken faults old.store new.store
        (event_entries (number old.namer) old.max_output event)
        → HasStored taken new.store
    outputs_stored added =
        stored_each taken faults old.store new.store
        (event_entries (number old.namer) old.max_output event)
        (stored_of taken log_taken number events old h) (sound_store old sound)
        (outputs_storable (number old.namer) old.max_output event) added

    line_refused : (error : RunStoreError)
        → AddsEach taken faults old.store new.store
        (event_entries (number old.namer) old.max_output event)
        → Unappended log_taken log_faults (record old { store = new.store }) new
        (event_line (event_recorded (number old.namer) old.max_output event)) error
        → HasAccepted taken log_taken number events new
    line_refused CountOutOfRange added refused =
        store_changed taken log_taken number old new events refused.0 (outputs_stored added)
        (keeps_each taken faults old.store new.store _ added) h
    line_refused RunLogWrite added refused =
        subst (HasAccepted taken log_taken number events) (sym refused.2)
        (with_part taken log_taken number old new.store new.log events
        (event_recorded (number old.namer) old.max_output event)
        (second_false old.store.failed old.log_failed sound) (outputs_stored added)
        (keeps_each taken faults old.store new.store _ added) refused.1 h)
    line_refused Failed added refused = absurd refused
    line_refused NotLoadedOutput added refused = absurd refused
    line_refused (NameCollision path) added refused = absurd refused
    line_refused StoreWrite added refused = absurd refused
    line_refused OutOfMemory added refused = absurd refused

  -- an event that is loaded was recorded where no sink had failed, or was not
  pub event_accepted : (log_faults : L → ℕ) (old new : Recording S L N) (event : LiveEvent)
      (r : Result ⊤ RunStoreError)
      → has_failed old ≡ false
      → LogsLoaded taken faults log_taken log_faults number old new event r
      → AcceptsEvent taken log_taken number old new event r
  event_accepted log_faults old new event (Ok done) sound logs events h =
      subst (HasAccepted taken log_taken number (events ++ event ∷ [])) (sym logs.1.kept)
      (with_line taken log_taken number old new.store new.log _ _ events event
      (second_false old.store.failed old.log_failed sound)
      (outputs_stored log_faults old new event sound events h logs.0)
      (keeps_each taken faults old.store new.store _ logs.0)
      (held_each taken faults old.store new.store _ (sound_store old sound) logs.0)
      logs.1.taken_line logs.2 h)
  event_accepted log_faults old new event (Err error) sound (inl stopped) events h =
      store_changed taken log_taken number old new events stopped.0
      (stored_stopped taken faults old.store new.store
      (event_entries (number old.namer) old.max_output event) error
      (stored_of taken log_taken number events old h) (sound_store old sound)
      (outputs_storable (number old.namer) old.max_output event) stopped.1)
      (keeps_stopped taken faults old.store new.store _ error stopped.1) h
  event_accepted log_faults old new event (Err error) sound (inr refused) events h =
      line_refused log_faults old new event sound events h error refused.0 refused.1
