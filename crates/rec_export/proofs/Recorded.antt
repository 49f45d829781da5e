-- What a recorder over sinks in memory leaves.
use Rattle.std.proofs.Common.{◌≡◌, ℕ, ◌+◌, List, [], ◌∷◌, ◌++◌, length, Bool, true, false}
use Rattle.std.proofs.Common.{true≢false, ◌||◌, Option, Some, None, Result, Ok, Err, OnOk, refl}
use Rattle.std.proofs.Common.{sym, ap, subst, ◌∙◌, ◌⊎◌, inl, inr, append-nil, length-append}
use Rattle.std.specs.List.{AllByRecursion}
use Rattle.std.specs.Option.{option_map}
use Rattle.rec_container.specs.Container.{AreFrom}
use Rattle.rec_container.specs.Memory.{GrowingSinkState}
use Rattle.rec_events.specs.declared.recording.RecordOpts.{RecordOpts}
use Rattle.rec_events.specs.declared.recording.TestListSummary.{TestListSummary}
use Rattle.rec_format.specs.declared.head.SessionHead.{SessionHead}
use Rattle.rec_format.specs.declared.rerun.RerunInfo.{RerunInfo}
use Rattle.rec_format.specs.declared.scope.RecordedBuildScope.{RecordedBuildScope}
use Rattle.rec_codec.specs.Event.{LiveEvent, IsLogged, event_line}
use Rattle.rec_store.proofs.Adding.{AreNew, with_entries-new, entries_after, sound_after}
use Rattle.rec_store.proofs.Clashing.{clash_none, clash_found}
use Rattle.rec_store.proofs.OutputLaws.{clash_outputs, clash_push, log_push}
use Rattle.rec_store.proofs.OutputLaws.{outputs_of_event, outputs_push, with_outputs}
use Rattle.rec_store.specs.Bundle.{events_recorded, outputs_stored, run_log}
use Rattle.rec_store.specs.Clashes.{clash, with_entries}
use Rattle.rec_store.specs.declared.error.RunStoreError.TheVariants.{
  Failed,
  NotLoadedOutput,
  NameCollision,
  CountOutOfRange,
  StoreWrite,
  RunLogWrite,
  OutOfMemory,
}
use Rattle.rec_store.specs.declared.error.RunStoreError.{RunStoreError}
use Rattle.rec_store.specs.declared.sizes.StoreSizes.{StoreSizes}
use Rattle.rec_store.specs.Ending.{sizes_of, sizes_of_log, sizes_of_store}
use Rattle.rec_store.specs.EventOutputs.{event_entries, event_recorded}
use Rattle.rec_store.specs.Logging.{Logs, Unlogged}
use Rattle.rec_store.specs.Recording.{AddsEach, Recording, Stores, has_failed}
use Rattle.rec_store.specs.Store.{metadata_of, store_entries}
use Rattle.rec_errors.specs.declared.export_error.RecordExportError.TheVariants as refusals
use Rattle.rec_export.specs.declared.discarding.DiscardingSink.{DiscardingSink}
use Rattle.rec_export.specs.Recorded.{HasRecorded, IsRunOf}
use Rattle.rec_export.specs.RecorderFaults.{event_fault}

-- what holds in any case holds of an answer
pub always : {T E V : Type 0} (r : Result T E) → V → OnOk r V
always (Ok x) v = v
always (Err e) v = tt

-- the paths of metadata differ
pub metadata_new : (scope : RecordedBuildScope) (rerun : Option RerunInfo) (metadata : List ℕ)
    (list : TestListSummary) (opts : RecordOpts)
    → AreNew [] (metadata_of scope rerun metadata list opts)
metadata_new scope None metadata list opts = (refl, (refl, (refl, (refl, tt))))
metadata_new scope (Some info) metadata list opts = (refl, (refl, (refl, (refl, (refl, tt)))))

-- the bytes of a text in memory
abbrev pub text_taken : GrowingSinkState → Option (List ℕ)
text_taken b = Some b.bytes

-- what a sink tells that keeps nothing: no bytes, and no faults
abbrev pub unknown : DiscardingSink → Option (List ℕ)
unknown s = None

abbrev pub never : DiscardingSink → ℕ
never s = 0

-- a recorder that has written nothing
abbrev pub fresh : {S N : Type 0} → N → ℕ → S → GrowingSinkState → Recording S GrowingSinkState N
fresh namer limit store log = record {
  store = record { entries = []; sink = store; failed = false };
  log = log;
  log_failed = false;
  log_bytes = 0;
  events = 0;
  namer = namer;
  max_output = limit;
}

neither : (a b : Bool) → a ≡ false → b ≡ false → (a || b) ≡ false
neither a b p q = rw (p, q)

first_false : (a b : Bool) → (a || b) ≡ false → a ≡ false
first_false true b h = absurd (true≢false h)
first_false false b h = refl

second_false : (a b : Bool) → (a || b) ≡ false → b ≡ false
second_false true b h = absurd (true≢false h)
second_false false b h = h

logged_push : (number : List ℕ → ℕ) (m : ℕ) (events : List LiveEvent) (e : LiveEvent)
    → AllByRecursion IsLogged (events_recorded number m events)
    → IsLogged (event_recorded number m e)
    → AllByRecursion IsLogged (events_recorded number m (events ++ e ∷ []))
logged_push number m [] e h p = (p, tt)
logged_push number m (x ∷ xs) e h p = (h.0, logged_push number m xs e h.1 p)

module _ {S N : Type 0} (number : N → List ℕ → ℕ) (taken : S → Option (List ℕ)) (faults : S → ℕ)
    (head : SessionHead) where
  -- a fresh recorder that stored the metadata has recorded no events
  pub begun : (namer : N) (m : ℕ) (store : S) (log : GrowingSinkState)
      (now : Recording S GrowingSinkState N)
      → log.bytes ≡ []
      → Stores taken faults (fresh namer m store log) now (store_entries head)
      → HasRecorded number namer m head [] now
  begun namer m store log now log_empty stored =
      let start = fresh namer m store log in
      let new = metadata_new head.build_scope head.rerun_info head.cargo_metadata head.test_list
      head.record_opts in
      record {
        namer_kept = ap (λ (r : Recording S GrowingSinkState N). r.namer) stored.kept;
        limit_kept = ap (λ (r : Recording S GrowingSinkState N). r.max_output) stored.kept;
        sound =
            neither now.store.failed now.log_failed
            (sound_after taken faults start.store now.store (store_entries head) stored.added refl)
            (ap (λ (r : Recording S GrowingSinkState N). r.log_failed) stored.kept);
        entries_stored =
            entries_after taken faults start.store now.store (store_entries head) stored.added
            ∙ with_entries-new [] (store_entries head) new ∙ sym (append-nil (store_entries head));
        log_taken =
            ap (λ (r : Recording S GrowingSinkState N). r.log.bytes) stored.kept ∙ log_empty;
        log_counted = ap (λ (r : Recording S GrowingSinkState N). r.log_bytes) stored.kept;
        events_counted = ap (λ (r : Recording S GrowingSinkState N). r.events) stored.kept;
        recorded = record { logged = tt; distinct = refl };
      }

  -- what a recorder leaves that is taken apart
  pub taken_apart : (namer : N) (m : ℕ) (events : List LiveEvent)
      (now : Recording S GrowingSinkState N) (sizes : StoreSizes)
      → HasRecorded number namer m head events now
      → AreFrom [] now.store.entries → sizes ≡ sizes_of now
      → IsRunOf (number namer) m head events now.store.entries now.log.bytes
      (record { log = sizes.log; store = sizes.store })
  taken_apart namer m events now sizes has sound same = record {
    stored = has.entries_stored;
    sound = subst (AreFrom []) has.entries_stored sound;
    log_written = has.log_taken;
    sized =
        ap (λ (z : StoreSizes). record { log = z.log; store = z.store }) same
        ∙ ap
        (λ n. record { log = sizes_of_log n now.events; store = sizes_of_store now.store.entries })
        has.log_counted
        ∙ ap (λ n. record {
          log = sizes_of_log (length (run_log (number namer) m events)) n;
          store = sizes_of_store now.store.entries;
        }) has.events_counted
        ∙ ap (λ es. record {
          log = sizes_of_log (length (run_log (number namer) m events)) (length events);
          store = sizes_of_store es;
        }) has.entries_stored;
    recorded = has.recorded;
  }

-- a recorder that recorded an event has not failed
pub sound_logged : {S N : Type 0} (number : N → List ℕ → ℕ) (taken : S → Option (List ℕ))
    (faults : S → ℕ) (log_faults : GrowingSinkState → ℕ) (event : LiveEvent)
    (old new : Recording S GrowingSinkState N)
    → Logs taken faults text_taken log_faults number old new event → has_failed new ≡ false
sound_logged {S = S} {N = N} number taken faults log_faults event old new logs =
    let fs = event_entries (number old.namer) old.max_output event in
    neither new.store.failed new.log_failed (sound_after taken faults old.store new.store fs logs.2
    (first_false old.store.failed old.log_failed logs.0))
    (ap (λ (r : Recording S GrowingSinkState N). r.log_failed) logs.3.kept
    ∙ second_false old.store.failed old.log_failed logs.0)

module _ {S N : Type 0} (number : N → List ℕ → ℕ) (taken : S → Option (List ℕ)) (faults : S → ℕ)
    (log_faults : GrowingSinkState → ℕ) (head : SessionHead) (events : List LiveEvent)
    (event : LiveEvent) (old new : Recording S GrowingSinkState N)
    (has : HasRecorded number old.namer old.max_output head events old) where
  store_sound : old.store.failed ≡ false
  store_sound = first_false old.store.failed old.log_failed has.sound

  -- the metadata in prefix makes no clash
  same_clash : clash (outputs_stored (number old.namer) old.max_output events)
      (event_entries (number old.namer) old.max_output event)
      ≡ clash old.store.entries (event_entries (number old.namer) old.max_output event)
  same_clash =
      let fs = event_entries (number old.namer) old.max_output event in
      sym (clash_outputs head (outputs_stored (number old.namer) old.max_output events) fs
      (outputs_of_event (number old.namer) old.max_output event))
      ∙ ap (λ es. clash es fs) (sym has.entries_stored)

  -- an event whose outputs were stored clashes with none before
  pub no_clash : AddsEach taken faults old.store new.store
      (event_entries (number old.namer) old.max_output event)
      → clash (outputs_stored (number old.namer) old.max_output events)
      (event_entries (number old.namer) old.max_output event)
      ≡ None
  no_clash added = same_clash ∙ (clash_none taken faults old.store new.store
      (event_entries (number old.namer) old.max_output event) store_sound added).0

  -- the path that was refused is that of the first clash
  pub clash_at : (path : List ℕ)
      → Unlogged taken faults text_taken log_faults number old new event (NameCollision path)
      → clash (outputs_stored (number old.namer) old.max_output events)
      (event_entries (number old.namer) old.max_output event)
      ≡ Some path
  clash_at path (inl h) = absurd (let k = h.0 in cc)
  clash_at path (inr (inl h)) = absurd (let k = h.0 in cc)
  clash_at path (inr (inr (inl h))) =
      same_clash ∙ clash_found taken faults old.store new.store
      (event_entries (number old.namer) old.max_output event) path store_sound h.3
  clash_at path (inr (inr (inr h))) = absurd h.3

  -- what is refused of an event is a clash, or want of memory
  pub refused_event : (e : RunStoreError)
      → Unlogged taken faults text_taken log_faults number old new event e
      → (event_fault e ≡ refusals.OutOfMemory)
      ⊎ (option_map refusals.NameCollision (clash (outputs_stored (number old.namer) old.max_output
      events) (event_entries (number old.namer) old.max_output event)) ≡ Some (event_fault e))
  refused_event (NameCollision path) u =
      inr (ap (option_map refusals.NameCollision) (clash_at path u))
  refused_event Failed u = inl refl
  refused_event NotLoadedOutput u = inl refl
  refused_event CountOutOfRange u = inl refl
  refused_event StoreWrite u = inl refl
  refused_event RunLogWrite u = inl refl
  refused_event OutOfMemory u = inl refl

  -- the recorder has recorded one more event
  pub recorded_more : Logs taken faults text_taken log_faults number old new event
      → IsLogged (event_recorded (number old.namer) old.max_output event)
      → HasRecorded number old.namer old.max_output head (events ++ event ∷ []) new
  recorded_more logs logged =
      let number' = number old.namer in
      let m = old.max_output in
      let fs = event_entries number' m event in
      let outs = outputs_stored number' m events in
      let line = event_line (event_recorded number' m event) in
      let kept = logs.3.kept in
      record {
        namer_kept = ap (λ (r : Recording S GrowingSinkState N). r.namer) kept;
        limit_kept = ap (λ (r : Recording S GrowingSinkState N). r.max_output) kept;
        sound =
            neither new.store.failed new.log_failed
            (sound_after taken faults old.store new.store fs logs.2 store_sound)
            (ap (λ (r : Recording S GrowingSinkState N). r.log_failed) kept
            ∙ second_false old.store.failed old.log_failed has.sound);
        entries_stored =
            (clash_none taken faults old.store new.store fs store_sound logs.2).1
            ∙ ap (λ es. with_entries es fs) has.entries_stored
            ∙ with_outputs head outs fs (outputs_of_event number' m event)
            ∙ ap (λ l. store_entries head ++ l) (sym (outputs_push number' m events event));
        log_taken =
            logs.3.taken_line ∙ ap (λ l. l ++ line) has.log_taken
            ∙ sym (log_push number' m events event);
        log_counted =
            ap (λ (r : Recording S GrowingSinkState N). r.log_bytes) kept
            ∙ ap (λ n. n + length line) has.log_counted
            ∙ sym (length-append (run_log number' m events) line)
            ∙ ap length (sym (log_push number' m events event));
        events_counted =
            ap (λ (r : Recording S GrowingSinkState N). r.events) kept
            ∙ ap (λ n. n + 1) has.events_counted
            ∙ sym (length-append events (event ∷ []));
        recorded = record {
          logged = logged_push number' m events event has.recorded.logged logged;
          distinct = clash_push number' m events event has.recorded.distinct (no_clash logs.2);
        };
      }
