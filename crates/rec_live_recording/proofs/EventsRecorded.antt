-- What a recorder has recorded after each of its calls, and why a call didn't record.
use Rattle.std.proofs.Common.{◌≡◌, ℕ, ◌+◌, ◌^◌, ◌≤◌, List, [], ◌∷◌, ◌++◌, length, false}
use Rattle.std.proofs.Common.{Option, Some, None, option_map, Result, Ok, Err, refl, sym, ap, subst}
use Rattle.std.proofs.Common.{◌∙◌, inl, inr, arith, append-nil, length-append, true≢false}
use Rattle.std.proofs.lemmas.Grind.{flat_map-append}
use Rattle.std.proofs.lemmas.List.{map-append}
use Rattle.std.specs.Bool.{⊤}
use Rattle.std.specs.List.{AllByRecursion, flat_map}
use Rattle.rec_container.specs.Causes.{Rose}
use Rattle.rec_container.specs.Container.{Entry, spell}
use Rattle.rec_container.specs.Writing.{Writing}
use Rattle.rec_format.specs.declared.head.SessionHead.{SessionHead}
use Rattle.rec_codec.specs.Event.{IsLogged, LiveEvent, event_line, event_text}
use Rattle.rec_store.proofs.Adding.{AreNew, entries_after, no_collision_among, spell-grows}
use Rattle.rec_store.proofs.Adding.{sum_refused, with_entries-new}
use Rattle.rec_store.proofs.Clashing.{clash_found, clash_none}
use Rattle.rec_store.proofs.Held.{with_entries-append}
use Rattle.rec_store.proofs.OutputLaws.{clash_outputs, clash_push, log_push, outputs_of_event}
use Rattle.rec_store.proofs.OutputLaws.{outputs_of_events, store_push, with_outputs}
use Rattle.rec_store.proofs.Storing.{sound_store}
use Rattle.rec_store.specs.Bundle.{events_recorded, outputs_stored, run_log, run_outputs, run_store}
use Rattle.rec_store.specs.Clashes.{clash, with_entries}
use Rattle.rec_store.specs.declared.error.RunStoreError.TheVariants.{
  Failed,
  NotLoadedOutput,
  NameCollision,
  CountOutOfRange,
  StoreWrite,
  RunLogWrite,
  OutOfMemory,
}
use Rattle.rec_store.specs.declared.error.RunStoreError.{RunStoreError}
use Rattle.rec_store.specs.EventOutputs.{event_entries, event_recorded}
use Rattle.rec_store.specs.Logging.{Logs, Unlogged}
use Rattle.rec_store.specs.Recording.{AddsEach, AddsUpTo, KeepsCounts, Recording, Stores, Unstored}
use Rattle.rec_store.specs.Recording.{has_failed}
use Rattle.rec_store.specs.Stopping.{Stops}
use Rattle.rec_store.specs.Store.{store_entries}
use Rattle.rec_errors.specs.declared.export_error.RecordExportError.TheVariants as refusals
use Rattle.rec_export.proofs.Recorded.{metadata_new}
use Rattle.rec_live_recording.proofs.Causes.{rose_after}
use Rattle.rec_live_recording.specs.declared.errors.LiveError.{LiveError}
use Rattle.rec_live_recording.specs.Faults.{store_fault}
use Rattle.rec_live_recording.specs.Recorder.{HasRecorded, RecordsMore, event_collision}
use Rattle.rec_live_recording.specs.Refusals.{ComesOf, IsLineRefused, Overflows}

-- ---- entries that weren't all added

module _ {S : Type 0} (taken : S → Option (List ℕ)) (faults : S → ℕ) where
  rose_write : (old new : Writing S) (es : List Entry)
      → AddsUpTo taken faults old new es StoreWrite → Rose (faults old.sink) (faults new.sink)
  rose_write old new [] h = absurd h
  rose_write old new (e ∷ es) (inl h) = h.1.0
  rose_write old new (e ∷ es) (inr h) =
      rose_after (faults old.sink) (faults h.0.sink) (faults new.sink) h.1.2
      (rose_write h.0 new es h.2)

  no_log_write : (old new : Writing S) (es : List Entry)
      → AddsUpTo taken faults old new es RunLogWrite → ⊥
  no_log_write old new [] h = h
  no_log_write old new (e ∷ es) (inl h) = h
  no_log_write old new (e ∷ es) (inr h) = no_log_write h.0 new es h.2

  pub added_later : (old new : Writing S) (es : List Entry) → AddsEach taken faults old new es
      → faults old.sink ≤ faults new.sink
  added_later old new [] h =
      let same = ap (λ (w : Writing S). faults w.sink) h in omega (arith, same)
  added_later old new (e ∷ es) h =
      let first = h.1.2 in
      let rest = added_later h.0 new es h.2 in
      omega (arith, first, rest)

-- ---- the metadata of a head

module _ {S L N : Type 0} (taken : S → Option (List ℕ)) (faults : S → ℕ)
    (number : N → List ℕ → ℕ) (head : SessionHead) (old new : Recording S L N)
    (sound : has_failed old ≡ false) (empty : old.store.entries ≡ []) where
  head_new : AreNew old.store.entries (store_entries head)
  head_new =
      subst (λ (es : List Entry). AreNew es (store_entries head)) (sym empty)
      (metadata_new head.build_scope head.rerun_info head.cargo_metadata head.test_list
      head.record_opts)

  head_stored : with_entries old.store.entries (store_entries head)
      ≡ run_store (number old.namer) old.max_output head []
  head_stored =
      with_entries-new old.store.entries (store_entries head) head_new
      ∙ ap (λ (es : List Entry). es ++ store_entries head) empty
      ∙ sym (append-nil (store_entries head))

  pub head_recorded : old.log_bytes ≡ 0 → Stores taken faults old new (store_entries head)
      → HasRecorded number old.namer old.max_output head [] new
  head_recorded unlogged stored = record {
    namer_kept = ap (λ (r : Recording S L N). r.namer) stored.kept;
    limit_kept = ap (λ (r : Recording S L N). r.max_output) stored.kept;
    stored =
        entries_after taken faults old.store new.store (store_entries head) stored.added
        ∙ head_stored;
    counted = ap (λ (r : Recording S L N). r.log_bytes) stored.kept ∙ unlogged;
    recorded = record { logged = tt; distinct = refl };
  }

  pub head_later : (log_faults : L → ℕ) → Stores taken faults old new (store_entries head)
      → KeepsCounts faults log_faults old new
  head_later log_faults stored = record {
    store = added_later taken faults old.store new.store (store_entries head) stored.added;
    log =
        let same = ap (λ (r : Recording S L N). log_faults r.log) stored.kept in
        omega (arith, same);
  }

  abbrev HeadCause : LiveError → Type 0
  HeadCause =
      ComesOf ⊥ (Rose (faults old.store.sink) (faults new.store.sink)) ⊥ ⊥
      (IsLineRefused None (Overflows (number old.namer) old.max_output head []))

  head_cause : (e : RunStoreError)
      → AddsUpTo taken faults old.store new.store (store_entries head) e
      → HeadCause (store_fault e)
  head_cause Failed h = inr (inr refl)
  head_cause NotLoadedOutput h = inr (inr refl)
  head_cause (NameCollision path) h =
      absurd (no_collision_among taken faults old.store new.store (store_entries head) path
      head_new h)
  head_cause CountOutOfRange h =
      inr (inl (
        refl,
        inr (subst (λ (es : List Entry). 2 ^ 64 ≤ length (spell es)) head_stored
            (sum_refused taken faults old.store new.store (store_entries head) h)),
      ))
  head_cause StoreWrite h = rose_write taken faults old.store new.store (store_entries head) h
  head_cause RunLogWrite h =
      absurd (no_log_write taken faults old.store new.store (store_entries head) h)
  head_cause OutOfMemory h = inr (inr refl)

  pub head_unrecorded : (e : RunStoreError)
      → Unstored taken faults old new (store_entries head) e → HeadCause (store_fault e)
  head_unrecorded e (inl h) = absurd (true≢false (sym h.1 ∙ sound))
  head_unrecorded e (inr h) = head_cause e h.2

-- ---- an event

logged_push : (number : List ℕ → ℕ) (m : ℕ) (events : List LiveEvent) (e : LiveEvent)
    → AllByRecursion IsLogged (events_recorded number m events)
    → IsLogged (event_recorded number m e)
    → AllByRecursion IsLogged (events_recorded number m (events ++ e ∷ []))
logged_push number m [] e h p = (p, tt)
logged_push number m (x ∷ xs) e h p = (h.0, logged_push number m xs e h.1 p)

module _ {S L N : Type 0} (taken : S → Option (List ℕ)) (faults : S → ℕ)
    (log_taken : L → Option (List ℕ)) (log_faults : L → ℕ) (number : N → List ℕ → ℕ)
    (head : SessionHead) (events : List LiveEvent) (event : LiveEvent) where
  module _ (old new : Recording S L N) (sound : has_failed old ≡ false)
      (has : HasRecorded number old.namer old.max_output head events old) where
    -- the metadata makes no clash
    same_clash : clash (outputs_stored (number old.namer) old.max_output events)
        (event_entries (number old.namer) old.max_output event)
        ≡ clash old.store.entries (event_entries (number old.namer) old.max_output event)
    same_clash =
        let fs = event_entries (number old.namer) old.max_output event in
        sym (clash_outputs head (outputs_stored (number old.namer) old.max_output events) fs
        (outputs_of_event (number old.namer) old.max_output event))
        ∙ ap (λ (es : List Entry). clash es fs) (sym has.stored)

    -- the outputs go after those of the events before
    outputs_after : with_entries old.store.entries
        (event_entries (number old.namer) old.max_output event)
        ≡ run_store (number old.namer) old.max_output head (events ++ event ∷ [])
    outputs_after =
        ap (λ (es : List Entry). with_entries es
        (event_entries (number old.namer) old.max_output event)) has.stored
        ∙ sym (store_push (number old.namer) old.max_output head events event)

    -- and the line after theirs
    line_after : old.log_bytes
        + length (event_line (event_recorded (number old.namer) old.max_output event))
        ≡ length (run_log (number old.namer) old.max_output (events ++ event ∷ []))
    line_after =
        let line = event_line (event_recorded (number old.namer) old.max_output event) in
        ap (λ n. n + length line) has.counted
        ∙ sym (length-append (run_log (number old.namer) old.max_output events) line)
        ∙ ap length (sym (log_push (number old.namer) old.max_output events event))

    no_clash : AddsEach taken faults old.store new.store
        (event_entries (number old.namer) old.max_output event)
        → clash (outputs_stored (number old.namer) old.max_output events)
        (event_entries (number old.namer) old.max_output event)
        ≡ None
    no_clash added =
        same_clash ∙ (clash_none taken faults old.store new.store
        (event_entries (number old.namer) old.max_output event) (sound_store old sound) added).0

    logged : Logs taken faults log_taken log_faults number old new event
        → IsLogged (event_recorded (number old.namer) old.max_output event)
        → HasRecorded number old.namer old.max_output head (events ++ event ∷ []) new
    logged logs is = record {
      namer_kept = ap (λ (r : Recording S L N). r.namer) logs.3.kept;
      limit_kept = ap (λ (r : Recording S L N). r.max_output) logs.3.kept;
      stored =
          entries_after taken faults old.store new.store
          (event_entries (number old.namer) old.max_output event) logs.2
          ∙ outputs_after;
      counted = ap (λ (r : Recording S L N). r.log_bytes) logs.3.kept ∙ line_after;
      recorded = record {
        logged =
            logged_push (number old.namer) old.max_output events event has.recorded.logged is;
        distinct =
            clash_push (number old.namer) old.max_output events event has.recorded.distinct
            (no_clash logs.2);
      };
    }

    -- an event was recorded
    was_recorded : Logs taken faults log_taken log_faults number old new event
        → IsLogged (event_recorded (number old.namer) old.max_output event)
        → KeepsCounts faults log_faults old new
        → RecordsMore faults log_faults number old.namer old.max_output head {T = ⊤} events
        (Some event) (event_collision (number old.namer) old.max_output events event) old new 0 0
        (Ok tt)
    was_recorded logs is later = (
      ap (option_map refusals.NameCollision) (no_clash logs.2),
      logged logs is,
      record { store = later.store; log = later.log; told = omega arith },
    )

    abbrev EventCause : LiveError → Type 0
    EventCause =
        ComesOf ⊥ (Rose (faults old.store.sink) (faults new.store.sink))
        (Rose (log_faults old.log) (log_faults new.log)) (Rose 0 0)
        (IsLineRefused (event_collision (number old.namer) old.max_output events event)
        (Overflows (number old.namer) old.max_output head (events ++ event ∷ [])))

    outputs_cause : (e : RunStoreError)
        → AddsUpTo taken faults old.store new.store
        (event_entries (number old.namer) old.max_output event) e
        → EventCause (store_fault e)
    outputs_cause Failed h = inr (inr refl)
    outputs_cause NotLoadedOutput h = inr (inr refl)
    outputs_cause (NameCollision path) h =
        inl (ap (option_map refusals.NameCollision) (same_clash
        ∙ clash_found taken faults old.store new.store
        (event_entries (number old.namer) old.max_output event) path (sound_store old sound)
        (inl h)))
    outputs_cause CountOutOfRange h =
        inr (inl (
          refl,
          inr (subst (λ (es : List Entry). 2 ^ 64 ≤ length (spell es)) outputs_after
              (sum_refused taken faults old.store new.store
              (event_entries (number old.namer) old.max_output event) h)),
        ))
    outputs_cause StoreWrite h =
        rose_write taken faults old.store new.store
        (event_entries (number old.namer) old.max_output event) h
    outputs_cause RunLogWrite h =
        absurd (no_log_write taken faults old.store new.store
        (event_entries (number old.namer) old.max_output event) h)
    outputs_cause OutOfMemory h = inr (inr refl)

    stops_cause : (e : RunStoreError)
        → Stops taken faults old.store new.store
        (event_entries (number old.namer) old.max_output event) e
        → EventCause (store_fault e)
    stops_cause e (inl h) = outputs_cause e h
    stops_cause e (inr h) =
        subst (λ (f : RunStoreError). EventCause (store_fault f)) (sym h.0) (inr (inr refl))

    -- an event wasn't recorded
    wasnt_recorded : (e : RunStoreError)
        → Unlogged taken faults log_taken log_faults number old new event e
        → EventCause (store_fault e)
    wasnt_recorded e (inl h) = absurd (true≢false (sym h.1 ∙ sound))
    wasnt_recorded e (inr (inl h)) =
        subst (λ (f : RunStoreError). EventCause (store_fault f)) (sym h.0) (inr (inr refl))
    wasnt_recorded e (inr (inr (inl h))) = stops_cause e h.3
    wasnt_recorded Failed (inr (inr (inr h))) = absurd h.3
    wasnt_recorded NotLoadedOutput (inr (inr (inr h))) = absurd h.3
    wasnt_recorded (NameCollision path) (inr (inr (inr h))) = absurd h.3
    wasnt_recorded CountOutOfRange (inr (inr (inr h))) =
        inr (inl (refl, inl (subst (λ n. 2 ^ 64 ≤ n) line_after h.3.1)))
    wasnt_recorded StoreWrite (inr (inr (inr h))) = absurd h.3
    wasnt_recorded RunLogWrite (inr (inr (inr h))) = h.3.0
    wasnt_recorded OutOfMemory (inr (inr (inr h))) = absurd h.3

  -- ---- by the namer and the limit that a recorder was made with

  module _ (namer : N) (m : ℕ) (old new : Recording S L N) (sound : has_failed old ≡ false)
      (has : HasRecorded number namer m head events old) where
    own : HasRecorded number old.namer old.max_output head events old
    own =
        subst (λ k. HasRecorded number old.namer k head events old) (sym has.limit_kept)
        (subst (λ (n : N). HasRecorded number n m head events old) (sym has.namer_kept) has)

    with_own : (r : Result ⊤ LiveError)
        → RecordsMore faults log_faults number old.namer old.max_output head events (Some event)
        (event_collision (number old.namer) old.max_output events event) old new 0 0 r
        → RecordsMore faults log_faults number namer m head events (Some event)
        (event_collision (number namer) m events event) old new 0 0 r
    with_own r h =
        subst (λ k. RecordsMore faults log_faults number namer k head events (Some event)
        (event_collision (number namer) k events event) old new 0 0 r) has.limit_kept
        (subst (λ (n : N). RecordsMore faults log_faults number n old.max_output head events
        (Some event) (event_collision (number n) old.max_output events event) old new 0 0 r)
        has.namer_kept h)

    pub event_recorded_after : Logs taken faults log_taken log_faults number old new event
        → IsLogged (event_recorded (number old.namer) old.max_output event)
        → KeepsCounts faults log_faults old new
        → RecordsMore faults log_faults number namer m head {T = ⊤} events (Some event)
        (event_collision (number namer) m events event) old new 0 0 (Ok tt)
    event_recorded_after logs is later =
        with_own (Ok tt) (was_recorded old new sound own logs is later)

    pub event_unrecorded : (e : RunStoreError)
        → Unlogged taken faults log_taken log_faults number old new event e
        → RecordsMore faults log_faults number namer m head {T = ⊤} events (Some event)
        (event_collision (number namer) m events event) old new 0 0 (Err (store_fault e))
    event_unrecorded e h =
        with_own (Err (store_fault e)) (wasnt_recorded old new sound own e h)

-- ---- what is too long for some events is too long for more

-- each event has a line
pub lines_counted : (number : List ℕ → ℕ) (m : ℕ) (events : List LiveEvent)
    → length events ≤ length (run_log number m events)
lines_counted number m [] = omega arith
lines_counted number m (e ∷ events) =
    let rest = lines_counted number m events in
    let line = event_line (event_recorded number m e) in
    let long : length (run_log number m (e ∷ events))
    ≡ length line + length (run_log number m events) =
    length-append line (run_log number m events) in
    let some : length line ≡ length (event_text (event_recorded number m e)) + 1 =
    length-append (event_text (event_recorded number m e)) (10 ∷ []) in
    omega (arith, rest, long, some)

-- more than 2^64 events have a log of 2^64 bytes and more
pub uncountable : (number : List ℕ → ℕ) (m : ℕ) (events : List LiveEvent) (event : LiveEvent)
    (count : ℕ) → count ≡ length events → 2 ^ 64 ≤ count + 1
    → 2 ^ 64 ≤ length (run_log number m (events ++ event ∷ []))
uncountable number m events event count is long =
    let lines = lines_counted number m (events ++ event ∷ []) in
    let more = length-append events (event ∷ []) in
    omega (arith, is, long, lines, more)

module _ (number : List ℕ → ℕ) (m : ℕ) (head : SessionHead) (events later : List LiveEvent) where
  log_then : run_log number m (events ++ later)
      ≡ run_log number m events ++ run_log number m later
  log_then =
      ap (flat_map event_line) (map-append (event_recorded number m) events later)
      ∙ flat_map-append event_line (events_recorded number m events)
      (events_recorded number m later)

  store_then : run_store number m head (events ++ later)
      ≡ with_entries (run_store number m head events) (run_outputs number m later)
  store_then =
      ap (λ (es : List Entry). store_entries head ++ with_entries [] es)
      (flat_map-append (event_entries number m) events later)
      ∙ ap (λ (es : List Entry). store_entries head ++ es)
      (with_entries-append [] (run_outputs number m events) (run_outputs number m later))
      ∙ sym (with_outputs head (outputs_stored number m events) (run_outputs number m later)
      (outputs_of_events number m later))

  pub overflows_then : Overflows number m head events → Overflows number m head (events ++ later)
  overflows_then (inl h) =
      let long : length (run_log number m (events ++ later))
      ≡ length (run_log number m events) + length (run_log number m later) =
      ap length log_then
      ∙ length-append (run_log number m events) (run_log number m later) in
      inl (omega (arith, h, long))
  overflows_then (inr h) =
      let long = spell-grows (run_store number m head events) (run_outputs number m later) in
      let same = ap (λ (es : List Entry). length (spell es)) store_then in
      inr (omega (arith, h, long, same))
