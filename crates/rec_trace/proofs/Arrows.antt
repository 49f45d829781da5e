-- The arrows of a history that is not refused pair.
use Rattle.std.proofs.Common.{◌≡◌, ℕ, suc, Bool, true, false, cond, List, [], ◌∷◌, ◌++◌, map}
use Rattle.std.proofs.Common.{Option, Some, None, refl, sym, ◌∙◌, ap, subst, not, length}
use Rattle.std.proofs.lemmas.List.Concat.{flat_map-append}
use Rattle.std.proofs.lemmas.List.{append_assoc, append-nil}
use Rattle.std.specs.Option.{option_or}
use Rattle.std.specs.Prelude.{option_map, option_to_list}
use Rattle.semver.specs.Parse.{Parts}
use Rattle.rec_events.specs.declared.events.CoreEventKind.TheVariants.{
  RunStarted,
  StressSubRunStarted,
  SetupScriptStarted,
  SetupScriptSlow,
  TestStarted,
  TestSlow,
  TestRetryStarted,
  TestSkipped,
  RunBeginCancel,
  RunPaused,
  RunContinued,
  StressSubRunFinished,
  RunFinished,
}
use Rattle.rec_events.specs.declared.events.CoreEventKind.{CoreEventKind}
use Rattle.rec_events.specs.declared.events.OutputEventKind.TheVariants.{
  SetupScriptFinished,
  TestAttemptFailedWillRetry,
  TestFinished,
}
use Rattle.rec_events.specs.declared.events.TestEventKindSummary.TheVariants.{Core, Output}
use Rattle.rec_events.specs.declared.instances.OwnedTestInstanceId.{OwnedTestInstanceId}
use Rattle.rec_spans.proofs.Acceptance.{history-room, or-none}
use Rattle.rec_spans.proofs.Filters.{filter_comm, filter-put_no, filter-put_yes}
use Rattle.rec_spans.proofs.Keys.{key_eq-true}
use Rattle.rec_spans.proofs.Rows.{AllFindRoom, AtMostOne, FindsRoom}
use Rattle.rec_spans.specs.Acts.{act_of}
use Rattle.rec_spans.specs.declared.errors.ChromeTraceError.TheVariants.{MissingTestStart}
use Rattle.rec_spans.specs.declared.errors.ChromeTraceError.{ChromeTraceError}
use Rattle.rec_spans.specs.declared.settings.ChromeTraceGroupBy.{ChromeTraceGroupBy}
use Rattle.rec_spans.specs.declared.spans.Span.{Span}
use Rattle.rec_spans.specs.declared.spans.SpanKey.TheVariants as keys
use Rattle.rec_spans.specs.declared.spans.SpanKey.{SpanKey}
use Rattle.rec_spans.specs.History.{TraceState, state_after}
use Rattle.rec_spans.specs.Keys.{key_eq}
use Rattle.rec_spans.specs.Kinds.{history_after, trace_input}
use Rattle.rec_spans.specs.Past.Change.{Start, Stop, Pause, Resume, Other}
use Rattle.rec_spans.specs.Past.{Change, TraceInput, binaries, flow_after}
use Rattle.rec_spans.specs.Past.{next_flow, of_key, open_after, open_spans, without}
use Rattle.rec_spans.specs.Plain.{PlainEvent, PlainKind, PlainOutputKind}
use Rattle.rec_spans.specs.Refusals.{act_refusal, attempt_missing, events_refusal}
use Rattle.rec_spans.specs.Refusals.{history_refusal_after, instant_refusal, is_none_open}
use Rattle.rec_spans.specs.Refusals.{missing_refusal, next_refusal, number_refusal}
use Rattle.rec_trace.proofs.ArrowsDrawn.{ends-of-drawn}
use Rattle.rec_trace.proofs.ArrowsPaired.{Paired, paired-finish, paired-none}
use Rattle.rec_trace.proofs.ArrowsPaired.{paired-start, paired-without}
use Rattle.rec_trace.specs.Arrows.ArrowEnd.{Starts, Finishes}
use Rattle.rec_trace.specs.Arrows.{ArrowEnd, ArrowsPair, arrow_end, arrow_ends, event_ends}
use Rattle.rec_trace.specs.Histories.{drawn_after, known_after_event, trace_drawn}
use Rattle.rec_trace.specs.Known.{Known, arrow_after, core_arrow}
use Rattle.rec_trace.specs.Known.{nothing_known, of_test, output_arrow}
use Rattle.rec_trace.specs.Table.{drawn}

-- ---- open attempts

without-one : (k : SpanKey) (xs : List Span) → AtMostOne xs → AtMostOne (without k xs)
without-one k [] one = tt
without-one k (s ∷ []) one =
    elim (not (key_eq s.key k)) as (λ b. AtMostOne (cond b (s ∷ []) [])) [ true ↦ tt | false ↦ tt ]
without-one k (s ∷ x ∷ xs) one = absurd one

-- an event that finds room leaves at most one span of a key open
one-open_after : (k : SpanKey) (c : Change) (spans : List Span) → FindsRoom c spans
    → AtMostOne (of_key k spans) → AtMostOne (of_key k (open_after c spans))
one-open_after k (Start s) spans room one = go (key_eq s.key k) refl
  where
    go : (b : Bool) → key_eq s.key k ≡ b → AtMostOne (of_key k (open_after (Start s) spans))
    go true e =
        let free : of_key k spans ≡ [] =
        subst (λ v. of_key v spans ≡ []) (key_eq-true s.key k e) room.0 in
        subst AtMostOne (sym (filter-put_yes (λ (x : Span). key_eq x.key k) s spans e free)) tt
    go false e = subst AtMostOne (sym (filter-put_no (λ (x : Span). key_eq x.key k) s spans e)) one
one-open_after k (Stop j) spans room one =
    subst AtMostOne
    (sym (filter_comm (λ (s : Span). key_eq s.key k) (λ s. not (key_eq s.key j)) spans))
    (without-one j (of_key k spans) one)
one-open_after k Pause spans room one = one
one-open_after k Resume spans room one = one
one-open_after k Other spans room one = one

-- where the attempt of a test isn't missing, and at most one of it is open, one is open
one-attempt : (n : ℕ) (spans : List Span) (test : OwnedTestInstanceId)
    → AtMostOne (of_key (keys.Test test) spans) → attempt_missing n spans test ≡ None
    → (s : Span) × (of_key (keys.Test test) spans ≡ s ∷ [])
one-attempt n spans test =
    go (of_key (keys.Test test) spans) (MissingTestStart n test.binary_id test.test_name)
  where
    go : (found : List Span) (e : ChromeTraceError) → AtMostOne found
        → cond (is_none_open found) (Some e) None ≡ None → (s : Span) × (found ≡ s ∷ [])
    go [] e one none = absurd cc
    go (s ∷ []) e one none = (s, refl)
    go (s ∷ x ∷ more) e one none = absurd one

-- an event that is not refused doesn't end what isn't open
none-missing : (k : TraceState) (h : TraceInput) → next_refusal k h ≡ None
    → missing_refusal (suc k.number) k.spans h.act ≡ None
none-missing k h e =
    let n = suc k.number in
    let a = or-none (number_refusal n)
    (option_or (instant_refusal n h.at) (act_refusal n k h.act h.change)) e in
    let b = or-none (instant_refusal n h.at) (act_refusal n k h.act h.change) a.1 in
    (or-none (missing_refusal n k.spans h.act) _ b.1).0

-- ---- one event more

module _ (n : ℕ) (spans : List Span) (flow : ℕ) (arrow : OwnedTestInstanceId → Option ℕ)
    (ends : List ArrowEnd) (p : Paired flow arrow ends) where
  quiet : Paired flow arrow (ends ++ [])
  quiet = subst (Paired flow arrow) (sym (append-nil ends)) p

  core-paired : (kind : CoreEventKind)
      → Paired (flow_after (act_of (Core kind)) flow) (core_arrow kind arrow)
      (ends ++ event_ends spans flow arrow (Core kind))
  core-paired (RunStarted run_id profile_name cli_args stress_condition) = quiet
  core-paired (StressSubRunStarted progress) = quiet
  core-paired (SetupScriptStarted stress_index index total script_id program args no_capture) =
      quiet
  core-paired (SetupScriptSlow stress_index script_id program args elapsed will_terminate) = quiet
  core-paired (TestStarted stress_index test slot_assignment current_stats running command_line) =
      quiet
  core-paired (TestSlow stress_index test retry_data elapsed will_terminate) = quiet
  core-paired (TestRetryStarted stress_index test slot_assignment retry_data running command_line) =
      go (arrow test) refl
    where
      go : (pends : Option ℕ) → arrow test ≡ pends
          → Paired flow (of_test test None arrow)
          (ends ++ option_to_list (option_map (Finishes test) pends))
      go None is =
          subst (Paired flow (of_test test None arrow)) (sym (append-nil ends))
          (paired-without flow arrow ends p test)
      go (Some m) is = paired-finish flow arrow ends p test m is
  core-paired (TestSkipped stress_index test reason skipped) = quiet
  core-paired (RunBeginCancel scripts running reason) = quiet
  core-paired (RunPaused scripts running) = quiet
  core-paired (RunContinued scripts running) = quiet
  core-paired (StressSubRunFinished progress sub_elapsed sub_stats) = quiet
  core-paired (RunFinished run_id start_time elapsed run_stats outstanding) = quiet

  output-paired : (kind : PlainOutputKind) → ((k : SpanKey) → AtMostOne (of_key k spans))
      → missing_refusal n spans (act_of (Output kind)) ≡ None →
      Paired (flow_after (act_of (Output kind)) flow) (output_arrow flow kind arrow)
      (ends ++ event_ends spans flow arrow (Output kind))
  output-paired
      (SetupScriptFinished stress_index index total script_id program args no_capture status)
      one none =
      quiet
  output-paired (TestAttemptFailedWillRetry stress_index test status delay failure running)
      one none =
      let found = one-attempt n spans test (one (keys.Test test)) none in
      subst (λ (xs : List Span).
      Paired (suc flow) (of_test test (Some flow) arrow) (ends ++ map (λ s. Starts test flow) xs))
      (sym found.1) (paired-start flow arrow ends p test)
  output-paired (TestFinished stress_index test success failure store_success store_failure flaky
      statuses current_stats running) one none = quiet

  -- the ends so far and those of an event that is not refused
  kind-paired : (kind : PlainKind) → ((k : SpanKey) → AtMostOne (of_key k spans))
      → missing_refusal n spans (act_of kind) ≡ None →
      Paired (flow_after (act_of kind) flow) (arrow_after flow kind arrow)
      (ends ++ event_ends spans flow arrow kind)
  kind-paired (Core kind) one none = core-paired kind
  kind-paired (Output kind) one none = output-paired kind one none

-- ---- histories

pairs-after : (version : Parts) (g : ChromeTraceGroupBy) (past : List TraceInput) (known : Known)
    (ends : List ArrowEnd) (events : List PlainEvent)
    →
    AllFindRoom past (history_after g past events)
    → ((k : SpanKey) → AtMostOne (of_key k (open_spans past)))
    → history_refusal_after past (history_after g past events) ≡ None →
    Paired (next_flow past) known.arrow ends
    → ArrowsPair (ends ++ arrow_ends (drawn_after version g past known events))
pairs-after version g past known ends [] room one ok p =
    subst ArrowsPair (sym (append-nil ends)) p.pair
pairs-after version g past known ends (event ∷ events) room one ok p =
    let input = trace_input g (binaries past) event in
    let known' = known_after_event g past event known in
    let now = event_ends (open_spans past) (next_flow past) known.arrow event.kind in
    let rest = drawn_after version g (input ∷ past) known' events in
    let oks = or-none (next_refusal (state_after past) input)
    (history_refusal_after (input ∷ past) (history_after g (input ∷ past) events)) ok in
    let next : ArrowsPair ((ends ++ now) ++ arrow_ends rest) =
    pairs-after version g (input ∷ past) known' (ends ++ now) events room.1
    (λ k. one-open_after k input.change (open_spans past) room.0 (one k)) oks.1
    (kind-paired (suc (length past)) (open_spans past) (next_flow past)
    known.arrow ends p event.kind one (none-missing (state_after past) input oks.0)) in
    let drawn_is : arrow_ends (drawn version g (state_after past) known event ++ rest)
    ≡ now ++ arrow_ends rest =
    flat_map-append arrow_end (drawn version g (state_after past) known event) rest
    ∙ ap (λ (es : List ArrowEnd). es ++ arrow_ends rest)
    (ends-of-drawn version g (state_after past) known event) in
    subst ArrowsPair (append_assoc ends now (arrow_ends rest)
    ∙ ap (λ (es : List ArrowEnd). ends ++ es) (sym drawn_is))
    next

-- in what a history of events draws that is not refused, each number starts at most once, and each
-- finish has one start before it, for the same test, and no second finish
pub arrows-pair : (version : Parts) (g : ChromeTraceGroupBy) (events : List PlainEvent)
    → events_refusal g events ≡ None → ArrowsPair (arrow_ends (trace_drawn version g events))
arrows-pair version g events ok =
    pairs-after version g [] nothing_known [] events (history-room g events ok) (λ k. tt)
    ok paired-none
