-- An event that is refused has a cause of its own: it is no want of memory,
-- and no history that can't be read.
use Rattle.std.proofs.Common.{◌≡◌, ◌^◌, ℕ, suc, Bool, true, false, List, Option, None, Some, subst}
use Rattle.std.specs.Bool.{⊤}
use Rattle.std.specs.Option.{option_or}
use Rattle.std.specs.Prelude.{if◌then◌else◌, nat_lt}
use Rattle.rec_forms.specs.Shape.{fits}
use Rattle.rec_spans.specs.Acts.Act.{SubRunEnds, ScriptStarts, ScriptEnds}
use Rattle.rec_spans.specs.Acts.Act.{ScriptIsSlow, AttemptFails, TestEnds, TestIsSlow}
use Rattle.rec_spans.specs.Acts.{Act}
use Rattle.rec_spans.specs.declared.errors.ChromeTraceError.TheVariants.{
  CountOutOfRange,
  MissingScriptStart,
  MissingStressSubRunStart,
  MissingTestStart,
  RowOutOfRange,
  SpanAlreadyOpen,
  TimestampOutOfRange,
}
use Rattle.rec_spans.specs.declared.errors.ChromeTraceError.{ChromeTraceError}
use Rattle.rec_spans.specs.declared.spans.Place.TheVariants as places
use Rattle.rec_spans.specs.declared.spans.Place.{Place}
use Rattle.rec_spans.specs.declared.spans.Span.{Span}
use Rattle.rec_spans.specs.declared.spans.SpanKey.TheVariants as keys
use Rattle.rec_spans.specs.History.{TraceState}
use Rattle.rec_spans.specs.Past.Change.{Start, Stop, Pause, Resume, Other}
use Rattle.rec_spans.specs.Past.{Change, TraceInput, in_place, of_key}
use Rattle.rec_spans.specs.Places.{number}
use Rattle.rec_spans.specs.Refusals.{act_refusal, busy, failures_refusal, flow_refusal}
use Rattle.rec_spans.specs.Refusals.{instant_refusal, is_none_open, missing_refusal}
use Rattle.rec_spans.specs.Refusals.{next_refusal, number_refusal, open_refusal, row_refusal}
use Rattle.rec_spans.specs.Refusals.{scripts_in, scripts_refusal, slot_refusal, under}
use Rattle.rec_trace.specs.Building.{IsOfEvent}

-- such a cause, if any
abbrev Clean : Option ChromeTraceError → Type 0
Clean None = ⊤
Clean (Some e) = IsOfEvent e

either : (a b : Option ChromeTraceError) → Clean a → Clean b → Clean (option_or a b)
either None b h k = k
either (Some e) b h k = h

choice : (b : Bool) (x y : Option ChromeTraceError) → Clean x → Clean y → Clean (if b then x else y)
choice true x y h k = h
choice false x y h k = k

module _ (n : ℕ) where
  missing : (spans : List Span) (act : Act) → Clean (missing_refusal n spans act)
  missing spans (AttemptFails test) =
      choice (is_none_open (of_key (keys.Test test) spans))
      (Some (MissingTestStart n test.binary_id test.test_name)) None tt tt
  missing spans (TestEnds test failures) =
      choice (is_none_open (of_key (keys.Test test) spans))
      (Some (MissingTestStart n test.binary_id test.test_name)) None tt tt
  missing spans (TestIsSlow test) =
      choice (is_none_open (of_key (keys.Test test) spans))
      (Some (MissingTestStart n test.binary_id test.test_name)) None tt tt
  missing spans (ScriptEnds index id) =
      choice (is_none_open (under id (of_key (keys.Script index) spans)))
      (Some (MissingScriptStart n id)) None tt tt
  missing spans (ScriptIsSlow id) =
      choice (is_none_open (under id (scripts_in spans))) (Some (MissingScriptStart n id))
      None tt tt
  missing spans SubRunEnds =
      choice (is_none_open (of_key keys.SubRun spans)) (Some (MissingStressSubRunStart n))
      None tt tt
  missing spans _ = tt

  opens : (spans : List Span) (change : Change) → Clean (open_refusal n spans change)
  opens spans (Start s) =
      choice (is_none_open (of_key s.key spans)) None (Some (SpanAlreadyOpen n s.key)) tt tt
  opens spans (Stop k) = tt
  opens spans Pause = tt
  opens spans Resume = tt
  opens spans Other = tt

  held : (p : Place) → Clean (busy n p)
  held places.Run = tt
  held places.SubRun = tt
  held (places.Slot slot) = tt
  held (places.Script index) = tt

  slots : (spans : List Span) (change : Change) → Clean (slot_refusal n spans change)
  slots spans (Start s) =
      choice (is_none_open (in_place s.place spans)) None (busy n s.place) tt (held s.place)
  slots spans (Stop k) = tt
  slots spans Pause = tt
  slots spans Resume = tt
  slots spans Other = tt

  rows : (change : Change) → Clean (row_refusal n change)
  rows (Start s) =
      either (if nat_lt s.row.tid (2 ^ 64) then None else Some (RowOutOfRange n (number s.place)))
      (if nat_lt s.row.pid (2 ^ 64) then None else Some (RowOutOfRange n 18446744073709551615))
      (choice (nat_lt s.row.tid (2 ^ 64)) None (Some (RowOutOfRange n (number s.place))) tt tt)
      (choice (nat_lt s.row.pid (2 ^ 64)) None (Some (RowOutOfRange n 18446744073709551615)) tt tt)
  rows (Stop k) = tt
  rows Pause = tt
  rows Resume = tt
  rows Other = tt

  flows : (act : Act) (next : ℕ) → Clean (flow_refusal n act next)
  flows (AttemptFails test) next =
      choice (nat_lt next (2 ^ 64)) None (Some (RowOutOfRange n 18446744073709551615)) tt tt
  flows _ next = tt

  scripts : (act : Act) (before : ℕ) → Clean (scripts_refusal n act before)
  scripts (ScriptStarts index id) before =
      choice (nat_lt (suc before) (2 ^ 64)) None (Some (CountOutOfRange n)) tt tt
  scripts _ before = tt

  failures : (act : Act) → Clean (failures_refusal n act)
  failures (TestEnds test count) =
      choice (nat_lt count (2 ^ 64)) None (Some (CountOutOfRange n)) tt tt
  failures _ = tt

  acts : (state : TraceState) (act : Act) (change : Change) → Clean (act_refusal n state act change)
  acts state act change =
      either (missing_refusal n state.spans act) _ (missing state.spans act)
      (either (open_refusal n state.spans change) _ (opens state.spans change)
      (either (slot_refusal n state.spans change) _ (slots state.spans change)
      (either (row_refusal n change) _ (rows change)
      (either (flow_refusal n act state.next_flow) _ (flows act state.next_flow)
      (either (scripts_refusal n act state.scripts) (failures_refusal n act)
      (scripts act state.scripts) (failures act))))))

next : (state : TraceState) (input : TraceInput) → Clean (next_refusal state input)
next state input =
    let n = suc state.number in
    either (number_refusal n) _
    (choice (nat_lt n (2 ^ 64)) None (Some (CountOutOfRange 18446744073709551615)) tt tt)
    (either (instant_refusal n input.at) (act_refusal n state input.act input.change)
    (choice (fits (2 ^ 63) input.at) None (Some (TimestampOutOfRange n)) tt tt)
    (acts n state input.act input.change))

-- the cause of an event is one of its own
pub of-event : (state : TraceState) (input : TraceInput) (e : ChromeTraceError)
    → next_refusal state input ≡ Some e → IsOfEvent e
of-event state input e is = subst Clean is (next state input)
