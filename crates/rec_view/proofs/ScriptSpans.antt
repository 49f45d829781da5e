-- A setup script lasts as its span does.
use Rattle.std.proofs.Common.{◌≡◌, ◌<◌, ℕ, zero, suc, false, List, [], ◌∷◌, length, map}
use Rattle.std.proofs.Common.{slice_get, refl, ap, sym, ◌∙◌, arith, subst, Some}
use Rattle.std.proofs.lemmas.List.{length-map}
use Rattle.std.specs.Option.{option_map_or, unwrap_or}
use Rattle.rec_events.specs.declared.events.TestEventSummary.{TestEventSummary}
use Rattle.rec_spans.specs.Acts.Act.{RunStarts, RunEnds, SubRunStarts, SubRunEnds, ScriptStarts}
use Rattle.rec_spans.specs.Acts.Act.{ScriptEnds, ScriptIsSlow, AttemptStarts, AttemptFails}
use Rattle.rec_spans.specs.Acts.Act.{TestEnds, TestIsSlow, Pauses, Continues, Cancels}
use Rattle.rec_spans.specs.Acts.Act.{Silent as NoSpan}
use Rattle.rec_spans.specs.Acts.{Act, act_of}
use Rattle.rec_spans.specs.declared.settings.ChromeTraceGroupBy.{ChromeTraceGroupBy}
use Rattle.rec_spans.specs.declared.spans.Span.{Span}
use Rattle.rec_spans.specs.declared.spans.SpanKey.TheVariants.{Script}
use Rattle.rec_spans.specs.Kinds.{change_of, history, history_after, script_span, trace_input}
use Rattle.rec_spans.specs.Past.Change.{Start}
use Rattle.rec_spans.specs.Past.{Change, TraceInput, binaries}
use Rattle.rec_spans.specs.Plain.{plain, plain_kind}
use Rattle.rec_spans.specs.Positions.{change_at}
use Rattle.rec_view.proofs.GapRuns.{history-many}
use Rattle.rec_view.proofs.SpanEnds.{span_lasts}
use Rattle.rec_view.specs.declared.scripts.ScriptAct.TheVariants.{Starts}
use Rattle.rec_view.specs.declared.scripts.ScriptAct.{ScriptAct}
use Rattle.rec_view.specs.declared.scripts.ScriptView.{ScriptView}
use Rattle.rec_view.specs.Ends.{at}
use Rattle.rec_view.specs.Extents.{HasSpan, cuts_key}
use Rattle.rec_view.specs.Scripts.{IsScript, cuts_script, script_act, script_acts}

module _ (g : ChromeTraceGroupBy) (seen : List (List ℕ × ℕ)) (index : ℕ) where
  act_cuts : (act : Act)
      → cuts_key (Script index) (change_of g seen act) ≡ cuts_script index (script_act act)
  act_cuts RunStarts = refl
  act_cuts RunEnds = refl
  act_cuts SubRunStarts = refl
  act_cuts SubRunEnds = refl
  act_cuts (ScriptStarts i id) = refl
  act_cuts (ScriptEnds i id) = refl
  act_cuts (ScriptIsSlow id) = refl
  act_cuts (AttemptStarts test slot) = refl
  act_cuts (AttemptFails test) = refl
  act_cuts (TestEnds test failures) = refl
  act_cuts (TestIsSlow test) = refl
  act_cuts (Pauses scripts) = refl
  act_cuts (Continues scripts) = refl
  act_cuts (Cancels scripts) = refl
  act_cuts NoSpan = refl

  -- what starts where a script of the index does
  abbrev StartsSpan : Change → Type 0
  StartsSpan c = (s : Span) × (s.key ≡ Script index) × (c ≡ Start s)

  act_starts : (act : Act) → script_act act ≡ Starts index → StartsSpan (change_of g seen act)
  act_starts RunStarts h = cc
  act_starts RunEnds h = cc
  act_starts SubRunStarts h = cc
  act_starts SubRunEnds h = cc
  act_starts (ScriptStarts i id) h = (script_span i id, ap Script (same h), refl)
    where
      same : script_act (ScriptStarts i id) ≡ Starts index → i ≡ index
      same e = cc
  act_starts (ScriptEnds i id) h = cc
  act_starts (ScriptIsSlow id) h = cc
  act_starts (AttemptStarts test slot) h = cc
  act_starts (AttemptFails test) h = cc
  act_starts (TestEnds test failures) h = cc
  act_starts (TestIsSlow test) h = cc
  act_starts (Pauses scripts) h = cc
  act_starts (Continues scripts) h = cc
  act_starts (Cancels scripts) h = cc
  act_starts NoSpan h = cc

module _ {S O : Type 0} (g : ChromeTraceGroupBy) (index : ℕ) where
  cuts_at : (past : List TraceInput) (events : List (TestEventSummary S O)) (j : ℕ)
      → option_map_or (cuts_key (Script index))
      (change_at (history_after g past (map plain events)) j) false
      ≡ at (cuts_script index) (script_acts events) j
  cuts_at past [] j = refl
  cuts_at past (e ∷ events) zero = act_cuts g (binaries past) index (act_of (plain_kind e.kind))
  cuts_at past (e ∷ events) (suc j) =
      cuts_at (trace_input g (binaries past) (plain e) ∷ past) events j

  starts_at : (past : List TraceInput) (events : List (TestEventSummary S O)) (k : ℕ)
      → slice_get (script_acts events) k ≡ Some (Starts index)
      → (s : Span) × (s.key ≡ Script index)
      × (change_at (history_after g past (map plain events)) k ≡ Some (Start s))
  starts_at past [] k h = cc
  starts_at past (e ∷ events) zero h =
      let s = act_starts g (binaries past) index (act_of (plain_kind e.kind)) (some_same h) in
      (s.0, s.1, ap (λ c. Some c) s.2)
    where
      some_same : Some (script_act (act_of (plain_kind e.kind))) ≡ Some (Starts index)
          → script_act (act_of (plain_kind e.kind)) ≡ Starts index
      some_same e = cc
  starts_at past (e ∷ events) (suc k) h =
      starts_at (trace_input g (binaries past) (plain e) ∷ past) events k h

below : (acts : List ScriptAct) (k : ℕ) (act : ScriptAct) → slice_get acts k ≡ Some act
    → k < length acts
below [] k act h = cc
below (x ∷ acts) zero act h = omega arith
below (x ∷ acts) (suc k) act h = let b = below acts k act h in omega (arith, b)

module _ {S O : Type 0} (g : ChromeTraceGroupBy) (events : List (TestEventSummary S O)) where
  abbrev acts : List ScriptAct
  acts = script_acts events

  abbrev inputs : List TraceInput
  inputs = history g (map plain events)

  acts_many : length acts ≡ length events
  acts_many = length-map events (λ e. script_act (act_of (plain_kind e.kind)))

  many : length inputs ≡ length acts
  many = history-many g [] (map plain events) ∙ length-map events plain ∙ sym acts_many

  pub script_span_is : (s : ScriptView) (is : IsScript acts s)
      → HasSpan inputs (Script is.index) s.from (unwrap_or s.to (length events))
  script_span_is s is =
      let span = starts_at g is.index [] events s.from is.starts in
      subst (λ n. HasSpan inputs (Script is.index) s.from (unwrap_or s.to n)) acts_many
      (span_lasts inputs acts (cuts_script is.index) (Script is.index) many
      (cuts_at g is.index [] events) s.from span.0 span.1 span.2
      (below acts s.from (Starts is.index) is.starts) s.to is.ends)
