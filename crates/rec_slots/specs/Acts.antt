-- What each event is for the slots of a run.
use Rattle.std.specs.Prelude.{ℕ, List, map}
use Rattle.rec_events.specs.declared.instances.OwnedTestInstanceId.{OwnedTestInstanceId}
use Rattle.rec_spans.specs.Acts.Act.{RunStarts as StartOfRun, RunEnds as EndOfRun}
use Rattle.rec_spans.specs.Acts.Act.{SubRunStarts, SubRunEnds, ScriptStarts, ScriptEnds}
use Rattle.rec_spans.specs.Acts.Act.{ScriptIsSlow, AttemptStarts, AttemptFails, TestEnds}
use Rattle.rec_spans.specs.Acts.Act.{TestIsSlow, Pauses, Continues, Cancels, Silent as NoSpan}
use Rattle.rec_spans.specs.Acts.{Act as SpanAct, act_of}
use Rattle.rec_spans.specs.Plain.{PlainEvent}

-- the run starts or ends, an attempt starts on a slot, the open attempt of a test ends,
-- or none of these
pub data Act : Type 0 where
  RunStarts : Act
  RunEnds : Act
  Starts : (slot : ℕ) → Act
  Ends : (test : OwnedTestInstanceId) → Act
  Silent : Act

abbrev pub slot_act : SpanAct → Act
slot_act StartOfRun = RunStarts
slot_act EndOfRun = RunEnds
slot_act SubRunStarts = Silent
slot_act SubRunEnds = Silent
slot_act (ScriptStarts index id) = Silent
slot_act (ScriptEnds index id) = Silent
slot_act (ScriptIsSlow id) = Silent
slot_act (AttemptStarts test slot) = Starts slot
slot_act (AttemptFails test) = Ends test
slot_act (TestEnds test failures) = Ends test
slot_act (TestIsSlow test) = Silent
slot_act (Pauses scripts) = Silent
slot_act (Continues scripts) = Silent
slot_act (Cancels scripts) = Silent
slot_act NoSpan = Silent

-- what each of these events is
abbrev pub acts : List PlainEvent → List Act
acts events = map (λ e. slot_act (act_of e.kind)) events
