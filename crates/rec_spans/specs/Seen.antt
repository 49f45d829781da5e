-- What the code sees of an event, as the definitions see it.
use Rattle.rec_events.specs.Stats as stats
use Rattle.rec_spans.specs.Acts.Act.{RunStarts, RunEnds, SubRunStarts, SubRunEnds, ScriptStarts}
use Rattle.rec_spans.specs.Acts.Act.{ScriptEnds, ScriptIsSlow, AttemptStarts, AttemptFails}
use Rattle.rec_spans.specs.Acts.Act.{TestEnds, TestIsSlow, Pauses, Continues, Cancels, Silent}
use Rattle.rec_spans.specs.Acts.{Act}
use Rattle.rec_spans.specs.declared.acts.Act as declared
use Rattle.rec_spans.specs.declared.acts.Act.TheVariants as code

abbrev pub seen : declared.Act → Act
seen code.RunStarts = RunStarts
seen code.RunEnds = RunEnds
seen code.SubRunStarts = SubRunStarts
seen code.SubRunEnds = SubRunEnds
seen (code.ScriptStarts index id) = ScriptStarts index id.now
seen (code.ScriptEnds index id) = ScriptEnds index id.now
seen (code.ScriptIsSlow id) = ScriptIsSlow id.now
seen (code.AttemptStarts test slot) = AttemptStarts test.now slot
seen (code.AttemptFails test) = AttemptFails test.now
seen (code.TestEnds test current_stats) = TestEnds test.now (stats.failures current_stats.now)
seen (code.TestIsSlow test) = TestIsSlow test.now
seen (code.Pauses scripts) = Pauses scripts
seen (code.Continues scripts) = Continues scripts
seen (code.Cancels scripts) = Cancels scripts
seen code.Silent = Silent
