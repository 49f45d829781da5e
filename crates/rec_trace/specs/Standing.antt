-- What a tracer stands for.
use Rattle.std.specs.Prelude.{◌≡◌, List, [], None}
use Rattle.semver.specs.Parse.{Parts}
use Rattle.rec_spans.specs.declared.settings.ChromeTraceGroupBy.{ChromeTraceGroupBy}
use Rattle.rec_spans.specs.History.{after, state_after}
use Rattle.rec_spans.specs.Kinds.{history}
use Rattle.rec_spans.specs.Plain.{PlainEvent}
use Rattle.rec_spans.specs.Refusals.{events_refusal}
use Rattle.rec_trace.specs.declared.tracer.Tracer.{Tracer}
use Rattle.rec_trace.specs.Entries.{EachSays}
use Rattle.rec_trace.specs.Histories.{known_of}
use Rattle.rec_trace.specs.KnownNews.{known_in}

-- Each thing that is kept is that of these events, of runs by this version of the runner, and they
-- have no cause to be refused: their number, the open spans with their rows and names, the
-- binaries, both running counts, the next flow number and whether the run is in a pause; the rows
-- that were named, the test group of each open attempt, the pending arrows and the last start of a
-- run. No entry is kept that says nothing, so that of a test that ended isn't,
-- unless an arrow is pending
pub record StandsFor (g : ChromeTraceGroupBy) (version : Parts) (events : List PlainEvent)
    (t : Tracer) : Type 0 where
  pub group_kept : t.group_by ≡ g
  pub version_kept : t.version ≡ version
  pub stands : t.tracker ≡ state_after (after [] (history g events))
  pub knows : known_in t.known ≡ known_of g events
  pub each_says : EachSays t.known
  pub accepted : events_refusal g events ≡ None
