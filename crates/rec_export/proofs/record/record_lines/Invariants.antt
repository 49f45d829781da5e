use Rattle.std.proofs.Common.{◌≡◌, false, List, ◌++◌, length, map, Result}
use Rattle.std.specs.Bool.{⊤}
use Rattle.semver.specs.Parse.{Parts}
use Rattle.rec_container.specs.Memory.{GrowingSinkState}
use Rattle.rec_format.specs.declared.head.SessionHead.{SessionHead}
use Rattle.rec_codec.specs.Event.{LiveEvent}
use Rattle.rec_store.specs.Recording.{Recording, has_failed}
use Rattle.rec_spans.specs.declared.settings.ChromeTraceGroupBy.{ChromeTraceGroupBy}
use Rattle.rec_spans.specs.Plain.{PlainEvent, plain}
use Rattle.rec_trace.specs.declared.settings.ChromeTraceMessageFormat.{ChromeTraceMessageFormat}
use Rattle.rec_errors.specs.declared.export_error.RecordExportError.{RecordExportError}
use Rattle.rec_export.proofs.record.record_lines.Given as goal
use Rattle.rec_export.specs.declared.discarding.DiscardingSink.{DiscardingSink}
use Rattle.rec_export.specs.Recorded.{HasRecorded, RecordsLines}
use Rattle.rec_export.specs.Session.{events_of}
use Rattle.rec_export.specs.SessionTraces.{IsTraceOf}

-- what the rest gives is what all give
abbrev pub invariant-loop-line : goal.invariant-loop-line
invariant-loop-line g l =
    let number = g.N.OutputNamer.number in
    let namer = l.fn.recorder.namer in
    let m = l.fn.recorder.max_output in
    record {
      sound : has_failed l.recorder ≡ false;
      recorded : (head : SessionHead) (events : List LiveEvent)
          → HasRecorded number namer m head events l.fn.recorder
          → (so_far : List LiveEvent) × HasRecorded number namer m head so_far l.recorder
          × ((r : Result ⊤ RecordExportError) (new : Recording DiscardingSink GrowingSinkState _)
          → RecordsLines number namer m head so_far l.lines new r
          → RecordsLines number namer m head events l.fn.lines new r);
      traced : (format : ChromeTraceMessageFormat) (group : ChromeTraceGroupBy) (version : Parts)
          (before : List PlainEvent)
          → IsTraceOf format group version before l.fn.trace
          → (so_far : List PlainEvent) × IsTraceOf format group version so_far l.trace
          × (before ++ map plain (events_of l.fn.lines) ≡ so_far ++ map plain (events_of l.lines));
    }

abbrev pub decreases-loop-line : goal.decreases-loop-line
decreases-loop-line g l = length l.lines
