-- When keys and rows are the same.
use Rattle.std.specs.Prelude.{◌==◌, ◌&&◌, Bool, true, false}
use Rattle.rec_events.specs.Tests.{test_eq}
use Rattle.rec_trace_events.specs.declared.rows.Row.{Row}
use Rattle.rec_spans.specs.declared.spans.SpanKey.TheVariants.{Run, SubRun, Script, Test}
use Rattle.rec_spans.specs.declared.spans.SpanKey.{SpanKey}

abbrev pub key_eq : SpanKey → SpanKey → Bool
key_eq Run Run = true
key_eq SubRun SubRun = true
key_eq (Script i) (Script j) = i == j
key_eq (Test s) (Test t) = test_eq s t
key_eq _ _ = false

abbrev pub row_eq : Row → Row → Bool
row_eq a b = a.pid == b.pid && a.tid == b.tid
