-- The span that an event starts.
use Rattle.std.specs.Prelude.{Option, Some, None}
use Rattle.rec_spans.specs.declared.spans.Span.{Span}
use Rattle.rec_spans.specs.Past.Change.{Start, Stop, Pause, Resume, Other}
use Rattle.rec_spans.specs.Past.{Change}

abbrev pub started : Change → Option Span
started (Start s) = Some s
started (Stop k) = None
started Pause = None
started Resume = None
started Other = None
