-- Spans, as messages name them.
use Rattle.std.specs.Fmt.{decimal}
use Rattle.std.specs.Prelude.{ℕ, List, ◌∷◌, ◌++◌, codes}
use Rattle.rec_spans.specs.declared.spans.SpanKey.TheVariants.{Run, SubRun, Script, Test}
use Rattle.rec_spans.specs.declared.spans.SpanKey.{SpanKey}

-- a test by its binary and its name
abbrev pub span_key_text : SpanKey → List ℕ
span_key_text Run = codes "the run"
span_key_text SubRun = codes "the sub-run"
span_key_text (Script index) = codes "setup script " ++ decimal index
span_key_text (Test test) = test.binary_id ++ 32 ∷ test.test_name
