-- The lines of a log.
use Rattle.std.specs.Prelude.{ℕ, List}
use Rattle.rec_codec.specs.Lines.{NumberedLine, lines, numbered}

-- the lines of a log, numbered from 1
abbrev pub log_lines : List ℕ → List NumberedLine
log_lines log = numbered 1 (lines log)
