-- A line as plain data.
use Rattle.rec_codec.specs.declared.lines.Line.{Line}
use Rattle.rec_codec.specs.Lines.{NumberedLine}

abbrev pub line_view : Line → NumberedLine
line_view line = record { number = line.number; bytes = line.bytes.now }
