-- What is left of a log from a place on.
use Rattle.std.specs.Prelude.{ℕ, ◌+◌, ◌<◌, ◌≤◌, ◌^◌, ◌-◌, List, length, drop}
use Rattle.rec_codec.specs.Lines.{NumberedLine, lines, numbered}
use Rattle.rec_directory.specs.declared.log.LogPlace.{LogPlace}

-- the place stands in the log, and the lines from there on have numbers
pub record IsPlace (log : List ℕ) (p : LogPlace) : Type 0 where
  pub inside : p.at ≤ length log
  pub numbers : p.number + (length log - p.at) < 2 ^ 64

-- the lines from there on
abbrev pub left_at : List ℕ → LogPlace → List NumberedLine
left_at log p = numbered p.number (lines (drop p.at log))
