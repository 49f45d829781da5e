-- The numbers of a span of time and of an instant.
use Rattle.std.specs.Prelude.{ℕ, ◌/◌, ℤ, pos, ◌+ℤ◌, ◌*ℤ◌}

pub record Span : Type 0 where
  pub secs : ℕ
  pub nanos : ℕ

pub record Moment : Type 0 where
  pub secs : ℤ
  pub nanos : ℕ
  pub offset : ℤ

-- the whole microseconds since the Unix epoch
abbrev pub micros : Moment → ℤ
micros s = s.secs *ℤ pos 1000000 +ℤ pos (s.nanos / 1000)
