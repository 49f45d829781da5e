-- What sources and sinks in memory that fail or run full are, as contracts see them.
use Rattle.std.specs.Prelude.{ℕ, List, min, ◌==◌, if◌then◌else◌}

-- the bytes taken, the count of faults, and the spare room
pub record SinkState : Type 0 where
  pub bytes : List ℕ
  pub faults : ℕ
  pub room : ℕ

-- those of a sink with spare room, with the bound on a piece (0: none), the calls made so far,
-- and the calls that fail
pub record FailingSinkState : Type 0 where
  pub bytes : List ℕ
  pub faults : ℕ
  pub room : ℕ
  pub piece : ℕ
  pub calls : ℕ
  pub fail_at : List ℕ

-- the bytes left, the count of faults, the bound on a piece (0: none), the calls made so far,
-- and the calls that fail
pub record FailingSourceState : Type 0 where
  pub rest : List ℕ
  pub faults : ℕ
  pub piece : ℕ
  pub calls : ℕ
  pub fail_at : List ℕ

-- how much a call takes of so many bytes, where a piece is bounded
abbrev pub piece_len : ℕ → ℕ → ℕ
piece_len len piece = if piece == 0 then len else min len piece
