-- What a sink in memory that grows is, as contracts see it.
use Rattle.std.specs.Prelude.{ℕ, List}

-- the bytes taken, and the count of faults, of a sink that grows
pub record GrowingSinkState : Type 0 where
  pub bytes : List ℕ
  pub faults : ℕ
