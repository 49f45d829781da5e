-- What is told of a keeper, by weaker facts.
use Rattle.std.proofs.Common.{Option, Some, None}
use Rattle.rec_session.specs.Keepers.{Keeping, Told}

pub told_weaker : (old new : Option Keeping) (P Q : Keeping → Keeping → Type 0)
    → ((k j : Keeping) → P k j → Q k j) → Told old new P → Told old new Q
told_weaker None new P Q f h = h
told_weaker (Some k) None P Q f h = h
told_weaker (Some k) (Some j) P Q f h = f k j h
