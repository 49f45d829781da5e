-- A fact about an error that follows from another one.
use Rattle.std.proofs.Common.{Result, Ok, Err, IfErr}

pub if_err_weaker : {T E : Type 0} {P Q : E → Type 0} (r : Result T E) → ((e : E) → P e → Q e)
    → IfErr r P → IfErr r Q
if_err_weaker (Ok x) f h = tt
if_err_weaker (Err e) f h = f e h
