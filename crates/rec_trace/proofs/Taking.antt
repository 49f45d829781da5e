-- What several puts leave, one after the other.
use Rattle.std.proofs.Common.{suc, List, [], ◌∷◌, ◌++◌, take, subst, arith, append_assoc}
use Rattle.serde_json.specs.Data.{Data}
use Rattle.rec_trace.specs.Targets.{Takes, TakesPart}

module _ {T : Type 0} (holds : T → List Data → Type 0) where
  pub Takes-append : (a b c : T) (xs ys : List Data) → Takes holds a b xs → Takes holds b c ys
      → Takes holds a c (xs ++ ys)
  Takes-append a b c xs ys p q before h =
      subst (holds c) (append_assoc before xs ys) (q (before ++ xs) (p before h))

  pub TakesPart-after : (a b c : T) (x : Data) (ys : List Data) → Takes holds a b (x ∷ [])
      → TakesPart holds b c ys → TakesPart holds a c (x ∷ ys)
  TakesPart-after a b c x ys p q = record {
    count = suc q.count;
    short = let h = q.short in omega arith;
    taken = Takes-append a b c (x ∷ []) (take q.count ys) p q.taken;
  }
