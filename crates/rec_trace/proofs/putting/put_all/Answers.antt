use Rattle.std.proofs.Common.{◌≡◌, ◌+◌, ℕ, List, [], ◌∷◌, length, map, sym, ap, subst, ◌∙◌, arith}
use Rattle.std.specs.Vec.Iter.{into_iter_items}
use Rattle.rec_trace_events.specs.EventTexts.{event_value}
use Rattle.rec_trace.proofs.putting.put_all.Goals as goal
use Rattle.rec_trace.proofs.Taking.{Takes-append, TakesPart-after}
use Rattle.rec_trace.specs.Targets.{Takes, TakesPart}

shorter : {A : Type 0} {n m : ℕ} (xs : List A) (x : A) (zs : List A) → xs ≡ x ∷ zs → n ≡ length xs
    → m + 1 ≡ n → m ≡ length zs
shorter xs x zs p q r = let short = ap length p in omega arith

pub loop-event-preserved : goal.loop-event-preserved
loop-event-preserved g c =
    let holds = g.T.TraceTarget.holds in
    let at = c.loop-event in
    let steps = c.in-Some.ensures.steps in
    let rest = into_iter_items c.next.new.self in
    record {
      count = shorter _ c.in-Some.event rest steps.0 at.invariant.count steps.1;
      still = c.in_ok-put.ensures.counted ∙ at.invariant.still;
      takes =
          λ new h. at.invariant.takes new
          (subst (λ xs. Takes holds at.target new (map event_value xs)) (sym steps.0)
          (Takes-append holds at.target c.put.new.self new (event_value c.in-Some.event ∷ [])
          (map event_value rest) c.in_ok-put.ensures.taken h));
      part =
          λ new h. at.invariant.part new
          (subst (λ xs. TakesPart holds at.target new (map event_value xs)) (sym steps.0)
          (TakesPart-after holds at.target c.put.new.self new (event_value c.in-Some.event)
          (map event_value rest) c.in_ok-put.ensures.taken h));
    }
