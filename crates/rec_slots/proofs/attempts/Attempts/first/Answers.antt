use Rattle.std.proofs.Common.{◌↔◌, ◌<◌, ℕ, Option, None, Some, sym, subst, Bor}
use Rattle.std.specs.BTreeSet.{BTreeSet, IsLowerBound, btree_set_len, contains}
use Rattle.std.specs.Option.{option_copied}
use Rattle.std.specs.Ordering.{nat_cmp}
use Rattle.std.specs.Prelude.{IfSome, IsSome, IsTrue}
use Rattle.rec_slots.proofs.attempts.Attempts.first.Goals as goal
use Rattle.rec_slots.proofs.NotedAttempts.{first-found}
use Rattle.rec_slots.specs.Walked.{FindsFirst}

copied-some : (o : Option (Bor ℕ)) (s : BTreeSet ℕ) → (IsSome o ↔ (0 < btree_set_len s))
    → IsSome (option_copied o) ↔ (0 < btree_set_len s)
copied-some None s h = h
copied-some (Some k) s h = h

copied-if : (o : Option (Bor ℕ)) (P : ℕ → Type 0) → IfSome o (λ k. P k.now)
    → IfSome (option_copied o) P
copied-if None P h = h
copied-if (Some k) P h = h

pub returns : goal.returns
returns c = λ events n has.
    let s = c.args.self.now.starts in
    let o = c.first.result in
    subst (FindsFirst events n) (sym c.copied.ensures)
    (first-found events n c.args.self.now (option_copied o) has
    (copied-some o s c.first.ensures.variant)
    (copied-if o (λ k. IsTrue (contains nat_cmp s k)) c.first.ensures.member)
    (copied-if o (IsLowerBound nat_cmp s) c.first.ensures.least))
