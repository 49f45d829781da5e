-- How tokens are laid out one after the other.
use Rattle.std.proofs.Common.{◌≡◌, ◌<◌, ℕ, suc, ◌+◌, ◌^◌, ◌-◌, min, List, [], ◌∷◌}
use Rattle.std.proofs.Common.{◌++◌, fold, refl, sym, ap, ◌∙◌, append_assoc, arith}
use Rattle.json.specs.Layout.{Last, bracket, name, value, piece, pretty_from, step}
use Rattle.json.specs.Print.{ArePrintable}
use Rattle.json.specs.Token.{Token, bad}
use Rattle.json.specs.Tree.{items_tokens, json_tokens, members_tokens}
use Rattle.serde_json.specs.Data.{Data, null, boolean, number, string, array, object}
use Rattle.serde_json.specs.Data.{Items, no_items, item, Members, no_members, member}
use Rattle.serde_json.specs.Data.{depth, items_depth, members_depth}
use Rattle.serde_json.specs.Written.{items_outline, members_outline, outline}

pub pretty_from-append : (s : Last × ℕ) (ts us : List Token)
    → pretty_from s (ts ++ us) ≡ pretty_from s ts ++ pretty_from (fold step s ts) us
unfolding pretty_from
pretty_from-append s [] us = refl
pretty_from-append s (t ∷ ts) us =
    ap (λ l. piece s t ++ l) (pretty_from-append (step s t) ts us)
    ∙ sym (append_assoc (piece s t) _ _)

pub fold-append : (s : Last × ℕ) (ts us : List Token)
    → fold step s (ts ++ us) ≡ fold step (fold step s ts) us
fold-append s [] us = refl
fold-append s (t ∷ ts) us = fold-append (step s t) ts us

-- no token of what is printable is bad
pub no-bad : (ts : List Token) (us : List Token) → ArePrintable (ts ++ bad ∷ us) → ⊥
unfolding ArePrintable
no-bad [] us h = h.0
no-bad (t ∷ ts) us h = no-bad ts us h.1

-- one level deeper, where the level is small enough
deeper : (n : ℕ) → suc n < 2 ^ 64 → min (n + 1) (2 ^ 64 - 1) ≡ suc n
deeper n h = omega (arith, h)

up : (n : ℕ) → suc n - 1 ≡ n
up n = omega arith

-- after a value the depth is that of before
mutual
  pub state-value : (l : Last) (n : ℕ) (d : Data) → n + depth d < 2 ^ 64
      → fold step (l, n) (json_tokens (outline d)) ≡ (value, n)
  state-value l n null h = refl
  state-value l n (boolean b) h = refl
  state-value l n (number x) h = refl
  state-value l n (string s) h = refl
  state-value l n (array ds) h =
      ap (λ k. fold step (bracket, k) (items_tokens (items_outline ds)))
      (deeper n (omega (arith, h)))
      ∙ state-items bracket n ds (omega (arith, h))
  state-value l n (object ms) h =
      ap (λ k. fold step (bracket, k) (members_tokens (members_outline ms)))
      (deeper n (omega (arith, h)))
      ∙ state-members bracket n ms (omega (arith, h))

  state-items : (l : Last) (n : ℕ) (ds : Items) → suc n + items_depth ds < 2 ^ 64
      → fold step (l, suc n) (items_tokens (items_outline ds)) ≡ (value, n)
  state-items l n no_items h = ap (λ k. (value, k)) (up n)
  state-items l n (item d ds) h =
      fold-append (l, suc n) (json_tokens (outline d)) (items_tokens (items_outline ds))
      ∙ ap (λ s. fold step s (items_tokens (items_outline ds)))
      (state-value l (suc n) d (omega (arith, h)))
      ∙ state-items value n ds (omega (arith, h))

  state-members : (l : Last) (n : ℕ) (ms : Members) → suc n + members_depth ms < 2 ^ 64
      → fold step (l, suc n) (members_tokens (members_outline ms)) ≡ (value, n)
  state-members l n no_members h = ap (λ k. (value, k)) (up n)
  state-members l n (member k d ms) h =
      fold-append (name, suc n) (json_tokens (outline d)) (members_tokens (members_outline ms))
      ∙ ap (λ s. fold step s (members_tokens (members_outline ms)))
      (state-value name (suc n) d (omega (arith, h)))
      ∙ state-members value n ms (omega (arith, h))

-- after another value a value has a comma before it, and else stands as after a bracket
pub after-value : (n : ℕ) (d : Data)
    → pretty_from (value, n) (json_tokens (outline d))
    ≡ 44 ∷ pretty_from (bracket, n) (json_tokens (outline d))
unfolding pretty_from
after-value n null = refl
after-value n (boolean b) = refl
after-value n (number x) = refl
after-value n (string s) = refl
after-value n (array ds) = refl
after-value n (object ms) = refl
