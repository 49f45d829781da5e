-- Where what starts at a position ends, and that it ends there only.
use Rattle.std.proofs.Common.{◌≡◌, ◌≤◌, ◌<◌, ◌⊎◌, inl, inr, ℕ, zero, suc, ◌+◌, ◌-◌, Bool}
use Rattle.std.proofs.Common.{true, false, List, [], ◌∷◌, drop, length, slice_get, refl, ap}
use Rattle.std.proofs.Common.{sym, ◌∙◌, arith, Option, Some, None, if◌then◌else◌}
use Rattle.std.specs.Option.{option_map_or}
use Rattle.rec_view.proofs.Attempts.{differ}
use Rattle.rec_view.specs.Ends.{IsEnd, at, first_from}

pub ahead : (a b : ℕ) → a ≤ b → (m : ℕ) × (b ≡ a + m)
ahead a b h = (b - a, omega (arith, h))

module _ {A : Type 0} where
  -- ---- positions behind others

  get-drop : (n : ℕ) (xs : List A) (m : ℕ) → slice_get (drop n xs) m ≡ slice_get xs (n + m)
  get-drop zero xs m = ap (slice_get xs) here
    where
      here : m ≡ zero + m
      here = omega arith
  get-drop (suc n) [] m = refl
  get-drop (suc n) (x ∷ xs) m = get-drop n xs m ∙ ap (slice_get (x ∷ xs)) next
    where
      next : suc (n + m) ≡ suc n + m
      next = omega arith

  pub at-drop : (p : A → Bool) (xs : List A) (n m : ℕ) → at p (drop n xs) m ≡ at p xs (n + m)
  at-drop p xs n m = ap (λ o. option_map_or p o false) (get-drop n xs m)

  -- what stands at a position is below the length
  pub below : (p : A → Bool) (xs : List A) (k : ℕ) → at p xs k ≡ true → k < length xs
  below p [] k h = differ (sym h)
  below p (x ∷ xs) zero h = omega arith
  below p (x ∷ xs) (suc k) h = let b = below p xs k h in omega (arith, b)

  -- ---- ends

  abbrev FirstIs : (A → Bool) → ℕ → List A → Option ℕ → Type 0
  FirstIs p i xs None = (m : ℕ) → at p xs m ≡ false
  FirstIs p i xs (Some z) =
      (m : ℕ) × (z ≡ i + m) × (at p xs m ≡ true) × ((j : ℕ) → j < m → at p xs j ≡ false)

  first_is : (p : A → Bool) (i : ℕ) (xs : List A) → FirstIs p i xs (first_from p i xs)
  first_is p i [] = λ m. refl
  first_is p i (x ∷ xs) = by (p x) refl (first_is p (suc i) xs)
    where
      from_none : p x ≡ false → ((m : ℕ) → at p xs m ≡ false) → (m : ℕ) → at p (x ∷ xs) m ≡ false
      from_none e h zero = e
      from_none e h (suc m) = h m

      from_some : (m : ℕ) → p x ≡ false → ((j : ℕ) → j < m → at p xs j ≡ false) → (j : ℕ)
          → j < suc m → at p (x ∷ xs) j ≡ false
      from_some m e h zero l = e
      from_some m e h (suc j) l = h j (omega (arith, l))

      later : (o : Option ℕ) → p x ≡ false → FirstIs p (suc i) xs o → FirstIs p i (x ∷ xs) o
      later None e h = from_none e h
      later (Some z) e (m, is, yes_at, no_before) =
          (suc m, omega (arith, is), yes_at, from_some m e no_before)

      by : (b : Bool) → p x ≡ b → FirstIs p (suc i) xs (first_from p (suc i) xs)
          → FirstIs p i (x ∷ xs) (if b then Some i else first_from p (suc i) xs)
      by true e more = (zero, omega arith, e, (λ j h. absurd (omega (arith, h))))
      by false e more = later (first_from p (suc i) xs) e more

  pub end_is : (cuts : A → Bool) (xs : List A) (k : ℕ)
      → IsEnd cuts xs k (first_from cuts (suc k) (drop (suc k) xs))
  end_is cuts xs k =
      by (first_from cuts (suc k) (drop (suc k) xs)) (first_is cuts (suc k) (drop (suc k) xs))
    where
      moved : (j m : ℕ) → j ≡ suc k + m → at cuts xs j ≡ at cuts (drop (suc k) xs) m
      moved j m is = ap (at cuts xs) is ∙ sym (at-drop cuts xs (suc k) m)

      by : (o : Option ℕ) → FirstIs cuts (suc k) (drop (suc k) xs) o → IsEnd cuts xs k o
      by None h = λ j l. let d = ahead (suc k) j (omega (arith, l)) in moved j d.0 d.1 ∙ h d.0
      by (Some z) (m, is, yes_at, no_before) = (
        omega (arith, is),
        moved z m is ∙ yes_at,
        λ j l u. let d = ahead (suc k) j (omega (arith, l)) in let e = d.1 in
            moved j d.0 e ∙ no_before d.0 (omega (arith, e, is, u)),
      )

  pub end_only : (cuts : A → Bool) (xs : List A) (k : ℕ) (a b : Option ℕ) → IsEnd cuts xs k a
      → IsEnd cuts xs k b → a ≡ b
  end_only cuts xs k None None h i = refl
  end_only cuts xs k None (Some z) h (later, ends, first) = differ (sym ends ∙ h z later)
  end_only cuts xs k (Some y) None (later, ends, first) h = differ (sym ends ∙ h y later)
  end_only cuts xs k (Some y) (Some z) (after, cut, none) (later, ends, first) = by (split y z)
    where
      split : (x w : ℕ) → (x ≡ w) ⊎ ((x < w) ⊎ (w < x))
      split x w = grind arith

      by : (y ≡ z) ⊎ ((y < z) ⊎ (z < y)) → Some y ≡ Some z
      by (inl e) = ap Some e
      by (inr (inl lt)) = differ (sym cut ∙ first y after lt)
      by (inr (inr lt)) = differ (sym ends ∙ none z later lt)
