-- Prefixes of run ids among the same ids.
use Rattle.std.proofs.Common.{◌≡◌, ℕ, List, [], ◌∷◌, ◌++◌, ◌↔◌, Contains, Option, Some, None, subst}
use Rattle.std.proofs.lemmas.List.Elements.{Contains-push}
use Rattle.rec_format.specs.declared.run_ids.ShortestRunIdPrefix.{ShortestRunIdPrefix}
use Rattle.rec_format.specs.RunIds.{CutsShortest, IsShortest}

-- the two lists have the same ids
abbrev pub AreSame : List (List ℕ) → List (List ℕ) → Type 0
AreSame xs ys = (x : List ℕ) → Contains xs x ↔ Contains ys x

shortest_same : (xs ys : List (List ℕ)) (id : List ℕ) (cut : ShortestRunIdPrefix) → AreSame xs ys
    → IsShortest xs id cut → IsShortest ys id cut
shortest_same xs ys id cut same s = record {
  known = (same id).0 s.known;
  whole = s.whole;
  some = s.some;
  unique = λ other k begins. s.unique other ((same other).1 k) begins;
  shortest = λ other begins some u. s.shortest other begins some (λ o k b. u o ((same o).0 k) b);
}

module _ (index ids known : List (List ℕ)) (id : List ℕ) (same : AreSame index ids)
    (whole : ids ≡ known ++ id ∷ []) where
  -- an id that was put last has a prefix
  pub cut_missing : (answer : Option ShortestRunIdPrefix) → CutsShortest index id answer
      → answer ≡ None → ⊥
  cut_missing answer cuts e =
      let cuts' = subst (CutsShortest index id) e cuts in
      cuts' ((same id).1 (rw whole (Contains-push known id)))

  pub cut_found : (answer : Option ShortestRunIdPrefix) (cut : ShortestRunIdPrefix)
      → CutsShortest index id answer → answer ≡ Some cut → IsShortest (known ++ id ∷ []) id cut
  cut_found answer cut cuts e =
      subst (λ l. IsShortest l id cut) whole
      (shortest_same index ids id cut same (subst (CutsShortest index id) e cuts))
