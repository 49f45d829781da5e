-- A test list, a test or a binary longer.
use Rattle.std.proofs.Common.{◌≡◌, ℕ, zero, suc, ◌+◌, ◌%◌, ◌==◌, ◌<◌, Bool, true, false}
use Rattle.std.proofs.Common.{cond, List, [], ◌∷◌, ◌++◌, map, refl, sym, ◌∙◌, ◌≢◌, arith}
use Rattle.std.proofs.lemmas.Bool.{eq-eqb, ne_eqb}
use Rattle.std.proofs.lemmas.List.Elements.{filter-append}
use Rattle.std.proofs.lemmas.List.FromFn.{map-range_with_len_more}
use Rattle.std.proofs.lemmas.List.{map-append, append-nil}
use Rattle.std.specs.Fmt.{digits}
use Rattle.std.specs.List.{range_with_len}
use Rattle.rec_events.specs.Pairs.{put_pair}
use Rattle.rec_sample.proofs.Ranges.{range_more}
use Rattle.rec_sample.specs.Head.{binary_tests, suite}
use Rattle.rec_sample.specs.Names.{binary_id, test_name}

names_if : (b : Bool) (n : ℕ) (tests : List ℕ)
    → map test_name (tests ++ cond b (n ∷ []) [])
    ≡ map test_name tests ++ cond b (test_name n ∷ []) []
names_if true n tests = map-append test_name tests (n ∷ [])
names_if false n tests = map-append test_name tests []

-- the names of a binary's tests among one test more
names_more : (n k : ℕ) (b : Bool) → (n % 4 == k) ≡ b
    → map test_name (binary_tests (n + 1) k)
    ≡ map test_name (binary_tests n k) ++ cond b (test_name n ∷ []) []
names_more n k b e =
    rw (
      range_more 0 n n (omega arith),
      filter-append (λ i. i % 4 == k) (range_with_len 0 n) (n ∷ []),
      e,
    ) (names_if b n (binary_tests n k))

pub names_with : (n k : ℕ) (names more : List (List ℕ)) (name : List ℕ) → n % 4 ≡ k
    → names ≡ map test_name (binary_tests n k) → name ≡ test_name n → more ≡ names ++ name ∷ []
    → more ≡ map test_name (binary_tests (n + 1) k)
names_with n k names more name e h is added =
    added ∙ rw (h, is) (sym (names_more n k true (eq-eqb (n % 4) k e)))

pub names_without : (n k : ℕ) (names : List (List ℕ)) → n % 4 ≢ k
    → names ≡ map test_name (binary_tests n k) → names ≡ map test_name (binary_tests (n + 1) k)
names_without n k names e h = h ∙ sym
    (names_more n k false (ne_eqb (n % 4) k e) ∙ append-nil (map test_name (binary_tests n k)))

-- a further binary goes last
put_last : (n k : ℕ) (names : List (List ℕ)) → k < 4
    → put_pair (binary_id k) names (map (suite n) (range_with_len 0 k))
    ≡ map (suite n) (range_with_len 0 k) ++ (binary_id k, names) ∷ []
unfolding digits
put_last n zero names h = refl
put_last n (suc zero) names h = refl
put_last n (suc (suc zero)) names h = refl
put_last n (suc (suc (suc zero))) names h = refl
put_last n (suc (suc (suc (suc k)))) names h = absurd (omega arith)

pub suites_with : (n k : ℕ) (suites more : List (List ℕ × List (List ℕ))) (id : List ℕ)
    (names : List (List ℕ))
    → k < 4 → suites ≡ map (suite n) (range_with_len 0 k)
    → id ≡ binary_id k → names ≡ map test_name (binary_tests n k) → more ≡ put_pair id names suites
    → more ≡ map (suite n) (range_with_len 0 (k + 1))
suites_with n k suites more id names small h id_is names_is put =
    put ∙ rw (h, id_is, names_is, put_last n k (map test_name (binary_tests n k)) small)
    (sym (map-range_with_len_more (suite n) 0 k k (omega arith)))
