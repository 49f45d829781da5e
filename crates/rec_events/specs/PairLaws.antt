-- Sets of names and maps from texts beside the strings that they hold.
use Rattle.std.proofs.Common.{◌∙◌, ap, append_assoc, Ordering, Less, Equal, Greater}
use Rattle.std.proofs.lemmas.Str.{is_utf8-from_IsUtf8, IsUtf8-string_bytes}
use Rattle.std.specs.BTreeMap.{insert_entry}
use Rattle.std.specs.BTreeSet.{insert_key}
use Rattle.std.specs.Cmp.Lexicographic.{slice_cmp, pointwise, nat_list_cmp_total}
use Rattle.std.specs.declared.alloc.Global.{Global}
use Rattle.std.specs.List.Sorted.{IsStrictlySortedBy}
use Rattle.std.specs.List.{AllByRecursion}
use Rattle.std.specs.Ordering.{nat_cmp, match_ordering, ordering_reverse}
use Rattle.std.specs.Prelude.{◌≡◌, ◌==◌, ℕ, List, [], ◌∷◌, ◌++◌, map, String}
use Rattle.std.specs.Prelude.{string_bytes, string_cmp, string_eq, refl}
use Rattle.rec_events.specs.Names.{Rise, texts, with_name, AreTexts}
use Rattle.rec_events.specs.Pairs.{pairs, put_pair, keys, KeysRise}

-- ---- strings and their texts

above-texts : (k : String Global) (ks : List (String Global))
    → AllByRecursion (λ y. string_cmp k y ≡ Less) ks
    → AllByRecursion (λ y. slice_cmp nat_cmp (string_bytes k) y ≡ Less) (texts ks)
above-texts k [] h = h
above-texts k (l ∷ ls) h = (h.0, above-texts k ls h.1)

-- strings that rise have texts that rise
pub Rise-texts : (ks : List (String Global)) → IsStrictlySortedBy string_cmp ks → Rise (texts ks)
unfolding IsStrictlySortedBy
Rise-texts [] h = h
Rise-texts (k ∷ ks) h = (above-texts k ks h.0, Rise-texts ks h.1)

texts-keys : {V : Type 0} (es : List (String Global × V))
    → keys (pairs es) ≡ texts (map (λ e. e.0) es)
texts-keys [] = refl
texts-keys (e ∷ es) = ap (λ ks. string_bytes e.0 ∷ ks) (texts-keys es)

pub KeysRise-pairs : {V : Type 0} (es : List (String Global × V))
    → IsStrictlySortedBy string_cmp (map (λ e. e.0) es) → KeysRise (pairs es)
KeysRise-pairs es h = rw (texts-keys es) (Rise-texts (map (λ e. e.0) es) h)

-- a string is a text
pub AreTexts-texts : (ks : List (String Global)) → AreTexts (texts ks)
AreTexts-texts [] = tt
AreTexts-texts (k ∷ ks) = (is_utf8-from_IsUtf8 _ (IsUtf8-string_bytes k), AreTexts-texts ks)

pub AreTexts-pairs : {V : Type 0} (es : List (String Global × V)) → AreTexts (keys (pairs es))
AreTexts-pairs es = rw (texts-keys es) (AreTexts-texts (map (λ e. e.0) es))

pairs-match_ordering : {V : Type 0} (o : Ordering) (a b c : List (String Global × V))
    → pairs (match_ordering o a b c) ≡ match_ordering o (pairs a) (pairs b) (pairs c)
pairs-match_ordering Less a b c = refl
pairs-match_ordering Equal a b c = refl
pairs-match_ordering Greater a b c = refl

-- an entry put into a map is a pair put among its pairs
pub pairs-insert_entry : {V : Type 0} (es : List (String Global × V)) (k : String Global) (v : V)
    → pairs (insert_entry string_cmp es k v) ≡ put_pair (string_bytes k) v (pairs es)
pairs-insert_entry [] k v = refl
pairs-insert_entry (e ∷ es) k v =
    pairs-match_ordering (string_cmp k e.0) _ _ _ ∙ rw (pairs-insert_entry es k v)

texts-match_ordering : (o : Ordering) (a b c : List (String Global))
    → texts (match_ordering o a b c) ≡ match_ordering o (texts a) (texts b) (texts c)
texts-match_ordering Less a b c = refl
texts-match_ordering Equal a b c = refl
texts-match_ordering Greater a b c = refl

pub texts-insert_key : (ks : List (String Global)) (k : String Global)
    → texts (insert_key string_cmp ks k) ≡ with_name (texts ks) (string_bytes k)
texts-insert_key [] k = refl
texts-insert_key (l ∷ ls) k =
    texts-match_ordering (string_cmp k l) _ _ _ ∙ rw (texts-insert_key ls k)

-- strings are equal where their texts are
pub texts-eq : (ks ls : List (String Global))
    → pointwise string_eq ks ls ≡ pointwise (pointwise ◌==◌) (texts ks) (texts ls)
texts-eq [] [] = refl
texts-eq [] (l ∷ ls) = refl
texts-eq (k ∷ ks) [] = refl
texts-eq (k ∷ ks) (l ∷ ls) = rw (texts-eq ks ls)

-- ---- what goes last

flipped : (x y : List ℕ) → slice_cmp nat_cmp x y ≡ Less → slice_cmp nat_cmp y x ≡ Greater
flipped x y h = nat_list_cmp_total.antisymm y x ∙ ap ordering_reverse h

at_end : (x : List ℕ) (xs : List (List ℕ)) (k : List ℕ) (ks : List (List ℕ))
    → AllByRecursion (λ y. slice_cmp nat_cmp x y ≡ Less) (xs ++ k ∷ ks)
    → slice_cmp nat_cmp x k ≡ Less
at_end x [] k ks h = h.0
at_end x (y ∷ ys) k ks h = at_end x ys k ks h.1

-- a name above all others goes last
pub with_name-last : (done : List (List ℕ)) (k : List ℕ) (rest : List (List ℕ))
    → Rise (done ++ k ∷ rest) → with_name done k ≡ done ++ k ∷ []
unfolding IsStrictlySortedBy
with_name-last [] k rest h = refl
with_name-last (x ∷ xs) k rest h =
    rw (flipped x k (at_end x xs k rest h.0), with_name-last xs k rest h.1)

pairs_at_end : {V : Type 0} (x : List ℕ) (ps : List (List ℕ × V)) (p : List ℕ × V)
    (rest : List (List ℕ × V))
    → AllByRecursion (λ y. slice_cmp nat_cmp x y ≡ Less) (keys (ps ++ p ∷ rest))
    → slice_cmp nat_cmp x p.0 ≡ Less
pairs_at_end x [] p rest h = h.0
pairs_at_end x (q ∷ qs) p rest h = pairs_at_end x qs p rest h.1

-- where the keys rise, each key is above those before it
pub above_before : {V : Type 0} (q : List ℕ × V) (qs : List (List ℕ × V)) (p : List ℕ × V)
    (rest : List (List ℕ × V))
    → KeysRise ((q ∷ qs) ++ p ∷ rest) → slice_cmp nat_cmp p.0 q.0 ≡ Greater
unfolding IsStrictlySortedBy
above_before q qs p rest h = flipped q.0 p.0 (pairs_at_end q.0 qs p rest h.0)

pub KeysRise-tail : {V : Type 0} (q : List ℕ × V) (qs : List (List ℕ × V)) → KeysRise (q ∷ qs)
    → KeysRise qs
unfolding IsStrictlySortedBy
KeysRise-tail q qs h = h.1

-- a pair whose key is above all others goes last
pub put_pair-last : {V : Type 0} (done : List (List ℕ × V)) (p : List ℕ × V)
    (rest : List (List ℕ × V))
    → KeysRise (done ++ p ∷ rest) → put_pair p.0 p.1 done ≡ done ++ p ∷ []
put_pair-last [] p rest h = refl
put_pair-last (q ∷ qs) p rest h =
    rw (above_before q qs p rest h, put_pair-last qs p rest (KeysRise-tail q (qs ++ p ∷ rest) h))

-- a map with the next of the pairs that are left goes on to the same whole
pub put_next : {V : Type 0} (done : List (List ℕ × V)) (k : List ℕ) (x : V)
    (rest all : List (List ℕ × V))
    → done ++ (k, x) ∷ rest ≡ all → KeysRise all → put_pair k x done ++ rest ≡ all
put_next done k x rest all is h =
    ap (λ ps. ps ++ rest) (put_pair-last done (k, x) rest (rw is h))
    ∙ append_assoc done ((k, x) ∷ []) rest ∙ is
