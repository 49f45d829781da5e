-- The tests on keys, rows and places hold exactly where these are equal.
use Rattle.std.proofs.Common.{◌≡◌, ℕ, ◌==◌, nat_lt, ◌&&◌, Bool, true, false, cond}
use Rattle.std.proofs.Common.{refl, ◌∙◌, ap, sym, arith, eqb-true, eq-eqb, ltb-true}
use Rattle.std.proofs.lemmas.Bool.{and_parts, and_from}
use Rattle.std.specs.declared.cmp.Ordering.TheVariants.{Less, Equal, Greater}
use Rattle.std.specs.Ordering.{nat_cmp, is_eq}
use Rattle.rec_events.proofs.TestOrder.{is_eq-then, test_eq-self, test_eq-true}
use Rattle.rec_trace_events.specs.declared.rows.Row.{Row}
use Rattle.rec_spans.specs.declared.spans.Place.TheVariants as places
use Rattle.rec_spans.specs.declared.spans.Place.{Place}
use Rattle.rec_spans.specs.declared.spans.SpanKey.TheVariants.{Run, SubRun, Script, Test}
use Rattle.rec_spans.specs.declared.spans.SpanKey.{SpanKey}
use Rattle.rec_spans.specs.Keys.{key_eq, row_eq}
use Rattle.rec_spans.specs.Places.{rank, number, place_eq}

-- ---- keys

-- keys that pass as the same are equal
pub key_eq-true : (k j : SpanKey) → key_eq k j ≡ true → k ≡ j
key_eq-true Run Run e = refl
key_eq-true Run SubRun e = cc
key_eq-true Run (Script j) e = cc
key_eq-true Run (Test t) e = cc
key_eq-true SubRun Run e = cc
key_eq-true SubRun SubRun e = refl
key_eq-true SubRun (Script j) e = cc
key_eq-true SubRun (Test t) e = cc
key_eq-true (Script i) Run e = cc
key_eq-true (Script i) SubRun e = cc
key_eq-true (Script i) (Script j) e = ap Script (eqb-true i j e)
key_eq-true (Script i) (Test t) e = cc
key_eq-true (Test s) Run e = cc
key_eq-true (Test s) SubRun e = cc
key_eq-true (Test s) (Script j) e = cc
key_eq-true (Test s) (Test t) e = ap Test (test_eq-true s t e)

-- a key is the same as itself
pub key_eq-self : (k : SpanKey) → key_eq k k ≡ true
key_eq-self Run = refl
key_eq-self SubRun = refl
key_eq-self (Script i) = eq-eqb i i refl
key_eq-self (Test t) = test_eq-self t

-- equal keys pass as the same
pub key_eq-from : (k j : SpanKey) → k ≡ j → key_eq k j ≡ true
key_eq-from k j e = ap (key_eq k) (sym e) ∙ key_eq-self k

-- ---- rows

-- rows that pass as the same are equal
pub row_eq-true : (a b : Row) → row_eq a b ≡ true → a ≡ b
row_eq-true a b e =
    let p = and_parts (a.pid == b.pid) (a.tid == b.tid) e in
    let x = eqb-true a.pid b.pid p.0 in
    let y = eqb-true a.tid b.tid p.1 in
    λ i. record { pid = x i; tid = y i }

-- a row is the same as itself
pub row_eq-self : (a : Row) → row_eq a a ≡ true
row_eq-self a =
    and_from (a.pid == a.pid) (a.tid == a.tid) (eq-eqb a.pid a.pid refl) (eq-eqb a.tid a.tid refl)

-- ---- places

pub is_eq-nat_cmp : (m n : ℕ) → is_eq (nat_cmp m n) ≡ (m == n)
is_eq-nat_cmp m n = go (nat_lt m n) (m == n) refl refl
  where
    go : (a b : Bool) → nat_lt m n ≡ a → (m == n) ≡ b
        → is_eq (cond a Less (cond b Equal Greater)) ≡ b
    go true true x y = let l = ltb-true m n x in let e = eqb-true m n y in absurd (omega arith)
    go true false x y = refl
    go false true x y = refl
    go false false x y = refl

place_eq-tests : (a b : Place) → place_eq a b ≡ ((rank a == rank b) && (number a == number b))
place_eq-tests a b =
    is_eq-then (nat_cmp (rank a) (rank b)) (nat_cmp (number a) (number b))
    ∙ rw (is_eq-nat_cmp (rank a) (rank b), is_eq-nat_cmp (number a) (number b)) refl

-- a place is determined by its rank and its number
pub same_place : (a b : Place) → rank a ≡ rank b → number a ≡ number b → a ≡ b
same_place places.Run places.Run p q = refl
same_place places.Run places.SubRun p q = absurd (omega arith)
same_place places.Run (places.Slot n) p q = absurd (omega arith)
same_place places.Run (places.Script n) p q = absurd (omega arith)
same_place places.SubRun places.Run p q = absurd (omega arith)
same_place places.SubRun places.SubRun p q = refl
same_place places.SubRun (places.Slot n) p q = absurd (omega arith)
same_place places.SubRun (places.Script n) p q = absurd (omega arith)
same_place (places.Slot m) places.Run p q = absurd (omega arith)
same_place (places.Slot m) places.SubRun p q = absurd (omega arith)
same_place (places.Slot m) (places.Slot n) p q = ap places.Slot q
same_place (places.Slot m) (places.Script n) p q = absurd (omega arith)
same_place (places.Script m) places.Run p q = absurd (omega arith)
same_place (places.Script m) places.SubRun p q = absurd (omega arith)
same_place (places.Script m) (places.Slot n) p q = absurd (omega arith)
same_place (places.Script m) (places.Script n) p q = ap places.Script q

-- places that pass as the same are equal
pub place_eq-true : (a b : Place) → place_eq a b ≡ true → a ≡ b
place_eq-true a b e =
    let p = and_parts (rank a == rank b) (number a == number b) (sym (place_eq-tests a b) ∙ e) in
    same_place a b (eqb-true (rank a) (rank b) p.0) (eqb-true (number a) (number b) p.1)

-- a place is the same as itself
pub place_eq-self : (a : Place) → place_eq a a ≡ true
place_eq-self a =
    place_eq-tests a a ∙ and_from (rank a == rank a) (number a == number a)
    (eq-eqb (rank a) (rank a) refl) (eq-eqb (number a) (number a) refl)

-- equal places pass as the same
pub place_eq-from : (a b : Place) → a ≡ b → place_eq a b ≡ true
place_eq-from a b e = ap (place_eq a) (sym e) ∙ place_eq-self a
