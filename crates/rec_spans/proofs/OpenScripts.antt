-- Setup scripts are found by their ids, and noted and forgotten as they are opened and closed.
use Rattle.std.proofs.Common.{◌≡◌, ◌≤◌, ◌<◌, ◌⊎◌, ◌==◌, ℕ, Bool, true, false, cond}
use Rattle.std.proofs.Common.{◌&&◌, List, [], ◌∷◌, map, filter, Option, Some, None}
use Rattle.std.proofs.Common.{option_and_then, option_to_list, slice_get, refl, sym}
use Rattle.std.proofs.Common.{◌∙◌, ap, subst, arith, inl, inr, bytes_eq, ltb-true}
use Rattle.std.proofs.lemmas.Bool.{false≢true}
use Rattle.std.proofs.lemmas.List.Kept.{IsStrictlySortedBy-filter}
use Rattle.std.proofs.lemmas.Map.Keys.{sorted_head}
use Rattle.std.specs.BTreeMap.{is_at}
use Rattle.std.specs.declared.cmp.Ordering.TheVariants.{Less, Equal, Greater}
use Rattle.std.specs.declared.cmp.Ordering.{Ordering}
use Rattle.std.specs.List.Sorted.{IsStrictlySortedBy}
use Rattle.std.specs.List.{AllByRecursion}
use Rattle.std.specs.Map.{keys_of, values_of}
use Rattle.std.specs.Ordering.{nat_cmp}
use Rattle.std.specs.Prelude.{nat_lt}
use Rattle.rec_events.specs.declared.instances.OwnedTestInstanceId.{OwnedTestInstanceId}
use Rattle.rec_spans.proofs.Filters.{filter-yes}
use Rattle.rec_spans.proofs.Keys.{key_eq-from, place_eq-true}
use Rattle.rec_spans.proofs.Maps.{key-one, none-at, open-one, place-one}
use Rattle.rec_spans.proofs.OpenTests.{place-free}
use Rattle.rec_spans.specs.declared.spans.Place.TheVariants as places
use Rattle.rec_spans.specs.declared.spans.Place.{Place}
use Rattle.rec_spans.specs.declared.spans.Span.{Span}
use Rattle.rec_spans.specs.declared.spans.SpanKey.TheVariants as keys
use Rattle.rec_spans.specs.declared.spans.SpanKey.{SpanKey}
use Rattle.rec_spans.specs.Keys.{key_eq}
use Rattle.rec_spans.specs.Noted.{AreNoted, AreSame, IsLeast, Notes, Renotes, is_named, is_noted}
use Rattle.rec_spans.specs.Past.{of_key}
use Rattle.rec_spans.specs.Places.{place_cmp, place_eq}
use Rattle.rec_spans.specs.Refusals.{is_script, scripts_in, under}
use Rattle.rec_spans.specs.Tied.{AreTied, PutsIn, TakesOut, at, place_of}

abbrev Slots : Type 0
Slots = List (OwnedTestInstanceId × ℕ)

abbrev Spans : Type 0
Spans = List (Place × Span)

-- ---- what stays noted

-- a change at the place of no script
pub noted-other : (notes : Notes) (es es' : Spans) (p : Place) (w : Option Span) → AreNoted notes es
    → ((i : ℕ) → place_eq p (places.Script i) ≡ false)
    → ((q : Place) → at es' q ≡ cond (place_eq p q) w (at es q)) → AreNoted notes es'
noted-other notes es es' p w noted other spans name i =
    noted name i ∙ ap (is_named name)
    (sym (spans (places.Script i) ∙ ap (λ b. cond b w (at es (places.Script i))) (other i)))

-- the place of a span that is of no test and no script
pub no_script : (k : SpanKey) (p : Place) → place_of [] k ≡ Some p → is_script k ≡ false → (i : ℕ)
    → place_eq p (places.Script i) ≡ false
no_script keys.Run p h none i =
    let same : places.Run ≡ p = cc in subst (λ q. place_eq q (places.Script i) ≡ false) same refl
no_script keys.SubRun p h none i =
    let same : places.SubRun ≡ p = cc in subst (λ q. place_eq q (places.Script i) ≡ false) same refl
no_script (keys.Script j) p h none i = absurd (false≢true (sym none))
no_script (keys.Test t) p h none i = absurd cc

kept : {X : Type 0} (a : Bool) (x y : X) → cond (a && false) x y ≡ y
kept true x y = refl
kept false x y = refl

-- an index at which no script is open isn't noted
free-noted : (notes : Notes) (es : Spans) (index : ℕ) → AreNoted notes es
    → at es (places.Script index) ≡ None → (name : List ℕ) (i : ℕ) → is_at (nat_cmp index) i ≡ true
    → is_noted notes name i ≡ false
free-noted notes es index noted free name i e = noted name i ∙ ap (is_named name)
    (ap (at es) (sym (place_eq-true (places.Script index) (places.Script i) e)) ∙ free)

module _ (notes notes' : Notes) (es es' : Spans) (index : ℕ) (s : Span)
    (noted : AreNoted notes es) where
  -- a script is opened
  pub noted-opened : (id : List ℕ) → at es (places.Script index) ≡ None → s.name ≡ id
      → s.place ≡ places.Script index → Renotes true notes id index notes'
      → PutsIn s es es' → AreNoted notes' es'
  noted-opened id free named place renotes puts name i =
      renotes name i
      ∙ go (is_at (nat_cmp index) i) refl
      ∙ ap (is_named name) (sym (puts.1 (places.Script i)
      ∙ ap (λ p. cond (place_eq p (places.Script i)) (Some s) (at es (places.Script i))) place))
    where
      here : (a : Bool) → cond (a && true) true false ≡ a
      here true = refl
      here false = refl

      go : (b : Bool) → is_at (nat_cmp index) i ≡ b
          → cond (bytes_eq id name && b) true (is_noted notes name i)
          ≡ is_named name (cond b (Some s) (at es (places.Script i)))
      go true e =
          ap (cond (bytes_eq id name && true) true) (free-noted notes es index noted free name i e)
          ∙ here (bytes_eq id name)
          ∙ ap (λ n. bytes_eq n name) (sym named)
      go false e = kept (bytes_eq id name) true (is_noted notes name i) ∙ noted name i

  -- a script is closed
  pub noted-closed : at es (places.Script index) ≡ Some s → Renotes false notes s.name index notes'
      → TakesOut (places.Script index) es es' → AreNoted notes' es'
  noted-closed found renotes takes name i =
      renotes name i ∙ go (is_at (nat_cmp index) i) refl
      ∙ ap (is_named name) (sym (takes.1 (places.Script i)))
    where
      gone : (a : Bool) → cond (a && true) false a ≡ false
      gone true = refl
      gone false = refl

      go : (b : Bool) → is_at (nat_cmp index) i ≡ b
          → cond (bytes_eq s.name name && b) false (is_noted notes name i)
          ≡ is_named name (cond b None (at es (places.Script i)))
      go true e =
          ap (cond (bytes_eq s.name name && true) false)
          (noted name i ∙ ap (is_named name)
          (ap (at es) (sym (place_eq-true (places.Script index) (places.Script i) e)) ∙ found))
          ∙ gone (bytes_eq s.name name)
      go false e = kept (bytes_eq s.name name) false (is_noted notes name i) ∙ noted name i

-- nothing else was noted
pub noted-same : (notes notes' : Notes) (es : Spans) → AreNoted notes es → AreSame notes notes'
    → AreNoted notes' es
noted-same notes notes' es noted same name i = same name i ∙ noted name i

-- a script that was noted and forgotten again
pub noted-forgotten : (notes mid notes' : Notes) (es : Spans) (id : List ℕ) (index : ℕ)
    → AreNoted notes es → at es (places.Script index) ≡ None
    → Renotes true notes id index mid → Renotes false mid id index notes' → AreNoted notes' es
noted-forgotten notes mid notes' es id index noted free first second name i =
    second name i ∙ ap (cond (bytes_eq id name && is_at (nat_cmp index) i) false) (first name i)
    ∙ go (bytes_eq id name) (is_at (nat_cmp index) i) refl ∙ noted name i
  where
    go : (a b : Bool) → is_at (nat_cmp index) i ≡ b
        → cond (a && b) false (cond (a && b) true (is_noted notes name i)) ≡ is_noted notes name i
    go true true e = sym (free-noted notes es index noted free name i e)
    go true false e = refl
    go false b e = refl

-- the place of a script of which no span is open is free
pub script-free : (slots : Slots) (es : Spans) (k : SpanKey) (index : ℕ) → AreTied slots es
    → k ≡ keys.Script index → of_key k (values_of es) ≡ [] → at es (places.Script index) ≡ None
script-free slots es k index tied key free =
    none-at slots es (places.Script index) tied
    (place-free slots es (keys.Script index) (places.Script index) tied refl
    (subst (λ j. of_key j (values_of es) ≡ []) key free))

-- ---- what is among what

-- whether a span is among these
abbrev IsIn : Span → List Span → Type 0
IsIn s [] = ⊥
IsIn s (x ∷ xs) = (x ≡ s) ⊎ IsIn s xs

in-filter : (p : Span → Bool) (s : Span) (xs : List Span) → IsIn s xs → p s ≡ true
    → IsIn s (filter p xs)
in-filter p s [] m h = m
in-filter p s (x ∷ xs) m h = elim m [
  | inl e ↦ subst (IsIn s) (sym (filter-yes p x xs (ap p e ∙ h))) (inl e)
  | inr later ↦ go (p x) refl (in-filter p s xs later h)
]
  where
    go : (b : Bool) → p x ≡ b → IsIn s (filter p xs)
        → IsIn s (cond b (x ∷ filter p xs) (filter p xs))
    go true e ih = inr ih
    go false e ih = ih

out-of-filter : (p : Span → Bool) (s : Span) (xs : List Span) → IsIn s (filter p xs)
    → (p s ≡ true) × IsIn s xs
out-of-filter p s [] m = absurd m
out-of-filter p s (x ∷ xs) m = go (p x) refl (out-of-filter p s xs) m
  where
    go : (b : Bool) → p x ≡ b → (IsIn s (filter p xs) → (p s ≡ true) × IsIn s xs)
        → IsIn s (cond b (x ∷ filter p xs) (filter p xs)) → (p s ≡ true) × ((x ≡ s) ⊎ IsIn s xs)
    go true e ih m = elim m [
      | inl same ↦ (ap p (sym same) ∙ e, inl same)
      | inr later ↦ (let r = ih later in (r.0, inr r.1))
    ]
    go false e ih m = let r = ih m in (r.0, inr r.1)

in-option : (s : Span) (o : Option Span) → IsIn s (option_to_list o) → o ≡ Some s
in-option s None m = absurd m
in-option s (Some x) m = elim m [ inl e ↦ ap Some e | inr none ↦ absurd none ]

-- ---- the order of spans

abbrev span_cmp : Span → Span → Ordering
span_cmp a b = place_cmp a.place b.place

all-places : (x : Place) (xs : List Span)
    → AllByRecursion (λ p. place_cmp x p ≡ Less) (map (λ (s : Span). s.place) xs)
    → AllByRecursion (λ (s : Span). place_cmp x s.place ≡ Less) xs
all-places x [] a = tt
all-places x (s ∷ xs) a = (a.0, all-places x xs a.1)

ordered-spans : (xs : List Span) → IsStrictlySortedBy place_cmp (map (λ (s : Span). s.place) xs)
    → IsStrictlySortedBy span_cmp xs
unfolding IsStrictlySortedBy
ordered-spans [] a = tt
ordered-spans (x ∷ xs) a = (all-places x.place xs a.0, ordered-spans xs a.1)

all-in : (P : Span → Type 0) (s : Span) (xs : List Span) → AllByRecursion P xs → IsIn s xs → P s
all-in P s [] a m = absurd m
all-in P s (x ∷ xs) a m = elim m [ inl e ↦ subst P e a.0 | inr later ↦ all-in P s xs a.1 later ]

below : (j i : ℕ) → nat_cmp j i ≡ Less → j < i
below j i h = go (nat_lt j i) (j == i) refl h
  where
    go : (a b : Bool) → nat_lt j i ≡ a → cond a Less (cond b Equal Greater) ≡ Less → j < i
    go true b e h = ltb-true j i e
    go false true e h = absurd cc
    go false false e h = absurd cc

-- ---- a script is found by its id

module _ (slots : Slots) (es : Spans) (tied : AreTied slots es)
    (ordered : IsStrictlySortedBy place_cmp (keys_of es)) (name : List ℕ) where
  abbrev named : List Span
  named = under name (scripts_in (values_of es))

  ordered-named : IsStrictlySortedBy span_cmp named
  ordered-named =
      IsStrictlySortedBy-filter span_cmp (λ (s : Span). bytes_eq s.name name)
      (scripts_in (values_of es))
      (IsStrictlySortedBy-filter span_cmp (λ (s : Span). is_script s.key) (values_of es)
      (ordered-spans (values_of es)
      (subst (IsStrictlySortedBy place_cmp) tied.under_place ordered)))

  -- a script that is open stands at its index
  stands : (s : Span) (i : ℕ) → IsIn s (values_of es) → s.key ≡ keys.Script i
      → at es (places.Script i) ≡ Some s
  stands s i m key =
      in-option s (at es (places.Script i))
      (subst (IsIn s) (tied.at_key (keys.Script i)) (in-filter (λ (x : Span).
      key_eq x.key (keys.Script i)) s (values_of es) m (key_eq-from s.key (keys.Script i) key)))

  placed : (s : Span) (i : ℕ) → at es (places.Script i) ≡ Some s → places.Script i ≡ s.place
  placed s i found =
      place_eq-true (places.Script i) s.place (place-one slots es tied (places.Script i) s found)

  -- what stands at an index under the name is among those of the name
  among : (s : Span) (i : ℕ) → at es (places.Script i) ≡ Some s → bytes_eq s.name name ≡ true
      → IsIn s named
  among s i found is =
      let one = open-one slots es tied (keys.Script i) (places.Script i) s refl found in
      let key = key-one slots es tied (keys.Script i) (places.Script i) s refl found in
      let there = out-of-filter (λ (x : Span). key_eq x.key (keys.Script i)) s (values_of es)
      (subst (IsIn s) (sym one) (inl refl)) in
      in-filter (λ (x : Span). bytes_eq x.name name) s (scripts_in (values_of es))
      (in-filter (λ (x : Span). is_script x.key) s (values_of es) there.1 (ap is_script key)) is

  -- a script of this name
  record Holds (s : Span) : Type 0 where
    index : ℕ
    found : at es (places.Script index) ≡ Some s
    is : bytes_eq s.name name ≡ true

  script_index : (s : Span) → is_script s.key ≡ true → IsIn s (values_of es)
      → bytes_eq s.name name ≡ true → Holds s
  script_index s h m is = go s.key refl h
    where
      go : (k : SpanKey) → s.key ≡ k → is_script k ≡ true → Holds s
      go keys.Run e h = absurd (false≢true h)
      go keys.SubRun e h = absurd (false≢true h)
      go (keys.Script i) e h = record { index = i; found = stands s i m e; is = is }
      go (keys.Test t) e h = absurd (false≢true h)

  holds : (s : Span) → IsIn s named → Holds s
  holds s m =
      let outer =
      out-of-filter (λ (x : Span). bytes_eq x.name name) s (scripts_in (values_of es)) m in
      let inner = out-of-filter (λ (x : Span). is_script x.key) s (values_of es) outer.1 in
      script_index s inner.0 inner.1 outer.0

  -- the first of those of the name has the smallest index
  first-found : (o : Option ℕ) → IsLeast (λ i. is_named name (at es (places.Script i))) o
      → option_and_then (λ i. at es (places.Script i)) o ≡ slice_get named 0
  first-found o least = by named refl o least
    where
      some : (i : ℕ) (p : Option Span) → at es (places.Script i) ≡ p → is_named name p ≡ true
          → (s : Span) × (at es (places.Script i) ≡ Some s) × (bytes_eq s.name name ≡ true)
      some i None e h = absurd (false≢true h)
      some i (Some s) e h = (s, e, h)

      by : (f : List Span) → named ≡ f → (o : Option ℕ)
          → IsLeast (λ i. is_named name (at es (places.Script i))) o
          → option_and_then (λ i. at es (places.Script i)) o ≡ slice_get f 0
      by [] e None least = refl
      by [] e (Some i) least =
          let t = some i (at es (places.Script i)) refl least.0 in
          absurd (subst (IsIn t.0) e (among t.0 i t.1 t.2))
      by (s ∷ rest) e None least =
          let h = holds s (subst (IsIn s) (sym e) (inl refl)) in
          absurd (false≢true (sym (least h.index) ∙ ap (is_named name) h.found ∙ h.is))
      by (s ∷ rest) e (Some i) least =
          let h = holds s (subst (IsIn s) (sym e) (inl refl)) in
          let t = some i (at es (places.Script i)) refl least.0 in
          let small : i ≤ h.index = least.1 h.index (ap (is_named name) h.found ∙ h.is) in
          t.1 ∙ elim (subst (IsIn t.0) e (among t.0 i t.1 t.2)) [
            | inl same ↦ ap Some (sym same)
            | inr later ↦
                let after : place_cmp s.place t.0.place ≡ Less =
                all-in (λ (x : Span). span_cmp s x ≡ Less) t.0 rest
                (sorted_head span_cmp s rest (subst (IsStrictlySortedBy span_cmp) e ordered-named))
                later in
                let less : nat_cmp h.index i ≡ Less =
                ap (λ p. place_cmp p (places.Script i)) (placed s h.index h.found)
                ∙ ap (place_cmp s.place) (placed t.0 i t.1) ∙ after in
                let lt : h.index < i = below h.index i less in
                absurd (omega arith)
          ]

  pub script-found : (notes : Notes) (o : Option ℕ) → AreNoted notes es
      → IsLeast (is_noted notes name) o
      → option_and_then (λ i. at es (places.Script i)) o ≡ slice_get named 0
  script-found notes o noted least =
      first-found o (subst (λ test. IsLeast test o) (λ j i. noted name i j) least)
