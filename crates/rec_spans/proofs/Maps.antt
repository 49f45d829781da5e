-- The two maps of what is open stay tied where a span is put in or removed.
use Rattle.std.proofs.Common.{◌≡◌, ℕ, Bool, true, false, not, cond, List, [], ◌∷◌, map}
use Rattle.std.proofs.Common.{Option, Some, None, IsSome, filter, option_and_then}
use Rattle.std.proofs.Common.{option_to_list, refl, sym, ◌∙◌, ap, subst}
use Rattle.std.proofs.lemmas.Bool.{false≢true, false_from_ne_true}
use Rattle.std.specs.BTreeMap.{insert_entry, is_at}
use Rattle.std.specs.declared.cmp.Ordering.TheVariants.{Less, Equal, Greater}
use Rattle.std.specs.declared.cmp.Ordering.{Ordering}
use Rattle.std.specs.Map.{keys_of, remove_entry, values_of}
use Rattle.std.specs.Ordering.{is_eq, is_lt, match_ordering}
use Rattle.rec_events.specs.declared.instances.OwnedTestInstanceId.{OwnedTestInstanceId}
use Rattle.rec_spans.proofs.Filters.{filter-no, filter-none, filter-put_no}
use Rattle.rec_spans.proofs.Filters.{filter-put_yes, filter-yes, filter_comm}
use Rattle.rec_spans.proofs.Keys.{key_eq-from, key_eq-true, place_eq-from}
use Rattle.rec_spans.proofs.Keys.{place_eq-self, place_eq-true}
use Rattle.rec_spans.specs.declared.spans.Place.TheVariants as places
use Rattle.rec_spans.specs.declared.spans.Place.{Place}
use Rattle.rec_spans.specs.declared.spans.Span.{Span}
use Rattle.rec_spans.specs.declared.spans.SpanKey.{SpanKey}
use Rattle.rec_spans.specs.Keys.{key_eq}
use Rattle.rec_spans.specs.Past.{in_place, of_key, put_in, without}
use Rattle.rec_spans.specs.Places.{place_cmp, place_eq}
use Rattle.rec_spans.specs.Tied.{AreTied, at, place_of, slot_of}

-- ---- the entries of a map

-- each span stands under its place
abbrev pub UnderPlace : List (Place × Span) → Type 0
UnderPlace es = keys_of es ≡ map (λ (s : Span). s.place) (values_of es)

place_eq-other : (p q : Place) → place_eq p q ≡ false → place_eq q p ≡ false
place_eq-other p q h =
    false_from_ne_true (place_eq q p)
    (λ t. false≢true (sym h ∙ place_eq-from p q (sym (place_eq-true q p t))))

pub values-insert : (es : List (Place × Span)) (s : Span) → UnderPlace es
    → in_place s.place (values_of es) ≡ []
    → values_of (insert_entry place_cmp es s.place s) ≡ put_in s (values_of es)
values-insert [] s under free = refl
values-insert (e ∷ es) s under free =
    let none = filter-none (λ (x : Span). place_eq s.place x.place) e.1 (values_of es) free in
    let W : Place → Type 0 = λ p. values_of (match_ordering (place_cmp s.place p)
    ((s.place, s) ∷ e ∷ es) ((e.0, s) ∷ es) (e ∷ insert_entry place_cmp es s.place s))
    ≡ cond (is_lt (place_cmp s.place e.1.place)) (s ∷ e.1 ∷ values_of es)
    (e.1 ∷ put_in s (values_of es)) in
    subst W (sym same)
    (go (place_cmp s.place e.1.place) none.0 (values-insert es s (cc under) none.1))
  where
    same : e.0 ≡ e.1.place
    same = cc under

    go : (o : Ordering) → is_eq o ≡ false
        → values_of (insert_entry place_cmp es s.place s) ≡ put_in s (values_of es)
        → values_of (match_ordering o ((s.place, s) ∷ e ∷ es) ((e.0, s) ∷ es)
        (e ∷ insert_entry place_cmp es s.place s))
        ≡ cond (is_lt o) (s ∷ e.1 ∷ values_of es) (e.1 ∷ put_in s (values_of es))
    go Less h ih = refl
    go Equal h ih = absurd (false≢true (sym h))
    go Greater h ih = ap (λ v. e.1 ∷ v) ih

keys-insert : (es : List (Place × Span)) (s : Span) → UnderPlace es
    → UnderPlace (insert_entry place_cmp es s.place s)
keys-insert [] s under = refl
keys-insert (e ∷ es) s under = go (place_cmp s.place e.0) refl (keys-insert es s (cc under))
  where
    go : (o : Ordering) → place_cmp s.place e.0 ≡ o
        → UnderPlace (insert_entry place_cmp es s.place s)
        → UnderPlace (match_ordering o ((s.place, s) ∷ e ∷ es) ((e.0, s) ∷ es)
        (e ∷ insert_entry place_cmp es s.place s))
    go Less h ih = ap (λ v. s.place ∷ v) under
    go Equal h ih = let same = place_eq-true s.place e.0 (ap is_eq h) in cc under
    go Greater h ih = cc under

keys-remove : (test : Place → Bool) (es : List (Place × Span)) → UnderPlace es
    → UnderPlace (remove_entry test es)
keys-remove test [] under = refl
keys-remove test (e ∷ es) under = go (test e.0) (keys-remove test es (cc under))
  where
    go : (b : Bool) → UnderPlace (remove_entry test es)
        → UnderPlace (cond b es (e ∷ remove_entry test es))
    go true ih = cc under
    go false ih = cc under

-- ---- what is not there

pub none-at : (slots : List (OwnedTestInstanceId × ℕ)) (es : List (Place × Span)) (p : Place)
    → AreTied slots es → in_place p (values_of es) ≡ [] → at es p ≡ None
none-at slots es p tied free = go (at es p) refl
  where
    go : (o : Option Span) → at es p ≡ o → o ≡ None
    go None h = refl
    go (Some s) h =
        let one : in_place p (values_of es) ≡ s ∷ [] = tied.at_place p ∙ ap option_to_list h in cc

-- ---- a span is put in

module _ (slots slots' : List (OwnedTestInstanceId × ℕ)) (es es' : List (Place × Span)) (s : Span)
    (tied : AreTied slots es) (key_free : of_key s.key (values_of es) ≡ [])
    (place_free : in_place s.place (values_of es) ≡ [])
    (is : es' ≡ insert_entry place_cmp es s.place s)
    (spans : (q : Place) → at es' q ≡ cond (place_eq s.place q) (Some s) (at es q))
    (lines : (k : SpanKey)
    → place_of slots' k ≡ cond (key_eq s.key k) (Some s.place) (place_of slots k))
    (apart : (k : SpanKey) → key_eq s.key k ≡ false → place_of slots k ≡ Some s.place → ⊥)
    (held' : (t : OwnedTestInstanceId) (n : ℕ) → slot_of slots' t ≡ Some n
    → IsSome (at es' (places.Slot n))) where
  -- the spans in their order
  pub values-put : values_of es' ≡ put_in s (values_of es)
  values-put = ap values_of is ∙ values-insert es s tied.under_place place_free

  at_here : at es' s.place ≡ Some s
  at_here = spans s.place ∙ ap (λ b. cond b (Some s) (at es s.place)) (place_eq-self s.place)

  put_place : (p : Place) (b : Bool) → place_eq s.place p ≡ b
      → in_place p (values_of es') ≡ option_to_list (at es' p)
  put_place p true h =
      let e : s.place ≡ p = place_eq-true s.place p h in
      ap (in_place p) values-put
      ∙ filter-put_yes (λ (x : Span). place_eq p x.place) s (values_of es)
      (place_eq-from p s.place (sym e)) (subst (λ v. in_place v (values_of es) ≡ []) e place_free)
      ∙ sym (ap option_to_list (spans p ∙ ap (λ b. cond b (Some s) (at es p)) h))
  put_place p false h =
      ap (in_place p) values-put
      ∙ filter-put_no (λ (x : Span). place_eq p x.place) s (values_of es)
      (place_eq-other s.place p h)
      ∙ tied.at_place p
      ∙ sym (ap option_to_list (spans p ∙ ap (λ b. cond b (Some s) (at es p)) h))

  same_line : (k : SpanKey) → key_eq s.key k ≡ false → (o : Option Place) → place_of slots k ≡ o
      → option_and_then (at es') o ≡ option_and_then (at es) o
  same_line k other None h = refl
  same_line k other (Some p) h = go (place_eq s.place p) refl
    where
      go : (b : Bool) → place_eq s.place p ≡ b → at es' p ≡ at es p
      go false e = spans p ∙ ap (λ b. cond b (Some s) (at es p)) e
      go true e = absurd (apart k other (h ∙ ap Some (sym (place_eq-true s.place p e))))

  put_key : (k : SpanKey) (b : Bool) → key_eq s.key k ≡ b
      → of_key k (values_of es') ≡ option_to_list (option_and_then (at es') (place_of slots' k))
  put_key k true h =
      let e : s.key ≡ k = key_eq-true s.key k h in
      ap (of_key k) values-put
      ∙ filter-put_yes (λ (x : Span). key_eq x.key k) s (values_of es) h
      (subst (λ v. of_key v (values_of es) ≡ []) e key_free)
      ∙ sym (ap (λ o. option_to_list (option_and_then (at es') o))
      (lines k ∙ ap (λ b. cond b (Some s.place) (place_of slots k)) h) ∙ ap option_to_list at_here)
  put_key k false h =
      let line : place_of slots' k ≡ place_of slots k =
      lines k ∙ ap (λ b. cond b (Some s.place) (place_of slots k)) h in
      ap (of_key k) values-put
      ∙ filter-put_no (λ (x : Span). key_eq x.key k) s (values_of es) h
      ∙ tied.at_key k
      ∙ sym (ap (λ o. option_to_list (option_and_then (at es') o)) line
      ∙ ap option_to_list (same_line k h (place_of slots k) refl))

  -- the maps stay tied
  pub tied-put : AreTied slots' es'
  tied-put = record {
    under_place = subst UnderPlace (sym is) (keys-insert es s tied.under_place);
    at_place = λ p. put_place p (place_eq s.place p) refl;
    at_key = λ k. put_key k (key_eq s.key k) refl;
    held = held';
  }

-- ---- a span is removed

pub without-none : (k : SpanKey) (xs : List Span) → of_key k xs ≡ [] → without k xs ≡ xs
without-none k [] e = refl
without-none k (x ∷ xs) e =
    let n = filter-none (λ (s : Span). key_eq s.key k) x xs e in
    filter-yes (λ (s : Span). not (key_eq s.key k)) x xs (ap not n.0)
    ∙ ap (λ v. x ∷ v) (without-none k xs n.1)

without-other : (k j : SpanKey) (xs : List Span) → key_eq k j ≡ false
    → without k (of_key j xs) ≡ of_key j xs
without-other k j [] e = refl
without-other k j (x ∷ xs) e = go (key_eq x.key j) refl (without-other k j xs e)
  where
    apart : key_eq x.key j ≡ true → key_eq x.key k ≡ true → ⊥
    apart p q =
        false≢true (sym e ∙ key_eq-from k j (sym (key_eq-true x.key k q) ∙ key_eq-true x.key j p))

    head : (b : Bool) → key_eq x.key k ≡ b → key_eq x.key j ≡ true
        → without k (x ∷ of_key j xs) ≡ x ∷ without k (of_key j xs)
    head true q p = absurd (apart p q)
    head false q p = filter-yes (λ (s : Span). not (key_eq s.key k)) x (of_key j xs) (ap not q)

    go : (b : Bool) → key_eq x.key j ≡ b → without k (of_key j xs) ≡ of_key j xs
        → without k (cond b (x ∷ of_key j xs) (of_key j xs))
        ≡ cond b (x ∷ of_key j xs) (of_key j xs)
    go true p ih = head (key_eq x.key k) refl p ∙ ap (λ v. x ∷ v) ih
    go false p ih = ih

-- the only element of a filtered list passes the filter
one-passes : {X : Type 0} (p : X → Bool) (x : X) (xs : List X) → filter p xs ≡ x ∷ [] → p x ≡ true
one-passes p x [] e = absurd cc
one-passes p x (y ∷ xs) e = go (p y) refl (one-passes p x xs)
  where
    go : (b : Bool) → p y ≡ b → (filter p xs ≡ x ∷ [] → p x ≡ true) → p x ≡ true
    go true h ih =
        let f : y ∷ filter p xs ≡ x ∷ [] = sym (filter-yes p y xs h) ∙ e in let same : y ≡ x = cc in
        ap p (sym same) ∙ h
    go false h ih = ih (sym (filter-no p y xs h) ∙ e)

-- what a place holds that no span of a key has
found-none : (es : List (Place × Span)) (p : Place) (k : SpanKey) (s : Span) → at es p ≡ Some s
    → s.key ≡ k → of_key k (values_of es) ≡ [] → ⊥
found-none [] p k s h key e = cc
found-none (x ∷ es) p k s h key e = go (is_at (place_cmp p) x.0) refl (found-none es p k s)
  where
    none : (key_eq x.1.key k ≡ false) × (of_key k (values_of es) ≡ [])
    none = filter-none (λ (y : Span). key_eq y.key k) x.1 (values_of es) e

    go : (b : Bool) → is_at (place_cmp p) x.0 ≡ b
        → (at es p ≡ Some s → s.key ≡ k → of_key k (values_of es) ≡ [] → ⊥) → ⊥
    go true q ih =
        let f : Some x.1 ≡ Some s = sym (ap (λ b. cond b (Some x.1) (at es p)) q) ∙ h in
        let same : x.1 ≡ s = cc in
        false≢true (sym none.0 ∙ key_eq-from x.1.key k (ap (λ (y : Span). y.key) same ∙ key))
    go false q ih = ih (sym (ap (λ b. cond b (Some x.1) (at es p)) q) ∙ h) key none.1

values-remove : (es : List (Place × Span)) (p : Place) (k : SpanKey) (s : Span) → at es p ≡ Some s
    → of_key k (values_of es) ≡ s ∷ [] → s.key ≡ k
    → values_of (remove_entry (is_at (place_cmp p)) es) ≡ without k (values_of es)
values-remove [] p k s h one key = cc
values-remove (x ∷ es) p k s h one key =
    go (is_at (place_cmp p) x.0) refl (key_eq x.1.key k) refl (values-remove es p k s)
  where
    go : (b : Bool) → is_at (place_cmp p) x.0 ≡ b → (c : Bool) → key_eq x.1.key k ≡ c
        → (at es p ≡ Some s → of_key k (values_of es) ≡ s ∷ [] → s.key ≡ k
        → values_of (remove_entry (is_at (place_cmp p)) es) ≡ without k (values_of es))
        → values_of (cond b es (x ∷ remove_entry (is_at (place_cmp p)) es))
        ≡ cond (not c) (x.1 ∷ without k (values_of es)) (without k (values_of es))
    go true h' true q ih =
        let two : x.1 ∷ of_key k (values_of es) ≡ s ∷ [] =
        sym (filter-yes (λ (y : Span). key_eq y.key k) x.1 (values_of es) q) ∙ one in
        let rest : of_key k (values_of es) ≡ [] = cc in
        sym (without-none k (values_of es) rest)
    go true h' false q ih =
        let f : Some x.1 ≡ Some s = sym (ap (λ b. cond b (Some x.1) (at es p)) h') ∙ h in
        let same : x.1 ≡ s = cc in
        absurd (false≢true (sym q ∙ key_eq-from x.1.key k (ap (λ (y : Span). y.key) same ∙ key)))
    go false h' true q ih =
        let two : x.1 ∷ of_key k (values_of es) ≡ s ∷ [] =
        sym (filter-yes (λ (y : Span). key_eq y.key k) x.1 (values_of es) q) ∙ one in
        let rest : of_key k (values_of es) ≡ [] = cc in
        absurd (found-none es p k s (sym (ap (λ b. cond b (Some x.1) (at es p)) h') ∙ h) key rest)
    go false h' false q ih =
        ap (λ v. x.1 ∷ v)
        (ih (sym (ap (λ b. cond b (Some x.1) (at es p)) h') ∙ h)
        (sym (filter-no (λ (y : Span). key_eq y.key k) x.1 (values_of es) q) ∙ one) key)

module _ (slots : List (OwnedTestInstanceId × ℕ)) (es : List (Place × Span))
    (tied : AreTied slots es) where
  -- the span of a key that is open is the one at its place
  pub open-one : (k : SpanKey) (p : Place) (s : Span) → place_of slots k ≡ Some p → at es p ≡ Some s
      → of_key k (values_of es) ≡ s ∷ []
  open-one k p s line found =
      tied.at_key k ∙ ap (λ o. option_to_list (option_and_then (at es) o)) line
      ∙ ap option_to_list found

  pub key-one : (k : SpanKey) (p : Place) (s : Span) → place_of slots k ≡ Some p → at es p ≡ Some s
      → s.key ≡ k
  key-one k p s line found =
      key_eq-true s.key k
      (one-passes (λ (x : Span). key_eq x.key k) s (values_of es) (open-one k p s line found))

  pub place-one : (p : Place) (s : Span) → at es p ≡ Some s → place_eq p s.place ≡ true
  place-one p s found =
      one-passes (λ (x : Span). place_eq p x.place) s (values_of es)
      (tied.at_place p ∙ ap option_to_list found)

  -- no two keys have one place at which a span stands
  pub places-apart : (k j : SpanKey) (p : Place) (s : Span) → place_of slots k ≡ Some p
      → place_of slots j ≡ Some p → at es p ≡ Some s → key_eq k j ≡ false → ⊥
  places-apart k j p s line_k line_j found other =
      false≢true
      (sym other ∙ key_eq-from k j (sym (key-one k p s line_k found) ∙ key-one j p s line_j found))

module _ (slots slots' : List (OwnedTestInstanceId × ℕ)) (es es' : List (Place × Span))
    (k : SpanKey) (p : Place) (s : Span) (tied : AreTied slots es)
    (line : place_of slots k ≡ Some p) (found : at es p ≡ Some s)
    (is : es' ≡ remove_entry (is_at (place_cmp p)) es)
    (spans : (q : Place) → at es' q ≡ cond (place_eq p q) None (at es q))
    (others : (q : SpanKey) → key_eq k q ≡ false → place_of slots' q ≡ place_of slots q)
    (gone : option_and_then (at es') (place_of slots' k) ≡ None)
    (held' : (t : OwnedTestInstanceId) (n : ℕ) → slot_of slots' t ≡ Some n
    → IsSome (at es' (places.Slot n))) where
  one : of_key k (values_of es) ≡ s ∷ []
  one = open-one slots es tied k p s line found

  key : s.key ≡ k
  key = key-one slots es tied k p s line found

  -- the spans in their order
  pub values-take : values_of es' ≡ without k (values_of es)
  values-take = ap values_of is ∙ values-remove es p k s found one key

  gone_one : without k (s ∷ []) ≡ []
  gone_one = filter-no (λ (x : Span). not (key_eq x.key k)) s [] (ap not (key_eq-from s.key k key))

  kept : (q : Place) → place_eq p q ≡ false → (o : Option Span) → at es q ≡ o
      → without k (option_to_list o) ≡ option_to_list o
  kept q apart None e = refl
  kept q apart (Some x) e = go (key_eq x.key k) refl
    where
      go : (b : Bool) → key_eq x.key k ≡ b → without k (x ∷ []) ≡ x ∷ []
      go false h = filter-yes (λ (y : Span). not (key_eq y.key k)) x [] (ap not h)
      go true h =
          let left : of_key k (in_place q (values_of es)) ≡ x ∷ [] =
          ap (of_key k) (tied.at_place q ∙ ap option_to_list e)
          ∙ filter-yes (λ (y : Span). key_eq y.key k) x [] h in
          let here : p ≡ s.place = place_eq-true p s.place (place-one slots es tied p s found) in
          let away : place_eq q s.place ≡ false =
          place_eq-other s.place q (ap (λ v. place_eq v q) (sym here) ∙ apart) in
          let right : in_place q (of_key k (values_of es)) ≡ [] =
          ap (in_place q) one ∙ filter-no (λ (y : Span). place_eq q y.place) s [] away in
          let swap = filter_comm (λ (y : Span). key_eq y.key k) (λ (y : Span). place_eq q y.place)
          (values_of es) in
          let wrong : x ∷ [] ≡ [] = sym left ∙ (swap ∙ right) in cc

  take_place : (q : Place) (b : Bool) → place_eq p q ≡ b
      → in_place q (values_of es') ≡ option_to_list (at es' q)
  take_place q true h =
      let e : p ≡ q = place_eq-true p q h in
      ap (in_place q) values-take
      ∙ filter_comm (λ (y : Span). place_eq q y.place) (λ (y : Span). not (key_eq y.key k))
      (values_of es)
      ∙ ap (without k) (tied.at_place q ∙ ap option_to_list (ap (at es) (sym e) ∙ found))
      ∙ gone_one
      ∙ sym (ap option_to_list (spans q ∙ ap (λ b. cond b None (at es q)) h))
  take_place q false h =
      ap (in_place q) values-take
      ∙ filter_comm (λ (y : Span). place_eq q y.place) (λ (y : Span). not (key_eq y.key k))
      (values_of es)
      ∙ ap (without k) (tied.at_place q)
      ∙ kept q h (at es q) refl
      ∙ sym (ap option_to_list (spans q ∙ ap (λ b. cond b None (at es q)) h))

  other_line : (q : SpanKey) → key_eq k q ≡ false → (o : Option Place) → place_of slots q ≡ o
      → option_and_then (at es') o ≡ option_and_then (at es) o
  other_line q other None h = refl
  other_line q other (Some v) h = go (place_eq p v) refl
    where
      go : (b : Bool) → place_eq p v ≡ b → at es' v ≡ at es v
      go false e = spans v ∙ ap (λ b. cond b None (at es v)) e
      go true e =
          absurd (places-apart slots es tied k q p s line (h ∙ ap Some (sym (place_eq-true p v e)))
          found other)

  take_key : (q : SpanKey) (b : Bool) → key_eq k q ≡ b
      → of_key q (values_of es') ≡ option_to_list (option_and_then (at es') (place_of slots' q))
  take_key q true h =
      let e : k ≡ q = key_eq-true k q h in
      ap (of_key q) values-take
      ∙ filter_comm (λ (y : Span). key_eq y.key q) (λ (y : Span). not (key_eq y.key k))
      (values_of es)
      ∙ ap (λ v. without k (of_key v (values_of es))) (sym e)
      ∙ ap (without k) one
      ∙ gone_one
      ∙ sym (ap (λ v. option_to_list (option_and_then (at es') (place_of slots' v))) (sym e)
      ∙ ap option_to_list gone)
  take_key q false h =
      ap (of_key q) values-take
      ∙ filter_comm (λ (y : Span). key_eq y.key q) (λ (y : Span). not (key_eq y.key k))
      (values_of es)
      ∙ without-other k q (values_of es) h
      ∙ tied.at_key q
      ∙ sym (ap (λ o. option_to_list (option_and_then (at es') o)) (others q h)
      ∙ ap option_to_list (other_line q h (place_of slots q) refl))

  -- the maps stay tied
  pub tied-take : AreTied slots' es'
  tied-take = record {
    under_place = subst UnderPlace (sym is) (keys-remove (is_at (place_cmp p)) es tied.under_place);
    at_place = λ q. take_place q (place_eq p q) refl;
    at_key = λ q. take_key q (key_eq k q) refl;
    held = held';
  }
