-- Run ids in a map by their texts, and the shortest prefix that stands for one.
use Rattle.std.proofs.Common.{◌≡◌, ◌≢◌, ◌⊎◌, ◌↔◌, inl, inr, ℕ, zero, suc, ◌+◌, ◌<◌, ◌≤◌, List}
use Rattle.std.proofs.Common.{[], ◌∷◌, ◌++◌, length, take, drop, max, slice_index_or, Bool}
use Rattle.std.proofs.Common.{true, false, cond, nat_lt, Option, Some, None, is_some, IsSome}
use Rattle.std.proofs.Common.{Ordering, Less, Equal, Greater, String, Global, string_bytes}
use Rattle.std.proofs.Common.{string_cmp, refl, sym, ap, ◌∙◌, subst, arith, true≢false}
use Rattle.std.proofs.lemmas.Bool.Decides.{nat_tests}
use Rattle.std.proofs.lemmas.Bool.{cases_lt}
use Rattle.std.proofs.lemmas.List.{take-append-drop}
use Rattle.std.proofs.lemmas.Map.Text.{is_eq-slice_cmp}
use Rattle.std.proofs.lemmas.Slice.Eq.{bytes_eq-Decides}
use Rattle.std.specs.BTreeMap.{BTreeMap, get, insert_entry, is_at}
use Rattle.std.specs.Cmp.Lexicographic.{slice_cmp, nat_list_cmp_total}
use Rattle.std.specs.List.{Contains}
use Rattle.std.specs.Map.{lookup}
use Rattle.std.specs.Ordering.{nat_cmp, match_ordering, is_lt, is_gt, is_eq, ordering_reverse}
use Rattle.std.specs.Str.{bytes_eq, IsAscii}
use Rattle.uuid.proofs.TextLemmas.{by_index_length, by_index_ascii, hex_digit_ascii, nibble_small}
use Rattle.uuid.specs.Text.{parsed, lower, nibble, digit_place, is_hyphen_place}
use Rattle.rec_format.proofs.SharedTexts.{shared, shared_below, shared_above, shared_short}
use Rattle.rec_format.proofs.SharedTexts.{shared_prefix, shared_take, apart, same}
use Rattle.rec_format.specs.declared.run_ids.ShortestRunIdPrefix.{ShortestRunIdPrefix}
use Rattle.rec_format.specs.RunIdEntries.{IsTextOf, AreTexts, ids_in, common}
use Rattle.rec_format.specs.RunIdEntries.{IsMostShared, IsBelow, IsAbove}
use Rattle.rec_format.specs.RunIds.{id_text, BeginsWith, IsUnique, IsShortest}

abbrev Entries : Type 0
Entries = List (String Global × List ℕ)

-- ---- items of lists

pub here : {X : Type 0} (x : X) (xs : List X) → Contains (x ∷ xs) x
here x xs = (zero, omega arith, refl)

pub there : {X : Type 0} (x y : X) (xs : List X) → Contains xs y → Contains (x ∷ xs) y
there x y xs h = (suc h.0, omega (arith, h.1), h.2)

first_or_more : {X : Type 0} (x y : X) (xs : List X) (k : ℕ) → k < length (x ∷ xs)
    → slice_index_or (x ∷ xs) k y ≡ y → (x ≡ y) ⊎ Contains xs y
first_or_more x y xs zero h is = inl is
first_or_more x y xs (suc k) h is = inr (k, omega (arith, h), is)

pub first_or : {X : Type 0} (x y : X) (xs : List X) → Contains (x ∷ xs) y → (x ≡ y) ⊎ Contains xs y
first_or x y xs h = first_or_more x y xs h.0 h.1 h.2

pub nothing_in : {X : Type 0} (y : X) → Contains [] y → ⊥
nothing_in y h = omega (arith, h.1)

-- ---- texts of ids

some_same : {X : Type 0} (x y : X) → Some x ≡ Some y → x ≡ y
some_same x y e = cc e

-- two ids with one text are one
pub id_same : (a b : List ℕ) (s t : String Global) → IsTextOf a s → IsTextOf b t
    → string_bytes s ≡ string_bytes t → a ≡ b
id_same a b s t ha hb e = some_same a b (sym ha.back ∙ ap parsed e ∙ hb.back)

pub text_length : (id : List ℕ) (s : String Global) → IsTextOf id s → length (string_bytes s) ≡ 36
text_length id s h = ap length h.is ∙ by_index_length 36 _

-- no byte of it is above ASCII
ascii_by : (b : Bool) (d : ℕ) → d < 128 → cond b 45 d < 128
ascii_by true d h = omega arith
ascii_by false d h = h

pub text_ascii : (id : List ℕ) (s : String Global) → IsTextOf id s → IsAscii (string_bytes s)
text_ascii id s h =
    rw h.is (by_index_ascii 36 _ (λ k _. ascii_by (is_hyphen_place k) _ (hex_digit_ascii lower
    (nibble id (digit_place k)) (inl refl) (nibble_small id (digit_place k)))))

-- ---- entries

-- what stands at a text
abbrev pub found : List ℕ → Entries → Option (List ℕ)
found text es = lookup (is_at (λ k. slice_cmp nat_cmp text (string_bytes k))) es

at_same : (x y : List ℕ) → x ≡ y → is_eq (slice_cmp nat_cmp x y) ≡ true
at_same x y e = is_eq-slice_cmp x y ∙ (bytes_eq-Decides x y).1 e

same_at : (x y : List ℕ) → is_eq (slice_cmp nat_cmp x y) ≡ true → x ≡ y
same_at x y h = (bytes_eq-Decides x y).0 (sym (is_eq-slice_cmp x y) ∙ h)

pub key_in : (es : Entries) (id : List ℕ) → AreTexts es → Contains (ids_in es) id
    → (key : String Global) × IsTextOf id key
key_in [] id all h = absurd (nothing_in id h)
key_in (e ∷ es) id all h =
    elim (first_or e.1 id (ids_in es) h) [
      | inl is ↦ (e.0, subst (λ x. IsTextOf x e.0) is all.0)
      | inr more ↦ key_in es id all.1 more
    ]

found_by : (b : Bool) (e : String Global × List ℕ) (es : Entries) (id : List ℕ)
    (key : String Global)
    → IsTextOf e.1 e.0 → IsTextOf id key
    → is_eq (slice_cmp nat_cmp (string_bytes key) (string_bytes e.0)) ≡ b
    → (e.1 ≡ id) ⊎ Contains (ids_in es) id
    → (Contains (ids_in es) id → found (string_bytes key) es ≡ Some id)
    → cond b (Some e.1) (found (string_bytes key) es) ≡ Some id
found_by true e es id key he h is c next =
    ap Some (id_same e.1 id e.0 key he h (sym (same_at _ _ is)))
found_by false e es id key he h is c next =
    elim c [
      | inl one ↦
          absurd (true≢false (sym (at_same _ _ (h.is ∙ ap id_text (sym one) ∙ sym he.is)) ∙ is))
      | inr more ↦ next more
    ]

-- an id that is there stands at its text
pub found_at : (es : Entries) (id : List ℕ) (key : String Global) → AreTexts es → IsTextOf id key
    → Contains (ids_in es) id → found (string_bytes key) es ≡ Some id
found_at [] id key all h c = absurd (nothing_in id c)
found_at (e ∷ es) id key all h c =
    found_by (is_eq (slice_cmp nat_cmp (string_bytes key) (string_bytes e.0)))
    e es id key all.0 h refl (first_or e.1 id (ids_in es) c) (found_at es id key all.1 h)

-- what stands at a text is an id with this text
pub record IsFound (es : Entries) (text : List ℕ) (id : List ℕ) : Type 0 where
  pub among : Contains (ids_in es) id
  pub is : id_text id ≡ text
  pub back : parsed text ≡ Some id

entry_by : (b : Bool) (e : String Global × List ℕ) (es : Entries) (text id : List ℕ)
    → IsTextOf e.1 e.0 → is_eq (slice_cmp nat_cmp text (string_bytes e.0)) ≡ b
    → cond b (Some e.1) (found text es) ≡ Some id → (found text es ≡ Some id → IsFound es text id)
    → IsFound (e ∷ es) text id
entry_by true e es text id he at is next =
    let one = some_same e.1 id is in
    let alike = same_at _ _ at in
    record {
      among = (zero, omega arith, one);
      is = ap id_text (sym one) ∙ sym he.is ∙ sym alike;
      back = ap parsed alike ∙ he.back ∙ is;
    }
entry_by false e es text id he at is next =
    let more = next is in
    record { among = there e.1 id (ids_in es) more.among; is = more.is; back = more.back }

pub entry_at : (es : Entries) (text id : List ℕ) → AreTexts es → found text es ≡ Some id
    → IsFound es text id
entry_at [] text id all h = absurd (cc h)
entry_at (e ∷ es) text id all h =
    entry_by (is_eq (slice_cmp nat_cmp text (string_bytes e.0))) e es text id all.0 refl h
    (entry_at es text id all.1)

-- ---- an entry put among others

abbrev put : Entries → String Global → List ℕ → Entries
put es k id = insert_entry string_cmp es k id

texts_by : (o : Ordering) (e : String Global × List ℕ) (es : Entries) (k : String Global)
    (id : List ℕ)
    → AreTexts (e ∷ es) → IsTextOf id k → string_cmp k e.0 ≡ o
    → AreTexts (put es k id)
    → AreTexts (match_ordering o ((k, id) ∷ e ∷ es) ((e.0, id) ∷ es) (e ∷ put es k id))
texts_by Less e es k id all h is more = (h, all)
texts_by Equal e es k id all h is more =
    let alike = same (string_bytes k) (string_bytes e.0) is in
    (record { is = sym alike ∙ h.is; back = ap parsed (sym alike) ∙ h.back }, all.1)
texts_by Greater e es k id all h is more = (all.0, more)

pub AreTexts-put : (es : Entries) (k : String Global) (id : List ℕ) → AreTexts es → IsTextOf id k
    → AreTexts (insert_entry string_cmp es k id)
AreTexts-put [] k id all h = (h, tt)
AreTexts-put (e ∷ es) k id all h =
    texts_by (string_cmp k e.0) e es k id all h refl (AreTexts-put es k id all.1 h)

-- among the ids are the one that was put and those that were there
abbrev IsAdded : List (List ℕ) → List ℕ → List (List ℕ) → List ℕ → Type 0
IsAdded ids id more x = Contains more x ↔ ((id ≡ x) ⊎ Contains ids x)

cons_added : (id x : List ℕ) (ids : List (List ℕ)) → IsAdded ids id (id ∷ ids) x
cons_added id x ids = (
  first_or id x ids,
  λ h. elim h [ inl is ↦ (zero, omega arith, is) | inr more ↦ there id x ids more ],
)

added_by : (o : Ordering) (e : String Global × List ℕ) (es : Entries) (k : String Global)
    (id x : List ℕ)
    → AreTexts (e ∷ es) → IsTextOf id k → string_cmp k e.0 ≡ o
    → IsAdded (ids_in es) id (ids_in (put es k id)) x
    → IsAdded (ids_in (e ∷ es)) id
    (ids_in (match_ordering o ((k, id) ∷ e ∷ es) ((e.0, id) ∷ es) (e ∷ put es k id))) x
added_by Less e es k id x all h is next = cons_added id x (ids_in (e ∷ es))
added_by Equal e es k id x all h is next =
    let one : e.1 ≡ id =
    id_same e.1 id e.0 k all.0 h (sym (same (string_bytes k) (string_bytes e.0) is)) in
    let plain = cons_added id x (ids_in es) in (
      λ c. elim (plain.0 c) [ inl new ↦ inl new | inr more ↦ inr (there e.1 x (ids_in es) more) ],
      λ c. elim c [
        | inl new ↦ plain.1 (inl new)
        | inr old ↦ elim (first_or e.1 x (ids_in es) old) [
          | inl first ↦ plain.1 (inl (sym one ∙ first))
          | inr more ↦ plain.1 (inr more)
        ]
      ],
    )
added_by Greater e es k id x all h is next = (
  λ c. elim (first_or e.1 x (ids_in (put es k id)) c) [
    | inl first ↦ inr (zero, omega arith, first)
    | inr more ↦
        elim (next.0 more) [ inl new ↦ inl new | inr old ↦ inr (there e.1 x (ids_in es) old) ]
  ],
  λ c. elim c [
    | inl new ↦ there e.1 x (ids_in (put es k id)) (next.1 (inl new))
    | inr old ↦ elim (first_or e.1 x (ids_in es) old) [
      | inl first ↦ (zero, omega arith, first)
      | inr more ↦ there e.1 x (ids_in (put es k id)) (next.1 (inr more))
    ]
  ],
)

added : (es : Entries) (k : String Global) (id x : List ℕ) → AreTexts es → IsTextOf id k
    → IsAdded (ids_in es) id (ids_in (put es k id)) x
added [] k id x all h = cons_added id x []
added (e ∷ es) k id x all h =
    added_by (string_cmp k e.0) e es k id x all h refl (added es k id x all.1 h)

-- what is put and what is still to be put are all ids
pub record IsPartOf (all : List (List ℕ)) (es : Entries) (rest : List (List ℕ)) : Type 0 where
  pub texts : AreTexts es
  pub same : (id : List ℕ) → Contains all id ↔ (Contains (ids_in es) id ⊎ Contains rest id)

pub IsPartOf-start : (all : List (List ℕ)) → IsPartOf all [] all
IsPartOf-start all = record {
  texts = tt;
  same = λ id. (λ c. inr c, λ c. elim c [ inl none ↦ absurd (nothing_in id none) | inr is ↦ is ]);
}

pub IsPartOf-put : (all rest : List (List ℕ)) (es : Entries) (k : String Global) (id : List ℕ)
    → IsPartOf all es (id ∷ rest) → IsTextOf id k
    → IsPartOf all (insert_entry string_cmp es k id) rest
IsPartOf-put all rest es k id part h = record {
  texts = AreTexts-put es k id part.texts h;
  same = λ x.
      let put_is = added es k id x part.texts h in (
        λ c. elim ((part.same x).0 c) [
          | inl old ↦ inl (put_is.1 (inr old))
          | inr more ↦ elim (first_or id x rest more) [
            | inl new ↦ inl (put_is.1 (inl new))
            | inr left ↦ inr left
          ]
        ],
        λ c. elim c [
          | inl now ↦ elim (put_is.0 now) [
            | inl new ↦ (part.same x).1 (inr (zero, omega arith, new))
            | inr old ↦ (part.same x).1 (inl old)
          ]
          | inr left ↦ (part.same x).1 (inr (there id x rest left))
        ],
      );
}

pub IsPartOf-end : (all : List (List ℕ)) (es : Entries) → IsPartOf all es [] → (id : List ℕ)
    → Contains (ids_in es) id ↔ Contains all id
IsPartOf-end all es part id = (
  λ c. (part.same id).1 (inl c),
  λ c. elim ((part.same id).0 c) [ inl is ↦ is | inr none ↦ absurd (nothing_in id none) ],
)

-- ---- the shortest prefix

abbrev pub IsApart : String Global → String Global → Type 0
IsApart text key = string_bytes key ≢ string_bytes text

bound_by : (o : Ordering) (m : BTreeMap (String Global) (List ℕ)) (text key : String Global)
    (lo hi n : ℕ)
    → string_cmp key text ≡ o
    → IsMostShared (IsBelow text) m text lo → IsMostShared (IsAbove text) m text hi → lo ≤ n
    → hi ≤ n → IsApart text key → IsSome (get string_cmp m key) → common key text ≤ n
bound_by Less m text key lo hi n is below above l h apart_is some =
    let most = below.bound key is some in omega (arith, most, l)
bound_by Equal m text key lo hi n is below above l h apart_is some =
    absurd (apart_is (same (string_bytes key) (string_bytes text) is))
bound_by Greater m text key lo hi n is below above l h apart_is some =
    let other : string_cmp text key ≡ Less =
    nat_list_cmp_total.antisymm (string_bytes text) (string_bytes key) ∙ ap ordering_reverse is in
    let most = above.bound key other some in
    omega (arith, most, h)

apart_above : (text key : String Global) → IsAbove text key → IsApart text key
apart_above text key h e = apart (string_bytes text) (string_bytes key) h (sym e)

-- the nearest on both sides share the most
on_both_sides : (m : BTreeMap (String Global) (List ℕ)) (text : String Global) (lo hi n : ℕ)
    → IsMostShared (IsBelow text) m text lo → IsMostShared (IsAbove text) m text hi
    → lo ≤ n → hi ≤ n → (n ≡ lo) ⊎ (n ≡ hi) → IsMostShared (IsApart text) m text n
on_both_sides m text lo hi n below above l h one = record {
  bound =
      λ key apart_is some.
      bound_by (string_cmp key text) m text key lo hi n refl below above l h apart_is some;
  reached = elim one [
    | inl is ↦ elim below.reached [
      | inl none ↦ inl (is ∙ none)
      | inr at ↦ inr (at.0, apart (string_bytes at.0) (string_bytes text) at.1, at.2, at.3 ∙ sym is)
    ]
    | inr is ↦ elim above.reached [
      | inl none ↦ inl (is ∙ none)
      | inr at ↦ inr (at.0, apart_above text at.0 at.1, at.2, at.3 ∙ sym is)
    ]
  ];
}

-- the greatest key below the text shares the most of those below
pub most_below : (m : BTreeMap (String Global) (List ℕ)) (text key : String Global) (n : ℕ)
    → n ≡ common key text → IsBelow text key → IsSome (get string_cmp m key)
    → ((q : String Global) → IsBelow text q → IsSome (get string_cmp m q)
    → is_lt (string_cmp key q) ≡ false)
    → IsMostShared (IsBelow text) m text n
most_below m text key n is below some greatest = record {
  bound =
      λ q q_below q_some. rw is (shared_below (string_bytes q) (string_bytes key)
      (string_bytes text) (greatest q q_below q_some) below);
  reached = inr (key, below, some, sym is);
}

-- the least key above the text shares the most of those above
pub most_above : (m : BTreeMap (String Global) (List ℕ)) (text key : String Global) (n : ℕ)
    → n ≡ common key text → IsAbove text key → IsSome (get string_cmp m key)
    → ((q : String Global) → IsAbove text q → IsSome (get string_cmp m q)
    → is_gt (string_cmp key q) ≡ false)
    → IsMostShared (IsAbove text) m text n
most_above m text key n is above some least = record {
  bound =
      λ q q_above q_some. rw is (shared_above (string_bytes q) (string_bytes key)
      (string_bytes text) (least q q_above q_some) above);
  reached = inr (key, above, some, sym is);
}

one_of : (lo hi n : ℕ) → n ≡ max lo hi → (n ≡ lo) ⊎ (n ≡ hi)
one_of lo hi n is = elim (cases_lt lo hi) [
  | inl under ↦ inr (omega (arith, is, under))
  | inr over ↦ inl (omega (arith, is, over))
]

pub most_apart : (m : BTreeMap (String Global) (List ℕ)) (text : String Global) (lo hi n : ℕ)
    → IsMostShared (IsBelow text) m text lo → IsMostShared (IsAbove text) m text hi
    → n ≡ max lo hi → IsMostShared (IsApart text) m text n
most_apart m text lo hi n below above is =
    on_both_sides m text lo hi n below above (omega (arith, is)) (omega (arith, is))
    (one_of lo hi n is)

value_in : {X : Type 0} (o : Option X) → IsSome o → (x : X) × (o ≡ Some x)
value_in None h = absurd (true≢false (sym h))
value_in (Some x) h = (x, refl)

take_prefix : (xs ys : List ℕ) → take (length xs) (xs ++ ys) ≡ xs
take_prefix [] ys = refl
take_prefix (x ∷ xs) ys = ap (λ more. x ∷ more) (take_prefix xs ys)

take_length : (n : ℕ) (xs : List ℕ) → n ≤ length xs → length (take n xs) ≡ n
take_length zero xs h = refl
take_length (suc n) [] h = absurd (omega (arith, h))
take_length (suc n) (x ∷ xs) h = ap suc (take_length n xs (omega (arith, h)))

module _ (m : BTreeMap (String Global) (List ℕ)) (id : List ℕ) (text : String Global) (n : ℕ)
    (all : AreTexts m.entries) (h : IsTextOf id text)
    (there_is : IsSome (found (string_bytes text) m.entries))
    (most : IsMostShared (IsApart text) m text n) where
  -- the key and the id of an entry
  entry_of : (key : String Global) → IsSome (get string_cmp m key)
      → (other : List ℕ) × IsFound m.entries (string_bytes key) other
  entry_of key some =
      let v = value_in (get string_cmp m key) some in
      (v.0, entry_at m.entries (string_bytes key) v.0 all v.1)

  pub fits : n < length (string_bytes text)
  fits =
      elim most.reached [
        | inl none ↦ let long = text_length id text h in omega (arith, none, long)
        | inr at ↦
            let e = entry_of at.0 at.2 in
            let long : length (string_bytes at.0) ≡ 36 =
            ap length (sym e.1.is) ∙ by_index_length 36 _ in
            let short = shared_short (string_bytes at.0) (string_bytes text)
            (long ∙ sym (text_length id text h)) at.1 in
            rw at.3 at short
      ]

  known_id : Contains (ids_in m.entries) id
  known_id =
      let v = value_in (found (string_bytes text) m.entries) there_is in
      let e = entry_at m.entries (string_bytes text) v.0 all v.1 in
      subst (λ x. Contains (ids_in m.entries) x) (some_same v.0 id (sym e.back ∙ h.back)) e.among

  unique_by : (b : Bool) (prefix rest : List ℕ) (other : List ℕ) (key : String Global)
      → bytes_eq (string_bytes key) (string_bytes text) ≡ b
      → prefix ++ rest ≡ string_bytes text → length prefix ≡ n + 1
      → Contains (ids_in m.entries) other → IsTextOf other key → BeginsWith prefix (id_text other)
      → other ≡ id
  unique_by true prefix rest other key is whole long c ho begins =
      id_same other id key text ho h ((bytes_eq-Decides _ _).0 is)
  unique_by false prefix rest other key is whole long c ho begins =
      let apart_is : IsApart text key = λ e. true≢false (sym ((bytes_eq-Decides _ _).1 e) ∙ is) in
      let at : found (string_bytes key) m.entries ≡ Some other =
      found_at m.entries other key all ho c in
      let bound : common key text ≤ n = most.bound key apart_is (ap is_some at) in
      let both : length prefix ≤ shared (prefix ++ begins.0) (prefix ++ rest) =
      shared_prefix prefix begins.0 rest in
      let reaches : length prefix ≤ common key text = rw (begins.1 ∙ sym ho.is, whole) at both in
      absurd (omega (arith, reaches, bound, long))

  shorter_by : (p r : List ℕ) → p ++ r ≡ string_bytes text → 0 < length p
      → IsUnique (ids_in m.entries) id p → length p ≤ n → ⊥
  shorter_by p r is some unique le =
      elim most.reached [
        | inl none ↦ omega (arith, none, some, le)
        | inr at ↦
            let e = entry_of at.0 at.2 in
            let key = string_bytes at.0 in
            let within : length p ≤ shared key (string_bytes text) = rw at.3 le in
            let start : p ≡ take (length p) key =
            sym (take_prefix p r) ∙ ap (take (length p)) is
            ∙ shared_take (length p) key (string_bytes text) within in
            let begins : p ++ drop (length p) key ≡ id_text e.0 =
            ap (λ q. q ++ drop (length p) key) start ∙ take-append-drop (length p) key
            ∙ sym e.1.is in
            let one : e.0 ≡ id = unique e.0 e.1.among (drop (length p) key, begins) in
            at.1 (sym e.1.is ∙ ap id_text one ∙ sym h.is)
      ]

  length_by : (b : Bool) (p r : List ℕ) → nat_lt n (length p) ≡ b → p ++ r ≡ string_bytes text
      → 0 < length p → IsUnique (ids_in m.entries) id p → n + 1 ≤ length p
  length_by true p r is whole some unique = grind (arith, nat_tests, is)
  length_by false p r is whole some unique =
      absurd (shorter_by p r whole some unique (grind (arith, nat_tests, is)))

  pub cut_shortest : (cut : ShortestRunIdPrefix)
      → string_bytes cut.prefix ≡ take (n + 1) (string_bytes text)
      → string_bytes cut.rest ≡ drop (n + 1) (string_bytes text)
      → IsShortest (ids_in m.entries) id cut
  cut_shortest cut prefix_is rest_is =
      let long : length (string_bytes cut.prefix) ≡ n + 1 =
      ap length prefix_is ∙ take_length (n + 1) (string_bytes text) (omega (arith, fits)) in
      let whole : string_bytes cut.prefix ++ string_bytes cut.rest ≡ string_bytes text =
      rw (prefix_is, rest_is) (take-append-drop (n + 1) (string_bytes text)) in
      record {
        known = known_id;
        whole = whole ∙ h.is;
        some = omega (arith, long);
        unique = λ other c begins.
            let k = key_in m.entries other all c in
            unique_by (bytes_eq (string_bytes k.0) (string_bytes text)) (string_bytes cut.prefix)
            (string_bytes cut.rest) other k.0 refl whole long c k.1 begins;
        shortest =
            λ p begins some unique. rw long
            (length_by (nat_lt n (length p)) p begins.0 refl (begins.1 ∙ sym h.is) some unique);
      }

-- an id at whose text nothing stands isn't there
pub not_there : (es : Entries) (id : List ℕ) (text : String Global) → AreTexts es → IsTextOf id text
    → is_some (found (string_bytes text) es) ≡ false → Contains (ids_in es) id → ⊥
not_there es id text all h none c =
    true≢false (sym (ap is_some (found_at es id text all h c)) ∙ none)
