-- The text of a writable value is read as this value, and is UTF-8.
use Rattle.std.proofs.Common.{ap, ap₂, sym, ◌∙◌, arith, append-nil, Less, Greater, IsUtf8}
use Rattle.std.proofs.lemmas.Bool.{or_parts}
use Rattle.std.proofs.lemmas.Str.{IsUtf8-append, IsUtf8-nil}
use Rattle.std.proofs.lemmas.Str.{IsUtf8-from_is_utf8, is_utf8-from_IsUtf8}
use Rattle.std.specs.Cmp.Lexicographic.{slice_cmp, nat_list_cmp_total}
use Rattle.std.specs.List.Sorted.{IsStrictlySortedBy}
use Rattle.std.specs.List.{AllByRecursion}
use Rattle.std.specs.Ordering.{nat_cmp, ordering_reverse}
use Rattle.std.specs.Prelude.{◌≡◌, ◌≤◌, ℕ, max, suc, pos, negsuc, Bool, true, false, List}
use Rattle.std.specs.Prelude.{[], ◌∷◌, ◌++◌, Some, option_map, option_and_then, IsTrue, refl}
use Rattle.std.specs.Str.{is_utf8}
use Rattle.json.proofs.Printed.Decimals.{IsNumber-decimal, IsNumber-signed_decimal}
use Rattle.json.proofs.Printed.Tokens.{tokens-print}
use Rattle.json.proofs.Printed.Trees.{ArePrintable-json_tokens, value-json_tokens}
use Rattle.json.proofs.Printed.Utf8.{IsUtf8-are_ascii, IsUtf8-boolean, IsUtf8-quoted}
use Rattle.json.specs.Json as json
use Rattle.json.specs.Lex.{tokens}
use Rattle.json.specs.Print.{IsNumber, quoted}
use Rattle.json.specs.Token.{Token}
use Rattle.json.specs.Tree as tree
use Rattle.serde_json.proofs.Numbers.{number_of-decimal, number_of-negative}
use Rattle.serde_json.proofs.Texts.{print-outline}
use Rattle.serde_json.specs.Data.{Num, unsigned, negative, float, Data, null, boolean, number}
use Rattle.serde_json.specs.Data.{string, array, object, Items, no_items, item, Members}
use Rattle.serde_json.specs.Data.{no_members, member, put, depth, items_depth, members_depth}
use Rattle.serde_json.specs.Find.{is_float}
use Rattle.serde_json.specs.Read.{number_of, of_json, of_items, of_members, max_depth, read}
use Rattle.serde_json.specs.Written.{number_text, outline, items_outline, members_outline}
use Rattle.serde_json.specs.Written.{has_float, items_have_float, members_have_float}
use Rattle.serde_json.specs.Written.{comma_if, compact_text, items_text, members_text}
use Rattle.rec_json.specs.Tokens.{value_tokens}
use Rattle.rec_events.specs.Names.{AreTexts, Rise}
use Rattle.rec_forms.specs.Canonical.{IsInRange, IsCanonical, AreCanonical}
use Rattle.rec_forms.specs.Canonical.{ValuesAreCanonical, member_keys}
use Rattle.rec_forms.specs.TextLaws.{decimal_ascii}
use Rattle.rec_forms.specs.Writable.{IsWritable}

-- ---- numbers

number_back : (n : Num) → IsInRange n → is_float n ≡ false → number_of (number_text n) ≡ Some n
number_back (unsigned n) h f = number_of-decimal n h
number_back (negative (pos n)) h f = absurd h
number_back (negative (negsuc n)) h f = number_of-negative n h
number_back (float x) h f = absurd cc

IsNumber-number_text : (n : Num) → IsInRange n → is_float n ≡ false → IsNumber (number_text n)
IsNumber-number_text (unsigned n) h f = IsNumber-decimal n h
IsNumber-number_text (negative (pos n)) h f = absurd h
IsNumber-number_text (negative (negsuc n)) h f = IsNumber-signed_decimal (negsuc n) h
IsNumber-number_text (float x) h f = absurd cc

mutual
  HasNumbers-outline : (d : Data) → IsCanonical d → has_float d ≡ false
      → tree.HasNumbers (outline d)
  HasNumbers-outline null c f = tt
  HasNumbers-outline (boolean b) c f = tt
  HasNumbers-outline (number n) c f = IsNumber-number_text n c f
  HasNumbers-outline (string s) c f = tt
  HasNumbers-outline (array ds) c f = ItemsHaveNumbers-outline ds c f
  HasNumbers-outline (object ms) c f = MembersHaveNumbers-outline ms c.2 f

  ItemsHaveNumbers-outline : (ds : Items) → AreCanonical ds → items_have_float ds ≡ false
      → tree.ItemsHaveNumbers (items_outline ds)
  ItemsHaveNumbers-outline no_items c f = tt
  ItemsHaveNumbers-outline (item d ds) c f =
      let p = or_parts (has_float d) _ f in
      (HasNumbers-outline d c.0 p.0, ItemsHaveNumbers-outline ds c.1 p.1)

  MembersHaveNumbers-outline : (ms : Members) → ValuesAreCanonical ms
      → members_have_float ms ≡ false → tree.MembersHaveNumbers (members_outline ms)
  MembersHaveNumbers-outline no_members c f = tt
  MembersHaveNumbers-outline (member k d ms) c f =
      let p = or_parts (has_float d) _ f in
      (HasNumbers-outline d c.0 p.0, MembersHaveNumbers-outline ms c.1 p.1)

-- the text of each number of a writable value is one that JSON reads
pub IsWritable-has_numbers : {n : ℕ} (d : Data) → IsWritable n d → tree.HasNumbers (outline d)
IsWritable-has_numbers d w = HasNumbers-outline d w.canonical w.whole

-- ---- members go in one after another

abbrev joined : Members → Members → Members
joined no_members ms = ms
joined (member k d rest) ms = member k d (joined rest ms)

joined-none : (ms : Members) → joined ms no_members ≡ ms
joined-none no_members = refl
joined-none (member k d ms) = ap (member k d) (joined-none ms)

joined-next : (done : Members) (k : List ℕ) (d : Data) (ms : Members)
    → joined (joined done (member k d no_members)) ms ≡ joined done (member k d ms)
joined-next no_members k d ms = refl
joined-next (member l e done) k d ms = ap (member l e) (joined-next done k d ms)

below_middle : (x : List ℕ) (done : Members) (k : List ℕ) (d : Data) (rest : Members)
    → AllByRecursion (λ y. slice_cmp nat_cmp x y ≡ Less)
    (member_keys (joined done (member k d rest)))
    → slice_cmp nat_cmp x k ≡ Less
below_middle x no_members k d rest h = h.0
below_middle x (member l e done) k d rest h = below_middle x done k d rest h.1

-- a key that is above those before it goes last
put_last : (done : Members) (k : List ℕ) (d : Data) (rest : Members)
    → Rise (member_keys (joined done (member k d rest)))
    → put k d done ≡ joined done (member k d no_members)
unfolding IsStrictlySortedBy
put_last no_members k d rest h = refl
put_last (member l e done) k d rest h =
    let above : slice_cmp nat_cmp k l ≡ Greater =
    nat_list_cmp_total.antisymm k l ∙ ap ordering_reverse (below_middle l done k d rest h.0) in
    rw above (ap (member l e) (put_last done k d rest h.1))

-- ---- values

mutual
  outline_back : (d : Data) → IsCanonical d → has_float d ≡ false → of_json (outline d) ≡ Some d
  outline_back null c f = refl
  outline_back (boolean b) c f = refl
  outline_back (number n) c f = ap (option_map number) (number_back n c f)
  outline_back (string s) c f = refl
  outline_back (array ds) c f = ap (option_map array) (items_back ds c f)
  outline_back (object ms) c f = ap (option_map object) (members_back ms no_members c.1 c.2 f)

  items_back : (ds : Items) → AreCanonical ds → items_have_float ds ≡ false
      → of_items (items_outline ds) ≡ Some ds
  items_back no_items c f = refl
  items_back (item d ds) c f =
      let p = or_parts (has_float d) _ f in
      ap (option_and_then (λ e. option_map (item e) (of_items (items_outline ds))))
      (outline_back d c.0 p.0)
      ∙ ap (option_map (item d)) (items_back ds c.1 p.1)

  members_back : (ms done : Members) → Rise (member_keys (joined done ms)) → ValuesAreCanonical ms
      → members_have_float ms ≡ false
      → of_members (members_outline ms) done ≡ Some (joined done ms)
  members_back no_members done h c f = ap Some (sym (joined-none done))
  members_back (member k d ms) done h c f =
      let p = or_parts (has_float d) _ f in
      let next = joined-next done k d ms in
      ap (option_and_then (λ e. of_members (members_outline ms) (put k e done)))
      (outline_back d c.0 p.0)
      ∙ ap (of_members (members_outline ms)) (put_last done k d ms h)
      ∙ members_back ms (joined done (member k d no_members)) (rw next h) c.1 p.1
      ∙ ap Some next

mutual
  depth-outline : (d : Data) → tree.depth (outline d) ≡ depth d
  depth-outline null = refl
  depth-outline (boolean b) = refl
  depth-outline (number n) = refl
  depth-outline (string s) = refl
  depth-outline (array ds) = ap suc (items_depth-outline ds)
  depth-outline (object ms) = ap suc (members_depth-outline ms)

  items_depth-outline : (ds : Items) → tree.items_depth (items_outline ds) ≡ items_depth ds
  items_depth-outline no_items = refl
  items_depth-outline (item d ds) = ap₂ max (depth-outline d) (items_depth-outline ds)

  members_depth-outline : (ms : Members)
      → tree.members_depth (members_outline ms) ≡ members_depth ms
  members_depth-outline no_members = refl
  members_depth-outline (member k d ms) = ap₂ max (depth-outline d) (members_depth-outline ms)

read-compact_text : (d : Data) → IsCanonical d → has_float d ≡ false → depth d ≤ max_depth
    → read (compact_text d) ≡ Some d
read-compact_text d c f shallow =
    let ts = tree.json_tokens (outline d) in
    let same : tokens (compact_text d) ≡ ts =
    ap tokens (sym (print-outline d))
    ∙ tokens-print ts (ArePrintable-json_tokens (outline d) (HasNumbers-outline d c f)) in
    ap (λ o. option_and_then of_json (option_and_then (λ p. json.if_last p.0 p.1) o))
    (ap (json.value max_depth) (same ∙ sym (append-nil ts))
    ∙ value-json_tokens (outline d) max_depth [] (omega (arith, depth-outline d, shallow)))
    ∙ outline_back d c f

-- ---- the text is UTF-8

number_utf8 : (n : Num) → IsUtf8 (number_text n)
number_utf8 (unsigned n) = IsUtf8-are_ascii _ (decimal_ascii n)
number_utf8 (negative (pos n)) = IsUtf8-are_ascii _ (decimal_ascii n)
number_utf8 (negative (negsuc n)) =
    IsUtf8-append (45 ∷ []) _ (IsUtf8-are_ascii (45 ∷ []) refl)
    (IsUtf8-are_ascii _ (decimal_ascii (suc n)))
number_utf8 (float x) = IsUtf8-nil

comma_utf8 : (later : Bool) → IsUtf8 (comma_if later)
comma_utf8 true = IsUtf8-are_ascii (44 ∷ []) refl
comma_utf8 false = IsUtf8-nil

mutual
  text_utf8 : (d : Data) → IsCanonical d → IsUtf8 (compact_text d)
  text_utf8 null c = IsUtf8-are_ascii _ refl
  text_utf8 (boolean b) c = IsUtf8-boolean b
  text_utf8 (number n) c = number_utf8 n
  text_utf8 (string s) c = IsUtf8-quoted s (IsUtf8-from_is_utf8 s c)
  text_utf8 (array ds) c =
      IsUtf8-append (91 ∷ []) (items_text false ds) (IsUtf8-are_ascii (91 ∷ []) refl)
      (items_utf8 false ds c)
  text_utf8 (object ms) c =
      IsUtf8-append (123 ∷ []) (members_text false ms) (IsUtf8-are_ascii (123 ∷ []) refl)
      (members_utf8 false ms c.0 c.2)

  items_utf8 : (later : Bool) (ds : Items) → AreCanonical ds → IsUtf8 (items_text later ds)
  items_utf8 later no_items c = IsUtf8-are_ascii (93 ∷ []) refl
  items_utf8 later (item d ds) c =
      IsUtf8-append (comma_if later) (compact_text d ++ items_text true ds) (comma_utf8 later)
      (IsUtf8-append (compact_text d) (items_text true ds) (text_utf8 d c.0)
      (items_utf8 true ds c.1))

  members_utf8 : (later : Bool) (ms : Members) → AreTexts (member_keys ms) → ValuesAreCanonical ms
      → IsUtf8 (members_text later ms)
  members_utf8 later no_members texts c = IsUtf8-are_ascii (125 ∷ []) refl
  members_utf8 later (member k d ms) texts c =
      let rest = compact_text d ++ members_text true ms in
      IsUtf8-append (comma_if later) (quoted k ++ 58 ∷ rest) (comma_utf8 later)
      (IsUtf8-append (quoted k) (58 ∷ rest) (IsUtf8-quoted k (IsUtf8-from_is_utf8 k texts.0))
      (IsUtf8-append (58 ∷ []) rest (IsUtf8-are_ascii (58 ∷ []) refl)
      (IsUtf8-append (compact_text d) (members_text true ms) (text_utf8 d c.0)
      (members_utf8 true ms texts.1 c.1))))

-- the text of a writable value is UTF-8, and is read as this value
pub IsWritable-read_back : (n : ℕ) (d : Data) → IsWritable n d → n ≤ max_depth
    → (read (compact_text d) ≡ Some d) × IsTrue (is_utf8 (compact_text d))
IsWritable-read_back n d w deep = (
  read-compact_text d w.canonical w.whole (omega (arith, w.shallow, deep)),
  is_utf8-from_IsUtf8 _ (text_utf8 d w.canonical),
)

-- what is written of a writable value, as the tokens of a text that was empty,
-- is read as this value
pub written_back : {n : ℕ} {d : Data} {before ts : List Token} (text : List ℕ) → before ≡ []
    → ts ≡ before ++ value_tokens d
    → ((e : Data) → ts ≡ value_tokens e → text ≡ compact_text e) → IsWritable n d → n ≤ max_depth
    → read text ≡ Some d
written_back {n} {d} text empty written compact writable shallow =
    ap read (compact d (written ∙ ap (λ us. us ++ value_tokens d) empty))
    ∙ (IsWritable-read_back n d writable shallow).0
