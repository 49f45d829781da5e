-- What is said of each value that is written: it is no null, its text gives it back, it has no
-- float, and nests only so deep.
use Rattle.std.proofs.Common.{Ordering, Less, Equal, Greater, arith, true, ◌∙◌}
use Rattle.std.proofs.lemmas.Bool.Decides.{nat_tests}
use Rattle.std.proofs.lemmas.Bool.{and_parts, or_parts}
use Rattle.std.proofs.lemmas.Int.{ints}
use Rattle.std.specs.Cmp.Lexicographic.{slice_cmp}
use Rattle.std.specs.Int.{w64}
use Rattle.std.specs.List.Sorted.{IsStrictlySortedBy}
use Rattle.std.specs.List.{AllByRecursion}
use Rattle.std.specs.Ordering.{nat_cmp, match_ordering}
use Rattle.std.specs.Prelude.{◌≡◌, ◌≢◌, ◌<◌, ◌^◌, ◌&&◌, ℕ, nat_lt, suc, ◌≤◌, ℤ, pos}
use Rattle.std.specs.Prelude.{negsuc, FitsSigned, List, [], ◌∷◌, map, Bool, false}
use Rattle.std.specs.Prelude.{Option, Some, None, IfSome, option_map, ⊤, refl}
use Rattle.json.proofs.Printed.Utf8.{are_ascii}
use Rattle.serde_json.specs.Data.{Data, null, boolean, string, Members, no_members}
use Rattle.serde_json.specs.Data.{member, put, depth, items_depth, members_depth}
use Rattle.serde_json.specs.Read.{max_depth}
use Rattle.serde_json.specs.View.{items_of}
use Rattle.serde_json.specs.Written.{has_float, items_have_float, members_have_float}
use Rattle.rec_events.specs.Names.{IsText, AreTexts, Rise, with_name}
use Rattle.rec_forms.specs.Canonical.{member_keys, IsCanonical, AreCanonical, ValuesAreCanonical}
use Rattle.rec_forms.specs.Lists.{list_value}
use Rattle.rec_forms.specs.RiseLaws.{match_holds, AreTexts-with_name, Rise-with_name}
use Rattle.rec_forms.specs.Shape.{Field, natural, integer, with_member}
use Rattle.rec_forms.specs.Shape.{with_members, members_of, struct, tagged}
use Rattle.rec_forms.specs.TextLaws.{IsText-are_ascii}

pub record IsWritable (levels : ℕ) (d : Data) : Type 0 where
  pub some : d ≢ null
  pub canonical : IsCanonical d
  pub whole : has_float d ≡ false
  pub shallow : depth d ≤ levels

-- of a literal number of levels the test is `refl`
pub within_depth : {n : ℕ} → nat_lt max_depth n ≡ false → n ≤ max_depth
within_depth {n} h = grind (arith, nat_tests)

-- what is within a bound with one level more is within it
pub less_deep : {n m : ℕ} → suc n ≤ m → n ≤ m
less_deep h = omega (arith, h)

-- ---- numbers, truth values and texts

pub natural_writable : {n : ℕ} (k : ℕ) → k < 2 ^ 64 → IsWritable n (natural k)
natural_writable k h =
    record { some = λ e. cc e; canonical = h; whole = refl; shallow = omega arith }

pub integer_writable : {n : ℕ} (z : ℤ) → FitsSigned w64 z → IsWritable n (integer z)
integer_writable (pos k) h = record {
  some = λ e. cc e;
  canonical = grind (arith, ints);
  whole = refl;
  shallow = omega arith;
}
integer_writable (negsuc k) h = record {
  some = λ e. cc e;
  canonical = grind (arith, ints);
  whole = refl;
  shallow = omega arith;
}

pub string_writable : {n : ℕ} (s : List ℕ) → IsText s → IsWritable n (string s)
string_writable s h =
    record { some = λ e. cc e; canonical = h; whole = refl; shallow = omega arith }

-- a word of ASCII; of a literal the test is `refl`
pub word_writable : {n : ℕ} (s : List ℕ) → are_ascii s ≡ true → IsWritable n (string s)
word_writable s h = string_writable s (IsText-are_ascii s h)

pub boolean_writable : {n : ℕ} (b : Bool) → IsWritable n (boolean b)
boolean_writable b =
    record { some = λ e. cc e; canonical = tt; whole = refl; shallow = omega arith }

-- what nests so deep is within a greater bound
pub weaker : {d : Data} (n m : ℕ) → n ≤ m → IsWritable n d → IsWritable m d
weaker n m h w = record {
  some = w.some;
  canonical = w.canonical;
  whole = w.whole;
  shallow = omega (arith, w.shallow);
}

-- ---- lists

module _ {T : Type 0} {P : T → Type 0} {n : ℕ} (value : T → Data)
    (writable : (x : T) → P x → IsWritable n (value x)) where
  each_canonical : (xs : List T) → AllByRecursion P xs → AreCanonical (items_of (map value xs))
  each_canonical [] h = tt
  each_canonical (x ∷ xs) h = ((writable x h.0).canonical, each_canonical xs h.1)

  each_whole : (xs : List T) → AllByRecursion P xs
      → items_have_float (items_of (map value xs)) ≡ false
  each_whole [] h = refl
  each_whole (x ∷ xs) h = rw ((writable x h.0).whole, each_whole xs h.1)

  each_shallow : (xs : List T) → AllByRecursion P xs → items_depth (items_of (map value xs)) ≤ n
  each_shallow [] h = omega arith
  each_shallow (x ∷ xs) h = omega (arith, (writable x h.0).shallow, each_shallow xs h.1)

  pub list_writable : (xs : List T) → AllByRecursion P xs → IsWritable (suc n) (list_value value xs)
  list_writable xs h = record {
    some = λ e. cc e;
    canonical = each_canonical xs h;
    whole = each_whole xs h;
    shallow = omega (arith, each_shallow xs h);
  }

-- ---- objects

-- each field that is there nests at most n deep
abbrev pub IfWritten : ℕ → Option Data → Type 0
IfWritten n None = ⊤
IfWritten n (Some d) = IsWritable n d

abbrev pub EachWritten : ℕ → List Field → Type 0
EachWritten n [] = ⊤
EachWritten n (f ∷ fs) = IfWritten n f.1 × EachWritten n fs

pub optional_writable : {T : Type 0} {P : T → Type 0} {n : ℕ} (value : T → Data)
    → ((x : T) → P x → IsWritable n (value x)) → (o : Option T) → IfSome o P
    → IfWritten n (option_map value o)
optional_writable value writable None h = tt
optional_writable value writable (Some x) h = writable x h

pub record AreWritable (n : ℕ) (ms : Members) : Type 0 where
  pub texts : AreTexts (member_keys ms)
  pub rise : Rise (member_keys ms)
  pub values : ValuesAreCanonical ms
  pub whole : members_have_float ms ≡ false
  pub shallow : members_depth ms ≤ n

keys-match_ordering : (o : Ordering) (a b c : Members)
    → member_keys (match_ordering o a b c)
    ≡ match_ordering o (member_keys a) (member_keys b) (member_keys c)
keys-match_ordering Less a b c = refl
keys-match_ordering Equal a b c = refl
keys-match_ordering Greater a b c = refl

-- a member put at its place puts its key among the keys
keys-put : (k : List ℕ) (d : Data) (ms : Members)
    → member_keys (put k d ms) ≡ with_name (member_keys ms) k
keys-put k d no_members = refl
keys-put k d (member l e ms) =
    keys-match_ordering (slice_cmp nat_cmp k l) _ _ _ ∙ rw (keys-put k d ms)

values-put : (k : List ℕ) (d : Data) (ms : Members) → IsCanonical d → ValuesAreCanonical ms
    → ValuesAreCanonical (put k d ms)
values-put k d no_members h all = (h, tt)
values-put k d (member l e ms) h all =
    match_holds ValuesAreCanonical (slice_cmp nat_cmp k l) _ _ _ (h, all) (h, all.1)
    (all.0, values-put k d ms h all.1)

whole-put : (k : List ℕ) (d : Data) (ms : Members) → has_float d ≡ false
    → members_have_float ms ≡ false → members_have_float (put k d ms) ≡ false
whole-put k d no_members h all = rw h
whole-put k d (member l e ms) h all =
    let parts = or_parts (has_float e) (members_have_float ms) all in
    match_holds (λ m. members_have_float m ≡ false) (slice_cmp nat_cmp k l) _ _ _
    (rw (h, parts.0, parts.1)) (rw (h, parts.1)) (rw (parts.0, whole-put k d ms h parts.1))

shallow-put : (n : ℕ) (k : List ℕ) (d : Data) (ms : Members) → depth d ≤ n → members_depth ms ≤ n
    → members_depth (put k d ms) ≤ n
shallow-put n k d no_members h all = omega arith
shallow-put n k d (member l e ms) h all =
    match_holds (λ m. members_depth m ≤ n) (slice_cmp nat_cmp k l) _ _ _ (omega arith) (omega arith)
    (omega (arith, shallow-put n k d ms h (omega arith)))

put_writable : {n : ℕ} (k : List ℕ) (d : Data) (ms : Members) → IsText k → IsWritable n d
    → AreWritable n ms → AreWritable n (put k d ms)
put_writable {n} k d ms text w ws = record {
  texts = rw (keys-put k d ms) (AreTexts-with_name (member_keys ms) k ws.texts text);
  rise = rw (keys-put k d ms) (Rise-with_name (member_keys ms) k ws.rise);
  values = values-put k d ms w.canonical ws.values;
  whole = whole-put k d ms w.whole ws.whole;
  shallow = shallow-put n k d ms w.shallow ws.shallow;
}

with_writable : {n : ℕ} (k : List ℕ) (o : Option Data) (ms : Members) → IsText k → IfWritten n o
    → AreWritable n ms → AreWritable n (with_member k o ms)
with_writable k None ms text w ws = ws
with_writable k (Some d) ms text w ws = put_writable k d ms text w ws

abbrev pub field_keys : List Field → List (List ℕ)
field_keys fs = map (λ f. f.0) fs

with_all_writable : {n : ℕ} (fs : List Field) (ms : Members) → AreTexts (field_keys fs)
    → EachWritten n fs → AreWritable n ms → AreWritable n (with_members ms fs)
with_all_writable [] ms texts w ws = ws
with_all_writable (f ∷ fs) ms texts w ws =
    with_all_writable fs (with_member f.0 f.1 ms) texts.1 w.1
    (with_writable f.0 f.1 ms texts.0 w.0 ws)

none_writable : {n : ℕ} → AreWritable n no_members
unfolding IsStrictlySortedBy
none_writable {n} =
    record { texts = tt; rise = tt; values = tt; whole = refl; shallow = omega arith }

-- an object nests one deeper than its fields
pub fields_writable : {n : ℕ} (fs : List Field) → AreTexts (field_keys fs) → EachWritten n fs
    → IsWritable (suc n) (struct fs)
unfolding members_of
fields_writable {n} fs texts w =
    let ws : AreWritable n (with_members no_members fs) =
    with_all_writable fs no_members texts w none_writable in
    record {
      some = λ e. cc e;
      canonical = (ws.texts, ws.rise, ws.values);
      whole = ws.whole;
      shallow = omega (arith, ws.shallow);
    }

-- whether each key is of ASCII
abbrev pub keys_are_ascii : List Field → Bool
keys_are_ascii [] = true
keys_are_ascii (f ∷ fs) = are_ascii f.0 && keys_are_ascii fs

keys_are_texts : (fs : List Field) → keys_are_ascii fs ≡ true → AreTexts (field_keys fs)
keys_are_texts [] h = tt
keys_are_texts (f ∷ fs) h =
    let parts = and_parts _ _ h in (IsText-are_ascii f.0 parts.0, keys_are_texts fs parts.1)

-- of literal keys the test is `refl`
pub struct_writable : {n : ℕ} (fs : List Field) → keys_are_ascii fs ≡ true → EachWritten n fs
    → IsWritable (suc n) (struct fs)
struct_writable fs ascii w = fields_writable fs (keys_are_texts fs ascii) w

pub tagged_canonical : (k : List ℕ) (d : Data) → IsText k → IsCanonical d → IsCanonical (tagged k d)
unfolding IsStrictlySortedBy
tagged_canonical k d text h = ((text, tt), (tt, tt), (h, tt))

pub tagged_writable : {n : ℕ} (k : List ℕ) (d : Data) → are_ascii k ≡ true → IsWritable n d
    → IsWritable (suc n) (tagged k d)
tagged_writable k d ascii w = record {
  some = λ e. cc e;
  canonical = tagged_canonical k d (IsText-are_ascii k ascii) w.canonical;
  whole = rw w.whole;
  shallow = omega (arith, w.shallow);
}
