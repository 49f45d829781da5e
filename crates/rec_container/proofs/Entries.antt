-- The entries of a writer's map, and the lengths of their spelling.
use Rattle.std.proofs.Common.{◌≡◌, ℕ, ◌+◌, ◌^◌, ◌<◌, List, [], ◌∷◌, ◌++◌, length, slice_get, refl}
use Rattle.std.proofs.Common.{sym, ap, subst, ◌∙◌, arith, Bool, true, false, cond, Option, Some}
use Rattle.std.proofs.Common.{None, if◌then◌else◌, nat_lt, Vec, String, string_bytes, nat_eq}
use Rattle.std.proofs.lemmas.Bool.Decides.{nat_tests}
use Rattle.std.proofs.lemmas.Bool.{le-ltb}
use Rattle.std.proofs.lemmas.List.{map-append}
use Rattle.std.proofs.lemmas.Option.{slice_get-map}
use Rattle.std.proofs.lemmas.Slice.Eq.{bytes_eq-Decides}
use Rattle.std.specs.declared.alloc.Global.{Global}
use Rattle.std.specs.declared.hash.BuildHasherDefault.{BuildHasherDefault}
use Rattle.std.specs.declared.hash.FoldHasher.{FoldHasher}
use Rattle.std.specs.Map.{lookup}
use Rattle.std.specs.Option.{option_map_or}
use Rattle.std.specs.Option.{option_map}
use Rattle.std.specs.Str.{bytes_eq, IsUtf8}
use Rattle.std.specs.String.{string_eq}
use Rattle.indexmap.proofs.CallerLemmas.{insert_entry-new}
use Rattle.indexmap.specs.IndexMap.{IndexMap, get, insert_entry}
use Rattle.rec_container.proofs.Lengths.{length-spell-push, content_bytes-push}
use Rattle.rec_container.proofs.Spelling.{AreFrom-push}
use Rattle.rec_container.specs.Container.{Entry, spell, content_of, IsEntry}
use Rattle.rec_container.specs.declared.errors.ContainerWriteError.TheVariants.{
  NameCollision,
  CountOutOfRange,
}
use Rattle.rec_container.specs.declared.errors.ContainerWriteError.{ContainerWriteError}
use Rattle.rec_container.specs.Writing.{HasSizes, IsSound, entry_of, entries_of}
use Rattle.rec_container.specs.Writing.{entry_named, refusal, has_name_length}

found_cons : (b : Bool) (v : Vec ℕ Global) (o : Option (Vec ℕ Global)) (r : Option (List ℕ))
    → option_map (λ (v : Vec ℕ Global). v.items) o ≡ r
    → option_map (λ (v : Vec ℕ Global). v.items) (cond b (Some v) o) ≡ cond b (Some v.items) r
found_cons true v o r h = refl
found_cons false v o r h = h

-- what a look-up in the map finds
pub content_found : (ms : List (String Global × Vec ℕ Global)) (n : List ℕ)
    → option_map (λ (v : Vec ℕ Global). v.items) (lookup (λ k. bytes_eq n (string_bytes k)) ms)
    ≡ content_of (entries_of ms) n
content_found [] n = refl
content_found (m ∷ ms) n = found_cons (bytes_eq n (string_bytes m.0)) m.1 _ _ (content_found ms n)

test_true : (a b : ℕ) → a < b → nat_lt a b ≡ true
test_true a b h = grind (arith, nat_tests)

-- what is judged after the name
abbrev pub refusal_after : List Entry → List ℕ → List ℕ → Option (List ℕ)
    → Option ContainerWriteError
refusal_after es name content held =
    option_map_or (λ c. if bytes_eq c content then None else Some NameCollision) held
    (if nat_lt (length (spell (es ++ entry_named name content ∷ []))) (2 ^ 64) then None
    else Some CountOutOfRange)

pub refusal_named : (failed : Bool) (es : List Entry) (name content : List ℕ)
    (held : Option (List ℕ))
    → failed ≡ false → 0 < length name → length name < 65536 → content_of es name ≡ held
    → refusal failed es name content ≡ refusal_after es name content held
refusal_named failed es name content held sound some short h =
    let fine : has_name_length name ≡ true = grind (arith, nat_tests) in
    rw (sound, fine) (ap (refusal_after es name content) h)

pub refusal_none : (failed : Bool) (es : List Entry) (name content : List ℕ) (n : ℕ)
    → failed ≡ false → 0 < length name → length name < 65536 → content_of es name ≡ None
    → n ≡ length (spell es) → n + (11 + length name + length content) < 2 ^ 64
    → refusal failed es name content ≡ None
refusal_none failed es name content n sound some short absent size fits =
    let below : length (spell (es ++ entry_named name content ∷ [])) < 2 ^ 64 =
    omega (arith, length-spell-push es (entry_named name content)) in
    let small : nat_lt (length (spell (es ++ entry_named name content ∷ []))) (2 ^ 64) ≡ true =
    test_true _ _ below in
    refusal_named failed es name content None sound some short absent
    ∙ ap (λ b. if b then None else Some CountOutOfRange) small

pub refusal_long : (failed : Bool) (es : List Entry) (name content : List ℕ) (n : ℕ)
    → failed ≡ false → 0 < length name → length name < 65536 → content_of es name ≡ None
    → n ≡ length (spell es) → ¬ (n + (11 + length name + length content) < 2 ^ 64)
    → refusal failed es name content ≡ Some CountOutOfRange
refusal_long failed es name content n sound some short absent size long =
    let large : nat_lt (length (spell (es ++ entry_named name content ∷ []))) (2 ^ 64) ≡ false =
    le-ltb _ _ (omega (arith, length-spell-push es (entry_named name content))) in
    refusal_named failed es name content None sound some short absent
    ∙ ap (λ b. if b then None else Some CountOutOfRange) large

pub found_some : (ms : List (String Global × Vec ℕ Global)) (n : List ℕ) (v : Vec ℕ Global)
    → Some v ≡ lookup (λ k. bytes_eq n (string_bytes k)) ms
    → content_of (entries_of ms) n ≡ Some v.items
found_some ms n v h =
    sym (content_found ms n) ∙ ap (option_map (λ (v : Vec ℕ Global). v.items)) (sym h)

pub found_none : (ms : List (String Global × Vec ℕ Global)) (n : List ℕ)
    → None ≡ lookup (λ k. bytes_eq n (string_bytes k)) ms → content_of (entries_of ms) n ≡ None
found_none ms n h =
    sym (content_found ms n) ∙ ap (option_map (λ (v : Vec ℕ Global). v.items)) (sym h)

-- an entry that is there, with equal bytes or others
pub refusal_there : (failed : Bool) (es : List Entry) (name content held : List ℕ) (b : Bool)
    → failed ≡ false → 0 < length name → length name < 65536 → content_of es name ≡ Some held
    → b ≡ bytes_eq held content → refusal failed es name content ≡ cond b None (Some NameCollision)
refusal_there failed es name content held b sound some short there e =
    refusal_named failed es name content (Some held) sound some short there
    ∙ ap (λ b. if b then None else Some NameCollision) (sym e)

pub some_name : (name : List ℕ) → false ≡ nat_eq (length name) 0 → 0 < length name
some_name name h = grind (arith, nat_tests)

pub same_bytes : (xs ys : List ℕ) → true ≡ bytes_eq xs ys → xs ≡ ys
same_bytes xs ys h = (bytes_eq-Decides xs ys).0 (sym h)

none_before : (o : Option (Vec ℕ Global)) → option_map (λ (v : Vec ℕ Global). v.items) o ≡ None
    → o ≡ None
none_before None h = refl
none_before (Some v) h = cc

-- one more pair in the map, under a name that wasn't there
pub entries_of-insert : (old new mid : IndexMap (String Global) (Vec ℕ Global)
    (BuildHasherDefault FoldHasher))
    (k : String Global) (v : Vec ℕ Global) (name content : List ℕ)
    →
    content_of (entries_of old.entries) name ≡ None → mid.entries ≡ old.entries
    → string_bytes k ≡ name → v.items ≡ content
    → new.entries ≡ insert_entry string_eq mid.entries k v
    → entries_of new.entries ≡ entries_of old.entries ++ entry_named name content ∷ []
entries_of-insert old new mid k v name content absent same key items inserted =
    let nothing : lookup (λ q. bytes_eq name (string_bytes q)) old.entries ≡ None =
    none_before _ (content_found old.entries name ∙ absent) in
    let there : get string_eq mid k ≡ None = ap (lookup (string_eq k)) same
    ∙ ap (λ n. lookup (λ q. bytes_eq n (string_bytes q)) old.entries) key ∙ nothing in
    ap entries_of
    (inserted ∙ insert_entry-new string_eq mid k v there ∙ ap (λ l. l ++ (k, v) ∷ []) same)
    ∙ map-append entry_of old.entries ((k, v) ∷ [])
    ∙ ap (λ n. entries_of old.entries ++ entry_named n v.items ∷ []) key
    ∙ ap (λ l. entries_of old.entries ++ entry_named name l ∷ []) items

-- one more entry, where the entries before were kept
pub one_more : (old mid new : List (String Global × Vec ℕ Global)) (made e : Entry) → mid ≡ old
    → made ≡ e → entries_of new ≡ entries_of mid ++ made ∷ []
    → entries_of new ≡ entries_of old ++ e ∷ []
one_more old mid new made e same is h =
    h ∙ ap (λ l. entries_of l ++ made ∷ []) same ∙ ap (λ e. entries_of old ++ e ∷ []) is

-- the sums after one more entry
pub HasSizes-push : (es : List Entry) (name content : List ℕ) (compressed uncompressed size : ℕ)
    → HasSizes es compressed uncompressed
    → size ≡ length (spell (es ++ entry_named name content ∷ []))
    → HasSizes (es ++ entry_named name content ∷ []) size (uncompressed + length content)
HasSizes-push es name content compressed uncompressed size h e =
    let longer = length-spell-push es (entry_named name content) in
    record {
      size = e;
      contents = omega (arith, h.contents, content_bytes-push es (entry_named name content));
      below = omega (arith, h.size, h.below, e, longer);
    }

-- and what a writer keeps
pub IsSound-push : (es fs : List Entry) (name content : List ℕ) (compressed uncompressed size : ℕ)
    → IsSound es compressed uncompressed → 0 < length name → length name < 65536 → IsUtf8 name
    → content_of es name ≡ None → size ≡ length (spell (es ++ entry_named name content ∷ []))
    → size < 2 ^ 64 → fs ≡ es ++ entry_named name content ∷ []
    → IsSound fs size (uncompressed + length content)
IsSound-push es fs name content compressed uncompressed size h some short text absent e small same =
    let longer = length-spell-push es (entry_named name content) in
    let is : IsEntry (entry_named name content) = record {
      name = record { some = some; short = omega (arith, short); text = text };
      content = omega (arith, longer, e, small);
    } in
    subst (λ (l : List Entry). IsSound l size (uncompressed + length content)) (sym same)
    (record {
      entries = AreFrom-push [] es (entry_named name content) h.entries is absent;
      sizes = HasSizes-push es name content compressed uncompressed size h.sizes e;
    })

-- the same for the entries of a map, as they are seen,
-- where they were kept until the new one was put after them
pub IsSound-one_more : (es : List Entry) (old mid new : List (String Global × Vec ℕ Global))
    (made : Entry) (name content : List ℕ) (compressed uncompressed size : ℕ)
    → entries_of old ≡ es
    → IsSound (entries_of old) compressed uncompressed → 0 < length name → length name < 65536
    → IsUtf8 name → content_of es name ≡ None
    → size ≡ length (spell (es ++ entry_named name content ∷ [])) → size < 2 ^ 64
    → mid ≡ old → made ≡ entry_named name content → entries_of new ≡ entries_of mid ++ made ∷ []
    → IsSound (entries_of new) size (uncompressed + length content)
IsSound-one_more es old mid new made name content compressed uncompressed size seen h some short
    text absent e small same is more =
    IsSound-push (entries_of old) (entries_of new) name content compressed uncompressed size h some
    short text (ap (λ l. content_of l name) seen ∙ absent)
    (e ∙ ap (λ l. length (spell (l ++ entry_named name content ∷ []))) (sym seen)) small
    (one_more old mid new made (entry_named name content) same is more)

-- the entry of the map at an index, and what it has
pub entry_of_pair : (es : List Entry) (ps : List (String Global × Vec ℕ Global)) (i : ℕ)
    (p : String Global × Vec ℕ Global)
    → es ≡ entries_of ps → slice_get ps i ≡ Some p
    → slice_get es i ≡ Some (entry_of p)
entry_of_pair es ps i p is at =
    ap (λ l. slice_get l i) is ∙ slice_get-map entry_of ps i ∙ ap (option_map entry_of) at
