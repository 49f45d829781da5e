-- Files in a map by their paths.
use Rattle.std.proofs.Common.{◌≡◌, ℕ, Bool, true, false, cond, List, [], ◌∷◌, ◌++◌, Option, Some}
use Rattle.std.proofs.Common.{None, Ok, Err, Vec, String, string_bytes, refl, ap, sym, subst, ◌∙◌}
use Rattle.std.proofs.Common.{◌||◌, ◌&&◌, is_some, IsTrue, ◌↔◌, ◌⊎◌, inl, inr, take, drop, length}
use Rattle.std.proofs.Common.{append-nil, take-append-drop, take_at, drop_at, nat_eq, arith}
use Rattle.std.proofs.lemmas.Bool.Decides.{nat_tests}
use Rattle.std.proofs.lemmas.Map.Text.{btree_map_updates_text, is_eq-slice_cmp}
use Rattle.std.proofs.lemmas.Slice.Eq.{bytes_eq-Decides}
use Rattle.std.specs.BTreeMap.{BTreeMap, UpdatesBy, get_by_text, is_at}
use Rattle.std.specs.Cmp.Lexicographic.{slice_cmp}
use Rattle.std.specs.declared.alloc.Global.{Global}
use Rattle.std.specs.List.{list_any}
use Rattle.std.specs.Map.{lookup, keys_of}
use Rattle.std.specs.Option.{option_map}
use Rattle.std.specs.Ordering.{nat_cmp}
use Rattle.std.specs.Str.{bytes_eq}
use Rattle.std.specs.String.{string_cmp}
use Rattle.rec_container.proofs.NameIndex.{apart}
use Rattle.rec_disk.specs.declared.disk.DiskError.TheVariants.{Missing, OutOfMemory}
use Rattle.rec_disk.specs.Disks.{Files, AreSame, with_file, Refuses, RenamesFile, IsThere}
use Rattle.rec_disk.specs.MemoryDisks.{files_of, file_at, HasFile, Extends, lies_at, begins_below}

abbrev shown : Option (Vec ℕ Global) → Option (List ℕ)
shown o = option_map (λ (v : Vec ℕ Global). v.items) o

shown-cond : (b : Bool) (w o : Option (Vec ℕ Global))
    → shown (cond b w o) ≡ cond b (shown w) (shown o)
shown-cond true w o = refl
shown-cond false w o = refl

-- what a look-up in the map finds
file_found : (es : List (String Global × Vec ℕ Global)) (path : List ℕ)
    → shown (lookup (is_at (λ k. slice_cmp nat_cmp path (string_bytes k))) es)
    ≡ file_at (files_of es) path
file_found [] path = refl
file_found (e ∷ es) path =
    shown-cond (is_at (λ k. slice_cmp nat_cmp path (string_bytes k)) e.0) (Some e.1)
    (lookup (is_at (λ k. slice_cmp nat_cmp path (string_bytes k))) es)
    ∙ ap (λ b. cond b (Some e.1.items)
    (shown (lookup (is_at (λ k. slice_cmp nat_cmp path (string_bytes k))) es)))
    (is_eq-slice_cmp path (string_bytes e.0))
    ∙ ap (cond (bytes_eq path (string_bytes e.0)) (Some e.1.items)) (file_found es path)

pub found_some : (es : List (String Global × Vec ℕ Global)) (fs : List (List ℕ × List ℕ))
    (path : List ℕ) (v : Vec ℕ Global)
    → Some v ≡ lookup (is_at (λ k. slice_cmp nat_cmp path (string_bytes k))) es → files_of es ≡ fs
    → Some v.items ≡ file_at fs path
found_some es fs path v h same = ap shown h ∙ file_found es path ∙ ap (λ gs. file_at gs path) same

pub found_none : (es : List (String Global × Vec ℕ Global)) (fs : List (List ℕ × List ℕ))
    (path : List ℕ)
    → None ≡ lookup (is_at (λ k. slice_cmp nat_cmp path (string_bytes k))) es → files_of es ≡ fs
    → None ≡ file_at fs path
found_none es fs path h same = ap shown h ∙ file_found es path ∙ ap (λ gs. file_at gs path) same

turned : (xs ys : List ℕ) → bytes_eq xs ys ≡ bytes_eq ys xs
turned xs ys = by (bytes_eq xs ys) refl
  where
    by : (b : Bool) → bytes_eq xs ys ≡ b → bytes_eq xs ys ≡ bytes_eq ys xs
    by true e = e ∙ sym ((bytes_eq-Decides ys xs).1 (sym ((bytes_eq-Decides xs ys).0 e)))
    by false e = e ∙ sym (apart xs ys e)

-- what a change of the map at a path leaves
pub file_updated : (old new : BTreeMap (String Global) (Vec ℕ Global)) (fs : List (List ℕ × List ℕ))
    (path : List ℕ) (w : Option (Vec ℕ Global))
    → UpdatesBy string_cmp (λ k. slice_cmp nat_cmp path (string_bytes k)) old new w
    → files_of old.entries ≡ fs → HasFile fs (files_of new.entries) path (shown w)
file_updated old new fs path w updates same p =
    sym (file_found new.entries p)
    ∙ ap shown (btree_map_updates_text path old new w updates p)
    ∙ shown-cond (bytes_eq path p) w (get_by_text old p)
    ∙ ap (λ b. cond b (shown w) (shown (get_by_text old p))) (turned path p)
    ∙ ap (cond (bytes_eq p path) (shown w))
    (file_found old.entries p ∙ ap (λ gs. file_at gs p) same)

-- the file that is there, put there again
same_file : (fs gs : Files) (path bytes : List ℕ) → Some bytes ≡ fs path
    → AreSame (with_file fs path (Some bytes)) gs → AreSame fs gs
same_file fs gs path bytes there same p = same p ∙ by (bytes_eq p path) refl
  where
    by : (b : Bool) → bytes_eq p path ≡ b → cond b (Some bytes) (fs p) ≡ fs p
    by true e = there ∙ ap fs (sym ((bytes_eq-Decides p path).0 e))
    by false e = refl

pub refuses_missing : (file : Option (List ℕ)) → None ≡ file → Refuses file Missing
refuses_missing file h = subst (λ f. Refuses f Missing) h tt

pub extends_missing : (fs gs : List (List ℕ × List ℕ)) (path piece : List ℕ)
    → None ≡ file_at fs path → AreSame (file_at fs) (file_at gs)
    → Extends fs gs path (file_at fs path) piece (Err Missing)
extends_missing fs gs path piece none same =
    subst (λ f. Extends fs gs path f piece (Err Missing)) none (refl, same)

pub extends_ok : (fs gs : List (List ℕ × List ℕ)) (path piece bytes : List ℕ)
    → Some bytes ≡ file_at fs path → HasFile fs gs path (Some (bytes ++ piece))
    → Extends fs gs path (file_at fs path) piece (Ok (tt {0}))
extends_ok fs gs path piece bytes there put =
    subst (λ f. Extends fs gs path f piece (Ok (tt {0}))) there put

pub extends_memory : (fs gs : List (List ℕ × List ℕ)) (path piece bytes : List ℕ)
    → Some bytes ≡ file_at fs path → HasFile fs gs path (Some bytes)
    → Extends fs gs path (file_at fs path) piece (Err OutOfMemory)
extends_memory fs gs path piece bytes there put =
    subst (λ f. Extends fs gs path f piece (Err OutOfMemory)) there
    (tt, same_file (file_at fs) (file_at gs) path bytes there put)

-- a file that goes to its own path
pub renames_same : (fs : Files) (from to bytes : List ℕ) → Some bytes ≡ fs from → from ≡ to
    → RenamesFile fs fs from to (fs from) (Ok (tt {0}))
renames_same fs from to bytes there same =
    subst (λ f. RenamesFile fs fs from to f (Ok (tt {0}))) there (λ p. by p (bytes_eq p to) refl)
  where
    other : (p : List ℕ) (b : Bool) → bytes_eq p from ≡ b → bytes_eq p from ≡ false
        → fs p ≡ cond b None (fs p)
    other p true e apart = absurd (let w = sym e ∙ apart in cc)
    other p false e apart = refl

    by : (p : List ℕ) (b : Bool) → bytes_eq p to ≡ b
        → fs p ≡ cond b (Some bytes) (cond (bytes_eq p from) None (fs p))
    by p true e = ap fs ((bytes_eq-Decides p to).0 e ∙ sym same) ∙ sym there
    by p false e = other p (bytes_eq p from) refl (ap (bytes_eq p) same ∙ e)

-- a file that goes to another path: it is put there, and then taken from its own
pub renames_other : (fs mid gs : Files) (from to bytes : List ℕ) → Some bytes ≡ fs from
    → bytes_eq from to ≡ false → AreSame (with_file fs to (Some bytes)) mid
    → AreSame (with_file mid from None) gs
    → RenamesFile fs gs from to (fs from) (Ok (tt {0}))
renames_other fs mid gs from to bytes there other put taken =
    subst (λ f. RenamesFile fs gs from to f (Ok (tt {0}))) there
    (λ p. taken p ∙ ap (cond (bytes_eq p from) None) (put p)
    ∙ swapped p (bytes_eq p from) (bytes_eq p to) refl refl)
  where
    swapped : (p : List ℕ) (b c : Bool) → bytes_eq p from ≡ b → bytes_eq p to ≡ c
        → cond b None (cond c (Some bytes) (fs p)) ≡ cond c (Some bytes) (cond b None (fs p))
    swapped p true true e f =
        absurd (let w = sym ((bytes_eq-Decides from to).1
        (sym ((bytes_eq-Decides p from).0 e) ∙ (bytes_eq-Decides p to).0 f)) ∙ other in cc)
    swapped p true false e f = refl
    swapped p false true e f = refl
    swapped p false false e f = refl

-- ---- files at a path or below it

pub any_keys : (es : List (String Global × Vec ℕ Global)) (path : List ℕ)
    → list_any (λ (f : List ℕ × List ℕ). lies_at path f.0) (files_of es)
    ≡ list_any (λ (n : String Global). lies_at path (string_bytes n)) (keys_of es)
any_keys [] path = refl
any_keys (e ∷ es) path = ap (λ b. lies_at path (string_bytes e.0) || b) (any_keys es path)

-- a file whose path passes a test
abbrev Found : (List ℕ → Bool) → List (List ℕ × List ℕ) → Type 0
Found test fs = (p : List ℕ) × (test p ≡ true) × (is_some (file_at fs p) ≡ true)

is_some-cond : (b : Bool) (x : List ℕ) (o : Option (List ℕ)) → is_some o ≡ true
    → is_some (cond b (Some x) o) ≡ true
is_some-cond true x o h = refl
is_some-cond false x o h = h

found_next : (f : List ℕ × List ℕ) (fs : List (List ℕ × List ℕ)) (test : List ℕ → Bool) (b : Bool)
    → test f.0 ≡ b → (b || list_any (λ (g : List ℕ × List ℕ). test g.0) fs) ≡ true
    → (list_any (λ (g : List ℕ × List ℕ). test g.0) fs ≡ true → Found test fs) → Found test (f ∷ fs)
found_next f fs test true e h next = (
  f.0,
  e,
  ap (λ b. is_some (cond b (Some f.1) (file_at fs f.0))) ((bytes_eq-Decides f.0 f.0).1 refl),
)
found_next f fs test false e h next =
    let r = next h in (r.0, r.1, is_some-cond (bytes_eq r.0 f.0) f.1 (file_at fs r.0) r.2)

any_found : (fs : List (List ℕ × List ℕ)) (test : List ℕ → Bool)
    → list_any (λ (g : List ℕ × List ℕ). test g.0) fs ≡ true → Found test fs
any_found [] test h = absurd cc
any_found (f ∷ fs) test h = found_next f fs test (test f.0) refl h (any_found fs test)

or_right : (b c : Bool) → c ≡ true → (b || c) ≡ true
or_right true c h = refl
or_right false c h = h

any_next : (f : List ℕ × List ℕ) (fs : List (List ℕ × List ℕ)) (test : List ℕ → Bool) (p : List ℕ)
    (b : Bool)
    → bytes_eq p f.0 ≡ b → test p ≡ true → is_some (cond b (Some f.1) (file_at fs p)) ≡ true
    → (is_some (file_at fs p) ≡ true → list_any (λ (g : List ℕ × List ℕ). test g.0) fs ≡ true)
    → (test f.0 || list_any (λ (g : List ℕ × List ℕ). test g.0) fs) ≡ true
any_next f fs test p true e holds h next =
    ap (λ b. b || list_any (λ (g : List ℕ × List ℕ). test g.0) fs)
    (subst (λ (n : List ℕ). test n ≡ true) ((bytes_eq-Decides p f.0).0 e) holds)
any_next f fs test p false e holds h next =
    or_right (test f.0) (list_any (λ (g : List ℕ × List ℕ). test g.0) fs) (next h)

found_any : (fs : List (List ℕ × List ℕ)) (test : List ℕ → Bool) (p : List ℕ) → test p ≡ true
    → is_some (file_at fs p) ≡ true → list_any (λ (g : List ℕ × List ℕ). test g.0) fs ≡ true
found_any [] test p holds h = absurd cc
found_any (f ∷ fs) test p holds h =
    any_next f fs test p (bytes_eq p f.0) refl holds h (found_any fs test p holds)

and_parts : (b c : Bool) → (b && c) ≡ true → (b ≡ true) × (c ≡ true)
and_parts true c h = (refl, h)
and_parts false c h = absurd cc

is_slash : (b : ℕ) → nat_eq b 47 ≡ true → b ≡ 47
is_slash b h = grind (arith, nat_tests)

after : (path file rest : List ℕ) → file ≡ path ++ rest → begins_below rest ≡ true
    → (file ≡ path) ⊎ ((below : List ℕ) × (file ≡ path ++ 47 ∷ below))
after path file [] whole h = inl (whole ∙ append-nil path)
after path file (b ∷ rest) whole h = inr (rest, whole ∙ ap (λ n. path ++ n ∷ rest) (is_slash b h))

lies : (path file : List ℕ) → lies_at path file ≡ true
    → (file ≡ path) ⊎ ((below : List ℕ) × (file ≡ path ++ 47 ∷ below))
lies path file h =
    let n = length path in
    let parts = and_parts (bytes_eq (take n file) path) (begins_below (drop n file)) h in
    after path file (drop n file) (sym (take-append-drop n file)
    ∙ ap (λ l. l ++ drop n file) ((bytes_eq-Decides (take n file) path).0 parts.0))
    parts.1

lies-back : (path rest : List ℕ) → lies_at path (path ++ rest) ≡ begins_below rest
lies-back path rest =
    rw (take_at path rest (length path) refl, drop_at path rest (length path) refl)
    (ap (λ b. b && begins_below rest) ((bytes_eq-Decides path path).1 refl))

there : (fs : List (List ℕ × List ℕ)) (path p : List ℕ) → is_some (file_at fs p) ≡ true
    → (p ≡ path) ⊎ ((below : List ℕ) × (p ≡ path ++ 47 ∷ below)) → IsThere (file_at fs) path
there fs path p some (inl e) = inl (subst (λ (n : List ℕ). is_some (file_at fs n) ≡ true) e some)
there fs path p some (inr q) =
    inr (q.0, subst (λ (n : List ℕ). is_some (file_at fs n) ≡ true) q.1 some)

back : (fs : List (List ℕ × List ℕ)) (path : List ℕ) → IsThere (file_at fs) path
    → list_any (λ (f : List ℕ × List ℕ). lies_at path f.0) fs ≡ true
back fs path (inl some) =
    found_any fs (lies_at path) path (ap (lies_at path) (sym (append-nil path)) ∙ lies-back path [])
    some
back fs path (inr q) =
    found_any fs (lies_at path) (path ++ 47 ∷ q.0) (lies-back path (47 ∷ q.0)) q.1

-- some file lies there exactly where the walk finds one
pub any_there : (fs : List (List ℕ × List ℕ)) (path : List ℕ) (b : Bool)
    → b ≡ list_any (λ (f : List ℕ × List ℕ). lies_at path f.0) fs
    → IsTrue b ↔ IsThere (file_at fs) path
any_there fs path b is = (
  λ h. let r = any_found fs (lies_at path) (sym is ∙ h) in
      there fs path r.0 r.2 (lies path r.0 r.1),
  λ t. is ∙ back fs path t,
)
