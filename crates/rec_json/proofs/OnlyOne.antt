-- An object whose members all have one key, and one that has two.
use Rattle.std.proofs.Common.{◌≡◌, ℕ, zero, suc, ◌+◌, ◌<◌, subst, take, take_all}
use Rattle.std.proofs.Common.{List, [], ◌∷◌, ◌++◌, length, get_or, map, Ordering}
use Rattle.std.proofs.Common.{Less, Equal, Greater, Bool, true, false, bytes_eq, not}
use Rattle.std.proofs.Common.{Some, None, ap, refl, sym, ◌∙◌, arith, Bor, true≢false}
use Rattle.std.proofs.lemmas.Cmp.{nat_list_cmp_total, tied_itself}
use Rattle.std.proofs.lemmas.List.{take_more}
use Rattle.std.proofs.lemmas.Slice.Eq.{bytes_eq-Decides}
use Rattle.std.specs.Cmp.Lexicographic.{slice_cmp}
use Rattle.std.specs.List.{AllByRecursion}
use Rattle.std.specs.Ordering.{match_ordering, nat_cmp}
use Rattle.serde_json.proofs.Views.{get_member-put, get_member-put_other}
use Rattle.serde_json.specs.Data.{Data, Members, member, no_members, put}
use Rattle.serde_json.specs.Find.{get_member}
use Rattle.rec_json.proofs.FieldOrder.{same_key}
use Rattle.rec_json.proofs.Found.{Entry, members_view-one_more}
use Rattle.rec_json.specs.declared.node.Node.{Node}
use Rattle.rec_json.specs.Fields.{only_of}
use Rattle.rec_json.specs.Nodes.{members_view, put_all, view}

-- ---- one key

abbrev pub HaveKey : List ℕ → List Entry → Type 0
HaveKey k = AllByRecursion (λ e. e.0.now ≡ k)

-- no member, or just one, at this key
abbrev AreAt : List ℕ → Members → Type 0
AreAt k no_members = Unit {0}
AreAt k (member l d no_members) = l ≡ k
AreAt k (member l d (member m e ms)) = ⊥

put_only : (k : List ℕ) (d : Data) (ms : Members) → AreAt k ms → put k d ms ≡ member k d no_members
put_only k d no_members h = refl
put_only k d (member l e no_members) h = rw (h, tied_itself nat_list_cmp_total k) refl
put_only k d (member l e (member m f ms)) h = absurd h

AreAt-put : (k l : List ℕ) (d : Data) (ms : Members) → l ≡ k → AreAt k ms → AreAt k (put l d ms)
AreAt-put k l d ms same h = rw (same, put_only k d ms h) refl

AreAt-put_all : (k : List ℕ) (es : List Entry) (ms : Members) → HaveKey k es → AreAt k ms
    → AreAt k (put_all ms (map (λ e. (e.0, view e.1)) es))
AreAt-put_all k [] ms same h = h
AreAt-put_all k (e ∷ es) ms same h =
    AreAt-put_all k es (put e.0.now (view e.1) ms) same.1
    (AreAt-put k e.0.now (view e.1) ms same.0 h)

one_key : (es : List Entry) (k : Bor (List ℕ)) (v : Node) → HaveKey k.now es
    → Some (k.now, view v) ≡ only_of (members_view (es ++ (k, v) ∷ []))
one_key es k v same =
    let alone =
    put_only k.now (view v) (members_view es) (AreAt-put_all k.now es no_members same tt) in
    ap only_of (sym (members_view-one_more es k v ∙ alone))

HaveKey-front : (k : List ℕ) (es : List Entry) (f : Entry) → HaveKey k (es ++ f ∷ []) → HaveKey k es
HaveKey-front k [] f h = tt
HaveKey-front k (e ∷ es) f h = (h.0, HaveKey-front k es f h.1)

pub HaveKey-one_more : (k : List ℕ) (es : List Entry) (f : Entry) → HaveKey k es → f.0.now ≡ k
    → HaveKey k (es ++ f ∷ [])
HaveKey-one_more k [] f h same = (same, tt)
HaveKey-one_more k (e ∷ es) f h same = (h.0, HaveKey-one_more k es f h.1 same)

-- the last of them all, where all have its key
pub last_one : (es : List Entry) (i : ℕ) (f : Entry) → length es ≡ i + 1 → f ≡ get_or es i f
    → HaveKey f.0.now es → Some (f.0.now, view f.1) ≡ only_of (members_view es)
last_one es i f len is same =
    let whole : es ≡ take i es ++ f ∷ [] =
    sym (take_all (i + 1) es (omega (arith, len))) ∙ take_more es i f (omega (arith, len))
    ∙ ap (λ x. take i es ++ x ∷ []) (sym is) in
    one_key (take i es) f.0 f.1
    (HaveKey-front f.0.now (take i es) f (subst (HaveKey f.0.now) whole same))
    ∙ ap (λ xs. only_of (members_view xs)) (sym whole)

-- ---- two keys

abbrev Has : List ℕ → Members → Type 0
Has k ms = get_member k ms ≡ None → ⊥

Has-put_at : (b : Bool) (k l : List ℕ) (d : Data) (ms : Members) → bytes_eq k l ≡ b → Has k ms
    → Has k (put l d ms)
Has-put_at true k l d ms is h = λ none.
    let same : k ≡ l = (bytes_eq-Decides k l).0 is in
    let there : get_member l (put l d ms) ≡ None =
    ap (λ x. get_member x (put l d ms)) (sym same) ∙ none in
    cc (there, get_member-put l d ms)
Has-put_at false k l d ms is h = λ none.
    h (sym
    (get_member-put_other k l d ms (λ same. true≢false (sym ((bytes_eq-Decides k l).1 same) ∙ is)))
    ∙ none)

Has-put_all : (k : List ℕ) (es : List Entry) (ms : Members) → Has k ms
    → Has k (put_all ms (map (λ e. (e.0, view e.1)) es))
Has-put_all k [] ms h = h
Has-put_all k (e ∷ es) ms h =
    Has-put_all k es (put e.0.now (view e.1) ms)
    (Has-put_at (bytes_eq k e.0.now) k e.0.now (view e.1) ms refl h)

Has-own : (k : List ℕ) (d : Data) (ms : Members) → Has k (put k d ms)
Has-own k d ms = λ none. cc (none, get_member-put k d ms)

Has-entry : (es : List Entry) (ms : Members) (i : ℕ) (e : Entry) → i < length es → e ≡ get_or es i e
    → Has e.0.now (put_all ms (map (λ x. (x.0, view x.1)) es))
Has-entry [] ms i e within is = absurd (omega (arith, within))
Has-entry (x ∷ es) ms zero e within is =
    rw is (Has-put_all x.0.now es (put x.0.now (view x.1) ms) (Has-own x.0.now (view x.1) ms))
Has-entry (x ∷ es) ms (suc i) e within is =
    Has-entry es (put x.0.now (view x.1) ms) i e (omega (arith, within)) is

alone_at : (o : Ordering) (d : Data) → (match_ordering o None (Some d) None ≡ None → ⊥) → o ≡ Equal
alone_at Less d h = absurd (h refl)
alone_at Equal d h = refl
alone_at Greater d h = absurd (h refl)

two_members : (a b : List ℕ) (ms : Members) → (a ≡ b → ⊥) → Has a ms → Has b ms → None ≡ only_of ms
two_members a b no_members other h i = refl
two_members a b (member l d no_members) other h i =
    absurd (other (same_key a l (alone_at (slice_cmp nat_cmp a l) d h)
    ∙ sym (same_key b l (alone_at (slice_cmp nat_cmp b l) d i))))
two_members a b (member l d (member m e ms)) other h i = refl

pub differ : (a b : List ℕ) (t : Bool) → t ≡ not (bytes_eq a b) → t ≡ true → a ≡ b → ⊥
differ a b t is holds same = true≢false (sym holds ∙ is ∙ ap not ((bytes_eq-Decides a b).1 same))

-- where two of the members have other keys, there is no only one
pub two_keys : (es : List Entry) (i j : ℕ) (e f : Entry) → i < length es → e ≡ get_or es i e
    → j < length es → f ≡ get_or es j f → (e.0.now ≡ f.0.now → ⊥)
    → None ≡ only_of (members_view es)
two_keys es i j e f i_within e_is j_within f_is other =
    two_members e.0.now f.0.now (members_view es) other (Has-entry es no_members i e i_within e_is)
    (Has-entry es no_members j f j_within f_is)
