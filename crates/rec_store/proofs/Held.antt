-- What is found under a name, as entries are put in one after the other.
use Rattle.std.proofs.Common.{◌≡◌, ℕ, List, [], ◌∷◌, ◌++◌, Bool, true, false, not, Option, Some}
use Rattle.std.proofs.Common.{None, is_some, refl, sym, ap, ◌∙◌, append_assoc, if◌then◌else◌}
use Rattle.std.proofs.lemmas.Slice.Eq.{bytes_eq-Decides}
use Rattle.std.specs.List.{AllByRecursion}
use Rattle.std.specs.Option.{option_or}
use Rattle.std.specs.Str.{bytes_eq}
use Rattle.rec_container.proofs.Contents.{content_of-found, content_of-missing}
use Rattle.rec_container.specs.Container.{Entry, content_of}
use Rattle.rec_store.specs.Clashes.{with_entry, with_entries, differs, clash}
use Rattle.rec_store.specs.Kept.{IsHeld}

-- ---- of each element

pub all_append : {A : Type 0} (P : A → Type 0) (xs ys : List A) → AllByRecursion P xs
    → AllByRecursion P ys → AllByRecursion P (xs ++ ys)
all_append P [] ys p q = q
all_append P (x ∷ xs) ys p q = (p.0, all_append P xs ys p.1 q)

pub all_prefix : {A : Type 0} (P : A → Type 0) (xs ys : List A) → AllByRecursion P (xs ++ ys)
    → AllByRecursion P xs
all_prefix P [] ys p = tt
all_prefix P (x ∷ xs) ys p = (p.0, all_prefix P xs ys p.1)

pub all_back : {A : Type 0} (P : A → Type 0) (xs ys : List A) → AllByRecursion P (xs ++ ys)
    → AllByRecursion P ys
all_back P [] ys p = p
all_back P (x ∷ xs) ys p = all_back P xs ys p.1

pub all_weaker : {A : Type 0} (P Q : A → Type 0) → ((x : A) → P x → Q x) → (xs : List A)
    → AllByRecursion P xs → AllByRecursion Q xs
all_weaker P Q f [] p = tt
all_weaker P Q f (x ∷ xs) p = (f x p.0, all_weaker P Q f xs p.1)

-- ---- one more entry

all_unless : (P : Entry → Type 0) (b : Bool) (es : List Entry) (f : Entry) → AllByRecursion P es
    → P f → AllByRecursion P (if b then es else es ++ f ∷ [])
all_unless P true es f p q = p
all_unless P false es f p q = all_append P es (f ∷ []) p (q, tt)

-- what holds of the entries before and of those put in holds of the entries then
pub all_with : (P : Entry → Type 0) (es fs : List Entry) → AllByRecursion P es → AllByRecursion P fs
    → AllByRecursion P (with_entries es fs)
all_with P es [] p q = p
all_with P es (f ∷ fs) p q =
    all_with P (with_entry es f) fs (all_unless P (is_some (content_of es f.name)) es f p q.0) q.1

found_unless : (b : Bool) (es : List Entry) (f : Entry) (name content : List ℕ)
    → content_of es name ≡ Some content
    → content_of (if b then es else es ++ f ∷ []) name ≡ Some content
found_unless true es f name content h = h
found_unless false es f name content h = content_of-found es (f ∷ []) name content h

-- what is found stays
pub found_with : (es fs : List Entry) (name content : List ℕ) → content_of es name ≡ Some content
    → content_of (with_entries es fs) name ≡ Some content
found_with es [] name content h = h
found_with es (f ∷ fs) name content h =
    found_with (with_entry es f) fs name content
    (found_unless (is_some (content_of es f.name)) es f name content h)

-- ---- an entry under its name

content_of-own : (f : Entry) → content_of (f ∷ []) f.name ≡ Some f.content
content_of-own f =
    ap (λ b. if b then Some f.content else None) ((bytes_eq-Decides f.name f.name).1 refl)

same_bytes : (b c : List ℕ) (t : Bool) → bytes_eq b c ≡ t → not t ≡ false → b ≡ c
same_bytes b c true is h = (bytes_eq-Decides b c).0 is
same_bytes b c false is h = absurd cc

held_at : (es : List Entry) (f : Entry) (o : Option (List ℕ)) → content_of es f.name ≡ o
    → differs o f.content ≡ false
    → content_of (if is_some o then es else es ++ f ∷ []) f.name ≡ Some f.content
held_at es f None is h = content_of-missing es (f ∷ []) f.name is ∙ content_of-own f
held_at es f (Some held) is h =
    is ∙ ap Some (same_bytes held f.content (bytes_eq held f.content) refl h)

held_with_entry : (es : List Entry) (f : Entry) → differs (content_of es f.name) f.content ≡ false
    → IsHeld (with_entry es f) f
held_with_entry es f h = held_at es f (content_of es f.name) refl h

first_agrees : (b : Bool) (path : List ℕ) (rest : Option (List ℕ))
    → (if b then Some path else rest) ≡ None → (b ≡ false) × (rest ≡ None)
first_agrees true path rest h = absurd cc
first_agrees false path rest h = (refl, h)

-- entries that don't clash are found
pub all_held : (es fs : List Entry) → clash es fs ≡ None
    → AllByRecursion (IsHeld (with_entries es fs)) fs
all_held es [] h = tt
all_held es (f ∷ fs) h =
    let agree = first_agrees (differs (content_of es f.name) f.content) f.name
    (clash (with_entry es f) fs) h in (
      found_with (with_entry es f) fs f.name f.content (held_with_entry es f agree.0),
      all_held (with_entry es f) fs agree.1,
    )

-- ---- entries after entries

pub with_entries-append : (es fs gs : List Entry)
    → with_entries es (fs ++ gs) ≡ with_entries (with_entries es fs) gs
with_entries-append es [] gs = refl
with_entries-append es (f ∷ fs) gs = with_entries-append (with_entry es f) fs gs

clash_then : (b : Bool) (path : List ℕ) (rest more : Option (List ℕ))
    → option_or (if b then Some path else rest) more
    ≡ (if b then Some path else option_or rest more)
clash_then true path rest more = refl
clash_then false path rest more = refl

pub clash-append : (es fs gs : List Entry)
    → clash es (fs ++ gs) ≡ option_or (clash es fs) (clash (with_entries es fs) gs)
clash-append es [] gs = refl
clash-append es (f ∷ fs) gs =
    ap (λ o. if differs (content_of es f.name) f.content then Some f.name else o)
    (clash-append (with_entry es f) fs gs)
    ∙ sym (clash_then (differs (content_of es f.name) f.content) f.name (clash (with_entry es f) fs)
    (clash (with_entries (with_entry es f) fs) gs))

-- ---- entries in prefix, among which the names don't stand

abbrev pub IsAbsent : List Entry → Entry → Type 0
IsAbsent es f = content_of es f.name ≡ None

push_unless : (b : Bool) (prefix es : List Entry) (f : Entry)
    → (if b then prefix ++ es else (prefix ++ es) ++ f ∷ [])
    ≡ prefix ++ (if b then es else es ++ f ∷ [])
push_unless true prefix es f = refl
push_unless false prefix es f = append_assoc prefix es (f ∷ [])

with_entry-after : (prefix es : List Entry) (f : Entry) → IsAbsent prefix f
    → with_entry (prefix ++ es) f ≡ prefix ++ with_entry es f
with_entry-after prefix es f h =
    ap (λ o. if is_some o then prefix ++ es else (prefix ++ es) ++ f ∷ [])
    (content_of-missing prefix es f.name h)
    ∙ push_unless (is_some (content_of es f.name)) prefix es f

pub with_entries-after : (prefix es fs : List Entry) → AllByRecursion (IsAbsent prefix) fs
    → with_entries (prefix ++ es) fs ≡ prefix ++ with_entries es fs
with_entries-after prefix es [] h = refl
with_entries-after prefix es (f ∷ fs) h =
    ap (λ l. with_entries l fs) (with_entry-after prefix es f h.0)
    ∙ with_entries-after prefix (with_entry es f) fs h.1

pub clash-after : (prefix es fs : List Entry) → AllByRecursion (IsAbsent prefix) fs
    → clash (prefix ++ es) fs ≡ clash es fs
clash-after prefix es [] h = refl
clash-after prefix es (f ∷ fs) h =
    ap (λ o. if differs o f.content then Some f.name else clash (with_entry (prefix ++ es) f) fs)
    (content_of-missing prefix es f.name h.0)
    ∙ ap (λ l. if differs (content_of es f.name) f.content then Some f.name else clash l fs)
    (with_entry-after prefix es f h.0)
    ∙ ap (λ o. if differs (content_of es f.name) f.content then Some f.name else o)
    (clash-after prefix (with_entry es f) fs h.1)
