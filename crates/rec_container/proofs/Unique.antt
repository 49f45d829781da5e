-- Bytes are read in one way.
use Rattle.std.proofs.Common.{◌≡◌, ◌≤◌, ℕ, List, [], ◌∷◌, ◌++◌, length, length-append}
use Rattle.std.proofs.Common.{arith, Result, Ok, Err, refl, sym, ap, subst, ◌∙◌}
use Rattle.std.proofs.Common.{append_assoc, append-nil, ◌⊎◌, inl, inr, true, take}
use Rattle.std.proofs.Common.{IfOk, IfErr, MatchResult, Bool, false, Option}
use Rattle.std.proofs.lemmas.List.{append_cancel_left, take_at}
use Rattle.std.proofs.lemmas.Slice.Eq.{bytes_eq-Decides}
use Rattle.std.specs.List.{flat_map}
use Rattle.rec_container.proofs.Grammar.{step_at-spelled, step_at-same, entry-tagged, entry_fields}
use Rattle.rec_container.specs.Container.{Entry, entry, magic, content_of, AreFrom}
use Rattle.rec_container.specs.Container.{place_after, IsContainer, IsPrefix, ParsedContainer}
use Rattle.rec_container.specs.declared.errors.ContainerError.TheVariants.{OutOfMemory}
use Rattle.rec_container.specs.declared.errors.ContainerError.{ContainerError}
use Rattle.rec_container.specs.Reading.{step_at, IsFault, has_magic}
use Rattle.rec_container.specs.WholePrefixes.{IsStuck}

-- of two readings of the same bytes, the one that is stuck has all entries of the other
pub prefix_first : (seen es fs : List Entry) (x y : List ℕ) → AreFrom seen es → AreFrom seen fs
    → flat_map entry es ++ x ≡ flat_map entry fs ++ y → IsStuck (seen ++ es) x
    → (more : List Entry) × (es ≡ fs ++ more)
prefix_first seen es [] x y p q h s = (es, refl)
prefix_first seen [] (f ∷ fs) x y p q h s =
    absurd (s f (flat_map entry fs ++ y) q.0 (ap (λ l. content_of l f.name) (append-nil seen) ∙ q.1)
    (h ∙ append_assoc (entry f) (flat_map entry fs) y))
prefix_first seen (e ∷ es) (f ∷ fs) x y p q h s =
    let r = flat_map entry es ++ x in
    let u = flat_map entry fs ++ y in
    let same : entry e ++ r ≡ entry f ++ u = sym (append_assoc (entry e) (flat_map entry es) x) ∙ h
    ∙ append_assoc (entry f) (flat_map entry fs) y in
    let both = step_at-same (e, r) (f, u) 0 seen (entry e ++ r) (step_at-spelled 0 seen e r p.0 p.1)
    (ap (step_at 0 seen) same ∙ step_at-spelled 0 seen f u q.0 q.1) in
    let one : e ≡ f = ap (λ (w : Entry × List ℕ). w.0) both in
    let rest : r ≡ u = ap (λ (w : Entry × List ℕ). w.1) both in
    let qs : AreFrom (seen ++ e ∷ []) fs =
    subst (λ (d : Entry). AreFrom (seen ++ d ∷ []) fs) (sym one) q.2 in
    let s' : IsStuck ((seen ++ e ∷ []) ++ es) x =
    subst (λ (l : List Entry). IsStuck l x) (sym (append_assoc seen (e ∷ []) es)) s in
    let ih = prefix_first (seen ++ e ∷ []) es fs x y p.2 qs rest s' in
    (ih.0, (λ i. one i ∷ ih.1 i))

no_more : (es more : List Entry) → length (es ++ more) ≤ length es → es ++ more ≡ es
no_more es [] h = append-nil es
no_more es (e ∷ more) h = absurd (omega (arith, h, length-append es (e ∷ more)))

-- two that are stuck have the same entries, and the same rest
pub prefixes_unique : (seen es fs : List Entry) (x y : List ℕ) → AreFrom seen es → AreFrom seen fs
    → flat_map entry es ++ x ≡ flat_map entry fs ++ y → IsStuck (seen ++ es) x
    → IsStuck (seen ++ fs) y → (es ≡ fs) × (x ≡ y)
prefixes_unique seen es fs x y p q h s t =
    let a = prefix_first seen es fs x y p q h s in
    let b = prefix_first seen fs es y x q p (sym h) t in
    let short : length (fs ++ a.0) ≤ length fs =
    omega (arith, ap length a.1, ap length b.1, length-append es b.0) in
    let same : es ≡ fs = a.1 ∙ no_more fs a.0 short in (
      same,
      append_cancel_left (flat_map entry es) x y
          (h ∙ ap (λ (l : List Entry). flat_map entry l ++ y) (sym same)),
    )

-- an end mark is no entry
pub end_stuck : (seen : List Entry) (x : List ℕ) → IsStuck seen (0 ∷ x)
end_stuck seen x e r is new h =
    let w : 0 ∷ x ≡ 1 ∷ (entry_fields e ++ r) = h ∙ ap (λ l. l ++ r) (entry-tagged e) in
    absurd (let k = ap first w in cc)
  where
    first : List ℕ → ℕ
    first [] = 0
    first (b ∷ bs) = b

-- nor is a fault
pub fault_stuck : (p : ℕ) (seen : List Entry) (x : List ℕ) (f : ContainerError)
    → step_at p seen x ≡ Err f → IsStuck seen x
fault_stuck p seen x f h e r is new w =
    let g = sym h ∙ ap (step_at p seen) w ∙ step_at-spelled p seen e r is new in cc

-- what follows the magic
pub after_magic : (es fs : List Entry) (x y : List ℕ)
    → magic ++ flat_map entry es ++ x ≡ magic ++ flat_map entry fs ++ y
    → flat_map entry es ++ x ≡ flat_map entry fs ++ y
after_magic es fs x y h =
    append_cancel_left magic _ _
    (sym (append_assoc magic (flat_map entry es) x) ∙ h ∙ append_assoc magic (flat_map entry fs) y)

pub one_reading_spec : (bytes : List ℕ) (es fs : List Entry) → IsContainer bytes es
    → IsContainer bytes fs → es ≡ fs
one_reading_spec bytes es fs p q =
    (prefixes_unique [] es fs (0 ∷ []) (0 ∷ []) p.entries q.entries
    (after_magic es fs (0 ∷ []) (0 ∷ []) (sym p.spelled ∙ q.spelled)) (end_stuck es [])
    (end_stuck fs [])).0

tail_of : (x y : List ℕ) → 0 ∷ x ≡ 0 ∷ y → x ≡ y
tail_of x y h = cc

pub no_prefix_spec : (bytes more : List ℕ) (es fs : List Entry) → IsContainer bytes es
    → IsContainer (bytes ++ more) fs → more ≡ []
no_prefix_spec bytes more es fs p q =
    let longer : bytes ++ more ≡ magic ++ flat_map entry es ++ 0 ∷ more =
    ap (λ l. l ++ more) p.spelled ∙ append_assoc (magic ++ flat_map entry es) (0 ∷ []) more in
    let both = prefixes_unique [] es fs (0 ∷ more) (0 ∷ []) p.entries q.entries
    (after_magic es fs (0 ∷ more) (0 ∷ []) (sym longer ∙ q.spelled)) (end_stuck es more)
    (end_stuck fs []) in
    tail_of more [] both.1

no_end_fault : (p : ℕ) (seen : List Entry) (f : ContainerError) → step_at p seen (0 ∷ []) ≡ Err f
    → ⊥
unfolding step_at
no_end_fault p seen f h = cc

-- a prefix begins with the magic
prefix_has_magic : (bytes : List ℕ) (es : List Entry) (rest : List ℕ) → IsPrefix bytes es rest
    → has_magic bytes ≡ true
prefix_has_magic bytes es rest prefix =
    (bytes_eq-Decides (take (length magic) bytes) magic).1
    (ap (take (length magic)) (prefix.spelled ∙ append_assoc magic (flat_map entry es) rest)
    ∙ take_at magic (flat_map entry es ++ rest) (length magic) refl)

not_both : (b : Bool) → b ≡ true → b ≡ false → ⊥
not_both b holds fails = cc

-- what spells entries has no fault
pub no_fault : (bytes : List ℕ) (es : List Entry) (f : ContainerError) → IsContainer bytes es
    → IsFault bytes f → ⊥
no_fault bytes es f p (inl q) =
    not_both _
    (prefix_has_magic bytes es (0 ∷ []) (record { spelled = p.spelled; entries = p.entries })) q.0
no_fault bytes es f p (inr q) =
    let gs = q.0 in
    let rest = q.1 in
    let prefix = q.2 in
    let both = prefixes_unique [] es gs (0 ∷ []) rest p.entries prefix.entries
    (after_magic es gs (0 ∷ []) rest (sym p.spelled ∙ prefix.spelled)) (end_stuck es [])
    (fault_stuck (place_after gs) gs rest f q.3) in
    let ends : step_at (place_after gs) gs (0 ∷ []) ≡ Err f =
    ap (step_at (place_after gs) gs) both.1 ∙ q.3 in
    no_end_fault (place_after gs) gs f ends

same_fault : (r : Result (Option (Entry × List ℕ)) ContainerError) (e f : ContainerError)
    → r ≡ Err e → r ≡ Err f → e ≡ f
same_fault r e f p q = cc

-- other bytes have at most one
pub one_fault : (bytes : List ℕ) (e f : ContainerError) → IsFault bytes e → IsFault bytes f → e ≡ f
one_fault bytes e f (inl p) (inl q) = p.1 ∙ sym q.1
one_fault bytes e f (inl p) (inr q) = absurd (not_both _ (prefix_has_magic bytes q.0 q.1 q.2) p.0)
one_fault bytes e f (inr p) (inl q) = absurd (not_both _ (prefix_has_magic bytes p.0 p.1 p.2) q.0)
one_fault bytes e f (inr p) (inr q) =
    let es = p.0 in
    let gs = q.0 in
    let both = prefixes_unique [] es gs p.1 q.1 p.2.entries q.2.entries
    (after_magic es gs p.1 q.1 (sym p.2.spelled ∙ q.2.spelled))
    (fault_stuck (place_after es) es p.1 e p.3) (fault_stuck (place_after gs) gs q.1 f q.3) in
    let again : step_at (place_after es) es p.1 ≡ Err f =
    ap (λ (l : List Entry). step_at (place_after l) l p.1) both.0
    ∙ ap (step_at (place_after gs) gs) both.1 ∙ q.3 in
    same_fault _ e f p.3 again

-- what spells entries is read as these, unless memory runs out
pub only_reading : (bytes : List ℕ) (r : Result ParsedContainer ContainerError)
    → IfOk r (λ c. (c.bytes ≡ bytes) × IsContainer bytes c.entries)
    → IfErr r (λ e. (e ≡ OutOfMemory) ⊎ IsFault bytes e)
    → (es : List Entry) → IsContainer bytes es
    → MatchResult r (λ c. c.entries ≡ es) (λ e. e ≡ OutOfMemory)
only_reading bytes (Ok c) found fault es p = one_reading_spec bytes c.entries es found.1 p
only_reading bytes (Err e) found (inl memory) es p = memory
only_reading bytes (Err e) found (inr f) es p = absurd (no_fault bytes es e p f)
