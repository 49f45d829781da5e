-- Why a store is refused, by its whole prefix.
use Rattle.std.proofs.Common.{◌≡◌, ℕ, Bool, true, false, List, ◌++◌, length}
use Rattle.std.proofs.Common.{take, Option, Some, None, Result, Ok, Err, IfErr}
use Rattle.std.proofs.Common.{inl, inr, refl, sym, ap, subst, ◌∙◌, arith}
use Rattle.std.proofs.lemmas.Grind.{common_steps}
use Rattle.std.proofs.lemmas.Slice.Eq.{bytes_eq-Decides}
use Rattle.std.specs.List.{flat_map}
use Rattle.std.specs.Option.{option_or}
use Rattle.std.specs.Str.{is_utf8}
use Rattle.rec_container.proofs.WholePrefixes.{prefix_one}
use Rattle.rec_container.specs.Container.{Entry, content_of, entry, magic}
use Rattle.rec_container.specs.Reading.{has_magic}
use Rattle.rec_container.specs.WholePrefixes.{IsWholePrefix}
use Rattle.rec_forms.specs.Recording.{test_list_form, record_opts_form}
use Rattle.rec_format.specs.RerunForms.{rerun_info_form}
use Rattle.rec_format.specs.ScopeForms.{recorded_scope_form}
use Rattle.rec_store.specs.Entries.{build_scope_path, cargo_metadata_path}
use Rattle.rec_store.specs.Entries.{record_opts_path, rerun_info_path, test_list_path}
use Rattle.rec_salvage.specs.declared.errors.SalvageError.TheVariants.{
  BadMagic,
  MissingMeta,
  BadMeta,
  OpenArchive,
  OpenRunLog,
  DiskFault,
  OutOfMemory,
}
use Rattle.rec_salvage.specs.declared.errors.SalvageError.{SalvageError}
use Rattle.rec_salvage.specs.declared.salvaging.Salvaged.{Salvaged}
use Rattle.rec_salvage.specs.Refusals.{HasRefusal, IsRefusal, IsRefused, Judges, content_refusal}
use Rattle.rec_salvage.specs.Refusals.{prefix_refusal, maybe_refusal, part_refusal, stands_for}

-- ---- one part after the other

pub want_of_memory : (o : Option SalvageError) → IsRefusal o OutOfMemory
want_of_memory None = refl
want_of_memory (Some r) = inr refl

-- the first part is refused, or memory was short
pub first_refused : (a b : Option SalvageError) (e : SalvageError) → IsRefusal a e
    → IsRefusal (option_or a b) e
first_refused None b e h = subst (IsRefusal b) (sym h) (want_of_memory b)
first_refused (Some r) b e h = h

-- where it isn't, the others decide
pub next_refused : (a b : Option SalvageError) (e : SalvageError) → a ≡ None → IsRefusal b e
    → IsRefusal (option_or a b) e
next_refused a b e none h =
    subst (λ (o : Option SalvageError). IsRefusal (option_or o b) e) (sym none) h

pub next_judged : (a b : Option SalvageError) (r : Result (Unit {0}) SalvageError) → a ≡ None
    → Judges b r → Judges (option_or a b) r
next_judged a b r none h =
    subst (λ (o : Option SalvageError). Judges (option_or o b) r) (sym none) h

-- ---- refusals of metadata

-- a part of the metadata is missing, or stands for nothing
IsOfMetadata : SalvageError → Type 0
IsOfMetadata BadMagic = ⊥
IsOfMetadata (MissingMeta path) = Unit {0}
IsOfMetadata (BadMeta path) = Unit {0}
IsOfMetadata (OpenArchive path) = ⊥
IsOfMetadata (OpenRunLog path) = ⊥
IsOfMetadata (DiskFault path) = ⊥
IsOfMetadata OutOfMemory = ⊥

abbrev AreOfMetadata : Option SalvageError → Type 0
AreOfMetadata o = (e : SalvageError) → o ≡ Some e → IsOfMetadata e

first_of : (a b : Option SalvageError) → AreOfMetadata a → AreOfMetadata b
    → AreOfMetadata (option_or a b)
first_of None b p q e h = q e h
first_of (Some d) b p q e h = p e h

of_content : (path : List ℕ) (b : Bool) → AreOfMetadata (content_refusal path b)
unfolding IsOfMetadata
of_content path true e h = absurd cc
of_content path false e h = let same : BadMeta path ≡ e = cc in subst IsOfMetadata same tt

of_part : (path : List ℕ) (test : List ℕ → Bool) (o : Option (List ℕ))
    → AreOfMetadata (part_refusal path test o)
unfolding IsOfMetadata
of_part path test None e h = let same : MissingMeta path ≡ e = cc in subst IsOfMetadata same tt
of_part path test (Some content) e h = of_content path (test content) e h

of_maybe : (path : List ℕ) (test : List ℕ → Bool) (o : Option (List ℕ))
    → AreOfMetadata (maybe_refusal path test o)
of_maybe path test None e h = absurd cc
of_maybe path test (Some content) e h = of_content path (test content) e h

of_prefix : (es : List Entry) → AreOfMetadata (prefix_refusal es)
of_prefix es =
    first_of _ _
    (of_part build_scope_path (stands_for recorded_scope_form) (content_of es build_scope_path))
    (first_of _ _
    (of_maybe rerun_info_path (stands_for rerun_info_form) (content_of es rerun_info_path))
    (first_of _ _
    (of_part test_list_path (stands_for test_list_form) (content_of es test_list_path))
    (first_of _ _ (of_part cargo_metadata_path is_utf8 (content_of es cargo_metadata_path))
    (of_part record_opts_path (stands_for record_opts_form) (content_of es record_opts_path)))))

-- ---- refusals of a store

has_refusal : (store : List ℕ) (e : SalvageError) → IsOfMetadata e → HasRefusal store e
    → IsRefused store e
unfolding IsOfMetadata
has_refusal store BadMagic is h = absurd is
has_refusal store (MissingMeta path) is h = h
has_refusal store (BadMeta path) is h = h
has_refusal store (OpenArchive path) is h = absurd is
has_refusal store (OpenRunLog path) is h = absurd is
has_refusal store (DiskFault path) is h = absurd is
has_refusal store OutOfMemory is h = tt

-- an error of judging the prefix is one of the store
pub refused : (store : List ℕ) (es : List Entry) (e : SalvageError) → IsWholePrefix store es
    → IsRefusal (prefix_refusal es) e → IsRefused store e
refused store es e prefix h = by (prefix_refusal es) refl h
  where
    by : (o : Option SalvageError) → prefix_refusal es ≡ o → IsRefusal o e → IsRefused store e
    by None is same = subst (IsRefused store) (sym same) tt
    by (Some r) is (inl same) =
        subst (IsRefused store) (sym same)
        (has_refusal store r (of_prefix es r is) (es, prefix, is))
    by (Some r) is (inr short) = subst (IsRefused store) (sym short) tt

-- a whole prefix stands after the magic
take_prefix : (a b : List ℕ) → take (length a) (a ++ b) ≡ a
take_prefix a b = grind (arith, common_steps)

magic_there : (store : List ℕ) (es : List Entry) → IsWholePrefix store es → has_magic store ≡ true
unfolding magic
magic_there store es prefix =
    (bytes_eq-Decides (take (length magic) store) magic).1
    (ap (take (length magic)) prefix.prefix.spelled
    ∙ take_prefix magic (flat_map entry es ++ prefix.rest))

not_both : {A : Type 0} (b : Bool) → b ≡ true → b ≡ false → A
not_both b holds fails = absurd (let k = sym holds ∙ fails in cc)

-- and one of the store is one of judging its prefix
pub judged : (store : List ℕ) (es : List Entry) (e : SalvageError) → IsWholePrefix store es
    → IsRefused store e → IsRefusal (prefix_refusal es) e
judged store es e prefix h = by e h
  where
    same : (r : SalvageError) → HasRefusal store r → IsRefusal (prefix_refusal es) r
    same r has =
        let is = ap prefix_refusal (prefix_one store es has.0 prefix has.1) ∙ has.2 in
        subst (λ (o : Option SalvageError). IsRefusal o r) (sym is) (inl refl)

    by : (e : SalvageError) → IsRefused store e → IsRefusal (prefix_refusal es) e
    by BadMagic none = not_both (has_magic store) (magic_there store es prefix) none
    by (MissingMeta path) has = same (MissingMeta path) has
    by (BadMeta path) has = same (BadMeta path) has
    by (OpenArchive path) has = absurd has
    by (OpenRunLog path) has = absurd has
    by (DiskFault path) has = absurd has
    by OutOfMemory has = want_of_memory (prefix_refusal es)

pub only_refused : (store : List ℕ) (es : List Entry) (r : Result Salvaged SalvageError)
    → IsWholePrefix store es → IfErr r (IsRefused store) → IfErr r (IsRefusal (prefix_refusal es))
only_refused store es (Ok s) prefix h = tt
only_refused store es (Err e) prefix h = judged store es e prefix h
