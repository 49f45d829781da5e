-- Which outputs share an entry.
use Rattle.std.proofs.Common.{◌≡◌, ℕ, List, [], ◌∷◌, ◌++◌, length, drop, Bool, true, false, Option}
use Rattle.std.proofs.Common.{Some, None, is_some, codes, refl, sym, ap, ◌∙◌, if◌then◌else◌}
use Rattle.std.proofs.lemmas.List.{drop_at}
use Rattle.std.proofs.lemmas.Slice.Eq.{bytes_eq-Decides}
use Rattle.std.specs.Int.{w64, to_be_bytes}
use Rattle.std.specs.Str.{bytes_eq}
use Rattle.hex.proofs.HexLemmas.{length-encode_with}
use Rattle.hex.specs.Hex.{encode_lower, lower_digits}
use Rattle.rec_container.proofs.Contents.{content_of-push}
use Rattle.rec_container.specs.Container.{Entry, content_of}
use Rattle.rec_container.specs.Writing.{entry_named}
use Rattle.rec_events.specs.declared.output_names.OutputFileName.{OutputFileName}
use Rattle.rec_events.specs.declared.output_names.OutputKind.TheVariants.{Stdout, Stderr, Combined}
use Rattle.rec_events.specs.declared.output_names.OutputKind.{OutputKind}
use Rattle.rec_events.specs.OutputNames.{kind_of, kind_suffix}
use Rattle.rec_store.proofs.PartsOf.{the_same}
use Rattle.rec_store.specs.Clashes.{with_entries, with_entry}
use Rattle.rec_store.specs.Cut.{cut}
use Rattle.rec_store.specs.EventOutputs.{file_name, output_entry}
use Rattle.rec_store.specs.OutputPaths.{output_path}

-- an entry that is put in twice stands there once
twice : (es : List Entry) (e : Entry) → with_entry (with_entry es e) e ≡ with_entry es e
twice es e = by (content_of es e.name) refl
  where
    by : (o : Option (List ℕ)) → content_of es e.name ≡ o
        → with_entry (if is_some o then es else es ++ e ∷ []) e
        ≡ (if is_some o then es else es ++ e ∷ [])
    by (Some content) is = ap (λ o. if is_some o then es else es ++ e ∷ []) is
    by None is =
        ap (λ o. if is_some o then es ++ e ∷ [] else (es ++ e ∷ []) ++ e ∷ [])
        (content_of-push es e.name e.content is)

-- ---- paths of two kinds

kind_back : (k : OutputKind) → kind_of (kind_suffix k) ≡ Some k
kind_back Stdout = refl
kind_back Stderr = refl
kind_back Combined = refl

-- what stands after the digits
suffixes : (k l : OutputKind) (d e : List ℕ) → length d ≡ 16 → length e ≡ 16
    → codes "out/" ++ (d ++ kind_suffix k) ≡ codes "out/" ++ (e ++ kind_suffix l)
    → kind_suffix k ≡ kind_suffix l
suffixes k l d e p q h =
    let names : d ++ kind_suffix k ≡ e ++ kind_suffix l =
    sym (drop_at (codes "out/") (d ++ kind_suffix k) 4 refl) ∙ ap (drop 4) h
    ∙ drop_at (codes "out/") (e ++ kind_suffix l) 4 refl in
    sym (drop_at d (kind_suffix k) 16 p) ∙ ap (drop 16) names ∙ drop_at e (kind_suffix l) 16 q

same_kind : (f g : OutputFileName) → output_path f ≡ output_path g → f.kind ≡ g.kind
unfolding output_path
same_kind f g h =
    let digits : OutputFileName → List ℕ = λ name. encode_lower (to_be_bytes w64 name.number) in
    let sixteen : (name : OutputFileName) → length (digits name) ≡ 16 =
    λ name. length-encode_with lower_digits (to_be_bytes w64 name.number) in
    let same = suffixes f.kind g.kind (digits f) (digits g) (sixteen f) (sixteen g) h in
    the_same f.kind g.kind (sym (kind_back f.kind) ∙ ap kind_of same ∙ kind_back g.kind)

kinds_apart : (f g : OutputFileName) → (f.kind ≡ g.kind → ⊥)
    → bytes_eq (output_path f) (output_path g) ≡ false
kinds_apart f g apart = by (bytes_eq (output_path f) (output_path g)) refl
  where
    by : (b : Bool) → bytes_eq (output_path f) (output_path g) ≡ b → b ≡ false
    by false is = refl
    by true is =
        absurd (apart (same_kind f g ((bytes_eq-Decides (output_path f) (output_path g)).0 is)))

-- ---- outputs

module _ (number : List ℕ → ℕ) (m : ℕ) (a b : List ℕ) where
  pub one_entry : (k : OutputKind) (es : List Entry) → cut a m ≡ cut b m
      → with_entries es (output_entry number m k a ∷ output_entry number m k b ∷ [])
      ≡ with_entry es (output_entry number m k a)
  one_entry k es same =
      let made : List ℕ → Entry =
      λ content. entry_named (output_path (record { number = number content; kind = k })) content in
      ap
      (λ (content : List ℕ). with_entry (with_entry es (output_entry number m k a)) (made content))
      (sym same)
      ∙ twice es (output_entry number m k a)

  pub two_entries : (k l : OutputKind) → (k ≡ l → ⊥)
      → with_entries [] (output_entry number m k a ∷ output_entry number m l b ∷ [])
      ≡ output_entry number m k a ∷ output_entry number m l b ∷ []
  two_entries k l apart =
      let x = output_entry number m k a in
      let y = output_entry number m l b in
      let new =
      kinds_apart (file_name number m l b) (file_name number m k a) (λ same. apart (sym same)) in
      ap (λ t. if is_some (if t then Some x.content else None) then x ∷ [] else x ∷ y ∷ []) new
