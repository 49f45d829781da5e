-- The outputs that are named, one after the other.
use Rattle.std.proofs.Common.{◌≡◌, ℕ, ◌+◌, ◌<◌, ◌≤◌, List, [], ◌∷◌, Bool, true, false}
use Rattle.std.proofs.Common.{cond, ◌||◌, drop, get_or, length, map, Result, Ok, Err}
use Rattle.std.proofs.Common.{String, Global, string_bytes, refl, sym, ap, subst, ◌∙◌}
use Rattle.std.proofs.lemmas.List.{drop_all, drop_more}
use Rattle.std.proofs.lemmas.Slice.Eq.{bytes_eq-Decides}
use Rattle.std.specs.List.{list_any}
use Rattle.std.specs.Str.{bytes_eq}
use Rattle.rec_container.specs.Container.{Entry}
use Rattle.rec_container.specs.Reading.{◌>>=◌}
use Rattle.rec_events.specs.declared.output_names.OutputFileName.{OutputFileName}
use Rattle.rec_events.specs.declared.output_names.OutputKind.TheVariants as kind
use Rattle.rec_store.proofs.PartRefusals.{refuses_next}
use Rattle.rec_store.specs.declared.read_error.RecordReadError.{RecordReadError}
use Rattle.rec_store.specs.JudgedParts.{outputs_judged}
use Rattle.rec_store.specs.OutputPaths.{output_path}
use Rattle.rec_store.specs.Parts.{entry_part}
use Rattle.rec_store.specs.Readers.{Refuses}

-- what stands past the end
abbrev pub no_name : OutputFileName
no_name = record { number = 0; kind = kind.Stdout }

same_bytes : (x y : List ℕ) → bytes_eq x y ≡ bytes_eq y x
same_bytes x y = by (bytes_eq x y) (bytes_eq y x) refl refl
  where
    by : (a b : Bool) → bytes_eq x y ≡ a → bytes_eq y x ≡ b → a ≡ b
    by true true p q = refl
    by false false p q = refl
    by true false p q =
        let same = (bytes_eq-Decides x y).0 p in sym ((bytes_eq-Decides y x).1 (sym same)) ∙ q
    by false true p q =
        let same = (bytes_eq-Decides y x).0 q in sym p ∙ (bytes_eq-Decides x y).1 (sym same)

-- one path more in a set
grown : (a b s r : Bool) → a ≡ b → (cond a true s || r) ≡ (s || (b || r))
grown true true true r h = refl
grown true true false r h = refl
grown true false s r h = absurd cc
grown false true s r h = absurd cc
grown false false s r h = refl

module _ (limit : ℕ) (es : List Entry) (names : List OutputFileName) (i : ℕ) where
  abbrev paths_from : ℕ → List (List ℕ)
  paths_from k = map output_path (drop k names)

  module _ (path : List ℕ) (more : i < length names)
      (is : path ≡ output_path (get_or names i no_name)) where
    here : paths_from i ≡ path ∷ paths_from (i + 1)
    here =
        ap (map output_path) (drop_more names i no_name more)
        ∙ ap (λ p. p ∷ paths_from (i + 1)) (sym is)

    module _ (so_far : outputs_judged limit es (map output_path names)
        ≡ outputs_judged limit es (paths_from i)) where
      now : outputs_judged limit es (map output_path names)
          ≡ (entry_part es path limit >>= (λ content. outputs_judged limit es (paths_from (i + 1))))
      now = so_far ∙ ap (outputs_judged limit es) here

      pub output_refused : (e : RecordReadError) → Refuses (entry_part es path limit) e
          → Refuses (outputs_judged limit es (map output_path names)) e
      output_refused e h =
          subst (λ r. Refuses r e) (sym now) (refuses_next (entry_part es path limit)
          (λ content. outputs_judged limit es (paths_from (i + 1))) e h)

      pub output_passed : (content : List ℕ) → entry_part es path limit ≡ Ok content
          → outputs_judged limit es (map output_path names)
          ≡ outputs_judged limit es (paths_from (i + 1))
      output_passed content h =
          now ∙ ap (λ r. r >>= (λ c. outputs_judged limit es (paths_from (i + 1)))) h

    pub path_added : (old new : List ℕ → Bool)
        → ((q : List ℕ) → new q ≡ cond (bytes_eq path q) true (old q))
        → ((q : List ℕ) → (old q || list_any (λ p. bytes_eq q p) (paths_from i))
        ≡ list_any (λ p. bytes_eq q p) (map output_path names))
        → (q : List ℕ)
        → (new q || list_any (λ p. bytes_eq q p) (paths_from (i + 1)))
        ≡ list_any (λ p. bytes_eq q p) (map output_path names)
    path_added old new added so_far q =
        ap (λ b. b || list_any (λ p. bytes_eq q p) (paths_from (i + 1))) (added q)
        ∙ grown (bytes_eq path q) (bytes_eq q path) (old q)
        (list_any (λ p. bytes_eq q p) (paths_from (i + 1))) (same_bytes path q)
        ∙ ap (λ ps. old q || list_any (λ p. bytes_eq q p) ps) (sym here)
        ∙ so_far q

  pub outputs_passed : length names ≤ i
      → outputs_judged limit es (map output_path names) ≡ outputs_judged limit es (paths_from i)
      → outputs_judged limit es (map output_path names) ≡ Ok tt
  outputs_passed past so_far =
      so_far ∙ ap (λ l. outputs_judged limit es (map output_path l)) (drop_all i names past)

  or_false : (b : Bool) → (b || false) ≡ b
  or_false true = refl
  or_false false = refl

  pub all_added : length names ≤ i → (set : List ℕ → Bool)
      → ((q : List ℕ) → (set q || list_any (λ p. bytes_eq q p) (paths_from i))
      ≡ list_any (λ p. bytes_eq q p) (map output_path names))
      → (q : List ℕ) → set q ≡ list_any (λ p. bytes_eq q p) (map output_path names)
  all_added past set so_far q =
      sym (or_false (set q))
      ∙ ap (λ (l : List OutputFileName). set q || list_any (λ p. bytes_eq q p) (map output_path l))
      (sym (drop_all i names past))
      ∙ so_far q
