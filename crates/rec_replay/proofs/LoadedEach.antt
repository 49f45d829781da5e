-- What a loop that reads outputs has read.
use Rattle.std.proofs.Common.{◌≡◌, ℕ, ◌+◌, ◌<◌, ◌≤◌, List, [], ◌∷◌, ◌++◌, length, map, take}
use Rattle.std.proofs.Common.{drop, get_or, Ok, Err, refl, sym, ◌∙◌, ap, subst, add-one}
use Rattle.std.proofs.lemmas.Grind.{flat_map-append}
use Rattle.std.proofs.lemmas.List.{map-append, take-append-drop, take_all}
use Rattle.std.proofs.Math.Seq.{take-suc}
use Rattle.std.specs.List.{flat_map}
use Rattle.rec_container.specs.Container.{Entry}
use Rattle.rec_events.specs.declared.output_names.OutputFileName.{OutputFileName}
use Rattle.rec_store.specs.declared.read_error.RecordReadError.{RecordReadError}
use Rattle.rec_replay.proofs.Loaded.{loads_named, loads_before, loads_both, loads_after}
use Rattle.rec_replay.specs.Loading.{Loads}

nil_after : {A : Type 0} (xs : List A) → xs ++ [] ≡ xs
nil_after [] = refl
nil_after (x ∷ xs) = ap (λ l. x ∷ l) (nil_after xs)

-- one more of a list
take_next : {A : Type 0} (ss : List A) (i : ℕ) (s : A) → i < length ss → s ≡ get_or ss i s
    → take (i + 1) ss ≡ take i ss ++ (s ∷ [])
take_next ss i s h p =
    ap (λ n. take n ss) (add-one i) ∙ take-suc ss i s h ∙ ap (λ x. take i ss ++ (x ∷ [])) (sym p)

parted : {A : Type 0} (ss : List A) (i : ℕ) (s : A) → i < length ss → s ≡ get_or ss i s
    → (take i ss ++ (s ∷ [])) ++ drop (i + 1) ss ≡ ss
parted ss i s h p =
    ap (λ xs. xs ++ drop (i + 1) ss) (sym (take_next ss i s h p)) ∙ take-append-drop (i + 1) ss

module _ {A : Type 0} (names : A → List OutputFileName) where
  names_next : (prefix : List A) (s : A)
      → flat_map names (prefix ++ (s ∷ [])) ≡ flat_map names prefix ++ names s
  names_next prefix s =
      flat_map-append names prefix (s ∷ [])
      ∙ ap (λ l. flat_map names prefix ++ l) (nil_after (names s))

  names_parted : (prefix rest : List A) (s : A)
      → (flat_map names prefix ++ names s) ++ flat_map names rest
      ≡ flat_map names ((prefix ++ (s ∷ [])) ++ rest)
  names_parted prefix rest s =
      ap (λ l. l ++ flat_map names rest) (sym (names_next prefix s))
      ∙ sym (flat_map-append names (prefix ++ (s ∷ [])) rest)

module _ {A B : Type 0} (names : A → List OutputFileName) (made : List Entry → A → B)
    (l m n f g k : ℕ) (O M N : List Entry → Type 0) where
  -- one more was read
  pub loads_more : (ss : List A) (i : ℕ) (s : A) (done items : List B) (b : B) → i < length ss
      → s ≡ get_or ss i s → items ≡ done ++ (b ∷ [])
      → Loads l m f g O M (flat_map names (take i ss)) (λ es. map (made es) (take i ss)) (Ok done)
      → Loads m n g k M N (names s) (λ es. made es s) (Ok b)
      → Loads l n f k O N (flat_map names (take (i + 1) ss)) (λ es. map (made es) (take (i + 1) ss))
      (Ok items)
  loads_more ss i s done items b below here pushed p q =
      let next = take_next ss i s below here in
      loads_named l n f k O N (flat_map names (take i ss) ++ names s)
      (flat_map names (take (i + 1) ss)) (λ es. map (made es) (take (i + 1) ss)) (Ok items)
      (sym (names_next names (take i ss) s) ∙ ap (flat_map names) (sym next))
      (loads_both l m n f g k O M N (flat_map names (take i ss)) (names s)
      (λ es. map (made es) (take i ss)) (λ es. made es s) (λ es. map (made es) (take (i + 1) ss))
      done p b items
      (λ es u v.
      pushed ∙ ap (λ d. d ++ (b ∷ [])) u ∙ ap (λ c. map (made es) (take i ss) ++ (c ∷ [])) v
      ∙ sym (map-append (made es) (take i ss) (s ∷ [])) ∙ ap (map (made es)) (sym next)) q)

  -- one was not read
  pub loads_stop : {V : Type 0} (z : List Entry → V) (ss : List A) (i : ℕ) (s : A) (done : List B)
      (e : RecordReadError)
      → i < length ss → s ≡ get_or ss i s
      → Loads l m f g O M (flat_map names (take i ss)) (λ es. map (made es) (take i ss)) (Ok done)
      → Loads m n g k M N (names s) (λ es. made es s) (Err e)
      → Loads l n f k O N (flat_map names ss) z (Err e)
  loads_stop z ss i s done e below here p q =
      loads_named l n f k O N
      ((flat_map names (take i ss) ++ names s) ++ flat_map names (drop (i + 1) ss))
      (flat_map names ss) z (Err e)
      (names_parted names (take i ss) (drop (i + 1) ss) s
      ∙ ap (flat_map names) (parted ss i s below here))
      (loads_before l n f k O N (flat_map names (take i ss) ++ names s)
      (flat_map names (drop (i + 1) ss)) z z e
      (loads_after l m n f g k O M N (flat_map names (take i ss)) (names s)
      (λ es. map (made es) (take i ss)) (λ es. made es s) z done p e q))

-- all of them were read
pub loads_done : {A B : Type 0} (names : A → List OutputFileName) (made : List Entry → A → B)
    (l m f g : ℕ) (O M : List Entry → Type 0) (ss : List A) (i : ℕ) (items : List B)
    → length ss ≤ i
    → Loads l m f g O M (flat_map names (take i ss)) (λ es. map (made es) (take i ss)) (Ok items)
    → Loads l m f g O M (flat_map names ss) (λ es. map (made es) ss) (Ok items)
loads_done {A} names made l m f g O M ss i items over p =
    subst
    (λ (ts : List A). Loads l m f g O M (flat_map names ts) (λ es. map (made es) ts) (Ok items))
    (take_all i ss over) p

-- one more is the same, in one respect
pub same_more : {A B C : Type 0} (f : A → C) (g : B → C) (ss : List A) (i : ℕ) (s : A)
    (done items : List B) (b : B)
    → i < length ss → s ≡ get_or ss i s → items ≡ done ++ (b ∷ [])
    → map g done ≡ map f (take i ss) → g b ≡ f s → map g items ≡ map f (take (i + 1) ss)
same_more f g ss i s done items b below here pushed p q =
    ap (map g) pushed ∙ map-append g done (b ∷ []) ∙ ap (λ l. l ++ (g b ∷ [])) p
    ∙ ap (λ c. map f (take i ss) ++ (c ∷ [])) q ∙ sym (map-append f (take i ss) (s ∷ []))
    ∙ ap (map f) (sym (take_next ss i s below here))
