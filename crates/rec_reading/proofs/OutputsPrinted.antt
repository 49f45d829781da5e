-- The outputs behind a view, one after the other.
use Rattle.std.proofs.Common.{zero, suc, ◌≡◌, inl, inr, ℕ, ◌+◌, ◌<◌, ◌≤◌, List, [], ◌∷◌, ◌++◌}
use Rattle.std.proofs.Common.{arith, drop, get_or, length, map, slice_get, Some, Result, Ok, Err}
use Rattle.std.proofs.Common.{refl, sym, ap}
use Rattle.std.proofs.Common.{◌∙◌, add-one, append_assoc, append-nil}
use Rattle.std.proofs.lemmas.List.{drop_all}
use Rattle.std.specs.Prelude.{⊤}
use Rattle.rec_container.specs.Container.{Entry, content_of}
use Rattle.rec_container.specs.Reading.{◌>>=◌}
use Rattle.rec_container.specs.Writing.{entry_named}
use Rattle.rec_events.specs.declared.output_names.OutputFileName.{OutputFileName}
use Rattle.rec_events.specs.declared.output_names.OutputKind.TheVariants as kind
use Rattle.rec_errors.specs.declared.reading_error.ReadingError.{ReadingError}
use Rattle.rec_reading.specs.Outputs.{all_found, found, output_printed, outputs_printed}
use Rattle.rec_reading.specs.Printing.{Adds, before}
use Rattle.rec_reading.specs.RunParts.{Answers}

-- what stands at an index below the length
pub at_index : {A : Type 0} (xs : List A) (i : ℕ) (x : A) → i < length xs → x ≡ get_or xs i x
    → slice_get xs i ≡ Some x
at_index [] i x more is = absurd (omega (arith, more))
at_index (y ∷ xs) zero x more is = ap Some (sym is)
at_index (y ∷ xs) (suc i) x more is = at_index xs i x (omega (arith, more)) is

pub at_place : {A : Type 0} (xs : List A) (i : ℕ) (default : A) → i < length xs
    → slice_get xs i ≡ Some (get_or xs i default)
at_place [] i default more = absurd (omega (arith, more))
at_place (y ∷ xs) zero default more = refl
at_place (y ∷ xs) (suc i) default more = at_place xs i default (omega (arith, more))

-- and what follows it
pub from_here : {A : Type 0} (xs : List A) (i : ℕ) (x : A) → slice_get xs i ≡ Some x
    → drop i xs ≡ x ∷ drop (suc i) xs
from_here [] i x h = absurd (let none = h in cc)
from_here (y ∷ xs) zero x h = let same : y ≡ x = cc in ap (λ z. z ∷ xs) same
from_here (y ∷ xs) (suc i) x h = from_here xs i x h

-- what stands past the end
abbrev pub no_name : OutputFileName
no_name = record { number = 0; kind = kind.Stdout }

-- the entry at an index by its two parts
pub entry_here : (es : List Entry) (i : ℕ) (name content : List ℕ)
    → slice_get (map (λ (e : Entry). e.name) es) i ≡ Some name
    → slice_get (map (λ (e : Entry). e.content) es) i ≡ Some content
    → drop i es ≡ entry_named name content ∷ drop (suc i) es
entry_here [] i name content n c = absurd (let none = n in cc)
entry_here (e ∷ es) zero name content n c =
    let same_name : e.name ≡ name = cc in
    let same_content : e.content ≡ content = cc in
    ap (λ l. entry_named l e.content ∷ es) same_name
    ∙ ap (λ l. entry_named name l ∷ es) same_content
entry_here (e ∷ es) (suc i) name content n c = entry_here es i name content n c

-- ---- the outputs that are named

module _ (es : List Entry) where
  -- those of one list, and then those of another
  found_both : (paths more : List (List ℕ))
      → all_found es (paths ++ more) ≡ (all_found es paths >>= (λ done. all_found es more))
  found_both [] more = refl
  found_both (path ∷ paths) more = go (found path (content_of es path)) (found_both paths more)
    where
      go : (r : Result ⊤ ReadingError)
          → all_found es (paths ++ more) ≡ (all_found es paths >>= (λ done. all_found es more))
          → (r >>= (λ done. all_found es (paths ++ more)))
          ≡ ((r >>= (λ done. all_found es paths)) >>= (λ done. all_found es more))
      go (Ok done) rest = rest
      go (Err e) rest = refl

  -- the paths of a list of things, from an index on
  module _ {A : Type 0} (paths_of : A → List (List ℕ)) (paths_in : List A → List (List ℕ))
      (next : (x : A) (xs : List A) → paths_in (x ∷ xs) ≡ paths_of x ++ paths_in xs)
      (none : paths_in [] ≡ []) (all : List A) (i : ℕ)
      (so_far : all_found es (paths_in all) ≡ all_found es (paths_in (drop i all))) where
    module _ (x : A) (here : slice_get all i ≡ Some x) where
      split : all_found es (paths_in all)
          ≡ (all_found es (paths_of x) >>= (λ done. all_found es (paths_in (drop (suc i) all))))
      split =
          so_far ∙ ap (λ l. all_found es (paths_in l)) (from_here all i x here)
          ∙ ap (all_found es) (next x (drop (suc i) all))
          ∙ found_both (paths_of x) (paths_in (drop (suc i) all))

      pub found-more : all_found es (paths_of x) ≡ Ok tt
          → all_found es (paths_in all) ≡ all_found es (paths_in (drop (i + 1) all))
      found-more is =
          split ∙ ap (λ r. r >>= (λ done. all_found es (paths_in (drop (suc i) all)))) is
          ∙ ap (λ k. all_found es (paths_in (drop k all))) (sym (add-one i))

      pub found-none : (e : ReadingError) → Answers (all_found es (paths_of x)) (Err e)
          → Answers (all_found es (paths_in all)) (Err e)
      found-none e (inl memory) = inl memory
      found-none e (inr missing) =
          inr (split
          ∙ ap (λ r. r >>= (λ done. all_found es (paths_in (drop (suc i) all)))) missing)

    pub found-all : length all ≤ i → all_found es (paths_in all) ≡ Ok tt
    found-all past =
        so_far ∙ ap (λ l. all_found es (paths_in l)) (drop_all i all past)
        ∙ ap (all_found es) none

  -- one path alone
  pub alone-found : (path : List ℕ) → found path (content_of es path) ≡ Ok tt
      → all_found es (path ∷ []) ≡ Ok tt
  alone-found path is = ap (λ r. r >>= (λ done. Ok tt)) is

  pub alone-missing : (path : List ℕ) (e : ReadingError)
      → Answers (found path (content_of es path)) (Err e)
      → Answers (all_found es (path ∷ [])) (Err e)
  alone-missing path e (inl memory) = inl memory
  alone-missing path e (inr missing) = inr (ap (λ r. r >>= (λ done. Ok tt)) missing)

-- ---- what is printed of entries

before_nothing : (r : Result (List ℕ) ReadingError) → before [] r ≡ r
before_nothing (Ok text) = refl
before_nothing (Err e) = refl

before_two : (a b : List ℕ) (r : Result (List ℕ) ReadingError)
    → before a (before b r) ≡ before (a ++ b) r
before_two a b (Ok text) = ap Ok (sym (append_assoc a b text))
before_two a b (Err e) = refl

-- what was added is the text of the entries so far, and that of the others follows
pub record HasPut (es left : List Entry) (old new : List ℕ) : Type 0 where
  pub added : List ℕ
  pub written : new ≡ old ++ added
  pub goes_on : outputs_printed es ≡ before added (outputs_printed left)

pub nothing-put : (es : List Entry) (text : List ℕ) → HasPut es es text text
nothing-put es text = record {
  added = [];
  written = sym (append-nil text);
  goes_on = sym (before_nothing (outputs_printed es));
}

module _ (es : List Entry) (i : ℕ) (old now : List ℕ) (has : HasPut es (drop i es) old now) where
  module _ (e : Entry) (here : drop i es ≡ e ∷ drop (suc i) es) where
    split_here : outputs_printed es
        ≡ before has.added (output_printed e.name e.content
        >>= (λ text. before text (outputs_printed (drop (suc i) es))))
    split_here = has.goes_on ∙ ap (λ l. before has.added (outputs_printed l)) here

    pub put-more : (new : List ℕ) → Adds (output_printed e.name e.content) now new (Ok tt)
        → HasPut es (drop (i + 1) es) old new
    put-more new (added, is, written) =
        let rest = outputs_printed (drop (suc i) es) in
        record {
          added = has.added ++ added;
          written =
              written ∙ ap (λ l. l ++ added) has.written ∙ append_assoc old has.added added;
          goes_on =
              split_here
              ∙ ap (λ r. before has.added (r >>= (λ text. before text rest))) is
              ∙ before_two has.added added rest
              ∙ ap (λ k. before (has.added ++ added) (outputs_printed (drop k es)))
              (sym (add-one i));
        }

    pub put-refused : (new last : List ℕ) (x : ReadingError)
        → Adds (output_printed e.name e.content) now new (Err x)
        → Adds (outputs_printed es) old last (Err x)
    put-refused new last x (inl memory) = inl memory
    put-refused new last x (inr refused) =
        inr (split_here
        ∙ ap (λ r. before has.added
        (r >>= (λ text. before text (outputs_printed (drop (suc i) es))))) refused)

  pub put-all : length es ≤ i → Adds (outputs_printed es) old now (Ok tt)
  put-all past = (
    has.added,
    has.goes_on ∙ ap (λ l. before has.added (outputs_printed l)) (drop_all i es past)
        ∙ ap Ok (append-nil has.added),
    has.written,
  )
