-- A map reads back, and is writable.
use Rattle.std.proofs.Common.{append_assoc, ap, ◌∙◌, Ordering, Less, Equal, Greater}
use Rattle.std.specs.Cmp.Lexicographic.{slice_cmp}
use Rattle.std.specs.List.Sorted.{IsStrictlySortedBy}
use Rattle.std.specs.List.{AllByRecursion}
use Rattle.std.specs.Ordering.{nat_cmp, match_ordering}
use Rattle.std.specs.Prelude.{◌≡◌, ℕ, suc, List, [], ◌∷◌, ◌++◌, Option}
use Rattle.std.specs.Prelude.{Some, refl, None, option_and_then}
use Rattle.std.specs.Str.{is_utf8}
use Rattle.serde_json.specs.Data.{Data, Members, no_members, member, put}
use Rattle.serde_json.specs.Find.{as_object}
use Rattle.rec_events.specs.Names.{AreTexts, IsText, with_name}
use Rattle.rec_events.specs.PairLaws.{above_before, KeysRise-tail, put_pair-last}
use Rattle.rec_events.specs.Pairs.{keys, KeysRise, put_pair}
use Rattle.rec_forms.specs.GivesWellFormed.{Holds, GivesWellFormed}
use Rattle.rec_forms.specs.Maps.{map_fields, map_value, pairs_form, map_form, each_value, IsMap}
use Rattle.rec_forms.specs.RiseLaws.{match_holds, AreTexts-with_name, Rise-with_name}
use Rattle.rec_forms.specs.Shape.{with_members, members_of}
use Rattle.rec_forms.specs.WellFormedLaws.{anything, and_then_holds, choice_holds}
use Rattle.rec_forms.specs.Writable.{IsWritable, EachWritten, field_keys, fields_writable}

-- the members of the pairs, as they stand
abbrev members_in : {V : Type 0} → (V → Data) → List (List ℕ × V) → Members
members_in value [] = no_members
members_in value (p ∷ ps) = member p.0 (value p.1) (members_in value ps)

append_none : {T : Type 0} (xs : List T) → xs ++ [] ≡ xs
append_none [] = refl
append_none (x ∷ xs) = ap (λ ys. x ∷ ys) (append_none xs)

moved : {V : Type 0} (done : List (List ℕ × V)) (p : List ℕ × V) (ps : List (List ℕ × V))
    → KeysRise (done ++ p ∷ ps) → KeysRise ((done ++ p ∷ []) ++ ps)
moved done p ps h = rw (append_assoc done (p ∷ []) ps) h

module _ {V : Type 0} (P : V → Type 0) (value : V → Data) (form : Data → Option V)
    (back : (x : V) → P x → form (value x) ≡ Some x) where
  put_last : (done : List (List ℕ × V)) (p : List ℕ × V) (rest : List (List ℕ × V))
      → KeysRise (done ++ p ∷ rest)
      → put p.0 (value p.1) (members_in value done) ≡ members_in value (done ++ p ∷ [])
  put_last [] p rest h = refl
  put_last (q ∷ qs) p rest h =
      rw (above_before q qs p rest h, put_last qs p rest (KeysRise-tail q (qs ++ p ∷ rest) h))

  written : (ps done : List (List ℕ × V)) → KeysRise (done ++ ps)
      → with_members (members_in value done) (map_fields value ps) ≡ members_in value (done ++ ps)
  written [] done h = rw (append_none done)
  written (p ∷ ps) done h =
      ap (λ ms. with_members ms (map_fields value ps)) (put_last done p ps h)
      ∙ written ps (done ++ p ∷ []) (moved done p ps h)
      ∙ ap (members_in value) (append_assoc done (p ∷ []) ps)

  read : (ps done : List (List ℕ × V)) → KeysRise (done ++ ps) → AreTexts (keys ps)
      → AllByRecursion P (each_value ps)
      → pairs_form form done (members_in value ps) ≡ Some (done ++ ps)
  read [] done h texts all = rw (append_none done)
  read (p ∷ ps) done h texts all =
      rw (
        texts.0,
        back p.1 all.0,
        put_pair-last done p ps h,
        read ps (done ++ p ∷ []) (moved done p ps h) texts.1 all.1,
        append_assoc,
      )

  pub map_back : (ps : List (List ℕ × V)) → IsMap P ps
      → map_form form (map_value value ps) ≡ Some ps
  unfolding members_of
  map_back ps h = rw (written ps [] h.rise) (read ps [] h.rise h.texts h.values)

module _ {V : Type 0} {P : V → Type 0} {n : ℕ} (value : V → Data)
    (writable : (x : V) → P x → IsWritable n (value x)) where
  fields_written : (ps : List (List ℕ × V)) → AllByRecursion P (each_value ps)
      → EachWritten n (map_fields value ps)
  fields_written [] h = tt
  fields_written (p ∷ ps) h = (writable p.1 h.0, fields_written ps h.1)

  fields_have_texts : (ps : List (List ℕ × V)) → AreTexts (keys ps)
      → AreTexts (field_keys (map_fields value ps))
  fields_have_texts [] h = tt
  fields_have_texts (p ∷ ps) h = (h.0, fields_have_texts ps h.1)

  pub map_writable : (ps : List (List ℕ × V)) → IsMap P ps → IsWritable (suc n) (map_value value ps)
  map_writable ps h =
      fields_writable (map_fields value ps) (fields_have_texts ps h.texts)
      (fields_written ps h.values)

-- ---- what is read is well-formed

keys-match_ordering : {V : Type 0} (o : Ordering) (a b c : List (List ℕ × V))
    → keys (match_ordering o a b c) ≡ match_ordering o (keys a) (keys b) (keys c)
keys-match_ordering Less a b c = refl
keys-match_ordering Equal a b c = refl
keys-match_ordering Greater a b c = refl

-- a pair put into a map puts its key among the keys
keys-put_pair : {V : Type 0} (k : List ℕ) (x : V) (ps : List (List ℕ × V))
    → keys (put_pair k x ps) ≡ with_name (keys ps) k
keys-put_pair k x [] = refl
keys-put_pair k x (p ∷ ps) =
    keys-match_ordering (slice_cmp nat_cmp k p.0) _ _ _ ∙ rw (keys-put_pair k x ps)

values_hold : {V : Type 0} (P : V → Type 0) (k : List ℕ) (x : V) (ps : List (List ℕ × V)) → P x
    → AllByRecursion P (each_value ps) → AllByRecursion P (each_value (put_pair k x ps))
values_hold P k x [] h all = (h, tt)
values_hold P k x (p ∷ ps) h all =
    match_holds (λ qs. AllByRecursion P (each_value qs)) (slice_cmp nat_cmp k p.0) _ _ _ (h, all)
    (h, all.1) (all.0, values_hold P k x ps h all.1)

put_well_formed : {V : Type 0} (P : V → Type 0) (k : List ℕ) (x : V) (ps : List (List ℕ × V))
    → IsText k → P x → IsMap P ps → IsMap P (put_pair k x ps)
put_well_formed P k x ps text h map = record {
  texts = rw (keys-put_pair k x ps) (AreTexts-with_name (keys ps) k map.texts text);
  rise = rw (keys-put_pair k x ps) (Rise-with_name (keys ps) k map.rise);
  values = values_hold P k x ps h map.values;
}

module _ {V : Type 0} {P : V → Type 0} (form : Data → Option V) (h : GivesWellFormed P form) where
  pairs_well_formed : (ms : Members) (ps : List (List ℕ × V)) → IsMap P ps
      → Holds (IsMap P) (pairs_form form ps ms)
  pairs_well_formed no_members ps map = record { is = map }
  pairs_well_formed (member k d ms) ps map =
      choice_holds (λ o. Holds (IsMap P) o) (is_utf8 k)
      (option_and_then (λ x. pairs_form form (put_pair k x ps) ms) (form d)) None
      (λ text. and_then_holds (λ x. pairs_form form (put_pair k x ps) ms) (form d) (h.each d)
      (λ x y. pairs_well_formed ms (put_pair k x ps) (put_well_formed P k x ps text y map)))
      (λ _. record { is = tt })

  pub map_well_formed : GivesWellFormed (IsMap P) (map_form form)
  unfolding IsStrictlySortedBy
  map_well_formed = record {
    each =
        λ d. and_then_holds (pairs_form form []) (as_object d) (anything (as_object d))
        (λ ms _. pairs_well_formed ms [] (record { texts = tt; rise = tt; values = tt }));
  }
