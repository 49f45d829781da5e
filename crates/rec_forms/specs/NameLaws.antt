-- A set of names reads back.
use Rattle.std.proofs.Common.{append_assoc, ap, ◌∙◌}
use Rattle.std.specs.List.Sorted.{IsStrictlySortedBy}
use Rattle.std.specs.Prelude.{◌≡◌, ℕ, List, [], ◌∷◌, ◌++◌, Some, refl}
use Rattle.serde_json.specs.Data.{string}
use Rattle.rec_events.specs.Names.{IsText, Rise, AreTexts, with_name}
use Rattle.rec_events.specs.PairLaws.{with_name-last}
use Rattle.rec_forms.specs.GivesWellFormed.{GivesWellFormed}
use Rattle.rec_forms.specs.ListLaws.{list_back}
use Rattle.rec_forms.specs.Lists.{list_form}
use Rattle.rec_forms.specs.Names.{names_value, merged, names_form, AreNames}
use Rattle.rec_forms.specs.NumberLaws.{text_back, text_well_formed}
use Rattle.rec_forms.specs.RiseLaws.{AreTexts-with_name, Rise-with_name}
use Rattle.rec_forms.specs.Shape.{text_of}
use Rattle.rec_forms.specs.WellFormedLaws.{map_holds, list_well_formed}
use Rattle.rec_forms.specs.Writable.{IsWritable, string_writable, list_writable}

append_none : (ks : List (List ℕ)) → ks ++ [] ≡ ks
append_none [] = refl
append_none (k ∷ ks) = ap (λ ls. k ∷ ls) (append_none ks)

merged_rising : (ks done : List (List ℕ)) → Rise (done ++ ks) → merged done ks ≡ done ++ ks
merged_rising [] done h = rw (append_none done)
merged_rising (k ∷ ks) done h =
    ap (λ names. merged names ks) (with_name-last done k ks h)
    ∙ merged_rising ks (done ++ k ∷ []) (rw (append_assoc done (k ∷ []) ks) h)
    ∙ append_assoc done (k ∷ []) ks

pub names_back : (ks : List (List ℕ)) → AreNames ks → names_form (names_value ks) ≡ Some ks
unfolding names_form
names_back ks h =
    rw (list_back IsText string text_of text_back ks h.texts, merged_rising ks [] h.rise)

pub names_writable : (ks : List (List ℕ)) → AreNames ks → IsWritable 1 (names_value ks)
names_writable ks h = list_writable string string_writable ks h.texts

-- ---- what is read is well-formed

merged_well_formed : (ks done : List (List ℕ)) → AreTexts ks → AreNames done
    → AreNames (merged done ks)
merged_well_formed [] done texts h = h
merged_well_formed (k ∷ ks) done texts h =
    merged_well_formed ks (with_name done k) texts.1 (record {
      texts = AreTexts-with_name done k h.texts texts.0;
      rise = Rise-with_name done k h.rise;
    })

pub names_well_formed : GivesWellFormed AreNames names_form
unfolding names_form IsStrictlySortedBy
names_well_formed = record {
  each =
      λ d. map_holds (merged []) (list_form text_of d)
      ((list_well_formed text_of text_well_formed).each d)
      (λ ks texts. merged_well_formed ks [] texts (record { texts = tt; rise = tt }));
}
