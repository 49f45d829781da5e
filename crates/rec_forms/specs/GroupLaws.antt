-- A test group reads back, and is writable.
use Rattle.std.proofs.Common.{true≢false, sym, ◌∙◌}
use Rattle.std.proofs.lemmas.Slice.Eq.{bytes_eq-Decides}
use Rattle.std.specs.Prelude.{◌≡◌, ◌≢◌, ℕ, List, Some, Bool, true, false, refl, codes, IsTrue}
use Rattle.std.specs.Str.{is_utf8, bytes_eq}
use Rattle.rec_events.specs.declared.groups.TestGroup.TheVariants.{Global, Custom}
use Rattle.rec_events.specs.declared.groups.TestGroup.{TestGroup}
use Rattle.rec_events.specs.Names.{IsText}
use Rattle.rec_forms.specs.GivesWellFormed.{GivesWellFormed}
use Rattle.rec_forms.specs.Groups.{test_group_value, test_group_form, IsTestGroup, group_named}
use Rattle.rec_forms.specs.NumberLaws.{text_back, text_well_formed}
use Rattle.rec_forms.specs.Shape.{text_of}
use Rattle.rec_forms.specs.TextLaws.{IsText-are_ascii}
use Rattle.rec_forms.specs.WellFormedLaws.{choice_holds, map_holds}
use Rattle.rec_forms.specs.Writable.{IsWritable, string_writable, word_writable}

differs : (b : Bool) (s t : List ℕ) → (b ≡ true → s ≡ t) → s ≢ t → b ≡ false
differs true s t same other = absurd (other (same refl))
differs false s t same other = refl

global_is_text : IsTrue (is_utf8 (codes "@global"))
global_is_text = IsText-are_ascii (codes "@global") refl

pub test_group_back : (g : TestGroup) → IsTestGroup g
    → test_group_form (test_group_value g) ≡ Some g
unfolding test_group_form
test_group_back Global h = rw (text_back (codes "@global") global_is_text)
test_group_back (Custom name) h =
    rw (
      text_back name h.0,
      differs (bytes_eq name (codes "@global")) name (codes "@global")
          (bytes_eq-Decides name (codes "@global")).0 h.1,
    )

pub test_group_writable : (g : TestGroup) → IsTestGroup g → IsWritable 0 (test_group_value g)
test_group_writable Global h = word_writable _ refl
test_group_writable (Custom name) h = string_writable name h.0

-- ---- what is read is well-formed

group_well_formed : (name : List ℕ) → IsText name → IsTestGroup (group_named name)
group_well_formed name text =
    choice_holds IsTestGroup (bytes_eq name (codes "@global")) Global (Custom name) (λ _. tt)
    (λ other.
    (text, λ same. true≢false (sym ((bytes_eq-Decides name (codes "@global")).1 same) ∙ other)))

pub test_group_well_formed : GivesWellFormed IsTestGroup test_group_form
unfolding test_group_form
test_group_well_formed = record {
  each = λ d. map_holds group_named (text_of d) (text_well_formed.each d) group_well_formed;
}
