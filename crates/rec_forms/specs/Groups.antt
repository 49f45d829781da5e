-- The value and form of a test group.
use Rattle.std.specs.Prelude.{◌≢◌, ℕ, List, Option, option_map, if◌then◌else◌, codes}
use Rattle.std.specs.Str.{bytes_eq}
use Rattle.serde_json.specs.Data.{Data, string}
use Rattle.rec_events.specs.declared.groups.TestGroup.TheVariants.{Global, Custom}
use Rattle.rec_events.specs.declared.groups.TestGroup.{TestGroup}
use Rattle.rec_events.specs.Groups.{group_text}
use Rattle.rec_events.specs.Names.{IsText}
use Rattle.rec_forms.specs.Shape.{text_of}

abbrev pub test_group_value : TestGroup → Data
test_group_value g = string (group_text g)

-- the group that is written so
abbrev pub group_named : List ℕ → TestGroup
group_named name = if bytes_eq name (codes "@global") then Global else Custom name

unfoldable pub test_group_form : Data → Option TestGroup
test_group_form d = option_map group_named (text_of d)

abbrev pub IsTestGroup : TestGroup → Type 0
IsTestGroup Global = Unit {0}
IsTestGroup (Custom name) = IsText name × (name ≢ codes "@global")
