-- How a test group is written.
use Rattle.std.specs.Prelude.{ℕ, List, codes}
use Rattle.rec_events.specs.declared.groups.TestGroup.TheVariants.{Global, Custom}
use Rattle.rec_events.specs.declared.groups.TestGroup.{TestGroup}

abbrev pub group_text : TestGroup → List ℕ
group_text Global = codes "@global"
group_text (Custom name) = name
