use Rattle.std.proofs.Common.{◌≡◌, drop}
use Rattle.rec_forms.proofs.names.named_item.Given as goal
use Rattle.rec_forms.specs.Shape.{named}
use Rattle.rec_forms.specs.Tables.{table}

-- what is left decides
abbrev pub invariant-loop-name : goal.invariant-loop-name
invariant-loop-name g l =
    named (table l.items) l.text ≡ named (table (drop l.name-index l.items)) l.text
