use Rattle.std.proofs.Common.{take}
use Rattle.rec_json.proofs.lookup.only_member.Given as goal
use Rattle.rec_json.proofs.OnlyOne.{HaveKey}

-- those before have the key of the last one
abbrev pub invariant-loop-name : goal.invariant-loop-name
invariant-loop-name l = HaveKey l.key.now (take l.name-index l.object)
