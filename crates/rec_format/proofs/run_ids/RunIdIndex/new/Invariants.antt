use Rattle.std.proofs.Common.{drop}
use Rattle.rec_format.proofs.run_ids.RunIdIndex.new.Given as goal
use Rattle.rec_format.proofs.RunIdMaps.{IsPartOf}

-- what is left completes the index
abbrev pub invariant-loop-id : goal.invariant-loop-id
invariant-loop-id l = IsPartOf l.ids l.entries.entries (drop l.id-index l.ids)
