use Rattle.rec_portable.proofs.RewrittenLogs.{HasRewritten}
use Rattle.rec_portable.proofs.upgrading.log.rewrite_log.Given as goal

-- the items so far were written anew
abbrev pub invariant-loop-item : goal.invariant-loop-item
invariant-loop-item l = HasRewritten l.yielded l.rewritten
