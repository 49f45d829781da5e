use Rattle.std.proofs.Common.{◌≡◌, drop}
use Rattle.rec_junit.proofs.shell.are_plain.Given as goal
use Rattle.rec_junit.specs.Shell.{are_plain}

-- what is left decides
abbrev pub invariant-loop-byte : goal.invariant-loop-byte
invariant-loop-byte l = are_plain (drop l.byte-index l.bytes) ≡ are_plain l.bytes
