use Rattle.std.proofs.Common.{◌≡◌, ◌+◌, nat_eq, drop}
use Rattle.std.specs.List.{common_prefix_len}
use Rattle.rec_format.proofs.run_ids.common_len.Given as goal

-- what was compared is the same in both
abbrev pub invariant-loop-i : goal.invariant-loop-i
invariant-loop-i l =
    common_prefix_len nat_eq l.fn.a l.fn.b
    ≡ l.i + common_prefix_len nat_eq (drop l.i l.fn.a) (drop l.i l.fn.b)
