use Rattle.std.proofs.Common.{◌≡◌, ◌++◌, flat_map}
use Rattle.std.specs.String.{string_bytes}
use Rattle.rec_junit.proofs.shell.put_characters.Given as goal
use Rattle.rec_junit.specs.Shell.{within_quotes}

abbrev pub invariant-loop-character : goal.invariant-loop-character
invariant-loop-character l =
    string_bytes l.line ≡ string_bytes l.fn.line ++ flat_map within_quotes l.yielded
