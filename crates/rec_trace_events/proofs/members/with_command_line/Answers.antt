use Rattle.std.proofs.Common.{◌≡◌, rules, true, nat_lt, length}
use Rattle.rec_trace_events.proofs.members.with_command_line.Goals as goal
use Rattle.rec_trace_events.proofs.OnlyWritten.{only_written}
use Rattle.rec_trace_events.proofs.WritableArgs.{words_written}

pub returns-then-as_slice-gt0 : goal.returns-then-as_slice-gt0
returns-then-as_slice-gt0 c =
    let some : nat_lt 0 (length c.args.words.now) ≡ true = search rules in
    only_written some (words_written c.args.words.now) c.field.ensures
