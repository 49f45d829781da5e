use Rattle.std.proofs.Common.{◌≡◌, rules, true, nat_lt, length}
use Rattle.rec_forms.proofs.Writing.{saying}
use Rattle.rec_trace_events.proofs.OnlyWritten.{only_written}
use Rattle.rec_trace_events.proofs.WritableArgs.{words_written}
use Rattle.rec_trace.proofs.other_data.with_words.Goals as goal

pub returns-then-as_slice-gt0 : goal.returns-then-as_slice-gt0
returns-then-as_slice-gt0 c =
    let some : nat_lt 0 (length c.args.words.now) ≡ true = search rules in
    saying (λ w. (w, tt)) (only_written some (words_written c.args.words.now) c.field.ensures)
