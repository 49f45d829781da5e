use Rattle.rec_trace_events.proofs.args.NoArgsArgs.write.Goals as goal
use Rattle.rec_trace_events.proofs.WritableArgs.{no_args_written}

pub returns-clause-known : goal.returns-clause-known
returns-clause-known c =
    no_args_written
