use Rattle.rec_program.proofs.log_trace.trace_of_log.Goals as goal
use Rattle.rec_program.proofs.LogTraced.{traces-log}

pub returns : goal.returns
returns c =
    traces-log c.args.group_by c.args.message_format c.args.version.now c.args.events
    c.convert_to_chrome_trace.result
    c.convert_to_chrome_trace.ensures.trace c.convert_to_chrome_trace.ensures.no_trace
