-- What the faults of a history are answered as.
use Rattle.rec_codec.specs.declared.line_events.LineError.TheVariants as faults
use Rattle.rec_codec.specs.declared.line_events.LineError.{LineError}
use Rattle.rec_spans.specs.declared.errors.ChromeTraceError.TheVariants.{OutOfMemory, ReadError}
use Rattle.rec_spans.specs.declared.errors.ChromeTraceError.{ChromeTraceError}

-- want of memory as such, every other fault as a history that can't be read
abbrev pub fault_error : LineError → ChromeTraceError
fault_error (faults.ReadRunLog n) = ReadError (faults.ReadRunLog n)
fault_error (faults.ParseEvent n) = ReadError (faults.ParseEvent n)
fault_error faults.OutOfMemory = OutOfMemory
