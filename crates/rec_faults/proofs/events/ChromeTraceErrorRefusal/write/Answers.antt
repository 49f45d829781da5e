use Rattle.rec_faults.proofs.events.ChromeTraceErrorRefusal.write.Goals as goal
use Rattle.rec_faults.proofs.Lines.{◌▸◌}

pub returns-in-ReadError : goal.returns-in-ReadError
returns-in-ReadError g c = rw c.in-ReadError.is (c.name.ensures ▸ c.write.ensures)

pub returns-in-MissingTestStart : goal.returns-in-MissingTestStart
returns-in-MissingTestStart g c = rw c.in-MissingTestStart.is c.missing_test.ensures

pub returns-in-MissingScriptStart : goal.returns-in-MissingScriptStart
returns-in-MissingScriptStart g c = rw c.in-MissingScriptStart.is c.missing_script.ensures

pub returns-in-MissingStressSubRunStart : goal.returns-in-MissingStressSubRunStart
returns-in-MissingStressSubRunStart g c = rw c.in-MissingStressSubRunStart.is c.number.ensures

pub returns-in-SpanAlreadyOpen : goal.returns-in-SpanAlreadyOpen
returns-in-SpanAlreadyOpen g c = rw c.in-SpanAlreadyOpen.is c.open_span.ensures

pub returns-in-SlotBusy : goal.returns-in-SlotBusy
returns-in-SlotBusy g c = rw c.in-SlotBusy.is c.event_number.ensures

pub returns-in-TimestampOutOfRange : goal.returns-in-TimestampOutOfRange
returns-in-TimestampOutOfRange g c =
    rw c.in-TimestampOutOfRange.is c.number-in-TimestampOutOfRange.ensures

pub returns-in-RowOutOfRange : goal.returns-in-RowOutOfRange
returns-in-RowOutOfRange g c = rw c.in-RowOutOfRange.is c.event_number-in-RowOutOfRange.ensures

pub returns-in-CountOutOfRange : goal.returns-in-CountOutOfRange
returns-in-CountOutOfRange g c = rw c.in-CountOutOfRange.is c.number-in-CountOutOfRange.ensures

pub returns-in-OutOfMemory : goal.returns-in-OutOfMemory
returns-in-OutOfMemory g c = rw c.in-OutOfMemory.is c.name-in-OutOfMemory.ensures
