use Rattle.rec_faults.proofs.export.RecordExportErrorRefusal.write.Goals as goal

pub returns-in-SourceFault : goal.returns-in-SourceFault
returns-in-SourceFault g c = rw c.in-SourceFault.is c.name.ensures

pub returns-in-SessionTooLarge : goal.returns-in-SessionTooLarge
returns-in-SessionTooLarge g c = rw c.in-SessionTooLarge.is c.number.ensures

pub returns-in-ParseHead : goal.returns-in-ParseHead
returns-in-ParseHead g c = rw c.in-ParseHead.is c.name-in-ParseHead.ensures

pub returns-in-ReadRunLog : goal.returns-in-ReadRunLog
returns-in-ReadRunLog g c = rw c.in-ReadRunLog.is c.number-in-ReadRunLog.ensures

pub returns-in-ParseEvent : goal.returns-in-ParseEvent
returns-in-ParseEvent g c = rw c.in-ParseEvent.is c.number-in-ParseEvent.ensures

pub returns-in-NameCollision : goal.returns-in-NameCollision
returns-in-NameCollision g c = rw (c.in-NameCollision.is, ← c.as_str.ensures.value) c.text.ensures

pub returns-in-CountOutOfRange : goal.returns-in-CountOutOfRange
returns-in-CountOutOfRange g c = rw c.in-CountOutOfRange.is c.count_out_of_range.ensures

pub returns-in-FileTooLarge : goal.returns-in-FileTooLarge
returns-in-FileTooLarge g c =
    rw (c.in-FileTooLarge.is, ← c.as_str-in-FileTooLarge.ensures.value) c.large_entry.ensures

pub returns-in-MissingTestStart : goal.returns-in-MissingTestStart
returns-in-MissingTestStart g c = rw c.in-MissingTestStart.is c.missing_test.ensures

pub returns-in-MissingScriptStart : goal.returns-in-MissingScriptStart
returns-in-MissingScriptStart g c = rw c.in-MissingScriptStart.is c.missing_script.ensures

pub returns-in-MissingStressSubRunStart : goal.returns-in-MissingStressSubRunStart
returns-in-MissingStressSubRunStart g c =
    rw c.in-MissingStressSubRunStart.is c.number-in-MissingStressSubRunStart.ensures

pub returns-in-SpanAlreadyOpen : goal.returns-in-SpanAlreadyOpen
returns-in-SpanAlreadyOpen g c = rw c.in-SpanAlreadyOpen.is c.open_span.ensures

pub returns-in-SlotBusy : goal.returns-in-SlotBusy
returns-in-SlotBusy g c = rw c.in-SlotBusy.is c.event_number.ensures

pub returns-in-TimestampOutOfRange : goal.returns-in-TimestampOutOfRange
returns-in-TimestampOutOfRange g c =
    rw c.in-TimestampOutOfRange.is c.number-in-TimestampOutOfRange.ensures

pub returns-in-RowOutOfRange : goal.returns-in-RowOutOfRange
returns-in-RowOutOfRange g c = rw c.in-RowOutOfRange.is c.event_number-in-RowOutOfRange.ensures

pub returns-in-BundleFault : goal.returns-in-BundleFault
returns-in-BundleFault g c = rw c.in-BundleFault.is c.name-in-BundleFault.ensures

pub returns-in-TraceFault : goal.returns-in-TraceFault
returns-in-TraceFault g c = rw c.in-TraceFault.is c.name-in-TraceFault.ensures

pub returns-in-OutOfMemory : goal.returns-in-OutOfMemory
returns-in-OutOfMemory g c = rw c.in-OutOfMemory.is c.name-in-OutOfMemory.ensures
