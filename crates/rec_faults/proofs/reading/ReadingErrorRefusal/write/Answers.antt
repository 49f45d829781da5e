use Rattle.rec_faults.proofs.reading.ReadingErrorRefusal.write.Goals as goal

pub returns-in-Bundle : goal.returns-in-Bundle
returns-in-Bundle g c = rw c.in-Bundle.is c.write.ensures

pub returns-in-Trace : goal.returns-in-Trace
returns-in-Trace g c = rw c.in-Trace.is c.write-in-Trace.ensures

pub returns-in-Part : goal.returns-in-Part
returns-in-Part g c = rw c.in-Part.is c.write-in-Part.ensures

pub returns-in-Line : goal.returns-in-Line
returns-in-Line g c = rw c.in-Line.is c.write-in-Line.ensures

pub returns-in-Conversion : goal.returns-in-Conversion
returns-in-Conversion g c = rw c.in-Conversion.is c.write-in-Conversion.ensures

pub returns-in-Report : goal.returns-in-Report
returns-in-Report g c = rw c.in-Report.is c.write-in-Report.ensures

pub returns-in-Slots : goal.returns-in-Slots
returns-in-Slots g c = rw c.in-Slots.is c.write-in-Slots.ensures

pub returns-in-OutOfMemory : goal.returns-in-OutOfMemory
returns-in-OutOfMemory g c = rw c.in-OutOfMemory.is c.name.ensures

pub returns-in-OutputChanged : goal.returns-in-OutputChanged
returns-in-OutputChanged g c =
    rw (c.in-OutputChanged.is, ← c.as_str.ensures.value) c.text.ensures
