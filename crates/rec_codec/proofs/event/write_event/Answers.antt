use Rattle.std.proofs.Common.{refl}
use Rattle.rec_codec.proofs.event.write_event.Goals as goal

pub returns-clause-written : goal.returns-clause-written
returns-clause-written g c =
    c.in_ok-end_struct.ensures _ _
    (rw (c.in_ok-write_members.ensures.written, c.in_ok-begin_object.ensures) refl)
