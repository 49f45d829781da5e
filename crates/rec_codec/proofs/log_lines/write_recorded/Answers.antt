use Rattle.rec_codec.proofs.log_lines.write_recorded.Goals as goal
use Rattle.rec_codec.proofs.ReadEventLaws.{never_unloaded}

-- the names of an event's files are always loaded
pub unreachable-requires : goal.unreachable-requires
unreachable-requires c =
    never_unloaded c.in-Err-NotLoaded.field-0 c.args.event.now.kind c.in-Err-NotLoaded.field-0-is
    c.in-Err-NotLoaded.ensures.loaded
