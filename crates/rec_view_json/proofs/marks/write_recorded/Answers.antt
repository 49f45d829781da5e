use Rattle.rec_codec.proofs.ReadEventLaws.{never_unloaded}
use Rattle.rec_view_json.proofs.marks.write_recorded.Goals as goal

-- the names of an event's files are always loaded
pub unreachable-requires : goal.unreachable-requires
unreachable-requires c =
    never_unloaded c.in-Err-NotLoaded.field-0 c.args.event.now.kind c.in-Err-NotLoaded.field-0-is
    c.in-Err-NotLoaded.ensures.loaded
