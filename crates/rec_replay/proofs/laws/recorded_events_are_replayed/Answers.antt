use Rattle.std.proofs.Common.{sym, ap, ◌∙◌, ◌++◌}
use Rattle.rec_replay.proofs.laws.recorded_events_are_replayed.Goals as goal
use Rattle.rec_replay.proofs.Recorded.{replays_kept, the_same}
use Rattle.rec_replay.specs.declared.output_load.LoadOutput.TheVariants.{Load}
use Rattle.rec_replay.specs.Replaying.{replayed}

pub returns : goal.returns
returns g c = λ live event old new read more limit tests replay summary logged line back answer.
    answer.1
    ∙ ap (replayed Load tests (new.store.entries ++ more)) (the_same _ _ (sym back ∙ line.read))
    ∙ replays_kept g.S.Sink.taken g.S.Sink.faults g.L.Sink.taken g.L.Sink.faults
    g.N.OutputNamer.number old new more live event tests summary logged
