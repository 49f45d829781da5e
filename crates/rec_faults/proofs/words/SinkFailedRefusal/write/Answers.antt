use Rattle.rec_faults.proofs.words.SinkFailedRefusal.write.Goals as goal

pub returns : goal.returns
returns g c = c.name.ensures
