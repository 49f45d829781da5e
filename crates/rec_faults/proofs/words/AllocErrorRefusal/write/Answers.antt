use Rattle.rec_faults.proofs.words.AllocErrorRefusal.write.Goals as goal

pub returns : goal.returns
returns g c = c.name.ensures
