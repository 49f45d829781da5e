use Rattle.rec_forms.proofs.run_ends.RunFinishedStatsForm.write.Goals as goal

pub returns-in-Single-clause-written : goal.returns-in-Single-clause-written
returns-in-Single-clause-written c = rw c.in-Single.is c.write_tagged.ensures.written
