use Rattle.rec_events.proofs.test_names.TestNames.as_set.Goals as goal
use Rattle.rec_events.specs.PairLaws.{Rise-texts, AreTexts-texts}

pub returns-clause-rise : goal.returns-clause-rise
returns-clause-rise c =
    rw (← c.self.view_is) (Rise-texts c.self.inside.inner.keys c.len-ordered.ensures.ordered)

pub returns-clause-texts : goal.returns-clause-texts
returns-clause-texts c = rw (← c.self.view_is) (AreTexts-texts c.self.inside.inner.keys)
