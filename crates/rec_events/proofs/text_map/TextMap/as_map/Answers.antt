use Rattle.rec_events.proofs.text_map.TextMap.as_map.Goals as goal
use Rattle.rec_events.specs.PairLaws.{KeysRise-pairs, AreTexts-pairs}

pub returns-clause-rise : goal.returns-clause-rise
returns-clause-rise g c =
    rw (← c.self.view_is) (KeysRise-pairs c.self.inside.inner.entries c.len-ordered.ensures.ordered)

pub returns-clause-texts : goal.returns-clause-texts
returns-clause-texts g c = rw (← c.self.view_is) (AreTexts-pairs c.self.inside.inner.entries)
