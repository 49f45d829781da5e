use Rattle.std.proofs.Common.{inl, refl}
use Rattle.rec_slots.proofs.walk.Walk.new.Goals as goal

pub returns : goal.returns
returns c = λ events. record {
  tracked = record {
    state = c.new.ensures;
    accepted = refl;
    single = λ slot. inl refl;
    alone = λ test. inl refl;
  };
  phase = refl;
  times = c.new-2.ensures events;
  attempts = c.new-3.ensures events;
}
