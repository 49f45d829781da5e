use Rattle.std.proofs.Common.{◌∙◌, ap, sym}
use Rattle.rec_slots.proofs.walk.Walk.take.Goals as goal
use Rattle.rec_slots.specs.Beats.{marks_before, phase_of}

pub take-requires : goal.take-requires
take-requires c =
    let r = c.requires in
    record {
      events = r.events;
      n = r.n;
      beat_is = (c.in_ok-beat.ensures r.events r.n r.at r.walked.tracked).1;
      running_is = c.is_running-goes_on.ensures (marks_before r.events r.n) r.walked.phase;
      timed = r.walked.times;
    }

pub returns : goal.returns
returns c = λ events n is has.
    let tracks = c.in_ok-beat.ensures events n is has.tracked in
    let goes_on = c.is_running-goes_on.ensures (marks_before events n) has.phase in
    record {
      tracked = tracks.0;
      phase =
          c.after-self.ensures (marks_before events n) has.phase ∙ ap phase_of (sym tracks.1.marks);
      times = c.in_ok-take.ensures.ok events n tracks.1 goes_on has.times;
      attempts = c.in_ok-take-2.ensures.ok events n tracks.1 goes_on has.attempts;
    }
