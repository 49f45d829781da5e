use Rattle.std.proofs.Common.{◌∙◌, length, sym}
use Rattle.rec_slots.proofs.SlotReports.{accepted-all, first-fall, first-outside}
use Rattle.rec_slots.proofs.SlotReports.{no-run, none-by, none-falls, none-outside}
use Rattle.rec_slots.proofs.SlotReports.{one-run, over-all, report-is, room-all}
use Rattle.rec_slots.proofs.walk.Walk.report.Goals as goal
use Rattle.rec_slots.specs.Beats.{marks_before}

pub returns-then-not-is_over : goal.returns-then-not-is_over
returns-then-not-is_over c = λ events has.
    let done = sym (c.is_over.ensures (marks_before events (length events)) has.phase)
    ∙ c.if-not-is_over.true in
    (accepted-all events c.args.self.now has, no-run events done)

pub returns-in-Some : goal.returns-in-Some
returns-in-Some c = λ events has.
    let done = sym (c.is_over.ensures (marks_before events (length events)) has.phase)
    ∙ c.if-not-is_over.false in (
      accepted-all events c.args.self.now has,
      one-run events done,
      first-outside events c.first.result c.in-Some.event c.in-Some.is
          (c.first.ensures events (length events) has.attempts),
    )

pub returns-in-Some-fell : goal.returns-in-Some-fell
returns-in-Some-fell c = λ events has.
    let done = sym (c.is_over.ensures (marks_before events (length events)) has.phase)
    ∙ c.if-not-is_over.false in
    let none = none-by c.first.result c.in_default.not-Some in (
      accepted-all events c.args.self.now has,
      one-run events done,
      none-outside events c.first.result none (c.first.ensures events (length events) has.attempts),
      first-fall events c.args.self.now.times.fell c.in-Some-fell.event c.in-Some-fell.is
          has.times.fall,
    )

pub report-requires-clause-room : goal.report-requires-clause-room
report-requires-clause-room c =
    let (events, has) = c.requires in
    let done = sym (c.is_over.ensures (marks_before events (length events)) has.phase)
    ∙ c.if-not-is_over.false in
    let steady = none-by c.args.self.now.times.fell c.in_default-fell.not-Some in
    room-all events c.args.self.now.times.clocks (over-all events c.args.self.now has done steady)

pub returns : goal.returns
returns c = λ events has.
    let done = sym (c.is_over.ensures (marks_before events (length events)) has.phase)
    ∙ c.if-not-is_over.false in
    let none = none-by c.first.result c.in_default.not-Some in
    let steady = none-by c.args.self.now.times.fell c.in_default-fell.not-Some in
    let e = c.in_ok-report.ensures in (
      report-is events c.args.self.now c.in_ok-report.field-0 has done steady e.length e.used
          e.slots e.rise,
      accepted-all events c.args.self.now has,
      none-outside events c.first.result none (c.first.ensures events (length events) has.attempts),
      none-falls events c.args.self.now.times.fell steady has.times.fall,
    )
