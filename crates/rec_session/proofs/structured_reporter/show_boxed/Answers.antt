use Rattle.std.proofs.Common.{◌≡◌, ◌≤◌, subst, ap}
use Rattle.rec_replay.specs.Reporting.{Shows, known}
use Rattle.rec_session.proofs.structured_reporter.show_boxed.Given as given
use Rattle.rec_session.proofs.structured_reporter.show_boxed.Goals as goal

-- what is behind a `dyn`: its vtable, and its value there
abbrev Object : given.Over → Type 0
Object g = (x : g.dyn-1.0.I) × (g.dyn-1.0.entry x).0.Denot

pub returns-clause-own : goal.returns-clause-own
returns-clause-own g c =
    let lent = c.deref_box_mut-1 in
    let own = c.write_event_dyn.ensures.own in
    let box = c.args.libtest.now in
    subst (λ (p : Object g).
    (x : (g.dyn-1.0.entry p.0).0.Denot)
    × (g.dyn-1.0.entry p.0).1.writes_event p.1 c.args.event.now c.write_event_dyn.result x
    × (record box { vtable = lent.result.now.0; value = c.write_event_dyn.new.reporter }
    ≡ record box { vtable = p.0; value = x }))
    lent.ensures.value.1
    (own.0, own.1, ap (λ (q : Object g). record box { vtable = q.0; value = q.1 }) own.2)

pub returns-clause-shown : goal.returns-clause-shown
returns-clause-shown g c =
    let lent = c.deref_box_mut-1 in
    let new : Object g = (lent.result.now.0, c.write_event_dyn.new.reporter) in
    subst (λ (p : Object g). Shows
    ((goal.EventReporter-dyn g p).written p.1) ((goal.EventReporter-dyn g new).written new.1)
    ((goal.EventReporter-dyn g p).faults p.1) ((goal.EventReporter-dyn g new).faults new.1)
    ((g.dyn-1.0.entry p.0).1.event_text (known ((goal.EventReporter-dyn g p).configured p.1))
    c.args.event.now) c.write_event_dyn.result)
    lent.ensures.value.1 c.write_event_dyn.ensures.shown

pub returns-clause-later : goal.returns-clause-later
returns-clause-later g c =
    let lent = c.deref_box_mut-1 in
    let new : Object g = (lent.result.now.0, c.write_event_dyn.new.reporter) in
    subst (λ (p : Object g). (goal.EventReporter-dyn g p).faults p.1
    ≤ (goal.EventReporter-dyn g new).faults new.1)
    lent.ensures.value.1 c.write_event_dyn.ensures.later

pub returns-clause-wants : goal.returns-clause-wants
returns-clause-wants g c =
    let lent = c.deref_box_mut-1 in
    let new : Object g = (lent.result.now.0, c.write_event_dyn.new.reporter) in
    subst (λ (p : Object g). (goal.EventReporter-dyn g new).wants new.1
    ≡ (goal.EventReporter-dyn g p).wants p.1)
    lent.ensures.value.1 c.write_event_dyn.ensures.wants

pub returns-clause-configured : goal.returns-clause-configured
returns-clause-configured g c =
    let lent = c.deref_box_mut-1 in
    let new : Object g = (lent.result.now.0, c.write_event_dyn.new.reporter) in
    subst (λ (p : Object g). (goal.EventReporter-dyn g new).configured new.1
    ≡ (goal.EventReporter-dyn g p).configured p.1)
    lent.ensures.value.1 c.write_event_dyn.ensures.configured

pub returns-clause-finished : goal.returns-clause-finished
returns-clause-finished g c =
    let lent = c.deref_box_mut-1 in
    let new : Object g = (lent.result.now.0, c.write_event_dyn.new.reporter) in
    subst (λ (p : Object g). (goal.EventReporter-dyn g new).finished new.1
    ≡ (goal.EventReporter-dyn g p).finished p.1)
    lent.ensures.value.1 c.write_event_dyn.ensures.finished
