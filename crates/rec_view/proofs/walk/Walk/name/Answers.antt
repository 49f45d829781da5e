use Rattle.std.proofs.Common.{◌≡◌, ◌||◌, ◌∙◌, true, false, ap, refl, subst, sym}
use Rattle.rec_events.specs.declared.instances.OwnedTestInstanceId.{OwnedTestInstanceId}
use Rattle.rec_events.specs.Tests.{test_eq}
use Rattle.rec_rerun.specs.Planned.{is_seen}
use Rattle.rec_view.proofs.walk.Walk.name.Goals as goal
use Rattle.rec_view.proofs.Walks.{append-nil, names_more, tells_more, was_there}
use Rattle.rec_view.specs.Rows.{rows}

pub returns-in_ok-add : goal.returns-in_ok-add
returns-in_ok-add c = record {
  ok = λ start names h.
      let key = c.in_ok-try_clone.field-0 in
      let old = c.args.self.now.told in
      let copy = c.in_ok-try_clone.ensures.copy in
      let told =
      subst (λ k. (t : OwnedTestInstanceId)
      → is_seen c.insert.new.self t ≡ (test_eq k t || is_seen old t)) copy
      (tells_more old c.insert.new.self key c.in_ok-is_new.ensures.updates.0) in
      let there =
      ap (is_seen old) (sym copy) ∙ was_there old key c.in_ok-is_new.is_new true
      c.in_ok-is_new.ensures.added c.if-is_new.true in
      names_more start c.args.self.now c.add.new.self names c.args.test.now false h there
      c.in_ok-add.ensures.ok.rows c.in_ok-add.ensures.ok.number c.in_ok-add.ensures.ok.running
      (λ s. ap (λ d. is_seen d s) c.in_ok-add.ensures.ok.told ∙ told s);
}

pub returns-else-is_new : goal.returns-else-is_new
returns-else-is_new c = record {
  ok = λ start names h.
      let key = c.in_ok-try_clone.field-0 in
      let old = c.args.self.now.told in
      let copy = c.in_ok-try_clone.ensures.copy in
      let told =
      subst (λ k. (t : OwnedTestInstanceId)
      → is_seen c.insert.new.self t ≡ (test_eq k t || is_seen old t)) copy
      (tells_more old c.insert.new.self key c.in_ok-is_new.ensures.updates.0) in
      let there =
      ap (is_seen old) (sym copy) ∙ was_there old key c.in_ok-is_new.is_new false
      c.in_ok-is_new.ensures.added c.if-is_new.false in
      names_more start c.args.self.now _ names c.args.test.now true h there
      (sym (append-nil (rows c.args.self.now.tests.items))) refl refl told;
}
