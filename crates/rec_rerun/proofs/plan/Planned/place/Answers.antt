use Rattle.std.proofs.Common.{◌≡◌, ◌||◌, ◌∙◌, true, false, refl, sym, ap, subst}
use Rattle.rec_events.specs.declared.instances.OwnedTestInstanceId.{OwnedTestInstanceId}
use Rattle.rec_events.specs.Tests.{test_eq}
use Rattle.rec_rerun.proofs.Parts.{append-nil, is_new, not_new, placed, seen_by, sees}
use Rattle.rec_rerun.proofs.plan.Planned.place.Goals as goal
use Rattle.rec_rerun.specs.Planned.{is_seen}
use Rattle.rec_rerun.specs.Suites.{has_passing}

pub returns-then-not-is_first : goal.returns-then-not-is_first
returns-then-not-is_first c = record {
  ok =
      let old = c.args.self.now.seen in
      let new = c.insert.new.self in
      let key = c.in_ok-try_clone.field-0 in
      let copy : key ≡ c.args.test = c.in_ok-try_clone.ensures.copy in
      let there = ap (is_seen old) (sym copy) ∙ sym (seen_by old key)
      ∙ not_new c.in_ok-is_first.is_first _ c.in_ok-is_first.ensures.added c.if-not-is_first.true in
      let seen =
      subst (λ k. (t : OwnedTestInstanceId) → is_seen new t ≡ (test_eq k t || is_seen old t)) copy
      (sees old new key c.in_ok-is_first.ensures.updates.0) in
      placed c.args.info.now c.args.self.now _ c.args.test true
      (has_passing c.args.info.now.test_suites c.args.test) there refl
      (sym (append-nil c.args.self.now.run.items)) (sym (append-nil c.args.self.now.skip.items))
      seen;
}

pub returns-then-is_passing : goal.returns-then-is_passing
returns-then-is_passing c = record {
  ok =
      let old = c.args.self.now.seen in
      let new = c.insert.new.self in
      let key = c.in_ok-try_clone.field-0 in
      let copy : key ≡ c.args.test = c.in_ok-try_clone.ensures.copy in
      let there = ap (is_seen old) (sym copy) ∙ sym (seen_by old key)
      ∙ is_new c.in_ok-is_first.is_first _ c.in_ok-is_first.ensures.added c.if-not-is_first.false in
      let seen =
      subst (λ k. (t : OwnedTestInstanceId) → is_seen new t ≡ (test_eq k t || is_seen old t)) copy
      (sees old new key c.in_ok-is_first.ensures.updates.0) in
      placed c.args.info.now c.args.self.now _ c.args.test false true there
      (sym c.is_passing.ensures ∙ c.if-is_passing.true)
      (sym (append-nil c.args.self.now.run.items)) c.in_ok-push.ensures.items seen;
}

pub returns : goal.returns
returns c = record {
  ok =
      let old = c.args.self.now.seen in
      let new = c.insert.new.self in
      let key = c.in_ok-try_clone.field-0 in
      let copy : key ≡ c.args.test = c.in_ok-try_clone.ensures.copy in
      let there = ap (is_seen old) (sym copy) ∙ sym (seen_by old key)
      ∙ is_new c.in_ok-is_first.is_first _ c.in_ok-is_first.ensures.added c.if-not-is_first.false in
      let seen =
      subst (λ k. (t : OwnedTestInstanceId) → is_seen new t ≡ (test_eq k t || is_seen old t)) copy
      (sees old new key c.in_ok-is_first.ensures.updates.0) in
      placed c.args.info.now c.args.self.now _ c.args.test false false there
      (sym c.is_passing.ensures ∙ c.if-is_passing.false)
      c.in_ok-push-2.ensures.items (sym (append-nil c.args.self.now.skip.items)) seen;
}
