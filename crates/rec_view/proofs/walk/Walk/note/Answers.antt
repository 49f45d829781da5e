use Rattle.std.proofs.Common.{◌≡◌, ◌||◌, refl, subst}
use Rattle.rec_events.specs.declared.instances.OwnedTestInstanceId.{OwnedTestInstanceId}
use Rattle.rec_events.specs.Tests.{test_eq}
use Rattle.rec_rerun.specs.Planned.{is_seen}
use Rattle.rec_view.proofs.walk.Walk.note.Goals as goal
use Rattle.rec_view.proofs.Walks.{tells_more}

pub returns : goal.returns
returns c =
    let key = c.in_ok-try_clone.field-0 in
    let old = c.args.self.now.told in
    let new = c.insert.new.self in
    record {
      ok = record {
        tests = refl;
        number = refl;
        running = refl;
        told = subst (λ k. (t : OwnedTestInstanceId)
            → is_seen new t ≡ (test_eq k t || is_seen old t))
            c.in_ok-try_clone.ensures.copy
            (tells_more old new key c.in_ok-insert.ensures.updates.0);
      };
    }
