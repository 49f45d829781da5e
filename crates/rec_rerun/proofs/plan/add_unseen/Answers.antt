use Rattle.std.proofs.Common.{◌∙◌, sym}
use Rattle.rec_rerun.proofs.Parts.{none_added, one_added, seen_by}
use Rattle.rec_rerun.proofs.plan.add_unseen.Goals as goal
use Rattle.rec_rerun.specs.Planned.{is_seen}

pub returns-then-contains : goal.returns-then-contains
returns-then-contains c = record {
  ok =
      none_added c.args.gone.now.items c.args.test (is_seen c.args.seen.now c.args.test)
      (sym (seen_by c.args.seen.now c.args.test) ∙ sym c.contains.ensures ∙ c.if-contains.true);
}

pub returns : goal.returns
returns c = record {
  ok = c.in_ok-push.ensures.items
      ∙ one_added c.args.gone.now.items c.args.test (is_seen c.args.seen.now c.args.test)
      (sym (seen_by c.args.seen.now c.args.test) ∙ sym c.contains.ensures ∙ c.if-contains.false);
}
