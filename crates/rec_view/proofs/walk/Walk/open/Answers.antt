use Rattle.std.proofs.Common.{rules, length, ◌≡◌, ◌∙◌, ◌∷◌, ◌++◌, [], Some, ap, subst}
use Rattle.std.proofs.Common.{if◌then◌else◌}
use Rattle.rec_events.specs.Tests.{test_eq}
use Rattle.rec_spans.proofs.Orders.{slot-updates}
use Rattle.rec_spans.specs.Tied.{SetsSlot, slot_of}
use Rattle.rec_view.proofs.walk.Walk.open.Goals as goal
use Rattle.rec_view.specs.declared.verdicts.Verdict.TheVariants.{Unfinished}
use Rattle.rec_view.specs.Rows.{rows}
use Rattle.rec_view.specs.Walked.{begun_at, made}

pub returns : goal.returns
returns c =
    let old = c.args.self.now in
    let t = c.args.test.now in
    let many : c.len-index.result ≡ length old.tests.items = search rules in
    let pushed = c.in_ok-push-2.ensures.ok in
    let one : c.push.new.self.items ≡ begun_at old.number ∷ [] = search rules in
    let puts =
    subst
    (λ test. SetsSlot test (Some c.len-index.result) c.push-2.new.self.running.entries
    c.insert.new.self.entries)
    c.in_ok-key.ensures.copy
    (slot-updates c.in_ok-key.key c.push-2.new.self.running c.insert.new.self
    (Some c.len-index.result) c.in_ok-insert.ensures.updates) in
    record {
      ok = record {
        rows = pushed.rows
            ∙ ap (λ xs. rows old.tests.items ++ made Unfinished xs old.number t ∷ []) one;
        number = pushed.number;
        told = pushed.told;
        running =
            λ s. puts s
            ∙ ap (λ m. if test_eq t s then Some c.len-index.result else slot_of m.entries s)
            pushed.running
            ∙ ap (λ n. if test_eq t s then Some n else slot_of old.running.entries s) many;
      };
    }
