use Rattle.std.proofs.Common.{◌∙◌, ◌∷◌, ◌++◌, [], Some, ap, length, if◌then◌else◌}
use Rattle.rec_events.specs.Tests.{test_eq}
use Rattle.rec_rerun.specs.Planned.{is_seen}
use Rattle.rec_spans.specs.Tied.{slot_of}
use Rattle.rec_view.proofs.walk.Walk.start.Goals as goal
use Rattle.rec_view.proofs.Walks.{on_ok, same-many}
use Rattle.rec_view.specs.Acts.Act.{Starts}
use Rattle.rec_view.specs.Rows.{rows}
use Rattle.rec_view.specs.Walked.{closed, fresh, touched}

pub returns : goal.returns
returns c =
    let old = c.args.self.now in
    let mid = c.close.new.self in
    let t = c.args.test.now in
    let run = slot_of old.running.entries in
    let cut = c.close.ensures in
    record {
      ok = on_ok c.open.result (λ opens. record {
        rows = opens.rows
            ∙ ap (λ rs. rs ++ fresh (Starts t) mid.number t ∷ []) cut.rows
            ∙ ap (λ n. touched (run t) (closed old.number) (rows old.tests.items)
            ++ fresh (Starts t) n t ∷ []) cut.number;
        number = opens.number ∙ cut.number;
        told = λ u. ap (λ d. is_seen d u) (opens.told ∙ cut.told);
        running = λ s. opens.running s
            ∙ ap (λ m. if test_eq t s then Some (length mid.tests.items) else slot_of m.entries s)
            cut.running
            ∙ ap (λ n. if test_eq t s then Some n else run s)
            (same-many (run t) (closed old.number) old.tests.items mid.tests.items cut.rows);
      }) c.open.ensures.ok;
    }
