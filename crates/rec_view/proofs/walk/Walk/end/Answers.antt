use Rattle.std.proofs.Common.{◌≡◌, ◌∙◌, ◌<◌, ◌++◌, None, Some, IfSome, ap, length, map, subst, sym}
use Rattle.std.proofs.Common.{if◌then◌else◌}
use Rattle.rec_events.specs.Tests.{test_eq}
use Rattle.rec_rerun.specs.Planned.{is_seen}
use Rattle.rec_spans.specs.Tied.{slot_of}
use Rattle.rec_view.proofs.walk.Walk.end.Goals as goal
use Rattle.rec_view.proofs.Walks.{append-nil, none_running, on_ok}
use Rattle.rec_view.specs.Acts.Act.{Ends}
use Rattle.rec_view.specs.Rows.{rows}
use Rattle.rec_view.specs.Walked.{ended, fresh, touch_at, touched, unless_some}

pub end_at-requires : goal.end_at-requires
end_at-requires c = record {
  within =
      subst (λ o. IfSome o (λ i. i < length c.args.self.now.tests.items))
      (sym c.place_of.ensures ∙ c.in-Some.is) c.requires.within;
}

pub returns-in-Some : goal.returns-in-Some
returns-in-Some c =
    let old = c.args.self.now in
    let t = c.args.test.now in
    let v = c.args.verdict in
    let run = slot_of old.running.entries in
    let is : run t ≡ Some c.in-Some.index = sym c.place_of.ensures ∙ c.in-Some.is in
    let touches = c.end_at.ensures in
    record {
      ok = record {
        rows = ap (λ ts. rows ts.items) c.stop.ensures.tests ∙ touches.rows
            ∙ sym (append-nil
            (touch_at c.in-Some.index (ended v old.number) (rows old.tests.items)))
            ∙ sym (ap (λ o. touched o (ended v old.number) (rows old.tests.items)
            ++ map (fresh (Ends t v) old.number) (unless_some o t)) is);
        number = c.stop.ensures.number ∙ touches.number;
        told = λ u. ap (λ d. is_seen d u) (c.stop.ensures.told ∙ touches.told);
        running = λ s. c.stop.ensures.running s
            ∙ ap (λ m. if test_eq t s then None else slot_of m.entries s) touches.running;
      };
    }

pub returns-in-None : goal.returns-in-None
returns-in-None c =
    let old = c.args.self.now in
    let t = c.args.test.now in
    let v = c.args.verdict in
    let run = slot_of old.running.entries in
    let is : run t ≡ None = sym c.place_of.ensures ∙ c.in-None.is in
    record {
      ok = on_ok c.add.result (λ pushes. record {
        rows = pushes.rows
            ∙ sym (ap (λ o. touched o (ended v old.number) (rows old.tests.items)
            ++ map (fresh (Ends t v) old.number) (unless_some o t)) is);
        number = pushes.number;
        told = λ u. ap (λ d. is_seen d u) pushes.told;
        running = λ s. ap (λ m. slot_of m.entries s) pushes.running
            ∙ none_running run t v (length old.tests.items) is s;
      }) c.add.ensures.ok;
    }
