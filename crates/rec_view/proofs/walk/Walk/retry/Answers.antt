use Rattle.std.proofs.Common.{◌≡◌, ◌∙◌, ◌<◌, ◌++◌, None, Some, IfSome, ap, length, map, subst, sym}
use Rattle.rec_rerun.specs.Planned.{is_seen}
use Rattle.rec_spans.specs.Tied.{slot_of}
use Rattle.rec_view.proofs.walk.Walk.retry.Goals as goal
use Rattle.rec_view.proofs.Walks.{append-nil, keep_running, on_ok, open_running}
use Rattle.rec_view.specs.Acts.Act.{Retries}
use Rattle.rec_view.specs.Rows.{rows}
use Rattle.rec_view.specs.Walked.{fresh, retried, touch_at, touched, unless_some}

pub retry_at-requires : goal.retry_at-requires
retry_at-requires c = record {
  within =
      subst (λ o. IfSome o (λ i. i < length c.args.self.now.tests.items))
      (sym c.place_of.ensures ∙ c.in-Some.is) c.requires.within;
}

pub returns-in-Some : goal.returns-in-Some
returns-in-Some c =
    let old = c.args.self.now in
    let t = c.args.test.now in
    let run = slot_of old.running.entries in
    let is : run t ≡ Some c.in-Some.index = sym c.place_of.ensures ∙ c.in-Some.is in
    record {
      ok = on_ok c.retry_at.result (λ touches. record {
        rows = touches.rows
            ∙ sym (append-nil
            (touch_at c.in-Some.index (retried old.number) (rows old.tests.items)))
            ∙ sym (ap (λ o. touched o (retried old.number) (rows old.tests.items)
            ++ map (fresh (Retries t) old.number) (unless_some o t)) is);
        number = touches.number;
        told = λ u. ap (λ d. is_seen d u) touches.told;
        running = λ s. ap (λ m. slot_of m.entries s) touches.running
            ∙ keep_running run t c.in-Some.index (length old.tests.items) is s;
      }) c.retry_at.ensures.ok;
    }

pub returns-in-None : goal.returns-in-None
returns-in-None c =
    let old = c.args.self.now in
    let t = c.args.test.now in
    let run = slot_of old.running.entries in
    let is : run t ≡ None = sym c.place_of.ensures ∙ c.in-None.is in
    record {
      ok = on_ok c.open.result (λ opens. record {
        rows = opens.rows
            ∙ sym (ap (λ o. touched o (retried old.number) (rows old.tests.items)
            ++ map (fresh (Retries t) old.number) (unless_some o t)) is);
        number = opens.number;
        told = λ u. ap (λ d. is_seen d u) opens.told;
        running = λ s. opens.running s ∙ open_running run t (length old.tests.items) is s;
      }) c.open.ensures.ok;
    }
