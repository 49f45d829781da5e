use Rattle.std.proofs.Common.{rules, ◌≡◌, ◌<◌, ◌-◌, suc, length, arith, refl}
use Rattle.rec_view.proofs.Rows.{row_made}
use Rattle.rec_view.proofs.test_views.TestView.close.Goals as goal
use Rattle.rec_view.proofs.Walks.{close_set}
use Rattle.rec_view.specs.Tests.{place}

pub returns-then-count-gt0 : goal.returns-then-count-gt0
returns-then-count-gt0 c =
    let old = c.args.self.now in
    let many : c.len-count.result ≡ length old.attempts.items = search rules in
    let some : 0 < c.len-count.result = search rules in
    let last : suc (c.len-count.result - 1) ≡ length old.attempts.items =
    omega (arith, many, some) in
    row_made (place old.at old.test) _ _ _ _ refl
    (close_set c.args.number old.attempts.items (c.len-count.result - 1) c.index_mut-last.result.now
    c.or-last.result last c.index_mut-last.ensures.value c.or-last.ensures)
