use Rattle.std.proofs.Common.{◌≡◌, ◌+◌, ◌∷◌, ◌++◌, drop, ap, sym}
use Rattle.std.proofs.Common.{◌∙◌, append_assoc, append-nil, refl}
use Rattle.std.proofs.lemmas.List.{drop_more, drop_all}
use Rattle.rec_reading.proofs.rerun.print_tests.Goals as goal
use Rattle.rec_reading.specs.Reruns.{test_line, test_lines}

pub loop-test-init : goal.loop-test-init
loop-test-init c = refl

pub loop-test-preserved : goal.loop-test-preserved
loop-test-preserved c =
    let tests = c.args.tests.now in
    let i = c.loop-test.test-index in
    let test = c.test-item.result in
    let before = c.loop-test.text.items in
    let lines = test_lines c.args.label.now in
    let next : drop i tests ≡ test ∷ drop (i + 1) tests =
    drop_more tests i test c.loop-test-test.true
    ∙ ap (λ t. t ∷ drop (i + 1) tests) (sym c.test-item.is) in
    ap (λ l. l ++ lines (drop (i + 1) tests)) c.in_ok-print_test.ensures
    ∙ append_assoc before (test_line c.args.label.now test) (lines (drop (i + 1) tests))
    ∙ ap (λ l. before ++ lines l) (sym next) ∙ c.loop-test.invariant

pub returns : goal.returns
returns c =
    let none = ap (test_lines c.args.label.now)
    (drop_all c.loop-test.test-index c.args.tests.now c.loop-test-test.false) in
    sym (ap (λ l. c.loop-test.text.items ++ l) none ∙ append-nil c.loop-test.text.items)
    ∙ c.loop-test.invariant
