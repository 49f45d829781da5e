use Rattle.std.proofs.Common.{ap, ◌∙◌, ◌++◌, codes}
use Rattle.rec_reading.proofs.rerun.lines_text.Goals as goal
use Rattle.rec_reading.proofs.RerunRead.{three_after}
use Rattle.rec_reading.specs.Reruns.{selection_line, test_lines}

pub returns : goal.returns
returns c =
    let plan = c.args.plan.now in
    let run = c.in_ok-print_tests.ensures
    ∙ ap (λ l. c.in_ok-text.text.items ++ test_lines (codes "run ") l) c.as_slice.ensures
    ∙ ap (λ l. l ++ test_lines (codes "run ") plan.run) c.in_ok-text.ensures in
    let skip = c.in_ok-print_tests-2.ensures
    ∙ ap (λ l. c.print_tests.new.text.items ++ test_lines (codes "skip ") l) c.as_slice-2.ensures in
    let gone = c.in_ok-print_tests-3.ensures ∙ ap
    (λ l. c.print_tests-2.new.text.items ++ test_lines (codes "gone ") l) c.as_slice-3.ensures in
    three_after (selection_line c.args.info.now) (test_lines (codes "run ") plan.run)
    (test_lines (codes "skip ") plan.skip) (test_lines (codes "gone ") plan.gone)
    _ _ _ run skip gone
