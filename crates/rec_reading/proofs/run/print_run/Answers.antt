use Rattle.std.proofs.Common.{[], List, ℕ, Result, refl, subst}
use Rattle.rec_events.specs.Tests.{is_listed}
use Rattle.rec_codec.specs.LineReading.{log_items}
use Rattle.rec_replay.specs.Registration.{is_registered}
use Rattle.rec_errors.specs.declared.reading_error.ReadingError.{ReadingError}
use Rattle.rec_reading.proofs.Carried.{holds-lent, limit-lent}
use Rattle.rec_reading.proofs.Lent.{text-of_lines}
use Rattle.rec_reading.proofs.Registered.{all-registered}
use Rattle.rec_reading.proofs.run.print_run.Goals as goal
use Rattle.rec_reading.proofs.run.print_run.OwnLists.{same-1-1}
use Rattle.rec_reading.specs.Converting.{converted, lent_tests}
use Rattle.rec_reading.specs.Printing.{Adds, text_from}
use Rattle.rec_reading.specs.RunParts.{parts_in}

pub returns : goal.returns
returns g c =
    let run = c.args.run.now in
    let same = same-1-1 c.print_events-arg-2-1.given in
    let context = c.register_tests.new.context in
    subst (λ (r : Result (List ℕ) ReadingError).
    Adds r c.args.text.now.items c.print_events.new.text.items c.print_events.result)
    (text-of_lines (g.P.EventPrinter.prints c.args.printer.now)
    (g.met.P.EventPrinter.blind c.args.printer.now) (is_registered context.tests) context.test_list
    (lent_tests (parts_in run))
    c.args.load_output run.store.entries run.store.limit (is_listed run.tests)
    c.events-events.result _
    (λ t. all-registered c.new-context.result.tests t _ _ c.new-context.ensures.tests
    (c.in_ok-register_tests.ensures.registered t)) c.events-events.ensures)
    (subst (λ (n : ℕ). Adds
    (text_from (g.P.EventPrinter.prints c.args.printer.now) (converted (is_registered context.tests)
    context.test_list c.args.load_output run.store.entries n) [] (log_items c.events-events.result))
    c.args.text.now.items c.print_events.new.text.items c.print_events.result)
    (limit-lent _ _ _ same _)
    (c.print_events.ensures run.store.entries (holds-lent _ _ _ same _ run.store.entries refl)))
