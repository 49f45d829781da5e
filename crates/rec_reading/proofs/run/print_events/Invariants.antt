use Rattle.std.proofs.Common.{◌≡◌, List}
use Rattle.rec_container.specs.Container.{Entry}
use Rattle.rec_store.specs.Readers.{Keeps}
use Rattle.rec_replay.specs.Registration.{is_registered}
use Rattle.rec_reading.proofs.Printed.{HasPrinted}
use Rattle.rec_reading.proofs.run.print_events.Given as goal
use Rattle.rec_reading.specs.Converting.{converted}

-- what was printed so far, over a reader that never fails
abbrev pub invariant-loop-item : goal.invariant-loop-item
invariant-loop-item g l =
    let before = l.fn.reader.now in
    let now = l.reader.now in
    let old = goal.StoreReader-dyn g before in
    let new = goal.StoreReader-dyn g now in
    record {
      never : (x : _) → (goal.StoreReader-dyn g (now.0, x)).failures x ≡ 0;
      same : Keeps (old.limit before.1) (new.limit now.1) (old.holds before.1) (new.holds now.1);
      same_printer : g.P.EventPrinter.prints l.printer ≡ g.P.EventPrinter.prints l.fn.printer;
      printed : (es : List Entry) → old.holds before.1 es
          → HasPrinted (g.P.EventPrinter.prints l.fn.printer)
          (converted (is_registered l.fn.context.tests) l.fn.context.test_list l.fn.load_output es
          (old.limit before.1))
          (g.P.EventPrinter.stands l.printer) l.yielded l.fn.text.items l.text.items;
    }
