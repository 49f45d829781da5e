use Rattle.std.proofs.Common.{ap, sym, subst, Option, List, ℕ}
use Rattle.rec_store.proofs.parts.read_rerun_info.Goals as goal
use Rattle.rec_store.specs.Parts.{found_rerun_info}
use Rattle.rec_store.specs.Readers.{Reads}

pub returns-in-Some : goal.returns-in-Some
returns-in-Some c =
    subst (λ (o : Option (List ℕ)).
    Reads (λ x. x) (found_rerun_info c.args.limit o) c.some_rerun_info.result)
    c.in-Some.ensures c.some_rerun_info.ensures

pub returns-in-None : goal.returns-in-None
returns-in-None c = ap (found_rerun_info c.args.limit) (sym c.in-None.ensures)
