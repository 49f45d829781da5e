use Rattle.std.proofs.Common.{ap, sym, subst, Option, List, ℕ}
use Rattle.rec_format.specs.RerunForms.{rerun_info_form}
use Rattle.rec_store.specs.Entries.{rerun_info_path}
use Rattle.rec_salvage.proofs.metadata.check_rerun_info.Goals as goal
use Rattle.rec_salvage.specs.Refusals.{Judges, maybe_refusal, stands_for}

pub returns-in-Some : goal.returns-in-Some
returns-in-Some c =
    subst (λ (o : Option (List ℕ)).
    Judges (maybe_refusal rerun_info_path (stands_for rerun_info_form) o) c.check_form.result)
    c.in-Some.ensures c.check_form.ensures

pub returns-in-None : goal.returns-in-None
returns-in-None c =
    ap (maybe_refusal rerun_info_path (stands_for rerun_info_form)) (sym c.in-None.ensures)
