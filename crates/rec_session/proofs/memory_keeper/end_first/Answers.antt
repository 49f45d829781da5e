use Rattle.std.proofs.Common.{◌∙◌, sym}
use Rattle.rec_session.proofs.FirstEnded.{first_ended-none, first_ended-some, has_run-some}
use Rattle.rec_session.proofs.memory_keeper.end_first.Goals as goal

pub returns-in_default-clause-found : goal.returns-in_default-clause-found
returns-in_default-clause-found c =
    sym (first_ended-none c.args.ending.now c.args.runs.now
    (sym c.place_of.ensures ∙ c.in_default.is)).0

pub returns-in_default-clause-runs : goal.returns-in_default-clause-runs
returns-in_default-clause-runs c =
    sym (first_ended-none c.args.ending.now c.args.runs.now
    (sym c.place_of.ensures ∙ c.in_default.is)).1

pub returns-clause-found : goal.returns-clause-found
returns-clause-found c =
    sym (has_run-some c.args.ending.now c.args.runs.now c.in-Some.at c.index-runs-at.result
    (sym c.place_of.ensures ∙ c.in-Some.is))

pub returns-clause-runs : goal.returns-clause-runs
returns-clause-runs c =
    rw c.end_run.ensures (sym (first_ended-some c.args.ending.now c.args.runs.now c.in-Some.at
    c.index-runs-at.result (sym c.place_of.ensures ∙ c.in-Some.is)))
