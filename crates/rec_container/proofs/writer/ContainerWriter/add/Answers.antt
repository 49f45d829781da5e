use Rattle.std.proofs.Common.{rules, ◌≡◌, ℕ, List, Option, Some, None}
use Rattle.std.proofs.Common.{Result, Ok, Err, IfErr, inl, inr, refl, subst}
use Rattle.rec_container.proofs.Results.{on_ok_both}
use Rattle.rec_container.proofs.Spelling.{Appends-push}
use Rattle.rec_container.proofs.writer.ContainerWriter.add.Goals as goal
use Rattle.rec_container.specs.declared.errors.ContainerWriteError.{ContainerWriteError}
use Rattle.rec_container.specs.Writing.{Refuses, RefusesLate, Writing, entry_named, refusal}

pub returns-in-Ok-Some-clause-prefix : goal.returns-in-Ok-Some-clause-prefix
returns-in-Ok-Some-clause-prefix g c =
    λ start so_far.
    on_ok_both c.put.result
    (λ entries taken. Appends-push start (g.K.Sink.taken c.args.self.now.sink)
    (g.K.Sink.taken c.put.new.self.sink) c.args.self.now.entries c.put.new.self.entries
    (entry_named c.args.name.now c.args.bytes.now) so_far taken entries)
    c.put.ensures.entries c.put.ensures.taken

pub returns-in-Err-clause-refused : goal.returns-in-Err-clause-refused
returns-in-Err-clause-refused g c =
    inl (
      subst (λ (w : Writing _). refusal w.failed w.entries c.args.name.now c.args.bytes.now
          ≡ Some c.in-Err.e)
          c.self.view_is c.in-Err.ensures.refused,
      refl,
    )

-- an entry that was accepted, and refused late
refused_late : {K : Type 0} (taken : K → Option (List ℕ)) (faults : K → ℕ) (old new : Writing K)
    (name content : List ℕ) (r : Result (Unit {0}) ContainerWriteError)
    → refusal old.failed old.entries name content ≡ None
    → IfErr r (RefusesLate taken faults old new name content)
    → IfErr r (Refuses taken faults old new name content)
refused_late taken faults old new name content (Ok x) fits late = tt
refused_late taken faults old new name content (Err e) fits late = inr (fits, late)

pub returns-in-Ok-Some-clause-refused : goal.returns-in-Ok-Some-clause-refused
returns-in-Ok-Some-clause-refused g c =
    let fits : refusal c.args.self.now.failed c.args.self.now.entries c.args.name.now
    c.args.bytes.now ≡ None = search rules in
    refused_late g.K.Sink.taken g.K.Sink.faults c.args.self.now c.put.new.self c.args.name.now
    c.args.bytes.now c.put.result fits c.put.ensures.late
