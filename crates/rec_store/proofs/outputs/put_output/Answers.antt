use Rattle.std.proofs.Common.{◌≡◌, List, ℕ, [], ◌∷◌, ◌∙◌, subst}
use Rattle.rec_container.specs.Writing.{entry_named}
use Rattle.rec_store.proofs.outputs.put_output.Goals as goal
use Rattle.rec_store.proofs.PathLengths.{path_fits}
use Rattle.rec_store.proofs.Stopped.{one_stored}
use Rattle.rec_store.specs.OutputPaths.{output_path}
use Rattle.rec_store.specs.Stopping.{StoresAs}

pub add_entry-requires-clause-name : goal.add_entry-requires-clause-name
add_entry-requires-clause-name g c =
    rw (c.as_str.ensures.value, c.in_ok-path.ensures) (path_fits c.args.file_name)

pub returns : goal.returns
returns g c =
    let path : c.as_str.result.now ≡ output_path c.args.file_name =
    c.as_str.ensures.value ∙ c.in_ok-path.ensures in
    let stored = one_stored g.S.Sink.taken g.S.Sink.faults c.args.store.now c.add_entry.new.store
    (entry_named c.as_str.result.now c.args.content.now)
    c.add_entry.result c.add_entry.ensures.ok c.add_entry.ensures.sound c.add_entry.ensures.err in
    subst (λ (p : List ℕ). StoresAs g.S.Sink.taken g.S.Sink.faults c.args.store.now
    c.add_entry.new.store (entry_named p c.args.content.now ∷ []) tt c.add_entry.result)
    path stored
