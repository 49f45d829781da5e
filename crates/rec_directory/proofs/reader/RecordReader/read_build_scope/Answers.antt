use Rattle.std.proofs.Common.{List, Result, ℕ}
use Rattle.rec_container.specs.Container.{Entry}
use Rattle.rec_format.specs.declared.scope.RecordedBuildScope.{RecordedBuildScope}
use Rattle.rec_format.specs.ScopeForms.{recorded_scope_form}
use Rattle.rec_store.specs.declared.read_error.RecordReadError.{RecordReadError}
use Rattle.rec_store.specs.Entries.{build_scope_path}
use Rattle.rec_store.specs.Parts.{metadata_part}
use Rattle.rec_directory.proofs.KeptStore.{answers_kept}
use Rattle.rec_directory.proofs.reader.RecordReader.read_build_scope.Goals as goal

pub returns-clause-answer : goal.returns-clause-answer
returns-clause-answer g c =
    let show : RecordedBuildScope → RecordedBuildScope = λ x. x in
    let part : List Entry → ℕ → Result (RecordedBuildScope) RecordReadError =
    λ es limit. metadata_part recorded_scope_form build_scope_path es limit in
    let kept = c.kept.result in
    answers_kept g.D.Disk.files show part c.args.self.now c.load.new.self kept.bytes.now kept.limit
    c.metadata.result c.load.ensures.same c.kept.ensures.store c.kept.ensures.limit
    c.metadata.ensures.answer
