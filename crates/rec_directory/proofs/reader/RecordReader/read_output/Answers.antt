use Rattle.std.proofs.Common.{Global, List, Result, Vec, ℕ}
use Rattle.rec_container.specs.Container.{Entry}
use Rattle.rec_store.specs.declared.read_error.RecordReadError.{RecordReadError}
use Rattle.rec_store.specs.Parts.{output_part}
use Rattle.rec_directory.proofs.KeptStore.{answers_kept}
use Rattle.rec_directory.proofs.reader.RecordReader.read_output.Goals as goal

pub returns-clause-answer : goal.returns-clause-answer
returns-clause-answer g c =
    let show : Vec ℕ Global → List ℕ = λ v. v.items in
    let part : List Entry → ℕ → Result (List ℕ) RecordReadError =
    λ es limit. output_part c.args.file_name.now es limit in
    let kept = c.kept.result in
    answers_kept g.D.Disk.files show part c.args.self.now c.load.new.self kept.bytes.now kept.limit
    c.output.result c.load.ensures.same c.kept.ensures.store c.kept.ensures.limit
    c.output.ensures.answer
