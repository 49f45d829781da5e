use Rattle.std.proofs.Common.{List, Option, Result, ℕ}
use Rattle.rec_container.specs.Container.{Entry}
use Rattle.rec_format.specs.declared.rerun.RerunInfo.{RerunInfo}
use Rattle.rec_store.specs.declared.read_error.RecordReadError.{RecordReadError}
use Rattle.rec_store.specs.Parts.{rerun_info_part}
use Rattle.rec_directory.proofs.KeptStore.{answers_kept}
use Rattle.rec_directory.proofs.reader.RecordReader.read_rerun_info.Goals as goal

pub returns-clause-answer : goal.returns-clause-answer
returns-clause-answer g c =
    let show : Option RerunInfo → Option RerunInfo = λ x. x in
    let part : List Entry → ℕ → Result (Option RerunInfo) RecordReadError =
    λ es limit. rerun_info_part es limit in
    let kept = c.kept.result in
    answers_kept g.D.Disk.files show part c.args.self.now c.load.new.self kept.bytes.now kept.limit
    c.rerun_info.result c.load.ensures.same c.kept.ensures.store c.kept.ensures.limit
    c.rerun_info.ensures.answer
