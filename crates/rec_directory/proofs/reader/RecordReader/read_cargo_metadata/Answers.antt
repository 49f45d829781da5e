use Rattle.std.proofs.Common.{Global, List, Result, String, string_bytes, ℕ}
use Rattle.rec_container.specs.Container.{Entry}
use Rattle.rec_store.specs.declared.read_error.RecordReadError.{RecordReadError}
use Rattle.rec_store.specs.Entries.{cargo_metadata_path}
use Rattle.rec_store.specs.Parts.{utf8_part}
use Rattle.rec_directory.proofs.KeptStore.{answers_kept}
use Rattle.rec_directory.proofs.reader.RecordReader.read_cargo_metadata.Goals as goal

pub returns-clause-answer : goal.returns-clause-answer
returns-clause-answer g c =
    let show : String Global → List ℕ = string_bytes in
    let part : List Entry → ℕ → Result (List ℕ) RecordReadError =
    λ es limit. utf8_part cargo_metadata_path es limit in
    let kept = c.kept.result in
    answers_kept g.D.Disk.files show part c.args.self.now c.load.new.self kept.bytes.now kept.limit
    c.text.result c.load.ensures.same c.kept.ensures.store c.kept.ensures.limit
    c.text.ensures.answer
