use Rattle.std.proofs.Common.{List, Result, ℕ}
use Rattle.rec_container.specs.Container.{Entry}
use Rattle.rec_events.specs.declared.recording.TestListSummary.{TestListSummary}
use Rattle.rec_forms.specs.Recording.{test_list_form}
use Rattle.rec_store.specs.declared.read_error.RecordReadError.{RecordReadError}
use Rattle.rec_store.specs.Entries.{test_list_path}
use Rattle.rec_store.specs.Parts.{metadata_part}
use Rattle.rec_directory.proofs.KeptStore.{answers_kept}
use Rattle.rec_directory.proofs.reader.RecordReader.read_test_list.Goals as goal

pub returns-clause-answer : goal.returns-clause-answer
returns-clause-answer g c =
    let show : TestListSummary → TestListSummary = λ x. x in
    let part : List Entry → ℕ → Result (TestListSummary) RecordReadError =
    λ es limit. metadata_part test_list_form test_list_path es limit in
    let kept = c.kept.result in
    answers_kept g.D.Disk.files show part c.args.self.now c.load.new.self kept.bytes.now kept.limit
    c.metadata.result c.load.ensures.same c.kept.ensures.store c.kept.ensures.limit
    c.metadata.ensures.answer
