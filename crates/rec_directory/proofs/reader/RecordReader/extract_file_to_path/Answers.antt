use Rattle.rec_directory.proofs.KeptStore.{extracts_kept}
use Rattle.rec_directory.proofs.reader.RecordReader.extract_file_to_path.Goals as goal

pub returns-clause-answer : goal.returns-clause-answer
returns-clause-answer g c =
    extracts_kept g.D.Disk.files _ _ c.args.store_path.now c.args.self.now c.load.new.self
    c.kept.result.bytes.now c.extract.result c.load.ensures.same c.kept.ensures.store
    c.extract.ensures.answer
