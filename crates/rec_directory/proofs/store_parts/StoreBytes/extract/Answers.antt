use Rattle.std.proofs.Common.{refl}
use Rattle.std.proofs.lemmas.Result.{err_from_is_err_and}
use Rattle.rec_directory.proofs.SinkLaws.{container_extracts, extract_judges, unparsed_extracts}
use Rattle.rec_directory.proofs.store_parts.StoreBytes.extract.Goals as goal
use Rattle.rec_directory.proofs.StoreLaws.{unparsed_judges}
use Rattle.rec_directory.specs.Paths.{path_of_store}

pub returns-in_err-entries-clause-answer : goal.returns-in_err-entries-clause-answer
returns-in_err-entries-clause-answer g c =
    let p = err_from_is_err_and c.from_residual.result c.from_residual.ensures.1 in
    rw (p.1, p.2)
    (unparsed_extracts (path_of_store c.args.self.now.run_dir.now) c.args.self.now.bytes.now _ _
    c.args.path.now c.in_err-entries.field-0.0 refl c.in_err-entries.ensures.err)

pub returns-in_err-entries-clause-judged : goal.returns-in_err-entries-clause-judged
returns-in_err-entries-clause-judged g c =
    let p = err_from_is_err_and c.from_residual.result c.from_residual.ensures.1 in
    rw (p.1, p.2) (unparsed_judges (path_of_store c.args.self.now.run_dir.now)
    c.args.self.now.bytes.now c.in_err-entries.field-0.0 c.in_err-entries.ensures.err)

pub returns-clause-answer : goal.returns-clause-answer
returns-clause-answer g c =
    container_extracts (path_of_store c.args.self.now.run_dir.now)
    c.args.self.now.bytes.now _ _ c.args.path.now c.in_ok-entries.entries.entries
    c.extract_entry.result c.in_ok-entries.ensures.ok c.extract_entry.ensures.answer

pub returns-clause-judged : goal.returns-clause-judged
returns-clause-judged g c =
    extract_judges (path_of_store c.args.self.now.run_dir.now) c.args.self.now.bytes.now _ _
    c.args.path.now c.in_ok-entries.entries.entries c.extract_entry.result
    c.in_ok-entries.ensures.ok c.extract_entry.ensures.answer c.extract_entry.ensures.disk
