use Rattle.std.proofs.Common.{Global, List, Result, Vec, ℕ}
use Rattle.std.proofs.lemmas.Result.{err_from_is_err_and}
use Rattle.rec_container.specs.Container.{Entry}
use Rattle.rec_store.specs.declared.read_error.RecordReadError.{RecordReadError}
use Rattle.rec_store.specs.Parts.{output_part}
use Rattle.rec_directory.proofs.store_parts.StoreBytes.output.Goals as goal
use Rattle.rec_directory.proofs.StoreLaws.{container_answers, part_judges}
use Rattle.rec_directory.proofs.StoreLaws.{unparsed_answers, unparsed_judges}
use Rattle.rec_directory.specs.Paths.{path_of_store}

pub returns-in_err-entries-clause-answer : goal.returns-in_err-entries-clause-answer
returns-in_err-entries-clause-answer c =
    let p = err_from_is_err_and c.from_residual.result c.from_residual.ensures.1 in
    let path = path_of_store c.args.self.now.run_dir.now in
    let bytes = c.args.self.now.bytes.now in
    let show : Vec ℕ Global → List ℕ = λ v. v.items in
    let part : List Entry → Result (List ℕ) RecordReadError =
    λ es. output_part c.args.file_name.now es c.args.self.now.limit in
    rw (p.1, p.2)
    (unparsed_answers path bytes show part c.in_err-entries.field-0.0 c.in_err-entries.ensures.err)

pub returns-in_err-entries-clause-judged : goal.returns-in_err-entries-clause-judged
returns-in_err-entries-clause-judged c =
    let p = err_from_is_err_and c.from_residual.result c.from_residual.ensures.1 in
    let path = path_of_store c.args.self.now.run_dir.now in
    let bytes = c.args.self.now.bytes.now in
    rw (p.1, p.2)
    (unparsed_judges path bytes c.in_err-entries.field-0.0 c.in_err-entries.ensures.err)

pub returns-clause-answer : goal.returns-clause-answer
returns-clause-answer c =
    let path = path_of_store c.args.self.now.run_dir.now in
    let bytes = c.args.self.now.bytes.now in
    let show : Vec ℕ Global → List ℕ = λ v. v.items in
    let part : List Entry → Result (List ℕ) RecordReadError =
    λ es. output_part c.args.file_name.now es c.args.self.now.limit in
    container_answers path bytes show part c.in_ok-entries.entries.entries c.read_output.result
    c.in_ok-entries.ensures.ok c.read_output.ensures

pub returns-clause-judged : goal.returns-clause-judged
returns-clause-judged c =
    let path = path_of_store c.args.self.now.run_dir.now in
    let bytes = c.args.self.now.bytes.now in
    let show : Vec ℕ Global → List ℕ = λ v. v.items in
    let part : List Entry → Result (List ℕ) RecordReadError =
    λ es. output_part c.args.file_name.now es c.args.self.now.limit in
    part_judges path bytes show (part c.in_ok-entries.entries.entries)
    c.in_ok-entries.entries.entries c.read_output.result c.in_ok-entries.ensures.ok
    c.read_output.ensures
