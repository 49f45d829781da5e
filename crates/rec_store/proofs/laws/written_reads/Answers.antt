use Rattle.rec_store.proofs.laws.written_reads.Goals as goal
use Rattle.rec_store.proofs.WrittenRuns.{read_has, read_reads}

pub returns-clause-parts : goal.returns-clause-parts
returns-clause-parts c = read_has

pub returns-clause-record : goal.returns-clause-record
returns-clause-record c = λ bytes p r has reads small. read_reads bytes p has small r reads
