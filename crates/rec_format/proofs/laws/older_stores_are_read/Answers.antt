use Rattle.rec_format.proofs.laws.older_stores_are_read.Goals as goal
use Rattle.rec_format.proofs.WrittenVersion.{older_read, newer_refused}

pub returns-clause-read : goal.returns-clause-read
returns-clause-read c = older_read

pub returns-clause-newer : goal.returns-clause-newer
returns-clause-newer c = newer_refused
