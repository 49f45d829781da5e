use Rattle.rec_store.proofs.EqualContents.{one_entry, two_entries}
use Rattle.rec_store.proofs.laws.equal_outputs_share_an_entry.Goals as goal

pub returns-clause-one : goal.returns-clause-one
returns-clause-one c = one_entry

pub returns-clause-two : goal.returns-clause-two
returns-clause-two c = two_entries
