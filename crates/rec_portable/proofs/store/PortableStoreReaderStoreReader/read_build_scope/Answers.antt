use Rattle.std.proofs.Common.{subst}
use Rattle.rec_format.specs.ScopeForms.{recorded_scope_form}
use Rattle.rec_store.specs.Entries.{build_scope_path}
use Rattle.rec_store.specs.Parts.{metadata_part}
use Rattle.rec_store.specs.Readers.{Reads}
use Rattle.rec_portable.proofs.store.PortableStoreReaderStoreReader.read_build_scope.Goals as goal
use Rattle.rec_portable.proofs.StoreParts.{answers_entries}
use Rattle.rec_portable.specs.Stores.{StoreReading}

pub returns-clause-answer : goal.returns-clause-answer
returns-clause-answer c =
    let read = subst (λ (v : StoreReading). Reads (λ x. x)
    (metadata_part recorded_scope_form build_scope_path v.entries v.limit) c.read_metadata.result)
    c.self.view_is c.read_metadata.ensures in
    answers_entries (λ x. x)
    (λ es. metadata_part recorded_scope_form build_scope_path es c.args.self.now.limit)
    c.args.self.now.entries c.read_metadata.result read
