use Rattle.std.proofs.Common.{subst, string_bytes}
use Rattle.rec_store.specs.Entries.{cargo_metadata_path}
use Rattle.rec_store.specs.Parts.{utf8_part}
use Rattle.rec_store.specs.Readers.{Reads}
use Rattle.rec_portable.proofs.store.PortableStoreReaderStoreReader.read_cargo_metadata.Goals
    as goal
use Rattle.rec_portable.proofs.StoreParts.{answers_entries}
use Rattle.rec_portable.specs.Stores.{StoreReading}

pub returns-clause-answer : goal.returns-clause-answer
returns-clause-answer c =
    let read = subst (λ (v : StoreReading).
    Reads string_bytes (utf8_part cargo_metadata_path v.entries v.limit) c.read_text_entry.result)
    c.self.view_is c.read_text_entry.ensures in
    answers_entries string_bytes (λ es. utf8_part cargo_metadata_path es c.args.self.now.limit)
    c.args.self.now.entries c.read_text_entry.result read
