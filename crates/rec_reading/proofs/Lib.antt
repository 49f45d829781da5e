pub mod Carried
pub mod Entries
pub mod EventsRead
pub mod Lent
pub mod Listed
mod LogRead
pub mod Opened
pub mod Printed
pub mod Registered
pub mod Reported
pub mod RerunRead
pub mod ManifestListed
mod SlotsRead
mod StoreEntries
mod OutputsPrinted
mod ViewRead
