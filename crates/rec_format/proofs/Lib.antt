pub mod SuiteMaps
pub mod LastItem
pub mod PathPieces
pub mod VersionNumbers
pub mod WrittenVersion
pub mod SharedTexts
pub mod RunIdMaps
pub mod TextLaws
