pub mod ExportLaws
pub mod Exports
