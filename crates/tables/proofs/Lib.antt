pub mod TableLaws
pub mod ReporterLaws
pub mod CurrencyLaws
pub mod CodeLaws
pub mod FlawLaws
