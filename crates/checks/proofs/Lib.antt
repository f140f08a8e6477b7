pub mod RecordLaws
pub mod PassedLaws
pub mod VerdictLaws
