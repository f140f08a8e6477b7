pub mod PieceLaws
pub mod LineLaws
pub mod OpenedLaws
pub mod WrittenLaws
pub mod BlockLaws
pub mod RecordLaws
