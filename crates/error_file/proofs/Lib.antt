pub mod PieceLaws
pub mod ErrorLaws
pub mod ReadBack
