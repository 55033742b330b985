pub mod PartLaws
pub mod FrontLaws
pub mod PieceLaws
