pub mod HeadLaws
pub mod Promises
