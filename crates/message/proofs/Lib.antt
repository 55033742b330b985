pub mod FieldSteps
pub mod CarriedSteps
pub mod SummaryLaws
pub mod HandingOut
