pub mod UnitSteps
pub mod ChoiceSteps
