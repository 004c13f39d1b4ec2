pub mod Enquiring
pub mod Counting
pub mod Staying
pub mod StepByAnswers
pub mod Amended
pub mod AsAmended
pub mod TwoSurveys
