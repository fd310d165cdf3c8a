pub mod Meant
pub mod Model
pub mod Answers
pub mod Keys
pub mod Candidates
