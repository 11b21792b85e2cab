pub mod Posed
pub mod Questions
pub mod Lists
pub mod QuestionLaws
