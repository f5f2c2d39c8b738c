pub mod Words
pub mod Numbers
pub mod Remarks
pub mod WordLaws
pub mod SameWords
pub mod LineLaws
pub mod Answers
