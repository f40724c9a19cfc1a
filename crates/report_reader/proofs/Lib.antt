-- In the order of proof: parts of bytes, laws of readers, numbers, words of each form, lines, the text.
pub mod Joins
pub mod Laws
pub mod Loops
pub mod NumberLaws
pub mod WordLaws
pub mod LineWords
pub mod LineLaws
pub mod FaultLaws
pub mod AnswerLaws
pub mod DraftLaws
pub mod Pushes
pub mod Steps
pub mod PlainWords
pub mod Feeds
pub mod ReadBack
pub mod Exact
