pub mod Answers
pub mod Counting
pub mod Replay
pub mod Code
pub mod Turn
pub mod ReplayMistakes
