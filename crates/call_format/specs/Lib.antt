-- What a format writes, area after area, and what it answers.
pub mod Areas
pub mod Numbers
