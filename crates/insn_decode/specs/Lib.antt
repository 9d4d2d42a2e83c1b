pub mod Words
pub mod OneRow
pub mod Known
