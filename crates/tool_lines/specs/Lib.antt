pub mod CountedWords
pub mod ToolLine
pub mod SameWords
