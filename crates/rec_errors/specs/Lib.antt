pub mod LineFaults
pub mod ReadingErrors
pub mod TraceFaults
