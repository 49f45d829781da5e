pub mod Fewer
pub mod KeptStore
pub mod LinesAfter
pub mod SinkLaws
pub mod Starts
pub mod StoreLaws
