pub mod Acknowledgements
pub mod Faults
pub mod Finished
pub mod LineReading
pub mod Live
pub mod Recorder
pub mod Refusals
pub mod Session
