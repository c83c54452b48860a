-- Laws of forming, in any reading.
pub mod Judged
pub mod Kept
pub mod Loop
pub mod Page
pub mod Seal
pub mod FormedWell
pub mod Taken
pub mod TwoReadings
pub mod Parts
pub mod SameBlock
pub mod ShortList
