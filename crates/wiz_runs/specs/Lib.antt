pub mod Demos
pub mod Pictures
pub mod RaceOrders
pub mod RecordFiles
pub mod Runs
pub mod StuckRuns
pub mod inside
