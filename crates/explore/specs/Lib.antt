pub mod Explored
pub mod Courses
pub mod Searching
pub mod SearchLaws
pub mod QuietFirst
pub mod Meeting
pub mod inside
