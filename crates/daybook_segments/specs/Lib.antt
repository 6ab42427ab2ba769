pub mod DaySegments
