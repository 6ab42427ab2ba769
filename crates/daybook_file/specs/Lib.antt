pub mod DayFile
