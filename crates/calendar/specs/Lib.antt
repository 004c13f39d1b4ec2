pub mod ReadingAt
