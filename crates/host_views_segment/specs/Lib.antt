pub mod SegmentViews
