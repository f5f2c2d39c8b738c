pub mod EndLaws
pub mod IntervalLaws
pub mod IvLaws
pub mod Zeros
