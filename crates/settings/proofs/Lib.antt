pub mod ModeLaws
pub mod ThresholdLaws
