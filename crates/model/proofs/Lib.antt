-- What follows. In reading order.
pub mod Cases
pub mod BelowLaws
pub mod OrderLaws
pub mod BitLaws
pub mod PatternLaws
pub mod PolicyLaws
pub mod RoundLaws
pub mod Isolation
pub mod SmallPolicy
pub mod IsolateLaws
pub mod BestLoop
