pub use Rattle.am_labels.specs.LabelSets
pub use Rattle.am_alert.specs.Alerts
pub use Rattle.am_alert.specs.Merging
pub mod Keyed
pub mod inside
