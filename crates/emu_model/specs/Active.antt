-- Active lanes, as `lane_model` has them.
pub use Rattle.lane_model.specs.Bits.{active}
