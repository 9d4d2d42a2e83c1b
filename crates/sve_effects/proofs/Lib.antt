pub use Rattle.lane_model.proofs.Found
