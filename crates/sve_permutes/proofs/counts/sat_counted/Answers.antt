use Rattle.std.proofs.Common.{◌≡◌, ◌∙◌, ◌%◌, ◌^◌, ℕ, Bool, ap₂, sym}
use Rattle.sve_effects.specs.declared.lane_functions.LaneOp.{LaneOp}
use Rattle.sve_effects.specs.Counts.{saturating}
use Rattle.sve_effects.specs.Lane.{lane_op, extended_by}
use Rattle.sve_permutes.proofs.counts.sat_counted.Goals as goal

pub returns-then-saturates_signed : goal.returns-then-saturates_signed
returns-then-saturates_signed c =
    let made : c.apply-result.result ≡ lane_op (saturating c.args.op).0 c.args.w (c.args.x % 2 ^ c.args.w) c.args.count
    = c.apply-result.ensures.value ∙ ap₂ (λ (op : LaneOp) (y : ℕ). lane_op op c.args.w y c.args.count) c.sat_lane_op.ensures c.low_bits.ensures.value in
    c.sign_extended.ensures.value ∙ ap₂ (λ (s : Bool) (y : ℕ). extended_by s 64 c.args.w y) (sym c.if-saturates_signed.true ∙ c.saturates_signed.ensures) made

pub returns-else-saturates_signed : goal.returns-else-saturates_signed
returns-else-saturates_signed c =
    let made : c.apply-result.result ≡ lane_op (saturating c.args.op).0 c.args.w (c.args.x % 2 ^ c.args.w) c.args.count
    = c.apply-result.ensures.value ∙ ap₂ (λ (op : LaneOp) (y : ℕ). lane_op op c.args.w y c.args.count) c.sat_lane_op.ensures c.low_bits.ensures.value in
    ap₂ (λ (s : Bool) (y : ℕ). extended_by s 64 c.args.w y) (sym c.if-saturates_signed.false ∙ c.saturates_signed.ensures) made
