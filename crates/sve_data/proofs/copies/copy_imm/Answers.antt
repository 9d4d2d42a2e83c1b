use Rattle.std.proofs.Common.{ℕ, ap, ◌∙◌}
use Rattle.sve_effects.specs.VectorData.{merging_or_zeroing, wide_signed}
use Rattle.sve_data.proofs.copies.copy_imm.Goals as goal

pub returns : goal.returns
returns c =
    c.copied.ensures
    ∙ ap (λ (n : ℕ). merging_or_zeroing c.args.m c.lane_bits-e.result c.args.pg (λ _. n) c.args.zd c.args.vec.now) c.wide_signed-n.ensures
    ∙ ap (λ (e : ℕ). merging_or_zeroing c.args.m e c.args.pg (λ _. wide_signed e c.args.sh c.args.imm8) c.args.zd c.args.vec.now) c.lane_bits-e.ensures.value
