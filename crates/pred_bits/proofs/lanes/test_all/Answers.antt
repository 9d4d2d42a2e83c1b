use Rattle.std.proofs.Common.{◌-◌, not, is_none, Option, ℕ, length, ap, ◌∙◌}
use Rattle.emu_bits.specs.Flags.{size_of}
use Rattle.lane_model.specs.Bits.{active}
use Rattle.pred_bits.proofs.AllActive.{all_tested, none_is}
use Rattle.pred_bits.proofs.lanes.test_all.Goals as goal

pub returns : goal.returns
returns c =
    all_tested c.args.e (length c.args.a.now) c.args.a.now c.requires c.lane.result c.is_none.result (not c.lane-2.result)
    c.lane.ensures
    (none_is c.first_set.result c.is_none.result c.is_none.ensures ∙ ap (λ (o : Option ℕ). is_none o) c.first_set.ensures.value)
    (ap not (c.lane-2.ensures ∙ ap (λ n. active (size_of c.args.e) c.args.a.now (n - 1)) c.lanes.ensures.value))
