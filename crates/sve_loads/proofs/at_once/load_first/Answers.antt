use Rattle.std.proofs.Common.{sym, ap, ◌∙◌, arith}
use Rattle.emu_model.specs.declared.trap.Effect.TheVariants.{Next}
use Rattle.emu_model.specs.Marks.{MarkedMemory}
use Rattle.active_lanes.proofs.Kept.{most_lanes}
use Rattle.sve_loads.proofs.AtOnce.{active_loaded, fits_register}
use Rattle.sve_loads.proofs.at_once.load_first.Goals as goal

pub load_lanes-requires-clause-few : goal.load_lanes-requires-clause-few
load_lanes-requires-clause-few c = fits_register c.args.e c.args.vec.now.bits c.args.n c.requires.size c.length-length.ensures.length c.requires.few

pub load_lanes-requires-clause-lanes : goal.load_lanes-requires-clause-lanes
load_lanes-requires-clause-lanes c = most_lanes c.args.e c.args.vec.now.bits c.args.n c.requires.size c.length-length.ensures.length c.requires.few

pub returns-clause-loaded : goal.returns-clause-loaded
returns-clause-loaded c = λ is.
    active_loaded c.args.base c.args.pg c.args.n c.args.zt c.args.rn c.args.e c.args.vec.now c.requires.size c.length-length.ensures.length c.requires.few
    c.requires.leading (omega (arith, c.get-number.ensures.small, c.get-number.ensures.value))
    c.args.core.now c.args.mem.now.memory c.load_lanes.new.vec c.load_lanes.new.log.items
    (c.is_aligned.ensures.aligned c.if-not-is_aligned.false) (c.load_lanes.ensures.allowed is) (c.load_lanes.ensures.bytes is) (c.load_lanes.ensures.loaded is) (c.load_lanes.ensures.logged is)
    ∙ ap (λ (x : MarkedMemory). record { core = c.args.core.now; vectors = c.load_lanes.new.vec; memory = x.memory; accesses = c.load_lanes.new.log.items; effect = Next }) (sym c.load_lanes.ensures.memory)
