use Rattle.std.proofs.Common.{sym, ap, subst, ◌∙◌, arith}
use Rattle.emu_model.specs.declared.access.Kind.TheVariants.{Read}
use Rattle.emu_model.specs.Access.{refused, value}
use Rattle.emu_model.specs.Marks.{MarkedMemory}
use Rattle.emu_model.specs.SoundState.{IsSoundMemory}
use Rattle.a64_flow.proofs.Couples.{couple_loaded, done_is}
use Rattle.a64_flow.proofs.moves.LoadTwoMoves.moved.Goals as goal

pub returns-in-Ok-clause-done : goal.returns-in-Ok-clause-done
returns-in-Ok-clause-done c = λ _.
    let m = c.args.mem.now.memory in
    let a = c.args.address in
    let was = done_is (refused m a 16 Read) Read c.in-Ok.v (value m a 16) (sym c.in-Ok.is ∙ c.load.ensures.value) in
    couple_loaded m a c.ranges.address.fits (omega (arith, c.if-address.false)) c.args.self.t c.args.self.u c.args.n c.args.core.now (sym c.is_tilted.ensures ∙ c.if-is_tilted.false) c.set_run.new.self.items
    (subst (λ (x : MarkedMemory). IsSoundMemory x.memory) c.pages.ensures c.mapped-mapped.ensures.sound) was.0 c.in-Ok.v was.1 c.set_target.new.self c.set_target-in-Ok.new.self c.set_target.ensures c.set_target-in-Ok.ensures c.load.new.self.memory (ap (λ (x : MarkedMemory). x.memory) c.load.ensures.unchanged) c.set_run.ensures.items
