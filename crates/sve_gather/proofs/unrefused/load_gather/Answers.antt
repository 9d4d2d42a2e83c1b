use Rattle.std.proofs.Common.{◌<◌, ◌/◌, ◌≡◌, ap, subst}
use Rattle.emu_model.specs.Marks.{MarkedMemory}
use Rattle.element_loops.specs.declared.plan.Target.{Target}
use Rattle.element_loops.specs.Layouts.{IsTarget}
use Rattle.sve_gather.proofs.Plain.{plain_is}
use Rattle.sve_gather.proofs.unrefused.load_gather.Goals as goal

pub returns-clause-loaded : goal.returns-clause-loaded
returns-clause-loaded c = λ is.
    let lanes : c.args.plan.now.lanes ≡ c.args.vec.now.bits / c.args.plan.now.bits = subst (λ (t : Target). IsTarget t c.args.plan.now c.args.vec.now) c.requires.gather.target c.requires.plan.target in
    let small : c.args.plan.now.register < 32 = subst (λ n. n < 32) c.get-number.ensures.value c.get-number.ensures.small in
    plain_is c.args.plan.now c.args.core.now c.args.vec.now c.load_unrefused.new.vec c.args.mem.now.memory c.load_unrefused.new.mem.memory c.load_unrefused.new.log.items
    c.requires.gather.target c.requires.gather.one small c.requires.plan.size c.length-length.ensures.length lanes (c.is_plain.ensures.aligned c.if-not-is_plain.false) (c.is_plain.ensures.full c.if-not-is_plain.false)
    (c.load_unrefused.ensures.loaded is) (c.load_unrefused.ensures.registers is) (ap (λ (m : MarkedMemory). m.memory) c.load_unrefused.ensures.memory)
