use Rattle.std.proofs.Common.{◌≡◌, ◌≤◌, ◌+◌, ◌*◌, ◌++◌, ℕ, None, true, take, length, refl, ap, subst, ◌∙◌, arith}
use Rattle.std.proofs.lemmas.List.{length-take}
use Rattle.emu_model.specs.declared.access.Access.{Access}
use Rattle.emu_model.specs.declared.access.Kind.TheVariants.{Write}
use Rattle.emu_model.specs.Access.{address, refused}
use Rattle.emu_model.specs.Elements.{Element}
use Rattle.emu_model.specs.Lists.{each}
use Rattle.emu_model.specs.Pages.{with_bytes}
use Rattle.element_loops.specs.Layouts.{layout_of}
use Rattle.element_loops.specs.Planned.{stored_by}
use Rattle.element_loops.proofs.Lines.{all_stored}
use Rattle.element_loops.proofs.line_store.store_all.Goals as goal

pub push_run-requires : goal.push_run-requires
push_run-requires c = let none : length c.args.log.now.items ≡ 0 = ap length c.requires.empty in omega (arith, none, c.most_elements.ensures.most)

pub returns-then-put_over-clause-stored : goal.returns-then-put_over-clause-stored
returns-then-put_over-clause-stored c = λ is.
    let f : Element → ℕ = stored_by c.args.plan.now.target (layout_of c.args.plan.now c.args.vec.now) c.args.vec.now in
    let total : c.total_bytes-total.result ≡ c.args.plan.now.lanes * c.args.plan.now.registers * c.args.plan.now.bytes = c.total_bytes-total.ensures in
    let few : c.total_bytes-total.result ≤ length c.fill.new.bytes = omega (arith, c.if-total-gt1024.false, c.fill.ensures.long) in
    let count : length (take c.total_bytes-total.result c.fill.new.bytes) ≡ c.args.plan.now.lanes * c.args.plan.now.registers * c.args.plan.now.bytes
    = omega (arith, length-take c.total_bytes-total.result c.fill.new.bytes, few, total) in
    let free : refused c.args.mem.now.memory c.args.line.now.base (c.args.plan.now.lanes * c.args.plan.now.registers * c.args.plan.now.bytes) Write ≡ None
    = subst (λ n. refused c.args.mem.now.memory c.args.line.now.base n Write ≡ None) count (c.if-put_over.ensures.allowed refl) in
    all_stored c.args.line.now.base c.args.line.now.pg c.args.line.now.whole c.args.plan.now c.args.vec.now c.requires.line f c.args.mem.now.memory c.fill.new.bytes c.requires.plan.most free (omega (arith, few, total)) c.fill.ensures.filled
    (c.are_all_on.ensures c.if-not-are_all_on.false) c.put_over.new.mem.memory c.args.log.now.items c.push_run.new.self.items c.requires.empty
    (c.if-put_over.ensures.written refl ∙ ap (λ n. with_bytes c.args.mem.now.memory c.args.line.now.base (take n c.fill.new.bytes)) total)
    (c.push_run.ensures.items ∙ ap (λ n. c.args.log.now.items ++ each n (λ (i : ℕ). let x : Access = record { address = address (c.args.line.now.base + i * c.args.plan.now.bytes); bytes = c.args.plan.now.bytes; write = true } in x)) c.most_elements.ensures.value)
