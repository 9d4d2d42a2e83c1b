use Rattle.std.proofs.Common.{◌≡◌, ◌*◌, None, sym, ap, subst, ◌∙◌}
use Rattle.emu_model.specs.declared.access.Kind.TheVariants.{Read}
use Rattle.emu_model.specs.Access.{refused}
use Rattle.emu_model.specs.Pages.{bytes_at}
use Rattle.guest_mem.specs.Slices.{to_page_end}
use Rattle.element_loops.specs.declared.plan.Target.{Target}
use Rattle.element_loops.specs.Layouts.{layout_of}
use Rattle.element_loops.specs.Planned.{loaded_by}
use Rattle.element_loops.proofs.Lines.{line_reached, line_loaded}
use Rattle.element_loops.proofs.line.take_line.Goals as goal

pub returns-in-Some-clause-loaded : goal.returns-in-Some-clause-loaded
returns-in-Some-clause-loaded c = λ is.
    let count : to_page_end c.args.line.now.base c.total_bytes-total.result ≡ c.args.plan.now.lanes * c.args.plan.now.registers * c.args.plan.now.bytes
    = sym c.in-Some.ensures.length ∙ c.if-bytes-total.true ∙ c.total_bytes-total.ensures in
    let free : refused c.args.mem.now.memory c.args.line.now.base (c.args.plan.now.lanes * c.args.plan.now.registers * c.args.plan.now.bytes) Read ≡ None
    = subst (λ n. refused c.args.mem.now.memory c.args.line.now.base n Read ≡ None) count c.in-Some.ensures.allowed in
    record {
      reached = line_reached c.args.line.now.base c.args.line.now.pg c.args.line.now.whole c.args.plan.now c.args.vec.now c.requires.line c.args.mem.now.memory Read free;
      logged = c.take_bytes.ensures.logged;
    }

pub returns-in-Some-clause-registers : goal.returns-in-Some-clause-registers
returns-in-Some-clause-registers c = λ is.
    let count : to_page_end c.args.line.now.base c.total_bytes-total.result ≡ c.args.plan.now.lanes * c.args.plan.now.registers * c.args.plan.now.bytes
    = sym c.in-Some.ensures.length ∙ c.if-bytes-total.true ∙ c.total_bytes-total.ensures in
    line_loaded c.args.line.now.base c.args.line.now.pg c.args.line.now.whole c.args.plan.now c.args.vec.now c.requires.line c.args.mem.now.memory c.in-Some.bytes.now c.take_bytes.new.vec
    (c.in-Some.ensures.bytes ∙ ap (λ n. bytes_at c.args.mem.now.memory c.args.line.now.base n) count) c.take_bytes.ensures.registers
    ∙ ap (λ (t : Target). loaded_by t c.args.plan.now.is_signed (layout_of c.args.plan.now c.args.vec.now) c.args.mem.now.memory c.args.vec.now) (sym c.requires.target)
