use Rattle.std.proofs.Common.{◌≡◌, ◌≤◌, ◌*◌, None, take, length, sym, ap, subst, ◌∙◌, arith}
use Rattle.std.proofs.lemmas.List.{get_or-take, length-take}
use Rattle.emu_model.specs.declared.access.Kind.TheVariants.{Read}
use Rattle.emu_model.specs.Access.{refused}
use Rattle.emu_model.specs.Pages.{bytes_at}
use Rattle.element_loops.specs.declared.plan.Target.{Target}
use Rattle.element_loops.specs.Layouts.{layout_of}
use Rattle.element_loops.specs.Planned.{loaded_by}
use Rattle.element_loops.proofs.Lines.{line_reached, line_loaded}
use Rattle.element_loops.proofs.RunLoads.{same_bytes}
use Rattle.element_loops.proofs.line.take_across.Goals as goal

pub returns-clause-loaded : goal.returns-clause-loaded
returns-clause-loaded c = λ is.
    let free : refused c.args.mem.now.memory c.args.line.now.base (c.args.plan.now.lanes * c.args.plan.now.registers * c.args.plan.now.bytes) Read ≡ None
    = subst (λ n. refused c.args.mem.now.memory c.args.line.now.base n Read ≡ None) c.total_bytes-total.ensures (c.joined.ensures.allowed c.if-not-joined.false) in
    record {
      reached = line_reached c.args.line.now.base c.args.line.now.pg c.args.line.now.whole c.args.plan.now c.args.vec.now c.requires.line c.args.mem.now.memory Read free;
      logged = c.take_bytes.ensures.logged;
    }

pub returns-clause-registers : goal.returns-clause-registers
returns-clause-registers c = λ is.
    let total : c.total_bytes-total.result ≡ c.args.plan.now.lanes * c.args.plan.now.registers * c.args.plan.now.bytes = c.total_bytes-total.ensures in
    let few : c.total_bytes-total.result ≤ length c.joined.new.bytes = omega (arith, c.joined.ensures.long, c.if-total-gt1024.false) in
    let long : length (take c.total_bytes-total.result c.joined.new.bytes) ≡ c.total_bytes-total.result = omega (arith, few, length-take c.total_bytes-total.result c.joined.new.bytes) in
    line_loaded c.args.line.now.base c.args.line.now.pg c.args.line.now.whole c.args.plan.now c.args.vec.now c.requires.line c.args.mem.now.memory (take c.total_bytes-total.result c.joined.new.bytes) c.take_bytes.new.vec
    (same_bytes c.args.mem.now.memory c.args.line.now.base c.total_bytes-total.result (take c.total_bytes-total.result c.joined.new.bytes) long
    (λ j b. get_or-take c.total_bytes-total.result c.joined.new.bytes j 0 b ∙ c.joined.ensures.bytes c.if-not-joined.false j b)
    ∙ ap (λ n. bytes_at c.args.mem.now.memory c.args.line.now.base n) total) c.take_bytes.ensures.registers
    ∙ ap (λ (t : Target). loaded_by t c.args.plan.now.is_signed (layout_of c.args.plan.now c.args.vec.now) c.args.mem.now.memory c.args.vec.now) (sym c.requires.target)
