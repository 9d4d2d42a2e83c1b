use Rattle.std.proofs.Common.{◌≡◌, ◌≤◌, ◌*◌, ℕ, false, List, length, None, sym, ap, subst, ◌∙◌, arith}
use Rattle.emu_model.specs.declared.access.Kind.TheVariants.{Read}
use Rattle.emu_model.specs.Access.{refused}
use Rattle.emu_model.specs.Pages.{bytes_at}
use Rattle.guest_mem.specs.Slices.{to_page_end}
use Rattle.emu_model.specs.Lanes.{with_z}
use Rattle.vec_regs.proofs.Views.{zero_word}
use Rattle.sve_effects.specs.VectorLoadStore.{loaded_lane}
use Rattle.active_lanes.specs.Placed.{lane_at}
use Rattle.element_loops.specs.declared.plan.Target.{Target}
use Rattle.element_loops.specs.Layouts.{IsRepeated, IsTarget, layout_of}
use Rattle.element_loops.specs.Planned.{loaded_by}
use Rattle.active_lanes.specs.Kept.{is_kept}
use Rattle.element_loops.proofs.Lines.{line_reached}
use Rattle.element_loops.proofs.Repeats.{quad_room, quad_lane, repeated_bytes}
use Rattle.element_loops.proofs.repeated.take_first.Goals as goal

pub put_words-requires-clause-room : goal.put_words-requires-clause-room
put_words-requires-clause-room c = λ k b.
    let repeated : IsRepeated c.args.plan.now = subst (λ (t : Target). IsTarget t c.args.plan.now c.args.vec.now) c.requires.target c.requires.plan.target in
    quad_room c.args.plan.now k (length c.in-Some.bytes.now) c.requires.plan.size repeated.lanes repeated.one (omega (arith, c.if-bytes-total.true, c.total_bytes-total.ensures)) b

pub set_z_words-requires : goal.set_z_words-requires
set_z_words-requires c = λ k h.
    let few : 2 ≤ k = omega (arith, h, c.length.ensures.length.least) in
    c.repeat_first.ensures.above k (omega (arith, h, c.bits-count.ensures.value, c.length.ensures.value)) ∙ c.keep_active.ensures.above k few ∙ c.put_words.ensures.above k few ∙ zero_word 32 k

pub returns-in-Some-clause-loaded : goal.returns-in-Some-clause-loaded
returns-in-Some-clause-loaded c = λ is.
    let count : to_page_end c.args.line.now.base c.total_bytes-total.result ≡ c.args.plan.now.lanes * c.args.plan.now.registers * c.args.plan.now.bytes
    = sym c.in-Some.ensures.length ∙ c.if-bytes-total.true ∙ c.total_bytes-total.ensures in
    let free : refused c.args.mem.now.memory c.args.line.now.base (c.args.plan.now.lanes * c.args.plan.now.registers * c.args.plan.now.bytes) Read ≡ None
    = subst (λ n. refused c.args.mem.now.memory c.args.line.now.base n Read ≡ None) count c.in-Some.ensures.allowed in
    record {
      reached = line_reached c.args.line.now.base c.args.line.now.pg c.args.line.now.whole c.args.plan.now c.args.vec.now c.requires.line c.args.mem.now.memory Read free;
      logged = c.note.ensures;
    }

pub returns-in-Some-clause-registers : goal.returns-in-Some-clause-registers
returns-in-Some-clause-registers c = λ is.
    let repeated : IsRepeated c.args.plan.now = subst (λ (t : Target). IsTarget t c.args.plan.now c.args.vec.now) c.requires.target c.requires.plan.target in
    let count : to_page_end c.args.line.now.base c.total_bytes-total.result ≡ c.args.plan.now.lanes * c.args.plan.now.registers * c.args.plan.now.bytes
    = sym c.in-Some.ensures.length ∙ c.if-bytes-total.true ∙ c.total_bytes-total.ensures in
    c.set_z_words.ensures
    ∙ ap (λ (bs : List ℕ). with_z c.args.vec.now c.args.plan.now.register bs)
    (repeated_bytes c.args.plan.now.bits c.args.plan.now.lanes c.args.vec.now.bits (is_kept 0 c.args.line.now.pg c.args.plan.now.bits c.args.vec.now)
    (lane_at c.args.plan.now.is_signed c.args.plan.now.bits c.args.plan.now.bytes c.in-Some.bytes.now 0 c.args.plan.now.bytes) (loaded_lane false (layout_of c.args.plan.now c.args.vec.now) c.args.mem.now.memory 0)
    c.put_words.new.words c.keep_active.new.words c.repeat_first.new.words c.requires.plan.size repeated.lanes c.put_words.ensures.bytes c.keep_active.ensures.bytes
    (λ j b. c.repeat_first.ensures.bytes j (omega (arith, b, c.bits-count.ensures.value, c.length.ensures.value, c.length.ensures.length.multiple)))
    (λ k b. quad_lane c.args.line.now.base c.args.line.now.pg c.args.line.now.whole c.args.plan.now c.args.vec.now c.requires.line c.requires.none repeated.one repeated.unsigned c.args.mem.now.memory c.in-Some.bytes.now k b
    (c.in-Some.ensures.bytes ∙ ap (λ n. bytes_at c.args.mem.now.memory c.args.line.now.base n) count)))
    ∙ ap (λ (t : Target). loaded_by t c.args.plan.now.is_signed (layout_of c.args.plan.now c.args.vec.now) c.args.mem.now.memory c.args.vec.now) (sym c.requires.target)
