use Rattle.std.proofs.Common.{◌≡◌, ◌++◌, ◌+◌, ◌*◌, ◌/◌, ◌%◌, ℕ, None, length, get_or, sym, ap, subst, ◌∙◌, arith}
use Rattle.std.proofs.Common.{false}
use Rattle.vec_regs.proofs.Views.{zero_word}
use Rattle.emu_model.specs.declared.access.Access.{Access}
use Rattle.emu_model.specs.declared.access.Kind.TheVariants.{Read}
use Rattle.emu_model.specs.Access.{address, refused}
use Rattle.emu_model.specs.Lists.{each}
use Rattle.emu_model.specs.Pages.{bytes_at}
use Rattle.element_loops.specs.declared.plan.Target.{Target}
use Rattle.element_loops.specs.Layouts.{IsPredicate, IsTarget, layout_of}
use Rattle.element_loops.specs.Planned.{loaded_by}
use Rattle.element_loops.proofs.Lines.{line_reached}
use Rattle.element_loops.proofs.PredicateBytes.{all_bytes, bytes_noted, bits_loaded, bits_clear}
use Rattle.element_loops.proofs.predicates.take_line.Goals as goal

pub push_run-requires : goal.push_run-requires
push_run-requires c = let none : length c.args.log.now.items ≡ 0 = ap length c.requires.empty in omega (arith, none, c.bits-total.ensures.value, c.length.ensures.value, c.length.ensures.length.most)

pub set_p_words-requires : goal.set_p_words-requires
set_p_words-requires c =
    let total : c.bits-total.result / 64 ≡ c.args.vec.now.bits / 64 = ap (λ n. n / 64) (c.bits-total.ensures.value ∙ c.length.ensures.value) in
    let whole : c.args.vec.now.bits / 8 % 16 ≡ 0 = omega (arith, c.length.ensures.length.multiple) in
    bits_clear (c.args.vec.now.bits / 8) c.joined.new.bytes c.bits_of_bytes.result (omega arith) whole
    (λ k h. c.joined.ensures.behind c.if-not-joined.false k (omega (arith, h, total)) ∙ zero_word 32 k) c.bits_of_bytes.ensures

pub returns-clause-loaded : goal.returns-clause-loaded
returns-clause-loaded c = λ is.
    let p = c.args.plan.now in
    let v = c.args.vec.now in
    let whole : IsPredicate c.args.pt c.args.plan.now c.args.vec.now = subst (λ (t : Target). IsTarget t c.args.plan.now c.args.vec.now) c.requires.target c.requires.plan.target in
    let total : c.bits-total.result / 64 ≡ c.args.vec.now.bits / 64 = ap (λ n. n / 64) (c.bits-total.ensures.value ∙ c.length.ensures.value) in
    let all : c.args.plan.now.lanes * c.args.plan.now.registers * c.args.plan.now.bytes ≡ c.args.vec.now.bits / 64
    = all_bytes c.args.pt c.args.line.now.base c.args.line.now.pg c.args.line.now.whole p v c.requires.line whole in
    let free : refused c.args.mem.now.memory c.args.line.now.base (c.args.plan.now.lanes * c.args.plan.now.registers * c.args.plan.now.bytes) Read ≡ None
    = subst (λ n. refused c.args.mem.now.memory c.args.line.now.base n Read ≡ None) (total ∙ sym all) (c.joined.ensures.allowed c.if-not-joined.false) in
    record {
      reached = line_reached c.args.line.now.base c.args.line.now.pg c.args.line.now.whole p v c.requires.line c.args.mem.now.memory Read free;
      logged = bytes_noted c.args.pt c.args.line.now.base c.args.line.now.pg c.args.line.now.whole p v c.requires.line whole false c.args.log.now.items c.push_run.new.self.items c.requires.empty
          (c.push_run.ensures.items ∙ ap (λ n. c.args.log.now.items ++ each n (λ (i : ℕ). let x : Access = record { address = address (c.args.line.now.base + i * 1); bytes = 1; write = false } in x)) total);
    }

pub returns-clause-registers : goal.returns-clause-registers
returns-clause-registers c = λ is.
    let p = c.args.plan.now in
    let v = c.args.vec.now in
    let whole : IsPredicate c.args.pt c.args.plan.now c.args.vec.now = subst (λ (t : Target). IsTarget t c.args.plan.now c.args.vec.now) c.requires.target c.requires.plan.target in
    let total : c.bits-total.result / 64 ≡ c.args.vec.now.bits / 64 = ap (λ n. n / 64) (c.bits-total.ensures.value ∙ c.length.ensures.value) in
    c.set_p_words.ensures
    ∙ bits_loaded c.args.pt c.args.line.now.base c.args.line.now.pg c.args.line.now.whole p v c.requires.line whole c.args.mem.now.memory c.joined.new.bytes c.bits_of_bytes.result c.length.ensures.length
    (λ j b. c.joined.ensures.bytes c.if-not-joined.false j (omega (arith, b, total)) ∙ ap (λ n. get_or (bytes_at c.args.mem.now.memory c.args.line.now.base n) j 0) total) c.bits_of_bytes.ensures
    ∙ ap (λ (t : Target). loaded_by t p.is_signed (layout_of p v) c.args.mem.now.memory v) (sym c.requires.target)
