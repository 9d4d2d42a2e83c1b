use Rattle.std.proofs.Common.{◌≡◌, ◌<◌, ◌≤◌, ◌++◌, ◌+◌, ◌*◌, ◌/◌, ℕ, None, true, take, length, refl, sym, ap, subst, ◌∙◌, arith}
use Rattle.std.proofs.lemmas.List.{length-take}
use Rattle.emu_model.specs.declared.access.Access.{Access}
use Rattle.emu_model.specs.declared.access.Kind.TheVariants.{Write}
use Rattle.emu_model.specs.Access.{address, refused}
use Rattle.emu_model.specs.Lists.{each}
use Rattle.emu_model.specs.Pages.{with_bytes}
use Rattle.element_loops.specs.declared.plan.Target.{Target}
use Rattle.element_loops.specs.Layouts.{IsPredicate, IsTarget, layout_of}
use Rattle.element_loops.specs.Planned.{stored_by}
use Rattle.element_loops.specs.Runs.{AreFilled, stored_in_turn}
use Rattle.element_loops.proofs.Lines.{all_stored}
use Rattle.element_loops.proofs.PredicateBytes.{all_bytes, all_on, lanes_once, bits_filled}
use Rattle.element_loops.proofs.predicates.put_line.Goals as goal

pub push_run-requires : goal.push_run-requires
push_run-requires c = let none : length c.args.log.now.items ≡ 0 = ap length c.requires.empty in omega (arith, none, c.bits-total.ensures.value, c.length.ensures.value, c.length.ensures.length.most)

pub returns-then-put_over-clause-stored : goal.returns-then-put_over-clause-stored
returns-then-put_over-clause-stored c = λ is.
    let p = c.args.plan.now in
    let v = c.args.vec.now in
    let bs = c.bytes_of_words-bytes.result in
    let base = c.args.line.now.base in
    let before = c.args.log.now.items in
    let whole : IsPredicate c.args.pt c.args.plan.now c.args.vec.now = subst (λ (t : Target). IsTarget t c.args.plan.now c.args.vec.now) c.requires.target c.requires.plan.target in
    let small : c.args.pt < 16 = subst (λ n. n < 16) c.get-number.ensures.value c.get-number.ensures.small in
    let total : c.bits-total.result / 64 ≡ c.args.vec.now.bits / 64 = ap (λ n. n / 64) (c.bits-total.ensures.value ∙ c.length.ensures.value) in
    let all : c.args.plan.now.lanes * c.args.plan.now.registers * c.args.plan.now.bytes ≡ c.args.vec.now.bits / 64
    = all_bytes c.args.pt base c.args.line.now.pg c.args.line.now.whole p v c.requires.line whole in
    let lanes : c.bits-total.result / 64 ≡ c.args.plan.now.lanes * c.args.plan.now.registers = total ∙ lanes_once c.args.pt base c.args.line.now.pg c.args.line.now.whole p v c.requires.line whole in
    let few : c.bits-total.result / 64 ≤ length c.bytes_of_words-bytes.result = omega (arith, total, c.length.ensures.length.most) in
    let count : length (take (c.bits-total.result / 64) c.bytes_of_words-bytes.result) ≡ c.args.plan.now.lanes * c.args.plan.now.registers * c.args.plan.now.bytes
    = omega (arith, length-take (c.bits-total.result / 64) c.bytes_of_words-bytes.result, few, total, all) in
    let room : c.args.plan.now.lanes * c.args.plan.now.registers * c.args.plan.now.bytes ≤ length c.bytes_of_words-bytes.result = omega (arith, few, total, all) in
    let free : refused c.args.mem.now.memory c.args.line.now.base (c.args.plan.now.lanes * c.args.plan.now.registers * c.args.plan.now.bytes) Write ≡ None
    = subst (λ n. refused c.args.mem.now.memory c.args.line.now.base n Write ≡ None) count (c.if-put_over.ensures.allowed refl) in
    let filled : AreFilled p.bytes (stored_in_turn (stored_by p.target (layout_of p v) v) p v) (p.lanes * p.registers) bs
    = subst (λ (t : Target). AreFilled p.bytes (stored_in_turn (stored_by t (layout_of p v) v) p v) (p.lanes * p.registers) bs) (sym c.requires.target)
    (bits_filled c.args.pt p v bs c.p_words.result.now whole small c.length.ensures.length c.p_words.ensures.words c.bytes_of_words-bytes.ensures) in
    all_stored base c.args.line.now.pg c.args.line.now.whole p v c.requires.line (stored_by p.target (layout_of p v) v) c.args.mem.now.memory bs c.requires.plan.most free room filled
    (all_on c.args.pt base c.args.line.now.pg c.args.line.now.whole p v c.requires.line whole) c.put_over.new.mem.memory before c.push_run.new.self.items c.requires.empty
    (c.if-put_over.ensures.written refl ∙ ap (λ n. with_bytes c.args.mem.now.memory base (take n bs)) (total ∙ sym all))
    (c.push_run.ensures.items ∙ ap (λ n. before ++ each n (λ (i : ℕ). let x : Access = record { address = address (base + i * 1); bytes = 1; write = true } in x)) lanes
    ∙ ap (λ n. before ++ each (p.lanes * p.registers) (λ (i : ℕ). let x : Access = record { address = address (base + i * n); bytes = n; write = true } in x)) (sym whole.bytes))
