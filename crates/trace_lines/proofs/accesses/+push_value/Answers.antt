use Rattle.std.proofs.Common.{◌≡◌, ℕ, ◌+◌, ◌-◌, ◌++◌, Option, ap, ◌∙◌, arith}
use Rattle.emu_model.specs.Access.{address}
use Rattle.emu_model.specs.Pages.{peeked}
use Rattle.trace_lines.specs.Lines.{byte_text}
use Rattle.trace_lines.proofs.Values.{value_more, value_none}
use Rattle.trace_lines.proofs.accesses.+push_value.Goals as goal

pub returns-then-count-eq0 : goal.returns-then-count-eq0
returns-then-count-eq0 t c = value_none c.args.text.now c.args.mem.now.memory c.args.address c.args.count c.if-count-eq0.true

pub returns : goal.returns
returns t c =
    let some = c.if-count-eq0.false in
    let m = c.args.mem.now.memory in
    value_more c.args.text.now c.push_byte.new.text c.push_value.new.text m c.args.address c.args.count (c.args.count - 1) (omega (arith, some))
    (c.push_byte.ensures.text ∙ ap (λ (o : Option ℕ). c.args.text.now ++ byte_text o) (let e : c.peek.result ≡ peeked m (address (c.args.address + (c.args.count - 1))) = c.peek.ensures ∙ ap (λ (a : ℕ). peeked m a) (let f = c.from.ensures in cc) in e))
    c.push_value.ensures
