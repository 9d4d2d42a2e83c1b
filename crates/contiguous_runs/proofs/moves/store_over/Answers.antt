use Rattle.std.proofs.Common.{◌≡◌, ◌≤◌, ◌*◌, List, ℕ, None, refl, take, length, ap, sym, subst, ◌∙◌, arith}
use Rattle.std.proofs.lemmas.List.{get_or-take, length-take}
use Rattle.emu_model.specs.declared.access.Kind.TheVariants.{Write}
use Rattle.emu_model.specs.Access.{refused}
use Rattle.emu_model.specs.Lanes.{read_z}
use Rattle.emu_model.specs.Pages.{with_bytes}
use Rattle.contiguous_runs.proofs.FirstBytes.{first_bytes}
use Rattle.contiguous_runs.proofs.moves.store_over.Goals as goal

pub returns-clause-sure : goal.returns-clause-sure
returns-clause-sure c = λ first second. refl

pub returns-then-not-put_over-clause-sure : goal.returns-then-not-put_over-clause-sure
returns-then-not-put_over-clause-sure c = λ first second.
    let long : length (take (c.args.n * c.args.w) c.put_register.new.bytes) ≡ c.args.n * c.args.w = omega (arith, length-take (c.args.n * c.args.w) c.put_register.new.bytes, c.put_register.ensures.count, c.requires.few, c.length-length.ensures.length.most) in
    sym c.if-not-put_over.true ∙ c.put_over.ensures.sure (omega (arith, long, c.requires.over)) first second

pub returns-clause-allowed : goal.returns-clause-allowed
returns-clause-allowed c = λ is.
    let long : length (take (c.args.n * c.args.w) c.put_register.new.bytes) ≡ c.args.n * c.args.w = omega (arith, length-take (c.args.n * c.args.w) c.put_register.new.bytes, c.put_register.ensures.count, c.requires.few, c.length-length.ensures.length.most) in
    subst (λ k. refused c.args.mem.now.memory c.args.base k Write ≡ None) long (c.put_over.ensures.allowed c.if-not-put_over.false)

pub returns-clause-stored : goal.returns-clause-stored
returns-clause-stored c = λ is.
    let n : ℕ = c.args.n * c.args.w in
    let z : List ℕ = read_z c.args.vec.now c.args.zt in
    let placed : List ℕ = take (c.args.n * c.args.w) c.put_register.new.bytes in
    let long : length (take (c.args.n * c.args.w) c.put_register.new.bytes) ≡ c.args.n * c.args.w = omega (arith, length-take (c.args.n * c.args.w) c.put_register.new.bytes, c.put_register.ensures.count, c.requires.few, c.length-length.ensures.length.most) in
    let room : c.args.n * c.args.w ≤ length (read_z c.args.vec.now c.args.zt) = omega (arith, c.requires.few, c.put_register.ensures.whole) in
    c.put_over.ensures.written c.if-not-put_over.false
    ∙ ap (with_bytes c.args.mem.now.memory c.args.base) (first_bytes placed z n long room (λ j b. get_or-take n c.put_register.new.bytes j 0 b ∙ c.put_register.ensures.bytes j (omega (arith, b, c.requires.few))))

pub put_over-requires : goal.put_over-requires
put_over-requires c = omega (arith, length-take (c.args.n * c.args.w) c.put_register.new.bytes, c.put_register.ensures.count)
