use Rattle.std.proofs.Common.{◌≡◌, ◌<◌, ◌≤◌, ◌*◌, ◌/◌, List, ℕ, take, length, get_or, ap, sym, subst, ◌∙◌, arith}
use Rattle.std.proofs.lemmas.List.{get_or-take, length-take}
use Rattle.emu_model.specs.Lists.{each}
use Rattle.emu_model.specs.Lanes.{with_z}
use Rattle.element_loops.proofs.RunLoads.{same_bytes}
use Rattle.contiguous_runs.proofs.moves.load_over.Goals as goal

pub set_bytes-requires-clause-count : goal.set_bytes-requires-clause-count
set_bytes-requires-clause-count c = ap length c.told_bytes-bytes.ensures.same ∙ omega (arith, length-take (c.args.n * c.args.w) c.joined.new.bytes, c.joined.ensures.long, c.requires.few, c.length-length.ensures.length.most)

pub returns-then-not-joined-clause-sure : goal.returns-then-not-joined-clause-sure
returns-then-not-joined-clause-sure c = λ first second. sym c.if-not-joined.true ∙ c.joined.ensures.sure (omega (arith, c.requires.few, c.length-length.ensures.length.most)) first second

pub returns-clause-loaded : goal.returns-clause-loaded
returns-clause-loaded c = λ is.
    let total : ℕ = c.args.n * c.args.w in
    let room : c.args.n * c.args.w ≤ length c.joined.new.bytes = omega (arith, c.joined.ensures.long, c.requires.few, c.length-length.ensures.length.most) in
    let long : length (take (c.args.n * c.args.w) c.joined.new.bytes) ≡ c.args.n * c.args.w = omega (arith, room, length-take (c.args.n * c.args.w) c.joined.new.bytes) in
    c.set_bytes.ensures
    ∙ ap (λ (bs : List ℕ). with_z c.args.vec.now c.args.zt (each (c.args.vec.now.bits / 8) (λ j. get_or bs j 0)))
    (c.told_bytes-bytes.ensures.same
    ∙ same_bytes c.args.mem.now.memory c.args.base total (take total c.joined.new.bytes) long (λ j b. get_or-take total c.joined.new.bytes j 0 b ∙ c.joined.ensures.bytes c.if-not-joined.false j b))

pub returns-clause-bytes : goal.returns-clause-bytes
returns-clause-bytes c = λ is k.
    let total : ℕ = c.args.n * c.args.w in
    let room : c.args.n * c.args.w ≤ length c.joined.new.bytes = omega (arith, c.joined.ensures.long, c.requires.few, c.length-length.ensures.length.most) in
    let long : length (take (c.args.n * c.args.w) c.joined.new.bytes) ≡ c.args.n * c.args.w = omega (arith, room, length-take (c.args.n * c.args.w) c.joined.new.bytes) in
    subst (λ (bs : List ℕ). get_or bs k 0 < 256)
    (same_bytes c.args.mem.now.memory c.args.base total (take total c.joined.new.bytes) long (λ j b. get_or-take total c.joined.new.bytes j 0 b ∙ c.joined.ensures.bytes c.if-not-joined.false j b))
    (c.told_bytes-bytes.ensures.small k)
