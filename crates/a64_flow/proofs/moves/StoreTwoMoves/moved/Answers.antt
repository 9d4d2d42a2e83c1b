use Rattle.std.proofs.Common.{◌≡◌, ◌<◌, ◌+◌, ◌*◌, ◌/◌, ◌%◌, ◌^◌, sym, ◌∙◌, arith}
use Rattle.emu_model.specs.declared.access.Kind.TheVariants.{Write}
use Rattle.emu_model.specs.Access.{refused, stored}
use Rattle.a64_flow.proofs.Couples.{couple_stored, done_is, stored_by}
use Rattle.a64_flow.proofs.moves.StoreTwoMoves.moved.Goals as goal

pub returns-in-Ok-clause-done : goal.returns-in-Ok-clause-done
returns-in-Ok-clause-done c = λ _.
    let m = c.args.mem.now.memory in
    let a = c.args.address in
    let x = c.source.result in
    let y = c.source-2.result in
    let v = x + y * 2 ^ 64 % 2 ^ 128 in
    let small : x < 2 ^ 64 = c.source.type_inv in
    let small_too : y < 2 ^ 64 = c.source-2.type_inv in
    let low : x ≡ v % 2 ^ 64 = omega (arith, small, small_too) in
    let high : y ≡ v / 2 ^ 64 = omega (arith, small, small_too) in
    let was = done_is (refused m a 16 Write) Write _ _ (sym c.in-Ok.is ∙ c.store.ensures.result) in
    couple_stored m a c.ranges.address.fits (omega (arith, c.if-address.false)) c.args.self.t c.args.self.u c.args.n c.args.core.now (sym c.is_tilted.ensures ∙ c.if-is_tilted.false) c.set_run.new.self.items
    was.0 v (sym c.source.ensures ∙ low) (sym c.source-2.ensures ∙ high) c.store.new.self.memory (stored_by (refused m a 16 Write) m c.store.new.self.memory (stored m a 16 v) was.0 c.store.ensures.memory) c.set_run.ensures.items
