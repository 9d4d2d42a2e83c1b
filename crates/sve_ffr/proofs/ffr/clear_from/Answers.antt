use Rattle.std.proofs.Common.{◌*◌, ◌/◌, ◌&&◌, ℕ, Bool, false, get_or, nat_lt, ap, ◌∙◌, arith}
use Rattle.element_loops.proofs.Writes.{push_each}
use Rattle.sve_ffr.proofs.ffr.clear_from.Goals as goal

pub loop-j-preserved : goal.loop-j-preserved
loop-j-preserved c =
    let f : ℕ → Bool = λ j. get_or c.args.vec.now.ffr j false && nat_lt j (c.args.q * (c.args.e / 8)) in
    record {
      count = omega (arith, c.push.ensures.len);
      flags = push_each c.loop-j.j f c.bit_before.result c.loop-j.flags.items c.push.new.self.items c.push.ensures.items c.loop-j.invariant.flags
          (c.bit_before.ensures ∙ ap (λ (b : Bool). b && nat_lt c.loop-j.j (c.from.result * c.from-2.result)) c.ffr_bit.ensures
          ∙ ap (λ n. get_or c.args.vec.now.ffr c.loop-j.j false && nat_lt c.loop-j.j (n * c.from-2.result)) c.from.ensures
          ∙ ap (λ n. get_or c.args.vec.now.ffr c.loop-j.j false && nat_lt c.loop-j.j (c.args.q * n)) c.from-2.ensures);
    }
