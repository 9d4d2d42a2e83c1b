use Rattle.std.proofs.Common.{◌≡◌, ◌<◌, ◌+◌, ◌*◌, ◌/◌, length, ap, sym, subst, arith}
use Rattle.emu_model.specs.State.{Vectors}
use Rattle.vec_regs.proofs.Pairs.{set_pair_shown}
use Rattle.vec_regs.proofs.SetParts.{inner_width}
use Rattle.vec_regs.proofs.VecRegs.set_z_pair.Goals as goal

pub returns : goal.returns
returns c =
    let bits : c.self.inside.length ≡ c.args.self.now.bits = ap (λ (v : Vectors). v.bits) c.self.view_is in
    let within : c.args.i < c.self.inside.length / 128 = subst (λ n. c.args.i < n / 128) (sym bits) c.requires in
    let few : c.args.i < 16 = omega (arith, c.self.invariant.length.most) in
    let place : c.get-n.result < length c.self.inside.z = omega arith in
    let second : 2 * c.args.i + 1 < 32 = omega arith in
    set_pair_shown c.self.inside c.args.self.now c.get-n.result c.args.r c.args.i c.args.pair c.put_pair.new.words c.get-n.ensures.value c.self.view_is c.self.invariant.z_count (omega arith)
    (inner_width 32 c.self.inside.z c.get-n.result (2 * c.args.i + 1) c.self.invariant.z_width place second) c.put_pair.ensures
