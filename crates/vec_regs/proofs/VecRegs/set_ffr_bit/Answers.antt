use Rattle.std.proofs.Common.{◌≡◌, ◌<◌, ◌/◌, length, ap, sym, subst, arith}
use Rattle.emu_model.specs.State.{Vectors}
use Rattle.vec_regs.proofs.SetParts.{set_ffr_bit_shown, clear_after, flag_small, flag_is}
use Rattle.vec_regs.proofs.VecRegs.set_ffr_bit.Goals as goal

pub invariant_of-self : goal.invariant_of-self
invariant_of-self c =
    let bits : c.self.inside.length ≡ c.args.self.now.bits = ap (λ (v : Vectors). v.bits) c.self.view_is in
    let within : c.args.k < c.self.inside.length / 8 = subst (λ n. c.args.k < n / 8) (sym bits) c.requires in
    let inner : c.args.k / 64 < length c.self.inside.ffr = omega arith in
    record {
      most = c.self.invariant.most;
      length = c.self.invariant.length;
      within = c.self.invariant.within;
      z_count = c.self.invariant.z_count;
      z_width = c.self.invariant.z_width;
      z = c.self.invariant.z;
      p_count = c.self.invariant.p_count;
      p_width = c.self.invariant.p_width;
      p = c.self.invariant.p;
      ffr = clear_after (c.self.inside.length / 8) c.args.k c.from.result c.put.result c.self.inside.ffr within (flag_small c.args.v c.from.result c.from.ensures) inner c.put.ensures c.self.invariant.ffr;
    }

pub returns : goal.returns
returns c =
    let bits : c.self.inside.length ≡ c.args.self.now.bits = ap (λ (v : Vectors). v.bits) c.self.view_is in
    let within : c.args.k < c.self.inside.length / 8 = subst (λ n. c.args.k < n / 8) (sym bits) c.requires in
    let inner : c.args.k / 64 < length c.self.inside.ffr = omega arith in
    set_ffr_bit_shown c.self.inside c.args.self.now c.args.k c.from.result c.put.result c.args.v c.self.view_is inner c.requires (flag_small c.args.v c.from.result c.from.ensures) (flag_is c.args.v c.from.result c.from.ensures) c.put.ensures
