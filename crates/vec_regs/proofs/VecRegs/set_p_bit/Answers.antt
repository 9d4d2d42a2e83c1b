use Rattle.std.proofs.Common.{◌≡◌, ◌<◌, ◌/◌, ℕ, List, [], length, get_or, set, ap, sym, subst, ◌∙◌, arith}
use Rattle.std.proofs.lemmas.List.{length-set}
use Rattle.std.proofs.lemmas.List.Elements.{All-set, All-get_or}
use Rattle.emu_model.specs.State.{Vectors}
use Rattle.vec_regs.specs.Words.{AreClearFrom}
use Rattle.vec_regs.proofs.SetParts.{set_bit_shown, clear_after, inner_width, flag_small, flag_is}
use Rattle.vec_regs.proofs.VecRegs.set_p_bit.Goals as goal

pub invariant_of-self : goal.invariant_of-self
invariant_of-self c =
    let bits : c.self.inside.length ≡ c.args.self.now.bits = ap (λ (v : Vectors). v.bits) c.self.view_is in
    let place : c.get-n.result < length c.self.inside.p = omega arith in
    let within : c.args.k < c.self.inside.length / 8 = subst (λ n. c.args.k < n / 8) (sym bits) c.requires in
    let few : c.args.k / 64 < 4 = omega arith in
    let inner : c.args.k / 64 < length (get_or c.self.inside.p c.get-n.result []) = inner_width 4 c.self.inside.p c.get-n.result (c.args.k / 64) c.self.invariant.p_width place few in
    let width : length (get_or c.self.inside.p c.get-n.result []) ≡ 4 = All-get_or (λ (ws : List ℕ). length ws ≡ 4) c.self.inside.p c.get-n.result [] place c.self.invariant.p_width in
    let old : AreClearFrom (c.self.inside.length / 8) (get_or c.self.inside.p c.get-n.result []) = All-get_or (AreClearFrom (c.self.inside.length / 8)) c.self.inside.p c.get-n.result [] place c.self.invariant.p in
    record {
      most = c.self.invariant.most;
      length = c.self.invariant.length;
      within = c.self.invariant.within;
      z_count = c.self.invariant.z_count;
      z_width = c.self.invariant.z_width;
      z = c.self.invariant.z;
      p_count = length-set c.self.inside.p c.get-n.result (set (get_or c.self.inside.p c.get-n.result []) (c.args.k / 64) c.put.result) ∙ c.self.invariant.p_count;
      p_width = All-set (λ (ws : List ℕ). length ws ≡ 4) c.self.inside.p c.get-n.result (set (get_or c.self.inside.p c.get-n.result []) (c.args.k / 64) c.put.result)
          (length-set (get_or c.self.inside.p c.get-n.result []) (c.args.k / 64) c.put.result ∙ width) c.self.invariant.p_width;
      p = All-set (AreClearFrom (c.self.inside.length / 8)) c.self.inside.p c.get-n.result (set (get_or c.self.inside.p c.get-n.result []) (c.args.k / 64) c.put.result)
          (clear_after (c.self.inside.length / 8) c.args.k c.from.result c.put.result (get_or c.self.inside.p c.get-n.result []) within (flag_small c.args.v c.from.result c.from.ensures) inner c.put.ensures old) c.self.invariant.p;
      ffr = c.self.invariant.ffr;
    }

pub returns : goal.returns
returns c =
    let bits : c.self.inside.length ≡ c.args.self.now.bits = ap (λ (v : Vectors). v.bits) c.self.view_is in
    let within : c.args.k < c.self.inside.length / 8 = subst (λ n. c.args.k < n / 8) (sym bits) c.requires in
    let place : c.get-n.result < length c.self.inside.p = omega arith in
    let few : c.args.k / 64 < 4 = omega arith in
    set_bit_shown c.self.inside c.args.self.now c.get-n.result c.args.r c.args.k c.from.result c.put.result c.args.v c.get-n.ensures.value c.self.view_is c.self.invariant.p_count (omega arith)
    (inner_width 4 c.self.inside.p c.get-n.result (c.args.k / 64) c.self.invariant.p_width place few) c.requires (flag_small c.args.v c.from.result c.from.ensures) (flag_is c.args.v c.from.result c.from.ensures) c.put.ensures
