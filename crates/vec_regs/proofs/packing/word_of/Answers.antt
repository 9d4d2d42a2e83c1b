use Rattle.std.proofs.Common.{◌≡◌, ℕ, ◌<◌, ◌*◌, ◌^◌, length, get_or, ◌+◌, ◌-◌, ◌%◌, drop, sym, ap, subst, ◌∙◌}
use Rattle.std.proofs.Math.Nat.{mod-lt}
use Rattle.std.proofs.lemmas.Nat.{pow_pos}
use Rattle.vec_regs.specs.Packed.{packed}
use Rattle.vec_regs.proofs.PackedLanes.{room, grown, packed_back}
use Rattle.vec_regs.proofs.packing.word_of.Goals as goal

pub overflow_cast-so_far-in-loop-j-2 : goal.overflow_cast-so_far-in-loop-j-2
overflow_cast-so_far-in-loop-j-2 c =
    let x : ℕ = get_or c.args.lanes.now (c.loop-j.j - 1) 0 in
    let P : ℕ → Type 0 = λ m. c.loop-j.so_far * m + get_or c.args.lanes.now (c.loop-j.j - 1) 0 % m < 2 ^ 64 in
    record {
      fits = subst P (sym c.modulus-m.ensures.value) (room c.args.e c.loop-j.so_far (get_or c.args.lanes.now (c.loop-j.j - 1) 0 % 2 ^ c.args.e) (length c.args.lanes.now) c.loop-j.j c.loop-j.invariant.small
          (mod-lt (get_or c.args.lanes.now (c.loop-j.j - 1) 0) (pow_pos c.args.e)) c.loop-j-test.true c.loop-j.auto.j c.requires.few);
    }

pub loop-j-preserved : goal.loop-j-preserved
loop-j-preserved c =
    let P : ℕ → Type 0 = λ m. c.loop-j.so_far * m + get_or c.args.lanes.now (c.loop-j.j - 1) 0 % m ≡ packed c.args.e (drop (c.loop-j.j - 1) c.args.lanes.now) in
    let Q : ℕ → Type 0 = λ m. c.loop-j.so_far * m + get_or c.args.lanes.now (c.loop-j.j - 1) 0 % m < 2 ^ ((length c.args.lanes.now - (c.loop-j.j - 1)) * c.args.e) in
    record {
      is = subst P (sym c.modulus-m.ensures.value)
          (ap (λ x. x * 2 ^ c.args.e + get_or c.args.lanes.now (c.loop-j.j - 1) 0 % 2 ^ c.args.e) c.loop-j.invariant.is ∙ sym (packed_back c.args.e c.args.lanes.now c.loop-j.j c.loop-j-test.true c.loop-j.auto.j));
      small = subst Q (sym c.modulus-m.ensures.value) (grown c.args.e c.loop-j.so_far (get_or c.args.lanes.now (c.loop-j.j - 1) 0 % 2 ^ c.args.e) (length c.args.lanes.now) c.loop-j.j c.loop-j.invariant.small
          (mod-lt (get_or c.args.lanes.now (c.loop-j.j - 1) 0) (pow_pos c.args.e)) c.loop-j-test.true c.loop-j.auto.j);
    }
