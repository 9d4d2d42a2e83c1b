use Rattle.std.proofs.Common.{◌≡◌, ◌∙◌, ◌<◌, ◌+◌, ◌*◌, ◌/◌, ◌%◌, ◌^◌, ℕ, List, length, map, get_or, ap, subst, arith}
use Rattle.std.proofs.lemmas.List.{length-map}
use Rattle.emu_model.specs.SoundState.{IsVectorLength}
use Rattle.emu_model.specs.Lists.{each}
use Rattle.emu_model.specs.State.{Vectors}
use Rattle.emu_model.specs.Lanes.{read_z, with_z}
use Rattle.vec_regs.specs.Packed.{packed}
use Rattle.vec_regs.specs.Words.{byte_with_pair}
use Rattle.register_lanes.specs.Written.{written}
use Rattle.register_lanes.proofs.InPlace.{still_unwritten, more_written, lane_place}
use Rattle.register_lanes.proofs.PairLanes.{pair_of_lanes}
use Rattle.register_lanes.proofs.loops.put_part.Goals as goal

pub returns : goal.returns
returns g c v words told so_far =
    let e = g.T.Lane.BITS in
    let i = c.args.i in
    let value : Vectors → ℕ → ℕ = g.L.Gives.value c.args.lanes.now e in
    let f : ℕ → ℕ = g.L.Gives.value c.args.lanes.now e v in
    let lanes : List ℕ = map g.T.Lane.number c.chunk.result in
    let pair : List ℕ = c.packed-pair.result in
    let size = g.met.T.Lane.width in
    let whole = g.met.T.Quad.whole in
    let bits = ap (λ (w : Vectors). w.bits) so_far in
    let long : IsVectorLength v.bits = subst IsVectorLength bits c.length-length.ensures.length in
    let inside : c.args.i < v.bits / 128 = subst (λ n. c.args.i < n / 128) bits c.requires in
    let same = still_unwritten e c.args.zd i f v words long told inside in
    let count : length lanes ≡ g.row.W = length-map c.chunk.result g.T.Lane.number ∙ omega arith in
    let given : (j : ℕ) → j < g.row.W → get_or (map g.T.Lane.number c.chunk.result) j 0 ≡ f (c.args.i * g.row.W + j) % 2 ^ g.T.Lane.BITS
    = λ j b.
    c.chunk.ensures j b
    ∙ ap (λ x. x % 2 ^ e) (ap (λ (w : Vectors). value w (c.args.i * g.row.W + j)) so_far
    ∙ g.met.L.Local.local c.args.lanes.now e i (c.args.i * g.row.W + j) (written e f i c.args.zd v) v size (lane_place e g.row.W i j size whole b) same) in
    let made : (h : ℕ) → h < 2 → get_or pair h 0 ≡ packed e (each (64 / e) (λ t. f ((2 * i + h) * (64 / e) + t)))
    = λ h b. ap (λ (xs : List ℕ). get_or xs h 0) c.packed-pair.ensures ∙ pair_of_lanes e g.row.W i h f lanes size whole count given b in
    c.set_z_pair.ensures
    ∙ ap (λ (w : Vectors). with_z w c.args.zd (each (w.bits / 8) (byte_with_pair (read_z w c.args.zd) i pair))) so_far
    ∙ more_written e c.args.zd i f v words pair size long told made
