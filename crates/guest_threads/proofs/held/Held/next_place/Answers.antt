use Rattle.std.proofs.Common.{◌≡◌, ◌+◌, ◌-◌, ℕ, ap, sym, ◌∙◌, arith}
use Rattle.guest_threads.proofs.Picked.{goes_over, over_behind, place_at, stays_on, placed_at}
use Rattle.emu_run.specs.Worlds.{is_standing_ready}
use Rattle.guest_threads.proofs.held.Held.next_place.Goals as goal

pub returns-then-is_over : goal.returns-then-is_over
returns-then-is_over c = record {
  place = goes_over c.args.self.now.world c.args.turns.now (place_at c.args.turn (c.args.used - 1) c.args.k) c.args.k c.next_turn.result
      (over_behind c.args.self.now.world c.args.turns.now c.args.turn c.args.used c.args.k c.requires.some (c.is_over.ensures.over c.if-is_over.true)) c.next_turn.ensures.is;
  is_place = placed_at c.args.self.now.world c.args.turns.now c.next_turn.result c.requires.schedule.steps c.next_turn.ensures.within;
}

pub returns : goal.returns
returns c =
    let no = c.if-is_over.false in
    let on = c.is_over.ensures.on no in
    let some = c.requires.some in
    let same : c.args.used - 1 + 1 ≡ c.args.used = omega (arith, some) in
    record {
      place = ap (λ (n : ℕ). place_at c.args.turn n c.args.k) (sym same)
          ∙ stays_on c.args.self.now.world c.args.turns.now (place_at c.args.turn (c.args.used - 1) c.args.k) c.args.k (λ e. omega (arith, on, e, some)) (ap is_standing_ready (c.is_over.ensures.ready no).ready);
      is_place = record {
        turn = c.requires.turn;
        used = on;
        held = λ _. c.is_over.ensures.ready no;
      };
    }
