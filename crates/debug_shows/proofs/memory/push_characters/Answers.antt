use Rattle.std.proofs.Common.{◌≡◌, ℕ, ◌+◌, ◌-◌, refl, arith}
use Rattle.emu_model.specs.Access.{Memory, address}
use Rattle.debug_shows.specs.Memory.{most_characters}
use Rattle.debug_shows.proofs.Pieces.{behind-end, behind-more, behind-over, characters-end, characters-more, characters-over, left_more}
use Rattle.debug_shows.proofs.memory.push_characters.Goals as goal

pub characters-init : goal.characters-init
characters-init c = record { left = refl; behind = refl }

pub characters-preserved : goal.characters-preserved
characters-preserved c =
    let m : Memory = c.args.mem.now.memory in
    let at : ℕ = c.characters.at in
    let k : ℕ = c.characters.done in
    record {
      left = characters-more m at (most_characters - k) (most_characters - (k + 1)) c.byte_at-byte.result (left_more most_characters k (omega arith)) c.byte_at-byte.ensures _ _ _ (address (at + 1)) c.if-byte-eq0.false refl c.characters.invariant.left c.in_ok-push_shown.ensures;
      behind = behind-more m at (most_characters - k) (most_characters - (k + 1)) c.byte_at-byte.result (left_more most_characters k (omega arith)) c.byte_at-byte.ensures (address (at + 1)) _ c.if-byte-eq0.false refl c.characters.invariant.behind;
    }

pub returns-then-byte-eq0 : goal.returns-then-byte-eq0
returns-then-byte-eq0 c =
    let m : Memory = c.args.mem.now.memory in
    let at : ℕ = c.characters.at in
    let k : ℕ = c.characters.done in
    record {
      text = characters-end m at (most_characters - k) (most_characters - (k + 1)) c.byte_at-byte.result (left_more most_characters k (omega arith)) c.byte_at-byte.ensures _ _ c.if-byte-eq0.true c.characters.invariant.left;
      behind = behind-end m at (most_characters - k) (most_characters - (k + 1)) c.byte_at-byte.result (left_more most_characters k (omega arith)) c.byte_at-byte.ensures (address (at + 1)) _ c.if-byte-eq0.true refl c.characters.invariant.behind;
    }

pub returns : goal.returns
returns c =
    let m : Memory = c.args.mem.now.memory in
    let at : ℕ = c.characters.at in
    let none : most_characters - c.characters.done ≡ 0 = omega arith in
    record {
      text = characters-over m at (most_characters - c.characters.done) _ _ none c.characters.invariant.left;
      behind = behind-over m at (most_characters - c.characters.done) _ none c.characters.invariant.behind;
    }
