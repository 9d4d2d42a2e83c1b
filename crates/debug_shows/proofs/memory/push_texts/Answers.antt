use Rattle.std.proofs.Common.{◌≡◌, ℕ, ◌+◌, ◌-◌, ◌++◌, string_bytes, ap, arith}
use Rattle.debug_shows.specs.Memory.{texts}
use Rattle.debug_shows.proofs.Pieces.{left_more, texts-more, texts-over}
use Rattle.debug_shows.proofs.memory.push_texts.Goals as goal

pub texts-init : goal.texts-init
texts-init c = let all : c.args.count - 0 ≡ c.args.count = omega arith in ap (λ (n : ℕ). string_bytes c.args.text.now ++ texts c.args.symbols.now c.args.mem.now.memory c.args.address n) all

pub texts-preserved : goal.texts-preserved
texts-preserved c =
    texts-more c.args.symbols.now c.args.mem.now.memory c.texts.at _ _ _ (c.args.count - c.texts.done) (c.args.count - (c.texts.done + 1)) c.in_ok-behind.behind (left_more c.args.count c.texts.done (omega arith)) c.in_ok-behind.ensures.behind c.texts.invariant c.in_ok-behind.ensures.text

pub returns : goal.returns
returns c = let none : c.args.count - c.texts.done ≡ 0 = omega arith in texts-over c.args.symbols.now c.args.mem.now.memory c.texts.at (c.args.count - c.texts.done) _ _ none c.texts.invariant
