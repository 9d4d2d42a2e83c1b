use Rattle.std.proofs.Common.{◌≡◌, ℕ, zero, suc, ◌<◌, ◌≤◌, List, [], ◌∷◌, length, get_or, refl, arith}
use Rattle.text_model.specs.declared.slots.Slot.{Slot}
use Rattle.text_model.proofs.lists.slot_in.Goals as goal

same_there : (ss : List Slot) (k : ℕ) (d e : Slot) → k < length ss → get_or ss k d ≡ get_or ss k e
same_there [] k d e h = absurd (omega arith)
same_there (s ∷ ss) zero d e h = refl
same_there (s ∷ ss) (suc k) d e h = same_there ss k d e (omega arith)

none_behind : (ss : List Slot) (k : ℕ) (e : Slot) → length ss ≤ k → e ≡ get_or ss k e
none_behind [] k e h = refl
none_behind (s ∷ ss) zero e h = absurd (omega arith)
none_behind (s ∷ ss) (suc k) e h = none_behind ss k e (omega arith)

pub returns-then-at-slots : goal.returns-then-at-slots
returns-then-at-slots c = same_there c.args.slots.now c.args.at _ _ c.if-at-slots.true

pub returns-else-at-slots : goal.returns-else-at-slots
returns-else-at-slots c = none_behind c.args.slots.now c.args.at _ c.if-at-slots.false
