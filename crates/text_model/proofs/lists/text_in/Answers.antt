use Rattle.std.proofs.Common.{◌≡◌, ℕ, zero, suc, ◌<◌, ◌≤◌, List, [], ◌∷◌, length, get_or, refl, arith}
use denote.Ref.{Bor}
use Rattle.text_model.specs.Lists.{texts_of}
use Rattle.text_model.proofs.lists.text_in.Goals as goal

text_there : (ts : List (Bor (List ℕ))) (k : ℕ) (d : Bor (List ℕ)) → k < length ts → (get_or ts k d).now ≡ get_or (texts_of ts) k []
text_there [] k d h = absurd (omega arith)
text_there (t ∷ ts) zero d h = refl
text_there (t ∷ ts) (suc k) d h = text_there ts k d (omega arith)

none_behind : (ts : List (Bor (List ℕ))) (k : ℕ) → length ts ≤ k → [] ≡ get_or (texts_of ts) k []
none_behind [] k h = refl
none_behind (t ∷ ts) zero h = absurd (omega arith)
none_behind (t ∷ ts) (suc k) h = none_behind ts k (omega arith)

pub returns-then-at-texts : goal.returns-then-at-texts
returns-then-at-texts c = text_there c.args.texts.now c.args.at _ c.if-at-texts.true

pub returns-else-at-texts : goal.returns-else-at-texts
returns-else-at-texts c = none_behind c.args.texts.now c.args.at c.if-at-texts.false
