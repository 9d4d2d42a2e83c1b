use Rattle.std.proofs.Common.{◌≡◌, ℕ, zero, suc, ◌<◌, ◌≤◌, List, [], ◌∷◌, length, get_or, refl, ap, ◌∙◌, arith}
use denote.Ref.{Bor}
use Rattle.text_code.specs.declared.patterns.Pattern.{Pattern}
use Rattle.text_code.specs.Tables.{lines_of, patterns_of}
use Rattle.text_code.proofs.lines.line_of.Goals as goal

line_there : (ls : List (Bor (List Pattern))) (k : ℕ) (d : Bor (List Pattern)) → k < length ls → patterns_of (get_or ls k d).now ≡ get_or (lines_of ls) k []
line_there [] k d h = absurd (omega arith)
line_there (l ∷ ls) zero d h = refl
line_there (l ∷ ls) (suc k) d h = line_there ls k d (omega arith)

none_behind : (ls : List (Bor (List Pattern))) (k : ℕ) → length ls ≤ k → [] ≡ get_or (lines_of ls) k []
none_behind [] k h = refl
none_behind (l ∷ ls) zero h = absurd (omega arith)
none_behind (l ∷ ls) (suc k) h = none_behind ls k (omega arith)

pub returns-then-at-lines : goal.returns-then-at-lines
returns-then-at-lines c = line_there c.args.lines.now c.from-at.result _ c.if-at-lines.true ∙ ap (λ (k : ℕ). get_or (lines_of c.args.lines.now) k []) c.from-at.ensures

pub returns-else-at-lines : goal.returns-else-at-lines
returns-else-at-lines c = none_behind c.args.lines.now c.from-at.result c.if-at-lines.false ∙ ap (λ (k : ℕ). get_or (lines_of c.args.lines.now) k []) c.from-at.ensures
