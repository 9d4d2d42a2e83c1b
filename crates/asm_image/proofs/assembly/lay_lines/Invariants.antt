use Rattle.std.proofs.Common.{◌-◌, length}
use Rattle.std.specs.Str.{IsCharBoundary}
use Rattle.asm_image.proofs.Assembled.{Laid}
use Rattle.asm_image.proofs.assembly.lay_lines.Given as goal

abbrev pub invariant-loop-at : goal.invariant-loop-at
invariant-loop-at g l =
    IsCharBoundary l.text l.at × Laid g.T.Instructions.statements g.T.Instructions.has_target l.text l.at l.number l.draft

abbrev pub decreases-loop-at : goal.decreases-loop-at
decreases-loop-at g l = length l.text - l.at
