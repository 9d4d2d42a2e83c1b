use Rattle.std.proofs.Common.{◌≡◌, ◌+◌, ◌++◌, drop, map}
use Rattle.line_words.specs.Lines.{lines}
use Rattle.source_lines.specs.Texts.{numbered_from, seen_numbered}
use Rattle.source_lines.proofs.texts.numbered_lines.Given as goal

-- those that are there and those that are left are all
abbrev pub invariant-loop-place : goal.invariant-loop-place
invariant-loop-place l =
    map seen_numbered l.numbered.items ++ numbered_from (l.place + 1) (drop l.place (map (λ line. line.now) l.found.items))
    ≡ numbered_from 1 (lines l.fn.text)
