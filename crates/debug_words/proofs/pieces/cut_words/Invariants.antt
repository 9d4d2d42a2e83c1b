use Rattle.std.proofs.Common.{◌≡◌, ◌++◌, false, drop, map}
use Rattle.debug_words.specs.Pieces.{cut_words}
use Rattle.debug_words.proofs.pieces.cut_words.Given as goal

-- the words so far, and what comes of those that are left
abbrev pub invariant-words : goal.invariant-words
invariant-words l =
    map (λ word. word.now) l.found.items ++ cut_words l.behind (map (λ word. word.now) (drop l.word-index l.words))
    ≡ cut_words false (map (λ word. word.now) l.words)
