-- Reading is the inverse of showing: the items that a pattern shows of a word tell the word, so no other word that the
-- pattern shows has the same items. What stands here is this project's own.
use Rattle.std.specs.Prelude.{◌≡◌, ℕ, ◌^◌, ◌<◌, true, List, [], ◌∷◌}
use Rattle.text_model.specs.Slots.{items_in}
use Rattle.text_model.specs.Reading.{Pattern, all_canonical, word_told}
use Rattle.text_model.specs.ReadBack.{unaimed}
use Rattle.text_model.specs.Text.{shows}

-- A word that a statement with this pattern's name may stand for: the pattern shows it, its bitmasks and inverted
-- conditions are those that are written, and the bits of its target are 0.
pub record MayBeRead (p : Pattern) (w : ℕ) : Type 0 where
  pub word : w < 2 ^ 32
  pub shows : shows p w ≡ true
  pub canonical : all_canonical p.slots w ≡ true
  pub unaimed : unaimed p.slots w ≡ w

-- its items tell it
abbrev pub TellsItsWords : Pattern → Type 0
TellsItsWords p = (w : ℕ) → MayBeRead p w → word_told p (items_in p.slots w) ≡ w

abbrev pub AllTell : List Pattern → Type 0
AllTell [] = Unit {0}
AllTell (p ∷ ps) = TellsItsWords p × AllTell ps
