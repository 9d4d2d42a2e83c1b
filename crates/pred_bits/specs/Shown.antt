-- What the words of a predicate show.
use Rattle.std.specs.Prelude.{◌≡◌, ◌≤◌, Bool, List, length}
use Rattle.lane_model.specs.WordBits.{AreClearFrom, bits_of}
use Rattle.pred_bits.specs.declared.PredBits.TheInside.{Inside}

abbrev pub shown : Inside → List Bool
shown a = bits_of a.bits a.words

-- every bit at or above the number of bits is 0
pub record IsInside (a : Inside) : Type 0 where
  pub count : length a.words ≡ 4
  pub few : a.bits ≤ 256
  pub above : AreClearFrom a.bits a.words
