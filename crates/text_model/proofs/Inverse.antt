-- The items that a pattern shows of a word tell the word.
use Rattle.std.proofs.Common.{◌≡◌, ℕ, Bool, true, List, [], ◌∷◌, refl, subst}
use Rattle.std.proofs.lemmas.Bool.{and_parts}
use Rattle.text_model.specs.Reading.{Pattern}
use Rattle.text_model.specs.ReadBack.{unaimed}
use Rattle.text_model.specs.Inverse.{TellsItsWords, AllTell}
use Rattle.text_model.proofs.Tests.{is_readable, all_readable, is_aimed_well, all_aimed_well}
use Rattle.text_model.proofs.Own.{IsShown, told_again}
use Rattle.text_model.proofs.Printed.{shown_unaimed}

-- a table of all words
abbrev any : ℕ → Bool
any w = true

tells : (p : Pattern) → is_readable p ≡ true → is_aimed_well p ≡ true → TellsItsWords p
tells p r a w h =
    let s : IsShown any p (unaimed p.slots w) =
    shown_unaimed any p w a (record { word = h.word; shows = h.shows; canonical = h.canonical; held = refl }) in
    told_again p w any r (subst (IsShown any p) h.unaimed s)

pub all_tell : (ps : List Pattern) → all_readable ps ≡ true → all_aimed_well ps ≡ true → AllTell ps
all_tell [] r a = tt
all_tell (p ∷ ps) r a =
    let r2 = and_parts (is_readable p) (all_readable ps) r in
    let a2 = and_parts (is_aimed_well p) (all_aimed_well ps) a in
    (tells p r2.0 a2.0, all_tell ps r2.1 a2.1)
