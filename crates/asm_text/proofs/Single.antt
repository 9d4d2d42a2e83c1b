-- One argument of a list: what stands behind it tells whether it is all that stands before the first comma.
use Rattle.std.proofs.Common.{◌≡◌, ℕ, zero, suc, ◌≤◌, ◌∙◌, Bool, true, false, List, [], Some, None, drop, slice_range, sym, arith}
use Rattle.std.specs.Str.{IsCharBoundary}
use Rattle.asm_text.proofs.Commas.{leads, last_part, part_before, part_past}
use Rattle.asm_text.proofs.Wholes.{behind}
use Rattle.asm_text.specs.Leading.{is_comma, part_of}
use Rattle.asm_text.specs.Stored.{IsLeading, IsPart}
use Rattle.listing_model.specs.Directives.{Argument, argument}
use Rattle.asm_tokens.specs.Places.{IsToken, AreTokens}
use Rattle.asm_tokens.specs.Tokens.{tokens}

forward : (n : ℕ) (text : List ℕ) (start past : ℕ) → AreTokens n text start past → start ≤ past
forward zero text start past h = omega (arith, h)
forward (suc n) text start past h = omega (arith, h.2.after, h.2.some, forward n text h.1 past h.3)

pub last : (labels : Bool) (text : List ℕ) (start past : ℕ) (a : Argument) → IsLeading labels text start a past → tokens (drop past text) ≡ []
    → IsPart labels text start a None
last labels text start past a h e =
    let ts : List (List ℕ) = tokens (drop start text) in
    let l = leads labels ts a h.count h.is in
    let p = last_part h.count ts l.reach (sym (behind h.count text start past h.behind) ∙ e) in
    record { is = l.whole_part p.0; rest = p.1 }

pub before_comma : (labels : Bool) (text : List ℕ) (start past first next : ℕ) (a : Argument) → IsLeading labels text start a past
    → IsToken text past first next → is_comma (slice_range text first next) ≡ true → IsCharBoundary text next → IsPart labels text start a (Some next)
before_comma labels text start past first next a h t c b =
    let ts : List (List ℕ) = tokens (drop start text) in
    let l = leads labels ts a h.count h.is in
    let p = part_before h.count ts (slice_range text first next) (tokens (drop next text)) l.reach (sym (behind h.count text start past h.behind) ∙ t.is) c in
    record {
      is = l.whole_part p.0;
      rest = (omega (arith, forward h.count text start past h.behind, t.after, t.some), t.within, b, p.1);
    }

pub past_argument : (labels : Bool) (text : List ℕ) (start past first next : ℕ) (a : Argument) → IsLeading labels text start a past
    → IsToken text past first next → is_comma (slice_range text first next) ≡ false → argument labels (part_of (tokens (drop start text))) ≡ None
past_argument labels text start past first next a h t c =
    let ts : List (List ℕ) = tokens (drop start text) in
    let l = leads labels ts a h.count h.is in
    l.longer_part (part_past h.count ts (slice_range text first next) (tokens (drop next text)) l.reach (sym (behind h.count text start past h.behind) ∙ t.is) c)
