-- The last symbol that ends_by an address, as a loop goes: one more symbol.
use Rattle.std.proofs.Common.{◌≡◌, ◌≤◌, ◌<◌, arith, lit≤, ℕ, ◌+◌, Bool, true, false, List, [], ◌∷◌, ◌++◌, length}
use Rattle.std.proofs.Common.{take, get_or, Option, Some, None, refl, sym, ap, ◌∙◌, if◌then◌else◌}
use Rattle.std.proofs.lemmas.List.{take_more}
use Rattle.elf_symbols.specs.declared.Symbol.{Symbol}
use Rattle.emu_system.specs.declared.image.Segment.{Segment}
use Rattle.tool_sites.specs.Beside.{start_above, last_ending, ends_by, or_this}

pub last_ending-nil : (address : ℕ) → last_ending address [] ≡ None
unfolding last_ending
last_ending-nil address = refl

or_this-if : (t : Bool) (y : Symbol) (found : Option Symbol) (address : ℕ) (s : Symbol)
    → or_this (if t then Some y else found) address s ≡ (if t then Some y else or_this found address s)
or_this-if true y found address s = refl
or_this-if false y found address s = refl

pub last_ending-push : (address : ℕ) (symbols : List Symbol) (y : Symbol) → last_ending address (symbols ++ y ∷ [])
    ≡ (if ends_by address y then Some y else last_ending address symbols)
unfolding last_ending
last_ending-push address [] y = refl
last_ending-push address (s ∷ symbols) y = rw (last_ending-push address symbols y) (or_this-if (ends_by address y) y
    (last_ending address symbols) address s)

pub last_ending-more : (address : ℕ) (symbols : List Symbol) (i : ℕ) (d : Symbol) → i < length symbols → last_ending
    address (take (i + 1) symbols)
    ≡ (if ends_by address (get_or symbols i d) then Some (get_or symbols i d) else last_ending address (take i symbols))
last_ending-more address symbols i d h = rw (take_more symbols i d h) (last_ending-push address (take i symbols)
    (get_or symbols i d))

pub last_ending-step : (address : ℕ) (symbols : List Symbol) (i : ℕ) (d : Symbol) (found result : Option Symbol) → i <
    length symbols → found ≡ last_ending address (take i symbols)
    → result ≡ (if ends_by address (get_or symbols i d) then Some (get_or symbols i d) else found) → result ≡
    last_ending address (take (i + 1) symbols)
last_ending-step address symbols i d found result h before e =
    e ∙ ap (λ x. if ends_by address (get_or symbols i d) then Some (get_or symbols i d) else x) before ∙ sym
    (last_ending-more address symbols i d h)

pub ruleset ending_steps = (last_ending-nil, last_ending-step)

-- no start is above the greatest number of 64 bits
pub start_least : (a : ℕ) (segments : List Segment) → start_above a segments ≤ 18446744073709551615
start_least a [] = lit≤ tt
start_least a (s ∷ segments) = let rest : start_above a segments ≤ 18446744073709551615 = start_least a segments in
    omega arith
