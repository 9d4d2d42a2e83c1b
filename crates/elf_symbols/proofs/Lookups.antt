-- The last symbol that reaches an address, as a loop goes: one more symbol.
use Rattle.std.proofs.Common.{◌≡◌, ◌<◌, ℕ, ◌+◌, Bool, true, false, List, [], ◌∷◌, ◌++◌, length, take, get_or, Option, Some, None, refl, sym, ap, ◌∙◌, if◌then◌else◌}
use Rattle.std.proofs.lemmas.List.{take_more}
use Rattle.elf_symbols.specs.declared.Symbol.{Symbol}
use Rattle.elf_symbols.specs.Lookup.{last_reaching, reaches, or_this}

pub last_reaching-nil : (address : ℕ) → last_reaching address [] ≡ None
unfolding last_reaching
last_reaching-nil address = refl

or_this-if : (t : Bool) (y : Symbol) (found : Option Symbol) (address : ℕ) (s : Symbol)
    → or_this (if t then Some y else found) address s ≡ (if t then Some y else or_this found address s)
or_this-if true y found address s = refl
or_this-if false y found address s = refl

pub last_reaching-push : (address : ℕ) (symbols : List Symbol) (y : Symbol) → last_reaching address (symbols ++ y ∷ [])
    ≡ (if reaches address y then Some y else last_reaching address symbols)
unfolding last_reaching
last_reaching-push address [] y = refl
last_reaching-push address (s ∷ symbols) y = rw (last_reaching-push address symbols y) (or_this-if (reaches address y) y (last_reaching address symbols) address s)

pub last_reaching-more : (address : ℕ) (symbols : List Symbol) (i : ℕ) (d : Symbol) → i < length symbols → last_reaching address (take (i + 1) symbols)
    ≡ (if reaches address (get_or symbols i d) then Some (get_or symbols i d) else last_reaching address (take i symbols))
last_reaching-more address symbols i d h = rw (take_more symbols i d h) (last_reaching-push address (take i symbols) (get_or symbols i d))

pub last_reaching-step : (address : ℕ) (symbols : List Symbol) (i : ℕ) (d : Symbol) (found result : Option Symbol) → i < length symbols → found ≡ last_reaching address (take i symbols)
    → result ≡ (if reaches address (get_or symbols i d) then Some (get_or symbols i d) else found) → result ≡ last_reaching address (take (i + 1) symbols)
last_reaching-step address symbols i d found result h before e =
    e ∙ ap (λ x. if reaches address (get_or symbols i d) then Some (get_or symbols i d) else x) before ∙ sym (last_reaching-more address symbols i d h)

pub ruleset lookup_steps = (last_reaching-nil, last_reaching-step)
