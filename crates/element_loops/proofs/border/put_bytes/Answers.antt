use Rattle.std.proofs.Common.{◌≡◌, ◌<◌, ◌+◌, ◌^◌, ℕ, zero, suc, Bool, true, false, Some, None, if◌then◌else◌, length, refl, sym, ap, ◌∙◌, arith}
use Rattle.emu_model.specs.declared.access.Kind.TheVariants.{Write}
use Rattle.emu_model.specs.Access.{Memory, address, allowed, refused}
use Rattle.emu_model.specs.AccessEquations.{refused-suc}
use Rattle.emu_model.specs.WithinPage.{none_refused_within}
use Rattle.guest_mem.specs.Slices.{to_page_end}
use Rattle.element_loops.proofs.border.put_bytes.Goals as goal

some_allowed : (t : Bool) (x n : ℕ) → Some x ≡ (if t then Some n else None) → t ≡ true
some_allowed true x n h = refl
some_allowed false x n h = cc

none_allowed : (t : Bool) (x : ℕ) → None ≡ (if t then Some x else None) → t ≡ false
none_allowed true x h = cc
none_allowed false x h = refl

first_allowed : (n : ℕ) (m : Memory) (a : ℕ) → 0 < n → a < 2 ^ 64 → refused m a n Write ≡ None → allowed m Write a ≡ true
first_allowed zero m a h word none = absurd (omega arith)
first_allowed (suc n) m a h word none =
    let here : address a ≡ a = omega arith in
    ap (λ a. allowed m Write a) (sym here)
    ∙ elim (allowed m Write (address a)) as (λ t. (if t then refused m (a + 1) n Write else Some (address a)) ≡ None → t ≡ true) [
      | true ↦ λ e. refl
      | false ↦ λ e. cc
    ] (sym (refused-suc m a n Write) ∙ none)

pub returns-in-None-clause-sure : goal.returns-in-None-clause-sure
returns-in-None-clause-sure c = λ some none.
    let yes : allowed c.args.mem.now.memory Write c.args.at ≡ true = first_allowed (length c.args.bytes.now) c.args.mem.now.memory c.args.at some c.ranges.at.fits none in
    let no : allowed c.args.mem.now.memory Write c.args.at ≡ false = none_allowed (allowed c.args.mem.now.memory Write c.args.at) (to_page_end c.args.at (length c.args.bytes.now)) c.in-None.ensures.count in
    cc

pub returns-in-Some-clause-allowed : goal.returns-in-Some-clause-allowed
returns-in-Some-clause-allowed c = λ is.
    none_refused_within c.args.mem.now.memory c.args.at (length c.args.bytes.now) c.ranges.at.fits c.requires Write
    (some_allowed (allowed c.args.mem.now.memory Write c.args.at) c.in-Some.field-0 (to_page_end c.args.at (length c.args.bytes.now)) c.in-Some.ensures.count)
