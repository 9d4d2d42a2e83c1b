use Rattle.std.proofs.Common.{◌≡◌, ℕ, suc, ◌+◌, ◌-◌, Bool, false, Some, List, if◌then◌else◌, sym, ap, ◌∙◌, arith}
use Rattle.emu_model.specs.Access.{Memory, address}
use Rattle.memory_finds.specs.Finds.{first_at, stand_at}
use Rattle.memory_finds.proofs.finds.next_found.Goals as goal

-- where they don't stand at an address, what is found is what is found behind it
first_behind : (m : Memory) (bytes : List ℕ) (a n : ℕ) → stand_at m a bytes ≡ false → first_at m bytes a (suc n) ≡ first_at m bytes (address (a + 1)) n
unfolding first_at
first_behind m bytes a n absent = ap (λ (b : Bool). if b then Some a else first_at m bytes (address (a + 1)) n) absent

pub addresses-preserved : goal.addresses-preserved
addresses-preserved c =
    let m : Memory = c.args.mem.now.memory in
    let bytes : List ℕ = c.args.bytes.now in
    let at : ℕ = c.addresses.at in
    let some = c.addresses-test.true in
    let more : c.addresses.left ≡ suc (c.addresses.left - 1) = omega arith in
    sym (ap (λ (n : ℕ). first_at m bytes at n) more ∙ first_behind m bytes at (c.addresses.left - 1) (sym c.stand_at.ensures ∙ c.if-stand_at.false))
    ∙ c.addresses.invariant
