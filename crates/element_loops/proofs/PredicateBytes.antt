-- The bytes of predicates, each of eight bits.
use Rattle.std.proofs.Common.{◌≡◌, ◌<◌, ◌≤◌, ◌+◌, ◌*◌, ◌/◌, ◌%◌, ◌^◌, ℕ, zero, suc, Bool, true, false, nat_eq, List, [], ◌++◌, get_or, take, length, inl, inr, refl, sym, ap, ◌∙◌, arith}
use Rattle.std.specs.Int.{bytes_low_first}
use Rattle.std.proofs.lemmas.Nat.{mod-pow-add}
use Rattle.std.proofs.lemmas.Bool.{cases_lt}
use Rattle.std.proofs.lemmas.List.{get_or_past}
use Rattle.std.proofs.lemmas.Nat.Bits.{bit_at-zero}
use Rattle.emu_bits.specs.Fields.{bit}
use Rattle.emu_bits.specs.Operations.{number_of_bits}
use Rattle.emu_model.specs.declared.access.Access.{Access}
use Rattle.emu_model.specs.Access.{Memory, address, value}
use Rattle.emu_model.specs.Elements.{accesses_of}
use Rattle.emu_model.specs.SoundState.{IsVectorLength}
use Rattle.emu_model.specs.Lists.{each}
use Rattle.emu_model.specs.ListLaws.{each_same, get_or-each}
use Rattle.emu_model.specs.Pages.{bytes_at}
use Rattle.emu_model.specs.State.{Vectors}
use Rattle.emu_model.specs.WithinPage.{number_in}
use Rattle.emu_model.specs.Lanes.{read_p, with_p, byte_in}
use Rattle.vec_regs.specs.Words.{bit_of, bits_of, byte_of, AreClearFrom}
use Rattle.sve_effects.specs.VectorElements.{elements_of}
use Rattle.sve_effects.specs.VectorLoadStore.{with_loaded_bits}
use Rattle.active_lanes.specs.Placed.{lane_at}
use Rattle.element_loops.specs.declared.plan.Plan.{Plan}
use Rattle.element_loops.specs.declared.plan.OnLanes.{OnLanes}
use Rattle.element_loops.specs.declared.plan.Target.TheVariants.{Predicate}
use Rattle.element_loops.specs.Layouts.{IsPredicate, is_on_of, layout_of}
use Rattle.element_loops.specs.Planned.{stored_by}
use Rattle.element_loops.specs.Runs.{IsLine, AreFilled, stored_in_turn}
use Rattle.active_lanes.proofs.FieldBits.{bit_within}
use Rattle.element_loops.proofs.RunLoads.{element_value}
use Rattle.element_loops.proofs.RunNotes.{placed_at, one_place, noted_below}

-- ---- bits of bytes

-- bit j of byte k
byte_bit : (words : List ℕ) (k j : ℕ) → j < 8 → nat_eq (byte_of 8 words k / 2 ^ j % 2) 1 ≡ bit_of words (8 * k + j)
byte_bit words k j h =
    let q : (8 * k + j) / 64 ≡ k / 8 = omega arith in
    let r : (8 * k + j) % 64 ≡ 8 * (k % 8) + j = omega arith in
    ap (λ x. nat_eq x 1) (bit_within (get_or words (k / 8) 0) (8 * (k % 8)) j h)
    ∙ ap (λ s. nat_eq (get_or words (k / 8) 0 / 2 ^ s % 2) 1) (sym r)
    ∙ ap (λ i. nat_eq (get_or words i 0 / 2 ^ ((8 * k + j) % 64) % 2) 1) (sym q)

pub bits_of_placed : (bs words : List ℕ) → ((i : ℕ) → i < 8 * 4 → byte_of 8 words i ≡ byte_in (8 / 8) (lane_at false 8 1 bs 0 1) i)
    → (j : ℕ) → j < 256 → bit_of words j ≡ nat_eq (get_or bs (j / 8) 0 / 2 ^ (j % 8) % 2) 1
bits_of_placed bs words is j h =
    let i : ℕ = j / 8 in
    let place : 8 * (j / 8) + j % 8 ≡ j = omega arith in
    let inside : j / 8 < 8 * 4 = omega arith in
    let spot : 0 + j / 8 / 1 * 1 ≡ j / 8 = omega arith in
    let low : j % 8 < 8 = omega arith in
    let rest : 8 * (j / 8 % 1) + j % 8 ≡ j % 8 = omega arith in
    let whole : get_or bs (j / 8) 0 + 256 * 0 ≡ get_or bs (j / 8) 0 = omega arith in
    ap (bit_of words) (sym place) ∙ sym (byte_bit words i (j % 8) low)
    ∙ ap (λ x. nat_eq (x / 2 ^ (j % 8) % 2) 1) (is i inside)
    ∙ ap (λ a. nat_eq (number_in bs a 1 / 2 ^ (8 * (i % 1)) % 256 / 2 ^ (j % 8) % 2) 1) spot
    ∙ ap (λ x. nat_eq (x / 2 ^ (8 * (i % 1)) % 256 / 2 ^ (j % 8) % 2) 1) whole
    ∙ ap (λ x. nat_eq x 1) (bit_within (get_or bs i 0) (8 * (i % 1)) (j % 8) low)
    ∙ ap (λ s. nat_eq (get_or bs i 0 / 2 ^ s % 2) 1) rest

-- ---- a predicate that is loaded

module _ (pt base pg whole : ℕ) (p : Plan) (v : Vectors) (line : IsLine base pg whole p v) (is : IsPredicate pt p v) where
  pub byte_place : (k : ℕ) → (layout_of p v).address k 0 ≡ address (base + k)
  byte_place k = let some : 0 < p.registers = omega (arith, is.one) in placed_at base p v line.placed k 0 some ∙ ap (λ x. address (base + x)) (one_place k p.registers p.bytes is.one is.bytes)

  pub all_bytes : p.lanes * p.registers * p.bytes ≡ v.bits / 64
  all_bytes =
      let e : v.bits / 64 * 1 * 1 ≡ v.bits / 64 = omega arith in
      ap (λ n. n * p.registers * p.bytes) is.lanes ∙ ap (λ r. v.bits / 64 * r * p.bytes) is.one ∙ ap (λ n. v.bits / 64 * 1 * n) is.bytes ∙ e

  pub all_on : (k : ℕ) → k < p.lanes → (layout_of p v).is_on k ≡ true
  all_on k h = ap (λ (o : OnLanes). is_on_of o p.bits v k) is.on

  pub lanes_once : v.bits / 64 ≡ p.lanes * p.registers
  lanes_once = let e : v.bits / 64 ≡ v.bits / 64 * 1 = omega arith in e ∙ ap (λ n. n * 1) (sym is.lanes) ∙ ap (λ r. p.lanes * r) (sym is.one)

  pub bytes_noted : (w : Bool) (before log : List Access) → before ≡ [] → log ≡ before ++ each (v.bits / 64) (λ i. record { address = address (base + i * 1); bytes = 1; write = w })
      → log ≡ accesses_of w (elements_of (layout_of p v))
  bytes_noted w before log empty noted =
      noted ∙ ap (λ (l : List Access). l ++ each (v.bits / 64) (λ (i : ℕ). let x : Access = record { address = address (base + i * 1); bytes = 1; write = w } in x)) empty
      ∙ ap (λ n. each n (λ (i : ℕ). let x : Access = record { address = address (base + i * 1); bytes = 1; write = w } in x)) lanes_once
      ∙ ap (λ n. each (p.lanes * p.registers) (λ (i : ℕ). let x : Access = record { address = address (base + i * n); bytes = n; write = w } in x)) (sym is.bytes)
      ∙ sym (noted_below base pg whole p v line w p.lanes all_on)

  pub bits_loaded : (m : Memory) (bs words : List ℕ) → IsVectorLength v.bits → ((j : ℕ) → j < v.bits / 64 → get_or bs j 0 ≡ get_or (bytes_at m base (v.bits / 64)) j 0)
      → ((j : ℕ) → j < 256 → bit_of words j ≡ nat_eq (get_or bs (j / 8) 0 / 2 ^ (j % 8) % 2) 1) → with_p v pt (bits_of (v.bits / 8) words) ≡ with_loaded_bits (layout_of p v) m v
  bits_loaded m bs words l are is_bit =
      ap (with_p v pt) (each_same (v.bits / 8) (bit_of words) (λ j. nat_eq (value m ((layout_of p v).address (j / 8) 0) 1 / 2 ^ (j % 8) % 2) 1) false at)
      ∙ ap (λ r. with_p v r (each (v.bits / 8) (λ j. nat_eq (value m ((layout_of p v).address (j / 8) 0) 1 / 2 ^ (j % 8) % 2) 1))) (sym is.register) where
        number : (k : ℕ) → k < v.bits / 64 → value m ((layout_of p v).address k 0) 1 ≡ get_or (bytes_at m base (v.bits / 64)) k 0
        number k h =
            let fits : k + 1 ≤ v.bits / 64 = omega arith in
            let one : get_or (bytes_at m base (v.bits / 64)) k 0 + 256 * 0 ≡ get_or (bytes_at m base (v.bits / 64)) k 0 = omega arith in
            ap (λ a. value m a 1) (byte_place k) ∙ element_value m base (v.bits / 64) k 1 fits ∙ one

        at : (j : ℕ) → j < v.bits / 8 → bit_of words j ≡ nat_eq (value m ((layout_of p v).address (j / 8) 0) 1 / 2 ^ (j % 8) % 2) 1
        at j h =
            let most : v.bits ≤ 2048 = l.most in
            let within : j < 256 = omega arith in
            let byte : j / 8 < v.bits / 64 = omega arith in
            is_bit j within ∙ ap (λ x. nat_eq (x / 2 ^ (j % 8) % 2) 1) (are (j / 8) byte ∙ sym (number (j / 8) byte))

-- no bit behind the bytes
pub bits_clear : (n : ℕ) (bs words : List ℕ) → length words ≡ 4 → n % 16 ≡ 0 → ((k : ℕ) → n / 8 ≤ k → get_or bs k 0 ≡ 0)
    → ((j : ℕ) → j < 256 → bit_of words j ≡ nat_eq (get_or bs (j / 8) 0 / 2 ^ (j % 8) % 2) 1) → AreClearFrom n words
bits_clear n bs words count whole none is j h = elim (cases_lt j 256) [
  | inl less ↦
      let past : n / 8 ≤ j / 8 = omega arith in
      is j less ∙ ap (λ x. nat_eq (x / 2 ^ (j % 8) % 2) 1) (none (j / 8) past) ∙ zero_bit (j % 8)
  | inr most ↦
      let outside : length words ≤ j / 64 = omega arith in
      ap (λ x. nat_eq (x / 2 ^ (j % 64) % 2) 1) (get_or_past words (j / 64) 0 outside) ∙ zero_bit (j % 64)
] where
  zero_bit : (s : ℕ) → nat_eq (0 / 2 ^ s % 2) 1 ≡ false
  zero_bit s = ap (λ x. nat_eq x 1) (bit_at-zero s)

-- ---- a predicate that is stored

bit_value : (x : ℕ) → x < 2 → bit (nat_eq x 1) ≡ x
bit_value zero h = refl
bit_value (suc zero) h = refl
bit_value (suc (suc x)) h = absurd (omega arith)

-- bits as a number
bits_number : (n x : ℕ) (f : ℕ → ℕ) → ((j : ℕ) → j < n → f j ≡ bit (nat_eq (x / 2 ^ j % 2) 1)) → number_of_bits n f ≡ x % 2 ^ n
unfolding number_of_bits
bits_number zero x f is = let one : x % 1 ≡ 0 = omega arith in sym one
bits_number (suc n) x f is =
    let small : x / 2 ^ n % 2 < 2 = omega arith in
    let here : f n ≡ x / 2 ^ n % 2 = is n (omega arith) ∙ bit_value (x / 2 ^ n % 2) small in
    let turned : number_of_bits n f + f n * 2 ^ n ≡ f n * 2 ^ n + number_of_bits n f = omega arith in
    let more : 1 + n ≡ suc n = omega arith in
    turned ∙ ap (λ y. y * 2 ^ n + number_of_bits n f) here ∙ ap (λ y. (x / 2 ^ n % 2) * 2 ^ n + y) (bits_number n x f (λ j h. is j (omega arith)))
    ∙ sym (mod-pow-add x 1 n) ∙ ap (λ k. x % 2 ^ k) more

pub byte_number : (n k : ℕ) (p : List Bool) (words : List ℕ) → p ≡ bits_of n words → 8 * k + 8 ≤ n → number_of_bits 8 (λ j. bit (get_or p (8 * k + j) false)) ≡ byte_of 8 words k
byte_number n k p words is room =
    let small : byte_of 8 words k % 256 ≡ byte_of 8 words k = omega arith in
    bits_number 8 (byte_of 8 words k) (λ j. bit (get_or p (8 * k + j) false))
    (λ j h.
    let within : 8 * k + j < n = omega arith in
    ap bit (ap (λ (p : List Bool). get_or p (8 * k + j) false) is ∙ get_or-each n (bit_of words) (8 * k + j) false within ∙ sym (byte_bit words k j h)))
    ∙ small

first_byte : (x : ℕ) → x < 256 → get_or (take 1 (bytes_low_first 0 8 x)) 0 0 ≡ x
first_byte x h = let e : x % 256 ≡ x = omega arith in e

pub bits_filled : (pt : ℕ) (p : Plan) (v : Vectors) (bs words : List ℕ) → IsPredicate pt p v → pt < 16 → IsVectorLength v.bits → read_p v pt ≡ bits_of (v.bits / 8) words
    → ((k : ℕ) → k < 32 → get_or bs k 0 ≡ byte_of 8 words k) → AreFilled p.bytes (stored_in_turn (stored_by (Predicate pt) (layout_of p v) v) p v) (p.lanes * p.registers) bs
bits_filled pt p v bs words is few l shown are i t h b =
    let lanes : p.lanes * p.registers ≡ v.bits / 64 * 1 = ap (λ n. n * p.registers) is.lanes ∙ ap (λ r. v.bits / 64 * r) is.one in
    let one : p.bytes ≡ 1 = is.bytes in
    let first : t ≡ 0 = omega arith in
    let most : v.bits ≤ 2048 = l.most in
    let multiple : v.bits % 128 ≡ 0 = l.multiple in
    let within : i < v.bits / 64 = omega arith in
    let inside : i < 32 = omega arith in
    let room : 8 * i + 8 ≤ v.bits / 8 = omega arith in
    let place : i * 1 + 0 ≡ i = omega arith in
    let lane : i / 1 ≡ i = omega arith in
    let register : (pt + i % 1) % 32 ≡ pt = omega arith in
    let small : byte_of 8 words i < 256 = omega arith in
    let X : ℕ → ℕ → ℕ = λ r k. number_of_bits 8 (λ j. bit (get_or (read_p v r) (8 * k + j) false)) in
    let value_is : X ((p.register + i % p.registers) % 32) (i / p.registers) ≡ byte_of 8 words i
    = ap (λ n. X ((p.register + i % n) % 32) (i / n)) is.one ∙ ap (λ r. X ((r + i % 1) % 32) (i / 1)) is.register ∙ ap (λ r. X r (i / 1)) register ∙ ap (X pt) lane
    ∙ byte_number (v.bits / 8) i (read_p v pt) words shown room in
    ap (λ n. get_or bs (i * n + t) 0) one ∙ ap (λ t. get_or bs (i * 1 + t) 0) first ∙ ap (λ k. get_or bs k 0) place ∙ are i inside
    ∙ sym (ap (λ n. get_or (take n (bytes_low_first 0 8 (X ((p.register + i % p.registers) % 32) (i / p.registers)))) t 0) one
    ∙ ap (λ t. get_or (take 1 (bytes_low_first 0 8 (X ((p.register + i % p.registers) % 32) (i / p.registers)))) t 0) first
    ∙ ap (λ x. get_or (take 1 (bytes_low_first 0 8 x)) 0 0) value_is ∙ first_byte (byte_of 8 words i) small)
