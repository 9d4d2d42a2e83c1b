-- Two elements of 8 bytes, one behind the other in a page, as one access of 16.
use Rattle.std.proofs.Common.{◌≡◌, ◌<◌, ◌≤◌, ℕ, zero, suc, ◌+◌, ◌*◌, ◌/◌, ◌%◌, ◌^◌, Bool, true, false, List, [], ◌∷◌, Option, Some, None, Ok, nat_eq, if◌then◌else◌, refl, sym, ap, ◌∙◌, arith}
use Rattle.std.specs.FinMap.{get}
use Rattle.std.specs.Option.{option_map_or}
use Rattle.std.proofs.Math.Arith.{mod-mul}
use Rattle.std.proofs.Math.Nat.{pow-suc, div-div-eq-div-mul, one-le-pow}
use Rattle.emu_model.specs.declared.access.Access.{Access}
use Rattle.emu_model.specs.declared.access.Kind.{Kind}
use Rattle.emu_model.specs.declared.access.Kind.TheVariants.{Read, Write}
use Rattle.emu_model.specs.declared.trap.Effect.TheVariants.{Next}
use Rattle.emu_model.specs.declared.trap.TrapKind.TheVariants.{SpAlign}
use Rattle.emu_model.specs.Access.{Memory, address, allowed, gives, page_size, refused, stored, value, with_byte, byte_at}
use Rattle.emu_model.specs.AccessEquations.{stored-zero, stored-suc, value-zero, value-suc}
use Rattle.emu_model.specs.AccessLaws.{value_small}
use Rattle.emu_model.specs.Done.{traps}
use Rattle.emu_model.specs.Elements.{Element, Reach, accesses_of, reach, reach_from}
use Rattle.emu_model.specs.Lists.{each}
use Rattle.emu_model.specs.LoadsAndStores.{done_unless, kept_if}
use Rattle.emu_model.specs.SoundState.{IsSoundMemory}
use Rattle.emu_model.specs.State.{Core, Vectors, read_x, with_x}
use Rattle.emu_model.specs.WithinPage.{none_refused_within, refused_within}
use Rattle.a64_effects.specs.declared.transfer.Transfer.TheVariants.{Load, Store}
use Rattle.a64_effects.specs.LoadStore.{elements_from, is_misaligned, loaded_to, stored_to, transferred_by}
use Rattle.a64_flow.specs.AtOnce.{general}
use Rattle.a64_flow.specs.Ends.{done_with}

-- ---- a number of more bytes

more : (b x p z : ℕ) → b + 256 * (x + p * z) ≡ b + 256 * x + p * 256 * z
more b x p z = omega arith

value_split : (j n : ℕ) (m : Memory) (a : ℕ) → value m a (j + n) ≡ value m a j + 256 ^ j * value m (a + j) n
value_split zero n m a =
    let none : 0 + n ≡ n = omega arith in
    let here : a ≡ a + 0 = omega arith in
    let once : value m a n ≡ 0 + 1 * value m a n = omega arith in
    ap (value m a) none ∙ once ∙ ap (λ z. z + 1 * value m a n) (sym (value-zero m a)) ∙ ap (λ x. value m a 0 + 1 * value m x n) here
value_split (suc j) n m a =
    let longer : suc j + n ≡ suc (j + n) = omega arith in
    let next : a + 1 + j ≡ a + suc j = omega arith in
    let b : ℕ = byte_at m (address a) in
    ap (value m a) longer
    ∙ value-suc m a (j + n)
    ∙ ap (λ v. b + 256 * v) (value_split j n m (a + 1))
    ∙ more b (value m (a + 1) j) (256 ^ j) (value m (a + 1 + j) n)
    ∙ ap (λ x. b + 256 * value m (a + 1) j + 256 ^ j * 256 * value m x n) next
    ∙ ap (λ p. b + 256 * value m (a + 1) j + p * value m (a + suc j) n) (sym (pow-suc 256 j))
    ∙ ap (λ v. v + 256 ^ suc j * value m (a + suc j) n) (sym (value-suc m a j))

stored_split : (j n : ℕ) (m : Memory) (a v : ℕ) → stored m a (j + n) v ≡ stored (stored m a j v) (a + j) n (v / 256 ^ j)
stored_split zero n m a v =
    let none : 0 + n ≡ n = omega arith in
    let here : a ≡ a + 0 = omega arith in
    let whole : v ≡ v / 1 = omega arith in
    ap (λ k. stored m a k v) none ∙ ap (λ (x : Memory). stored x a n v) (sym (stored-zero m a v)) ∙ ap (λ x. stored (stored m a 0 v) x n v) here ∙ ap (λ x. stored (stored m a 0 v) (a + 0) n x) whole
stored_split (suc j) n m a v =
    let longer : suc j + n ≡ suc (j + n) = omega arith in
    let next : a + 1 + j ≡ a + suc j = omega arith in
    let first : Memory = with_byte m (address a) (v % 256) in
    let turned : 256 * 256 ^ j ≡ 256 ^ j * 256 = omega arith in
    ap (λ k. stored m a k v) longer
    ∙ stored-suc m a (j + n) v
    ∙ stored_split j n first (a + 1) (v / 256)
    ∙ ap (λ x. stored (stored first (a + 1) j (v / 256)) x n (v / 256 / 256 ^ j)) next
    ∙ ap (λ x. stored (stored first (a + 1) j (v / 256)) (a + suc j) n x) (div-div-eq-div-mul v 256 (256 ^ j) ∙ ap (λ k. v / k) (turned ∙ sym (pow-suc 256 j)))
    ∙ ap (λ (x : Memory). stored x (a + suc j) n (v / 256 ^ suc j)) (sym (stored-suc m a j v))

-- a store of n bytes looks at the lowest n of a number
stored_low : (n : ℕ) (m : Memory) (a v : ℕ) → stored m a n (v % 256 ^ n) ≡ stored m a n v
stored_low zero m a v = stored-zero m a (v % 256 ^ 0) ∙ sym (stored-zero m a v)
stored_low (suc n) m a v =
    let low : ℕ = v % 256 ^ suc n in
    let some : 0 < 256 ^ n = one-le-pow n 256 (omega arith) in
    let parts : low ≡ (v / 256 % 256 ^ n) * 256 + v % 256 = ap (λ k. v % k) (pow-suc 256 n) ∙ mod-mul v {m = 256 ^ n} {c = 256} some (omega arith) in
    let first : low % 256 ≡ v % 256 = omega (arith, parts) in
    let rest : low / 256 ≡ v / 256 % 256 ^ n = omega (arith, parts) in
    stored-suc m a n low
    ∙ ap (λ b. stored (with_byte m (address a) b) (a + 1) n (low / 256)) first
    ∙ ap (λ x. stored (with_byte m (address a) (v % 256)) (a + 1) n x) rest
    ∙ stored_low n (with_byte m (address a) (v % 256)) (a + 1) (v / 256)
    ∙ sym (stored-suc m a n v)

-- what was done was refused nowhere
pub done_is : {A : Type 0} (o : Option ℕ) (kind : Kind) (x y : A) → Ok x ≡ done_unless o kind y → (o ≡ None) × (x ≡ y)
done_is None kind x y is = (refl, cc)
done_is (Some a) kind x y is = cc

-- and a store that was done is in memory
pub stored_by : (o : Option ℕ) (m left new : Memory) → o ≡ None → left ≡ kept_if o new m → left ≡ new
stored_by o m left new none is = is ∙ ap (λ x. kept_if x new m) none

given_by : (b : Bool) (a : ℕ) → (if b then None else Some a) ≡ None → b ≡ true
given_by true a h = refl
given_by false a h = cc

-- ---- both elements

module _ (m : Memory) (a : ℕ) (word : a < 2 ^ 64) (fits : a % page_size + 16 ≤ page_size) where
  near : address (a + 8) ≡ a + 8
  near = omega arith

  module _ (kind : Kind) (granted : refused m a 16 kind ≡ None) where
    first_gives : allowed m kind a ≡ true
    first_gives = given_by (allowed m kind a) a (sym (refused_within m a 16 word fits kind (omega arith)) ∙ granted)

    second_gives : allowed m kind (a + 8) ≡ true
    second_gives =
        let same : (a + 8) / page_size ≡ a / page_size = omega arith in
        ap (λ page. option_map_or (λ p. gives p.rights kind) (get m.pages page) false) same ∙ first_gives

    first : refused m a 8 kind ≡ None
    first = none_refused_within m a 8 word (omega arith) kind first_gives

    second : refused m (address (a + 8)) 8 kind ≡ None
    second = ap (λ x. refused m x 8 kind) near ∙ none_refused_within m (a + 8) 8 (omega arith) (omega arith) kind second_gives

    reached : (t u : ℕ) → reach m kind (elements_from (t ∷ u ∷ []) a 8) ≡ record { done = elements_from (t ∷ u ∷ []) a 8; stop = None }
    reached t u =
        let none : Reach = record { done = []; stop = None } in
        let e : Element = record { lane = 0; register = t; address = a; bytes = 8 } in
        let f : Element = record { lane = 0; register = u; address = address (a + 8); bytes = 8 } in
        ap (λ o. reach_from o e (reach_from (refused m (address (a + 8)) 8 kind) f none)) first ∙ ap (λ o. reach_from None e (reach_from o f none)) second

  logged : (write : Bool) (t u : ℕ) → each 2 (λ i. record { address = address (a + i * 8); bytes = 8; write = write }) ≡ accesses_of write (elements_from (t ∷ u ∷ []) a 8)
  logged write t u =
      let small : address (a + 0) ≡ a = omega arith in
      ap (λ x. record { address = x; bytes = 8; write = write } ∷ record { address = address (a + 8); bytes = 8; write = write } ∷ []) small

  module _ (t u n : ℕ) (c : Core) (straight : is_misaligned (nat_eq n 31) c ≡ false) (log : List Access) where
    pub couple_loaded : IsSoundMemory m → refused m a 16 Read ≡ None → (v : ℕ) → v ≡ value m a 16 → (d e : Core) → d ≡ with_x c t 64 (v % 2 ^ 64) → e ≡ with_x d u 64 (v / 2 ^ 64)
        → (left : Memory) → left ≡ m → log ≡ each 2 (λ i. record { address = address (a + i * 8); bytes = 8; write = false })
        → (w : Vectors) (after : Core → Core) → transferred_by (general Load (t ∷ u ∷ []) n a 8 after) c w m ≡ done_with after e w left log
    couple_loaded sound granted v is d e one two left same log_is = λ w after.
        let both = value_split 8 8 m a in
        let small = value_small 8 m a sound in
        let low : value m a 8 ≡ v % 2 ^ 64 = omega (arith, both, small, is) in
        let high : value m (a + 8) 8 ≡ v / 2 ^ 64 = omega (arith, both, small, is) in
        let made : with_x (with_x c t 64 (value m a 8)) u 64 (value m (address (a + 8)) 8) ≡ e =
        ap (λ x. with_x (with_x c t 64 x) u 64 (value m (address (a + 8)) 8)) low
        ∙ ap (λ x. with_x (with_x c t 64 (v % 2 ^ 64)) u 64 (value m x 8)) near
        ∙ ap (λ x. with_x (with_x c t 64 (v % 2 ^ 64)) u 64 x) high
        ∙ ap (λ (x : Core). with_x x u 64 (v / 2 ^ 64)) (sym one)
        ∙ sym two in
        ap (λ b. if b then traps c w m SpAlign c.sp else loaded_to Load (reach m Read (elements_from (t ∷ u ∷ []) a 8)) after c w m) straight
        ∙ ap (λ (r : Reach). loaded_to Load r after c w m) (reached Read granted t u)
        ∙ ap (λ (x : Core). record { core = after x; vectors = w; memory = m; accesses = accesses_of false (elements_from (t ∷ u ∷ []) a 8); effect = Next }) made
        ∙ ap (λ (x : Memory). record { core = after e; vectors = w; memory = x; accesses = accesses_of false (elements_from (t ∷ u ∷ []) a 8); effect = Next }) (sym same)
        ∙ ap (λ (x : List Access). record { core = after e; vectors = w; memory = left; accesses = x; effect = Next }) (sym (log_is ∙ logged false t u))

    pub couple_stored : refused m a 16 Write ≡ None → (v : ℕ) → read_x c t ≡ v % 2 ^ 64 → read_x c u ≡ v / 2 ^ 64
        → (left : Memory) → left ≡ stored m a 16 v → log ≡ each 2 (λ i. record { address = address (a + i * 8); bytes = 8; write = true })
        → (w : Vectors) (after : Core → Core) → transferred_by (general Store (t ∷ u ∷ []) n a 8 after) c w m ≡ done_with after c w left log
    couple_stored granted v low high left is log_is = λ w after.
        let made : stored (stored m a 8 (read_x c t)) (address (a + 8)) 8 (read_x c u) ≡ left =
        ap (λ x. stored (stored m a 8 x) (address (a + 8)) 8 (read_x c u)) low
        ∙ ap (λ (x : Memory). stored x (address (a + 8)) 8 (read_x c u)) (stored_low 8 m a v)
        ∙ ap (λ x. stored (stored m a 8 v) x 8 (read_x c u)) near
        ∙ ap (λ x. stored (stored m a 8 v) (a + 8) 8 x) high
        ∙ sym (stored_split 8 8 m a v)
        ∙ sym is in
        ap (λ b. if b then traps c w m SpAlign c.sp else stored_to Store (reach m Write (elements_from (t ∷ u ∷ []) a 8)) after c w m) straight
        ∙ ap (λ (r : Reach). stored_to Store r after c w m) (reached Write granted t u)
        ∙ ap (λ (x : Memory). record { core = after c; vectors = w; memory = x; accesses = accesses_of true (elements_from (t ∷ u ∷ []) a 8); effect = Next }) made
        ∙ ap (λ (x : List Access). record { core = after c; vectors = w; memory = left; accesses = x; effect = Next }) (sym (log_is ∙ logged true t u))
