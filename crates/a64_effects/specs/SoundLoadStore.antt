-- Loads and stores keep the registers and the memory sound.
use Rattle.std.specs.Prelude.{ℕ, ◌*◌, ◌%◌, Bool, true, false, not, List, [], ◌∷◌, Option, Some, None, IfSome, nat_eq, if◌then◌else◌}
use Rattle.std.proofs.Common.{arith}
use Rattle.emu_bits.specs.Fields.{bit}
use Rattle.emu_model.specs.declared.access.Kind.TheVariants.{Read as ReadKind, Write as WriteKind}
use Rattle.emu_model.specs.declared.trap.TrapKind.TheVariants.{SpAlign, AccessAlign, Read, Write}
use Rattle.emu_model.specs.Access.{Memory, value}
use Rattle.emu_model.specs.Sound.{with_x_sound, with_x_sp_sound, monitor_sound}
use Rattle.emu_model.specs.State.{Core, Vectors, with_x}
use Rattle.emu_model.specs.SoundState.{IsWord, IsSoundCore, IsSoundVectors, IsSoundMemory}
use Rattle.emu_model.specs.Done.{Done, Registers, leaves, traps}
use Rattle.emu_model.specs.Lanes.{with_low}
use Rattle.emu_model.specs.SoundLanes.{sound_low}
use Rattle.emu_model.specs.Elements.{Element, Reach, reach, with_stored, accesses_of}
use Rattle.emu_model.specs.SoundElements.{stop_is_word, with_stored_sound}
use Rattle.a64_effects.specs.declared.transfer.Transfer.{Transfer}
use Rattle.a64_effects.specs.declared.transfer.Transfer.TheVariants.{Store, Load, LoadSigned, LoadSigned32, Prefetch, StoreVector, LoadVector}
use Rattle.a64_effects.specs.LoadStore.{Transferring, Exchanging, elements_from, is_misaligned, unless_multiple, misaligned, loaded_value, is_vector, with_element, with_loaded, stored_value, written_back, written_back_if, keeping, after_exclusive, behind_load, stored_to, loaded_to, transferred, unless_misaligned, tested, transferred_by, exchanged_by}
use Rattle.a64_effects.specs.Atomic.{one_step}
use Rattle.emu_model.specs.SoundDone.{IsSoundDone, IsSoundRegisters, traps_sound, as_far_sound}
use Rattle.a64_effects.specs.SoundAtomic.{one_step_sound}

-- ---- what is loaded

with_element_sound : (transfer : Transfer) (rt n v : ℕ) (r : Registers) → IsSoundRegisters r → IsSoundRegisters (with_element transfer rt n v r)
with_element_sound transfer rt n v r s = elim (is_vector transfer) as (λ b. IsSoundRegisters (if b then record { core = r.core; vectors = with_low (8 * n) v rt r.vectors } else record { core = with_x r.core rt 64 (loaded_value transfer n v); vectors = r.vectors })) [
  | true ↦ record { core = s.core; vectors = sound_low (8 * n) v rt r.vectors s.vectors }
  | false ↦ record { core = with_x_sound r.core rt 64 (loaded_value transfer n v) (omega arith) s.core; vectors = s.vectors }
]

with_loaded_sound : (transfer : Transfer) (m : Memory) (es : List Element) (r : Registers) → IsSoundRegisters r → IsSoundRegisters (with_loaded transfer m es r)
with_loaded_sound transfer m [] r s = s
with_loaded_sound transfer m (e ∷ es) r s =
    let v : ℕ = value m e.address e.bytes in
    with_loaded_sound transfer m es (with_element transfer e.register e.bytes v r) (with_element_sound transfer e.register e.bytes v r s)

-- ---- what stands behind an access

pub written_back_sound : (rn a : ℕ) (c : Core) → IsSoundCore c → IsSoundCore (written_back rn a c)
written_back_sound rn a c s = with_x_sp_sound c rn 64 a (omega arith) s

pub written_back_if_sound : (writes : Bool) (rn a : ℕ) (c : Core) → IsSoundCore c → IsSoundCore (written_back_if writes rn a c)
written_back_if_sound true rn a c s = written_back_sound rn a c s
written_back_if_sound false rn a c s = s

pub keeping_sound : (a n : ℕ) → IsWord a → (c : Core) → IsSoundCore c → IsSoundCore (keeping a n c)
keeping_sound a n w c s = monitor_sound c (Some (a, n)) w s

pub after_exclusive_sound : (rs : ℕ) (done : Bool) (c : Core) → IsSoundCore c → IsSoundCore (after_exclusive rs done c)
after_exclusive_sound rs done c s =
    let v : ℕ = bit (not done) in
    monitor_sound (with_x c rs 32 v) None tt (with_x_sound c rs 32 v (omega arith) s)

-- ---- an address that is tested

pub multiple_is_word : (a n : ℕ) → IsWord a → IfSome (unless_multiple a n) IsWord
multiple_is_word a n w = elim (nat_eq (a % n) 0) as (λ b. IfSome (if b then None else Some a) IsWord) [
  | true ↦ tt
  | false ↦ w
]

-- ---- the rows

-- the address that is tested is one, and what comes behind leaves sound registers
pub record IsSoundTransferring (r : Transferring) : Type 0 where
  pub address : IfSome (misaligned r.is_aligned r.address r.bytes) IsWord
  pub behind : (c : Core) → IsSoundCore c → IsSoundCore (r.behind c)

pub record IsSoundExchanging (r : Exchanging) : Type 0 where
  pub address : IsWord r.address
  pub behind : (o : ℕ) → IsSoundCore (r.behind o)

module _ (c : Core) (x : Vectors) (m : Memory) (s : IsSoundCore c) (y : IsSoundVectors x) (t : IsSoundMemory m) where
  module _ (after : Core → Core) (keeps : (d : Core) → IsSoundCore d → IsSoundCore (after d)) where
    stored_far : (transfer : Transfer) (es : List Element) → IsSoundDone (stored_to transfer (reach m WriteKind es) after c x m)
    stored_far transfer es =
        let far : Reach = reach m WriteKind es in
        as_far_sound far.stop Write (accesses_of true far.done) (leaves c x) (leaves (after c) x) (with_stored (λ e. stored_value transfer c x e.register) far.done m)
        (record { core = s; vectors = y }) (record { core = keeps c s; vectors = y }) (with_stored_sound (λ e. stored_value transfer c x e.register) far.done m t) (stop_is_word m WriteKind es)

    behind_sound : (r : Registers) → IsSoundRegisters r → IsSoundRegisters (behind_load after r)
    behind_sound r u = record { core = keeps r.core u.core; vectors = u.vectors }

    loaded_far : (transfer : Transfer) (es : List Element) → IsSoundDone (loaded_to transfer (reach m ReadKind es) after c x m)
    loaded_far transfer es =
        let far : Reach = reach m ReadKind es in
        let r : Registers = with_loaded transfer m far.done (leaves c x) in
        as_far_sound far.stop Read (accesses_of false far.done) (leaves c x) (behind_load after r) m
        (record { core = s; vectors = y }) (behind_sound r (with_loaded_sound transfer m far.done (leaves c x) (record { core = s; vectors = y }))) t (stop_is_word m ReadKind es)

    transferred_sound : (transfer : Transfer) (es : List Element) → IsSoundDone (transferred transfer es after c x m)
    transferred_sound Store es = stored_far Store es
    transferred_sound StoreVector es = stored_far StoreVector es
    transferred_sound Load es = loaded_far Load es
    transferred_sound LoadSigned es = loaded_far LoadSigned es
    transferred_sound LoadSigned32 es = loaded_far LoadSigned32 es
    transferred_sound Prefetch es = loaded_far Prefetch es
    transferred_sound LoadVector es = loaded_far LoadVector es

  unless_sound : (o : Option ℕ) (d : Done) → IfSome o IsWord → IsSoundDone d → IsSoundDone (unless_misaligned o c x m d)
  unless_sound (Some a) d w h = traps_sound c x m AccessAlign a s y t w
  unless_sound None d w h = h

  tested_sound : (has : Bool) (o : Option ℕ) (d : Done) → IfSome o IsWord → IsSoundDone d → IsSoundDone (tested has o c x m d)
  tested_sound has o d w h = elim (is_misaligned has c) as (λ b. IsSoundDone (if b then traps c x m SpAlign c.sp else unless_misaligned o c x m d)) [
    | true ↦ traps_sound c x m SpAlign c.sp s y t s.sp
    | false ↦ unless_sound o d w h
  ]

  pub transferred_by_sound : (r : Transferring) → IsSoundTransferring r → IsSoundDone (transferred_by r c x m)
  transferred_by_sound r u =
      let es : List Element = elements_from r.registers r.address r.bytes in
      tested_sound r.tests_sp (misaligned r.is_aligned r.address r.bytes) (transferred r.transfer es r.behind c x m) u.address (transferred_sound r.behind u.behind r.transfer es)

  pub exchanged_by_sound : (r : Exchanging) → IsSoundExchanging r → IsSoundDone (exchanged_by r c x m)
  exchanged_by_sound r u =
      tested_sound r.tests_sp (unless_multiple r.address r.bytes) (one_step r.address r.bytes r.new r.behind c x m) (multiple_is_word r.address r.bytes u.address)
      (one_step_sound c x m s y t r.address r.bytes r.new r.behind u.behind)
