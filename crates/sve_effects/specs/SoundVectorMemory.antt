-- SVE loads and stores keep the registers and the memory sound.
use Rattle.std.specs.Prelude.{ℕ, zero, suc, ◌*◌, ◌/◌, ◌%◌, Bool, true, false, List, [], ◌∷◌, length, Option, Some, None, IfSome, if◌then◌else◌}
use Rattle.std.proofs.Common.{◌∙◌}
use Rattle.emu_model.specs.declared.access.Kind.TheVariants.{Read as ReadKind, Write as WriteKind}
use Rattle.emu_model.specs.declared.trap.TrapKind.TheVariants.{Read, Write, SpAlign}
use Rattle.emu_model.specs.Access.{Memory, value}
use Rattle.emu_model.specs.Done.{Done, as_far, leaves, traps}
use Rattle.emu_model.specs.Elements.{Element, accesses_of, reach, with_stored}
use Rattle.emu_model.specs.Lists.{each}
use Rattle.emu_model.specs.ListLaws.{length-each}
use Rattle.emu_model.specs.Sound.{refused_is_word}
use Rattle.emu_model.specs.SoundDone.{IsSoundDone, traps_sound}
use Rattle.emu_model.specs.SoundElements.{stop_is_word, with_stored_sound}
use Rattle.emu_model.specs.State.{Core, Vectors}
use Rattle.emu_model.specs.SoundState.{IsWord, HasLength, IsSoundCore, IsSoundVectors, IsSoundMemory}
use Rattle.emu_model.specs.SoundLanes.{sound_lanes, sound_p, sound_ffr_bits}
use Rattle.emu_model.specs.Lanes.{with_lanes}
use Rattle.sve_effects.specs.Lane.{extended_by}
use Rattle.sve_effects.specs.FirstFault.{cleared_from, first_suppressed, first_refused, loaded_unless, first_fault_row}
use Rattle.sve_effects.specs.FirstFaultParts.{first_fault_lane, with_first_fault, first_fault_loaded}
use Rattle.sve_effects.specs.LaneLoop.{is_active}
use Rattle.sve_effects.specs.VectorElements.{MemoryRow, LaneChoice, each_active, each_repeated, replicated, whole_z, whole_p, Layout, register_at, row_layout, elements_of}
use Rattle.sve_effects.specs.VectorLoadStore.{loaded_lane, with_loaded, after_load, has_sp_base, is_misaligned, element_stored, unless_misaligned, loaded_to, stored_to, load_row, store_row}

-- ---- what is loaded

with_loaded_sound : (is_signed : Bool) (l : Layout) (m : Memory) (n : ℕ) (v : Vectors) → IsSoundVectors v → IsSoundVectors (with_loaded is_signed l m n v)
unfolding with_loaded
with_loaded_sound is_signed l m zero v s = s
with_loaded_sound is_signed l m (suc n) v s = sound_lanes l.bits (loaded_lane is_signed l m n) (register_at l n) (with_loaded is_signed l m n v) (with_loaded_sound is_signed l m n v s)

after_load_sound : (choice : LaneChoice) (is_signed : Bool) (l : Layout) (m : Memory) (v : Vectors) → IsSoundVectors v → IsSoundVectors (after_load choice is_signed l m v)
after_load_sound (each_active pg) is_signed l m v s = with_loaded_sound is_signed l m l.registers v s
after_load_sound (each_repeated pg) is_signed l m v s = sound_lanes l.bits (λ k. loaded_lane false l m 0 (k % l.lanes)) l.register v s
after_load_sound (replicated pg) is_signed l m v s = sound_lanes l.bits (λ k. if is_active l.bits v pg k then extended_by is_signed l.bits (8 * l.bytes) (value m (l.address k 0) l.bytes) else 0) l.register v s
after_load_sound whole_z is_signed l m v s = with_loaded_sound is_signed l m l.registers v s
after_load_sound whole_p is_signed l m v s = sound_p (each (v.bits / 8) _) l.register v (length-each (v.bits / 8) _) s

-- ---- the rows

module _ (c : Core) (v : Vectors) (m : Memory) (s : IsSoundCore c) (u : IsSoundVectors v) (t : IsSoundMemory m) where
  load_sound : (stop : Option ℕ) (es : List Element) (after : Vectors) → IfSome stop IsWord → IsSoundVectors after → IsSoundDone (as_far stop Read (accesses_of false es) (leaves c v) (leaves c after) m)
  load_sound None es after w x = record { core = s; vectors = x; memory = t; effect = tt }
  load_sound (Some a) es after w x = record { core = s; vectors = u; memory = t; effect = w }

  store_sound : (stop : Option ℕ) (es : List Element) (stores : Element → ℕ) → IfSome stop IsWord → IsSoundDone (as_far stop Write (accesses_of true es) (leaves c v) (leaves c v) (with_stored stores es m))
  store_sound None es stores w = record { core = s; vectors = u; memory = with_stored_sound stores es m t; effect = tt }
  store_sound (Some a) es stores w = record { core = s; vectors = u; memory = with_stored_sound stores es m t; effect = w }

  unless_sound : (has_base : Bool) (es : List Element) (d : Done) → IsSoundDone d → IsSoundDone (unless_misaligned has_base es c v m d)
  unless_sound has_base es d h = elim (is_misaligned has_base es c) as (λ b. IsSoundDone (if b then traps c v m SpAlign c.sp else d)) [
    | true ↦ traps_sound c v m SpAlign c.sp s u t s.sp
    | false ↦ h
  ]

  pub load_row_sound : (row : MemoryRow) → IsSoundDone (load_row row c v m)
  load_row_sound row =
      let l : Layout = row_layout row c v in
      let r = reach m ReadKind (elements_of l) in
      let after : Vectors = after_load row.choice row.width.is_signed l m v in
      unless_sound (has_sp_base row.brackets) (elements_of l) (loaded_to r after c v m)
      (load_sound r.stop r.done after (stop_is_word m ReadKind (elements_of l)) (after_load_sound row.choice row.width.is_signed l m v u))

  pub store_row_sound : (row : MemoryRow) → IsSoundDone (store_row row c v m)
  store_row_sound row =
      let l : Layout = row_layout row c v in
      let r = reach m WriteKind (elements_of l) in
      unless_sound (has_sp_base row.brackets) (elements_of l) (stored_to r (element_stored row.choice l v) c v m)
      (store_sound r.stop r.done (element_stored row.choice l v) (stop_is_word m WriteKind (elements_of l)))

  -- ---- first-faulting and non-faulting loads

  cleared_length : (e : ℕ) (q : Option ℕ) (n : ℕ) (ffr : List Bool) → HasLength n ffr → HasLength n (cleared_from e q ffr)
  cleared_length e None n ffr h = h
  cleared_length e (Some q) n ffr h = length-each (length ffr) _ ∙ h

  with_first_fault_sound : (is_signed : Bool) (e zt : ℕ) (es : List Element) (ffr : List Bool) → HasLength (v.bits / 8) ffr → IsSoundVectors (with_first_fault is_signed e zt m es ffr v)
  with_first_fault_sound is_signed e zt es ffr h = sound_ffr_bits ffr (with_lanes e (first_fault_lane is_signed e m es ffr (v.bits / e)) zt v) h (sound_lanes e (first_fault_lane is_signed e m es ffr (v.bits / e)) zt v u)

  loaded_unless_sound : (o : Option ℕ) (d : Done) → IfSome o IsWord → IsSoundDone d → IsSoundDone (loaded_unless o d c v m)
  loaded_unless_sound None d w h = h
  loaded_unless_sound (Some a) d w h = traps_sound c v m Read a s u t w

  first_refused_is_word : (es : List Element) → IfSome (first_refused m es) IsWord
  first_refused_is_word [] = tt
  first_refused_is_word (e ∷ es) = refused_is_word m e.address e.bytes ReadKind

  trap_is_word : (is_non_fault : Bool) (es : List Element) → IfSome (if is_non_fault then None else first_refused m es) IsWord
  trap_is_word true es = tt
  trap_is_word false es = first_refused_is_word es

  first_fault_loaded_sound : (is_signed : Bool) (e zt : ℕ) (es : List Element) → IsSoundDone (first_fault_loaded is_signed e zt es c v m)
  first_fault_loaded_sound is_signed e zt es = record {
    core = s;
    vectors = with_first_fault_sound is_signed e zt es (cleared_from e (first_suppressed m es) v.ffr) (cleared_length e (first_suppressed m es) (v.bits / 8) v.ffr u.ffr);
    memory = t;
    effect = tt;
  }

  pub first_fault_row_sound : (never_traps : Bool) (row : MemoryRow) (es : List Element) → IsSoundDone (first_fault_row never_traps row es c v m)
  first_fault_row_sound never_traps row es =
      unless_sound (has_sp_base row.brackets) es _
      (loaded_unless_sound _ (first_fault_loaded row.width.is_signed row.width.bits row.first es c v m) (trap_is_word never_traps es) (first_fault_loaded_sound row.width.is_signed row.width.bits row.first es))
