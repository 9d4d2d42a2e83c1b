-- A step leaves the greatest number of mapped pages as it is.
use Rattle.std.specs.Prelude.{◌≡◌, ℕ, zero, suc, ◌+◌, ◌-◌, ◌*◌, ◌/◌, ◌%◌, Bool, true, false, not, ◌||◌, List, [], ◌∷◌, drop, min, take, Option, Some, None, is_some, nat_eq, nat_le, nat_lt, if◌then◌else◌}
use Rattle.std.specs.List.{list_any}
use Rattle.std.proofs.Common.{refl, ap, ◌∙◌}
use Rattle.emu_model.specs.declared.access.Kind.{Kind}
use Rattle.emu_model.specs.declared.access.Kind.TheVariants.{Read as ReadKind, Write as WriteKind, Fetch as FetchKind}
use Rattle.emu_model.specs.declared.access.Rights.{Rights}
use Rattle.emu_model.specs.declared.program_break.Break.{Break}
use Rattle.emu_model.specs.declared.trap.Effect.{Effect}
use Rattle.emu_model.specs.declared.trap.Effect.TheVariants.{Next, Branch as Branching, Call, Trap as Trapping}
use Rattle.emu_model.specs.declared.trap.TrapKind.TheVariants.{PcAlign, SpAlign}
use Rattle.emu_model.specs.Access.{Memory, address, refused, stored, value, with_byte, page_size}
use Rattle.emu_model.specs.AccessEquations.{stored-suc, stored-zero}
use Rattle.emu_model.specs.Done.{Done, traps}
use Rattle.emu_model.specs.Elements.{Reach, Element, reach, with_stored}
use Rattle.emu_model.specs.Pages.{free_run, is_over_limit, least_unmapped, with_bytes}
use Rattle.emu_model.specs.State.{Core, Vectors, Parts, State}
use Rattle.a64_effects.specs.declared.transfer.Transfer.{Transfer}
use Rattle.a64_effects.specs.declared.transfer.Transfer.TheVariants.{Store, Load, LoadSigned, LoadSigned32, Prefetch, StoreVector, LoadVector}
use Rattle.a64_effects.specs.Atomic.{exchanged, unless_refused, one_step}
use Rattle.a64_effects.specs.Effects.{performed_by}
use Rattle.a64_effects.specs.LoadStore.{Transferring, Exchanging, elements_from, is_misaligned as scalar_misaligned, loaded_to as scalar_loaded, misaligned, stored_to as scalar_stored, stored_value, tested, transferred, transferred_by, exchanged_by, unless_misaligned as scalar_unless, unless_multiple}
use Rattle.a64_effects.specs.Operations.{Operation, computes, flows, transfers, exchanges, copies, operation_of}
use Rattle.sve_effects.specs.FirstFault.{first_fault_row, first_refused, loaded_unless}
use Rattle.sve_effects.specs.FirstFaultParts.{first_fault_loaded}
use Rattle.sve_effects.specs.VectorRow.{VectorRow, performed_by as vector_performed_by, done_by_way}
use Rattle.sve_effects.specs.Rows.{row as vector_row}
use Rattle.sve_effects.specs.VectorElements.{MemoryRow, Way, Layout, elements_of, row_layout}
use Rattle.sve_effects.specs.VectorLoadStore.{after_load, element_stored, has_sp_base, is_misaligned, load_row, loaded_to, store_row, stored_to, unless_misaligned}
use Rattle.emu_system.specs.declared.system_call.CallName.{CallName}
use Rattle.emu_system.specs.declared.system_call.CallName.TheVariants.{Ioctl, Read, Write, Readv, Writev, Prctl, Brk as BrkCall, Munmap, Mmap, Mprotect}
use Rattle.emu_system.specs.declared.system_call.Errno.TheVariants.{EBADF, ENOMEM, EFAULT, EINVAL, ENOTTY}
use Rattle.emu_system.specs.declared.system_call.Range.{Range}
use Rattle.emu_system.specs.SystemCall.{Action, fails, answers, maps, moves_break, sets_length, takes, puts, exits, action, action_of, call_argument, buffer, call, cut_to, call_done, entries, file_of, with_ranges, grown_break, has_room, highest, is_beyond, is_denied, is_length_in_bytes, is_page, is_private_and_anonymous, is_sink, is_too_long, mapping, mapping_at, most_bytes, moved_break, name_of_call, pages_for, protection, quiet, rights_of, setting_length, shrunk_break, unmapping, vector_length, with_buffer, with_entries, with_vector}
use Rattle.emu_run.specs.declared.insn.Insn.{Insn}
use Rattle.emu_run.specs.declared.insn.Insn.TheVariants.{A64, Sve}
use Rattle.emu_run.specs.Step.{decode, executed, fetched, finished, performed, step, trapped, step_from}
use Rattle.emu_run.specs.Run.{goes_on, until_end}
use Rattle.emu_run.specs.RunLaws.{until_end_none, until_end_one, until_end_over}

-- ---- bytes that are stored

stored_limit : (m : Memory) (a n v : ℕ) → (stored m a n v).limit ≡ m.limit
stored_limit m a zero v = ap (λ (x : Memory). x.limit) (stored-zero m a v)
stored_limit m a (suc n) v = ap (λ (x : Memory). x.limit) (stored-suc m a n v) ∙ stored_limit (with_byte m (address a) (v % 256)) (a + 1) n (v / 256)

bytes_limit : (m : Memory) (a : ℕ) (bytes : List ℕ) → (with_bytes m a bytes).limit ≡ m.limit
bytes_limit m a [] = refl
bytes_limit m a (b ∷ bytes) = bytes_limit (with_byte m (address a) b) (a + 1) bytes

elements_limit : (v : Element → ℕ) (es : List Element) (m : Memory) → (with_stored v es m).limit ≡ m.limit
elements_limit v [] m = refl
elements_limit v (e ∷ es) m = elements_limit v es (stored m e.address e.bytes (v e)) ∙ stored_limit m e.address e.bytes (v e)

filled_limit : (m : Memory) (rs : List Range) (bytes : List ℕ) → (with_ranges m rs bytes).limit ≡ m.limit
filled_limit m [] bytes = refl
filled_limit m (r ∷ rs) bytes =
    filled_limit (with_bytes m r.address (take r.length bytes)) rs (drop r.length bytes) ∙ bytes_limit m r.address (take r.length bytes)

module _ (c : Core) (w : Vectors) (m : Memory) where
  abbrev Leaves : Done → Type 0
  Leaves d = d.memory.limit ≡ m.limit

  either : (b : Bool) (d e : Done) → Leaves d → Leaves e → Leaves (if b then d else e)
  either true d e p q = p
  either false d e p q = q

  -- ---- A64 loads and stores

  scalar_store_limit : (t : Transfer) (stop : Option ℕ) (es : List Element) (after : Core → Core) → Leaves (scalar_stored t (record { done = es; stop = stop }) after c w m)
  scalar_store_limit t None es after = elements_limit (λ e. stored_value t c w e.register) es m
  scalar_store_limit t (Some a) es after = elements_limit (λ e. stored_value t c w e.register) es m

  scalar_load_limit : (t : Transfer) (stop : Option ℕ) (es : List Element) (after : Core → Core) → Leaves (scalar_loaded t (record { done = es; stop = stop }) after c w m)
  scalar_load_limit t None es after = refl
  scalar_load_limit t (Some a) es after = refl

  transferred_limit : (t : Transfer) (es : List Element) (after : Core → Core) → Leaves (transferred t es after c w m)
  transferred_limit Store es after = scalar_store_limit Store (reach m WriteKind es).stop (reach m WriteKind es).done after
  transferred_limit StoreVector es after = scalar_store_limit StoreVector (reach m WriteKind es).stop (reach m WriteKind es).done after
  transferred_limit Load es after = scalar_load_limit Load (reach m ReadKind es).stop (reach m ReadKind es).done after
  transferred_limit LoadSigned es after = scalar_load_limit LoadSigned (reach m ReadKind es).stop (reach m ReadKind es).done after
  transferred_limit LoadSigned32 es after = scalar_load_limit LoadSigned32 (reach m ReadKind es).stop (reach m ReadKind es).done after
  transferred_limit Prefetch es after = scalar_load_limit Prefetch (reach m ReadKind es).stop (reach m ReadKind es).done after
  transferred_limit LoadVector es after = scalar_load_limit LoadVector (reach m ReadKind es).stop (reach m ReadKind es).done after

  exchanged_limit : (a n : ℕ) (new : Option ℕ) (d : Core) → Leaves (exchanged a n new d w m)
  exchanged_limit a n None d = refl
  exchanged_limit a n (Some v) d = stored_limit m a n v

  unless_refused_limit : (read written : Option ℕ) (d : Done) → Leaves d → Leaves (unless_refused read written c w m d)
  unless_refused_limit (Some a) written d h = refl
  unless_refused_limit None (Some a) d h = refl
  unless_refused_limit None None d h = h

  one_step_limit : (a n : ℕ) (new : ℕ → Option ℕ) (after : ℕ → Core) → Leaves (one_step a n new after c w m)
  one_step_limit a n new after =
      unless_refused_limit (refused m a n ReadKind) (refused m a n WriteKind) (exchanged a n (new (value m a n)) (after (value m a n)) w m)
      (exchanged_limit a n (new (value m a n)) (after (value m a n)))

  scalar_unless_limit : (o : Option ℕ) (d : Done) → Leaves d → Leaves (scalar_unless o c w m d)
  scalar_unless_limit (Some a) d h = refl
  scalar_unless_limit None d h = h

  tested_limit : (has : Bool) (o : Option ℕ) (d : Done) → Leaves d → Leaves (tested has o c w m d)
  tested_limit has o d h = either (scalar_misaligned has c) (traps c w m SpAlign c.sp) (scalar_unless o c w m d) refl (scalar_unless_limit o d h)

  -- ---- the A64 rows

  transferred_by_limit : (r : Transferring) → Leaves (transferred_by r c w m)
  transferred_by_limit r =
      let es : List Element = elements_from r.registers r.address r.bytes in
      tested_limit r.tests_sp (misaligned r.is_aligned r.address r.bytes) (transferred r.transfer es r.behind c w m) (transferred_limit r.transfer es r.behind)

  exchanged_by_limit : (r : Exchanging) → Leaves (exchanged_by r c w m)
  exchanged_by_limit r = tested_limit r.tests_sp (unless_multiple r.address r.bytes) (one_step r.address r.bytes r.new r.behind c w m) (one_step_limit r.address r.bytes r.new r.behind)

  by_operation_limit : (r : Operation) → Leaves (performed_by r c w m)
  by_operation_limit (computes after) = refl
  by_operation_limit (flows after effect) = refl
  by_operation_limit (transfers row) = transferred_by_limit (row c)
  by_operation_limit (exchanges row) = exchanged_by_limit (row c)
  by_operation_limit (copies after) = refl

  -- ---- SVE

  load_limit : (stop : Option ℕ) (es : List Element) (after : Vectors) → Leaves (loaded_to (record { done = es; stop = stop }) after c w m)
  load_limit None es after = refl
  load_limit (Some a) es after = refl

  store_limit : (stop : Option ℕ) (es : List Element) (stores : Element → ℕ) → Leaves (stored_to (record { done = es; stop = stop }) stores c w m)
  store_limit None es stores = elements_limit stores es m
  store_limit (Some a) es stores = elements_limit stores es m

  unless_limit : (has_base : Bool) (es : List Element) (d : Done) → Leaves d → Leaves (unless_misaligned has_base es c w m d)
  unless_limit has_base es d h = either (is_misaligned has_base es c) (traps c w m SpAlign c.sp) d refl h

  load_row_limit : (r : MemoryRow) → Leaves (load_row r c w m)
  load_row_limit r =
      let l : Layout = row_layout r c w in
      let far : Reach = reach m ReadKind (elements_of l) in
      let after : Vectors = after_load r.choice r.width.is_signed l m w in
      unless_limit (has_sp_base r.brackets) (elements_of l) (loaded_to far after c w m) (load_limit far.stop far.done after)

  store_row_limit : (r : MemoryRow) → Leaves (store_row r c w m)
  store_row_limit r =
      let l : Layout = row_layout r c w in
      let far : Reach = reach m WriteKind (elements_of l) in
      let stores : Element → ℕ = element_stored r.choice l w in
      unless_limit (has_sp_base r.brackets) (elements_of l) (stored_to far stores c w m) (store_limit far.stop far.done stores)

  loaded_unless_limit : (o : Option ℕ) (d : Done) → Leaves d → Leaves (loaded_unless o d c w m)
  loaded_unless_limit None d h = h
  loaded_unless_limit (Some a) d h = refl

  first_fault_limit : (never_traps : Bool) (r : MemoryRow) (es : List Element) → Leaves (first_fault_row never_traps r es c w m)
  first_fault_limit never_traps r es =
      let d : Done = first_fault_loaded r.width.is_signed r.width.bits r.first es c w m in
      let stop : Option ℕ = if never_traps then None else first_refused m es in
      unless_limit (has_sp_base r.brackets) es (loaded_unless stop d c w m) (loaded_unless_limit stop d refl)

  way_limit : (way : Way) (r : MemoryRow) → Leaves (done_by_way way r c w m)
  way_limit Way.loads r = load_row_limit r
  way_limit Way.stores r = store_row_limit r
  way_limit Way.first_faults r = first_fault_limit false r (elements_of (row_layout r c w))
  way_limit Way.non_faults r = first_fault_limit true r (elements_of (row_layout r c w))

  vector_row_limit : (r : VectorRow) → Leaves (vector_performed_by r c w m)
  vector_row_limit (VectorRow.by_lanes f) = refl
  vector_row_limit (VectorRow.by_registers f) = refl
  vector_row_limit (VectorRow.memory r) = way_limit r.way r

  performed_limit : (i : Insn) → Leaves (performed i c w m)
  performed_limit (A64 form) = by_operation_limit (operation_of form)
  performed_limit (Sve form) = vector_row_limit (vector_row form)

-- ---- system calls

-- the memory that a call leaves, where it names one
abbrev HasLimit : ℕ → Action → Type 0
HasLimit n (maps memory v) = memory.limit ≡ n
HasLimit n (moves_break memory to) = memory.limit ≡ n
HasLimit n (fails e) = Unit {0}
HasLimit n (answers v) = Unit {0}
HasLimit n (sets_length bits) = Unit {0}
HasLimit n (takes ranges) = Unit {0}
HasLimit n (puts file ranges) = Unit {0}
HasLimit n (exits code) = Unit {0}

both : (n : ℕ) (b : Bool) (p q : Action) → HasLimit n p → HasLimit n q → HasLimit n (if b then p else q)
both n true p q h k = h
both n false p q h k = k

module _ (m : Memory) where
  buffer_limit : (kind : Kind) (moves : List Range → Action) (c : Core) → ((rs : List Range) → HasLimit m.limit (moves rs)) → HasLimit m.limit (with_buffer kind moves c m)
  buffer_limit kind moves c h =
      both m.limit (nat_eq (call_argument c 2) 0) (answers 0) (if is_denied m kind (buffer c) then fails EFAULT else moves (buffer c ∷ [])) tt
      (both m.limit (is_denied m kind (buffer c)) (fails EFAULT) (moves (buffer c ∷ [])) tt (h (buffer c ∷ [])))

  entries_limit : (kind : Kind) (moves : List Range → Action) (rs : List Range) → ((rs : List Range) → HasLimit m.limit (moves rs)) → HasLimit m.limit (with_entries kind moves rs m)
  entries_limit kind moves rs h =
      both m.limit (list_any is_too_long rs) (fails EINVAL) (if list_any (is_denied m kind) (cut_to most_bytes rs) then fails EFAULT else moves (cut_to most_bytes rs)) tt
      (both m.limit (list_any (is_denied m kind) (cut_to most_bytes rs)) (fails EFAULT) (moves (cut_to most_bytes rs)) tt (h (cut_to most_bytes rs)))

  vector_limit : (kind : Kind) (moves : List Range → Action) (c : Core) → ((rs : List Range) → HasLimit m.limit (moves rs)) → HasLimit m.limit (with_vector kind moves c m)
  vector_limit kind moves c h =
      let r : Range = record { address = call_argument c 1; length = 16 * call_argument c 2 } in
      let rs : List Range = entries m (call_argument c 1) (call_argument c 2) in
      both m.limit (nat_lt 1024 (call_argument c 2)) (fails EINVAL) (if is_denied m ReadKind r then fails EFAULT else with_entries kind moves rs m) tt
      (both m.limit (is_denied m ReadKind r) (fails EFAULT) (with_entries kind moves rs m) tt (entries_limit kind moves rs h))

  break_limit : (brk : Break) (to : ℕ) → HasLimit m.limit (moved_break m brk to)
  break_limit brk to =
      both m.limit (nat_lt to brk.start || nat_lt highest to) (answers brk.now) (if nat_le brk.now to then grown_break m brk.now to else shrunk_break m brk.now to) tt
      (both m.limit (nat_le brk.now to) (grown_break m brk.now to) (shrunk_break m brk.now to)
      (both m.limit (has_room m (pages_for brk.now) (pages_for to - pages_for brk.now)) _ (answers brk.now) refl tt) refl)

  unmapping_limit : (a count : ℕ) → HasLimit m.limit (unmapping m a count)
  unmapping_limit a count = both m.limit (not (is_page a) || nat_eq count 0 || is_beyond a count) (fails EINVAL) _ tt refl

  mapping_at_limit : (first : Option ℕ) (pages : ℕ) (rights : Rights) → HasLimit m.limit (mapping_at first m pages rights)
  mapping_at_limit None pages rights = tt
  mapping_at_limit (Some first) pages rights = both m.limit (is_over_limit m pages) (fails ENOMEM) _ tt refl

  mapping_limit : (count prot flags : ℕ) → HasLimit m.limit (mapping m count prot flags)
  mapping_limit count prot flags =
      both m.limit (nat_eq count 0 || nat_lt 7 prot || not (is_private_and_anonymous flags)) (fails EINVAL)
      (mapping_at (free_run m.pages (pages_for count) (highest / page_size)) m (pages_for count) (rights_of prot)) tt
      (mapping_at_limit (free_run m.pages (pages_for count) (highest / page_size)) (pages_for count) (rights_of prot))

  protection_limit : (a count prot : ℕ) → HasLimit m.limit (protection m a count prot)
  protection_limit a count prot =
      both m.limit (not (is_page a) || nat_lt 7 prot) (fails EINVAL) _ tt
      (both m.limit (nat_eq count 0) (answers 0) _ tt
      (both m.limit (is_beyond a count || is_some (least_unmapped m.pages (a / page_size) (pages_for count))) (fails ENOMEM) _ tt refl))

  setting_limit : (v : Vectors) (option bytes : ℕ) → HasLimit m.limit (vector_length v option bytes)
  setting_limit v option bytes =
      both m.limit (nat_eq option 51) (answers (v.bits / 8)) _ tt
      (both m.limit (nat_eq option 50) (setting_length v bytes) (fails EINVAL) (both m.limit (is_length_in_bytes bytes) (sets_length (min (8 * bytes) v.most)) (fails EINVAL) tt tt) tt)

  action_limit : (name : CallName) (c : Core) (v : Vectors) (brk : Break) → HasLimit m.limit (action_of name c v m brk)
  action_limit Ioctl c v brk = both m.limit (nat_lt (file_of c) 3) (fails ENOTTY) (fails EBADF) tt tt
  action_limit Read c v brk = both m.limit (nat_eq (file_of c) 0) (with_buffer WriteKind takes c m) (fails EBADF) (buffer_limit WriteKind takes c (λ rs. tt)) tt
  action_limit Write c v brk = both m.limit (is_sink (file_of c)) (with_buffer ReadKind (puts (file_of c)) c m) (fails EBADF) (buffer_limit ReadKind (puts (file_of c)) c (λ rs. tt)) tt
  action_limit Readv c v brk = both m.limit (nat_eq (file_of c) 0) (with_vector WriteKind takes c m) (fails EBADF) (vector_limit WriteKind takes c (λ rs. tt)) tt
  action_limit Writev c v brk = both m.limit (is_sink (file_of c)) (with_vector ReadKind (puts (file_of c)) c m) (fails EBADF) (vector_limit ReadKind (puts (file_of c)) c (λ rs. tt)) tt
  action_limit Prctl c v brk = setting_limit v (call_argument c 0) (call_argument c 1)
  action_limit BrkCall c v brk = break_limit brk (call_argument c 0)
  action_limit Munmap c v brk = unmapping_limit (call_argument c 0) (call_argument c 1)
  action_limit Mmap c v brk = mapping_limit (call_argument c 1) (call_argument c 2) (call_argument c 3)
  action_limit Mprotect c v brk = protection_limit (call_argument c 0) (call_argument c 1) (call_argument c 2)
  action_limit name c v brk = tt

-- ---- steps

module _ (m : Parts) (input : List ℕ) where
  done_limit : (a : Action) → HasLimit m.memory.limit a → (call_done a m input).parts.memory.limit ≡ m.memory.limit
  done_limit (fails e) h = refl
  done_limit (answers v) h = refl
  done_limit (maps memory v) h = h
  done_limit (moves_break memory to) h = h
  done_limit (sets_length bits) h = refl
  done_limit (takes rs) h = filled_limit m.memory rs input
  done_limit (puts file rs) h = refl
  done_limit (exits code) h = refl

  call_limit : (call m input).parts.memory.limit ≡ m.memory.limit
  call_limit = done_limit (action m) (action_limit m.memory (name_of_call m.core) m.core m.vectors m.brk)

  finished_limit : (c : Core) (v : Vectors) (n : Memory) (e : Effect) → n.limit ≡ m.memory.limit → (finished m input c v n e).parts.memory.limit ≡ m.memory.limit
  finished_limit c v n Next h = h
  finished_limit c v n (Branching a) h = h
  finished_limit c v n Call h = call_limit
  finished_limit c v n (Trapping t) h = h

  executed_limit : (i : Option Insn) → (executed m input i).parts.memory.limit ≡ m.memory.limit
  executed_limit None = refl
  executed_limit (Some i) =
      let d : Done = performed i m.core m.vectors m.memory in
      finished_limit d.core d.vectors d.memory d.effect (performed_limit m.core m.vectors m.memory i)

  fetched_limit : (o : Option ℕ) → (fetched m input o).parts.memory.limit ≡ m.memory.limit
  fetched_limit (Some a) = refl
  fetched_limit None = executed_limit (decode (value m.memory m.core.pc 4))

  turn_limit : (step_from m input).parts.memory.limit ≡ m.memory.limit
  turn_limit =
      elim (nat_eq (m.core.pc % 4) 0) as (λ b. (if b then fetched m input (refused m.memory m.core.pc 4 FetchKind) else quiet (trapped m PcAlign m.core.pc) input).parts.memory.limit ≡ m.memory.limit) [
        | true ↦ fetched_limit (refused m.memory m.core.pc 4 FetchKind)
        | false ↦ refl
      ]

pub step_limit : (st : State) → (step st).parts.memory.limit ≡ st.parts.memory.limit
step_limit st = turn_limit st.parts st.input

pub until_end_limit : (st : State) (k : ℕ) → (until_end st k).parts.memory.limit ≡ st.parts.memory.limit
until_end_limit st zero = ap (λ (s : State). s.parts.memory.limit) (until_end_none st)
until_end_limit st (suc k) =
    elim (goes_on st) as (λ b. goes_on st ≡ b → (until_end st (suc k)).parts.memory.limit ≡ st.parts.memory.limit) [
      | true ↦ λ h. ap (λ (s : State). s.parts.memory.limit) (until_end_one st k h) ∙ until_end_limit (step st) k ∙ step_limit st
      | false ↦ λ h. ap (λ (s : State). s.parts.memory.limit) (until_end_over st (suc k) h)
    ] refl
