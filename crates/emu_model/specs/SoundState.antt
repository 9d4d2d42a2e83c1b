-- A sound state: each number and list has its range and its length.
use Rattle.std.specs.Prelude.{◌≡◌, ℕ, ◌%◌, ◌≤◌, ◌≢◌, ◌<◌, ◌/◌, ◌^◌, Bool, List, length, Some, IfSome}
use Rattle.std.specs.List.{AllByRecursion}
use Rattle.std.specs.FinMap.{get, len}
use Rattle.emu_model.specs.Access.{Memory, Page, page_size}
use Rattle.emu_model.specs.declared.program_break.Break.{Break}
use Rattle.emu_model.specs.declared.trap.Ended.{Ended}
use Rattle.emu_model.specs.declared.trap.Ended.TheVariants.{Exit, Trap as Trapped}
use Rattle.emu_model.specs.State.{Core, Vectors, Parts, State}

-- a vector length: a multiple of 128 from 128 to 2048
pub record IsVectorLength (bits : ℕ) : Type 0 where
  pub multiple : bits % 128 ≡ 0
  pub least : 128 ≤ bits
  pub most : bits ≤ 2048

abbrev pub IsWord : ℕ → Type 0
IsWord v = v < 2 ^ 64

abbrev pub IsByte : ℕ → Type 0
IsByte b = b < 256

abbrev pub AreBytes : List ℕ → Type 0
AreBytes bytes = AllByRecursion IsByte bytes

pub record IsSoundCore (c : Core) : Type 0 where
  pub count : length c.x ≡ 31
  pub x : AllByRecursion IsWord c.x
  pub sp : IsWord c.sp
  pub pc : IsWord c.pc
  pub tpidr : IsWord c.tpidr
  pub monitor : IfSome c.monitor (λ m. IsWord m.0)

-- so many bytes, or so many bits
pub record IsRegister (n : ℕ) (register : List ℕ) : Type 0 where
  pub count : length register ≡ n
  pub bytes : AreBytes register

abbrev pub HasLength : ℕ → List Bool → Type 0
HasLength n bits = length bits ≡ n

-- both lengths are vector lengths, and the present one is at most the starting one
pub record IsSoundVectors (v : Vectors) : Type 0 where
  pub most : IsVectorLength v.most
  pub vector_length : IsVectorLength v.bits
  pub within : v.bits ≤ v.most
  pub z_count : length v.z ≡ 32
  pub z : AllByRecursion (IsRegister (v.bits / 8)) v.z
  pub p_count : length v.p ≡ 16
  pub p : AllByRecursion (HasLength (v.bits / 8)) v.p
  pub ffr : HasLength (v.bits / 8) v.ffr

-- a page's number, and its 4,096 bytes
pub record IsSoundPage (number : ℕ) (p : Page) : Type 0 where
  pub least : 1 ≤ number
  pub most : number < 2 ^ 35
  pub count : length p.bytes ≡ page_size
  pub bytes : AreBytes p.bytes

pub record IsSoundMemory (m : Memory) : Type 0 where
  pub within : len m.pages ≤ m.limit
  pub pages : (number : ℕ) (p : Page) → get m.pages number ≡ Some p → IsSoundPage number p

pub record IsSoundBreak (b : Break) : Type 0 where
  pub some : b.start ≢ 0
  pub aligned : b.start % page_size ≡ 0
  pub grown : b.start ≤ b.now
  pub within : b.now ≤ 0x7F0000000000

abbrev pub IsSoundEnd : Ended → Type 0
IsSoundEnd (Exit code) = code < 256
IsSoundEnd (Trapped t) = IsWord t.address

pub record IsSoundParts (m : Parts) : Type 0 where
  pub core : IsSoundCore m.core
  pub vectors : IsSoundVectors m.vectors
  pub memory : IsSoundMemory m.memory
  pub brk : IsSoundBreak m.brk
  pub ended : IfSome m.ended IsSoundEnd

pub record IsSound (st : State) : Type 0 where
  pub parts : IsSoundParts st.parts
  pub input : AreBytes st.input
  pub output : AreBytes st.output
  pub errors : AreBytes st.errors
