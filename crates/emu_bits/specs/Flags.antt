-- Lane sizes, the number of the flags, and conditions on them. From the Arm Architecture Reference Manual for A-profile
-- (DDI 0487): ConditionHolds of J1 with the condition codes of C1.2, and the sizes B, H, S and D of C8.
use Rattle.std.specs.Prelude.{ℕ, ◌/◌, ◌%◌, nat_eq, [], ◌∷◌, get_or, Bool, true, false, not, ◌&&◌}
use Rattle.emu_bits.specs.declared.flags.Esize.{Esize}
use Rattle.emu_bits.specs.declared.flags.Esize.TheVariants.{B, H, S, D}
use Rattle.emu_bits.specs.declared.flags.Flags.{Flags}
use Rattle.emu_bits.specs.declared.flags.Cond.{Cond}
use Rattle.emu_bits.specs.declared.flags.Cond.TheVariants.{Eq, Ne, Cs, Cc, Mi, Pl, Vs, Vc, Hi, Ls, Ge, Lt, Gt, Le, Al, Nv}

-- the bits of a lane
abbrev pub size_of : Esize → ℕ
size_of B = 8
size_of H = 16
size_of S = 32
size_of D = 64

-- the flags of the number NZCV, N at the top
abbrev pub flags_of_number : ℕ → Flags
flags_of_number f =
    record { n = nat_eq (f / 8 % 2) 1; z = nat_eq (f / 4 % 2) 1; c = nat_eq (f / 2 % 2) 1; v = nat_eq (f % 2) 1 }

-- the condition of a number below 16
abbrev pub cond_of : ℕ → Cond
cond_of k = get_or (Eq ∷ Ne ∷ Cs ∷ Cc ∷ Mi ∷ Pl ∷ Vs ∷ Vc ∷ Hi ∷ Ls ∷ Ge ∷ Lt ∷ Gt ∷ Le ∷ Al ∷ Nv ∷ []) k Nv

-- two flags are the same
abbrev pub same_flag : Bool → Bool → Bool
same_flag true b = b
same_flag false b = not b

-- A condition holds of the flags.
abbrev pub cond_holds : Cond → Flags → Bool
cond_holds Eq f = f.z
cond_holds Ne f = not f.z
cond_holds Cs f = f.c
cond_holds Cc f = not f.c
cond_holds Mi f = f.n
cond_holds Pl f = not f.n
cond_holds Vs f = f.v
cond_holds Vc f = not f.v
cond_holds Hi f = f.c && not f.z
cond_holds Ls f = not (f.c && not f.z)
cond_holds Ge f = same_flag f.n f.v
cond_holds Lt f = not (same_flag f.n f.v)
cond_holds Gt f = not f.z && same_flag f.n f.v
cond_holds Le f = not (not f.z && same_flag f.n f.v)
cond_holds Al f = true
cond_holds Nv f = true
