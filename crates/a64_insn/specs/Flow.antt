-- The table's lines of branches, exceptions and system. From the Arm Architecture Reference Manual for A-profile
-- (DDI 0487), C4 'A64 Instruction Set Encoding', 'Branches, Exception Generating and System instructions', and the
-- encodings of the entries of C6.2. A line's rows, its fields' order and its number are this project's own.
use Rattle.std.specs.Prelude.{◌==◌, [], ◌∷◌}
use Rattle.emu_bits.specs.Rows.{◌to◌, Line, line_of, of_one, of_two, of_three, of_four}
use Rattle.a64_insn.specs.declared.form.A64Form.{A64Form}
use Rattle.a64_insn.specs.declared.form.A64Form.TheVariants.{Branch, BranchCond, Compare, Test, BranchReg, Except, Hint, Barrier, ReadSys, WriteSys}
use Rattle.a64_insn.specs.Names.{barrier_named, branch_named, branch_reg_named, compare_named, except_named, read_sys_named, test_named, write_sys_named}

-- `b`, `bl target`
unfoldable pub branch : Line A64Form
branch = line_of (0x14000000 ∷ 0x94000000 ∷ []) ((25 to 0) ∷ []) (λ k. of_one (λ imm26. Branch (branch_named k) imm26))

-- `b.cond target`
unfoldable pub branch_cond : Line A64Form
branch_cond = line_of (0x54000000 ∷ []) ((23 to 5) ∷ (3 to 0) ∷ []) (λ k. of_two (λ imm19 cond. BranchCond imm19 cond))

-- `cbz`, `cbnz Rt, target`
unfoldable pub compare : Line A64Form
compare = line_of (0x34000000 ∷ 0x35000000 ∷ []) ((31 to 31) ∷ (23 to 5) ∷ (4 to 0) ∷ [])
    (λ k. of_three (λ sf imm19 rt. Compare (compare_named k) (sf == 1) imm19 rt))

-- `tbz`, `tbnz Rt, #b, target`
unfoldable pub test_branch : Line A64Form
test_branch = line_of (0x36000000 ∷ 0x37000000 ∷ []) ((31 to 31) ∷ (23 to 19) ∷ (18 to 5) ∷ (4 to 0) ∷ [])
    (λ k. of_four (λ b5 b40 imm14 rt. Test (test_named k) (b5 == 1) b40 imm14 rt))

-- `br`, `blr`, `ret Xn`
unfoldable pub branch_reg : Line A64Form
branch_reg = line_of (0xD61F0000 ∷ 0xD63F0000 ∷ 0xD65F0000 ∷ []) ((9 to 5) ∷ [])
    (λ k. of_one (λ rn. BranchReg (branch_reg_named k) rn))

-- `svc`, `brk`, `hlt #i`
unfoldable pub except : Line A64Form
except = line_of (0xD4000001 ∷ 0xD4200000 ∷ 0xD4400000 ∷ []) ((20 to 5) ∷ [])
    (λ k. of_one (λ imm16. Except (except_named k) imm16))

-- `hint #n`
unfoldable pub hint : Line A64Form
hint = line_of (0xD503201F ∷ []) ((11 to 5) ∷ []) (λ k. of_one (λ n. Hint n))

-- `clrex`, `dsb`, `dmb`, `isb #n`
unfoldable pub barrier : Line A64Form
barrier = line_of (0xD503305F ∷ 0xD503309F ∷ 0xD50330BF ∷ 0xD50330DF ∷ []) ((11 to 8) ∷ [])
    (λ k. of_one (λ n. Barrier (barrier_named k) n))

-- `mrs Xt, tpidr_el0`, `nzcv`, `dczid_el0`
unfoldable pub read_sys : Line A64Form
read_sys = line_of (0xD53BD040 ∷ 0xD53B4200 ∷ 0xD53B00E0 ∷ []) ((4 to 0) ∷ [])
    (λ k. of_one (λ rt. ReadSys (read_sys_named k) rt))

-- `msr tpidr_el0, Xt`, `nzcv, Xt`
unfoldable pub write_sys : Line A64Form
write_sys = line_of (0xD51BD040 ∷ 0xD51B4200 ∷ []) ((4 to 0) ∷ []) (λ k. of_one (λ rt. WriteSys (write_sys_named k) rt))
