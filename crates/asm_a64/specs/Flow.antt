-- The texts of the table's lines of branches, exceptions and system. They are the assembler syntax of the entries of
-- branches, exceptions, barriers, HINT, MRS and MSR of the Arm Architecture Reference Manual for A-profile (DDI 0487),
-- C6.2 'Alphabetical list of A64 base instructions'. Of the spellings of a condition these are this project's own
-- choice.
use Rattle.std.specs.Prelude.{ℕ, ◌+◌, List, [], ◌∷◌, codes}
use Rattle.text_model.specs.declared.classes.Class.TheVariants.{TpidrEl0, Nzcv, DczidEl0}
use Rattle.text_model.specs.declared.slots.Bits.{Bits}
use Rattle.text_model.specs.declared.slots.Parts.TheVariants.{At, Two}
use Rattle.text_model.specs.declared.slots.Slot.{Slot}
use Rattle.text_model.specs.Reading.{Pattern}
use Rattle.text_model.specs.Writing.{◌to◌, times, one, then, counted, target, row, rows}
use Rattle.a64_insn.specs.Flow.{branch, branch_cond, compare, test_branch, branch_reg, except, hint, barrier, read_sys, write_sys}
use Rattle.asm_a64.specs.Data.{r, x, rt, rn, imm16}

-- the address 4 times the bits behind the instruction's
abbrev pub jump : Bits → Slot
jump b = target 4 1 (At b)

abbrev pub imm19 : Bits
imm19 = 23 to 5

-- `b`, `bl target`
unfoldable pub branch_texts : List Pattern
branch_texts = let imm26 = 25 to 0 in rows branch 0 0 (codes "b" ∷ codes "bl" ∷ []) (jump imm26 ∷ [])

-- `b.eq target` and so on: the name settles cond, bits 3 to 0
abbrev conditions : ℕ → List (List ℕ) → List Pattern
conditions c [] = []
conditions c (n ∷ ns) = row branch_cond 0 c n (jump imm19 ∷ []) ∷ conditions (c + 1) ns

unfoldable pub branch_cond_texts : List Pattern
branch_cond_texts =
    conditions 0 (codes "b.eq" ∷ codes "b.ne" ∷ codes "b.cs" ∷ codes "b.cc" ∷ codes "b.mi" ∷ codes "b.pl" ∷ codes "b.vs"
    ∷ codes "b.vc" ∷ codes "b.hi" ∷ codes "b.ls" ∷ codes "b.ge" ∷ codes "b.lt" ∷ codes "b.gt" ∷ codes "b.le"
    ∷ codes "b.al" ∷ codes "b.nv" ∷ [])

-- `cbz`, `cbnz Rt, target`
unfoldable pub compare_texts : List Pattern
compare_texts = rows compare 0 0 (codes "cbz" ∷ codes "cbnz" ∷ []) (r rt ∷ then ∷ jump imm19 ∷ [])

-- `tbz`, `tbnz Rt, #b, target`: b is b5 and b40, and b5 the register's width
unfoldable pub test_texts : List Pattern
test_texts =
    let imm14 = 18 to 5 in
    rows test_branch 0 0 (codes "tbz" ∷ codes "tbnz" ∷ [])
    (r rt ∷ then ∷ counted (times 1 (Two (31 to 31) (23 to 19))) ∷ then ∷ jump imm14 ∷ [])

-- `br`, `blr`, `ret Xn`
unfoldable pub branch_reg_texts : List Pattern
branch_reg_texts = rows branch_reg 0 0 (codes "br" ∷ codes "blr" ∷ codes "ret" ∷ []) (x rn ∷ [])

unfoldable pub except_texts : List Pattern
except_texts = rows except 0 0 (codes "svc" ∷ codes "brk" ∷ codes "hlt" ∷ []) (counted (times 1 (At imm16)) ∷ [])

unfoldable pub hint_texts : List Pattern
hint_texts = let n = 11 to 5 in row hint 0 0 (codes "hint") (counted (times 1 (At n)) ∷ []) ∷ []

unfoldable pub barrier_texts : List Pattern
barrier_texts =
    let n = 11 to 8 in
    rows barrier 0 0 (codes "clrex" ∷ codes "dsb" ∷ codes "dmb" ∷ codes "isb" ∷ []) (counted (times 1 (At n)) ∷ [])

-- `mrs Xt, tpidr_el0` and so on
unfoldable pub read_sys_texts : List Pattern
read_sys_texts =
    row read_sys 0 0 (codes "mrs") (x rt ∷ then ∷ one TpidrEl0 ∷ [])
    ∷ row read_sys 1 0 (codes "mrs") (x rt ∷ then ∷ one Nzcv ∷ [])
    ∷ row read_sys 2 0 (codes "mrs") (x rt ∷ then ∷ one DczidEl0 ∷ []) ∷ []

-- `msr tpidr_el0, Xt` and `msr nzcv, Xt`
unfoldable pub write_sys_texts : List Pattern
write_sys_texts =
    row write_sys 0 0 (codes "msr") (one TpidrEl0 ∷ then ∷ x rt ∷ [])
    ∷ row write_sys 1 0 (codes "msr") (one Nzcv ∷ then ∷ x rt ∷ []) ∷ []

-- the patterns of these lines, in the order of the table's
unfoldable pub flow_lines : List (List Pattern)
flow_lines =
    branch_texts ∷ branch_cond_texts ∷ compare_texts ∷ test_texts ∷ branch_reg_texts ∷ except_texts ∷ hint_texts
    ∷ barrier_texts ∷ read_sys_texts ∷ write_sys_texts ∷ []
