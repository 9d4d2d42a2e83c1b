use Rattle.std.proofs.Common.{ℕ, List, ◌++◌, codes}
use Rattle.emu_model.specs.State.{Vectors}
use Rattle.emu_run.specs.Registers.{lines_of, register_line, bit_digits}
use Rattle.emu_report.specs.declared.registers.Kind.TheVariants.{Z, P}
use Rattle.emu_report.specs.VectorLines.{line_of}
use Rattle.emu_report.proofs.Puts.{cut_first, cut_second, put_both, puts_cut, puts_second}
use Rattle.emu_report.proofs.registers.put_vectors.Goals as goal

abbrev z_lines : Vectors → List ℕ
z_lines v = lines_of 32 (line_of v Z)

abbrev p_lines : Vectors → List ℕ
p_lines v = lines_of 16 (line_of v P)

abbrev ffr_line : Vectors → List ℕ
ffr_line v = register_line (codes "ffr") (bit_digits v.ffr)

pub returns-in_err-put_lines-clause-bytes : goal.returns-in_err-put_lines-clause-bytes
returns-in_err-put_lines-clause-bytes g c =
    let v = c.args.vec.now in
    puts_cut _ _ _ _ c.from_residual.ensures.0
    (cut_first _ _ (z_lines v ++ p_lines v) (ffr_line v) (cut_first _ _ (z_lines v) (p_lines v) c.in_err-put_lines.ensures.bytes))

pub returns-in_err-put_lines-2-clause-bytes : goal.returns-in_err-put_lines-2-clause-bytes
returns-in_err-put_lines-2-clause-bytes g c =
    let v = c.args.vec.now in
    puts_cut _ _ _ _ c.from_residual-in_err-put_lines-2.ensures.0
    (cut_first _ _ (z_lines v ++ p_lines v) (ffr_line v) (cut_second _ _ _ (z_lines v) (p_lines v) c.in_ok-put_lines.ensures.bytes c.in_err-put_lines-2.ensures.bytes))

pub returns-clause-bytes : goal.returns-clause-bytes
returns-clause-bytes g c =
    let v = c.args.vec.now in
    puts_second _ _ _ (z_lines v ++ p_lines v) (ffr_line v) _ (put_both _ _ _ (z_lines v) (p_lines v) c.in_ok-put_lines.ensures.bytes c.in_ok-put_lines-2.ensures.bytes) c.put_ffr.ensures.bytes
