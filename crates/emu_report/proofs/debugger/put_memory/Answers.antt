use Rattle.std.proofs.Common.{ℕ, ◌+◌, ◌-◌, ◌*◌, ◌/◌, min, ap, arith, ◌∙◌}
use Rattle.dbg_model.specs.Session.{memory_line}
use Rattle.emu_report.proofs.Lines.{lines_cut, lines_put}
use Rattle.emu_report.proofs.Puts.{cut_equal, put_equal, puts_cut}
use Rattle.emu_report.proofs.debugger.put_memory.Goals as goal

pub returns-in_err-put_memory_line-clause-bytes : goal.returns-in_err-put_memory_line-clause-bytes
returns-in_err-put_memory_line-clause-bytes g c =
    let line = λ (k : ℕ). memory_line c.args.mem.now.memory (c.args.address + 16 * k) (min 16 (c.args.count - 16 * k)) in
    puts_cut _ _ _ _ c.from_residual.ensures.0
    (lines_cut _ _ _ line ((c.args.count + 15) / 16) c.lines.k (omega arith) c.lines.invariant.put
    (cut_equal _ _ _ _ (ap (λ (n : ℕ). memory_line c.args.mem.now.memory (c.args.address + 16 * c.lines.k) n) c.min.ensures) c.in_err-put_memory_line.ensures.bytes))

pub lines-preserved : goal.lines-preserved
lines-preserved g c =
    let line = λ (k : ℕ). memory_line c.args.mem.now.memory (c.args.address + 16 * k) (min 16 (c.args.count - 16 * k)) in
    record {
      put = lines_put _ _ _ line c.lines.k c.lines.invariant.put
          (put_equal _ _ _ _ (ap (λ (n : ℕ). memory_line c.args.mem.now.memory (c.args.address + 16 * c.lines.k) n) c.min.ensures) c.in_ok-put_memory_line.ensures.bytes);
      kept = c.in_ok-put_memory_line.ensures.cause.kept ∙ c.lines.invariant.kept;
    }
