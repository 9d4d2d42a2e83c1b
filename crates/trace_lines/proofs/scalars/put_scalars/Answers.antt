use Rattle.std.proofs.Common.{ℕ, [], ◌++◌, codes, if◌then◌else◌, ap₂}
use Rattle.emu_bits.specs.declared.flags.Flags.{Flags}
use Rattle.emu_run.specs.Registers.{lines_of}
use Rattle.emu_report.proofs.Core.{sp_read}
use Rattle.emu_report.proofs.Puts.{put_both, put_equal}
use Rattle.trace_lines.specs.Lines.{flags_change, word_change, x_change}
use Rattle.trace_lines.proofs.scalars.put_scalars.Goals as goal

pub returns-clause-bytes : goal.returns-clause-bytes
returns-clause-bytes g c =
    let shown = c.args.shown.now in
    let old = c.args.old.now in
    let new = c.args.new.now in
    let xs = if shown.x then lines_of 31 (x_change old new) else [] in
    let sp = if shown.sp then word_change (codes "sp") old.sp new.sp else [] in
    let nzcv = if shown.nzcv then flags_change old.flags new.flags else [] in
    let tpidr = if shown.tpidr then word_change (codes "tpidr") old.tpidr new.tpidr else [] in
    let put_sp = put_equal _ _ _ sp
    (ap₂ (λ (a b : ℕ). if shown.sp then word_change (codes "sp") a b else []) (sp_read old c.at.result c.x_sp.result c.at.ensures c.x_sp.ensures) (sp_read new c.at-2.result c.x_sp-2.result c.at-2.ensures c.x_sp-2.ensures))
    c.in_ok-put_word.ensures.bytes in
    let put_nzcv = put_equal _ _ _ nzcv (ap₂ (λ (a b : Flags). if shown.nzcv then flags_change a b else []) c.flags.ensures c.flags-2.ensures) c.in_ok-put_flags.ensures.bytes in
    let put_tpidr = put_equal _ _ _ tpidr (ap₂ (λ (a b : ℕ). if shown.tpidr then word_change (codes "tpidr") a b else []) c.tpidr.ensures c.tpidr-2.ensures) c.in_ok-put_word-2.ensures.bytes in
    put_both _ _ _ ((xs ++ sp) ++ nzcv) tpidr (put_both _ _ _ (xs ++ sp) nzcv (put_both _ _ _ xs sp c.in_ok-put_xs.ensures.bytes put_sp) put_nzcv) put_tpidr
