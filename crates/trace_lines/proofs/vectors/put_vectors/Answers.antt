use Rattle.std.proofs.Common.{ℕ, [], ◌++◌, if◌then◌else◌, ap₂, ◌∙◌}
use Rattle.emu_run.specs.Registers.{lines_of}
use Rattle.emu_report.proofs.Puts.{put_both, put_equal}
use Rattle.trace_lines.specs.Lines.{ffr_change, length_change, p_change, z_change}
use Rattle.trace_lines.proofs.vectors.put_vectors.Goals as goal

pub returns-clause-bytes : goal.returns-clause-bytes
returns-clause-bytes g c =
    let shown = c.args.shown.now in
    let old = c.args.old.now in
    let new = c.args.new.now in
    let vl = if shown.vl then length_change old.bits new.bits else [] in
    let zs = if shown.z then lines_of 32 (z_change old new) else [] in
    let ps = if shown.p then lines_of 16 (p_change old new) else [] in
    let ffr = if shown.ffr then ffr_change old new else [] in
    let put_vl = put_equal _ _ _ vl (ap₂ (λ (a b : ℕ). if shown.vl then length_change a b else []) (c.bits.ensures.value ∙ c.length.ensures.value) (c.bits-2.ensures.value ∙ c.length-2.ensures.value)) c.in_ok-put_length.ensures.bytes in
    put_both _ _ _ ((vl ++ zs) ++ ps) ffr (put_both _ _ _ (vl ++ zs) ps (put_both _ _ _ vl zs put_vl c.in_ok-put_zs.ensures.bytes) c.in_ok-put_ps.ensures.bytes) c.in_ok-put_ffr.ensures.bytes
