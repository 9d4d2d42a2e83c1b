use Rattle.std.proofs.Common.{◌≤◌, ℕ, ◌+◌, ◌*◌, arith, ◌∙◌}
use Rattle.emu_report.proofs.Puts.{puts_cut}
use Rattle.asm_text.specs.Disassembly.{skipped, word_count, line_at}
use Rattle.dis_text.proofs.Batches.{batch_put, batch_cut}
use Rattle.dis_text.proofs.segments.put_segment.Goals as goal

pub returns-in_err-put_some-clause-bytes : goal.returns-in_err-put_some-clause-bytes
returns-in_err-put_some-clause-bytes g c =
    let count : ℕ = word_count c.args.segment.now.address c.args.segment.now.file_size in
    let line = λ (k : ℕ). line_at c.args.file.now c.args.segment.now (skipped c.args.segment.now.address + 4 * k) in
    let within : c.batches.done + c.min-next.result ≤ count = omega (arith, c.min-next.ensures, c.word_count-count.ensures) in
    puts_cut _ _ _ _ c.from_residual.ensures.0
    (batch_cut _ _ _ line count c.batches.done c.min-next.result within c.batches.invariant.put c.in_err-put_some.ensures.bytes)

pub batches-preserved : goal.batches-preserved
batches-preserved g c =
    let line = λ (k : ℕ). line_at c.args.file.now c.args.segment.now (skipped c.args.segment.now.address + 4 * k) in
    record {
      put = batch_put _ _ _ line c.batches.done c.min-next.result c.batches.invariant.put c.in_ok-put_some.ensures.bytes;
      kept = c.in_ok-put_some.ensures.cause.kept ∙ c.batches.invariant.kept;
      within = omega (arith, c.min-next.ensures);
    }
