use Rattle.std.proofs.Common.{map, string_bytes, true, false, refl, sym, ap, ◌∙◌, arith}
use Rattle.elf_image.specs.Images.{seen_image}
use Rattle.vl_sweep.specs.Bounded.{Bounded}
use Rattle.vl_sweep.specs.Sweeps.{sweep_of}
use Rattle.vl_sweep.proofs.LinesSoFar.{all_fit, all_lines, done_is, going, going_fit, no_lines, stopped, unfit, writes_not}
use Rattle.vl_sweep.proofs.lengths.sweep_lengths.Goals as goal

-- ---- 128 bits

pub returns-then-is_stopped-clause-lines : goal.returns-then-is_stopped-clause-lines
returns-then-is_stopped-clause-lines g c =
    let s = sweep_of c.args.bytes.now (seen_image c.args.image.now) (map string_bytes c.args.args.now) c.args.pages c.args.budget c.args.input.now in
    stopped s 0 (omega arith) refl (g.O.Sink.held c.args.output.now) (g.O.Sink.held c.args.output.now) (g.O.Sink.held c.sweep_at-end.new.output) (no_lines s (g.O.Sink.held c.args.output.now)) c.length_behind.result c.length_behind.ensures c.sweep_at-end.result (sym c.is_stopped.ensures ∙ c.if-is_stopped.true) c.sweep_at-end.ensures.line

pub returns-then-is_stopped-clause-too_long : goal.returns-then-is_stopped-clause-too_long
returns-then-is_stopped-clause-too_long g c = λ is.
    let s = sweep_of c.args.bytes.now (seen_image c.args.image.now) (map string_bytes c.args.args.now) c.args.pages c.args.budget c.args.input.now in
    unfit s 0 (omega arith) refl (g.O.Sink.held c.args.output.now) (g.O.Sink.held c.args.output.now) (g.O.Sink.held c.sweep_at-end.new.output) (no_lines s (g.O.Sink.held c.args.output.now)) c.length_behind.result c.length_behind.ensures c.sweep_at-end.result is c.sweep_at-end.ensures.line

-- ---- the others

pub lengths-init : goal.lengths-init
lengths-init g c =
    let s = sweep_of c.args.bytes.now (seen_image c.args.image.now) (map string_bytes c.args.args.now) c.args.pages c.args.budget c.args.input.now in
    let goes = sym c.is_stopped.ensures ∙ c.if-is_stopped.false in
    record {
      lines = going s 0 (omega arith) refl (g.O.Sink.held c.args.output.now) (g.O.Sink.held c.args.output.now) (g.O.Sink.held c.sweep_at-end.new.output) (no_lines s (g.O.Sink.held c.args.output.now)) c.length_behind.result c.length_behind.ensures c.sweep_at-end.result goes c.sweep_at-end.ensures.line;
      fit = going_fit s 0 (omega arith) refl (g.O.Sink.held c.args.output.now) (g.O.Sink.held c.args.output.now) (g.O.Sink.held c.sweep_at-end.new.output) (no_lines s (g.O.Sink.held c.args.output.now)) c.length_behind.result c.length_behind.ensures c.sweep_at-end.result goes c.sweep_at-end.ensures.line;
      written = ap (λ (b : Bounded). b.faults) c.requires.nothing_written;
      errors = c.sweep_at-end.ensures.errors (done_is c.sweep_at-end.result goes);
      kept = c.sweep_at-end.ensures.write_cause.kept (writes_not c.sweep_at-end.result goes);
    }

pub returns-then-is_stopped-2-clause-lines : goal.returns-then-is_stopped-2-clause-lines
returns-then-is_stopped-2-clause-lines g c =
    let s = sweep_of c.args.bytes.now (seen_image c.args.image.now) (map string_bytes c.args.args.now) c.args.pages c.args.budget c.args.input.now in
    let lt = c.lengths-test.true in
    stopped s c.lengths.shorter lt c.lengths.invariant.fit (g.O.Sink.held c.args.output.now) (g.O.Sink.held c.lengths.output) (g.O.Sink.held c.sweep_at-last.new.output) c.lengths.invariant.lines c.length_behind-length.result c.length_behind-length.ensures c.sweep_at-last.result (sym c.is_stopped-in-lengths.ensures ∙ c.if-is_stopped-2.true) c.sweep_at-last.ensures.line

pub returns-then-is_stopped-2-clause-too_long : goal.returns-then-is_stopped-2-clause-too_long
returns-then-is_stopped-2-clause-too_long g c = λ is.
    let s = sweep_of c.args.bytes.now (seen_image c.args.image.now) (map string_bytes c.args.args.now) c.args.pages c.args.budget c.args.input.now in
    let lt = c.lengths-test.true in
    unfit s c.lengths.shorter lt c.lengths.invariant.fit (g.O.Sink.held c.args.output.now) (g.O.Sink.held c.lengths.output) (g.O.Sink.held c.sweep_at-last.new.output) c.lengths.invariant.lines c.length_behind-length.result c.length_behind-length.ensures c.sweep_at-last.result is c.sweep_at-last.ensures.line

pub lengths-preserved : goal.lengths-preserved
lengths-preserved g c =
    let s = sweep_of c.args.bytes.now (seen_image c.args.image.now) (map string_bytes c.args.args.now) c.args.pages c.args.budget c.args.input.now in
    let lt = c.lengths-test.true in
    let goes = sym c.is_stopped-in-lengths.ensures ∙ c.if-is_stopped-2.false in
    record {
      lines = going s c.lengths.shorter lt c.lengths.invariant.fit (g.O.Sink.held c.args.output.now) (g.O.Sink.held c.lengths.output) (g.O.Sink.held c.sweep_at-last.new.output) c.lengths.invariant.lines c.length_behind-length.result c.length_behind-length.ensures c.sweep_at-last.result goes c.sweep_at-last.ensures.line;
      fit = going_fit s c.lengths.shorter lt c.lengths.invariant.fit (g.O.Sink.held c.args.output.now) (g.O.Sink.held c.lengths.output) (g.O.Sink.held c.sweep_at-last.new.output) c.lengths.invariant.lines c.length_behind-length.result c.length_behind-length.ensures c.sweep_at-last.result goes c.sweep_at-last.ensures.line;
      written = ap (λ (b : Bounded). b.faults) (c.sweep_at-last.ensures.written (done_is c.sweep_at-last.result goes));
      errors = c.sweep_at-last.ensures.errors (done_is c.sweep_at-last.result goes);
      kept = c.sweep_at-last.ensures.write_cause.kept (writes_not c.sweep_at-last.result goes) ∙ c.lengths.invariant.kept;
    }

pub returns-clause-lines : goal.returns-clause-lines
returns-clause-lines g c =
    let s = sweep_of c.args.bytes.now (seen_image c.args.image.now) (map string_bytes c.args.args.now) c.args.pages c.args.budget c.args.input.now in
    all_lines s c.lengths.shorter (g.O.Sink.held c.args.output.now) (g.O.Sink.held c.lengths.output) (omega (arith, c.lengths.auto.shorter-end, c.lengths-test.false)) c.lengths.invariant.fit c.lengths.invariant.lines

pub returns-clause-fits : goal.returns-clause-fits
returns-clause-fits g c = λ _.
    let s = sweep_of c.args.bytes.now (seen_image c.args.image.now) (map string_bytes c.args.args.now) c.args.pages c.args.budget c.args.input.now in
    all_fit s c.lengths.shorter (omega (arith, c.lengths.auto.shorter-end, c.lengths-test.false)) c.lengths.invariant.fit
