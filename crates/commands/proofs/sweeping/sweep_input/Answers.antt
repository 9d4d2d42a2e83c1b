use Rattle.std.proofs.Common.{◌≡◌, ℕ, List, IfSome, map, string_bytes, refl, sym, ap, subst, ◌∙◌, true}
use Rattle.elf_image.specs.Images.{seen_image}
use Rattle.emu_system.specs.Gained.{Gains}
use Rattle.command_model.specs.Sweep.{stream_limit, text_before}
use Rattle.command_model.specs.SweepLaws.{lines_whole}
use Rattle.vl_sweep.specs.Sweeps.{is_broken_off, sweep_of}
use Rattle.vl_sweep.specs.declared.lengths.SweepEnd.{SweepEnd}
use Rattle.command_lines.specs.Outcome.{outcome_of_sweep, program_arguments}
use Rattle.command_lines.specs.declared.ending.Ending.{Ending}
use Rattle.command_lines.specs.declared.ending.Ending.TheVariants.{Done, OutOfMemory, TooLong, WriteFault}
use Rattle.commands.specs.Sweeping.{ends_swept, Writes}
use Rattle.commands.proofs.MayEnd.{kind_put}
use Rattle.commands.proofs.Sweeps.{broken_writes, too_long_writes, whole_writes}
use Rattle.commands.proofs.WholeInputs.{nothing_written}
use Rattle.commands.proofs.sweeping.sweep_input.Goals as goal

pub returns-in_default-clause-outcome : goal.returns-in_default-clause-outcome
returns-in_default-clause-outcome g c = nothing_written (outcome_of_sweep (sweep_of c.args.bytes.now (seen_image c.args.image.now) (program_arguments (map string_bytes c.args.words.now) c.args.program.now.file c.args.program.now.args) c.args.program.now.pages c.args.program.now.budget c.args.input.now)) OutOfMemory (g.O.Sink.held c.args.output.now) (g.E.Sink.held c.args.errors.now) refl

pub returns-in-Done-clause-outcome : goal.returns-in-Done-clause-outcome
returns-in-Done-clause-outcome g c =
    let same : map string_bytes c.deref.result.now ≡ program_arguments (map string_bytes c.args.words.now) c.args.program.now.file c.args.program.now.args = ap (map string_bytes) c.deref.ensures.value ∙ c.in-Ok.ensures in
    let s = sweep_of c.args.bytes.now (seen_image c.args.image.now) (map string_bytes c.deref.result.now) c.args.program.now.pages c.args.program.now.budget c.args.input.now in
    let o0 = g.O.Sink.held c.args.output.now in
    let o1 = g.O.Sink.held c.sweep.new.output in
    let e0 = g.E.Sink.held c.args.errors.now in
    subst (λ (xs : List (List ℕ)). Writes (outcome_of_sweep (sweep_of c.args.bytes.now (seen_image c.args.image.now) xs c.args.program.now.pages c.args.program.now.budget c.args.input.now)) Done o0 o1 e0 e0) same
    (whole_writes s o0 o1 e0 (c.sweep.ensures.fits c.in-Done.is) (c.sweep.ensures.whole c.in-Done.is))

pub returns-in-TooLong-clause-outcome : goal.returns-in-TooLong-clause-outcome
returns-in-TooLong-clause-outcome g c =
    let same : map string_bytes c.deref.result.now ≡ program_arguments (map string_bytes c.args.words.now) c.args.program.now.file c.args.program.now.args = ap (map string_bytes) c.deref.ensures.value ∙ c.in-Ok.ensures in
    let s = sweep_of c.args.bytes.now (seen_image c.args.image.now) (map string_bytes c.deref.result.now) c.args.program.now.pages c.args.program.now.budget c.args.input.now in
    let o0 = g.O.Sink.held c.args.output.now in
    let o1 = g.O.Sink.held c.sweep.new.output in
    let e0 = g.E.Sink.held c.args.errors.now in
    subst (λ (xs : List (List ℕ)). Writes (outcome_of_sweep (sweep_of c.args.bytes.now (seen_image c.args.image.now) xs c.args.program.now.pages c.args.program.now.budget c.args.input.now)) c.ending_after_line.result o0 o1 e0 (g.E.Sink.held c.put_too_long.new.sink)) same
    (too_long_writes s o0 o1 e0 (g.E.Sink.held c.put_too_long.new.sink) c.put_too_long.result c.ending_after_line.result (c.sweep.ensures.too_long c.in-TooLong.is) (subst (λ (x : SweepEnd). IfSome o0 (λ had. Gains (is_broken_off x) o1 had (text_before s))) c.in-TooLong.is c.sweep.ensures.lines) c.put_too_long.ensures.bytes c.ending_after_line.ensures)

pub returns-in-WriteFault-clause-outcome : goal.returns-in-WriteFault-clause-outcome
returns-in-WriteFault-clause-outcome g c =
    let same : map string_bytes c.deref.result.now ≡ program_arguments (map string_bytes c.args.words.now) c.args.program.now.file c.args.program.now.args = ap (map string_bytes) c.deref.ensures.value ∙ c.in-Ok.ensures in
    let s = sweep_of c.args.bytes.now (seen_image c.args.image.now) (map string_bytes c.deref.result.now) c.args.program.now.pages c.args.program.now.budget c.args.input.now in
    let o0 = g.O.Sink.held c.args.output.now in
    let o1 = g.O.Sink.held c.sweep.new.output in
    let e0 = g.E.Sink.held c.args.errors.now in
    subst (λ (xs : List (List ℕ)). Writes (outcome_of_sweep (sweep_of c.args.bytes.now (seen_image c.args.image.now) xs c.args.program.now.pages c.args.program.now.budget c.args.input.now)) WriteFault o0 o1 e0 e0) same
    (broken_writes s o0 o1 e0 WriteFault refl (lines_whole s) (subst (λ (x : SweepEnd). IfSome o0 (λ had. Gains (is_broken_off x) o1 had (text_before s))) c.in-WriteFault.is c.sweep.ensures.lines))

pub returns-clause-outcome : goal.returns-clause-outcome
returns-clause-outcome g c =
    let same : map string_bytes c.deref.result.now ≡ program_arguments (map string_bytes c.args.words.now) c.args.program.now.file c.args.program.now.args = ap (map string_bytes) c.deref.ensures.value ∙ c.in-Ok.ensures in
    let s = sweep_of c.args.bytes.now (seen_image c.args.image.now) (map string_bytes c.deref.result.now) c.args.program.now.pages c.args.program.now.budget c.args.input.now in
    let o0 = g.O.Sink.held c.args.output.now in
    let o1 = g.O.Sink.held c.sweep.new.output in
    let e0 = g.E.Sink.held c.args.errors.now in
    subst (λ (xs : List (List ℕ)). Writes (outcome_of_sweep (sweep_of c.args.bytes.now (seen_image c.args.image.now) xs c.args.program.now.pages c.args.program.now.budget c.args.input.now)) OutOfMemory o0 o1 e0 e0) same
    (broken_writes s o0 o1 e0 OutOfMemory refl (lines_whole s) (subst (λ (x : SweepEnd). IfSome o0 (λ had. Gains (is_broken_off x) o1 had (text_before s))) c.in-OutOfMemory.is c.sweep.ensures.lines))

pub returns-in-TooLong-clause-kind : goal.returns-in-TooLong-clause-kind
returns-in-TooLong-clause-kind g c = subst (λ (x : Ending). ends_swept x ≡ true) (sym c.ending_after_line.ensures) (kind_put ends_swept c.put_too_long.result (TooLong stream_limit) refl refl)
