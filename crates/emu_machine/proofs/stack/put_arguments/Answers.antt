use Rattle.std.proofs.Common.{◌+◌, List, ℕ, ap, ◌∙◌, arith, map, length, string_bytes, drop, [], ◌∷◌}
use Rattle.std.specs.Prelude.{String}
use Rattle.std.specs.Global.{Global}
use Rattle.emu_model.specs.Access.{Memory}
use Rattle.emu_model.specs.Pages.{with_bytes}
use Rattle.emu_system.specs.Stack.{argument_bytes}
use Rattle.emu_machine.proofs.Laid.{argument_written, length_left}
use Rattle.emu_machine.proofs.stack.put_arguments.Goals as goal

pub loop-arg-preserved : goal.loop-arg-preserved
loop-arg-preserved c =
    let xs = c.args.args.now in
    let i = c.loop-arg.arg-index in
    let arg = c.arg-item.result in
    let m = c.loop-arg.pages.memory in
    let at = c.loop-arg.at in
    let others = argument_bytes (map string_bytes (drop (i + 1) xs)) in
    let bytes = c.as_bytes-bytes.ensures.value ∙ ap (λ (s : String Global). string_bytes s) c.arg-item.is in
    let left = length_left string_bytes xs i arg (omega arith) in
    let long = ap length bytes in
    let kept = c.loop-arg.invariant in
    record {
      place = omega arith;
      rest =
          ap (λ (n : Memory). with_bytes n (at + length c.as_bytes-bytes.result.now + 1) others) c.copy-in-loop-arg.ensures.bytes
          ∙ ap (λ (n : Memory). with_bytes (with_bytes n (at + length c.as_bytes-bytes.result.now) (0 ∷ [])) (at + length c.as_bytes-bytes.result.now + 1) others) c.copy.ensures.bytes
          ∙ ap (λ (l : List ℕ). with_bytes (with_bytes (with_bytes m at l) (at + length l) (0 ∷ [])) (at + length l + 1) others) bytes
          ∙ argument_written string_bytes xs i arg (omega arith) m at
          ∙ kept.rest;
      marks = c.copy-in-loop-arg.ensures.marks ∙ c.copy.ensures.marks ∙ kept.marks;
    }
