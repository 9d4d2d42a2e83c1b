use Rattle.std.proofs.Common.{ℕ, Option, ◌+◌, ◌++◌, ap, ◌∙◌, arith}
use Rattle.emu_model.specs.Pages.{peeked}
use Rattle.dbg_model.specs.Session.{byte_text}
use Rattle.emu_report.proofs.Lines.{lines_appended}
use Rattle.emu_report.proofs.debugger.push_bytes.Goals as goal

pub bytes-preserved : goal.bytes-preserved
bytes-preserved c = record {
  text = lines_appended _ _ _ (λ k. byte_text (peeked c.args.mem.now.memory (c.args.address + k))) c.bytes.k c.bytes.invariant.text
      (c.push_byte.ensures.text ∙ ap (λ (byte : Option ℕ). c.bytes.text ++ byte_text byte) c.peek.ensures);
  count = omega arith;
}
