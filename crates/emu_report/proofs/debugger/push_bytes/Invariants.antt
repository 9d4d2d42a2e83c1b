use Rattle.std.proofs.Common.{◌≡◌, ◌+◌, ◌*◌, ◌++◌, length}
use Rattle.emu_model.specs.Pages.{peeked}
use Rattle.emu_run.specs.Registers.{lines_of}
use Rattle.dbg_model.specs.Session.{byte_text}
use Rattle.emu_report.proofs.debugger.push_bytes.Given as goal

abbrev pub invariant-bytes : goal.invariant-bytes
invariant-bytes l = record {
  text : l.text ≡ l.fn.text ++ lines_of l.k (λ k. byte_text (peeked l.mem.memory (l.address + k)));
  count : length l.text ≡ length l.fn.text + 3 * l.k;
}
