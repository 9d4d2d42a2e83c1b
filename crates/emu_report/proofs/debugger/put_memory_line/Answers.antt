use Rattle.std.proofs.Common.{◌+◌, codes}
use Rattle.emu_model.specs.Pages.{peeked}
use Rattle.emu_run.specs.Text.{newline}
use Rattle.emu_run.specs.Reports.{address_text}
use Rattle.emu_run.specs.Registers.{lines_of}
use Rattle.dbg_model.specs.Session.{byte_text}
use Rattle.emu_report.proofs.Lanes.{four_pieces}
use Rattle.emu_report.proofs.Puts.{puts_equal}
use Rattle.emu_report.proofs.debugger.put_memory_line.Goals as goal

pub returns-clause-bytes : goal.returns-clause-bytes
returns-clause-bytes g c =
    puts_equal _ _ _ _ _
    (four_pieces _ _ _ _ _ (address_text c.args.address) (codes ":") (lines_of c.args.count (λ k. byte_text (peeked c.args.mem.now.memory (c.args.address + k)))) newline
    c.new-text.ensures c.push_address.ensures.text c.push.ensures.text c.push_bytes.ensures.text c.push-2.ensures.text)
    c.put.ensures.bytes
