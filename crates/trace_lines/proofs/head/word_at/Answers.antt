use Rattle.std.proofs.Common.{arith}
use Rattle.trace_lines.proofs.Words.{four_bytes}
use Rattle.trace_lines.proofs.head.word_at.Goals as goal

pub returns : goal.returns
returns c =
    four_bytes c.args.mem.now.memory c.args.address c.from-first.result c.from-second.result c.from-third.result c.from-fourth.result (omega arith)
    (let e = c.from-first.ensures in let d = c.byte_at.ensures in cc)
    (let e = c.from-second.ensures in let d = c.byte_at-2.ensures in cc)
    (let e = c.from-third.ensures in let d = c.byte_at-3.ensures in cc)
    (let e = c.from-fourth.ensures in let d = c.byte_at-4.ensures in cc)
