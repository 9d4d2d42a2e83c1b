use Rattle.std.proofs.Common.{arith}
use Rattle.asm_image.proofs.Assembled.{room, aimable, finished, not_drafted}
use Rattle.asm_image.proofs.assembly.assemble_with.Goals as goal

pub finish-requires-clause-room : goal.finish-requires-clause-room
finish-requires-clause-room g c =
    room g.T.Instructions.statements g.T.Instructions.has_target c.in-Ok.draft c.in-Ok.ensures.0 c.in-Ok.ensures.2

pub finish-requires-clause-aimable : goal.finish-requires-clause-aimable
finish-requires-clause-aimable g c =
    aimable g.T.Instructions.statements g.T.Instructions.has_target c.in-Ok.draft c.in-Ok.ensures.0 c.in-Ok.ensures.2

pub returns-in-Ok : goal.returns-in-Ok
returns-in-Ok g c =
    finished g.T.Instructions.statements c.args.text.now c.in-Ok.ensures.0 c.finish.result (omega (arith, c.if-count_lines-gt-MOST_LINES.false, c.count_lines.ensures))
    c.in-Ok.ensures.1 (c.finish.ensures c.in-Ok.ensures.0 c.in-Ok.ensures.2)

pub returns-in-Err : goal.returns-in-Err
returns-in-Err g c =
    not_drafted g.T.Instructions.statements g.T.Instructions.has_target c.args.text.now c.in-Err.error
    (omega (arith, c.if-count_lines-gt-MOST_LINES.false, c.count_lines.ensures)) c.in-Err.ensures
