use Rattle.std.proofs.Common.{arith}
use Rattle.frame_arena.proofs.Table.{slot_in, slot_page, slot_read}
use Rattle.frame_arena.proofs.arena.FrameArena.bytes_at.Goals as goal

pub index-requires : goal.index-requires
index-requires c =
    let l = slot_in c.self.inside.total c.self.inside.slots.items c.self.inside.free.frames c.args.self.now c.self.view_is c.args.number c.requires in
    omega (arith, l, c.self.inside.slots.ok.0)

pub bytes-requires : goal.bytes-requires
bytes-requires c = slot_page c.self.inside.total c.self.inside.slots.items c.self.inside.free.frames c.args.self.now c.self.view_is c.args.number c.requires c.index.result.now c.index.ensures

pub returns-clause-bytes : goal.returns-clause-bytes
returns-clause-bytes c = slot_read c.self.inside.total c.self.inside.slots.items c.self.inside.free.frames c.args.self.now c.self.view_is c.args.number c.requires c.index.result.now c.index.ensures c.bytes.result.now c.bytes.ensures
