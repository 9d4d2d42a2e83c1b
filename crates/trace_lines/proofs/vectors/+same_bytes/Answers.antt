use Rattle.std.proofs.Common.{◌-◌, arith}
use Rattle.std.proofs.lemmas.Bool.{eq-eqb, ne_eqb}
use Rattle.emu_model.specs.Lanes.{read_z}
use Rattle.trace_lines.proofs.Same.{bytes_differ, bytes_none, bytes_same}
use Rattle.trace_lines.proofs.vectors.+same_bytes.Goals as goal

pub returns-then-count-eq0 : goal.returns-then-count-eq0
returns-then-count-eq0 t c = bytes_none c.args.count (read_z c.args.old.now c.args.r) (read_z c.args.new.now c.args.r) c.if-count-eq0.true

pub returns-then-z_byte : goal.returns-then-z_byte
returns-then-z_byte t c =
    let some = c.if-count-eq0.false in
    bytes_same c.args.count (c.args.count - 1) c.z_byte.result c.z_byte-2.result (read_z c.args.old.now c.args.r) (read_z c.args.new.now c.args.r) c.same_bytes.result (omega (arith, some))
    c.z_byte.ensures c.z_byte-2.ensures (eq-eqb _ _ c.if-z_byte.true) c.same_bytes.ensures

pub returns-else-z_byte : goal.returns-else-z_byte
returns-else-z_byte t c =
    let some = c.if-count-eq0.false in
    bytes_differ c.args.count (c.args.count - 1) c.z_byte.result c.z_byte-2.result (read_z c.args.old.now c.args.r) (read_z c.args.new.now c.args.r) (omega (arith, some))
    c.z_byte.ensures c.z_byte-2.ensures (ne_eqb _ _ c.if-z_byte.false)
