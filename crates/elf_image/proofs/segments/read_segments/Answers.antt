use Rattle.std.proofs.Common.{◌≤◌, arith}
use Rattle.elf_image.proofs.Accepted.{loadable_at_end}
use Rattle.elf_image.proofs.segments.read_segments.Goals as goal

pub returns-clause-loadable : goal.returns-clause-loadable
returns-clause-loadable c =
    let end : c.args.header.now.phnum ≤ c.loop-index.index = omega arith in
    loadable_at_end c.args.bytes.now _ _ c.loop-index.segments.items end c.requires.headers.few c.loop-index.invariant.list
