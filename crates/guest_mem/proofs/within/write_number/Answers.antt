use Rattle.std.proofs.Common.{◌≤◌, ◌/◌, ◌*◌, ◌+◌, ◌%◌, ℕ, List, length, sym, ap, ◌∙◌, arith}
use Rattle.emu_model.specs.Access.{stored, page_size}
use Rattle.emu_model.specs.WithinPage.{split_address}
use Rattle.guest_pages.specs.Lending.{with_part-bytes}
use Rattle.guest_mem.proofs.within.write_number.Goals as goal

pub returns-clause-memory : goal.returns-clause-memory
returns-clause-memory c =
    let m = c.args.pages.now.memory in
    let a = c.args.address in
    let bytes : List ℕ = c.put_number.new.bytes in
    let fits : a % page_size + length bytes ≤ page_size = omega (arith, c.put_number.ensures.length, c.requires.within) in
    with_part-bytes m (a / page_size) (a % page_size) bytes fits c.told_bytes-bytes.ensures.small
    ∙ c.put_number.ensures.stored m (a / page_size * page_size + a % page_size)
    ∙ ap (λ x. stored m x c.args.n c.args.v) (sym (split_address a))
