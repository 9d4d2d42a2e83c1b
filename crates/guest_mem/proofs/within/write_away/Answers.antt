use Rattle.std.proofs.Common.{◌/◌, ◌*◌, ◌+◌, ◌%◌, take, ap, ◌∙◌, if◌then◌else◌}
use Rattle.emu_model.specs.Access.{Memory, page_size}
use Rattle.emu_model.specs.Pages.{with_bytes}
use Rattle.guest_mem.proofs.Numbers.{stored_in_page}
use Rattle.guest_mem.proofs.within.write_away.Goals as goal

pub returns-clause-memory : goal.returns-clause-memory
returns-clause-memory c =
    let m = c.args.pages.now.memory in
    let a = c.args.address in
    let n = c.args.n in
    c.store.ensures.bytes
    ∙ ap (λ bytes. if c.store.result then with_bytes m (a / page_size * page_size + a % page_size) (take n bytes) else m) c.to_le_bytes.ensures
    ∙ ap (λ (x : Memory). if c.store.result then x else m) (stored_in_page m a n 16 c.args.v c.requires.most)
