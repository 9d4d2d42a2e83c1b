use Rattle.std.proofs.Common.{List, ℕ, take, ap, ◌∙◌}
use Rattle.emu_model.specs.Pages.{with_bytes}
use Rattle.guest_mem.proofs.Numbers.{stored_is}
use Rattle.guest_mem.proofs.within.put_number.Goals as goal

pub returns-clause-stored : goal.returns-clause-stored
returns-clause-stored c = λ m a.
    ap (λ (bytes : List ℕ). with_bytes m a bytes) (c.copy_from_slice.ensures.after ∙ ap (λ (bytes : List ℕ). take c.args.n bytes) c.to_le_bytes.ensures) ∙ stored_is m a c.args.n 16 c.args.v c.requires.most
