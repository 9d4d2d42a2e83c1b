use Rattle.std.proofs.Common.{Option, is_some, sym, ap, ◌∙◌}
use Rattle.emu_model.specs.Access.{Page}
use Rattle.plain_pages.specs.Slots.{entries_of}
use Rattle.guest_pages.proofs.Maps.{get_is}
use Rattle.plain_pages.proofs.Removed.{at_found}
use Rattle.plain_pages.proofs.slots.is_mapped.Goals as goal

pub returns-in-None : goal.returns-in-None
returns-in-None c = sym (ap (λ (o : Option Page). is_some o) (get_is (entries_of c.args.slots.now) c.args.page ∙ c.in-None.ensures))

pub returns-in-Some : goal.returns-in-Some
returns-in-Some c = sym (at_found c.args.slots.now c.args.page _ c.requires c.in-Some.ensures)
