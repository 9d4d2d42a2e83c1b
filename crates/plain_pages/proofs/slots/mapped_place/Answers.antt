use Rattle.std.proofs.Common.{Option, is_some, sym, ap, ◌∙◌}
use Rattle.emu_model.specs.Access.{Page}
use Rattle.plain_pages.specs.Slots.{entries_of}
use Rattle.guest_pages.proofs.Maps.{get_is}
use Rattle.plain_pages.proofs.Ordered.{present}
use Rattle.plain_pages.proofs.slots.mapped_place.Goals as goal

pub returns : goal.returns
returns c = present c.args.slots.now c.requires.ascending c.args.page c.place.result c.place.ensures.below c.place.ensures.from (ap (λ (o : Option Page). is_some o) (sym (get_is (entries_of c.args.slots.now) c.args.page)) ∙ c.requires.mapped)
