use Rattle.std.proofs.Common.{sym}
use Rattle.emu_model.specs.WithinPage.{page_with_bytes}
use Rattle.plain_pages.specs.Slots.{entries_of}
use Rattle.guest_pages.proofs.Maps.{none_changed}
use Rattle.plain_pages.proofs.slots.write_slot.Goals as goal

pub returns-in_default : goal.returns-in_default
returns-in_default c = sym (none_changed (page_with_bytes c.args.at c.args.bytes.now) (entries_of c.args.slots.now) c.args.page c.in_default.ensures)
