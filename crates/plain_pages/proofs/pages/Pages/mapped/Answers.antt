use Rattle.std.proofs.Common.{◌≡◌, length, sym, subst, ap, ◌∙◌, arith}
use Rattle.std.specs.FinMap.{len}
use Rattle.emu_model.specs.Access.{Memory}
use Rattle.emu_model.specs.SoundState.{IsSoundMemory}
use Rattle.std.proofs.lemmas.List.{length-map}
use Rattle.plain_pages.specs.Slots.{entry_of, entries_of}
use Rattle.guest_pages.proofs.Maps.{len_is, sound_is}
use Rattle.plain_pages.proofs.pages.Pages.mapped.Goals as goal

-- as many slots as entries
counted : (c : goal.After-len) → length (entries_of c.self.inside.slots.items) ≡ c.len.result
counted c = length-map c.self.inside.slots.items entry_of ∙ sym c.self.inside.slots.ok.0 ∙ sym c.len.ensures

pub overflow_cast-result : goal.overflow_cast-result
overflow_cast-result c = record { fits = omega (arith, counted c, c.self.invariant.within, c.self.invariant.narrow) }

pub returns-clause-sound : goal.returns-clause-sound
returns-clause-sound c = subst (λ (m : Memory). IsSoundMemory m) c.self.view_is (sound_is c.self.inside.limit (entries_of c.self.inside.slots.items) c.self.invariant)

pub returns-clause-count : goal.returns-clause-count
returns-clause-count c = sym (ap (λ (m : Memory). len m.pages) (sym c.self.view_is) ∙ len_is (entries_of c.self.inside.slots.items) c.self.invariant.ascending ∙ counted c)
