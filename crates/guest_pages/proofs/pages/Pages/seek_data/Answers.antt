use Rattle.std.proofs.Common.{Some, refl, sym, ap, ◌∙◌}
use Rattle.std.specs.FinMap.{get}
use Rattle.emu_model.specs.Access.{gives}
use Rattle.emu_model.specs.ByPage.{page_gives}
use Rattle.emu_model.specs.Marks.{MarkedMemory}
use Rattle.guest_pages.proofs.Maps.{get_is}
use Rattle.guest_pages.proofs.Ordered.{find_is}
use Rattle.guest_pages.proofs.pages.Pages.seek_data.Goals as goal

pub returns-in-None : goal.returns-in-None
returns-in-None c = (
  (refl, λ _. tt, c.self.view_is),
  record { unchanged = tt; found = ap (λ (m : MarkedMemory). page_gives (get m.memory.pages c.args.page) c.args.kind) (sym c.self.view_is) ∙ ap (λ o. page_gives o c.args.kind) (get_is c.self.inside.list.pages c.args.page ∙ c.in-None.ensures.place); whole = tt },
)

pub returns-then-allows : goal.returns-then-allows
returns-then-allows c = (
  (refl, λ _. tt, c.self.view_is),
  record {
    unchanged = tt;
    found = record {
      rights = c.rights.result;
      is = ap (λ (m : MarkedMemory). get m.memory.pages c.args.page) (sym c.self.view_is)
          ∙ get_is c.self.inside.list.pages c.args.page
          ∙ find_is c.self.inside.list.pages c.self.invariant.order.ascending c.args.page c.in-Some.i c.in-Some.ensures.place
          ∙ (λ j. Some (record { rights = sym c.rights.ensures j; bytes = sym c.bytes.ensures.bytes j }));
      allowed = sym c.allows.ensures ∙ c.if-allows.true;
    };
    whole = c.bytes.ensures.length;
  },
)

pub returns-else-allows : goal.returns-else-allows
returns-else-allows c = (
  (refl, λ _. tt, c.self.view_is),
  record {
    unchanged = tt;
    found = ap (λ (m : MarkedMemory). page_gives (get m.memory.pages c.args.page) c.args.kind) (sym c.self.view_is)
        ∙ ap (λ o. page_gives o c.args.kind) (get_is c.self.inside.list.pages c.args.page ∙ find_is c.self.inside.list.pages c.self.invariant.order.ascending c.args.page c.in-Some.i c.in-Some.ensures.place)
        ∙ ap (λ r. gives r c.args.kind) (sym c.rights.ensures)
        ∙ sym c.allows.ensures ∙ c.if-allows.false;
    whole = tt;
  },
)
