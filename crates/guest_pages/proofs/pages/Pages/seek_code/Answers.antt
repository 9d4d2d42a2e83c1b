use Rattle.std.proofs.Common.{List, refl, sym, ap, ◌∙◌}
use Rattle.emu_model.specs.ByPage.{page_gives}
use Rattle.emu_model.specs.Marks.{MarkedMemory}
use Rattle.emu_model.specs.declared.access.Kind.TheVariants.{Fetch}
use Rattle.guest_pages.specs.Places.{Entry, entry_at, marks_of, pages_of}
use Rattle.guest_pages.proofs.Given.{found, open_at}
use Rattle.guest_pages.proofs.pages.Pages.seek_code.Goals as goal

pub returns-then-is_code : goal.returns-then-is_code
returns-then-is_code c = (
  (refl, λ _. tt, c.self.view_is),
  record {
    unchanged = tt;
    found = open_at c.self.inside c.args.self.now.memory (ap (λ (m : MarkedMemory). m.memory) c.self.view_is) c.args.page c.self.invariant.order.ascending Fetch c.code.result.now c.code.ensures.given;
    whole = c.code.ensures.length;
  },
)

pub returns-in-None : goal.returns-in-None
returns-in-None c =
    let e = c.search_for.ensures in (
      (refl, λ _. tt, (λ j. record { memory = record { pages = pages_of (e.pages j); limit = e.limit j }; marks = marks_of (e.marks j); spare = e.spare j }) ∙ c.self.view_is),
      record {
        unchanged = tt;
        found = ap (λ o. page_gives o Fetch) (found c.self.inside c.args.self.now.memory (ap (λ (m : MarkedMemory). m.memory) c.self.view_is) c.args.page) ∙ c.in-None.ensures.place;
        whole = tt;
      },
    )

pub returns-in-Some : goal.returns-in-Some
returns-in-Some c =
    let e = c.search_for.ensures in let at = c.in-Some.ensures.place in
    let bytes = ap (λ (es : List Entry). (entry_at es c.in-Some.i).1.bytes) (sym e.pages) ∙ sym c.bytes.ensures.bytes in (
      (refl, λ _. tt, (λ j. record { memory = record { pages = pages_of (e.pages j); limit = e.limit j }; marks = marks_of (e.marks j); spare = e.spare j }) ∙ c.self.view_is),
      record {
        unchanged = tt;
        found = open_at c.self.inside c.args.self.now.memory (ap (λ (m : MarkedMemory). m.memory) c.self.view_is) c.args.page c.self.invariant.order.ascending Fetch c.bytes.result.now (record {
          place = c.in-Some.i;
          within = at.within;
          number = at.number;
          allowed = c.in-Some.ensures.allowed;
          bytes_are = bytes;
        });
        whole = c.bytes.ensures.length;
      },
    )
