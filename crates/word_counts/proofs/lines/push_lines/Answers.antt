use Rattle.std.proofs.Common.{◌∙◌, string_bytes, sym, refl, arith}
use Rattle.word_counts.proofs.Listed.{all_lines, all_told, page_told}
use Rattle.word_counts.proofs.lines.push_lines.Goals as goal

pub pages-init : goal.pages-init
pages-init c = record {
  within = omega arith;
  told = sym (all_lines (string_bytes c.args.text.now) c.args.tables.now 0 0 refl);
}

pub returns-then-page-eq-PAGES : goal.returns-then-page-eq-PAGES
returns-then-page-eq-PAGES c =
    all_told (string_bytes c.pages.text) (string_bytes c.args.text.now) c.args.tables.now c.pages.next 4503599627370496 (omega arith) c.pages.invariant.told
    (λ word low high. c.next_page-page.ensures.unmet word low (omega (arith, high)))

pub pages-preserved : goal.pages-preserved
pages-preserved c = record {
  within = omega arith;
  told = c.in_ok-push_page.ensures
      ∙ page_told (string_bytes c.pages.text) (string_bytes c.args.text.now) c.args.tables.now c.pages.next c.next_page-page.result c.next_page-page.ensures.from c.pages.invariant.told c.next_page-page.ensures.unmet;
}
