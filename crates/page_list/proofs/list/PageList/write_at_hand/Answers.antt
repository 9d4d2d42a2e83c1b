use Rattle.std.proofs.Common.{◌≡◌, ◌-◌, List, ℕ, take, ap, ◌∙◌, arith}
use Rattle.std.proofs.lemmas.List.{take_all}
use Rattle.emu_model.specs.Access.{page_size}
use Rattle.emu_model.specs.WithinPage.{page_with_bytes}
use Rattle.page_list.specs.Bytes.{as_bytes, as_bytes-same}
use Rattle.page_list.specs.Entries.{changed_at, place_at_hand}
use Rattle.page_list.proofs.list.PageList.write_at_hand.Goals as goal

pub returns-clause-pages : goal.returns-clause-pages
returns-clause-pages c =
    let bytes = c.args.bytes.now in let at = c.args.at in
    let same : c.copy_from_slice.new.self ≡ bytes = c.copy_from_slice.ensures.after ∙ c.told_bytes-bytes.ensures.same in
    ap (λ (z : List ℕ). changed_at (page_with_bytes at (take (page_size - at) (as_bytes z))) (place_at_hand c.args.self.now.hand c.args.page) c.args.self.now.pages) same
    ∙ ap (λ (z : List ℕ). changed_at (page_with_bytes at (take (page_size - at) z)) (place_at_hand c.args.self.now.hand c.args.page) c.args.self.now.pages) (as_bytes-same bytes c.told_bytes-bytes.ensures.bytes)
    ∙ ap (λ (z : List ℕ). changed_at (page_with_bytes at z) (place_at_hand c.args.self.now.hand c.args.page) c.args.self.now.pages) (take_all (page_size - at) bytes (omega (arith, c.requires.within)))
