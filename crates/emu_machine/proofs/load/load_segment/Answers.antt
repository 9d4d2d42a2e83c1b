use Rattle.std.proofs.Common.{◌≡◌, ◌+◌, ◌-◌, ◌∙◌, [], ◌∷◌, length, ap, take, drop, arith, length-drop}
use Rattle.std.proofs.lemmas.List.{length-take}
use Rattle.emu_model.specs.Access.{Memory}
use Rattle.emu_system.specs.Image.{first_page, page_count}
use Rattle.emu_model.specs.Pages.{is_over_limit, least_mapped, mapped, with_bytes}
use Rattle.guest_pages.specs.MapFault.{map_fault}
use Rattle.emu_machine.proofs.Loading.{has_pages, free_of, when_ok}
use Rattle.emu_machine.proofs.load.load_segment.Goals as goal

pub returns-clause-pages : goal.returns-clause-pages
returns-clause-pages c =
    let old = c.args.pages.now.memory in
    let file = c.args.file.now in
    let s = c.args.segment.now in
    let first = first_page s in
    let end = c.end_page-end.ensures.value in
    let size : (s.offset + s.file_size) - s.offset ≡ s.file_size = omega arith in
    let granted = c.map.ensures.granted (ap (λ n. map_fault old first (n - first)) end ∙ c.requires.free) in
    let mapped_is = when_ok c.map.result (record {}) granted c.map.ensures.mapped in
    let many : length (take s.file_size (drop s.offset file)) ≡ s.file_size =
    length-take s.file_size (drop s.offset file) ∙ (let e = length-drop s.offset file in let within = c.requires.loadable.within in omega (arith, e)) in
    let part = c.requires.loadable.part in
    let high = c.requires.loadable.high in
    has_pages old first (page_count s) s.rights (record { at = s.address; bytes = take s.file_size (drop s.offset file) } ∷ []) c.copy.new.pages.memory
    (record { low = omega (arith, many); high = omega (arith, many); word = omega (arith, many) }, tt)
    (free_of (least_mapped old.pages first (page_count s)) (is_over_limit old (page_count s)) c.requires.free)
    (c.copy.ensures.bytes
    ∙ ap (λ (m : Memory). with_bytes m s.address (take ((s.offset + s.file_size) - s.offset) (drop s.offset file))) (mapped_is ∙ ap (λ n. mapped old first (n - first) s.rights) end)
    ∙ ap (λ n. with_bytes (mapped old first (page_count s) s.rights) s.address (take n (drop s.offset file))) size)
