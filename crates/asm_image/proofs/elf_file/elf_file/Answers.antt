use Rattle.std.proofs.Common.{ℕ, ◌+◌, ◌∙◌, ap, sym}
use Rattle.asm_image.proofs.Appended.{one_segment, two_segments}
use Rattle.emu_model.specs.Access.{page_size}
use Rattle.listing_model.specs.File.{padded}
use Rattle.asm_image.proofs.elf_file.elf_file.Goals as goal

pub returns-then-has_no_data : goal.returns-then-has_no_data
returns-then-has_no_data c =
    one_segment c.args.entry c.args.bss c.args.code.now c.args.values.now _ _ _ _ _ (sym c.has_no_data.ensures ∙ c.if-has_no_data.true)
    c.new-file.ensures.items c.in_ok-put_header.ensures c.in_ok-put_code_header.ensures c.in_ok-pad.ensures c.in_ok-extend_from_slice.ensures.items

pub returns : goal.returns
returns c =
    two_segments c.args.entry c.args.bss c.args.code.now c.args.values.now _ _ _ _ _ _ _ _ (sym c.has_no_data.ensures ∙ c.if-has_no_data.false)
    c.new-file.ensures.items c.in_ok-put_header-2.ensures c.in_ok-put_code_header-2.ensures c.in_ok-put_data_header.ensures c.in_ok-pad-2.ensures
    c.in_ok-extend_from_slice-2.ensures.items
    (c.in_ok-pad-3.ensures ∙ ap (λ (n : ℕ). padded (page_size + n) c.extend_from_slice-2.new.self.items) c.rounded_up.ensures) c.in_ok-extend_from_slice-3.ensures.items
