use Rattle.std.proofs.Common.{◌≡◌, ◌++◌, ℕ, List}
use Rattle.asm_image.proofs.Appended.{if_ok, two, zeros}
use Rattle.asm_image.proofs.elf_file.put_header.Goals as goal

pub returns : goal.returns
returns c =
    let f0 : List ℕ = c.args.file.now.items in
    let f1 : List ℕ = c.extend_from_slice.new.self.items in
    let f2 : List ℕ = c.put_64.new.file.items in
    let f3 : List ℕ = c.extend_from_slice-2.new.self.items in
    let f4 : List ℕ = c.put_16.new.file.items in
    let f5 : List ℕ = c.extend_from_slice-3.new.self.items in
    if_ok c.extend_from_slice-3.result f5 (f4 ++ zeros 6) f4 c.extend_from_slice-3.ensures.items
    (λ (e : f5 ≡ f4 ++ zeros 6). two f0 f1 f5 _ _ c.in_ok-extend_from_slice.ensures.items
    (two f1 f2 f5 _ _ c.in_ok-put_64.ensures (two f2 f3 f5 _ _ c.in_ok-extend_from_slice-2.ensures.items (two f3 f4 f5 _ _ c.in_ok-put_16.ensures e))))
