use Rattle.std.proofs.Common.{ℕ, List, ◌++◌}
use Rattle.byteorder.specs.Endian.{little_bytes}
use Rattle.asm_image.proofs.Appended.{on_ok, two}
use Rattle.emu_model.specs.Access.{page_size}
use Rattle.asm_image.proofs.elf_file.put_segment.Goals as goal

pub returns : goal.returns
returns c =
    let s = c.args.segment in
    let f0 : List ℕ = c.args.file.now.items in
    let f1 : List ℕ = c.put_32.new.file.items in
    let f2 : List ℕ = c.put_32-2.new.file.items in
    let f3 : List ℕ = c.put_64.new.file.items in
    let f4 : List ℕ = c.put_64-2.new.file.items in
    let f5 : List ℕ = c.put_64-3.new.file.items in
    let f6 : List ℕ = c.put_64-4.new.file.items in
    let f7 : List ℕ = c.put_64-5.new.file.items in
    let f8 : List ℕ = c.put_64-6.new.file.items in
    let b7 : List ℕ = little_bytes 8 s.memory_size in
    let b8 : List ℕ = little_bytes 8 page_size in
    let t6 : List ℕ = little_bytes 8 s.file_size ++ (b7 ++ b8) in
    let t5 : List ℕ = little_bytes 8 s.address ++ t6 in
    let t4 : List ℕ = little_bytes 8 s.address ++ t5 in
    let t3 : List ℕ = little_bytes 8 s.offset ++ t4 in
    let t2 : List ℕ = little_bytes 4 s.flags ++ t3 in
    on_ok c.put_64-6.result
    (λ e. two f0 f1 f8 (little_bytes 4 1) t2 c.in_ok-put_32.ensures
    (two f1 f2 f8 (little_bytes 4 s.flags) t3 c.in_ok-put_32-2.ensures
    (two f2 f3 f8 (little_bytes 8 s.offset) t4 c.in_ok-put_64.ensures
    (two f3 f4 f8 (little_bytes 8 s.address) t5 c.in_ok-put_64-2.ensures
    (two f4 f5 f8 (little_bytes 8 s.address) t6 c.in_ok-put_64-3.ensures
    (two f5 f6 f8 (little_bytes 8 s.file_size) (b7 ++ b8) c.in_ok-put_64-4.ensures (two f6 f7 f8 b7 b8 c.in_ok-put_64-5.ensures e)))))))
    c.put_64-6.ensures
