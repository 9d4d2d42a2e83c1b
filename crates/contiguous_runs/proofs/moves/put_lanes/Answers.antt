use Rattle.std.proofs.Common.{◌≡◌, ◌<◌, ◌≤◌, ◌+◌, ◌*◌, ◌/◌, ◌%◌, List, ℕ, length, take, get_or, ap, ◌∙◌, arith}
use Rattle.emu_model.specs.Access.{Memory, page_size}
use Rattle.emu_model.specs.Lanes.{read_z}
use Rattle.emu_model.specs.Pages.{with_bytes}
use Rattle.emu_model.specs.SoundState.{AreBytes}
use Rattle.emu_model.specs.State.{Vectors}
use Rattle.vec_regs.specs.Words.{bytes_of}
use Rattle.guest_mem.specs.Slices.{to_page_end, memory_with_slice, with_slice-bytes}
use Rattle.contiguous_runs.proofs.FirstBytes.{first_bytes, register_length}
use Rattle.contiguous_runs.proofs.moves.put_lanes.Goals as goal

pub put_pair-requires : goal.put_pair-requires
put_pair-requires c = omega (arith, c.writable-places.ensures.length, c.requires.within, c.if-total-eq16.true)

pub put_long-requires : goal.put_long-requires
put_long-requires c = omega (arith, c.writable-places.ensures.length, c.requires.few)

-- places that hold the first bytes of a register
put : (m : Memory) (v : Vectors) (zt base n : ℕ) (places placed words : List ℕ) → base % page_size + n ≤ page_size → n ≤ v.bits / 8 → read_z v zt ≡ bytes_of (v.bits / 8) words → length places ≡ to_page_end base n → length placed ≡ length places
    → AreBytes placed → ((j : ℕ) → j < length places → get_or placed j 0 ≡ get_or (read_z v zt) j 0) → memory_with_slice m base placed ≡ with_bytes m base (take n (read_z v zt))
put m v zt base n places placed words fits few is there count bytes same =
    let long : length placed ≡ n = omega (arith, count, there, fits) in
    let room : n ≤ length (read_z v zt) = omega (arith, few, register_length (read_z v zt) words (v.bits / 8) is) in
    with_slice-bytes m base placed (omega (arith, long, fits)) bytes
    ∙ ap (with_bytes m base) (first_bytes placed (read_z v zt) n long room (λ j b. same j (omega (arith, b, long, count))))

pub returns-then-total-eq16-clause-stored : goal.returns-then-total-eq16-clause-stored
returns-then-total-eq16-clause-stored c =
    put c.args.mem.now.memory c.args.vec.now c.args.zt c.args.base (c.args.n * c.args.w) c.writable-places.result.now c.put_pair.new.bytes c.z_words-words.result.now c.requires.within c.requires.few c.z_words-words.ensures.words c.writable-places.ensures.length c.put_pair.ensures.long
    c.told_bytes-bytes.ensures.bytes c.put_pair.ensures.same

pub returns-else-total-eq16-clause-stored : goal.returns-else-total-eq16-clause-stored
returns-else-total-eq16-clause-stored c =
    put c.args.mem.now.memory c.args.vec.now c.args.zt c.args.base (c.args.n * c.args.w) c.writable-places.result.now c.put_long.new.bytes c.z_words-words.result.now c.requires.within c.requires.few c.z_words-words.ensures.words c.writable-places.ensures.length c.put_long.ensures.long
    c.told_bytes-bytes-else-total-eq16.ensures.bytes c.put_long.ensures.same
