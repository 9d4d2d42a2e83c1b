-- Lines that are appended one behind the other, and bytes in digits.
use Rattle.std.proofs.Common.{◌≡◌, ◌<◌, ℕ, ◌+◌, ◌*◌, List, [], ◌∷◌, ◌++◌, flat_map, get_or, length, take, Some, Result, Ok, Err, OnOk, sym, ap, ◌∙◌, append-nil, append_assoc, arith}
use Rattle.std.proofs.lemmas.Grind.{flat_map-append}
use Rattle.std.proofs.lemmas.List.{take_more, take_all}
use Rattle.emu_model.specs.State.{Parts}
use Rattle.emu_run.specs.Text.{hex}
use Rattle.emu_system.specs.Image.{Image}
use Rattle.command_model.specs.Load.{bytes_text, line_at, load_text, run_at, run_line}
use Rattle.io_gate.specs.Pieces.{PutsAll}
use Rattle.command_model.specs.Sweep.{first_lengths}
use Rattle.command_model.specs.SweepLaws.{lengths_more}

-- a text that was put whole
pub put_so : {T E : Type 0} (old new text : List ℕ) (put : Result T E) → PutsAll (Some old) (Some new) text put → OnOk put (new ≡ old ++ text)
put_so old new text (Ok done) puts = let e : Some new ≡ Some (old ++ text) = puts in cc
put_so old new text (Err failed) puts = tt

-- ---- digits

-- those of one byte more
pub digits_more : (bytes old was new : List ℕ) (at d : ℕ) → at < length bytes → was ≡ old ++ bytes_text (take at bytes) → new ≡ was ++ hex 2 (get_or bytes at d) → new ≡ old ++ bytes_text (take (at + 1) bytes)
digits_more bytes old was new at d lt so_far one =
    let byte : ℕ = get_or bytes at d in
    one
    ∙ ap (λ (xs : List ℕ). xs ++ hex 2 byte) so_far
    ∙ append_assoc old (bytes_text (take at bytes)) (hex 2 byte)
    ∙ ap (λ (xs : List ℕ). old ++ xs)
    (ap (λ (xs : List ℕ). bytes_text (take at bytes) ++ xs) (sym (append-nil (hex 2 byte)))
    ∙ sym (flat_map-append (hex 2) (take at bytes) (byte ∷ []))
    ∙ ap bytes_text (sym (take_more bytes at d lt)))

pub digits_all : (bytes old new : List ℕ) (at : ℕ) → length bytes ≡ at → new ≡ old ++ bytes_text (take at bytes) → new ≡ old ++ bytes_text bytes
digits_all bytes old new at end is = is ∙ ap (λ (xs : List ℕ). old ++ bytes_text xs) (take_all at bytes (omega arith))

-- ---- lines

-- those of the first lengths, so many of them
abbrev pub first_lines : List ℕ → Image → ℕ → List ℕ
first_lines file image n = flat_map (line_at file image) (first_lengths n)

lines_more : (file : List ℕ) (image : Image) (n : ℕ) → first_lines file image (n + 1) ≡ first_lines file image n ++ line_at file image (128 * (n + 1))
lines_more file image n =
    ap (λ (xs : List ℕ). flat_map (line_at file image) xs) (lengths_more n)
    ∙ flat_map-append (line_at file image) (first_lengths n) (128 * (n + 1) ∷ [])
    ∙ ap (λ (xs : List ℕ). first_lines file image n ++ xs) (append-nil (line_at file image (128 * (n + 1))))

-- one more
pub one_more : (file : List ℕ) (image : Image) (n bits : ℕ) (was new : List ℕ) → bits ≡ 128 * (n + 1) → was ≡ first_lines file image n → new ≡ was ++ line_at file image bits → new ≡ first_lines file image (n + 1)
one_more file image n bits was new at so_far one =
    one ∙ ap (λ (b : ℕ). was ++ line_at file image b) at ∙ ap (λ (xs : List ℕ). xs ++ line_at file image (128 * (n + 1))) so_far ∙ sym (lines_more file image n)

-- all sixteen
pub all_lines : (file : List ℕ) (image : Image) (n : ℕ) (lines : List ℕ) → n ≡ 16 → lines ≡ first_lines file image n → lines ≡ load_text file image
all_lines file image n lines end is = is ∙ ap (λ (k : ℕ). first_lines file image k) end

-- the line of a machine by what its run left
pub line_is : (file : List ℕ) (image : Image) (bits b : ℕ) (m : Parts) (output : List ℕ) → b ≡ bits → m ≡ (run_at file image bits).parts → output ≡ (run_at file image bits).output → run_line b m output ≡ line_at file image bits
line_is file image bits b m output at parts written =
    ap (λ (x : ℕ). run_line x m output) at ∙ ap (λ (x : Parts). run_line bits x output) parts ∙ ap (λ (xs : List ℕ). run_line bits (run_at file image bits).parts xs) written
