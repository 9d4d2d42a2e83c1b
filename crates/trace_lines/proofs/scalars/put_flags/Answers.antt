use Rattle.std.proofs.Common.{◌≡◌, ℕ, ◌+◌, Bool, false, List, [], ◌∷◌, ◌++◌, codes, if◌then◌else◌, nat_eq, sym, ap, ap₂, ◌∙◌}
use Rattle.std.proofs.lemmas.Bool.{ne_eqb}
use Rattle.emu_bits.specs.Fields.{bit}
use Rattle.emu_bits.specs.declared.flags.Flags.{Flags}
use Rattle.emu_run.specs.Registers.{flag_digits}
use Rattle.emu_report.proofs.Puts.{puts_equal}
use Rattle.trace_lines.specs.Lines.{flag_number, flags_change, change_text}
use Rattle.trace_lines.proofs.Pieces.{two_pieces}
use Rattle.trace_lines.proofs.Putting.{told_text}
use Rattle.trace_lines.proofs.scalars.put_flags.Goals as goal

digits_of : (f : Flags) (n z c v : ℕ) → n ≡ bit f.n → z ≡ bit f.z → c ≡ bit f.c → v ≡ bit f.v → (48 + n) ∷ (48 + z) ∷ (48 + c) ∷ (48 + v) ∷ [] ≡ flag_digits f
digits_of f n z c v p q r s = cc

pub returns-clause-bytes : goal.returns-clause-bytes
returns-clause-bytes g c =
    let old = c.args.old in
    let new = c.args.new in
    let digits = digits_of new c.digit.result c.digit-2.result c.digit-3.result c.digit-4.result c.digit.ensures.value c.digit-2.ensures.value c.digit-3.ensures.value c.digit-4.ensures.value in
    let changed : nat_eq (flag_number old) (flag_number new) ≡ false = ap₂ (λ (i j : ℕ). nat_eq i j) (sym c.flag_number.ensures) (sym c.flag_number-else-not-told.ensures) ∙ ne_eqb _ _ c.if-flag_number.false in
    puts_equal _ _ _ _ _
    (two_pieces _ _ _ (codes " | nzcv ") (flag_digits new) c.new-text.ensures c.push.ensures.text (c.push-2.ensures.text ∙ ap (λ (ds : List ℕ). c.push.new.self ++ ds) digits)
    ∙ ap (λ (b : Bool). if b then [] else change_text (codes "nzcv") (flag_digits new)) (sym changed)
    ∙ told_text c.args.told (flags_change old new) c.if-not-told.false)
    c.put.ensures.bytes
