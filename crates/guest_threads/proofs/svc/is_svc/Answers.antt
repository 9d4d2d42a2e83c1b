use Rattle.std.proofs.Common.{◌≡◌, ℕ, false, Option, Some, None, refl, sym, ap, ◌∙◌}
use Rattle.emu_bits.specs.Fields.{field}
use Rattle.emu_bits.specs.Rows.{◌to◌, Row, decode as decode_in, formed, instruction}
use Rattle.emu_bits.proofs.Encoding.{narrow_field}
use Rattle.a64_insn.specs.declared.form.A64Form.{A64Form}
use Rattle.a64_insn.specs.Table.{a64_table}
use Rattle.a64_insn.specs.Opened.{lines_open}
use Rattle.emu_run.specs.declared.insn.Insn.{Insn}
use Rattle.std.specs.Option.{option_or}
use Rattle.emu_run.specs.ByTable.{a64, sve}
use Rattle.emu_run.specs.Step.{decode}
use Rattle.sve_insn.specs.declared.form.SveForm.{SveForm}
use Rattle.sve_insn.specs.Table.{sve_table}
use Rattle.emu_run.specs.Threads.{is_svc}
use Rattle.guest_threads.proofs.svc.is_svc.Goals as goal

no_a64 : (w : ℕ) → field w 27 2 ≡ 0 → decode_in a64_table w ≡ None
unfolding lines_open a64_table
no_a64 w e = narrow_field (28 to 27) 0 a64_table w refl e

of_sve : (w : ℕ) → field w 27 2 ≡ 0 → sve (instruction sve_table w) ≡ decode w
of_sve w e = ap (λ (r : Option (Row A64Form)). option_or (a64 (formed r)) (sve (instruction sve_table w))) (sym (no_a64 w e))

no_svc : (o : Option SveForm) → is_svc (sve o) ≡ false
no_svc None = refl
no_svc (Some form) = refl

pub returns-then-may_be_sve : goal.returns-then-may_be_sve
returns-then-may_be_sve c =
    sym (sym (ap (λ (o : Option Insn). is_svc o) (of_sve c.args.word (c.may_be_sve.ensures.0 c.if-may_be_sve.true))) ∙ no_svc (instruction sve_table c.args.word))
