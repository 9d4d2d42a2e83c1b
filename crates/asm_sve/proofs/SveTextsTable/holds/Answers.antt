use Rattle.std.proofs.Common.{◌≡◌, Option, Some, None, refl, ap, ◌∙◌}
use Rattle.std.specs.Prelude.{is_some}
use Rattle.sve_insn.specs.declared.form.SveForm.{SveForm}
use Rattle.sve_insn.specs.Seen.{seen}
use Rattle.asm_sve.proofs.SveTextsTable.holds.Goals as goal

same_some : (o : Option SveForm) → is_some o ≡ is_some (seen o)
same_some None = refl
same_some (Some f) = refl

pub returns : goal.returns
returns c = c.is_some.ensures ∙ same_some c.decode_sve.result ∙ ap is_some c.decode_sve.ensures.table
