-- Names of instructions are no directives', and no text has a colon behind its name: computed over both tables.
use Rattle.asm_sve.specs.Table.{sve_lines}
use Rattle.asm_sve.specs.Opened.{texts_open}
use Rattle.std.proofs.Common.{◌≡◌, ℕ, ◌&&◌, Bool, true, false, not, Option, Some, None, refl}
use Rattle.std.proofs.lemmas.Bool.{and_parts, not-true, false≢true}
use Rattle.asm_tokens.specs.AreTokens.{is_token}
use Rattle.listing_model.specs.declared.directive.DirectiveName.{DirectiveName}
use Rattle.listing_model.specs.Directives.{directive_named}
use Rattle.text_model.specs.Reading.{Pattern}
use Rattle.text_model.specs.Text.{chosen}
use Rattle.text_model.proofs.Tests.{are_good, are_written}
use Rattle.text_print.proofs.Chosen.{all_lines_pass, chosen_passes, line_passes}
use Rattle.text_print.proofs.Tokens.{starts_bare}
use Rattle.a64_insn.specs.declared.form.A64Form.{A64Form}
use Rattle.a64_insn.specs.Rows as base
use Rattle.asm_a64.specs.Law as base_law
use Rattle.asm_a64.specs.Table.{line_texts}
use Rattle.asm_a64.specs.Opened.{texts_open as a64_texts_open}
use Rattle.sve_insn.specs.declared.form.SveForm.{SveForm}
use Rattle.sve_insn.specs.Rows as vectors
use Rattle.asm_sve.specs.Law as vectors_law

abbrev is_none : Option DirectiveName → Bool
is_none None = true
is_none (Some d) = false

-- The name is a token and no directive's, the slots are written as they are read, and no number without a sign is first.
abbrev is_statement : Pattern → Bool
is_statement p = (is_token p.name && (are_good p.slots && are_written p.slots)) && (is_none (directive_named p.name) && not (starts_bare p.slots))

base_statements : all_lines_pass is_statement line_texts ≡ true
unfolding a64_texts_open line_texts
base_statements = refl

vector_statements : all_lines_pass is_statement sve_lines ≡ true
unfolding texts_open
vector_statements = refl

-- What the test says of a pattern.
pub record IsStatement (p : Pattern) : Type 0 where
  pub name : is_token p.name ≡ true
  pub good : are_good p.slots ≡ true
  pub written : are_written p.slots ≡ true
  pub no_directive : directive_named p.name ≡ None
  pub no_bare : starts_bare p.slots ≡ false

none_of : (o : Option DirectiveName) → is_none o ≡ true → o ≡ None
none_of None h = refl
none_of (Some d) h = absurd (false≢true h)

statement : (p : Pattern) → is_statement p ≡ true → IsStatement p
statement p h =
    let h1 = and_parts (is_token p.name && (are_good p.slots && are_written p.slots)) _ h in
    let h2 = and_parts (is_token p.name) (are_good p.slots && are_written p.slots) h1.0 in
    let h3 = and_parts (are_good p.slots) (are_written p.slots) h2.1 in
    let h4 = and_parts (is_none (directive_named p.name)) (not (starts_bare p.slots)) h1.1 in
    record { name = h2.0; good = h3.0; written = h3.1; no_directive = none_of _ h4.0; no_bare = not-true _ h4.1 }

pub base_statement : (f : A64Form) (w : ℕ) (p : Pattern) → chosen (base_law.texts_of f) w ≡ Some p → IsStatement p
base_statement f w p e = statement p (chosen_passes is_statement (base_law.texts_of f) w p (line_passes is_statement line_texts (base.line_number f) base_statements) e)

pub vector_statement : (f : SveForm) (w : ℕ) (p : Pattern) → chosen (vectors_law.texts_of f) w ≡ Some p → IsStatement p
vector_statement f w p e = statement p (chosen_passes is_statement (vectors_law.texts_of f) w p (line_passes is_statement sve_lines (vectors.line_number f) vector_statements) e)
