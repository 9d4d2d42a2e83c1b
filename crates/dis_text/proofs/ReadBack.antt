-- The text of an instruction is read as the instruction, over both tables together.
use Rattle.std.proofs.Common.{◌≡◌, ℕ, ◌-◌, ◌^◌, ◌<◌, ◌≤◌, ◌==◌, Bool, true, Option, Some, None, Result, Ok, Err, List, [], ◌∷◌, length, bit_and, refl, sym, ap, ap₂, ◌∙◌, subst}
use Rattle.std.proofs.lemmas.Bool.{and_parts}
use Rattle.std.specs.Prelude.{option_map}
use Rattle.std.specs.Option.{option_map_or}
use Rattle.emu_bits.specs.Rows.{instruction}
use Rattle.emu_bits.specs.RowLaws.{IsRow}
use Rattle.asm_tokens.specs.Tokens.{tokens}
use Rattle.text_model.specs.declared.slots.Refusal.{Refusal}
use Rattle.text_model.specs.Slots.{all_fit}
use Rattle.text_model.specs.Reading.{Pattern}
use Rattle.text_model.specs.Statement.{Statement, reads_tokens}
use Rattle.text_model.specs.ReadBack.{destination_of, reads_first, reads_text}
use Rattle.text_model.specs.Text.{told_bits, shows, chosen, text_of, text, slot_tokens}
use Rattle.text_model.proofs.Tables.{chosen_is}
use Rattle.text_code.specs.Reads.{all_sound}
use Rattle.text_print.specs.Room.{all_have_room}
use Rattle.text_print.proofs.Chosen.{line_sound, some_sound, chosen_sound, chosen_room}
use Rattle.text_print.proofs.Tokens.{tokens_are, slots_no_colon, text_length}
use Rattle.a64_insn.specs.declared.form.A64Form.{A64Form}
use Rattle.a64_insn.specs.Table as base_table
use Rattle.a64_insn.specs.Rows as base_rows
use Rattle.asm_a64.specs.Law as base
use Rattle.asm_a64.specs.LawOfTexts as base_again
use Rattle.asm_a64.specs.Table.{a64_lines, a64_patterns}
use Rattle.asm_a64.proofs.Legible as base_checked
use Rattle.asm_a64.proofs.ReadBack as base_back
use Rattle.sve_insn.specs.declared.form.SveForm.{SveForm}
use Rattle.sve_insn.specs.Table as vector_table
use Rattle.sve_insn.specs.Rows as vector_rows
use Rattle.sve_rows.proofs.Laws as vector_laws
use Rattle.sve_rows.proofs.Listed as vector_listed
use Rattle.sve_rows.proofs.Alone as vector_alone
use Rattle.emu_bits.proofs.Encoding.{decode_encoded}
use Rattle.asm_sve.specs.Law as vectors
use Rattle.asm_sve.specs.LawOfTexts as vectors_again
use Rattle.asm_sve.specs.Table.{sve_lines, sve_patterns}
use Rattle.asm_sve.proofs.ReadBack as vector_back
use Rattle.asm_sve.proofs.Checked as vector_checked
use Rattle.dis_text.proofs.Starts.{none_by_both}
use Rattle.dis_text.proofs.Tested.{apart}
use Rattle.asm_tokens.specs.declared.target.Target.TheVariants.{Address}
use Rattle.emu_run.specs.declared.insn.Insn.{Insn}
use Rattle.emu_run.specs.declared.insn.Insn.TheVariants.{A64, Sve}
use Rattle.listing_model.specs.LineOf.{line_of}
use Rattle.listing_model.specs.LineOf.{instruction as instruction_of}
use Rattle.listing_model.specs.declared.line.Body.TheVariants.{Plain, Aimed}
use Rattle.asm_text.specs.Targets.{with_target}
use Rattle.asm_text.specs.Statements.{target_of, made, either, reads, statements}
use Rattle.asm_text.specs.Canonical.{is_canonical}
use Rattle.dis_text.specs.ReadBack.{IsInstruction, IsReadBack}
use Rattle.a64_insn.specs.Rows.{line_number}
use Rattle.dis_a64.specs.Lines.{first_line, line_count}
use Rattle.dis_a64.proofs.Rooms as base_room
use Rattle.dis_sve.proofs.Rooms as vector_room
use Rattle.dis_text.proofs.Lines.{line_read}
use Rattle.dis_text.proofs.Names.{IsStatement, base_statement, vector_statement}
use Rattle.dis_text.proofs.Again.{own_instruction, aimed_back}

-- a text that is read shows a word by a pattern
none_read : (in_table : ℕ → Bool) (ps : List Pattern) (s : Statement) → reads_text in_table ps [] ≡ Ok s → ⊥
none_read in_table ps s h = cc

has_pattern : (in_table : ℕ → Bool) (ps : List Pattern) (o : Option Pattern) (w pc : ℕ) (s : Statement) → reads_text in_table ps (option_map_or (λ p. text p w pc) o []) ≡ Ok s → (p : Pattern) × (o ≡ Some p)
has_pattern in_table ps None w pc s h = absurd (none_read in_table ps s h)
has_pattern in_table ps (Some p) w pc s h = (p, refl)

-- What is so of the text that a pattern gives of a word.
record IsText (cs : List ℕ) (p : Pattern) (w pc : ℕ) : Type 0 where
  pub split : tokens cs ≡ p.name ∷ slot_tokens p.slots w pc
  pub short : length cs ≤ 96

module _ (in_table : ℕ → Bool) (ps qs : List Pattern) (w pc : ℕ) (s : Statement) (r : reads_text in_table ps (text_of qs w pc) ≡ Ok s)
    (p : Pattern) (c : chosen qs w ≡ Some p) (n : IsStatement p) (h : all_sound qs ≡ true) (k : all_have_room qs ≡ true) where
  text_is : IsText (text_of qs w pc) p w pc
  text_is =
      let i = chosen_is qs w p c in
      let f : all_fit p.slots w ≡ true = (and_parts (bit_and w (2 ^ 32 - 1 - told_bits p.slots) == p.base) (all_fit p.slots w) i.shows).1 in
      let e : text_of qs w pc ≡ text p w pc = ap (λ (o : Option Pattern). option_map_or (λ p. text p w pc) o []) c in
      record {
        split = ap tokens e ∙ tokens_are p w pc n.name n.good n.written f;
        short = subst (λ (cs : List ℕ). length cs ≤ 96) (sym e) (text_length p w pc (chosen_sound qs w p h c) (chosen_room qs w p k c));
      }

  tokens_read : reads_tokens in_table ps p.name (slot_tokens p.slots w pc) ≡ Ok s
  tokens_read = sym (ap (reads_first in_table ps) text_is.split) ∙ r

-- ---- the A64 lines

base_room_is : (f : A64Form) → all_have_room (base.texts_of f) ≡ true
base_room_is f = sym (ap all_have_room (base_room.lines_are f)) ∙ base_room.room f

base_sound_is : (f : A64Form) → all_sound (base.texts_of f) ≡ true
base_sound_is f = sym (ap all_sound (base_room.lines_are f)) ∙ some_sound a64_lines (first_line (line_number f)) (line_count (line_number f)) base_checked.lines_sound

abbrev base_statement_of : A64Form → ℕ → Statement
base_statement_of f pc = record { word = base.unaimed_word f; target = destination_of (base_again.target_at f pc) }

module _ (f : A64Form) (pc : ℕ) (v : IsRow (base_rows.row_of f)) (law : base_again.IsReadBack f pc) (p : Pattern) (c : chosen (base.texts_of f) (base.word_of f) ≡ Some p) where
  abbrev base_tokens : List (List ℕ)
  base_tokens = slot_tokens p.slots (base.word_of f) pc

  base_is : IsText (base.text_of_form f pc) p (base.word_of f) pc
  base_is = text_is base.in_table a64_patterns (base.texts_of f) (base.word_of f) pc (base_statement_of f pc) law.read p c (base_statement f (base.word_of f) p c) (base_sound_is f) (base_room_is f)

  base_reads : (i : A64Form) (o : Option ℕ) → instruction base_table.a64_table (base.unaimed_word f) ≡ Some i → base_again.target_at f pc ≡ o
      → reads p.name base_tokens ≡ Ok (A64 i, target_of (destination_of o))
  base_reads i o e t =
      let r : reads_tokens base.in_table a64_patterns p.name base_tokens ≡ Ok (base_statement_of f pc) =
      tokens_read base.in_table a64_patterns (base.texts_of f) (base.word_of f) pc (base_statement_of f pc) law.read p c (base_statement f (base.word_of f) p c) (base_sound_is f) (base_room_is f) in
      ap (λ (x : Result Statement Refusal). either x (reads_tokens vectors.in_table sve_patterns p.name base_tokens)) r
      ∙ ap₂ (λ (x : Option A64Form) (y : Option ℕ). with_target (option_map A64 x) (destination_of y)) e t

  base_line : (i : A64Form) (o : Option ℕ) → instruction base_table.a64_table (base.unaimed_word f) ≡ Some i → base_again.target_at f pc ≡ o
      → line_of statements (base.text_of_form f pc) ≡ Ok (record { label = None; body = instruction_of statements (A64 i) (target_of (destination_of o)) })
  base_line i o e t =
      let n = base_statement f (base.word_of f) p c in
      line_read statements (base.text_of_form f pc) p.name base_tokens (A64 i) (target_of (destination_of o)) base_is.split base_is.short n.no_directive
      (slots_no_colon p.slots (base.word_of f) pc n.no_bare) (base_reads i o e t)

  base_by_target : (o : Option ℕ) → base_again.target_at f pc ≡ o → IsReadBack (A64 f) pc
  base_by_target None t = record {
    body = Plain (A64 f);
    line = base_line f None (ap (instruction base_table.a64_table) (law.plain t) ∙ own_instruction f v) t;
    is = refl;
  }
  base_by_target (Some a) t =
      let b = aimed_back f p pc a v c t (law.aimed a t) in
      record { body = Aimed (A64 b.form) (Address a); line = base_line b.form (Some a) b.found t; is = record { address = a; target = refl; aimed = b.back } }

base_read_back : (f : A64Form) (pc : ℕ) → IsRow (base_rows.row_of f) → base_again.is_canonical_form f ≡ true → pc < 2 ^ 64 → IsReadBack (A64 f) pc
base_read_back f pc v c h =
    let law = base_back.read_back f pc v c h in
    let t = has_pattern base.in_table a64_patterns (chosen (base.texts_of f) (base.word_of f)) (base.word_of f) pc (base_statement_of f pc) law.read in
    base_by_target f pc v law t.0 t.1 (base_again.target_at f pc) refl

-- ---- the SVE lines

vector_room_is : (f : SveForm) → all_have_room (vectors.texts_of f) ≡ true
vector_room_is f = vector_room.line_has_room (vector_rows.line_number f)

vector_sound_is : (f : SveForm) → all_sound (vectors.texts_of f) ≡ true
vector_sound_is f = line_sound sve_lines (vector_rows.line_number f) vector_checked.lines_sound

abbrev vector_statement_of : SveForm → Statement
vector_statement_of f = record { word = vectors.word_of f; target = None }

-- what the SVE lines read the A64 lines don't
only_vectors : (name : List ℕ) (ts : List (List ℕ)) (s : Statement) (x : Result Statement Refusal) → reads_tokens base.in_table a64_patterns name ts ≡ x
    → reads_tokens vectors.in_table sve_patterns name ts ≡ Ok s → reads name ts ≡ made Sve vector_table.sve_table s
only_vectors name ts s (Ok b) e h = absurd (none_by_both base.in_table vectors.in_table a64_patterns sve_patterns name ts b s apart e h)
only_vectors name ts s (Err g) e h = ap₂ either e h

own_vector : (f : SveForm) → IsRow (vector_rows.row_of f) → instruction vector_table.sve_table (vectors.word_of f) ≡ Some f
own_vector f v = vector_laws.form_back f (vectors.word_of f) (decode_encoded vector_table.sve_table (vector_rows.line_number f) (vector_rows.row_of f) vector_alone.sound vector_alone.alone (vector_listed.listed f) v)

module _ (f : SveForm) (pc : ℕ) (v : IsRow (vector_rows.row_of f)) (law : vectors_again.IsReadBack f) (p : Pattern) (c : chosen (vectors.texts_of f) (vectors.word_of f) ≡ Some p) where
  vector_again : IsReadBack (Sve f) pc
  vector_again =
      let w : ℕ = vectors.word_of f in
      let s : Statement = vector_statement_of f in
      let ts : List (List ℕ) = slot_tokens p.slots w 0 in
      let n = vector_statement f w p c in
      let t = text_is vectors.in_table sve_patterns (vectors.texts_of f) w 0 s law p c n (vector_sound_is f) (vector_room_is f) in
      let r = tokens_read vectors.in_table sve_patterns (vectors.texts_of f) w 0 s law p c n (vector_sound_is f) (vector_room_is f) in
      let e : reads p.name ts ≡ Ok (Sve f, None) =
      only_vectors p.name ts s (reads_tokens base.in_table a64_patterns p.name ts) refl r ∙ ap (λ (x : Option SveForm). with_target (option_map Sve x) None) (own_vector f v) in
      record {
        body = Plain (Sve f);
        line = line_read statements (vectors.text_of_form f) p.name ts (Sve f) None t.split t.short n.no_directive (slots_no_colon p.slots w 0 n.no_bare) e;
        is = refl;
      }

vector_read_back : (f : SveForm) (pc : ℕ) → IsRow (vector_rows.row_of f) → vectors_again.is_canonical_form f ≡ true → IsReadBack (Sve f) pc
vector_read_back f pc v c =
    let law = vector_back.read_back f v c in
    let t = has_pattern vectors.in_table sve_patterns (chosen (vectors.texts_of f) (vectors.word_of f)) (vectors.word_of f) 0 (vector_statement_of f) law in
    vector_again f pc v law t.0 t.1

-- ---- both

pub read_back : (i : Insn) (pc : ℕ) → IsInstruction i → is_canonical i ≡ true → pc < 2 ^ 64 → IsReadBack i pc
read_back (A64 f) pc v c h = base_read_back f pc v c h
read_back (Sve f) pc v c h = vector_read_back f pc v c
