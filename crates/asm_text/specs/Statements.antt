-- How statements are read, aimed and written, over the A64 and the SVE lines together. That a refusal of the two is the
-- later one is this project's own choice, as docs/MANUAL.md has it under "Refused listings".
use Rattle.std.specs.Prelude.{ℕ, List, Option, Some, None, Result, Ok, Err, ok_or, option_map, option_and_then}
use Rattle.emu_bits.specs.Rows.{Line, instruction}
use Rattle.a64_insn.specs.Table.{a64_table}
use Rattle.asm_a64.specs.Law as base
use Rattle.asm_a64.specs.Table.{a64_patterns}
use Rattle.asm_tokens.specs.declared.target.Target.{Target}
use Rattle.asm_tokens.specs.declared.target.Target.TheVariants.{Label, Address}
use Rattle.emu_run.specs.declared.insn.Insn.{Insn}
use Rattle.emu_run.specs.declared.insn.Insn.TheVariants.{A64, Sve}
use Rattle.insn_decode.specs.Words as words
use Rattle.listing_model.specs.declared.fault.ListingWhy.{ListingWhy}
use Rattle.listing_model.specs.declared.fault.ListingWhy.TheVariants as why
use Rattle.listing_model.specs.Statements.{Statements}
use Rattle.sve_insn.specs.Table.{sve_table}
use Rattle.asm_sve.specs.Law as vectors
use Rattle.asm_sve.specs.Table.{sve_patterns}
use Rattle.text_model.specs.declared.slots.Refusal.{Refusal}
use Rattle.text_model.specs.declared.slots.Refusal.TheVariants as refusal
use Rattle.text_model.specs.Aim.{aimed}
use Rattle.text_model.specs.Reading.{later_refusal}
use Rattle.text_model.specs.Statement.{Destination, to_label, to_address, Statement, reads_tokens}

-- ---- refusals

abbrev pub why_of : Refusal → ListingWhy
why_of refusal.UnknownName = why.UnknownName
why_of refusal.BadOperands = why.BadOperands
why_of refusal.OutOfRange = why.OutOfRange

-- ---- what is read

abbrev pub target_of : Option Destination → Option Target
target_of None = None
target_of (Some (to_label name)) = Some (Label name)
target_of (Some (to_address a)) = Some (Address a)

-- the instruction of a table that a statement's word is
abbrev pub made : {F : Type 0} → (F → Insn) → List (Line F) → Statement → Result (Insn × Option Target) ListingWhy
made insn table s =
    ok_or (option_map (λ i. (i, target_of s.target)) (option_map insn (instruction table s.word))) why.OutOfRange

-- What the A64 lines read, or else the SVE lines; where both refuse, the later of their refusals.
abbrev pub either : Result Statement Refusal → Result Statement Refusal → Result (Insn × Option Target) ListingWhy
either (Ok s) other = made A64 a64_table s
either (Err e) (Ok s) = made Sve sve_table s
either (Err e) (Err g) = Err (why_of (later_refusal e g))

abbrev pub reads : List ℕ → List (List ℕ) → Result (Insn × Option Target) ListingWhy
reads name ts =
    either (reads_tokens base.in_table a64_patterns name ts) (reads_tokens vectors.in_table sve_patterns name ts)

-- ---- targets

-- the instruction at pc, aimed at an address; none where its field can't reach it
abbrev pub aimed_at : Insn → ℕ → ℕ → Option Insn
aimed_at (A64 f) pc t =
    option_map A64 (option_and_then (instruction a64_table) (aimed (base.reach f) (base.unaimed_word f) pc t))
aimed_at (Sve f) pc t = None

-- ---- all of it

abbrev pub statements : Statements Insn
statements = record { reads = reads; aimed = aimed_at; word = words.word_of }
