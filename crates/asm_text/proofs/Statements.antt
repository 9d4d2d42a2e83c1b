-- What statements of both tables say: an instruction that is read with a target has one in its text, and what is read is canonical.
use Rattle.std.proofs.Common.{◌≡◌, ℕ, Bool, true, false, if◌then◌else◌, Option, Some, None, Result, Ok, Err, List, [], ◌∷◌, length, nat_lt, refl, sym, ap, subst, ◌∙◌}
use Rattle.std.specs.Prelude.{IsSome, option_map, IfOk}
use Rattle.emu_bits.specs.Rows.{instruction}
use Rattle.a64_insn.specs.declared.form.A64Form.{A64Form}
use Rattle.a64_insn.specs.Table.{a64_table}
use Rattle.asm_a64.specs.Law as base
use Rattle.asm_a64.specs.LawOfTexts as base_again
use Rattle.asm_a64.specs.Table.{a64_patterns}
use Rattle.asm_a64.specs.declared.statements.A64Line.{A64Line}
use Rattle.asm_a64.specs.Lines as base_lines
use Rattle.asm_tokens.specs.declared.fault.AsmFault.{AsmFault}
use Rattle.asm_tokens.specs.declared.target.Target.{Target}
use Rattle.asm_tokens.specs.declared.target.Target.TheVariants.{Label, Address}
use Rattle.emu_run.specs.declared.insn.Insn.{Insn}
use Rattle.emu_run.specs.declared.insn.Insn.TheVariants.{A64, Sve}
use Rattle.asm_text.specs.Statements.{either, reads, statements}
use Rattle.asm_text.specs.Targets.{with_target}
use Rattle.asm_text.specs.Targets.{HasTarget}
use Rattle.asm_text.specs.Canonical.{is_canonical}
use Rattle.listing_model.specs.declared.directive.Directive.{Directive}
use Rattle.listing_model.specs.declared.directive.DirectiveName.{DirectiveName}
use Rattle.listing_model.specs.declared.fault.ListingWhy.{ListingWhy}
use Rattle.listing_model.specs.declared.fault.ListingWhy.TheVariants.{LongLine, BadLabel}
use Rattle.listing_model.specs.declared.line.Body.{Body}
use Rattle.listing_model.specs.declared.line.Body.TheVariants.{Nothing, Plain, Aimed, Directive as DirectiveBody}
use Rattle.listing_model.specs.declared.line.Line.{Line}
use Rattle.listing_model.specs.Directives.{directive_named, directive_of, is_label}
use Rattle.listing_model.specs.Faults.{Answers}
use Rattle.listing_model.specs.Bodies.{instruction_body, directive_body}
use Rattle.listing_model.specs.LineOf.{colon, named, body_of, with_label, line_of_tokens, line_of}
use Rattle.sve_insn.specs.declared.form.SveForm.{SveForm}
use Rattle.sve_insn.specs.Table.{sve_table}
use Rattle.asm_sve.specs.Law as vectors
use Rattle.asm_sve.specs.LawOfTexts as vectors_again
use Rattle.asm_sve.specs.Table.{sve_patterns}
use Rattle.text_model.specs.declared.slots.Refusal.{Refusal}
use Rattle.text_model.specs.Statement.{Destination, to_label, Statement, reads_tokens}
use Rattle.asm_tokens.specs.Layout.{is_sign}
use Rattle.asm_tokens.specs.Tokens.{tokens}
use Rattle.asm_text.specs.Wanting.{SaysLabel}
use Rattle.asm_text.specs.Canonical.{HasCanonical}
use Rattle.asm_text.proofs.Base.{canonical_read as base_canonical, line_read}
use Rattle.asm_text.proofs.Targeted.{targeted}
use Rattle.asm_text.proofs.Vectors.{canonical_read as vector_canonical}

abbrev Said : Type 0
Said = Result (Insn × Option Target) ListingWhy

-- ---- targets

has_destination : (t : Option Target) → IsSome t → IsSome (base_lines.destination_of t)
has_destination None h = h
has_destination (Some (Label name)) h = refl
has_destination (Some (Address a)) h = refl

-- an instruction that is read with a target has one in its text
pub said_targeted : (name rest : List ℕ) (l : A64Line) → base_lines.IsRead name rest l → IsSome l.target → HasTarget (A64 l.insn)
said_targeted name rest l h t =
    let s : Statement = record { word = h.word; target = base_lines.destination_of l.target } in
    targeted h.word l.insn h.insn (line_read name (tokens rest) s l.insn h.read (has_destination l.target t) h.insn)

-- ---- what is read is canonical

with_base : (o : Option A64Form) (d : Option Destination) (p : Insn × Option Target) → with_target (option_map A64 o) d ≡ Ok p → ((f : A64Form) → o ≡ Some f → base_again.is_canonical_form f ≡ true)
    → is_canonical p.0 ≡ true
with_base None d p h c = absurd (cc)
with_base (Some f) d p h c = let e : A64 f ≡ p.0 = cc in ap is_canonical (sym e) ∙ c f refl

with_vector : (o : Option SveForm) (d : Option Destination) (p : Insn × Option Target) → with_target (option_map Sve o) d ≡ Ok p → ((f : SveForm) → o ≡ Some f → vectors_again.is_canonical_form f ≡ true)
    → is_canonical p.0 ≡ true
with_vector None d p h c = absurd (cc)
with_vector (Some f) d p h c = let e : Sve f ≡ p.0 = cc in ap is_canonical (sym e) ∙ c f refl

abbrev BaseIsCanonical : Result Statement Refusal → Type 0
BaseIsCanonical r = (s : Statement) (f : A64Form) → r ≡ Ok s → instruction a64_table s.word ≡ Some f → base_again.is_canonical_form f ≡ true

abbrev VectorIsCanonical : Result Statement Refusal → Type 0
VectorIsCanonical r = (s : Statement) (f : SveForm) → r ≡ Ok s → instruction sve_table s.word ≡ Some f → vectors_again.is_canonical_form f ≡ true

either_canonical : (r g : Result Statement Refusal) (p : Insn × Option Target) → either r g ≡ Ok p → BaseIsCanonical r → VectorIsCanonical g → is_canonical p.0 ≡ true
either_canonical (Ok s) g p h b v = with_base (instruction a64_table s.word) s.target p h (λ f e. b s f refl e)
either_canonical (Err e) (Ok s) p h b v = with_vector (instruction sve_table s.word) s.target p h (λ f i. v s f refl i)
either_canonical (Err e) (Err f) p h b v = absurd (cc)

pub reads_canonical : (name : List ℕ) (ts : List (List ℕ)) (p : Insn × Option Target) → reads name ts ≡ Ok p → is_canonical p.0 ≡ true
reads_canonical name ts p h =
    either_canonical (reads_tokens base.in_table a64_patterns name ts) (reads_tokens vectors.in_table sve_patterns name ts) p h
    (λ s f e i. base_canonical name ts s f e i) (λ s f e i. vector_canonical name ts s f e i)

said_canonical : (r : Said) (b : Body Insn) → instruction_body statements r ≡ Ok b → ((p : Insn × Option Target) → r ≡ Ok p → is_canonical p.0 ≡ true) → HasCanonical b
said_canonical (Err e) b h c = absurd (cc)
said_canonical (Ok (i, None)) b h c = let e : Plain i ≡ b = cc in subst HasCanonical e (c (i, None) refl)
said_canonical (Ok (i, Some t)) b h c = let e : Aimed i t ≡ b = cc in subst HasCanonical e (c (i, Some t) refl)

directive_canonical : (r : Result Directive ListingWhy) (b : Body Insn) → directive_body statements r ≡ Ok b → HasCanonical b
directive_canonical (Err e) b h = absurd (cc)
directive_canonical (Ok d) b h = let e : DirectiveBody d ≡ b = cc in subst HasCanonical e tt

named_canonical : (o : Option DirectiveName) (name : List ℕ) (ts : List (List ℕ)) (b : Body Insn) → named statements o name ts ≡ Ok b → HasCanonical b
named_canonical None name ts b h = said_canonical (reads name ts) b h (reads_canonical name ts)
named_canonical (Some d) name ts b h = directive_canonical (directive_of d ts) b h

body_canonical : (ts : List (List ℕ)) (b : Body Insn) → body_of statements ts ≡ Ok b → HasCanonical b
body_canonical [] b h = let e : Nothing ≡ b = cc in subst HasCanonical e tt
body_canonical (t ∷ ts) b h = named_canonical (directive_named t) t ts b h

labeled : (l : Option (List ℕ)) (r : Result (Body Insn) ListingWhy) (k : Line Insn) → with_label statements l r ≡ Ok k → r ≡ Ok k.body
labeled l (Err e) k h = absurd (cc)
labeled l (Ok b) k h = let e : record { label = l; body = b } ≡ k = cc in ap (λ (x : Line Insn). Ok x.body) e

with_colon : List ℕ → List ℕ → List (List ℕ) → Bool → Bool → Result (Line Insn) ListingWhy
with_colon t u ts c l = if c then (if l then with_label statements (Some t) (body_of statements ts) else Err BadLabel) else with_label statements None (body_of statements (t ∷ u ∷ ts))

colon_canonical : (t u : List ℕ) (ts : List (List ℕ)) (c l : Bool) (k : Line Insn) → with_colon t u ts c l ≡ Ok k → HasCanonical k.body
unfolding with_colon
colon_canonical t u ts true true k h = body_canonical ts k.body (labeled (Some t) (body_of statements ts) k h)
colon_canonical t u ts true false k h = absurd (cc)
colon_canonical t u ts false l k h = body_canonical (t ∷ u ∷ ts) k.body (labeled None (body_of statements (t ∷ u ∷ ts)) k h)

tokens_canonical : (ts : List (List ℕ)) (k : Line Insn) → line_of_tokens statements ts ≡ Ok k → HasCanonical k.body
unfolding with_colon
tokens_canonical [] k h = let e : Nothing ≡ k.body = cc in subst HasCanonical e tt
tokens_canonical (t ∷ []) k h = body_canonical (t ∷ []) k.body (labeled None (body_of statements (t ∷ [])) k h)
tokens_canonical (t ∷ u ∷ ts) k h = colon_canonical t u ts (is_sign colon u) (is_label t) k h

short_canonical : (b : Bool) (ts : List (List ℕ)) (k : Line Insn) → (if b then Err LongLine else line_of_tokens statements ts) ≡ Ok k → HasCanonical k.body
short_canonical true ts k h = absurd (cc)
short_canonical false ts k h = tokens_canonical ts k h

pub line_canonical : (text : List ℕ) (k : Line Insn) → line_of statements text ≡ Ok k → HasCanonical k.body
line_canonical text k h = short_canonical (nat_lt 256 (length text)) (tokens text) k h

-- ---- want of memory

-- an A64 statement that ends in a label says so over both tables
pub says_label : (name rest : List ℕ) → base_lines.EndsInLabel name rest → SaysLabel (reads name (tokens rest))
says_label name rest h = record {
  insn = A64 h.form;
  label = h.label;
  is = ap (λ (r : Result Statement Refusal). either r (reads_tokens vectors.in_table sve_patterns name (tokens rest))) h.read
      ∙ ap (λ (o : Option A64Form). with_target (option_map A64 o) (Some (to_label h.label))) h.insn;
}

-- ---- the laws

said_so : (r : Said) → ((p : Insn × Option Target) → r ≡ Ok p → is_canonical p.0 ≡ true) → IfOk r (λ p. is_canonical p.0 ≡ true)
said_so (Ok p) h = h p refl
said_so (Err e) h = tt

pub statements_law : (name : List ℕ) (ts : List (List ℕ)) → IfOk (reads name ts) (λ p. is_canonical p.0 ≡ true)
statements_law name ts = said_so (reads name ts) (reads_canonical name ts)

line_so : (r : Result (Line Insn) ListingWhy) → ((k : Line Insn) → r ≡ Ok k → HasCanonical k.body) → IfOk r (λ k. HasCanonical k.body)
line_so (Ok k) h = h k refl
line_so (Err e) h = tt

pub lines_law : (text : List ℕ) → IfOk (line_of statements text) (λ k. HasCanonical k.body)
lines_law text = line_so (line_of statements text) (line_canonical text)

pub line_answered : (text : List ℕ) (r : Result (Line Insn) AsmFault) → Answers r (line_of statements text) → IfOk r (λ l. HasCanonical l.body)
line_answered text (Ok l) h = line_canonical text l h
line_answered text (Err e) h = tt
