-- What a line tells, from what was put behind its runs.
use Rattle.std.proofs.Common.{◌≡◌, ℕ, ◌+◌, ◌*◌, Bool, true, false, cond, nat_le, List, [], ◌∷◌, ◌++◌, get_or, length, Option, Some, None, IfSome, Result, Ok, Err, refl, sym, ap, subst, ◌∙◌}
use Rattle.std.proofs.lemmas.Option.{IfSome_then}
use Rattle.std.specs.FinMap.{get}
use Rattle.io_gate.specs.Images.{whole_file}
use Rattle.io_gate.specs.declared.images.ImagesError.{ImagesError}
use Rattle.emu_system.specs.Image.{Image, elf}
use Rattle.emu_system.specs.declared.image.ElfFault.{ElfFault}
use Rattle.command_model.specs.Sweep.{Sweep, first_lengths, lengths}
use Rattle.command_model.specs.SweepLaws.{lengths_more}
use Rattle.command_model.specs.declared.command_line.Line.{Line}
use Rattle.command_model.specs.declared.command_line.Line.TheVariants.{Run, Asm, Dis, Dbg, Load, Sweep as SweepLine, Threads}
use Rattle.command_model.specs.declared.command_line.WordsFault.{WordsFault}
use Rattle.command_lines.specs.Outcome.{Files, file_at, file_limit, program_arguments}
use Rattle.command_lines.specs.declared.ending.Ending.{Ending}
use Rattle.command_lines.specs.declared.ending.Ending.TheVariants.{WordsRefused}
use Rattle.word_counts.specs.Counts.{Counts, count_at}
use Rattle.word_counts.specs.Lines.{count_lines}
use Rattle.tool_counts.specs.Counted.{counted_text, stop_lines, sweep_of, AreCounted}
use Rattle.tool_counts.specs.Written.{file_text, image_text, line_text, TellsText}
use Rattle.tool_counts.specs.declared.stops.Stopped.{Stopped}
use Rattle.tool_counts.specs.Endings.{other_command, EndsLine, RefusesLine}
use Rattle.tool_counts.proofs.Runs.{whole_text}
use Rattle.tool_refusals.specs.Endings.{IsSaid}
use Rattle.tool_refusals.proofs.Endings.{said_or}

-- ---- the lengths

-- one more
pub more_lengths : (k bits : ℕ) (before after : List ℕ) → bits ≡ 128 * (k + 1) → after ≡ before ++ bits ∷ [] → before ≡ first_lengths k → after ≡ first_lengths (k + 1)
more_lengths k bits before after at is so_far =
    is ∙ ap (λ (x : ℕ). before ++ x ∷ []) at ∙ ap (λ (xs : List ℕ). xs ++ 128 * (k + 1) ∷ []) so_far ∙ sym (lengths_more k)

-- all sixteen
pub sixteen : (k : ℕ) (all : List ℕ) → k ≡ 16 → all ≡ first_lengths k → all ≡ lengths
sixteen k all end is = is ∙ ap (λ (n : ℕ). first_lengths n) end

-- ---- a line of another command

pub other_ends : (words : List (List ℕ)) (files : Files) (input : Option (List ℕ)) (line : Line) → ((file args bits budget pages : ℕ) → line ≡ Run file args bits budget pages → ⊥) → ((file args budget pages : ℕ) → line ≡ SweepLine file args budget pages → ⊥)
    → EndsLine words files input (Ok line) (WordsRefused other_command)
other_ends words files input (Run file args bits budget pages) run sweep = absurd (run file args bits budget pages refl)
other_ends words files input (SweepLine file args budget pages) run sweep = absurd (sweep file args budget pages refl)
other_ends words files input (Asm listing) run sweep = refl
other_ends words files input (Dis file) run sweep = refl
other_ends words files input (Dbg file script args bits budget pages) run sweep = refl
other_ends words files input (Load number) run sweep = refl
other_ends words files input (Threads file schedule args bits budget pages) run sweep = refl

pub other_refused : {S : Type 0} (line : Line) (result : Ending) → IsSaid (WordsRefused other_command) result S → ((file args bits budget pages : ℕ) → line ≡ Run file args bits budget pages → ⊥) → ((file args budget pages : ℕ) → line ≡ SweepLine file args budget pages → ⊥) → RefusesLine (Ok line) result
other_refused (Run file args bits budget pages) result said run sweep = absurd (run file args bits budget pages refl)
other_refused (SweepLine file args budget pages) result said run sweep = absurd (sweep file args budget pages refl)
other_refused (Asm listing) result said run sweep = said_or (WordsRefused other_command) result said
other_refused (Dis file) result said run sweep = said_or (WordsRefused other_command) result said
other_refused (Dbg file script args bits budget pages) result said run sweep = said_or (WordsRefused other_command) result said
other_refused (Load number) result said run sweep = said_or (WordsRefused other_command) result said
other_refused (Threads file schedule args bits budget pages) result said run sweep = said_or (WordsRefused other_command) result said

-- ---- the counts

pub counts_told : (s : Sweep) (at : List ℕ) (headed : Bool) (tables : List Counts) (stops : List Stopped) (text : List ℕ) (shown : List Stopped) (old new : Option (List ℕ)) → AreCounted s at tables stops
    → text ≡ count_lines count_at tables → shown ≡ stops → IfSome old (λ had. new ≡ Some (had ++ (text ++ stop_lines headed shown))) → IfSome old (λ had. new ≡ Some (had ++ counted_text s at headed))
counts_told s at headed tables stops text shown old new all is same put =
    let whole : text ++ stop_lines headed shown ≡ counted_text s at headed =
    ap (λ (xs : List ℕ). xs ++ stop_lines headed shown) is
    ∙ ap (λ (xs : List Stopped). count_lines count_at tables ++ stop_lines headed xs) same
    ∙ whole_text headed s at tables stops all in
    IfSome_then old put (λ had e. e ∙ ap (λ (xs : List ℕ). Some (had ++ xs)) whole)

-- over the input that was read
pub input_told : (s : List ℕ → Sweep) (at : List ℕ) (headed : Bool) (given : List ℕ) (left after old new : Option (List ℕ)) → IfSome left (λ i. (given ≡ i) × (after ≡ Some []))
    → IfSome old (λ had. new ≡ Some (had ++ counted_text (s given) at headed)) → IfSome left (λ i. IfSome old (λ had. new ≡ Some (had ++ counted_text (s i) at headed)))
input_told s at headed given left after old new read told =
    IfSome_then left read (λ i r. subst (λ (x : List ℕ). IfSome old (λ had. new ≡ Some (had ++ counted_text (s x) at headed))) r.0 told)

-- of the image that was read
pub image_told : (file : List ℕ) (args words : List (List ℕ)) (budget pages : ℕ) (at : List ℕ) (headed : Bool) (image : Image) (read : Result Image ElfFault) (left old new : Option (List ℕ)) → Ok image ≡ read → args ≡ words
    → IfSome left (λ i. IfSome old (λ had. new ≡ Some (had ++ counted_text (sweep_of file image args pages budget i) at headed)))
    → IfSome left (λ i. IfSome old (λ had. TellsText (image_text file words i budget pages at headed read) had new))
image_told file args words budget pages at headed image read left old new is same told =
    subst (λ (r : Result Image ElfFault). IfSome left (λ i. IfSome old (λ had. TellsText (image_text file words i budget pages at headed r) had new))) is
    (subst (λ (xs : List (List ℕ)). IfSome left (λ i. IfSome old (λ had. new ≡ Some (had ++ counted_text (sweep_of file image xs pages budget i) at headed)))) same told)

-- of the file of a name
ok_of : (b : Bool) (xs ys : List ℕ) (e : ImagesError) → cond b (Ok xs) (Err e) ≡ Ok ys → xs ≡ ys
ok_of true xs ys e is = cc
ok_of false xs ys e is = cc

whole_is : (o : Option (List ℕ)) (bytes : List ℕ) → whole_file o file_limit ≡ Ok bytes → o ≡ Some bytes
whole_is None bytes is = cc
whole_is (Some found) bytes is = ap (λ (xs : List ℕ). Some xs) (ok_of (nat_le (length found) file_limit) found bytes _ is)

pub file_told : (words : List (List ℕ)) (place : ℕ) (named : Option Files) (name bytes items : List ℕ) (args : List (List ℕ)) (budget pages : ℕ) (at : List ℕ) (headed : Bool) (left old new : Option (List ℕ))
    → name ≡ get_or words place [] → bytes ≡ items → IfSome named (λ files. whole_file (get files name) file_limit ≡ Ok items)
    → IfSome left (λ i. IfSome old (λ had. TellsText (image_text bytes args i budget pages at headed (elf bytes pages)) had new))
    → IfSome named (λ files. IfSome left (λ i. IfSome old (λ had. TellsText (file_text (file_at words files place) args i budget pages at headed) had new)))
file_told words place named name bytes items args budget pages at headed left old new names same content told = IfSome_then named content (λ files whole.
    let there : get files (get_or words place []) ≡ Some items = whole_is _ items (subst (λ (n : List ℕ). whole_file (get files n) file_limit ≡ Ok items) names whole) in
    subst (λ (f : Option (List ℕ)). IfSome left (λ i. IfSome old (λ had. TellsText (file_text f args i budget pages at headed) had new))) (sym there)
    (subst (λ (xs : List ℕ). IfSome left (λ i. IfSome old (λ had. TellsText (image_text xs args i budget pages at headed (elf xs pages)) had new))) same told))

-- ---- by the line

pub run_told : (words : List (List ℕ)) (named : Option Files) (line : Line) (file args bits budget pages : ℕ) (at : List ℕ) (left old new : Option (List ℕ)) → line ≡ Run file args bits budget pages → at ≡ bits ∷ []
    → IfSome named (λ files. IfSome left (λ i. IfSome old (λ had. TellsText (file_text (file_at words files file) (program_arguments words file args) i budget pages at false) had new)))
    → IfSome named (λ files. IfSome left (λ i. IfSome old (λ had. TellsText (line_text words files i (Ok line)) had new)))
run_told words named line file args bits budget pages at left old new is all told =
    subst (λ (l : Line). IfSome named (λ files. IfSome left (λ i. IfSome old (λ had. TellsText (line_text words files i (Ok l)) had new)))) (sym is)
    (subst (λ (xs : List ℕ). IfSome named (λ files. IfSome left (λ i. IfSome old (λ had. TellsText (file_text (file_at words files file) (program_arguments words file args) i budget pages xs false) had new)))) all told)

pub sweep_told : (words : List (List ℕ)) (named : Option Files) (line : Line) (file args budget pages : ℕ) (at : List ℕ) (left old new : Option (List ℕ)) → line ≡ SweepLine file args budget pages → at ≡ lengths
    → IfSome named (λ files. IfSome left (λ i. IfSome old (λ had. TellsText (file_text (file_at words files file) (program_arguments words file args) i budget pages at true) had new)))
    → IfSome named (λ files. IfSome left (λ i. IfSome old (λ had. TellsText (line_text words files i (Ok line)) had new)))
sweep_told words named line file args budget pages at left old new is all told =
    subst (λ (l : Line). IfSome named (λ files. IfSome left (λ i. IfSome old (λ had. TellsText (line_text words files i (Ok l)) had new)))) (sym is)
    (subst (λ (xs : List ℕ). IfSome named (λ files. IfSome left (λ i. IfSome old (λ had. TellsText (file_text (file_at words files file) (program_arguments words file args) i budget pages xs true) had new)))) all told)

pub line_told : (words : List (List ℕ)) (named : Option Files) (a b : Result Line WordsFault) (left old new : Option (List ℕ)) → a ≡ b
    → IfSome named (λ files. IfSome left (λ i. IfSome old (λ had. TellsText (line_text words files i a) had new)))
    → IfSome named (λ files. IfSome left (λ i. IfSome old (λ had. TellsText (line_text words files i b) had new)))
line_told words named a b left old new is told = subst (λ (r : Result Line WordsFault). IfSome named (λ files. IfSome left (λ i. IfSome old (λ had. TellsText (line_text words files i r) had new)))) is told
