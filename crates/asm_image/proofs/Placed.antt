-- A line behind others: its label, then its body; and why it can't stand there.
use Rattle.std.proofs.Common.{◌≡◌, ℕ, ◌%◌, ◌^◌, ◌≤◌, ◌==◌, ◌&&◌, ◌∙◌, not, Bool, true, false, cond, List, [], ◌∷◌, ◌++◌, append-nil, Option, Some, None, Result, Ok, Err, length, is_some, refl, sym, ap, ap₂, subst, arith}
use Rattle.std.proofs.lemmas.Bool.{cond-true, cond-false}
use Rattle.asm_image.specs.declared.draft.Draft.{Draft}
use Rattle.asm_image.specs.declared.draft.Stop.{Stop}
use Rattle.asm_image.specs.declared.draft.Stop.TheVariants.{Refused, OutOfMemory}
use Rattle.asm_image.specs.declared.labels.Place.{Place}
use Rattle.asm_image.specs.Draft.{IsDraft, HasLabel, IsPut, IsPlaced, label_here, body_misplaced, with_body}
use Rattle.asm_image.proofs.Layouts.{changed, not_too_large, same_place}
use Rattle.listing_model.specs.declared.fault.ListingWhy.{ListingWhy}
use Rattle.listing_model.specs.declared.fault.ListingWhy.TheVariants.{SecondEntry, LabelTwice, InstructionInData, Misaligned, TooLarge}
use Rattle.listing_model.specs.declared.line.Line.{Line}
use Rattle.listing_model.specs.declared.line.Section.{Section}
use Rattle.listing_model.specs.Layout.{Labeled, Layout, here, is_data, is_instruction, is_too_large, is_twice, entry_of, label_at, misplaced, placed_line, unless_misplaced, with_line}
use Rattle.listing_model.specs.Statements.{Statements}

both : (a b : Bool) → a ≡ true → b ≡ true → (a && b) ≡ true
both true true h k = refl
both true false h k = cc
both false b h k = cc

pub left_false : (a b : Bool) → a ≡ false → (a && b) ≡ false
left_false true b h = cc
left_false false b h = refl

pub right_false : (a b : Bool) → b ≡ false → (a && b) ≡ false
right_false true b h = h
right_false false b h = refl

by_parts : (i a b : Bool) → cond (i && a) (Some InstructionInData) (cond (i && not b) (Some Misaligned) None)
    ≡ cond i (cond a (Some InstructionInData) (cond b None (Some Misaligned))) None
by_parts true true b = refl
by_parts true false true = refl
by_parts true false false = refl
by_parts false a b = refl

module _ {I : Type 0} where
  -- ---- the label

  abbrev pub labeled : Layout I → Option (List ℕ) → Layout I
  labeled l label = record l { labels = l.labels ++ label_at label l }

  pub label_then_body : (s : Statements I) (n : ℕ) (l : Layout I) (line : Line I) → with_body s n (labeled l line.label) line.body ≡ with_line s n l line
  label_then_body s n l line =
      let labels : (l.labels ++ label_at line.label l) ++ [] ≡ l.labels ++ label_at line.label l = append-nil (l.labels ++ label_at line.label l) in
      λ i. record (with_line s n l line) { labels = labels i }

  same_label : (h : I → Type 0) (d : Draft I) (l : Layout I) (label : Option (List ℕ)) → IsDraft h d l → label_here label d ≡ label_at label l
  same_label h d l None is = refl
  same_label h d l (Some n) is =
      ap₂ (λ (t : Section) (p : ℕ). record { name = n; section = t; place = p } ∷ []) is.section (same_place h d l is)

  pub label_added : (h : I → Type 0) (d e : Draft I) (l : Layout I) (label : Option (List ℕ)) → IsDraft h d l → HasLabel d e label
      → IsDraft h e (labeled l label)
  label_added h d e l label is has = changed h d e l (labeled l label) is (record {
    pieces = refl;
    code_size = refl;
    data_size = refl;
    code = has.code;
    values = has.values;
    holes_are = has.holes;
    bss = has.bss ∙ is.bss;
    section = has.section ∙ is.section;
    labels = has.labels ∙ ap₂ (λ (xs ys : List Labeled). xs ++ ys) is.labels (same_label h d l label is);
    entry = has.entry ∙ is.entry;
  })

  -- ---- why a line can't stand there

  pub second_entry : (l : Layout I) (line : Line I) → is_some (entry_of line.body) ≡ true → is_some l.entry ≡ true → misplaced l line ≡ Some SecondEntry
  second_entry l line h k = cond-true (is_some (entry_of line.body) && is_some l.entry) _ _ (both _ _ h k)

  pub label_twice : (l : Layout I) (line : Line I) → (is_some (entry_of line.body) && is_some l.entry) ≡ false → is_twice line.label l.labels ≡ true
      → misplaced l line ≡ Some LabelTwice
  label_twice l line h k =
      cond-false (is_some (entry_of line.body) && is_some l.entry) _ _ h ∙ cond-true (is_twice line.label l.labels) _ _ k

  pub misplaced_body : (l : Layout I) (line : Line I) (p : Place) → (is_some (entry_of line.body) && is_some l.entry) ≡ false
      → is_twice line.label l.labels ≡ false → p.section ≡ l.section → p.at ≡ here l → misplaced l line ≡ body_misplaced line.body p
  misplaced_body l line p h k e f =
      cond-false (is_some (entry_of line.body) && is_some l.entry) _ _ h ∙ cond-false (is_twice line.label l.labels) _ _ k
      ∙ by_parts (is_instruction line.body) (is_data l.section) (here l % 4 == 0)
      ∙ sym (ap₂ (λ (t : Section) (n : ℕ). cond (is_instruction line.body) (cond (is_data t) (Some InstructionInData) (cond (n % 4 == 0) None (Some Misaligned))) None) e f)

  pub refused : (h : I → Type 0) (s : Statements I) (n : ℕ) (l : Layout I) (line : Line I) (e : Draft I) (why : ListingWhy) → misplaced l line ≡ Some why
      → IsPlaced h (Err (Refused why)) e (placed_line s n l (Ok line))
  refused h s n l line e why m = ap (λ (o : Option ListingWhy). unless_misplaced o (with_line s n l line)) m

  -- ---- the line is put

  pub placed : (h : I → Type 0) (s : Statements I) (n : ℕ) (l : Layout I) (line : Line I) (e : Draft I) (r : Result (Unit {0}) Stop) → misplaced l line ≡ None
      → length e.code.items ≤ 2 ^ 24 → length e.values.items ≤ 2 ^ 24 → e.bss ≤ 2 ^ 30
      → IsPut h r e (with_body s n (labeled l line.label) line.body) → IsPlaced h r e (placed_line s n l (Ok line))
  placed h s n l line e r m c v b put =
      let all : Layout I = with_line s n l line in
      let free : placed_line s n l (Ok line) ≡ cond (is_too_large all) (Err TooLarge) (Ok all) =
      ap (λ (o : Option ListingWhy). unless_misplaced o all) m in
      by r (subst (IsPut h r e) (label_then_body s n l line) put) free
    where
      by : (x : Result (Unit {0}) Stop) → IsPut h x e (with_line s n l line)
          → placed_line s n l (Ok line) ≡ cond (is_too_large (with_line s n l line)) (Err TooLarge) (Ok (with_line s n l line))
          → IsPlaced h x e (placed_line s n l (Ok line))
      by (Ok u) is free =
          let all : Layout I = with_line s n l line in
          let code : all.code_size ≤ 2 ^ 24 = omega (arith, is.code_size, ap length is.code) in
          let values : all.data_size ≤ 2 ^ 24 = omega (arith, is.data_size, ap length is.values) in
          let bss : all.bss_size ≤ 2 ^ 30 = omega (arith, is.bss) in
          (all, free ∙ cond-false (is_too_large all) _ _ (not_too_large all code values bss), is)
      by (Err (Refused why)) is free =
          let all : Layout I = with_line s n l line in
          free ∙ cond-true (is_too_large all) _ _ is.1 ∙ ap (λ (w : ListingWhy). Err w) (sym is.0)
      by (Err OutOfMemory) is free = tt
