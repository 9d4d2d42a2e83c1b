use Rattle.std.proofs.Common.{rules, ◌≡◌, ◌∙◌, Bool, false, [], ap, sym, ◌==◌, cond}
use Rattle.std.proofs.lemmas.Bool.{and_left, ne_eqb}
use Rattle.text_model.specs.ClassNumbers.{class_number}
use Rattle.text_model.specs.Classes.{same_class}
use Rattle.text_print.proofs.spelling.word.Goals.{else-number-via-then-number+else-value-from, else-number-via-else-number}
use Rattle.text_print.proofs.spelling.word.Goals as goal

pub returns-else-number : goal.returns-else-number
returns-else-number c = elim c.else-number.branch [
  | else-number-via-then-number+else-value-from w ↦ search rules
  | else-number-via-else-number w ↦ (let other : same_class c.args.class c.in-Some.word.now.class ≡ false =
      ne_eqb (class_number c.args.class) (class_number c.in-Some.word.now.class)
      (λ e. w.if-number.false (c.number.ensures ∙ e ∙ sym c.number-in-Some.ensures)) in
      c.new.ensures ∙ ap (λ (b : Bool). cond b c.in-Some.word.now.text.now [])
      (sym (and_left (same_class c.args.class c.in-Some.word.now.class) (c.args.value == c.in-Some.word.now.value) other))
      ∙ sym c.in-Some.ensures.spelled)
]
