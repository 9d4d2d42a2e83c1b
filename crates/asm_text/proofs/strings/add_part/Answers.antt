use Rattle.std.proofs.Common.{◌≡◌, ℕ, ◌+◌, ◌<◌, ◌++◌, ◌∙◌, List, [], ◌∷◌, drop, get_or, length, string_bytes, refl, sym, ap, ap₂, subst, arith, Some}
use Rattle.std.specs.List.{prefix_len}
use Rattle.asm_text.specs.Plain.{is_plain}
use Rattle.asm_text.proofs.Parts.{run_cut, never_closed, closed_part, ends_escaped, wrong_escape, escaped_part, escaped_low}
use Rattle.listing_model.specs.Directives.{escape}
use Rattle.asm_tokens.specs.Tokens.{quote}
use Rattle.asm_text.proofs.strings.add_part.Goals as goal

-- where the run ends, over the same bytes by another name
same_end : (xs ys : List ℕ) (start end : ℕ) → xs ≡ ys → end ≡ start + prefix_len is_plain (drop start xs) → end ≡ start + prefix_len is_plain (drop start ys)
same_end xs ys start end e h = subst (λ (zs : List ℕ). end ≡ start + prefix_len is_plain (drop start zs)) e h

same_byte : (xs ys : List ℕ) (i x : ℕ) → xs ≡ ys → get_or xs i 0 ≡ x → get_or ys i 0 ≡ x
same_byte xs ys i x e h = subst (λ (zs : List ℕ). get_or zs i 0 ≡ x) e h

no_byte : (xs ys : List ℕ) (i x : ℕ) → xs ≡ ys → (get_or xs i 0 ≡ x → ⊥) → get_or ys i 0 ≡ x → ⊥
no_byte xs ys i x e h k = h (same_byte ys xs i x (sym e) k)

pub range-requires-clause-end_boundary : goal.range-requires-clause-end_boundary
range-requires-clause-end_boundary c =
    let v = c.as_bytes-bytes.ensures.value in
    run_cut c.args.token.now c.args.at c.plain_end-end.result c.requires.0
    (same_end _ _ c.args.at c.plain_end-end.result v c.plain_end-end.ensures.end) (omega (arith, ap length v, c.plain_end-end.ensures.within))

pub returns-then-end-bytes-clause-refused : goal.returns-then-end-bytes-clause-refused
returns-then-end-bytes-clause-refused c =
    let v = c.as_bytes-bytes.ensures.value in (
      refl,
      never_closed c.args.token.now c.args.at c.plain_end-end.result (same_end _ _ c.args.at c.plain_end-end.result v c.plain_end-end.ensures.end)
          (c.if-end-bytes.true ∙ ap length v),
    )

pub returns-then-bytes-end-eq34-clause-part : goal.returns-then-bytes-end-eq34-clause-part
returns-then-bytes-end-eq34-clause-part c =
    let v = c.as_bytes-bytes.ensures.value in
    closed_part c.args.token.now c.args.at c.plain_end-end.result (string_bytes c.args.out.now) (string_bytes c.push_str.new.self)
    (same_end _ _ c.args.at c.plain_end-end.result v c.plain_end-end.ensures.end)
    (omega (arith, ap length v, c.plain_end-end.ensures.within, c.if-end-bytes.false))
    (same_byte _ _ c.plain_end-end.result quote v c.if-bytes-end-eq34.true)
    (c.in_ok-push_str.ensures.bytes ∙ ap (λ (xs : List ℕ). string_bytes c.args.out.now ++ xs) c.range.ensures.value)

pub returns-then-end-bytes-2-clause-refused : goal.returns-then-end-bytes-2-clause-refused
returns-then-end-bytes-2-clause-refused c =
    let v = c.as_bytes-bytes.ensures.value in (
      refl,
      ends_escaped c.args.token.now c.args.at c.plain_end-end.result c.requires.0
          (same_end _ _ c.args.at c.plain_end-end.result v c.plain_end-end.ensures.end) (c.if-end-bytes-2.true ∙ ap length v)
          (no_byte _ _ c.plain_end-end.result quote v c.if-bytes-end-eq34.false),
    )

pub returns-in-None-clause-refused : goal.returns-in-None-clause-refused
returns-in-None-clause-refused c =
    let v = c.as_bytes-bytes.ensures.value in
    let e = c.escape.ensures in let i = c.in-None.is in (
      refl,
      wrong_escape c.args.token.now c.args.at c.plain_end-end.result c.requires.0
          (same_end _ _ c.args.at c.plain_end-end.result v c.plain_end-end.ensures.end)
          (omega (arith, ap length v, c.plain_end-end.ensures.within, c.if-end-bytes.false, c.if-end-bytes-2.false))
          (no_byte _ _ c.plain_end-end.result quote v c.if-bytes-end-eq34.false)
          (sym (ap (λ (xs : List ℕ). escape (get_or xs (c.plain_end-end.result + 1) 0)) v) ∙ sym e ∙ i),
    )

pub returns-in_ok-push-in-Some-clause-part : goal.returns-in_ok-push-in-Some-clause-part
returns-in_ok-push-in-Some-clause-part c =
    let v = c.as_bytes-bytes.ensures.value in
    let is : escape (get_or c.args.token.now (c.plain_end-end.result + 1) 0) ≡ Some c.in-Some.c =
    sym (ap (λ (xs : List ℕ). escape (get_or xs (c.plain_end-end.result + 1) 0)) v) ∙ sym c.escape.ensures ∙ c.in-Some.is in
    let low : c.from.result < 128 = omega (arith, escaped_low (get_or c.args.token.now (c.plain_end-end.result + 1) 0) c.in-Some.c is, c.from.ensures) in
    escaped_part c.args.token.now c.args.at c.plain_end-end.result c.in-Some.c (string_bytes c.args.out.now) (string_bytes c.push.new.self)
    c.utf8.token c.requires.0 (same_end _ _ c.args.at c.plain_end-end.result v c.plain_end-end.ensures.end)
    (omega (arith, ap length v, c.plain_end-end.ensures.within, c.if-end-bytes.false, c.if-end-bytes-2.false))
    (no_byte _ _ c.plain_end-end.result quote v c.if-bytes-end-eq34.false)
    is
    (c.in_ok-push-in-Some.ensures.bytes
    ∙ ap₂ (λ (xs ys : List ℕ). xs ++ ys)
    (c.in_ok-push_str.ensures.bytes ∙ ap (λ (xs : List ℕ). string_bytes c.args.out.now ++ xs) c.range.ensures.value)
    (c.push.ensures.ascii low ∙ ap (λ (d : ℕ). d ∷ []) c.from.ensures))
