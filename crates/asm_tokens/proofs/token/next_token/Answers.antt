use Rattle.std.proofs.Common.{ℕ, List, drop, length, sym, ap, ◌∙◌, subst, arith, ◌<◌}
use Rattle.std.specs.Str.{IsCharBoundary}
use Rattle.asm_tokens.specs.Tokens.{tokens}
use Rattle.asm_tokens.specs.Places.{IsToken}
use Rattle.asm_tokens.proofs.Pieces.{none_left, comment_left, token_at}
use Rattle.asm_tokens.proofs.Cuts.{first_cut, last_cut}
use Rattle.asm_tokens.proofs.token.next_token.Goals as goal
use Rattle.asm_tokens.proofs.token.next_token.Goals.{then-from-bytes-via-then-from-bytes, then-from-bytes-via-else-from-bytes+then-is_comment}

pub returns-then-from-bytes-clause-token : goal.returns-then-from-bytes-clause-token
returns-then-from-bytes-clause-token c =
    let bytes : List ℕ = c.as_bytes-bytes.result.now in
    let first : ℕ = c.run_end-from.result in
    ap (λ (xs : List ℕ). tokens (drop c.args.at xs)) (sym c.as_bytes-bytes.ensures.value) ∙ elim c.then-from-bytes.branch [
      | then-from-bytes-via-then-from-bytes w ↦ none_left bytes c.args.at first c.run_end-from.ensures.end w.if-from-bytes.true
      | then-from-bytes-via-else-from-bytes+then-is_comment w ↦ comment_left bytes c.args.at first c.run_end-from.ensures.end (sym w.is_comment.ensures ∙ w.if-is_comment.true)
    ]

pub returns-clause-token : goal.returns-clause-token
returns-clause-token c =
    let bytes : List ℕ = c.as_bytes-bytes.result.now in
    let first : ℕ = c.run_end-from.result in
    let some : first < length bytes = omega arith in
    subst (λ (xs : List ℕ). IsToken xs c.args.at first c.piece_end.result) c.as_bytes-bytes.ensures.value
    (token_at bytes c.args.at first c.piece_end.result (omega arith) c.run_end-from.ensures.end some (sym c.is_comment.ensures ∙ c.if-is_comment.false)
    c.piece_end.ensures.end c.piece_end.ensures.within)

pub returns-clause-cut : goal.returns-clause-cut
returns-clause-cut c =
    let bytes : List ℕ = c.as_bytes-bytes.result.now in
    let first : ℕ = c.run_end-from.result in
    let some : first < length bytes = omega arith in
    let old : IsCharBoundary bytes c.args.at = subst (λ (xs : List ℕ). IsCharBoundary xs c.args.at) (sym c.as_bytes-bytes.ensures.value) c.requires in
    subst (λ (xs : List ℕ). IsCharBoundary xs first × IsCharBoundary xs c.piece_end.result) c.as_bytes-bytes.ensures.value (
      first_cut bytes c.args.at first c.as_bytes-bytes.ensures.utf8 old c.run_end-from.ensures.end,
      last_cut bytes first c.piece_end.result c.as_bytes-bytes.ensures.utf8 some c.piece_end.ensures.end,
    )
