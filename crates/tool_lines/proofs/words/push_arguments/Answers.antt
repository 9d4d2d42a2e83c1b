use Rattle.std.proofs.Common.{ℕ, List, ◌+◌, ◌++◌, drop, map, string_bytes, sym, ap, ◌∙◌, append-nil, arith}
use Rattle.std.proofs.lemmas.List.{drop_all, length-map}
use Rattle.tool_lines.specs.SameWords.{argument_words}
use Rattle.tool_lines.proofs.Copies.{copied_all, copied_more, first_argument}
use Rattle.tool_lines.proofs.words.push_arguments.Goals as goal

pub returns-then-from-words : goal.returns-then-from-words
returns-then-from-words c =
    let ws = map string_bytes c.args.words.now in
    sym (append-nil (map string_bytes c.args.list.now.items))
    ∙ ap (λ (xs : List (List ℕ)). map string_bytes c.args.list.now.items ++ argument_words xs) (sym (drop_all c.args.from ws (omega (arith, length-map c.args.words.now string_bytes))))

pub loop-place-init : goal.loop-place-init
loop-place-init c =
    let ws = map string_bytes c.args.words.now in
    ap (λ (xs : List (List ℕ)). xs ++ drop c.args.from ws) c.in_ok-push_word.ensures
    ∙ first_argument (map string_bytes c.args.list.now.items) ws c.args.from (omega (arith, length-map c.args.words.now string_bytes))

pub loop-place-preserved : goal.loop-place-preserved
loop-place-preserved c =
    let ws = map string_bytes c.args.words.now in
    ap (λ (xs : List (List ℕ)). xs ++ drop (c.loop-place.place + 1) ws) c.in_ok-push_word-2.ensures
    ∙ copied_more (map string_bytes c.loop-place.list.items) ws c.loop-place.place _ (omega (arith, length-map c.args.words.now string_bytes)) c.word.ensures
    ∙ c.loop-place.invariant

pub returns : goal.returns
returns c =
    let ws = map string_bytes c.args.words.now in
    sym (copied_all (map string_bytes c.loop-place.list.items) ws c.loop-place.place (omega (arith, length-map c.args.words.now string_bytes))) ∙ c.loop-place.invariant
