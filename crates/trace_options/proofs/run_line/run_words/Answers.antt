use Rattle.std.proofs.Common.{◌∙◌, map, string_bytes, arith}
use Rattle.std.proofs.lemmas.List.{length-map}
use Rattle.trace_options.proofs.Kept.{kept_all, kept_more}
use Rattle.trace_options.proofs.run_line.run_words.Goals as goal

pub loop-place-preserved : goal.loop-place-preserved
loop-place-preserved c =
    let ws = map string_bytes c.args.words.now in
    kept_more (map string_bytes c.loop-place.list.items) _ ws c.loop-place.place c.loop-place.plain c.loop-place.value c.is_option-option.result c.is_plain-plain.result c.is_kept.result c.word-word.result.now
    (omega (arith, length-map c.args.words.now string_bytes)) c.word-word.ensures c.is_option-option.ensures c.is_plain-plain.ensures c.is_kept.ensures c.in_ok-push_kept.ensures
    ∙ c.loop-place.invariant

pub returns : goal.returns
returns c =
    let ws = map string_bytes c.args.words.now in
    kept_all (map string_bytes c.loop-place.list.items) ws c.loop-place.place c.loop-place.plain c.loop-place.value (omega (arith, length-map c.args.words.now string_bytes)) ∙ c.loop-place.invariant
