use Rattle.std.proofs.Common.{length, map, sum_by, string_bytes, ap, arith}
use Rattle.std.proofs.lemmas.List.{length-map, take_all}
use Rattle.emu_system.proofs.FirstWords.{bytes_more, long_at, long_nowhere}
use Rattle.emu_system.proofs.arguments.first_too_long.Goals as goal

pub loop-place-preserved : goal.loop-place-preserved
loop-place-preserved c =
    let more = bytes_more string_bytes c.args.words.now c.loop-place.place c.index-words-place.result (length c.as_str-count.result.now) c.loop-place-test.true c.index-words-place.is (ap length c.as_str-count.ensures.value) in
    omega arith

pub returns-then-count-left-clause-place : goal.returns-then-count-left-clause-place
returns-then-count-left-clause-place c =
    let more = bytes_more string_bytes c.args.words.now c.loop-place.place c.index-words-place.result (length c.as_str-count.result.now) c.loop-place-test.true c.index-words-place.is (ap length c.as_str-count.ensures.value) in
    long_at (map string_bytes c.args.words.now) c.loop-place.place (omega (arith, length-map c.args.words.now string_bytes)) (omega arith) (omega arith)

pub returns-clause-place : goal.returns-clause-place
returns-clause-place c =
    let ws = map string_bytes c.args.words.now in
    long_nowhere ws (omega (arith, length-map c.args.words.now string_bytes, ap (sum_by length) (take_all c.loop-place.place ws (omega (arith, length-map c.args.words.now string_bytes)))))
