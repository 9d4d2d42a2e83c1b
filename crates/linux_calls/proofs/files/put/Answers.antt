use Rattle.std.proofs.Common.{eq-eqb, arith, ◌≡◌, nat_eq, true}
use Rattle.std.proofs.lemmas.Bool.Decides.{nat_tests}
use Rattle.linux_calls.proofs.Written.{put_broken}
use Rattle.linux_calls.proofs.files.put.Goals as goal

pub returns-in-Err-clause-output : goal.returns-in-Err-clause-output
returns-in-Err-clause-output g c = put_broken 1 c.args.file c.args.ranges.now c.args.mem.now.memory _ _ _ (eq-eqb c.args.file 1 c.if-file-eq1.true) c.in-Err.ensures.bytes

pub returns-in-Err-put_ranges-clause-errors : goal.returns-in-Err-put_ranges-clause-errors
returns-in-Err-put_ranges-clause-errors g c =
    let two : nat_eq c.args.file 2 ≡ true = grind (arith, nat_tests, c.requires.file, c.if-file-eq1.false) in
    put_broken 2 c.args.file c.args.ranges.now c.args.mem.now.memory _ _ _ two c.in-Err-put_ranges.ensures.bytes
