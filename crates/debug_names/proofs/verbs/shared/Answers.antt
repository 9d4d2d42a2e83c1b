use Rattle.std.proofs.Common.{◌≡◌, ◌<◌, length, arith}
use Rattle.debug_names.proofs.Sharing.{shared-more, shared-other, shared-short, shared-end}
use Rattle.debug_names.proofs.verbs.shared.Goals as goal
use Rattle.debug_names.proofs.verbs.shared.Goals.{then-name-k-via-then-name-k, then-name-k-via-else-name-k+then-word-k}

pub returns-then-name-k : goal.returns-then-name-k
returns-then-name-k c = elim c.then-name-k.branch [
  | then-name-k-via-then-name-k w ↦
      let none = shared-short c.args.word.now c.args.name.now c.letters.k w.if-name-k.true in
      omega arith
  | then-name-k-via-else-name-k+then-word-k w ↦
      let in_name : c.letters.k < length c.args.name.now = omega arith in
      let none = shared-other c.args.word.now c.args.name.now c.letters.k c.letters-test.true in_name w.if-word-k.true in
      omega arith
]

pub letters-preserved : goal.letters-preserved
letters-preserved c =
    let in_name : c.letters.k < length c.args.name.now = omega arith in
    let more = shared-more c.args.word.now c.args.name.now c.letters.k c.letters-test.true in_name c.if-word-k.false in
    omega arith

pub returns : goal.returns
returns c =
    let none = shared-end c.args.word.now c.args.name.now c.letters.k c.letters-test.false in
    omega arith
