use Rattle.std.proofs.Common.{sym, ap, ◌∙◌, Some, List, ℕ}
use Rattle.std.proofs.lemmas.List.{at_drop_all}
use Rattle.io_gate.proofs.FirstFile.{first_file, first_file_named, first_file_found, first_file_passed}
use Rattle.io_gate.proofs.memory_images.file_of.Goals as goal

pub returns : goal.returns
returns c =
    sym (at_drop_all (first_file c.args.name.now) c.args.files.now c.loop-known.known-index c.loop-known-test.false)
    ∙ c.loop-known.invariant
    ∙ sym (first_file_named c.args.name.now c.args.files.now)

pub returns-then-eq : goal.returns-then-eq
returns-then-eq c =
    ap (λ (xs : List ℕ). Some xs) c.deref.ensures.value
    ∙ sym (first_file_found c.args.name.now c.args.files.now c.loop-known.known-index c.loop-known-item.result c.loop-known-test.true c.loop-known-item.is (cc))
    ∙ c.loop-known.invariant
    ∙ sym (first_file_named c.args.name.now c.args.files.now)

pub loop-known-preserved : goal.loop-known-preserved
loop-known-preserved c =
    sym (first_file_passed c.args.name.now c.args.files.now c.loop-known.known-index c.loop-known-item.result c.loop-known-test.true c.loop-known-item.is (cc))
    ∙ c.loop-known.invariant
