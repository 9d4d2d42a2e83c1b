use Rattle.contiguous_runs.proofs.moves.told_bytes.Goals as goal

pub returns-clause-small : goal.returns-clause-small
returns-clause-small c = λ k. (c.type_inv.bytes k).fits
