use Rattle.text_code.proofs.kinds.+gathered.Given as goal

abbrev pub decreases-gathered : goal.decreases-gathered
decreases-gathered l = l.k
