use Rattle.text_code.proofs.kinds.+spread.Given as goal

abbrev pub decreases-spread : goal.decreases-spread
decreases-spread l = l.k
