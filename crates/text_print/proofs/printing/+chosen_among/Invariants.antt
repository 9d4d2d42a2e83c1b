use Rattle.text_print.proofs.printing.+chosen_among.Given as goal

abbrev pub decreases-chosen_among : goal.decreases-chosen_among
decreases-chosen_among g l = l.count
