use Rattle.automata.proofs.join.+row_part.Given as goal

abbrev pub decreases-row_part : goal.decreases-row_part
decreases-row_part l = l.a.leaves
