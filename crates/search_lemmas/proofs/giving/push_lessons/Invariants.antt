use Rattle.search_lemmas.specs.Giving.{SaysTheSame}
use Rattle.search_lemmas.proofs.giving.push_lessons.Given as goal

abbrev pub invariant-loop-place : goal.invariant-loop-place
invariant-loop-place l = SaysTheSame l.formula.formula l.given.formula
