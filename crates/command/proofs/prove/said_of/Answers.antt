use Rattle.std.proofs.Common.{[], ◌∷◌, ap, refl}
use Rattle.command.specs.Said.{answered}
use Rattle.command.proofs.GivesLaws.{same_open, shown_nothing}
use Rattle.command.proofs.prove.said_of.Goals as goal

pub covered-requires : goal.covered-requires
covered-requires g c = (c.requires.0, rw c.in-Covered.is at c.requires.1.1)

pub returns-in_ok-text-in-Covered : goal.returns-in_ok-text-in-Covered
returns-in_ok-text-in-Covered g c = λ one budget decided.
    ([], rw c.in-Covered.is (c.in_ok-text-in-Covered.ensures one (rw c.in-Covered.is at decided)), shown_nothing _ refl)

pub returns-in_ok-text-in-Refuted : goal.returns-in_ok-text-in-Refuted
returns-in_ok-text-in-Refuted g c = λ one budget decided.
    ([], rw c.in-Refuted.is (ap answered c.in_ok-text-in-Refuted.ensures), shown_nothing _ refl)

pub returns-in_ok-shown-in-Undecided : goal.returns-in_ok-shown-in-Undecided
returns-in_ok-shown-in-Undecided g c = λ one budget decided.
    ((c.args.sought.now.goal.number, c.in-Undecided.formula.formula, c.in-Undecided.history) ∷ [], rw c.in-Undecided.is (same_open _ _ _ (rw c.goal-number.ensures at c.in_ok-text-in-Undecided.ensures)), rw c.goal-number.ensures at c.in_ok-shown-in-Undecided.ensures.ok)
