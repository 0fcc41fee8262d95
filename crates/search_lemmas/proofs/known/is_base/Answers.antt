use Rattle.search_lemmas.proofs.known.is_base.Goals as goal

pub returns-in-Some : goal.returns-in-Some
returns-in-Some c = λ yes. c.is_lesson.ensures yes c.args.held.now.circuit.now c.args.held.now.hold
