use Rattle.c_front.proofs.Refusals.{accepts, refuses}
use Rattle.c_front.proofs.automaton.automaton_of_texts.Goals as goal

pub returns-clause-accepts : goal.returns-clause-accepts
returns-clause-accepts c = accepts c.args.texts.now (c.one_outcome.ensures c.args.texts.now) c.automaton.result c.automaton.ensures.accepted c.automaton.ensures.refused

pub returns-clause-refuses : goal.returns-clause-refuses
returns-clause-refuses c = refuses c.args.texts.now (c.one_outcome.ensures c.args.texts.now) c.automaton.result c.automaton.ensures.accepted c.automaton.ensures.refused
