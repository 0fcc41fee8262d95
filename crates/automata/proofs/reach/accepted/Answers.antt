use Rattle.automata.proofs.Acceptance.{accepted_is}
use Rattle.automata.proofs.reach.accepted.Goals as goal

pub returns-clause-value : goal.returns-clause-value
returns-clause-value g c = λ pattern first last path of h w. accepted_is c.args.nfa.now pattern first last _ _ (path w) of (h.says w)
