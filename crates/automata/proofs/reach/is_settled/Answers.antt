use Rattle.automata.proofs.Acceptance.{accepted_for_good}
use Rattle.automata.proofs.reach.is_settled.Goals as goal

pub returns : goal.returns
returns g c = λ known pattern first last path of stands w more.
    accepted_for_good c.args.nfa.now pattern first last _ _ (path w) more of (stands.says w) c.if-nfa.false (c.is_known_yes.ensures known w)
