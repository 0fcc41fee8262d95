use Rattle.std.proofs.Common.{subst}
use Rattle.search_lemmas.specs.Holding.{HoldsAlways}
use Rattle.search_lemmas.specs.Naming.{AreNamed}
use Rattle.search_lemmas.proofs.Names.{if_some_more, known_always}
use Rattle.search_lemmas.proofs.learning.over_wires.Goals as goal

pub returns : goal.returns
returns c = λ gates known.
    if_some_more (AreNamed c.args.wires.now c.literals-literals.result.now) (HoldsAlways gates) c.renamed.result
    (λ other named. known_always gates c.args.wires.now c.args.clause.now other (subst (λ xs. AreNamed c.args.wires.now xs other) c.literals-literals.ensures.value named) known)
    c.renamed.ensures
