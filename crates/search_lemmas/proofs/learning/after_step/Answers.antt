use Rattle.std.proofs.Common.{Option, Bor, of_z, subst, to_z, w32}
use Rattle.std.specs.Prelude.{IfSome}
use Rattle.cnf.specs.declared.clause.Clause.{Clause}
use Rattle.search_lemmas.specs.Holding.{IsKnown, variable_value}
use Rattle.search_lemmas.proofs.Truth.{resolvent_found}
use Rattle.search_lemmas.proofs.learning.after_step.Goals as goal

pub returns-in-Some-2 : goal.returns-in-Some-2
returns-in-Some-2 c = λ gates wires own known w.
    let pivot = to_z w32 (of_z w32 c.args.pivot) in
    resolvent_found (variable_value gates wires w) c.args.clause c.in-Some.known.now c.in-Some-2.next pivot c.in_ok-next.field-0 c.in-Some-2.is c.in_ok-next.ensures (own w)
    (subst (λ (o : Option (Bor Clause)). IfSome o (λ k. IsKnown gates wires k.now)) c.in-Some.is known w)
