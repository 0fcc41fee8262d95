use Rattle.std.specs.Prelude.{ℕ, IsTrue}
use Rattle.c_values.specs.declared.kinds.Kind.{Kind}
use Rattle.c_values.specs.Kind.{is_kind}
use Rattle.cfa.proofs.Eaches.{EachBelow}
use Rattle.cfa.proofs.rest.global_kinds_fit.Given as goal

abbrev pub invariant-loop-global : goal.invariant-loop-global
invariant-loop-global l = EachBelow l.parts.globals l.global-index (λ i (global : Kind × ℕ). IsTrue (is_kind global.0))
