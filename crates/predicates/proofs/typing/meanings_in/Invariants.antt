use Rattle.std.proofs.Common.{◌≡◌, take}
use Rattle.std.specs.Prelude.{IfSome}
use Rattle.predicates.specs.Narrowing.{IsMeaning}
use Rattle.predicates.specs.Typing.{meanings_in}
use Rattle.predicates.proofs.typing.meanings_in.Given as goal

abbrev pub invariant-loop-scope : goal.invariant-loop-scope
invariant-loop-scope l = record {
  row : l.row ≡ meanings_in (take l.scope-index l.scopes) l.tree;
  last : IfSome l.last (λ other. IsMeaning l.tree other.row other.meaning);
}
