use Rattle.std.proofs.Common.{◌≡◌, ◌+◌, ◌++◌, take, drop}
use Rattle.std.specs.Prelude.{replicate}
use Rattle.sym_expr.proofs.sym_steps.cells.with_all.Given as goal

abbrev pub invariant-loop-k : goal.invariant-loop-k
invariant-loop-k l = l.store.cells ≡ take l.first l.initial.store.cells ++ (replicate l.k l.word ++ drop (l.first + l.k) l.initial.store.cells)
