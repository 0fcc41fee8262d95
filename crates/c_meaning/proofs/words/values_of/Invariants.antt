use Rattle.std.proofs.Common.{◌≡◌, drop}
use Rattle.c_meaning.specs.Steps.{values_of}
use Rattle.c_meaning.proofs.Patterns.{values_behind}
use Rattle.c_meaning.proofs.words.values_of.Given as goal

-- the values so far, and those of the other words behind them
abbrev pub invariant-loop-word : goal.invariant-loop-word
invariant-loop-word l =
    values_of l.store.cells l.store.frame l.words ≡ values_behind l.values (values_of l.store.cells l.store.frame (drop l.word-index l.words))
