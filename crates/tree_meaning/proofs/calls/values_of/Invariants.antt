use Rattle.std.proofs.Common.{◌≡◌, map, drop}
use Rattle.c_meaning.proofs.Patterns.{values_behind}
use Rattle.tree_meaning.specs.Calls.{word_values}
use Rattle.tree_meaning.specs.Running.{meant_in}
use Rattle.tree_meaning.proofs.calls.values_of.Given as goal

-- the values so far, and those of the other words behind them
abbrev pub invariant-loop-word : goal.invariant-loop-word
invariant-loop-word l = word_values (map (meant_in l.scene) l.words) l.vs l.store.cells ≡ values_behind l.values (word_values (map (meant_in l.scene) (drop l.word-index l.words)) l.left l.store.cells)
