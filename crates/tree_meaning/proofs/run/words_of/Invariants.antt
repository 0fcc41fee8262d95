use Rattle.std.proofs.Common.{◌≡◌, ◌++◌, drop}
use Rattle.std.specs.Prelude.{filter_map}
use Rattle.c_meaning.specs.Starts.{fitted_words}
use Rattle.c_typed_trees.specs.Fitting.{word_kind}
use Rattle.tree_meaning.proofs.run.words_of.Given as goal

abbrev pub invariant-loop-parameter : goal.invariant-loop-parameter
invariant-loop-parameter l = fitted_words l.words (filter_map word_kind l.function.parameters) ≡ l.values ++ fitted_words l.left (filter_map word_kind (drop l.parameter-index l.function.parameters))
