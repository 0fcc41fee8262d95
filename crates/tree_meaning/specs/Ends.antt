-- How the run of a function ends, by the meaning of its tree.
use Rattle.std.specs.Prelude.{ℕ, List, [], ◌++◌, length, map, Option, Some, None, slice_get, slice_index}
use Rattle.std.specs.Option.{option_map}
use Rattle.c_values.specs.declared.kinds.Kind.{Kind}
use Rattle.c_meaning.specs.Starts.{fitted_words}
use Rattle.c_meaning.specs.declared.input.Input.{Input}
use Rattle.c_typed_trees.specs.Fitting.{global_cells, word_kinds}
use Rattle.c_typed_trees.specs.declared.unit.Typed.{Typed}
use Rattle.c_typed_trees.specs.declared.unit.TypedFunction.{TypedFunction}
use Rattle.tree_meaning.specs.declared.ends.TreeEnd.{TreeEnd}
use Rattle.tree_meaning.specs.declared.ends.TreeEnd.TheVariants as ends
use Rattle.tree_meaning.specs.Outcomes.{Store, End, TrapEnd, BlockedEnd, TooDeepEnd, Done, Gives, Ends, OutOfTurns}
use Rattle.tree_meaning.specs.declared.way.Way.{Way}
use Rattle.tree_meaning.specs.declared.activation.Activation.{Activation}
use Rattle.tree_meaning.specs.Activations.{first_cells, as_kind}
use Rattle.tree_meaning.specs.Trees.{body_does, calls_in}

module _ (t : Typed) (f : TypedFunction) where
  -- the first values of the file's variables (6.7.9p4, p10)
  abbrev pub first_values : List ℕ
  first_values = map (λ (g : Kind × ℕ). g.1) (global_cells t)

  -- one activation stands, behind the file's variables, with the input's words as values of its parameters' kinds
  abbrev pub first_activation : Activation
  first_activation = record { depth = 1; base = length first_values; arrays = [] }

  abbrev pub first_store : Input → ℕ → Store
  first_store input turns = record { cells = first_values ++ first_cells f.cells (fitted_words input.words (word_kinds f)); answers = input.answers; turns = turns }

  abbrev pub end_of : End → TreeEnd
  end_of (TrapEnd trap) = ends.Trapped trap
  end_of BlockedEnd = ends.Blocked
  end_of TooDeepEnd = ends.TooDeep

  -- what the function gives is read in the cell of its result, as a value of its kind
  abbrev pub run_end : Done Way → TreeEnd
  run_end (Gives way s) = ends.Returned (option_map (λ kind. as_kind kind (slice_index s.cells first_activation.base)) f.result)
  run_end (Ends end) = end_of end
  run_end OutOfTurns = ends.OutOfTurns

  -- how the function ends on an input, with so many turns
  abbrev pub function_end : Input → ℕ → TreeEnd
  function_end input turns = run_end (body_does t (calls_in t first_activation) f first_activation (first_store input turns))

-- how a unit's function of a number ends; one that isn't there is blocked
abbrev pub end_if : Typed → Option TypedFunction → Input → ℕ → TreeEnd
end_if t None input turns = ends.Blocked
end_if t (Some f) input turns = function_end t f input turns

abbrev pub tree_end : Typed → ℕ → Input → ℕ → TreeEnd
tree_end t entry input turns = end_if t (slice_get t.functions entry) input turns
