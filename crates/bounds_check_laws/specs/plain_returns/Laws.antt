-- Where the automaton of a unit puts what calls give.
use Rattle.std.specs.Prelude.{ℕ, List}
use Rattle.c_front.specs.Automata.{IsAutomatonOf}
use Rattle.c_lex.specs.declared.token.SourceText.{SourceText}
use Rattle.cfa.specs.declared.parts.Function.{Function}
use Rattle.cfa.specs.declared.parts.GraphParts.{GraphParts}
use Rattle.bounds_check_laws.specs.ending_laws.Asking.{ReturnsPlainly}
use Rattle.c_lower_rules.specs.graph_of.GraphOf.{graph_of}
use Rattle.c_typed_trees.specs.declared.unit.Typed.{Typed}

-- the automaton of a typed unit puts the result of no return into an array's element, whatever the entry
abbrev pub GraphsReturnPlainly : Type 0
GraphsReturnPlainly = (t : Typed) (files : List (List ℕ)) (entry : Function) → ReturnsPlainly (graph_of t files) entry

-- nor does that of texts
abbrev pub AutomataReturnPlainly : Type 0
AutomataReturnPlainly = (texts : List SourceText) (graph : GraphParts) (entry : Function) → IsAutomatonOf texts graph → ReturnsPlainly graph entry
