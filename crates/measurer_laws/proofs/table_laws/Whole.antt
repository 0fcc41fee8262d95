-- The edges of the automaton of a unit are marked as they should be.
use Rattle.std.proofs.Common.{◌≡◌, ℕ, zero, suc, ◌+◌, List, [], ◌∷◌, map, Some, subst}
use Rattle.std.specs.Prelude.{slice_get}
use Rattle.std.proofs.lemmas.Option.{same_Some}
use Rattle.cfa.specs.declared.parts.Edge.{Edge}
use Rattle.cfa.specs.declared.parts.Variable.{Variable}
use Rattle.c_typed_trees.specs.declared.unit.Typed.{Typed}
use Rattle.c_typed_trees.specs.declared.unit.TypedFunction.{TypedFunction}
use Rattle.c_lower_rules.specs.graph_of.Edges.{entry_of, exit_of}
use Rattle.c_lower_rules.specs.graph_of.GraphOf.{around_of, bodies_from, ends, global_variables, graph_of}
use Rattle.c_lower_rules.specs.graph_of.Table.{piece}
use Rattle.measurer_laws.specs.table_laws.Marks.{GraphsMarkGuards, NamesStandInGraphs}
use Rattle.measurer_laws.proofs.table_laws.Flows.{AllMarked, AreMarked, IsMarked, in_order_is}
use Rattle.measurer_laws.proofs.table_laws.Rows.{block_is, pieces_are}

bodies_are : (globals : List Variable) (i : ℕ) (fs : List TypedFunction) → AllMarked (bodies_from globals i fs)
bodies_are globals i [] = tt
bodies_are globals i (f ∷ fs) = (block_is (map piece f.body) (pieces_are f.body) (around_of globals i f) (entry_of i) (exit_of i), bodies_are globals (i + 1) fs)

edge_is : (es : List Edge) (at : ℕ) (e : Edge) → AreMarked es → slice_get es at ≡ Some e → IsMarked e
edge_is [] at e h is = absurd (cc)
edge_is (x ∷ es) zero e h is = subst IsMarked (same_Some x e is) h.0
edge_is (x ∷ es) (suc at) e h is = edge_is es at e h.1 is

all_marked : (t : Typed) (files : List (List ℕ)) → AreMarked (graph_of t files).edges
unfolding graph_of
all_marked t files = in_order_is (ends (global_variables t) t.functions ∷ bodies_from (global_variables t) 0 t.functions) ((λ n e k. tt), bodies_are (global_variables t) 0 t.functions) 0 0 0

pub graphs_mark_guards : GraphsMarkGuards
graphs_mark_guards t files k e there = (edge_is (graph_of t files).edges k e (all_marked t files) there).outcome

pub names_stand_in_graphs : NamesStandInGraphs
names_stand_in_graphs t files k e there = (edge_is (graph_of t files).edges k e (all_marked t files) there).names
