-- The automaton of a unit returns into plain cells alone.
use Rattle.std.proofs.Common.{◌≡◌, ℕ, zero, suc, ◌+◌, List, [], ◌∷◌, map, Some, sym, subst}
use Rattle.std.specs.Prelude.{slice_get}
use Rattle.std.proofs.lemmas.Option.{same_Some}
use Rattle.c_front.specs.Automata.{names_of}
use Rattle.c_types.specs.Units.{typed_of}
use Rattle.cfa.specs.declared.parts.Edge.{Edge}
use Rattle.cfa.specs.declared.parts.GraphParts.{GraphParts}
use Rattle.cfa.specs.declared.parts.Variable.{Variable}
use Rattle.c_typed_trees.specs.declared.unit.Typed.{Typed}
use Rattle.c_typed_trees.specs.declared.unit.TypedFunction.{TypedFunction}
use Rattle.bounds_check_laws.specs.ending_laws.Asking.{ReturnsPlainly}
use Rattle.c_lower_rules.specs.graph_of.Edges.{entry_of, exit_of}
use Rattle.c_lower_rules.specs.graph_of.GraphOf.{around_of, bodies_from, ends, global_variables, graph_of}
use Rattle.c_lower_rules.specs.graph_of.Table.{piece}
use Rattle.bounds_check_laws.specs.plain_returns.Laws.{AutomataReturnPlainly, GraphsReturnPlainly}
use Rattle.bounds_check_laws.proofs.plain_returns.Flows.{AllPlain, ArePlain, IsPlainEdge, ReturnsInto, in_order_is}
use Rattle.bounds_check_laws.proofs.plain_returns.Rows.{block_is, pieces_are}

bodies_are : (globals : List Variable) (i : ℕ) (fs : List TypedFunction) → AllPlain (bodies_from globals i fs)
bodies_are globals i [] = tt
bodies_are globals i (f ∷ fs) = (block_is (map piece f.body) (pieces_are f.body) (around_of globals i f) (entry_of i) (exit_of i), bodies_are globals (i + 1) fs)

edge_is : (es : List Edge) (at : ℕ) (e : Edge) → ArePlain es → slice_get es at ≡ Some e → IsPlainEdge e
edge_is [] at e h is = absurd (cc)
edge_is (x ∷ es) zero e h is = subst IsPlainEdge (same_Some x e is) h.0
edge_is (x ∷ es) (suc at) e h is = edge_is es at e h.1 is

all_plain : (t : Typed) (files : List (List ℕ)) → ArePlain (graph_of t files).edges
unfolding graph_of
all_plain t files = in_order_is (ends (global_variables t) t.functions ∷ bodies_from (global_variables t) 0 t.functions) ((λ n e k. tt), bodies_are (global_variables t) 0 t.functions) 0 0 0

pub graphs_return_plainly : GraphsReturnPlainly
graphs_return_plainly t files entry at call e dest there leaves is = subst ReturnsInto is (edge_is (graph_of t files).edges at e (all_plain t files) there)

pub automata_return_plainly : AutomataReturnPlainly
automata_return_plainly texts graph entry a =
    subst (λ (g : GraphParts). ReturnsPlainly g entry) (sym a.is) (graphs_return_plainly (typed_of a.items) (names_of texts) entry)
