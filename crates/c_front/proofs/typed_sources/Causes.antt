-- Why texts have no automaton.
use Rattle.std.proofs.Common.{◌≡◌, ℕ, List, ap}
use Rattle.fq_core.specs.Refusals.{refusal}
use Rattle.fq_core.specs.declared.refusal.Place.{Place}
use Rattle.fq_core.specs.declared.refusal.Place.TheVariants as place
use Rattle.fq_core.specs.declared.refusal.Refusal.{Refusal}
use Rattle.c_front.specs.Automata as automata
use Rattle.c_front.specs.Automata.{names_of}
use Rattle.c_lex.specs.declared.token.SourceText.{SourceText}
use Rattle.c_lower.specs.Refusal.{IsRefusalOf}
use Rattle.c_lower_rules.specs.graph_of.GraphOf.{graph_of}
use Rattle.c_typed_trees.specs.declared.unit.Typed.{Typed}
use Rattle.c_front.specs.typed_sources.Trees as trees
use Rattle.c_front.specs.typed_sources.Trees.{IsTypedOf}

-- texts that have no typed tree have no automaton, for the same cause
pub no_automaton : (texts : List SourceText) (code : ℕ) (p : Place) → trees.IsRefused texts code p → automata.IsRefused texts code p
no_automaton texts code p (trees.at_tokens r) = automata.at_tokens r
no_automaton texts code p (trees.at_unit ts cut r) = automata.at_unit ts cut r
no_automaton texts code p (trees.at_types items u r) = automata.at_types items u r

-- the graph of their typed tree has too many edges
pub edges_refused : (texts : List SourceText) (typed : Typed) (names : List (List ℕ)) → IsTypedOf texts typed → names ≡ names_of texts
    → (code : ℕ) (p : Place) → IsRefusalOf (graph_of typed names) (refusal code p) → automata.IsRefused texts code p
edges_refused texts typed names tree is code p refused =
    let code_is : code ≡ 41 = ap (λ (r : Refusal). r.code) refused.0 in
    let place_is : p ≡ place.Limit 40000 = ap (λ (r : Refusal). r.place) refused.0 in
    let many = rw (tree.is, is) at refused.1 in
    rw (code_is, place_is) (automata.at_edges tree.items tree.unit tree.faultless many)
