-- What the entries of an unwinding say of every input's run.
use Rattle.std.specs.Prelude.{◌≡◌, ℕ, ◌<◌, ◌^◌, All, Bool, List, [], ◌∷◌, map, Option, Some, None, slice_get}
use Rattle.std.specs.List.{AllZip, filter}
use Rattle.circuit.specs.Truth.{World}
use Rattle.circuit.specs.Wires.{lit_holds}
use Rattle.circuit.specs.declared.lit.Gate.{Gate}
use Rattle.cfa.specs.declared.parts.Function.{Function}
use Rattle.cfa.specs.declared.parts.GraphParts.{GraphParts}
use Rattle.cfa.specs.declared.parts.Node.{Node}
use Rattle.cfa.specs.declared.state.Predicates.{Predicates}
use Rattle.cfa.specs.declared.state.State.{State}
use Rattle.c_meaning.specs.declared.ends.Ends.{Ends}
use Rattle.c_meaning.specs.declared.input.Input.{Input}
use Rattle.c_meaning.specs.Runs.{Move, Run, counts}
use Rattle.c_meaning.specs.Pairs.{IsLongestWithin}
use Rattle.c_meaning.specs.Starts.{CanStart}
use Rattle.c_meaning.specs.Steps.{next}
use Rattle.path_runner.specs.Masks.{holds}
use Rattle.unwinder_reach.specs.declared.reached.bounds.Bounds.{Bounds}
use Rattle.unwinder.specs.declared.unwound.Entry.{Entry}
use Rattle.unwinder.specs.input_words.Worlds.{world_of}

-- the truth of each predicate in a state at a node
abbrev pub truths_at : Predicates → State → Option Node → List Bool
truths_at predicates s None = map (λ row. holds 0 s []) predicates.meanings
truths_at predicates s (Some n) = map (holds n.scope s) predicates.meanings

abbrev pub truths_in : GraphParts → Predicates → State → List Bool
truths_in parts predicates s = truths_at predicates s (slice_get parts.nodes s.node)

-- a state of a run, and the edge into it
abbrev pub Reached : Type 0
Reached = Option ℕ × State

abbrev pub after_move : Move → Reached
after_move m = (Some m.edge, m.target)

-- the first state, into which no edge leads, and that after each move
abbrev pub reached_in : Run → List Reached
reached_in r = (None, r.first) ∷ map after_move r.moves

-- An entry tells of a state in a world: the edge into it, its node, each predicate's truth there, and whether the run
-- ends there in a way that counts.
pub record Tells (parts : GraphParts) (predicates : Predicates) (ends : Ends) (gates : List Gate) (w : World) (input : Input) (e : Entry) (at : Reached) : Type 0 where
  pub edge : e.edge ≡ at.0
  pub node : e.node ≡ at.1.node
  pub truths : map (λ l. lit_holds gates l w) e.predicates ≡ truths_in parts predicates at.1
  pub ended : lit_holds gates e.ended w ≡ counts ends (next parts input at.1)

-- the entries that hold in a world, in order
abbrev pub entries_in : List Gate → List Entry → World → List Entry
entries_in gates entries w = filter (λ (e : Entry). lit_holds gates e.guard w) entries

-- An input of a function: one word for each parameter, and any number of answers, each of 64 bits.
pub record IsInputFor (f : Function) (input : Input) : Type 0 where
  pub start : CanStart f input.words
  pub answers : All (λ n. n < 2 ^ 64) input.answers

-- For every input, the entries whose guards hold in its world tell, in order, of the states of its longest run within the
-- bounds, and of no more.
abbrev pub ListsRuns : GraphParts → Predicates → Function → Bounds → Ends → List Gate → List Entry → Type 0
ListsRuns parts predicates f bounds ends gates entries =
    (input : Input) → IsInputFor f input → (r : Run) × IsLongestWithin bounds.turns bounds.frames bounds.answers parts f input r × AllZip (Tells parts predicates ends gates (world_of f.parameters bounds.answers input) input) (entries_in gates entries (world_of f.parameters bounds.answers input)) (reached_in r)
