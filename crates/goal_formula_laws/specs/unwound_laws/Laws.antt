-- What the entries of an unwinding say of inputs that leave its bounds.
use Rattle.std.specs.Prelude.{◌≡◌, ◌↔◌, false, All, List}
use Rattle.c_meaning.specs.declared.ends.Ends.TheVariants as counted
use Rattle.c_meaning.specs.declared.input.Input.{Input}
use Rattle.cfa.specs.declared.parts.Function.{Function}
use Rattle.cfa.specs.declared.parts.GraphParts.{GraphParts}
use Rattle.cfa.specs.declared.state.Predicates.{Predicates}
use Rattle.circuit.specs.Wires.{lit_holds}
use Rattle.circuit.specs.declared.lit.Gate.{Gate}
use Rattle.unwinder.specs.input_words.Worlds.{world_of}
use Rattle.unwinder_reach.specs.declared.reached.bounds.Bounds.{Bounds}
use Rattle.measurer_hits.specs.run_laws.Leaving.{LeavesBounds}
use Rattle.unwinder.specs.Lists.{IsInputFor, ListsRuns, entries_in}
use Rattle.unwinder.specs.declared.unwound.Entry.{Entry}

-- where any end counts, an input leaves the bounds exactly where no entry that holds in its world has ended there
abbrev pub NoneHasEnded : Type 0
NoneHasEnded =
    (parts : GraphParts) (predicates : Predicates) (f : Function) (bounds : Bounds) (gates : List Gate) (entries : List Entry) → ListsRuns parts predicates f bounds counted.Any gates entries →
    (input : Input) → IsInputFor f input →
    LeavesBounds bounds.turns bounds.frames bounds.answers parts f input
    ↔ All (λ (e : Entry). lit_holds gates e.ended (world_of f.parameters bounds.answers input) ≡ false) (entries_in gates entries (world_of f.parameters bounds.answers input))
