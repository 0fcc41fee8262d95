-- The edges among which are all that lead from a pair.
use Rattle.std.proofs.Common.{◌≡◌, ℕ, ◌+◌, ◌<◌, List, [], ◌∷◌, length, Option, Some, sym, ◌∙◌, subst, arith}
use Rattle.std.specs.Prelude.{slice_get, Contains, IsTrue}
use Rattle.std.specs.Option.{IsSomeAnd}
use Rattle.cfa.specs.declared.parts.Edge.{Edge}
use Rattle.cfa.specs.declared.parts.GraphParts.{GraphParts}
use Rattle.cfa.specs.declared.parts.Operation.{Operation}
use Rattle.cfa.specs.declared.parts.Operation.TheVariants.{Skip, Assign, Clear, Guard, Call, Return, Answer, Assert, Assume}
use Rattle.cfa.specs.Contexts.{Context, FrameContext, Pair, ReturnsHome}
use Rattle.cfa.specs.Graph.{IsGraph, IsExit, PairFits, is_return}
use Rattle.cfa.specs.Laws.{OutgoingEdges}
use Rattle.cfa.specs.Table.{outgoing_of}
use Rattle.cfa.proofs.Exits.{given}
use Rattle.unwinder_reach.specs.reached.Searching.{AreWays, return_after, running_call}

by_call : (o : Option ℕ) (call at : ℕ) → o ≡ Some call → call + 1 ≡ at → Contains (return_after o) at
by_call o call at is after = subst (λ p. Contains (return_after p) at) (sym is) (0, omega arith, after)

by_frames : (fs : List FrameContext) (call at : ℕ) → IsSomeAnd (slice_get fs 0) (λ f. f.call ≡ Some call) → call + 1 ≡ at → Contains (return_after (running_call fs)) at
by_frames [] call at home after = absurd home
by_frames (f ∷ fs) call at home after = by_call f.call call at home after

by_operation : (parts : GraphParts) (at function : ℕ) (op : Operation) (c : Context) → IsTrue (is_return op) → PairFits parts at function op → ReturnsHome op c → Contains (return_after (running_call c.frames)) at
by_operation parts at function (Return call dest) c is pair home = by_frames c.frames call at home pair.0
by_operation parts at function Skip c is pair home = absurd (cc)
by_operation parts at function (Assign place value) c is pair home = absurd (cc)
by_operation parts at function (Clear array length) c is pair home = absurd (cc)
by_operation parts at function (Guard test truth) c is pair home = absurd (cc)
by_operation parts at function (Call callee words arrays) c is pair home = absurd (cc)
by_operation parts at function (Answer input dest) c is pair home = absurd (cc)
by_operation parts at function (Assert test) c is pair home = absurd (cc)
by_operation parts at function (Assume test) c is pair home = absurd (cc)

-- from an exit only the return to the caller leads
pub exit_ways : (parts : GraphParts) (p : Pair) → IsGraph parts → IsExit parts p.node → AreWays parts p (return_after (running_call p.context.frames))
exit_ways parts p graph exit at e q follows =
    let is = graph.rest.returns at e follows.edge (subst (IsExit parts) (sym follows.leaves) exit) in
    by_operation parts at e.function e.operation p.context is (graph.edges at e follows.edge).pair follows.home

-- the edges that leave a node, as far as it is there
pub all_ways : OutgoingEdges → (parts : GraphParts) (p : Pair) (node : ℕ) (ways : List ℕ) → IsGraph parts → node ≡ p.node → (node < length parts.nodes → ways ≡ outgoing_of parts node) → AreWays parts p ways
all_ways law parts p node ways graph own are at e q follows =
    let within : e.source < length parts.nodes = (graph.edges at e follows.edge).source in
    let leaves : e.source ≡ node = follows.leaves ∙ sym own in
    let same = are (subst (λ n. n < length parts.nodes) leaves within) in
    subst (λ l. Contains l at) (sym same)
    ((law parts node at).1 (let Leaves : Edge → Type 0 = λ e. e.source ≡ node in given Leaves (slice_get parts.edges at) e follows.edge leaves))

pub exit_from : (parts : GraphParts) (p : Pair) (node : ℕ) (ways : List ℕ) → IsGraph parts → node ≡ p.node → IsExit parts node → ways ≡ return_after (running_call p.context.frames) → AreWays parts p ways
exit_from parts p node ways graph own exit are at e q follows =
    subst (λ l. Contains l at) (sym are) (exit_ways parts p graph (subst (IsExit parts) own exit) at e q follows)
