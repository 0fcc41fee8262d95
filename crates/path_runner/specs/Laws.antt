-- Laws of paths.
use Rattle.std.specs.Prelude.{◌≡◌, ◌↔◌, ℕ, ◌+◌, ◌≤◌, length, IsTrue}
use Rattle.cfa.specs.declared.parts.Function.{Function}
use Rattle.cfa.specs.declared.parts.GraphParts.{GraphParts}
use Rattle.cfa.specs.declared.state.Predicates.{Predicates}
use Rattle.cfa.specs.declared.state.State.{State}
use Rattle.c_meaning.specs.declared.ends.Ends.{Ends}
use Rattle.c_meaning.specs.declared.ends.Ends.TheVariants as counted
use Rattle.c_meaning.specs.declared.input.Input.{Input}
use Rattle.c_meaning.specs.declared.stepped.Stepped.{Stepped}
use Rattle.c_meaning.specs.declared.stepped.Stepped.TheVariants.{Moved, Returned, Trapped, Blocked, TooDeep}
use Rattle.c_meaning.specs.Runs.{Run, IsRun, counts, last_state}
use Rattle.c_meaning.specs.Starts.{start_of}
use Rattle.c_meaning.specs.Steps.{next}
use Rattle.path_runner.specs.declared.path.RunEnd.TheVariants as ended
use Rattle.path_runner.specs.Counted.{counts_end}
use Rattle.path_runner.specs.Paths.{end_at, moves_of, path_of, record_of}

-- a path has one more node than edges, and one more mask
abbrev pub PathLengths : Type 0
PathLengths =
    (parts : GraphParts) (input : Input) (p : Predicates) (limit : ℕ) (first : State) → (length (path_of parts input p limit first).nodes ≡ length (path_of parts input p limit first).edges + 1) × (length (path_of parts input p limit first).masks ≡ length (path_of parts input p limit first).edges + 1)

-- the run goes on
abbrev pub GoesOn : Stepped → Type 0
GoesOn (Moved edge to) = Unit {0}
GoesOn (Returned value) = ⊥
GoesOn (Trapped trap) = ⊥
GoesOn Blocked = ⊥
GoesOn TooDeep = ⊥

-- a path is cut exactly where it has as many edges as the limit says, and the run goes on from its last state
abbrev pub CutPaths : Type 0
CutPaths =
    (parts : GraphParts) (input : Input) (p : Predicates) (limit : ℕ) (first : State) → ((path_of parts input p limit first).end ≡ ended.Cut) ↔ ((length (path_of parts input p limit first).edges ≡ limit) × GoesOn (next parts input (last_state first (moves_of parts input limit first))))

-- a path is counted as what comes next of its last state
abbrev pub CountedEnds : Type 0
CountedEnds = (ends : Ends) (stepped : Stepped) → counts_end ends (end_at stepped) ≡ counts ends stepped

-- the path of an input from an entry up to a limit records this run
abbrev pub IsPathOf : GraphParts → Function → Input → Predicates → ℕ → Run → Type 0
IsPathOf parts entry input p limit r = path_of parts input p limit (start_of parts entry input.words) ≡ record_of parts input p r

-- a path whose end is counted records the input's run, and one that isn't cut records it where any end is counted
abbrev pub CountedPaths : Type 0
CountedPaths =
    (parts : GraphParts) (entry : Function) (input : Input) (p : Predicates) (limit : ℕ) (ends : Ends) → IsTrue (counts_end ends (path_of parts input p limit (start_of parts entry input.words)).end) → (r : Run) × IsRun parts entry input ends r × IsPathOf parts entry input p limit r

abbrev pub UncutPaths : Type 0
UncutPaths =
    (parts : GraphParts) (entry : Function) (input : Input) (p : Predicates) (limit : ℕ) → ¬ ((path_of parts input p limit (start_of parts entry input.words)).end ≡ ended.Cut) → (r : Run) × IsRun parts entry input counted.Any r × IsPathOf parts entry input p limit r

-- the run of an input is recorded wherever the limit is no less than its edges, and its end is counted
abbrev pub RecordedRuns : Type 0
RecordedRuns =
    (parts : GraphParts) (entry : Function) (input : Input) (p : Predicates) (limit : ℕ) (ends : Ends) (r : Run) → IsRun parts entry input ends r → length r.moves ≤ limit → IsPathOf parts entry input p limit r × IsTrue (counts_end ends (record_of parts input p r).end)

-- a path that isn't cut is the same at every greater limit
abbrev pub LastingPaths : Type 0
LastingPaths =
    (parts : GraphParts) (input : Input) (p : Predicates) (limit more : ℕ) (first : State) → ¬ ((path_of parts input p limit first).end ≡ ended.Cut) → limit ≤ more → path_of parts input p more first ≡ path_of parts input p limit first
