-- What follows for the ends of runs from bounds that inputs don't leave, and from goals that no input hits.
use Rattle.std.specs.Prelude.{◌≡◌, ◌≢◌, ℕ, ◌<◌, ◌≤◌, true, false, List, [], length, Option, Some, None, IsTrue, slice_get}
use Rattle.cfa.specs.Contexts.{Pair}
use Rattle.cfa.specs.Graph.{IsGraph}
use Rattle.cfa.specs.declared.parts.Function.{Function}
use Rattle.cfa.specs.declared.parts.GraphParts.{GraphParts}
use Rattle.cfa.specs.declared.state.Predicates.{Predicates}
use Rattle.cfa.specs.declared.state.Trap.{Trap}
use Rattle.c_meaning.specs.Pairs.{IsRunWithin}
use Rattle.c_meaning.specs.Runs.{IsBeginning, Run, counts}
use Rattle.c_meaning.specs.Starts.{CanStart}
use Rattle.c_meaning.specs.declared.ends.Ends.{Ends}
use Rattle.c_meaning.specs.declared.ends.Ends.TheVariants as counted
use Rattle.c_meaning.specs.declared.input.Input.{Input}
use Rattle.c_meaning.specs.declared.stepped.Stepped.{Stepped}
use Rattle.c_meaning.specs.declared.stepped.Stepped.TheVariants.{Returned, Trapped}
use Rattle.unwinder_reach.specs.reached.Reaching.{AreReached}
use Rattle.unwinder_reach.specs.declared.reached.bounds.Bounds.{Bounds}
use Rattle.unwinder_reach.specs.declared.reached.step.Step.{Step}
use Rattle.goals.specs.applied_clauses.Applied.{base_of}
use Rattle.filters.specs.Kept.{kept_by}
use Rattle.fql_read.specs.declared.cover.CoverTree.TheVariants as cover
use Rattle.fql_read.specs.declared.cover.Split.{Split}
use Rattle.fql_read.specs.declared.filter.FilterForm.TheVariants as filter
use Rattle.fql_read.specs.declared.query.Query.{Query}
use Rattle.goals.specs.Plans.{cover_tree, passing_tree, plan_with}
use Rattle.goals.specs.declared.plan.Plan.{Plan}
use Rattle.measurer_hits.specs.run_laws.Ends.{EndsIn}
use Rattle.measurer_hits.specs.run_laws.Laws.{IsGiven}
use Rattle.measurer_hits.specs.run_laws.Leaving.{LeavesBounds}
use Rattle.bounds_check_laws.specs.ending_laws.Asking.{AsksForEachEnd, EndsAreRefuted, IsLedTo}
use Rattle.bounds_check_laws.specs.ending_laws.Ends.{EndsSoon}

-- ---- within bounds

-- a beginning of an input's run that is within bounds has fewer edges than there are pairs that are reached within them
abbrev pub BoundedRunsAreShort : Type 0
BoundedRunsAreShort =
    (parts : GraphParts) (k : ℕ) (entry : Function) (bounds : Bounds) (pairs : List Pair) (steps : List (List Step)) (input : Input) (r : Run) →
    IsGraph parts → slice_get parts.functions k ≡ Some entry → CanStart entry input.words → AreReached parts bounds entry pairs steps →
    IsBeginning parts entry input r → IsRunWithin bounds.turns bounds.frames bounds.answers parts entry r → length r.moves < length pairs

-- so the states of an input that doesn't leave the bounds end, after fewer edges than that
abbrev pub StayingInputsEnd : Type 0
StayingInputsEnd =
    (parts : GraphParts) (k : ℕ) (entry : Function) (bounds : Bounds) (pairs : List Pair) (steps : List (List Step)) (input : Input) →
    IsGraph parts → slice_get parts.functions k ≡ Some entry → CanStart entry input.words → AreReached parts bounds entry pairs steps →
    ¬ LeavesBounds bounds.turns bounds.frames bounds.answers parts entry input → (end : Stepped) × EndsSoon parts entry input (length pairs) end

-- and after fewer than 50,000 edges, where no more pairs than this are reached
abbrev pub StayingInputsEndSoon : Type 0
StayingInputsEndSoon =
    (parts : GraphParts) (k : ℕ) (entry : Function) (bounds : Bounds) (pairs : List Pair) (steps : List (List Step)) (input : Input) →
    IsGraph parts → slice_get parts.functions k ≡ Some entry → CanStart entry input.words → AreReached parts bounds entry pairs steps → length pairs ≤ 50000 →
    ¬ LeavesBounds bounds.turns bounds.frames bounds.answers parts entry input → (end : Stepped) × EndsSoon parts entry input 50000 end

-- ---- plans that ask for ends

-- A plan asks for each end where its query has one clause, `cover NODES(..)$`, whose filter keeps each node that control can come to
-- but the entry's exit.
abbrev pub KeptNodesAsk : Type 0
KeptNodesAsk =
    (parts : GraphParts) (k : ℕ) (entry : Function) (q : Query) (s : Split) →
    IsGraph parts → slice_get parts.functions k ≡ Some entry →
    q.cover.first ≡ false → q.cover.last ≡ true → q.passing ≡ None → q.cover.body ≡ cover.Nodes s → s.predicates ≡ [] →
    ((node : ℕ) → IsLedTo parts entry node → node ≢ entry.exit → (kept_by parts s.filter (base_of parts q.base)).node node ≡ true) →
    AsksForEachEnd parts entry (plan_with q (cover_tree parts q) (passing_tree parts q))

-- `cover NODES(ID)$` asks for each end
abbrev pub AllNodesAsk : Type 0
AllNodesAsk =
    (parts : GraphParts) (k : ℕ) (entry : Function) (q : Query) (s : Split) →
    IsGraph parts → slice_get parts.functions k ≡ Some entry →
    q.cover.first ≡ false → q.cover.last ≡ true → q.passing ≡ None → q.base ≡ None → q.cover.body ≡ cover.Nodes s → s.predicates ≡ [] → s.filter.form ≡ filter.Id →
    AsksForEachEnd parts entry (plan_with q (cover_tree parts q) (passing_tree parts q))

-- ---- without limit

-- where each other end is refuted, the states of an input that end in a way that is counted end in a return
abbrev pub CountedEndsReturn : Type 0
CountedEndsReturn =
    (turns frames answers : ℕ) (parts : GraphParts) (k : ℕ) (entry : Function) (p : Predicates) (plan : Plan) (ends : Ends) →
    IsGraph parts → slice_get parts.functions k ≡ Some entry → EndsAreRefuted turns frames answers parts entry p plan ends →
    (input : Input) → IsGiven entry input → (end : Stepped) → EndsIn parts entry input end → IsTrue (counts ends end) → (value : Option ℕ) × (end ≡ Returned value)

-- so where traps are counted, no input's states end in a trap
abbrev pub NoRunTimeError : Type 0
NoRunTimeError =
    (turns frames answers : ℕ) (parts : GraphParts) (k : ℕ) (entry : Function) (p : Predicates) (plan : Plan) →
    IsGraph parts → slice_get parts.functions k ≡ Some entry → EndsAreRefuted turns frames answers parts entry p plan counted.Trapped →
    (input : Input) → IsGiven entry input → (trap : Trap) → ¬ EndsIn parts entry input (Trapped trap)

-- and where any end is counted, every input's states end in a return, after fewer than 50,000 edges
abbrev pub EachRunReturns : Type 0
EachRunReturns =
    (parts : GraphParts) (k : ℕ) (entry : Function) (bounds : Bounds) (pairs : List Pair) (steps : List (List Step)) (p : Predicates) (plan : Plan) →
    IsGraph parts → slice_get parts.functions k ≡ Some entry → AreReached parts bounds entry pairs steps → length pairs ≤ 50000 →
    EndsAreRefuted bounds.turns bounds.frames bounds.answers parts entry p plan counted.Any →
    (input : Input) → IsGiven entry input → (value : Option ℕ) × EndsSoon parts entry input 50000 (Returned value)
