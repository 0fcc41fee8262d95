-- What follows from the definitions of runs, their ends and bounds.
use Rattle.std.specs.Prelude.{◌≡◌, ◌↔◌, ℕ, ◌+◌, ◌<◌, ◌≤◌, ◌%◌, ◌^◌, false, All, List, length, map, Some, None, IsTrue, option_and_then, slice_get, slice_index}
use Rattle.c_values.specs.Kind.{IsKind}
use Rattle.c_values.specs.declared.kinds.Kind.{Kind}
use Rattle.cfa.specs.Graph.{IsGraph}
use Rattle.cfa.specs.declared.parts.Function.{Function}
use Rattle.cfa.specs.declared.parts.GraphParts.{GraphParts}
use Rattle.cfa.specs.declared.state.Predicates.{Predicates}
use Rattle.cfa.specs.declared.state.State.{State}
use Rattle.c_meaning.specs.Pairs.{IsLongestWithin, IsRunWithin}
use Rattle.c_meaning.specs.Runs.{Run, IsBeginning, IsRun, counts, last_in, state_from, state_moved, states_in}
use Rattle.c_meaning.specs.Starts.{CanStart, fitted, fitted_words, start_of}
use Rattle.c_meaning.specs.Steps.{next}
use Rattle.c_meaning.specs.declared.ends.Ends.{Ends}
use Rattle.c_meaning.specs.declared.ends.Ends.TheVariants as counted
use Rattle.c_meaning.specs.declared.input.Input.{Input}
use Rattle.c_meaning.specs.declared.stepped.Stepped.{Stepped}
use Rattle.c_meaning.specs.declared.stepped.Stepped.TheVariants.{Moved}
use Rattle.path_runner.specs.Counted.{counts_end}
use Rattle.path_runner.specs.Paths.{end_at, path_of, record_of}
use Rattle.goals.specs.GoalForm.{GoalForm}
use Rattle.goals.specs.declared.plan.Plan.{Plan}
use Rattle.measurer_hits.specs.hits.Inputs.{InputHits, InputHitsWithin}
use Rattle.measurer_hits.specs.run_laws.Alike.{AnswerAlike, AreAlike, WordsAlike}
use Rattle.measurer_hits.specs.run_laws.Ends.{EndsFrom, EndsIn}
use Rattle.measurer_hits.specs.run_laws.Leaving.{LeavesBounds}
use Rattle.measurer_hits.specs.run_laws.Traces.{RunsAlong}

-- ---- the sequence of states

-- state n + m from a state is state m from its state n, where there is one
abbrev pub StatesCompose : Type 0
StatesCompose =
    (parts : GraphParts) (input : Input) (s : State) (n m : ℕ) → state_from parts input s (n + m) ≡ option_and_then (λ (t : State). state_from parts input t m) (state_from parts input s n)

-- ---- ends

-- the sequence from a state ends in one way at most
abbrev pub OneEnd : Type 0
OneEnd = (parts : GraphParts) (input : Input) (s : State) (a b : Stepped) → EndsFrom parts input s a → EndsFrom parts input s b → a ≡ b

-- it ends as the sequence from each of its states does
abbrev pub EndsCompose : Type 0
EndsCompose =
    (parts : GraphParts) (input : Input) (s t : State) (n : ℕ) (end : Stepped) → state_from parts input s n ≡ Some t → EndsFrom parts input s end ↔ EndsFrom parts input t end

-- so it ends as that from the next state does, where the run goes on, and else in what comes next
abbrev pub EndsOn : Type 0
EndsOn =
    (parts : GraphParts) (input : Input) (s to : State) (at : ℕ) (end : Stepped) → next parts input s ≡ Moved at to → EndsFrom parts input s end ↔ EndsFrom parts input to end

abbrev pub EndsHere : Type 0
EndsHere =
    (parts : GraphParts) (input : Input) (s : State) (end : Stepped) → state_moved (next parts input s) ≡ None → EndsFrom parts input s end ↔ (next parts input s ≡ end)

-- a run ends in what comes next of its last state, and that is counted
abbrev pub RunsEnd : Type 0
RunsEnd =
    (parts : GraphParts) (entry : Function) (input : Input) (ends : Ends) (r : Run) → IsRun parts entry input ends r → EndsIn parts entry input (next parts input (last_in r)) × IsTrue (counts ends (next parts input (last_in r)))

-- where the states end so, and that is counted, the input has a run, and this is what comes next of its last state
abbrev pub EndsAreRuns : Type 0
EndsAreRuns =
    (parts : GraphParts) (entry : Function) (input : Input) (ends : Ends) (end : Stepped) → EndsIn parts entry input end → IsTrue (counts ends end) → (r : Run) × IsRun parts entry input ends r × (next parts input (last_in r) ≡ end)

-- ---- edges

-- a run goes along these edges exactly where the path up to as many edges does, and its end is counted
abbrev pub PathsAlong : Type 0
PathsAlong =
    (parts : GraphParts) (entry : Function) (input : Input) (p : Predicates) (ends : Ends) (edges : List ℕ) →
    RunsAlong parts entry input ends edges
    ↔ (((path_of parts input p (length edges) (start_of parts entry input.words)).edges ≡ edges) × IsTrue (counts_end ends (path_of parts input p (length edges) (start_of parts entry input.words)).end))

-- and then that path records the run
abbrev pub RecordsAlong : Type 0
RecordsAlong =
    (parts : GraphParts) (entry : Function) (input : Input) (p : Predicates) (ends : Ends) (edges : List ℕ) (h : RunsAlong parts entry input ends edges) →
    path_of parts input p (length edges) (start_of parts entry input.words) ≡ record_of parts input p h.run

-- an input runs along one list of edges at most, whatever ends count
abbrev pub OneTrace : Type 0
OneTrace =
    (parts : GraphParts) (entry : Function) (input : Input) (ends other : Ends) (edges more : List ℕ) → RunsAlong parts entry input ends edges → RunsAlong parts entry input other more → edges ≡ more

-- ---- bounds

-- of the longest beginning within the bounds, the run goes on exactly where the input leaves them
abbrev pub LongestLeaves : Type 0
LongestLeaves =
    (turns frames answers : ℕ) (parts : GraphParts) (entry : Function) (input : Input) (r : Run) → IsLongestWithin turns frames answers parts entry input r → LeavesBounds turns frames answers parts entry input ↔ (counts counted.Any (next parts input (last_in r)) ≡ false)

-- and exactly there it goes on from each state of that beginning
abbrev pub NoneEnds : Type 0
NoneEnds =
    (turns frames answers : ℕ) (parts : GraphParts) (entry : Function) (input : Input) (r : Run) → IsLongestWithin turns frames answers parts entry input r → LeavesBounds turns frames answers parts entry input ↔ All (λ s. counts counted.Any (next parts input s) ≡ false) (states_in r)

-- a run isn't within the bounds exactly where its input leaves them
abbrev pub RunsLeave : Type 0
RunsLeave =
    (turns frames answers : ℕ) (parts : GraphParts) (entry : Function) (input : Input) (ends : Ends) (r : Run) → IsRun parts entry input ends r → LeavesBounds turns frames answers parts entry input ↔ (¬ IsRunWithin turns frames answers parts entry r)

-- and each run of one that doesn't is within them
abbrev pub RunsStay : Type 0
RunsStay =
    (turns frames answers : ℕ) (parts : GraphParts) (entry : Function) (input : Input) (ends : Ends) (r : Run) → ¬ LeavesBounds turns frames answers parts entry input → IsRun parts entry input ends r → IsRunWithin turns frames answers parts entry r

-- an input that doesn't leave the bounds, and hits a goal, hits it within them
abbrev pub HitsStay : Type 0
HitsStay =
    (turns frames answers : ℕ) (parts : GraphParts) (entry : Function) (p : Predicates) (plan : Plan) (ends : Ends) (goal : GoalForm) (input : Input) → ¬ LeavesBounds turns frames answers parts entry input → InputHits parts entry p plan ends goal input → InputHitsWithin parts entry p plan ends turns frames answers goal input

-- one word for each parameter, and any number of answers, each of 64 bits
abbrev pub IsGiven : Function → Input → Type 0
IsGiven entry input = CanStart entry input.words × All (λ n. n < 2 ^ 64) input.answers

-- where no input leaves the bounds, and none hits a goal within them, none hits it at all
abbrev pub NoneHitsAtAll : Type 0
NoneHitsAtAll =
    (turns frames answers : ℕ) (parts : GraphParts) (entry : Function) (p : Predicates) (plan : Plan) (ends : Ends) (goal : GoalForm) →
    ((input : Input) → IsGiven entry input → ¬ LeavesBounds turns frames answers parts entry input) →
    ((input : Input) → IsGiven entry input → ¬ InputHitsWithin parts entry p plan ends turns frames answers goal input) →
    (input : Input) → IsGiven entry input → ¬ InputHits parts entry p plan ends goal input

-- ---- inputs between which a run makes no difference

-- words that are the same values of the parameters' kinds begin a run in one state
abbrev pub WordsStart : Type 0
WordsStart =
    (parts : GraphParts) (entry : Function) (x y : Input) → WordsAlike entry x y → start_of parts entry x.words ≡ start_of parts entry y.words

-- where the answer that would be taken next is alike, so is what comes next
abbrev pub AlikeNexts : Type 0
AlikeNexts = (parts : GraphParts) (x y : Input) (s : State) → AnswerAlike parts x y s.taken → next parts x s ≡ next parts y s

-- whatever the answers, a run goes on along the same edge, or ends in the same way
abbrev pub SameEdges : Type 0
SameEdges =
    (parts : GraphParts) (x y : Input) (s to : State) (at : ℕ) → next parts x s ≡ Moved at to → (other : State) × (next parts y s ≡ Moved at other)

abbrev pub SameEnds : Type 0
SameEnds = (parts : GraphParts) (x y : Input) (s : State) → end_at (next parts x s) ≡ end_at (next parts y s)

-- inputs that are alike for a beginning have it both
abbrev pub AlikeBeginnings : Type 0
AlikeBeginnings =
    (parts : GraphParts) (entry : Function) (x y : Input) (r : Run) → AreAlike parts entry x y r → IsBeginning parts entry x r → IsBeginning parts entry y r

-- and one record of it
abbrev pub AlikeRecords : Type 0
AlikeRecords =
    (parts : GraphParts) (entry : Function) (x y : Input) (p : Predicates) (r : Run) → AreAlike parts entry x y r → record_of parts x p r ≡ record_of parts y p r

-- those that are alike for a run, or for the longest beginning within bounds, have it both
abbrev pub AlikeRuns : Type 0
AlikeRuns =
    (parts : GraphParts) (entry : Function) (x y : Input) (ends : Ends) (r : Run) → AreAlike parts entry x y r → IsRun parts entry x ends r → IsRun parts entry y ends r

abbrev pub AlikeLongest : Type 0
AlikeLongest =
    (turns frames answers : ℕ) (parts : GraphParts) (entry : Function) (x y : Input) (r : Run) → AreAlike parts entry x y r → IsLongestWithin turns frames answers parts entry x r → IsLongestWithin turns frames answers parts entry y r

-- and hit the same goals
abbrev pub AlikeHits : Type 0
AlikeHits =
    (parts : GraphParts) (entry : Function) (p : Predicates) (plan : Plan) (ends : Ends) (goal : GoalForm) (x y : Input) (h : InputHits parts entry p plan ends goal x) → AreAlike parts entry x y h.run → InputHits parts entry p plan ends goal y

-- being alike is mutual
abbrev pub AlikeBack : Type 0
AlikeBack =
    (parts : GraphParts) (entry : Function) (x y : Input) (r : Run) → AreAlike parts entry x y r → AreAlike parts entry y x r

-- ---- when inputs are alike

-- Words of the same values, and answers that are alike as far as a beginning takes them, make no difference for it.
abbrev pub AlikeByNumbers : Type 0
AlikeByNumbers =
    (parts : GraphParts) (entry : Function) (x y : Input) (r : Run) → IsBeginning parts entry x r → WordsAlike entry x y → ((n : ℕ) → n < (last_in r).taken → AnswerAlike parts x y n) → AreAlike parts entry x y r

-- So inputs with equal words, whose answers are equal as far as a beginning takes them, have the same moves and record.
abbrev pub AnswersAlike : Type 0
AnswersAlike =
    (parts : GraphParts) (entry : Function) (x y : Input) (p : Predicates) (r : Run) → IsBeginning parts entry x r → x.words ≡ y.words → ((n : ℕ) → n < (last_in r).taken → slice_index x.answers n ≡ slice_index y.answers n) → IsBeginning parts entry y r × (record_of parts x p r ≡ record_of parts y p r)

-- The words as values of the parameters' kinds, and exactly the answers that a beginning reads, as it reads them, make no
-- difference for it.
abbrev pub TakenAlike : Type 0
TakenAlike =
    (parts : GraphParts) (entry : Function) (x y : Input) (p : Predicates) (r : Run) → IsGraph parts → IsBeginning parts entry x r → WordsAlike entry x y → y.answers ≡ map (λ (taken : Kind × ℕ). taken.1) (record_of parts x p r).taken → AreAlike parts entry x y r

-- a beginning within bounds takes no more answers than they have
abbrev pub TakenWithin : Type 0
TakenWithin =
    (turns frames answers : ℕ) (parts : GraphParts) (k : ℕ) (entry : Function) (input : Input) (r : Run) → IsGraph parts → slice_get parts.functions k ≡ Some entry → CanStart entry input.words → IsBeginning parts entry input r → IsRunWithin turns frames answers parts entry r → (last_in r).taken ≤ answers

-- So inputs whose words are the same values, and whose answers are alike as far as the bounds have answers, hit the same
-- goals within them.
abbrev pub FittedWords : Type 0
FittedWords =
    (turns frames answers : ℕ) (parts : GraphParts) (k : ℕ) (entry : Function) (p : Predicates) (plan : Plan) (ends : Ends) (goal : GoalForm) (x y : Input) →
    IsGraph parts → slice_get parts.functions k ≡ Some entry → CanStart entry x.words → WordsAlike entry x y → ((n : ℕ) → n < answers → AnswerAlike parts x y n) →
    InputHitsWithin parts entry p plan ends turns frames answers goal x → InputHitsWithin parts entry p plan ends turns frames answers goal y

-- and have the same longest beginning within them
abbrev pub FittedLongest : Type 0
FittedLongest =
    (turns frames answers : ℕ) (parts : GraphParts) (k : ℕ) (entry : Function) (x y : Input) (r : Run) →
    IsGraph parts → slice_get parts.functions k ≡ Some entry → CanStart entry x.words → WordsAlike entry x y → ((n : ℕ) → n < answers → AnswerAlike parts x y n) →
    IsLongestWithin turns frames answers parts entry x r → IsLongestWithin turns frames answers parts entry y r

-- ---- words of a kind

-- words that are equal modulo 2 ^ 64 are the same value of each kind
abbrev pub EqualModulo : Type 0
EqualModulo = (kind : Kind) (a b : ℕ) → IsKind kind → a % 2 ^ 64 ≡ b % 2 ^ 64 → fitted kind a ≡ fitted kind b

-- exactly those that are equal modulo 2 to the kind's width are the same value of it
abbrev pub SameValue : Type 0
SameValue = (kind : Kind) (a b : ℕ) → IsKind kind → (fitted kind a ≡ fitted kind b) ↔ (a % 2 ^ kind.width ≡ b % 2 ^ kind.width)

-- so of the words that are one value of a kind, the least is what is left modulo 2 to the width
abbrev pub LeastWord : Type 0
LeastWord =
    (kind : Kind) (word : ℕ) → IsKind kind → (fitted kind (word % 2 ^ kind.width) ≡ fitted kind word) × ((other : ℕ) → fitted kind other ≡ fitted kind word → word % 2 ^ kind.width ≤ other)

-- words as values of the parameters' kinds are these values
abbrev pub FittedTwice : Type 0
FittedTwice =
    (parts : GraphParts) (k : ℕ) (f : Function) (words : List ℕ) → IsGraph parts → slice_get parts.functions k ≡ Some f → fitted_words (fitted_words words f.parameters) f.parameters ≡ fitted_words words f.parameters
