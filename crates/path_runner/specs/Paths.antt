-- The path of a run.
use Rattle.std.specs.Prelude.{◌≡◌, ℕ, zero, suc, ◌≤◌, List, [], ◌∷◌, map, filter_map, length, Option, Some, None, slice_get}
use Rattle.c_values.specs.declared.kinds.Kind.{Kind}
use Rattle.cfa.specs.declared.parts.Edge.{Edge}
use Rattle.cfa.specs.declared.parts.Function.{Function}
use Rattle.cfa.specs.declared.parts.GraphParts.{GraphParts}
use Rattle.cfa.specs.declared.parts.InputFunction.{InputFunction}
use Rattle.cfa.specs.declared.parts.Operation.{Operation}
use Rattle.cfa.specs.declared.parts.Operation.TheVariants.{Answer}
use Rattle.cfa.specs.declared.state.Predicates.{Predicates}
use Rattle.cfa.specs.declared.state.State.{State}
use Rattle.c_meaning.specs.declared.input.Input.{Input}
use Rattle.c_meaning.specs.declared.stepped.Stepped.{Stepped}
use Rattle.c_meaning.specs.declared.stepped.Stepped.TheVariants.{Moved, Returned, Trapped, Blocked, TooDeep}
use Rattle.c_meaning.specs.Runs.{Move, Run, IsBeginning, last_state, state_at, states_in, states_of}
use Rattle.c_meaning.specs.Steps.{answer_of, next}
use Rattle.path_runner.specs.declared.path.PathRecord.{PathRecord}
use Rattle.path_runner.specs.declared.path.RunEnd.{RunEnd}
use Rattle.path_runner.specs.declared.path.RunEnd.TheVariants as ended
use Rattle.path_runner.specs.Masks.{mask_of}

-- ---- the moves of a run, up to a limit

-- the moves from a state on, where this comes next: as long as the run goes on, and at most so many
abbrev pub moves_by : GraphParts → Input → ℕ → State → Stepped → List Move
moves_by parts input zero s stepped = []
moves_by parts input (suc more) s (Moved edge to) =
    record { edge = edge; source = s; target = to } ∷ moves_by parts input more to (next parts input to)
moves_by parts input (suc more) s _ = []

abbrev pub moves_of : GraphParts → Input → ℕ → State → List Move
moves_of parts input limit first = moves_by parts input limit first (next parts input first)

-- ---- the answers that are read

abbrev pub answer_by : Input → ℕ → Option InputFunction → Option (Kind × ℕ)
answer_by input number None = None
answer_by input number (Some f) = Some (f.result, answer_of input f.result number)

abbrev pub answer_at : GraphParts → Input → ℕ → Operation → Option (Kind × ℕ)
answer_at parts input number (Answer function dest) = answer_by input number (slice_get parts.inputs function)
answer_at parts input number _ = None

abbrev pub answer_on : GraphParts → Input → ℕ → Option Edge → Option (Kind × ℕ)
answer_on parts input number None = None
answer_on parts input number (Some e) = answer_at parts input number e.operation

-- the answer of this number that is read along an edge, with its kind, where one is
abbrev pub answer_along : GraphParts → Input → ℕ → ℕ → Option (Kind × ℕ)
answer_along parts input edge number = answer_on parts input number (slice_get parts.edges edge)

-- what a move reads: its number is how many were read before
abbrev pub answer_read : GraphParts → Input → Move → Option (Kind × ℕ)
answer_read parts input move = answer_along parts input move.edge move.source.taken

-- ---- the path

-- how a run ends, by what would come next: it is cut where it would go on
abbrev pub end_at : Stepped → RunEnd
end_at (Moved edge to) = ended.Cut
end_at (Returned value) = ended.Returned value
end_at (Trapped trap) = ended.Trapped trap
end_at Blocked = ended.Blocked
end_at TooDeep = ended.TooDeep

abbrev pub path_along : GraphParts → Input → Predicates → State → List Move → PathRecord
path_along parts input p first moves = record {
  nodes = map (λ (s : State). s.node) (states_of first moves);
  edges = map (λ (m : Move). m.edge) moves;
  masks = map (mask_of parts p) (states_of first moves);
  taken = filter_map (answer_read parts input) moves;
  end = end_at (next parts input (last_state first moves));
}

-- what is recorded of a run, or of its beginning
abbrev pub record_of : GraphParts → Input → Predicates → Run → PathRecord
record_of parts input p r = path_along parts input p r.first r.moves

-- The path of a run from a state on, up to its end or a limit of edges. Its moves stop before the limit only where the run
-- doesn't go on, so it is cut exactly where it took that many edges and would go on.
unfoldable pub path_of : GraphParts → Input → Predicates → ℕ → State → PathRecord
path_of parts input p limit first = path_along parts input p first (moves_of parts input limit first)

-- A path records the states of an input from an entry up to a limit of edges: all of them, or the first ones where there
-- are more.
pub record RecordsStates (parts : GraphParts) (entry : Function) (input : Input) (p : Predicates) (limit : ℕ) (path : PathRecord) : Type 0 where
  pub run : Run
  pub begins : IsBeginning parts entry input run
  pub states : (n : ℕ) → n ≤ limit → slice_get (states_in run) n ≡ state_at parts entry input n
  pub few : length run.moves ≤ limit
  pub recorded : path ≡ record_of parts input p run
