-- What the edges of a recorded run tell is what happens by the trees.
use Rattle.std.proofs.Common.{◌≡◌, ◌≢◌, ◌⊎◌, ℕ, zero, suc, ◌+◌, ◌-◌, ◌<◌, ◌≤◌, List, [], ◌∷◌, ◌++◌, length, Some, None, refl, sym, ap, subst, ◌∙◌, ⊎_elim, inl, inr, arith, append_assoc}
use Rattle.std.specs.Prelude.{slice_get}
use Rattle.std.proofs.lemmas.List.{length-map}
use Rattle.std.proofs.lemmas.Option.{same_Some}
use Rattle.c_types.specs.Units.{typed_of}
use Rattle.cfa.specs.declared.parts.Function.{Function}
use Rattle.cfa.specs.declared.parts.GraphParts.{GraphParts}
use Rattle.cfa.specs.declared.state.Predicates.{Predicates}
use Rattle.cfa.specs.declared.state.State.{State}
use Rattle.c_meaning.specs.declared.input.Input.{Input}
use Rattle.c_meaning.specs.declared.stepped.Stepped.{Stepped}
use Rattle.c_meaning.specs.declared.stepped.Stepped.TheVariants as next
use Rattle.c_meaning.specs.Runs.{AreMoves, Move, last_state, state_at, state_moved}
use Rattle.c_meaning.specs.Starts.{CanStart, start_of}
use Rattle.c_meaning.specs.Steps.{next as next_of}
use Rattle.path_runner.specs.declared.path.PathRecord.{PathRecord}
use Rattle.path_runner.specs.declared.path.RunEnd.{RunEnd}
use Rattle.path_runner.specs.declared.path.RunEnd.TheVariants as run
use Rattle.path_runner.specs.Paths.{RecordsStates, end_at}
use Rattle.path_runner.proofs.Lengths.{cuts}
use Rattle.path_runner.proofs.Records.{records}
use Rattle.c_typed_trees.specs.declared.unit.Typed.{Typed}
use Rattle.c_typed_trees.specs.declared.unit.TypedFunction.{TypedFunction}
use Rattle.c_lower_rules.specs.graph_of.GraphOf.{graph_of, function_of, functions_from}
use Rattle.tree_events.specs.declared.edge_events.event.Event.{Event}
use Rattle.tree_meaning.specs.declared.ends.TreeEnd.{TreeEnd}
use Rattle.tree_meaning.specs.declared.ends.TreeEnd.TheVariants as tree
use Rattle.tree_meaning.specs.Ends.{tree_end}
use Rattle.tree_meaning.specs.Running.{FitUnit}
use Rattle.tree_events.specs.Runs.{told_end, tree_events}
use Rattle.tree_events.proofs.ErasesTrees.{ends_are_those}
use Rattle.tree_events.proofs.GrowTrees.{more_turns_tell_more}
use Rattle.tree_events_laws.specs.expression_events.Follows.{tells}
use Rattle.tree_meaning_laws.proofs.expression_laws.Follows.{no_later, one_end}
use Rattle.tree_meaning_laws.specs.tree_laws.Laws.{IsMade, IsNext}
use Rattle.tree_events_laws.specs.event_laws.Laws.{Tells}
use Rattle.tree_events_laws.proofs.event_laws.Law.{edges_tell, ended_edges_tell, trees_are_told}
use Rattle.tree_events_laws.proofs.event_laws.Units.{unit_made}
use Rattle.measurer_laws.specs.path_events.Laws.{Agrees, BeginsWith, EndsWith, HappensBy, IsEndOf, RecordsTell, UnitRecordsTell, all_tell, record_in}
use Rattle.measurer_laws.proofs.path_events.Moves.{edges_of, last_there, long, tells_along}

-- ---- ends

-- what comes next of the last state, as the end is recorded
recorded : (e : TreeEnd) (x : Stepped) → IsNext e x → IsEndOf e (end_at x)
recorded (tree.Returned value) x is = ap end_at is
recorded (tree.Trapped trap) x is = ap end_at is
recorded tree.Blocked x is = ap end_at is
recorded tree.TooDeep x is = ap end_at is
recorded tree.OutOfTurns x is = absurd is

over_at : (e : TreeEnd) (x : Stepped) → IsNext e x → state_moved x ≡ None
over_at (tree.Returned value) x is = ap state_moved is
over_at (tree.Trapped trap) x is = ap state_moved is
over_at tree.Blocked x is = ap state_moved is
over_at tree.TooDeep x is = ap state_moved is
over_at tree.OutOfTurns x is = absurd is

is_out : (e : TreeEnd) → (e ≡ tree.OutOfTurns) ⊎ (e ≢ tree.OutOfTurns)
is_out (tree.Returned value) = inr (λ e. absurd cc)
is_out (tree.Trapped trap) = inr (λ e. absurd cc)
is_out tree.Blocked = inr (λ e. absurd cc)
is_out tree.TooDeep = inr (λ e. absurd cc)
is_out tree.OutOfTurns = inl refl

module _ (t : Typed) (files : List (List ℕ)) (entry : ℕ) (f : TypedFunction) (input : Input) (p : Predicates) (steps : ℕ)
    (made : IsMade t (length files)) (there : slice_get t.functions entry ≡ Some f) (starts : CanStart (function_of entry f) input.words) where
  abbrev parts : GraphParts
  parts = graph_of t files

  abbrev path : PathRecord
  path = record_in parts (function_of entry f) p steps input

  abbrev kept : RecordsStates parts (function_of entry f) input p steps path
  kept = records parts (function_of entry f) input p steps

  abbrev moves : List Move
  moves = kept.run.moves

  abbrev first : State
  first = start_of parts (function_of entry f) input.words

  abbrev last : State
  last = last_state first moves

  begins : AreMoves parts input first moves
  begins = subst (λ (s : State). AreMoves parts input s moves) kept.begins.start kept.begins.moves

  abbrev count : ℕ
  count = length moves

  abbrev es : List Event
  es = all_tell parts path.edges

  reaches : state_at parts (function_of entry f) input count ≡ Some last
  reaches = last_there parts input first moves begins

  edges_are : path.edges ≡ edges_of moves
  edges_are = ap (λ (q : PathRecord). q.edges) kept.recorded

  tell_all : tells parts input count first ≡ es
  tell_all = tells_along parts input first moves begins ∙ ap (all_tell parts) (sym edges_are)

  end_is : path.end ≡ end_at (next_of parts input last)
  end_is = ap (λ (q : PathRecord). q.end) kept.recorded ∙ ap (λ (s : State). end_at (next_of parts input (last_state s moves))) kept.begins.start

  -- ---- where the run ends

  module _ (over : state_moved (next_of parts input last) ≡ None) where
    all_happens : (more : ℕ) → tree_events t entry input (steps + 1 + more) ≡ es
    all_happens more =
        let few = kept.few in
        let sum : count + 1 + (steps - count + more) ≡ steps + 1 + more = omega (arith, few) in
        ap (λ n. tree_events t entry input n) (sym sum) ∙ ended_edges_tell t files entry f input count last (steps - count + more) made there starts reaches over ∙ tell_all

    told_so : (turns : ℕ) → steps < turns → IsEndOf (told_end t entry input turns) path.end
    told_so turns enough = ⊎_elim
        (λ out. let least = told.enough out in let few = kept.few in absurd (not_past least few))
        (λ some. let is = told.last some in
        let same = one_end parts input told.moves count first told.to last told.path (over_at (told_end t entry input turns) (next_of parts input told.to) is) reaches over in
        subst (λ (end : RunEnd). IsEndOf (told_end t entry input turns) end) (ap (λ (s : State). end_at (next_of parts input s)) same ∙ sym end_is) (recorded (told_end t entry input turns) (next_of parts input told.to) is))
        (is_out (told_end t entry input turns))
      where
        told : Tells t files entry f input turns
        told = trees_are_told t files entry f input turns made there starts

        not_past : turns ≤ told.moves → count ≤ steps → ⊥
        not_past least few = no_later parts input count told.moves first last told.to reaches over told.path (omega (arith, least, few, enough))

    ends_so : (more : ℕ) → IsEndOf (tree_end t entry input (steps + 1 + more)) path.end
    ends_so more =
        let fits : FitUnit t = record { files = length files; fits = made.fitting } in
        subst (λ (e : TreeEnd). IsEndOf e path.end) (ends_are_those t entry input (steps + 1 + more) fits) (told_so (steps + 1 + more) (omega arith))

    ended : EndsWith t entry input steps path.end es
    ended = record { ends = ends_so; happens = all_happens }

  -- ---- where it is cut

  module _ (cut : path.end ≡ run.Cut) where
    taken : count ≡ steps
    taken =
        let taken_by = (cuts parts input p steps first).0 cut in
        sym (length-map moves (λ (m : Move). m.edge)) ∙ sym (ap length edges_are) ∙ taken_by.0

    begun : BeginsWith t entry input steps path.end es
    begun = record {
      long = let least = long parts input first moves begins in let same = ap (λ (xs : List ℕ). length (all_tell parts xs)) edges_are in omega (arith, least, same, taken);
      happens = λ more.
          let one = edges_tell t files entry f input count last made there starts reaches in
          let grown = more_turns_tell_more t entry input steps more in (
            one.0 ++ grown.0,
            grown.1 ∙ ap (λ (xs : List Event). xs ++ grown.0) (ap (λ n. tree_events t entry input n) (sym taken) ∙ one.1 ∙ ap (λ (xs : List Event). xs ++ one.0) tell_all) ∙ append_assoc es one.0 grown.0,
          );
    }

  agrees : Agrees t parts entry (function_of entry f) p steps input
  agrees = by (next_of parts input last) refl
    where
      at : (end : RunEnd) → path.end ≡ end → HappensBy t entry input steps end es → Agrees t parts entry (function_of entry f) p steps input
      at end is h = subst (λ (q : RunEnd). HappensBy t entry input steps q es) (sym is) h

      all : (end : RunEnd) → path.end ≡ end → state_moved (next_of parts input last) ≡ None → EndsWith t entry input steps end es
      all end is over = subst (λ (q : RunEnd). EndsWith t entry input steps q es) is (ended over)

      by : (x : Stepped) → next_of parts input last ≡ x → Agrees t parts entry (function_of entry f) p steps input
      by (next.Moved edge to) x = let is = end_is ∙ ap end_at x in at run.Cut is (subst (λ (q : RunEnd). BeginsWith t entry input steps q es) is (begun is))
      by (next.Returned value) x = let is = end_is ∙ ap end_at x in at (run.Returned value) is (all (run.Returned value) is (ap state_moved x))
      by (next.Trapped trap) x = let is = end_is ∙ ap end_at x in at (run.Trapped trap) is (all (run.Trapped trap) is (ap state_moved x))
      by next.Blocked x = let is = end_is ∙ ap end_at x in at run.Blocked is (all run.Blocked is (ap state_moved x))
      by next.TooDeep x = let is = end_is ∙ ap end_at x in at run.TooDeep is (all run.TooDeep is (ap state_moved x))

pub records_tell : RecordsTell
records_tell t files entry f input p steps made there starts = agrees t files entry f input p steps made there starts

-- which function of the unit a function of the automaton is
function_from : (i : ℕ) (fs : List TypedFunction) (k : ℕ) (g : Function) → slice_get (functions_from i fs) k ≡ Some g → (f : TypedFunction) × (slice_get fs k ≡ Some f) × (g ≡ function_of (i + k) f)
function_from i [] k g is = absurd (cc)
function_from i (f ∷ fs) zero g is = let e : i ≡ i + 0 = omega arith in (f, refl, sym (same_Some (function_of i f) g is) ∙ ap (λ j. function_of j f) e)
function_from i (f ∷ fs) (suc k) g is =
    let r = function_from (i + 1) fs k g is in
    let e : i + 1 + k ≡ i + suc k = omega arith in
    (r.0, r.1, r.2 ∙ ap (λ j. function_of j r.0) e)

function_there : (t : Typed) (files : List (List ℕ)) (entry : ℕ) (g : Function) → slice_get (graph_of t files).functions entry ≡ Some g
    → (f : TypedFunction) × (slice_get t.functions entry ≡ Some f) × (g ≡ function_of entry f)
unfolding graph_of
function_there t files entry g there =
    let found = function_from 0 t.functions entry g there in
    let sum : 0 + entry ≡ entry = omega arith in
    (found.0, found.1, found.2 ∙ ap (λ n. function_of n found.0) sum)

pub unit_records_tell : UnitRecordsTell
unit_records_tell texts tokens items files entry g input p steps lexed derived none long there starts =
    let found = function_there (typed_of items) files entry g there in
    subst (λ (h : Function). Agrees (typed_of items) (graph_of (typed_of items) files) entry h p steps input) (sym found.2)
    (records_tell (typed_of items) files entry found.0 input p steps (unit_made texts tokens items files lexed derived none long) found.1
    (subst (λ (h : Function). CanStart h input.words) found.2 starts))
