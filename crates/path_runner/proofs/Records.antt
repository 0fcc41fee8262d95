-- Paths, as records of runs.
use Rattle.std.proofs.Common.{◌≡◌, ℕ, zero, suc, ◌≤◌, List, [], ◌∷◌, Some, None, length, refl, sym, ap, subst, ◌∙◌, arith}
use Rattle.std.specs.Prelude.{Option, Result, Ok, Err, IfOk, IsTrue, slice_get}
use Rattle.std.specs.Option.{IsSomeAnd}
use Rattle.cfa.specs.declared.parts.Function.{Function}
use Rattle.cfa.specs.declared.parts.GraphParts.{GraphParts}
use Rattle.cfa.specs.declared.state.Predicates.{Predicates}
use Rattle.cfa.specs.declared.state.State.{State}
use Rattle.c_meaning.specs.declared.ends.Ends.{Ends}
use Rattle.c_meaning.specs.declared.ends.Ends.TheVariants as counted
use Rattle.c_meaning.specs.declared.input.Input.{Input}
use Rattle.c_meaning.specs.declared.stepped.Stepped.{Stepped}
use Rattle.c_meaning.specs.declared.stepped.Stepped.TheVariants.{Moved, Returned, Trapped, Blocked, TooDeep}
use Rattle.c_meaning.specs.Runs.{Move, Run, AreMoves, IsBeginning, IsRun, last_in, last_state, state_from, state_moved, states_of}
use Rattle.c_meaning.specs.Starts.{start_of}
use Rattle.c_meaning.specs.Steps.{next}
use Rattle.c_meaning.proofs.RunLaws.{counted_over, runs_by_ends, same_move, state_from_moved, state_from_over}
use Rattle.path_runner.specs.declared.path.PathRecord.{PathRecord}
use Rattle.path_runner.specs.declared.path.RunEnd.{RunEnd}
use Rattle.path_runner.specs.declared.path.RunEnd.TheVariants as ended
use Rattle.path_runner.specs.Counted.{counts_end}
use Rattle.path_runner.specs.Laws.{CountedEnds, CountedPaths, IsPathOf, LastingPaths, RecordedRuns, UncutPaths}
use Rattle.path_runner.specs.Paths.{RecordsStates, end_at, moves_by, moves_of, path_along, path_of}

-- ---- ends

pub ends_counted : CountedEnds
ends_counted ends (Moved edge to) = refl
ends_counted ends (Returned value) = refl
ends_counted ends (Trapped trap) = refl
ends_counted ends Blocked = refl
ends_counted ends TooDeep = refl

any_counted : (end : RunEnd) → ¬ (end ≡ ended.Cut) → IsTrue (counts_end counted.Any end)
any_counted (ended.Returned value) h = refl
any_counted (ended.Trapped trap) h = refl
any_counted ended.Blocked h = refl
any_counted ended.TooDeep h = refl
any_counted ended.Cut h = absurd (h refl)

-- ---- the moves up to a limit

module _ (parts : GraphParts) (input : Input) where
  moves_are : (limit : ℕ) (s : State) (x : Stepped) → next parts input s ≡ x → AreMoves parts input s (moves_by parts input limit s x)
  moves_are zero s x is = tt
  moves_are (suc n) s (Moved edge to) is = (refl, is, moves_are n to (next parts input to) refl)
  moves_are (suc n) s (Returned value) is = tt
  moves_are (suc n) s (Trapped trap) is = tt
  moves_are (suc n) s Blocked is = tt
  moves_are (suc n) s TooDeep is = tt

  moves_few : (limit : ℕ) (s : State) (x : Stepped) → length (moves_by parts input limit s x) ≤ limit
  moves_few zero s x = omega arith
  moves_few (suc n) s (Moved edge to) = let rest = moves_few n to (next parts input to) in omega (arith, rest)
  moves_few (suc n) s (Returned value) = omega arith
  moves_few (suc n) s (Trapped trap) = omega arith
  moves_few (suc n) s Blocked = omega arith
  moves_few (suc n) s TooDeep = omega arith

  -- they reach as far as the states, or to the limit
  moves_reach : (limit : ℕ) (s : State) (x : Stepped) → next parts input s ≡ x → (n : ℕ) → n ≤ limit → slice_get (states_of s (moves_by parts input limit s x)) n ≡ state_from parts input s n
  moves_reach limit s x is zero le = refl
  moves_reach zero s x is (suc n) le = absurd (omega (arith, le))
  moves_reach (suc l) s (Moved edge to) is (suc n) le =
      moves_reach l to (next parts input to) refl n (omega (arith, le)) ∙ sym (state_from_moved parts input s to edge is n)
  moves_reach (suc l) s (Returned value) is (suc n) le = sym (state_from_over parts input s (ap state_moved is) n)
  moves_reach (suc l) s (Trapped trap) is (suc n) le = sym (state_from_over parts input s (ap state_moved is) n)
  moves_reach (suc l) s Blocked is (suc n) le = sym (state_from_over parts input s (ap state_moved is) n)
  moves_reach (suc l) s TooDeep is (suc n) le = sym (state_from_over parts input s (ap state_moved is) n)

  none_over : (limit : ℕ) (s : State) (x : Stepped) → state_moved x ≡ None → moves_by parts input limit s x ≡ []
  none_over zero s x over = refl
  none_over (suc n) s (Moved edge to) over = absurd cc
  none_over (suc n) s (Returned value) over = refl
  none_over (suc n) s (Trapped trap) over = refl
  none_over (suc n) s Blocked over = refl
  none_over (suc n) s TooDeep over = refl

  -- the moves to the end of a run are those up to any limit that is no less
  moves_taken : (limit : ℕ) (s : State) (ms : List Move) → AreMoves parts input s ms → state_moved (next parts input (last_state s ms)) ≡ None → length ms ≤ limit → moves_of parts input limit s ≡ ms
  moves_taken limit s [] h over few = none_over limit s (next parts input s) over
  moves_taken zero s (m ∷ ms) h over few = absurd (omega (arith, few))
  moves_taken (suc n) s (m ∷ ms) h over few =
      let one = same_move m.edge m.edge s m.target m.source m.target refl (sym h.0) refl in
      ap (moves_by parts input (suc n) s) h.1 ∙ ap (λ (q : Move). q ∷ moves_of parts input n m.target) one
      ∙ ap (λ qs. m ∷ qs) (moves_taken n m.target ms h.2 over (omega (arith, few)))

-- ---- paths of inputs

module _ (parts : GraphParts) (entry : Function) (input : Input) (p : Predicates) (limit : ℕ) where
  abbrev begun : State
  begun = start_of parts entry input.words

  -- what is recorded up to the limit
  abbrev reached : Run
  reached = record { first = begun; moves = moves_of parts input limit begun }

  begins : IsBeginning parts entry input reached
  begins = record { start = refl; moves = moves_are parts input limit begun (next parts input begun) refl }

  pub records : RecordsStates parts entry input p limit (path_of parts input p limit begun)
  unfolding path_of
  records = record {
    run = reached;
    begins = begins;
    states = moves_reach parts input limit begun (next parts input begun) refl;
    few = moves_few parts input limit begun (next parts input begun);
    recorded = refl;
  }

  is_run : (ends : Ends) → IsTrue (counts_end ends (path_of parts input p limit begun).end) → IsRun parts entry input ends reached × IsPathOf parts entry input p limit reached
  unfolding path_of
  is_run ends h =
      (runs_by_ends parts entry input ends reached begins (subst IsTrue (ends_counted ends (next parts input (last_in reached))) h), refl)

pub paths_counted : CountedPaths
paths_counted parts entry input p limit ends h =
    let both = is_run parts entry input p limit ends h in (reached parts entry input p limit, both.0, both.1)

pub paths_uncut : UncutPaths
paths_uncut parts entry input p limit h =
    paths_counted parts entry input p limit counted.Any (any_counted (path_of parts input p limit (start_of parts entry input.words)).end h)

pub runs_recorded : RecordedRuns
unfolding path_of
runs_recorded parts entry input p limit ends r h few =
    let over = counted_over ends (next parts input (last_in r)) h.counted in
    let moves = moves_taken parts input limit r.first r.moves h.begins.moves over few in
    (ap (path_of parts input p limit) (sym h.begins.start) ∙ ap (path_along parts input p r.first) moves, subst IsTrue (sym (ends_counted ends (next parts input (last_in r)))) h.counted)

uncut_over : (x : Stepped) → ¬ (end_at x ≡ ended.Cut) → state_moved x ≡ None
uncut_over (Moved edge to) h = absurd (h refl)
uncut_over (Returned value) h = refl
uncut_over (Trapped trap) h = refl
uncut_over Blocked h = refl
uncut_over TooDeep h = refl

pub paths_last : LastingPaths
unfolding path_of
paths_last parts input p limit more first uncut le =
    let moves = moves_of parts input limit first in
    let few = moves_few parts input limit first (next parts input first) in
    ap (path_along parts input p first) (moves_taken parts input more first moves (moves_are parts input limit first (next parts input first) refl) (uncut_over (next parts input (last_state first moves)) uncut) (omega arith))

-- ---- the record of a traced run

module _ (parts : GraphParts) (input : Input) (p : Predicates) (limit : ℕ) where
  abbrev Records : PathRecord → Function → Type 0
  Records path f = RecordsStates parts f input p limit path

  pub traced : {E : Type 0} (r : Result PathRecord E) (o : Option Function) (first : State) → IsSomeAnd o (λ f. first ≡ start_of parts f input.words) → IfOk r (λ path. path ≡ path_of parts input p limit first) → IfOk r (λ path. IsSomeAnd o (Records path))
  traced (Err e) o first began is = tt
  traced (Ok path) None first began is = began
  traced (Ok path) (Some f) first began is =
      subst (λ q. Records q f) (sym (is ∙ ap (path_of parts input p limit) began)) (records parts f input p limit)
