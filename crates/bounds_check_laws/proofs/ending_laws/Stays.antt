-- The states of an input that doesn't leave bounds end.
use Rattle.std.proofs.Common.{◌≡◌, ℕ, zero, suc, ◌+◌, ◌<◌, List, [], ◌∷◌, length, Some, None, refl, ◌⊎◌, ⊎_elim, inl, inr, arith}
use Rattle.std.specs.Prelude.{slice_get}
use Rattle.cfa.specs.Contexts.{Pair}
use Rattle.cfa.specs.Graph.{IsGraph}
use Rattle.cfa.specs.declared.parts.Function.{Function}
use Rattle.cfa.specs.declared.parts.GraphParts.{GraphParts}
use Rattle.cfa.specs.declared.state.State.{State}
use Rattle.c_meaning.proofs.RunLaws.{beginning_states}
use Rattle.c_meaning.specs.Pairs.{IsRunWithin}
use Rattle.c_meaning.specs.Runs.{IsBeginning, Move, Run, last_in, last_state, states_of, state_moved}
use Rattle.c_meaning.specs.Starts.{CanStart, start_of}
use Rattle.c_meaning.specs.Steps.{next}
use Rattle.c_meaning.specs.declared.input.Input.{Input}
use Rattle.c_meaning.specs.declared.stepped.Stepped.{Stepped}
use Rattle.c_meaning.specs.declared.stepped.Stepped.TheVariants.{Moved, Returned, Trapped, Blocked, TooDeep}
use Rattle.unwinder_reach.specs.reached.Reaching.{AreReached}
use Rattle.unwinder_reach.specs.declared.reached.bounds.Bounds.{Bounds}
use Rattle.unwinder_reach.specs.declared.reached.step.Step.{Step}
use Rattle.measurer_hits.proofs.run_laws.Leaving.{one_more, within_or_not}
use Rattle.measurer_hits.specs.run_laws.Leaving.{LeavesBounds}
use Rattle.bounds_check_laws.specs.ending_laws.Ends.{EndsSoon}
use Rattle.bounds_check_laws.specs.ending_laws.Laws.{StayingInputsEnd, StayingInputsEndSoon}
use Rattle.bounds_check_laws.proofs.ending_laws.Short.{bounded_runs_are_short}

over_or_goes : (x : Stepped) → (state_moved x ≡ None) ⊎ ((at : ℕ) × (to : State) × (x ≡ Moved at to))
over_or_goes (Moved at to) = inr (at, to, refl)
over_or_goes (Returned value) = inl refl
over_or_goes (Trapped trap) = inl refl
over_or_goes Blocked = inl refl
over_or_goes TooDeep = inl refl

last_there : (s : State) (ms : List Move) → slice_get (states_of s ms) (length ms) ≡ Some (last_state s ms)
last_there s [] = refl
last_there s (m ∷ ms) = last_there m.target ms

module _ (parts : GraphParts) (k : ℕ) (entry : Function) (bounds : Bounds) (pairs : List Pair) (steps : List (List Step)) (input : Input)
    (g : IsGraph parts) (own : slice_get parts.functions k ≡ Some entry) (can : CanStart entry input.words) (are : AreReached parts bounds entry pairs steps)
    (stays : ¬ LeavesBounds bounds.turns bounds.frames bounds.answers parts entry input) where
  abbrev Within : Run → Type 0
  Within r = IsRunWithin bounds.turns bounds.frames bounds.answers parts entry r

  abbrev Ends : Type 0
  Ends = (end : Stepped) × EndsSoon parts entry input (length pairs) end

  short : (r : Run) → IsBeginning parts entry input r → Within r → length r.moves < length pairs
  short r begins within = bounded_runs_are_short parts k entry bounds pairs steps input r g own can are begins within

  -- a beginning behind which the run doesn't go on
  ends_here : (r : Run) → IsBeginning parts entry input r → Within r → state_moved (next parts input (last_in r)) ≡ None → Ends
  ends_here r begins within over = (
    next parts input (last_in r),
    record {
      ends = record { number = length r.moves; last = last_in r; reached = beginning_states parts entry input r begins (length r.moves) (last_in r) (last_there r.first r.moves); comes = refl; over = over };
      soon = short r begins within;
    },
  )

  -- a beginning that is so much shorter than the pairs are many
  ends_from : (left : ℕ) (r : Run) → IsBeginning parts entry input r → Within r → length r.moves + left ≡ length pairs → Ends
  ends_from zero r begins within long = let less = short r begins within in absurd (omega (arith, less, long))
  ends_from (suc left) r begins within long =
      ⊎_elim
      (λ over. ends_here r begins within over)
      (λ on.
      let more = one_more bounds.turns bounds.frames bounds.answers parts entry input r on.0 on.1 begins on.2 in
      ⊎_elim
      (λ inside. let longer = more.2 in ends_from left more.0 more.1 inside (omega (arith, longer, long)))
      (λ outside. absurd (stays (record { run = more.0; begins = more.1; outside = outside })))
      (within_or_not bounds.turns bounds.frames bounds.answers parts entry more.0))
      (over_or_goes (next parts input (last_in r)))

  ends : Ends
  ends =
      let none : Run = record { first = start_of parts entry input.words; moves = [] } in
      let begins : IsBeginning parts entry input none = record { start = refl; moves = tt } in
      ⊎_elim
      (λ inside. ends_from (length pairs) none begins inside (omega arith))
      (λ outside. absurd (stays (record { run = none; begins = begins; outside = outside })))
      (within_or_not bounds.turns bounds.frames bounds.answers parts entry none)

pub staying_inputs_end : StayingInputsEnd
staying_inputs_end parts k entry bounds pairs steps input g own can are stays = ends parts k entry bounds pairs steps input g own can are stays

pub staying_inputs_end_soon : StayingInputsEndSoon
staying_inputs_end_soon parts k entry bounds pairs steps input g own can are few stays =
    let e = ends parts k entry bounds pairs steps input g own can are stays in
    let soon = e.1.soon in
    (e.0, record { ends = e.1.ends; soon = omega (arith, soon, few) })
