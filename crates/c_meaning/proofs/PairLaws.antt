-- Where runs end, and the pairs along them.
use Rattle.std.proofs.Common.{◌≡◌, ℕ, zero, suc, false, List, [], ◌∷◌, Some, map, refl, sym, ap, subst, ◌∙◌, arith}
use Rattle.std.specs.Option.{option_map}
use Rattle.std.specs.Prelude.{◌==◌, if◌then◌else◌, nat_le, Result, IsTrue, slice_get}
use Rattle.std.specs.List.{AllZip}
use Rattle.std.proofs.lemmas.Bool.{eqb-true}
use Rattle.std.proofs.lemmas.Option.{same_Some}
use Rattle.cfa.specs.declared.parts.Edge.{Edge}
use Rattle.cfa.specs.declared.parts.Function.{Function}
use Rattle.cfa.specs.declared.parts.GraphParts.{GraphParts}
use Rattle.cfa.specs.declared.parts.Operation.TheVariants.{Call}
use Rattle.cfa.specs.declared.state.State.{State}
use Rattle.cfa.specs.declared.state.Trap.{Trap}
use Rattle.cfa.specs.Contexts.{Pair, IsWalk, first_pair}
use Rattle.cfa.specs.Graph.{IsGraph, IsExit, is_return}
use Rattle.cfa.specs.States.{IsState, running_frame}
use Rattle.cfa.specs.Table.{outgoing_of}
use Rattle.cfa.proofs.Eaches.{element_at}
use Rattle.cfa.proofs.Exits.{given}
use Rattle.cfa.proofs.Places.{at_place}
use Rattle.c_meaning.specs.declared.input.Input.{Input}
use Rattle.c_meaning.specs.declared.stepped.Stepped.TheVariants.{Returned, Blocked, TooDeep}
use Rattle.c_meaning.specs.Laws.{CallsTooDeep, FailsAssumption, BlockedStates, TooDeepStates, ReturnedStates, RunStates, StepsFollow, RunsAreWalks}
use Rattle.c_meaning.specs.Pairs.{Fits, pair_along, pairs_along}
use Rattle.c_meaning.specs.Places.{Leaves}
use Rattle.c_meaning.specs.Runs.{Move, AreMoves, states_of}
use Rattle.c_meaning.specs.Starts.{fitted, start_of}
use Rattle.c_meaning.specs.Steps.{IfMoved, along_edge, called, call_of, moved, next, onward, operated, result_word, returned_from, start_in, unless_trapped, unless_zero, values_in}
use Rattle.c_meaning.proofs.Begun.{start_state}
use Rattle.c_meaning.proofs.Next.{next_keeps, next_left, next_onward}
use Rattle.c_meaning.proofs.Operands.{numbers_of}
use Rattle.c_meaning.proofs.StateLaws.{running}
use Rattle.c_meaning.proofs.Told.{Told, next_told}

-- ---- where runs end

module _ (parts : GraphParts) (input : Input) (s : State) (g : IsGraph parts) (h : IsState parts s) (at : ℕ) (e : Edge) (only : outgoing_of parts s.node ≡ at ∷ []) (there : slice_get parts.edges at ≡ Some e) (inner : is_return e.operation ≡ false) where
  only_leaves : Leaves parts s at e
  only_leaves =
      let p = at_place (λ (q : Edge). q.source == s.node) 0 parts.edges 0 at (ap (λ (row : List ℕ). slice_get row 0) only) in
      let place : p.0 ≡ at = omega (arith, p.3) in
      let same : p.1 ≡ e = same_Some p.1 e (sym p.2 ∙ ap (slice_get parts.edges) place ∙ there) in
      (there, subst (λ (q : Edge). q.source ≡ s.node) same (eqb-true p.1.source s.node p.4), inner)

  -- each edge that leaves an exit is a return
  no_exit : (f : Function) (k : ℕ) → slice_get parts.functions k ≡ Some f → s.node ≡ f.exit → ⊥
  no_exit f k own exit =
      let here : IsExit parts s.node = (k, given (λ (q : Function). q.exit ≡ s.node) (slice_get parts.functions k) f own (sym exit)) in
      let returns = g.rest.returns at e there (subst (IsExit parts) (sym only_leaves.1) here) in
      let ill = subst IsTrue inner returns in
      absurd cc

  -- the run goes along the one edge
  goes_along : next parts input s ≡ operated parts input s at e e.operation
  goes_along =
      let r = running parts s g h in
      next_onward parts input s r.at.own r.at.found (no_exit r.at.own r.at.place.function r.at.own_is)
      ∙ ap (onward parts input s) only ∙ ap (along_edge parts input s at) there

fails_blocked : (parts : GraphParts) (input : Input) (s : State) → IsGraph parts → IsState parts s → FailsAssumption parts s → next parts input s ≡ Blocked
fails_blocked parts input s g h a =
    goes_along parts input s g h a.at a.edge a.only a.there (ap is_return a.assumes) ∙ ap (operated parts input s a.at a.edge) a.assumes
    ∙ ap (λ (v : Result ℕ Trap). unless_trapped v (unless_zero Blocked (moved a.at a.edge s s.cells))) a.fails

calls_too_deep : (parts : GraphParts) (input : Input) (s : State) → IsGraph parts → IsState parts s → CallsTooDeep parts s → next parts input s ≡ TooDeep
calls_too_deep parts input s g h d =
    let inner : is_return d.edge.operation ≡ false = ap is_return d.calls in
    let l = only_leaves parts input s g h d.at d.edge d.only d.there inner in
    let f = element_at parts.functions d.callee (numbers_of parts s d.at d.edge (Call d.callee d.words d.arrays) g l d.calls) in
    let goes = unless_trapped (values_in s d.words) (called s d.at d.edge (map (start_in s) d.arrays) f.0) in
    goes_along parts input s g h d.at d.edge d.only d.there inner ∙ ap (operated parts input s d.at d.edge) d.calls
    ∙ ap (call_of s d.at d.edge d.words d.arrays) f.1 ∙ ap (λ n. if nat_le 64 n then TooDeep else goes) d.full

pub blocked_states : BlockedStates
blocked_states parts input s g h = (
  λ is. subst (Told parts s) is (next_told parts input s g h),
  λ fails. fails_blocked parts input s g h fails,
)

pub too_deep_states : TooDeepStates
too_deep_states parts input s g h = (
  λ is. subst (Told parts s) is (next_told parts input s g h),
  λ deep. calls_too_deep parts input s g h deep,
)

pub returned_states : ReturnedStates
returned_states parts input s value g h = (
  λ is. subst (Told parts s) is (next_told parts input s g h),
  λ r.
      let result = option_map (λ kind. fitted kind (result_word s)) r.function.result in
      next_left parts input s r.function r.own r.exit
      ∙ ap (λ n. if n == 1 then Returned result else returned_from parts s (running_frame s).call) r.one ∙ ap Returned (sym r.gives),
)

-- ---- pairs

pub steps_follow : StepsFollow
steps_follow parts input s to at p g h is fits = subst (Told parts s) is (next_told parts input s g h) p fits

module _ (parts : GraphParts) (input : Input) (g : IsGraph parts) where
  -- the pairs along moves from a state that a pair fits
  pub moves_walk : (s : State) (p : Pair) (ms : List Move) → IsState parts s → Fits p s → AreMoves parts input s ms → IsWalk parts p (pairs_along parts p (map (λ (m : Move). m.edge) ms)) × AllZip Fits (p ∷ pairs_along parts p (map (λ (m : Move). m.edge) ms)) (states_of s ms)
  moves_walk s p [] h fits moves = (tt, (fits, tt))
  moves_walk s p (m ∷ ms) h fits moves =
      let step = steps_follow parts input s m.target m.edge p g h moves.1 fits in
      let there = subst (λ x. IfMoved x (IsState parts)) moves.1 (next_keeps parts input s g h) in
      let rest = moves_walk m.target (pair_along parts p m.edge) ms there step.1 moves.2 in
      (((m.edge, step.0.0, step.0.1), rest.0), (fits, rest.1))

  -- the states of moves are states of the graph
  moves_keep : (s : State) (ms : List Move) → IsState parts s → AreMoves parts input s ms → (n : ℕ) (t : State) → slice_get (states_of s ms) n ≡ Some t → IsState parts t
  moves_keep s ms h moves zero t e = subst (IsState parts) (same_Some s t e) h
  moves_keep s [] h moves (suc n) t e = absurd cc
  moves_keep s (m ∷ ms) h moves (suc n) t e =
      let there = subst (λ x. IfMoved x (IsState parts)) moves.1 (next_keeps parts input s g h) in
      moves_keep m.target ms there moves.2 n t e

pub run_states : RunStates
run_states parts k entry input r g own can h =
    let first = start_state parts k entry input.words g own can in
    moves_keep parts input g r.first r.moves (subst (IsState parts) (sym h.start) first) h.moves

pub first_fits : (parts : GraphParts) (entry : Function) (words : List ℕ) → Fits (first_pair entry) (start_of parts entry words)
first_fits parts entry words = record { node = refl; calls = refl; taken = refl }

pub runs_walk : RunsAreWalks
runs_walk parts k entry input r g own can h =
    let first = start_state parts k entry input.words g own can in
    let state : IsState parts r.first = subst (IsState parts) (sym h.start) first in
    let fits : Fits (first_pair entry) r.first = subst (Fits (first_pair entry)) (sym h.start) (first_fits parts entry input.words) in
    moves_walk parts input g r.first (first_pair entry) r.moves state fits h.moves
