-- Going back out of a function.
use Rattle.std.proofs.Common.{◌≡◌, ℕ, ◌+◌, ◌-◌, ◌≤◌, Option, Some, length, sym, ap, subst, ◌∙◌, arith}
use Rattle.std.specs.Prelude.{IsTrue, slice_get}
use Rattle.std.specs.Option.{IsSomeAnd}
use Rattle.std.proofs.lemmas.Option.{slice_get_within, same_Some}
use Rattle.cfa.specs.declared.expr.CellPlace.{CellPlace}
use Rattle.cfa.specs.declared.parts.Edge.{Edge}
use Rattle.cfa.specs.declared.parts.Function.{Function}
use Rattle.cfa.specs.declared.parts.GraphParts.{GraphParts}
use Rattle.cfa.specs.declared.parts.Node.{Node}
use Rattle.cfa.specs.declared.parts.Operation.{Operation}
use Rattle.cfa.specs.declared.parts.Operation.TheVariants.{Skip, Assign, Clear, Guard, Call, Return, Answer, Assert, Assume}
use Rattle.cfa.specs.declared.state.State.{State}
use Rattle.cfa.specs.Graph.{IsGraph, IsExit, IsNodeOf, PairFits, TargetFits, callee_of, function_called, returned_call, room_of, operands_fit, dest_fits}
use Rattle.cfa.specs.States.{IsState, IsCallBetween, running_frame}
use Rattle.cfa.proofs.Eaches.{element_at}
use Rattle.cfa.proofs.Exits.{taken}
use Rattle.c_meaning.specs.Places.{room_in, storage_of}
use Rattle.c_meaning.specs.Steps.{function_at, popped}
use Rattle.c_meaning.proofs.Kept.{popped_state}
use Rattle.c_meaning.proofs.StateLaws.{Of, Owned, running, Belongs, belongs}

-- ---- exits

-- a node is the exit of its own function or of none
pub inner_node : (parts : GraphParts) (node : ℕ) (f : Function) → IsGraph parts → (b : Belongs parts node) → b.own ≡ f → (node ≡ f.exit → ⊥) → ¬ IsExit parts node
inner_node parts node f g b same apart ex =
    let k = taken (λ (q : Function). q.exit ≡ node) (slice_get parts.functions ex.0) ex.1 in
    let own = (g.rest.functions ex.0 k.0 k.1).exit in
    let n = taken (Of ex.0) (slice_get parts.nodes k.0.exit) own in
    let place : n.0 ≡ b.place = same_Some n.0 b.place (sym n.1 ∙ ap (slice_get parts.nodes) k.2 ∙ b.node_is) in
    let function : b.place.function ≡ ex.0 = sym (ap (λ (q : Node). q.function) place) ∙ n.2 in
    let is : k.0 ≡ f = same_Some k.0 f (sym k.1 ∙ sym (ap (slice_get parts.functions) function) ∙ b.own_is ∙ ap Some same) in
    apart (sym k.2 ∙ ap (λ (q : Function). q.exit) is)

-- ---- returns

-- what is known where a frame is removed: the call that it comes from, and the return that follows it
pub record Returns (parts : GraphParts) (s : State) (h : IsState parts s) : Type 0 where
  pub call : ℕ
  pub call_is : (running_frame s).call ≡ Some call
  pub edge : Edge
  pub edge_is : slice_get parts.edges (call + 1) ≡ Some edge
  pub returns : returned_call edge.operation ≡ Some call
  pub two : 2 ≤ length s.frames
  pub lower : slice_get h.owners (length s.frames - 2) ≡ Some edge.function
  -- the node's function is the one that was called
  pub own : Function
  pub own_is : function_at parts s.node ≡ Some own
  pub called : function_called parts call ≡ Some own

abbrev Paired : ℕ → ℕ → Edge → Type 0
Paired function at next = (next.function ≡ function) × (returned_call next.operation ≡ Some at)

pair_of : (parts : GraphParts) (at function callee : ℕ) (op : Operation) → callee_of op ≡ Some callee → PairFits parts at function op → IsSomeAnd (slice_get parts.edges (at + 1)) (Paired function at)
pair_of parts at function callee (Call c words arrays) e h = h
pair_of parts at function callee Skip e h = absurd cc
pair_of parts at function callee (Assign place value) e h = absurd cc
pair_of parts at function callee (Clear array count) e h = absurd cc
pair_of parts at function callee (Guard test truth) e h = absurd cc
pair_of parts at function callee (Return call dest) e h = absurd cc
pair_of parts at function callee (Answer input dest) e h = absurd cc
pair_of parts at function callee (Assert test) e h = absurd cc
pair_of parts at function callee (Assume test) e h = absurd cc

pub returns_of : (parts : GraphParts) (s : State) → IsGraph parts → (h : IsState parts s) → (length s.frames ≡ 1 → ⊥) → Returns parts s h
returns_of parts s g h many =
    let r = running parts s g h in
    let some = h.some_frame in
    let each = h.each_owner in
    let two : 2 ≤ length s.frames = omega (arith, many) in
    let step : length s.frames - 2 + 1 ≡ length s.frames - 1 = omega arith in
    let lower = element_at h.owners (length s.frames - 2) (omega arith) in
    let upper = element_at h.owners (length s.frames - 1) (omega arith) in
    let from = h.calls (length s.frames - 2) lower.0 upper.0 (running_frame s) lower.1 (subst (λ i. slice_get h.owners i ≡ Some upper.0) (sym step) upper.1) (subst (λ i. slice_get s.frames i ≡ Some (running_frame s)) (sym step) r.frame_is) in
    let call = taken (IsCallBetween parts lower.0 upper.0) (running_frame s).call from in
    let edge = taken (λ (e : Edge). (e.function ≡ lower.0) × (callee_of e.operation ≡ Some upper.0)) (slice_get parts.edges call.0) call.2 in
    let n = taken (Owned parts s h.owners) (slice_get parts.nodes s.node) h.node in
    let place : n.0 ≡ r.at.place = same_Some n.0 r.at.place (sym n.1 ∙ r.at.node_is) in
    let callee : upper.0 ≡ r.at.place.function = same_Some upper.0 r.at.place.function (sym upper.1 ∙ n.2 ∙ ap (λ (q : Node). Some q.function) place) in
    let own : slice_get parts.functions upper.0 ≡ Some r.at.own = ap (slice_get parts.functions) callee ∙ r.at.own_is in
    let next = taken (Paired edge.0.function call.0) (slice_get parts.edges (call.0 + 1)) (pair_of parts call.0 edge.0.function upper.0 edge.0.operation edge.2.1 (g.edges call.0 edge.0 edge.1).pair) in
    record {
      call = call.0;
      call_is = call.1;
      edge = next.0;
      edge_is = next.1;
      returns = next.2.1;
      two = two;
      lower = lower.1 ∙ ap Some (sym (next.2.0 ∙ edge.2.0));
      own = r.at.own;
      own_is = r.at.found;
      called = rw (edge.1, edge.2.1) own;
    }

return_target : (parts : GraphParts) (function target call : ℕ) (op : Operation) → returned_call op ≡ Some call → TargetFits parts function target op → IsNodeOf parts function target
return_target parts function target call (Return c dest) e h = h
return_target parts function target call Skip e h = absurd cc
return_target parts function target call (Assign place value) e h = absurd cc
return_target parts function target call (Clear array count) e h = absurd cc
return_target parts function target call (Guard test truth) e h = absurd cc
return_target parts function target call (Call callee words arrays) e h = absurd cc
return_target parts function target call (Answer input dest) e h = absurd cc
return_target parts function target call (Assert test) e h = absurd cc
return_target parts function target call (Assume test) e h = absurd cc

-- the state in the function below, at the return's target
pub returned_state : (parts : GraphParts) (s : State) (g : IsGraph parts) (h : IsState parts s) (r : Returns parts s h) (answers : ℕ) → IsState parts (record (popped s) { node = r.edge.target; taken = answers })
returned_state parts s g h r answers =
    let run = running parts s g h in
    let there = return_target parts r.edge.function r.edge.target r.call r.edge.operation r.returns (g.edges (r.call + 1) r.edge r.edge_is).reaches in
    popped_state parts s h r.edge.target r.edge.function answers r.two run.frame_is (omega (arith, run.base, run.cells)) r.lower there

abbrev Operable : GraphParts → Operation → Function → Type 0
Operable parts op f = IsTrue (operands_fit parts (room_of parts f) op)

-- where its result is put meets the rules there
pub returned_dest : (parts : GraphParts) (s : State) (g : IsGraph parts) (h : IsState parts s) (r : Returns parts s h) (dest : Option CellPlace) (answers call : ℕ) → r.edge.operation ≡ Return call dest → IsTrue (dest_fits (storage_of parts (record (popped s) { node = r.edge.target; taken = answers })).room dest)
returned_dest parts s g h r dest answers call is =
    let fits = g.edges (r.call + 1) r.edge r.edge_is in
    let f = taken (Operable parts r.edge.operation) (slice_get parts.functions r.edge.function) fits.operands in
    let there = return_target parts r.edge.function r.edge.target r.call r.edge.operation r.returns fits.reaches in
    let n = taken (Of r.edge.function) (slice_get parts.nodes r.edge.target) there in
    let b = belongs parts r.edge.target g (slice_get_within parts.nodes r.edge.target n.0 n.1) in
    let place : n.0 ≡ b.place = same_Some n.0 b.place (sym n.1 ∙ b.node_is) in
    let function : r.edge.function ≡ b.place.function = sym n.2 ∙ ap (λ (q : Node). q.function) place in
    let own : f.0 ≡ b.own = same_Some f.0 b.own (sym f.1 ∙ ap (slice_get parts.functions) function ∙ b.own_is) in
    let room : room_of parts f.0 ≡ room_in parts (function_at parts r.edge.target) = ap (room_of parts) own ∙ sym (ap (room_in parts) b.found) in
    subst (λ q. IsTrue (dest_fits q dest)) room (subst (λ op. IsTrue (operands_fit parts (room_of parts f.0) op)) is f.2)
