-- The functions of a state's frames.
use Rattle.std.proofs.Common.{◌≡◌, ℕ, suc, ◌+◌, ◌-◌, Some, length, sym, ap, subst, ◌∙◌, arith, add-one}
use Rattle.std.specs.Prelude.{slice_get}
use Rattle.std.proofs.lemmas.Option.{slice_get_within, same_Some}
use Rattle.cfa.specs.declared.parts.Edge.{Edge}
use Rattle.cfa.specs.declared.parts.GraphParts.{GraphParts}
use Rattle.cfa.specs.declared.parts.Node.{Node}
use Rattle.cfa.specs.declared.state.Frame.{Frame}
use Rattle.cfa.specs.declared.state.State.{State}
use Rattle.cfa.specs.Graph.{IsNodeOf, callee_of}
use Rattle.cfa.specs.States.{IsState, IsCallBetween}
use Rattle.cfa.proofs.Eaches.{element_at}
use Rattle.cfa.proofs.Exits.{taken}
use Rattle.c_meaning.proofs.StateLaws.{Of, Owned}

-- a frame above another: the call that it comes from, of the function below, and its own function
pub record Above (parts : GraphParts) (s : State) (h : IsState parts s) (i : ℕ) (frame : Frame) : Type 0 where
  pub call : ℕ
  pub call_is : frame.call ≡ Some call
  pub edge : Edge
  pub edge_is : slice_get parts.edges call ≡ Some edge
  pub below : slice_get h.owners i ≡ Some edge.function
  pub own : ℕ
  pub own_is : slice_get h.owners (suc i) ≡ Some own
  pub callee : callee_of edge.operation ≡ Some own

module _ (parts : GraphParts) (s : State) (h : IsState parts s) (i : ℕ) (frame : Frame) (there : slice_get s.frames (suc i) ≡ Some frame) where
  above_of : (lower upper : ℕ) → slice_get h.owners i ≡ Some lower → slice_get h.owners (suc i) ≡ Some upper → Above parts s h i frame
  above_of lower upper below own =
      let next : suc i ≡ i + 1 = sym (add-one i) in
      let from = h.calls i lower upper frame below (subst (λ j. slice_get h.owners j ≡ Some upper) next own) (subst (λ j. slice_get s.frames j ≡ Some frame) next there) in
      let call = taken (IsCallBetween parts lower upper) frame.call from in
      let edge = taken (λ (q : Edge). (q.function ≡ lower) × (callee_of q.operation ≡ Some upper)) (slice_get parts.edges call.0) call.2 in
      record {
        call = call.0;
        call_is = call.1;
        edge = edge.0;
        edge_is = edge.1;
        below = subst (λ o. slice_get h.owners i ≡ Some o) (sym edge.2.0) below;
        own = upper;
        own_is = own;
        callee = edge.2.1;
      }

  pub above : Above parts s h i frame
  above =
      let lt = slice_get_within s.frames (suc i) frame there in
      let each = h.each_owner in
      let lower = element_at h.owners i (omega arith) in
      let upper = element_at h.owners (suc i) (omega arith) in
      above_of lower.0 upper.0 lower.1 upper.1

-- frames of one call come from one edge
pub same_edge : (parts : GraphParts) (s t : State) (h : IsState parts s) (l : IsState parts t) (i j : ℕ) (f g : Frame) → (a : Above parts s h i f) → (b : Above parts t l j g) → f.call ≡ g.call → a.edge ≡ b.edge
same_edge parts s t h l i j f g a b same =
    let call : a.call ≡ b.call = same_Some a.call b.call (sym a.call_is ∙ same ∙ b.call_is) in
    same_Some a.edge b.edge (sym a.edge_is ∙ ap (slice_get parts.edges) call ∙ b.edge_is)

-- with one frame the first function is the node's
pub first_alone : (parts : GraphParts) (s : State) (h : IsState parts s) (own : ℕ) → length s.frames ≡ 1 → IsNodeOf parts own s.node → slice_get h.owners 0 ≡ Some own
first_alone parts s h own one there =
    let n = taken (Owned parts s h.owners) (slice_get parts.nodes s.node) h.node in
    let m = taken (Of own) (slice_get parts.nodes s.node) there in
    let is : n.0 ≡ m.0 = same_Some n.0 m.0 (sym n.1 ∙ m.1) in
    let place : length s.frames - 1 ≡ 0 = omega arith in
    subst (λ i. slice_get h.owners i ≡ Some own) place (n.2 ∙ ap (λ (q : Node). Some q.function) is ∙ ap Some m.2)

-- states whose second frames come from one call have one first function
pub first_called : (parts : GraphParts) (s t : State) (h : IsState parts s) (l : IsState parts t) (f g : Frame) → slice_get s.frames 1 ≡ Some f → slice_get t.frames 1 ≡ Some g → f.call ≡ g.call → (k : ℕ) → slice_get h.owners 0 ≡ Some k → slice_get l.owners 0 ≡ Some k
first_called parts s t h l f g a b same k own =
    let x = above parts s h 0 f a in
    let y = above parts t l 0 g b in
    let edge = same_edge parts s t h l 0 0 f g x y same in
    y.below ∙ ap (λ (q : Edge). Some q.function) (sym edge) ∙ sym x.below ∙ own
