-- What frames are lent, as they come and go.
use Rattle.std.proofs.Common.{◌≡◌, ℕ, ◌+◌, ◌-◌, List, [], ◌∷◌, ◌++◌, Some, map, take, length, refl, sym, ap, ◌∙◌, arith, ⊎_elim}
use Rattle.std.specs.Prelude.{slice_get, unwrap_or, None}
use Rattle.std.proofs.lemmas.Option.{slice_get_within, same_Some}
use Rattle.cfa.specs.declared.expr.ArrayPlace.{ArrayPlace}
use Rattle.cfa.specs.declared.expr.ArrayPlace.TheVariants as array
use Rattle.cfa.specs.declared.expr.Expr.{Expr}
use Rattle.cfa.specs.declared.parts.Edge.{Edge}
use Rattle.cfa.specs.declared.parts.GraphParts.{GraphParts}
use Rattle.cfa.specs.declared.parts.Operation.{Operation}
use Rattle.cfa.specs.declared.parts.Operation.TheVariants.{Call, Return}
use Rattle.cfa.specs.declared.state.Frame.{Frame}
use Rattle.cfa.specs.declared.state.State.{State}
use Rattle.cfa.specs.States.{IsState, running_frame}
use Rattle.cfa.specs.Values.{array_start}
use Rattle.c_meaning.specs.Starts.{first_frame}
use Rattle.c_meaning.specs.Steps.{called_frame, start_in}
use Rattle.c_meaning.proofs.Slices.{slice_get_front, slice_get_push, slice_get_taken}
use Rattle.sym_expr.specs.sym_steps.Steps.{frames_next}
use Rattle.unwinder.proofs.Lists.{map_alike}
use Rattle.unwinder.specs.Frames.{AreLent, lent_by}

-- where an array starts says no cell
start_same : (cells : List ℕ) (frame : Frame) (a : ArrayPlace) → array_start cells frame a ≡ array_start [] frame a
start_same cells frame (array.Global first) = refl
start_same cells frame (array.Local first) = refl
start_same cells frame (array.Lent parameter) = refl

pub lent_first : (parts : GraphParts) → AreLent parts (first_frame parts ∷ [])
lent_first parts = record {
  first = λ frame e. ap (λ (q : Frame). q.arrays) (sym (same_Some (first_frame parts) frame e));
  calls = λ k at below frame e b q call edge. let lt = slice_get_within (first_frame parts ∷ []) (k + 1) frame q in absurd (omega (arith, lt));
}

lent_taken : (parts : GraphParts) (n : ℕ) (frames : List Frame) → AreLent parts frames → AreLent parts (take n frames)
lent_taken parts n frames a = record {
  first = λ frame e. a.first frame (slice_get_taken n frames 0 frame e).1;
  calls = λ k at below frame e b q.
      a.calls k at below frame e (slice_get_taken n frames k below b).1 (slice_get_taken n frames (k + 1) frame q).1;
}

module _ (parts : GraphParts) (s : State) (h : IsState parts s) (a : AreLent parts s.frames) (at : ℕ) (e : Edge) (there : slice_get parts.edges at ≡ Some e) where
  lent_pushed : (callee : ℕ) (words : List Expr) (arrays : List ArrayPlace) → e.operation ≡ Call callee words arrays → AreLent parts (s.frames ++ called_frame s at (map (start_in s) arrays) ∷ [])
  lent_pushed callee words arrays is =
      let some = h.some_frame in
      let new : Frame = called_frame s at (map (start_in s) arrays) in
      record {
        first = λ frame q. a.first frame (sym (slice_get_front s.frames (new ∷ []) 0 (omega arith)) ∙ q);
        calls = λ k call below frame edge b q called edge_is.
            ⊎_elim
            (λ old. a.calls k call below frame edge (sym (slice_get_front s.frames (new ∷ []) k (omega (arith, old.0))) ∙ b) old.1 called edge_is)
            (λ last. let place : length s.frames - 1 ≡ k = omega (arith, last.0) in
            let lower : slice_get s.frames k ≡ Some below = sym (slice_get_front s.frames (new ∷ []) k (omega (arith, last.0))) ∙ b in
            let runs : running_frame s ≡ below = ap (λ o. unwrap_or o (record { call = None; base = 0; arrays = [] })) (ap (slice_get s.frames) place ∙ lower) in
            let number : at ≡ call = same_Some at call (ap (λ (f : Frame). f.call) (sym last.1) ∙ called) in
            let same : e ≡ edge = same_Some e edge (sym there ∙ ap (slice_get parts.edges) number ∙ edge_is) in
            ap (λ (f : Frame). f.arrays) last.1
            ∙ map_alike (start_in s) (array_start [] below) arrays (λ x. start_same s.cells (running_frame s) x ∙ ap (λ f. array_start [] f x) runs)
            ∙ ap (lent_by below) (sym is ∙ ap (λ (d : Edge). d.operation) same))
            (slice_get_push s.frames new (k + 1) frame q);
      }

  -- the frames after an edge are lent what their calls lend
  pub lent_next : (op : Operation) → e.operation ≡ op → AreLent parts (frames_next s at op)
  lent_next (Call callee words arrays) is = lent_pushed callee words arrays is
  lent_next (Return call dest) is = lent_taken parts (length s.frames - 1) s.frames a
  lent_next _ is = a
