-- States of a graph that a step leads to.
use Rattle.std.proofs.Common.{◌≡◌, ℕ, ◌+◌, ◌-◌, ◌<◌, ◌≤◌, List, [], ◌∷◌, ◌++◌, Some, take, length, sym, ap, subst, ◌∙◌, arith, ⊎_elim, length-append, length-take}
use Rattle.std.specs.Prelude.{slice_get}
use Rattle.std.specs.Option.{IsSomeAnd, IsNone}
use Rattle.std.proofs.lemmas.List.{take-append-le, take_all}
use Rattle.std.proofs.lemmas.Option.{same_Some}
use Rattle.cfa.specs.declared.parts.GraphParts.{GraphParts}
use Rattle.cfa.specs.declared.parts.Node.{Node}
use Rattle.cfa.specs.declared.state.Frame.{Frame}
use Rattle.cfa.specs.declared.state.State.{State}
use Rattle.cfa.specs.Graph.{IsNodeOf}
use Rattle.cfa.specs.States.{IsState, HasArrays, IsCallBetween, running_frame, cells_of, end_of}
use Rattle.cfa.proofs.Exits.{taken, given}
use Rattle.c_meaning.proofs.Slices.{slice_get_front, slice_get_last, slice_get_push, slice_get_kept, slice_get_taken, take_take}
use Rattle.c_meaning.proofs.StateLaws.{Of, Owned, end_push}

-- ---- within a function

-- a state whose frames stay, at a node of the same function and with as many cells
pub moved_state : (parts : GraphParts) (s : State) (node own answers : ℕ) (cells : List ℕ) → IsState parts s → IsSomeAnd (slice_get parts.nodes s.node) (Of own) → IsNodeOf parts own node → length cells ≡ length s.cells → IsState parts (record { node = node; frames = s.frames; cells = cells; taken = answers })
moved_state parts s node own answers cells h here there same =
    let n = taken (Owned parts s h.owners) (slice_get parts.nodes s.node) h.node in
    let m = taken (Of own) (slice_get parts.nodes s.node) here in
    let z = taken (Of own) (slice_get parts.nodes node) there in
    let is : n.0 ≡ m.0 = same_Some n.0 m.0 (sym n.1 ∙ m.1) in
    let function : n.0.function ≡ z.0.function = ap (λ (p : Node). p.function) is ∙ m.2 ∙ sym z.2 in
    record {
      owners = h.owners;
      each_owner = h.each_owner;
      some_frame = h.some_frame;
      most_frames = h.most_frames;
      first = h.first;
      calls = h.calls;
      node = given (λ (p : Node). slice_get h.owners (length s.frames - 1) ≡ Some p.function) (slice_get parts.nodes node) z.0 z.1 (n.2 ∙ ap Some function);
      bases = h.bases;
      cells = same ∙ h.cells;
      arrays = h.arrays;
    }

-- a state with other cells, as many
pub with_cells : (parts : GraphParts) (s : State) (node : ℕ) (cells : List ℕ) → IsState parts (record s { node = node }) → length cells ≡ length s.cells → IsState parts (record s { node = node; cells = cells })
with_cells parts s node cells h same = record {
  owners = h.owners;
  each_owner = h.each_owner;
  some_frame = h.some_frame;
  most_frames = h.most_frames;
  first = h.first;
  calls = h.calls;
  node = h.node;
  bases = h.bases;
  cells = same ∙ h.cells;
  arrays = h.arrays;
}

-- ---- into a function

module _ (parts : GraphParts) (s : State) (h : IsState parts s) (callee : ℕ) (frame : Frame) where
  abbrev owners_now : List ℕ
  owners_now = h.owners ++ callee ∷ []

  abbrev frames_now : List Frame
  frames_now = s.frames ++ frame ∷ []

  first_kept : IsSomeAnd (slice_get frames_now 0) (λ f. IsNone f.call)
  first_kept = let some = h.some_frame in rw (slice_get_front s.frames (frame ∷ []) 0 (omega arith)) h.first

  calls_kept : ((below : ℕ) → slice_get h.owners (length s.frames - 1) ≡ Some below → IsSomeAnd frame.call (IsCallBetween parts below callee)) → (k below own : ℕ) (f : Frame) → slice_get owners_now k ≡ Some below → slice_get owners_now (k + 1) ≡ Some own → slice_get frames_now (k + 1) ≡ Some f → IsSomeAnd f.call (IsCallBetween parts below own)
  calls_kept new k below own f a b e =
      let each = h.each_owner in
      let some = h.some_frame in
      ⊎_elim
      (λ old. let lt : k + 1 < length h.owners = omega (arith, old.0) in
      h.calls k below own f (sym (slice_get_front h.owners (callee ∷ []) k (omega arith)) ∙ a) (sym (slice_get_front h.owners (callee ∷ []) (k + 1) lt) ∙ b) old.1)
      (λ last. let at : k + 1 ≡ length h.owners = omega (arith, last.0) in
      let place : k ≡ length s.frames - 1 = omega (arith, last.0) in
      let lower : slice_get h.owners (length s.frames - 1) ≡ Some below = subst (λ i. slice_get h.owners i ≡ Some below) place (sym (slice_get_front h.owners (callee ∷ []) k (omega arith)) ∙ a) in
      let called : callee ≡ own = same_Some callee own (sym (slice_get_last h.owners callee) ∙ subst (λ i. slice_get owners_now i ≡ Some own) at b) in
      subst (λ q. IsSomeAnd q.call (IsCallBetween parts below own)) (sym last.1) (subst (λ o. IsSomeAnd frame.call (IsCallBetween parts below o)) called (new below lower)))
      (slice_get_push s.frames frame (k + 1) f e)

  bases_kept : frame.base ≡ end_of parts h.owners → (k : ℕ) (f : Frame) → slice_get frames_now k ≡ Some f → f.base ≡ end_of parts (take k owners_now)
  bases_kept new k f e =
      let each = h.each_owner in
      ⊎_elim
      (λ old. h.bases k f old.1 ∙ ap (end_of parts) (sym (take-append-le k h.owners (callee ∷ []) (omega (arith, old.0)))))
      (λ last. let all : take k owners_now ≡ h.owners = take-append-le k h.owners (callee ∷ []) (omega (arith, last.0)) ∙ take_all k h.owners (omega (arith, last.0)) in
      ap (λ (q : Frame). q.base) last.1 ∙ new ∙ ap (end_of parts) (sym all))
      (slice_get_push s.frames frame k f e)

  arrays_kept : HasArrays parts callee frame → (k own : ℕ) (f : Frame) → slice_get owners_now k ≡ Some own → slice_get frames_now k ≡ Some f → HasArrays parts own f
  arrays_kept new k own f a e =
      let each = h.each_owner in
      ⊎_elim
      (λ old. h.arrays k own f (sym (slice_get_front h.owners (callee ∷ []) k (omega (arith, old.0))) ∙ a) old.1)
      (λ last. let at : k ≡ length h.owners = omega (arith, last.0) in
      let called : callee ≡ own = same_Some callee own (sym (slice_get_last h.owners callee) ∙ subst (λ i. slice_get owners_now i ≡ Some own) at a) in
      subst (λ q. HasArrays parts own q) (sym last.1) (subst (λ o. HasArrays parts o frame) called new))
      (slice_get_push s.frames frame k f e)

  -- a state with one more frame, at a node of its function
  pub pushed_state : (node answers : ℕ) (cells : List ℕ) → length s.frames < 64 → ((below : ℕ) → slice_get h.owners (length s.frames - 1) ≡ Some below → IsSomeAnd frame.call (IsCallBetween parts below callee)) → IsNodeOf parts callee node → frame.base ≡ end_of parts h.owners → length cells ≡ cells_of parts callee → HasArrays parts callee frame → IsState parts (record { node = node; frames = frames_now; cells = s.cells ++ cells; taken = answers })
  pushed_state node answers cells few new there base long lent =
      let z = taken (Of callee) (slice_get parts.nodes node) there in
      let each = h.each_owner in
      let owners_long = length-append h.owners (callee ∷ []) in
      let frames_long = length-append s.frames (frame ∷ []) in
      let last : length frames_now - 1 ≡ length h.owners = omega (arith, frames_long, each) in
      record {
        owners = owners_now;
        each_owner = omega (arith, owners_long, frames_long);
        some_frame = omega (arith, frames_long);
        most_frames = omega (arith, frames_long);
        first = first_kept;
        calls = calls_kept new;
        node = given (λ (p : Node). slice_get owners_now (length frames_now - 1) ≡ Some p.function) (slice_get parts.nodes node) z.0 z.1 (rw last (slice_get_last h.owners callee ∙ ap Some (sym z.2)));
        bases = bases_kept base;
        cells = length-append s.cells cells ∙ ap (λ n. n + length cells) h.cells ∙ ap (λ n. end_of parts h.owners + n) long ∙ sym (end_push parts h.owners callee);
        arrays = arrays_kept lent;
      }

-- ---- back out of a function

module _ (parts : GraphParts) (s : State) (h : IsState parts s) where
  abbrev fewer : ℕ
  fewer = length s.frames - 1

  -- a state without its last frame, at a node of the function below
  pub popped_state : (node below answers : ℕ) → 2 ≤ length s.frames → slice_get s.frames fewer ≡ Some (running_frame s) → (running_frame s).base ≤ length s.cells → slice_get h.owners (length s.frames - 2) ≡ Some below → IsNodeOf parts below node → IsState parts (record { node = node; frames = take fewer s.frames; cells = take (running_frame s).base s.cells; taken = answers })
  popped_state node below answers two frame_is within lower there =
      let z = taken (Of below) (slice_get parts.nodes node) there in
      let each = h.each_owner in
      let most = h.most_frames in
      let frames_long = length-take fewer s.frames in
      let owners_long = length-take fewer h.owners in
      let last : length (take fewer s.frames) - 1 ≡ length s.frames - 2 = omega (arith, frames_long) in
      record {
        owners = take fewer h.owners;
        each_owner = omega (arith, frames_long, owners_long);
        some_frame = omega (arith, frames_long);
        most_frames = omega (arith, frames_long);
        first = rw (slice_get_kept fewer s.frames 0 (omega arith)) h.first;
        calls = λ k lower own f a b e.
            h.calls k lower own f (slice_get_taken fewer h.owners k lower a).1 (slice_get_taken fewer h.owners (k + 1) own b).1 (slice_get_taken fewer s.frames (k + 1) f e).1;
        node = given (λ (p : Node). slice_get (take fewer h.owners) (length (take fewer s.frames) - 1) ≡ Some p.function) (slice_get parts.nodes node) z.0 z.1 (rw last (slice_get_kept fewer h.owners (length s.frames - 2) (omega arith) ∙ lower ∙ ap Some (sym z.2)));
        bases = λ k f e.
            let t = slice_get_taken fewer s.frames k f e in
            h.bases k f t.1 ∙ ap (end_of parts) (sym (take_take k fewer h.owners (omega (arith, t.0))));
        cells = length-take (running_frame s).base s.cells ∙ (omega arith) ∙ h.bases fewer (running_frame s) frame_is;
        arrays = λ k own f a e.
            h.arrays k own f (slice_get_taken fewer h.owners k own a).1 (slice_get_taken fewer s.frames k f e).1;
      }
