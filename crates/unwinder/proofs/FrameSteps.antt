-- The calls and the first function of a state behind an edge.
use Rattle.std.proofs.Common.{◌≡◌, ℕ, zero, suc, ◌+◌, ◌-◌, ◌≤◌, ◌⊎◌, inl, inr, List, [], ◌∷◌, ◌++◌, Option, Some, map, take, length, refl, sym, ap, subst, ◌∙◌, arith, ⊎_elim, length-take}
use Rattle.std.specs.Prelude.{slice_get, reverse}
use Rattle.std.specs.Option.{IsSomeAnd}
use Rattle.std.proofs.lemmas.List.{map-append, reverse-append}
use Rattle.std.proofs.lemmas.Option.{same_Some}
use Rattle.cfa.specs.declared.parts.Edge.{Edge}
use Rattle.cfa.specs.declared.parts.GraphParts.{GraphParts}
use Rattle.cfa.specs.declared.parts.Operation.{Operation}
use Rattle.cfa.specs.declared.parts.Operation.TheVariants.{Call, Return}
use Rattle.cfa.specs.declared.state.Frame.{Frame}
use Rattle.cfa.specs.declared.state.State.{State}
use Rattle.cfa.specs.Contexts.{FrameContext, Pair, ReturnsHome, along_operation, callers_of, frames_after}
use Rattle.cfa.specs.Graph.{IsGraph, IsNodeOf, PairFits, SourceFits, TargetFits}
use Rattle.cfa.specs.States.{IsState, running_frame}
use Rattle.cfa.proofs.Eaches.{element_at}
use Rattle.c_meaning.specs.Steps.{called_frame, start_in}
use Rattle.c_meaning.proofs.Leaving.{returns_of}
use Rattle.c_meaning.proofs.Slices.{slice_get_front, slice_get_last, slice_get_kept}
use Rattle.c_meaning.proofs.StateLaws.{last_split, running}
use Rattle.sym_expr.specs.sym_steps.Steps.{frames_next}
use Rattle.unwinder.proofs.Owners.{above, first_alone, first_called}
use Rattle.unwinder.specs.Frames.{IsAt}

abbrev pub call_in : FrameContext → Option ℕ
call_in f = f.call

abbrev pub call_from : Frame → Option ℕ
call_from f = f.call

-- ---- calls

-- an edge within a function keeps the calls
calls_after : (parts : GraphParts) (e : Edge) (fs : List FrameContext) → map call_in (frames_after parts e fs) ≡ map call_in fs
calls_after parts e [] = refl
calls_after parts e (f ∷ callers) = refl

-- the calls of frames with one more
calls_push : (frames : List Frame) (f : Frame) → reverse (map call_from (frames ++ f ∷ [])) ≡ f.call ∷ reverse (map call_from frames)
calls_push frames f =
    ap reverse (map-append call_from frames (f ∷ [])) ∙ reverse-append (map call_from frames) (f.call ∷ [])

-- the first of the calls comes from the frame that runs, and the others from those below
calls_below : (fs : List FrameContext) (call : Option ℕ) (below : List (Option ℕ)) → map call_in fs ≡ call ∷ below → map call_in (callers_of fs) ≡ below
calls_below [] call below e = absurd cc
calls_below (f ∷ callers) call below e = cc

call_runs : (fs : List FrameContext) (call : Option ℕ) (below : List (Option ℕ)) (at : ℕ) → map call_in fs ≡ call ∷ below → IsSomeAnd (slice_get fs 0) (λ f. f.call ≡ Some at) → call ≡ Some at
call_runs [] call below at e h = absurd cc
call_runs (f ∷ callers) call below at e h = cc

-- ---- behind an edge

one_or_more : (n : ℕ) → 1 ≤ n → (n ≡ 1) ⊎ (2 ≤ n)
one_or_more zero h = absurd (omega (arith, h))
one_or_more (suc zero) h = inl refl
one_or_more (suc (suc n)) h = inr (omega arith)

module _ (parts : GraphParts) (entry : ℕ) (p : Pair) (s : State) (g : IsGraph parts) (a : IsAt parts entry p s) where
  -- the calls of a state, and those of the frames below the one that runs
  calls_split : map call_in p.context.frames ≡ (running_frame s).call ∷ reverse (map call_from (take (length s.frames - 1) s.frames))
  calls_split =
      let split = last_split s.frames (running_frame s) (running parts s g a.state).frame_is in
      a.calls ∙ ap (λ (fs : List Frame). reverse (map call_from fs)) split ∙ calls_push (take (length s.frames - 1) s.frames) (running_frame s)

  pub calls_next : (at : ℕ) (e : Edge) (op : Operation) → map call_in (along_operation parts at e op p.context).frames ≡ reverse (map call_from (frames_next s at op))
  calls_next at e (Call callee words arrays) =
      ap (λ (cs : List (Option ℕ)). Some at ∷ cs) a.calls ∙ sym (calls_push s.frames (called_frame s at (map (start_in s) arrays)))
  calls_next at e (Return call dest) =
      calls_below p.context.frames (running_frame s).call (reverse (map call_from (take (length s.frames - 1) s.frames))) calls_split
  calls_next at e _ = calls_after parts e p.context.frames ∙ a.calls

  module _ (at : ℕ) (e : Edge) (there : slice_get parts.edges at ≡ Some e) (source : e.source ≡ s.node) (t : State) (l : IsState parts t) (target : t.node ≡ e.target) where
    -- where the state has one frame, it is of the edge's function
    entry_is : length s.frames ≡ 1 → IsNodeOf parts e.function e.source → e.function ≡ entry
    entry_is one leaves =
        same_Some e.function entry (sym (first_alone parts s a.state e.function one (subst (IsNodeOf parts e.function) source leaves)) ∙ a.owner)

    -- where the second frame stays, so does the first function
    second_stays : 2 ≤ length s.frames → slice_get t.frames 1 ≡ slice_get s.frames 1 → slice_get l.owners 0 ≡ Some entry
    second_stays two same =
        let f = element_at s.frames 1 (omega arith) in
        first_called parts s t a.state l f.0 f.0 f.1 (same ∙ f.1) refl entry a.owner

    owner_stays : IsNodeOf parts e.function e.source → IsNodeOf parts e.function e.target → t.frames ≡ s.frames → slice_get l.owners 0 ≡ Some entry
    owner_stays leaves reaches frames =
        ⊎_elim
        (λ one. first_alone parts t l e.function (ap length frames ∙ one) (subst (IsNodeOf parts e.function) (sym target) reaches) ∙ ap Some (entry_is one leaves))
        (λ two. second_stays two (ap (λ fs. slice_get fs 1) frames))
        (one_or_more (length s.frames) a.state.some_frame)

    owner_pushed : (starts : List ℕ) → IsNodeOf parts e.function e.source → t.frames ≡ s.frames ++ called_frame s at starts ∷ [] → slice_get l.owners 0 ≡ Some entry
    owner_pushed starts leaves frames =
        let new : Frame = called_frame s at starts in
        ⊎_elim
        (λ one. let second : slice_get t.frames 1 ≡ Some new = ap (λ fs. slice_get fs 1) frames ∙ ap (slice_get (s.frames ++ new ∷ [])) (sym one) ∙ slice_get_last s.frames new in
        let x = above parts t l 0 new second in
        let number : at ≡ x.call = same_Some at x.call x.call_is in
        let same : x.edge ≡ e = same_Some x.edge e (sym x.edge_is ∙ ap (slice_get parts.edges) (sym number) ∙ there) in
        x.below ∙ ap (λ (q : Edge). Some q.function) same ∙ ap Some (entry_is one leaves))
        (λ two. second_stays two (ap (λ fs. slice_get fs 1) frames ∙ slice_get_front s.frames (new ∷ []) 1 (omega (arith, two))))
        (one_or_more (length s.frames) a.state.some_frame)

    -- the return that follows the call that the frame comes from is the edge
    owner_below : (call : ℕ) → call + 1 ≡ at → IsSomeAnd (slice_get p.context.frames 0) (λ f. f.call ≡ Some call) → length s.frames ≡ 2 → slice_get a.state.owners 0 ≡ Some e.function
    owner_below call pair home two =
        let r = returns_of parts s g a.state (λ one. omega (arith, one, two)) in
        let runs = call_runs p.context.frames (running_frame s).call (reverse (map call_from (take (length s.frames - 1) s.frames))) call calls_split home in
        let number : r.call ≡ call = same_Some r.call call (sym r.call_is ∙ runs) in
        let place : r.call + 1 ≡ at = omega (arith, number, pair) in
        let same : r.edge ≡ e = same_Some r.edge e (sym r.edge_is ∙ ap (slice_get parts.edges) place ∙ there) in
        let first : length s.frames - 2 ≡ 0 = omega (arith, two) in
        subst (λ i. slice_get a.state.owners i ≡ Some e.function) first (r.lower ∙ ap (λ (q : Edge). Some q.function) same)

    owner_popped : (call : ℕ) → call + 1 ≡ at → IsSomeAnd (slice_get p.context.frames 0) (λ f. f.call ≡ Some call) → IsNodeOf parts e.function e.target → t.frames ≡ take (length s.frames - 1) s.frames → slice_get l.owners 0 ≡ Some entry
    owner_popped call pair home reaches frames =
        let some = l.some_frame in
        let long : length t.frames ≡ length (take (length s.frames - 1) s.frames) = ap length frames in
        let cut = length-take (length s.frames - 1) s.frames in
        ⊎_elim
        (λ one. let two : length s.frames ≡ 2 = omega (arith, one, some, long, cut) in
        let same = owner_below call pair home two in
        first_alone parts t l e.function one (subst (IsNodeOf parts e.function) (sym target) reaches) ∙ sym same ∙ a.owner)
        (λ more. second_stays (omega (arith, more, long, cut)) (ap (λ fs. slice_get fs 1) frames ∙ slice_get_kept (length s.frames - 1) s.frames 1 (omega (arith, more, long, cut))))
        (one_or_more (length t.frames) some)

    pub owner_next : (op : Operation) → SourceFits parts e.function e.source op → TargetFits parts e.function e.target op → PairFits parts at e.function op → ReturnsHome op p.context → t.frames ≡ frames_next s at op → slice_get l.owners 0 ≡ Some entry
    owner_next (Call callee words arrays) leaves reaches pair home frames = owner_pushed (map (start_in s) arrays) leaves frames
    owner_next (Return call dest) leaves reaches pair home frames = owner_popped call pair.0 home reaches frames
    owner_next _ leaves reaches pair home frames = owner_stays leaves reaches frames
