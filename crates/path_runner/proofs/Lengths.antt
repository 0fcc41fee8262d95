-- How long paths are, and where they are cut.
use Rattle.std.proofs.Common.{◌≡◌, ℕ, zero, suc, length, refl, ap, ◌∙◌, arith}
use Rattle.std.proofs.lemmas.List.{length-map}
use Rattle.cfa.specs.declared.parts.GraphParts.{GraphParts}
use Rattle.cfa.specs.declared.state.State.{State}
use Rattle.c_meaning.specs.declared.input.Input.{Input}
use Rattle.c_meaning.specs.declared.stepped.Stepped.{Stepped}
use Rattle.c_meaning.specs.declared.stepped.Stepped.TheVariants.{Moved, Returned, Trapped, Blocked, TooDeep}
use Rattle.c_meaning.specs.Runs.{Move, last_state, states_of}
use Rattle.c_meaning.specs.Steps.{next}
use Rattle.path_runner.specs.declared.path.RunEnd.TheVariants as ended
use Rattle.path_runner.specs.Laws.{PathLengths, CutPaths, GoesOn}
use Rattle.path_runner.specs.Masks.{mask_of}
use Rattle.path_runner.specs.Paths.{moves_by, moves_of, end_at, path_of}

pub lengths : PathLengths
unfolding path_of
lengths parts input p limit first =
    let moves = moves_of parts input limit first in
    let targets = length-map moves (λ (m : Move). m.target) in
    let edges = length-map moves (λ (m : Move). m.edge) in
    let nodes = length-map (states_of first moves) (λ (s : State). s.node) in
    let masks = length-map (states_of first moves) (mask_of parts p) in
    (omega arith, omega arith)

cut_goes : (x : Stepped) → end_at x ≡ ended.Cut → GoesOn x
cut_goes (Moved edge to) e = tt
cut_goes (Returned value) e = absurd cc
cut_goes (Trapped trap) e = absurd cc
cut_goes Blocked e = absurd cc
cut_goes TooDeep e = absurd cc

goes_cut : (x : Stepped) → GoesOn x → end_at x ≡ ended.Cut
goes_cut (Moved edge to) h = refl
goes_cut (Returned value) h = absurd h
goes_cut (Trapped trap) h = absurd h
goes_cut Blocked h = absurd h
goes_cut TooDeep h = absurd h

module _ (parts : GraphParts) (input : Input) where
  -- a run that would go on was not stopped before the limit
  all_taken : (limit : ℕ) (s : State) (x : Stepped) → x ≡ next parts input s → end_at (next parts input (last_state s (moves_by parts input limit s x))) ≡ ended.Cut → length (moves_by parts input limit s x) ≡ limit
  all_taken zero s x is cut = refl
  all_taken (suc n) s (Moved edge to) is cut = ap suc (all_taken n to (next parts input to) refl cut)
  all_taken (suc n) s (Returned value) is cut = let e = ap end_at is ∙ cut in absurd cc
  all_taken (suc n) s (Trapped trap) is cut = let e = ap end_at is ∙ cut in absurd cc
  all_taken (suc n) s Blocked is cut = let e = ap end_at is ∙ cut in absurd cc
  all_taken (suc n) s TooDeep is cut = let e = ap end_at is ∙ cut in absurd cc

pub cuts : CutPaths
unfolding path_of
cuts parts input p limit first =
    let moves = moves_of parts input limit first in
    let last = next parts input (last_state first moves) in (
      λ cut. (length-map moves (λ (m : Move). m.edge) ∙ all_taken parts input limit first (next parts input first) refl cut, cut_goes last cut),
      λ h. goes_cut last h.1,
    )
