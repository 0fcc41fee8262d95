-- A run begins in a state of the graph.
use Rattle.std.proofs.Common.{◌≡◌, ℕ, zero, suc, ◌+◌, ◌≤◌, List, [], ◌∷◌, Some, length, refl, sym, ap, subst, ◌∙◌, arith, length-append}
use Rattle.std.specs.Prelude.{IsTrue, slice_get}
use Rattle.std.specs.List.{AllZip, list_all}
use Rattle.std.proofs.lemmas.List.{length-map}
use Rattle.std.proofs.lemmas.Option.{same_Some}
use Rattle.c_values.specs.declared.kinds.Kind.{Kind}
use Rattle.c_values.specs.Kind.{is_kind}
use Rattle.c_values.proofs.Fitting.{and_left}
use Rattle.cfa.specs.declared.parts.Function.{Function}
use Rattle.cfa.specs.declared.parts.GraphParts.{GraphParts}
use Rattle.cfa.specs.declared.parts.Node.{Node}
use Rattle.cfa.specs.declared.state.Frame.{Frame}
use Rattle.cfa.specs.declared.state.State.{State}
use Rattle.cfa.specs.Graph.{IsGraph, result_kind_fits}
use Rattle.cfa.specs.States.{IsState, HasArrays, cells_of, end_of, function_cells}
use Rattle.cfa.proofs.Exits.{taken, given}
use Rattle.c_meaning.specs.Starts.{CanStart, fitted_words, first_frame, first_globals, frame_cells, start_of}
use Rattle.c_meaning.proofs.Next.{length-frame_cells}
use Rattle.c_meaning.proofs.StateLaws.{Of, end_push}

length-fitted_words : (words : List ℕ) (kinds : List Kind) → length words ≡ length kinds → length (fitted_words words kinds) ≡ length words
length-fitted_words [] kinds h = refl
length-fitted_words (w ∷ words) [] h = absurd (omega (arith, h))
length-fitted_words (w ∷ words) (k ∷ kinds) h = ap suc (length-fitted_words words kinds (omega (arith, h)))

module _ (parts : GraphParts) (k : ℕ) (f : Function) (words : List ℕ) (g : IsGraph parts) (own : slice_get parts.functions k ≡ Some f) (can : CanStart f words) where
  abbrev begun : State
  begun = start_of parts f words

  begun_base : (i : ℕ) (frame : Frame) → slice_get (first_frame parts ∷ []) i ≡ Some frame → frame.base ≡ end_of parts []
  begun_base zero frame e = ap (λ (q : Frame). q.base) (sym (same_Some (first_frame parts) frame e)) ∙ omega arith
  begun_base (suc i) frame e = absurd cc

  none_before : (i : ℕ) (frame : Frame) → slice_get (first_frame parts ∷ []) i ≡ Some frame → i ≡ 0
  none_before zero frame e = refl
  none_before (suc i) frame e = absurd cc

  begun_arrays : (i o : ℕ) (frame : Frame) → slice_get (k ∷ []) i ≡ Some o → slice_get (first_frame parts ∷ []) i ≡ Some frame → HasArrays parts o frame
  begun_arrays zero o frame a e =
      let owner : k ≡ o = same_Some k o a in
      let same : first_frame parts ≡ frame = same_Some (first_frame parts) frame e in
      let fit : AllZip (λ start count. start + count ≤ length parts.globals) [] f.arrays = subst (λ q. AllZip (λ start count. start + count ≤ length parts.globals) [] q) (sym can.1) tt in
      subst (λ n. HasArrays parts n frame) owner (subst (λ q. HasArrays parts k q) same (given (λ (q : Function). AllZip (λ start count. start + count ≤ length parts.globals) [] q.arrays) (slice_get parts.functions k) f own fit))
  begun_arrays (suc i) o frame a e = absurd cc

  begun_calls : (i below o : ℕ) (frame : Frame) → slice_get (k ∷ []) i ≡ Some below → slice_get (k ∷ []) (i + 1) ≡ Some o → ⊥
  begun_calls zero below o frame a e = cc
  begun_calls (suc i) below o frame a e = cc

  pub start_state : IsState parts (start_of parts f words)
  start_state =
      let function = g.rest.functions k f own in
      let least = function.least_cells in
      let n = taken (Of k) (slice_get parts.nodes f.entry) function.entry in
      let long = length-fitted_words words f.parameters can.0 in
      let same = can.0 in
      let frame = length-frame_cells f (fitted_words words f.parameters) (omega (arith, long, same, least)) in
      let globals : length (first_globals parts) ≡ length parts.globals = length-map parts.globals (λ (q : Kind × ℕ). q.1) in
      let cells : cells_of parts k ≡ f.cells = ap function_cells own in
      let end = end_push parts [] k in
      let none : end_of parts [] ≡ length parts.globals = omega arith in
      record {
        owners = k ∷ [];
        each_owner = refl;
        some_frame = omega arith;
        most_frames = omega arith;
        first = refl;
        calls = λ i below o f a e h. absurd (begun_calls i below o f a e);
        node = given (λ (p : Node). slice_get (k ∷ []) 0 ≡ Some p.function) (slice_get parts.nodes f.entry) n.0 n.1 (ap Some (sym n.2));
        bases = λ i frame e. rw (none_before i frame e) (begun_base i frame e);
        cells = omega (arith, length-append (first_globals parts) (frame_cells f (fitted_words words f.parameters)), globals, frame, cells, end, none);
        arrays = begun_arrays;
      }

  pub start_kinds : IsTrue (list_all is_kind f.parameters)
  start_kinds = and_left (list_all is_kind f.parameters) (result_kind_fits f.result) (g.rest.functions k f own).signature
