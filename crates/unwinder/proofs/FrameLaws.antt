-- What all states at one pair have in common, and the states that a run begins and goes on in.
use Rattle.std.proofs.Common.{◌≡◌, ℕ, zero, suc, ◌+◌, List, Option, Some, None, map, sum, take, length, refl, sym, ap, subst, ◌∙◌, arith, add-one}
use Rattle.std.specs.Prelude.{slice_get, reverse, sum_by}
use Rattle.std.specs.Option.{IsNone, is_some}
use Rattle.std.proofs.lemmas.List.{length-map, reverse-reverse}
use Rattle.std.proofs.lemmas.List.Sums.{sum-map}
use Rattle.std.proofs.lemmas.Option.{slice_get_within, same_Some}
use Rattle.cfa.specs.declared.parts.Edge.{Edge}
use Rattle.cfa.specs.declared.parts.Function.{Function}
use Rattle.cfa.specs.declared.parts.GraphParts.{GraphParts}
use Rattle.cfa.specs.declared.state.Frame.{Frame}
use Rattle.cfa.specs.declared.state.State.{State}
use Rattle.cfa.specs.Contexts.{Pair, Follows, first_pair, along}
use Rattle.cfa.specs.Graph.{IsGraph, callee_of, function_called}
use Rattle.cfa.specs.States.{IsState, cells_of, end_of, function_cells}
use Rattle.cfa.proofs.Eaches.{element_at}
use Rattle.cfa.proofs.Exits.{taken}
use Rattle.c_meaning.specs.Starts.{CanStart, start_of}
use Rattle.c_meaning.proofs.Begun.{start_state}
use Rattle.c_meaning.proofs.PairLaws.{first_fits}
use Rattle.sym_expr.specs.sym_steps.Steps.{frames_next}
use Rattle.unwinder_reach.specs.unwinding_size.Sizes.{store_cells, frame_cells, function_of_call, cells_of as option_cells}
use Rattle.unwinder.proofs.Lent.{lent_first, lent_next}
use Rattle.unwinder.proofs.Lists.{same_lists, same_shown, same_sums, sum_by-map, sum_by-reverse}
use Rattle.unwinder.proofs.FrameSteps.{call_in, call_from, calls_next, owner_next}
use Rattle.unwinder.proofs.Owners.{above, same_edge, first_alone}
use Rattle.unwinder.specs.Frames.{AreLent, IsAt, lent_by}

-- ---- one pair

-- a frame with parts that are equal
same_parts : (f g : Frame) → f.call ≡ g.call → f.base ≡ g.base → f.arrays ≡ g.arrays → f ≡ g
same_parts f g call base arrays =
    let whole : Option ℕ → ℕ → List ℕ → Frame = λ c b a. record { call = c; base = b; arrays = a } in
    ap (λ c. whole c f.base f.arrays) call ∙ ap (λ b. whole g.call b f.arrays) base ∙ ap (λ a. whole g.call g.base a) arrays

module _ (parts : GraphParts) (k : ℕ) (p : Pair) (s t : State) (a : IsAt parts k p s) (b : IsAt parts k p t) where
  same_calls : map call_from s.frames ≡ map call_from t.frames
  same_calls =
      sym (reverse-reverse (map call_from s.frames)) ∙ ap reverse (sym a.calls ∙ b.calls) ∙ reverse-reverse (map call_from t.frames)

  as_many : length s.frames ≡ length t.frames
  as_many = sym (length-map s.frames call_from) ∙ ap length same_calls ∙ length-map t.frames call_from

  same_call : (i : ℕ) (f g : Frame) → slice_get s.frames i ≡ Some f → slice_get t.frames i ≡ Some g → f.call ≡ g.call
  same_call i f g = same_shown call_from call_from s.frames t.frames i f g same_calls

  -- a function above the first is the one that its frame's call calls
  same_owner : (i m n : ℕ) → slice_get a.state.owners i ≡ Some m → slice_get b.state.owners i ≡ Some n → m ≡ n
  same_owner zero m n e d = same_Some m n (sym e ∙ a.owner ∙ sym b.owner ∙ d)
  same_owner (suc i) m n e d =
      let lt = slice_get_within a.state.owners (suc i) m e in
      let each = a.state.each_owner in
      let many = as_many in
      let f = element_at s.frames (suc i) (omega arith) in
      let g = element_at t.frames (suc i) (omega arith) in
      let x = above parts s a.state i f.0 f.1 in
      let y = above parts t b.state i g.0 g.1 in
      let edge = same_edge parts s t a.state b.state i i f.0 g.0 x y (same_call (suc i) f.0 g.0 f.1 g.1) in
      let own : x.own ≡ y.own = same_Some x.own y.own (sym x.callee ∙ ap (λ (q : Edge). callee_of q.operation) edge ∙ y.callee) in
      same_Some m x.own (sym e ∙ x.own_is) ∙ own ∙ same_Some y.own n (sym y.own_is ∙ d)

  same_owners : a.state.owners ≡ b.state.owners
  same_owners =
      let one = a.state.each_owner in
      let other = b.state.each_owner in
      same_lists a.state.owners b.state.owners (one ∙ as_many ∙ sym other) same_owner

  same_base : (i : ℕ) (f g : Frame) → slice_get s.frames i ≡ Some f → slice_get t.frames i ≡ Some g → f.base ≡ g.base
  same_base i f g e d = a.state.bases i f e ∙ ap (λ os. end_of parts (take i os)) same_owners ∙ sym (b.state.bases i g d)

  -- what a frame is lent says the frame below
  same_arrays : (i : ℕ) (f g : Frame) → slice_get s.frames i ≡ Some f → slice_get t.frames i ≡ Some g → f.arrays ≡ g.arrays
  same_arrays zero f g e d = a.lent.first f e ∙ sym (b.lent.first g d)
  same_arrays (suc i) f g e d =
      let lt = slice_get_within s.frames (suc i) f e in
      let many = as_many in
      let next : suc i ≡ i + 1 = sym (add-one i) in
      let m = element_at s.frames i (omega arith) in
      let n = element_at t.frames i (omega arith) in
      let below : m.0 ≡ n.0 = same_parts m.0 n.0 (same_call i m.0 n.0 m.1 n.1) (same_base i m.0 n.0 m.1 n.1) (same_arrays i m.0 n.0 m.1 n.1) in
      let x = above parts s a.state i f e in
      let y = above parts t b.state i g d in
      let edge = same_edge parts s t a.state b.state i i f g x y (same_call (suc i) f g e d) in
      a.lent.calls i x.call m.0 f x.edge m.1 (subst (λ j. slice_get s.frames j ≡ Some f) next e) x.call_is x.edge_is
      ∙ ap (λ q. lent_by q x.edge.operation) below ∙ ap (λ (q : Edge). lent_by n.0 q.operation) edge
      ∙ sym (b.lent.calls i y.call n.0 g y.edge n.1 (subst (λ j. slice_get t.frames j ≡ Some g) next d) y.call_is y.edge_is)

  same_lists_of_frames : s.frames ≡ t.frames
  same_lists_of_frames = same_lists s.frames t.frames as_many (λ i f g e d. same_parts f g (same_call i f g e d) (same_base i f g e d) (same_arrays i f g e d))

pub same_frames : (parts : GraphParts) (k : ℕ) (p : Pair) (s t : State) → IsGraph parts → IsAt parts k p s → IsAt parts k p t → s.frames ≡ t.frames
same_frames parts k p s t g a b = same_lists_of_frames parts k p s t a b

-- ---- how many cells

option_cells_same : (o : Option Function) → option_cells o ≡ function_cells o
option_cells_same None = refl
option_cells_same (Some f) = refl

module _ (parts : GraphParts) (k : ℕ) (f : Function) (p : Pair) (s : State) (own : slice_get parts.functions k ≡ Some f) (a : IsAt parts k p s) where
  -- the cells of a frame that comes from a call
  abbrev call_cells : Option ℕ → ℕ
  call_cells call = option_cells (function_of_call parts f call)

  owner_cells : (i : ℕ) (frame : Frame) (o : ℕ) → slice_get s.frames i ≡ Some frame → slice_get a.state.owners i ≡ Some o → call_cells frame.call ≡ cells_of parts o
  owner_cells zero frame o e d =
      let first = taken (λ (q : Frame). IsNone q.call) (slice_get s.frames 0) a.state.first in
      let is : frame ≡ first.0 = same_Some frame first.0 (sym e ∙ first.1) in
      let none : frame.call ≡ None = no_call frame.call (ap (λ (q : Frame). is_some q.call) is ∙ first.2) in
      let owner : o ≡ k = same_Some o k (sym d ∙ a.owner) in
      ap call_cells none ∙ sym (ap (cells_of parts) owner ∙ ap function_cells own)
    where
      no_call : (c : Option ℕ) → IsNone c → c ≡ None
      no_call None h = refl
      no_call (Some call) h = absurd cc
  owner_cells (suc i) frame o e d =
      let x = above parts s a.state i frame e in
      let owner : x.own ≡ o = same_Some x.own o (sym x.own_is ∙ d) in
      let called : function_called parts x.call ≡ slice_get parts.functions o = rw (x.edge_is, x.callee, owner) refl in
      ap call_cells x.call_is ∙ ap option_cells called ∙ option_cells_same (slice_get parts.functions o)

  count_cells : length s.cells ≡ store_cells parts f p.context
  count_cells =
      let each = a.state.each_owner in
      let sums : sum_by (frame_cells parts f) p.context.frames ≡ sum (map (cells_of parts) a.state.owners) =
      sym (sum_by-map call_cells call_in p.context.frames) ∙ ap (sum_by call_cells) a.calls ∙ sum_by-reverse call_cells (map call_from s.frames)
      ∙ sum_by-map call_cells call_from s.frames ∙ same_sums (λ (q : Frame). call_cells q.call) (cells_of parts) s.frames a.state.owners (sym each) owner_cells
      ∙ sym (sum-map (cells_of parts) a.state.owners) in
      a.state.cells ∙ ap (λ n. length parts.globals + n) (sym sums)

pub cell_count : (parts : GraphParts) (k : ℕ) (f : Function) (p : Pair) (s : State) → IsGraph parts → slice_get parts.functions k ≡ Some f → IsAt parts k p s → length s.cells ≡ store_cells parts f p.context
cell_count parts k f p s g own a = count_cells parts k f p s own a

-- ---- states at a pair

pub at_cells : (parts : GraphParts) (k : ℕ) (p : Pair) (s : State) → IsAt parts k p s → (cells : List ℕ) (taken : ℕ) → length cells ≡ length s.cells → IsAt parts k p (record s { cells = cells; taken = taken })
at_cells parts k p s a cells taken same = record {
  state = record {
    owners = a.state.owners;
    each_owner = a.state.each_owner;
    some_frame = a.state.some_frame;
    most_frames = a.state.most_frames;
    first = a.state.first;
    calls = a.state.calls;
    node = a.state.node;
    bases = a.state.bases;
    cells = same ∙ a.state.cells;
    arrays = a.state.arrays;
  };
  owner = a.owner;
  node = a.node;
  calls = a.calls;
  lent = a.lent;
}

-- a run begins at the first pair
pub at_start : (parts : GraphParts) (k : ℕ) (f : Function) (words : List ℕ) → IsGraph parts → slice_get parts.functions k ≡ Some f → CanStart f words → IsAt parts k (first_pair f) (start_of parts f words)
at_start parts k f words g own can =
    let state = start_state parts k f words g own can in
    record {
      state = state;
      owner = first_alone parts (start_of parts f words) state k refl (g.rest.functions k f own).entry;
      node = refl;
      calls = (first_fits parts f words).calls;
      lent = lent_first parts;
    }

-- along an edge from a state at a pair the run comes to the next pair
pub at_next : (parts : GraphParts) (k : ℕ) (p q : Pair) (at : ℕ) (e : Edge) (s t : State) → IsGraph parts → IsAt parts k p s → Follows parts at e p q → IsState parts t → t.node ≡ e.target → t.frames ≡ frames_next s at e.operation → IsAt parts k q t
at_next parts k p q at e s t g a f l node frames =
    let fits = g.edges at e f.edge in
    let next : Pair = record { node = e.target; context = along parts at e p.context } in
    let there : IsAt parts k next t = record {
      state = l;
      owner = owner_next parts k p s g a at e f.edge (f.leaves ∙ a.node) t l node e.operation fits.leaves fits.reaches fits.pair f.home frames;
      node = sym node;
      calls = calls_next parts k p s g a at e e.operation ∙ ap (λ (fs : List Frame). reverse (map call_from fs)) (sym frames);
      lent = subst (AreLent parts) (sym frames) (lent_next parts s a.state a.lent at e f.edge e.operation refl);
    } in
    subst (λ r. IsAt parts k r t) (sym f.reaches) there
