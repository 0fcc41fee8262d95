-- What the states of a graph have room for.
use Rattle.std.proofs.Common.{◌≡◌, ℕ, ◌+◌, ◌-◌, ◌*◌, ◌<◌, ◌≤◌, ◌^◌, List, [], ◌∷◌, ◌++◌, Option, Some, None, map, sum, take, length, get_or, refl, sym, ap, subst, ◌∙◌, arith, length-take}
use Rattle.std.specs.Prelude.{slice_get, unwrap_or}
use Rattle.std.specs.List.{AllZip}
use Rattle.std.proofs.lemmas.List.{take_more, take_all}
use Rattle.std.proofs.lemmas.List.Sums.{sum-map, sum_by-cons, sum_by_push}
use Rattle.std.proofs.lemmas.Option.{slice_get_within, slice_get-get_or, same_Some}
use Rattle.cfa.specs.declared.parts.Function.{Function}
use Rattle.cfa.specs.declared.parts.GraphParts.{GraphParts}
use Rattle.cfa.specs.declared.parts.Node.{Node}
use Rattle.cfa.specs.declared.state.Frame.{Frame}
use Rattle.cfa.specs.declared.state.State.{State}
use Rattle.cfa.specs.Graph.{IsGraph, room_of}
use Rattle.cfa.specs.States.{IsState, running_frame, cells_of, end_of, function_cells}
use Rattle.cfa.proofs.Eaches.{element_at}
use Rattle.cfa.proofs.Exits.{taken}
use Rattle.c_meaning.specs.Places.{room_in, storage_of}
use Rattle.c_meaning.specs.Steps.{function_at}
use Rattle.c_meaning.specs.Storage.{HasRoom}

-- ---- lists

-- a list with a last element
pub last_split : {X : Type 0} (xs : List X) (x : X) → slice_get xs (length xs - 1) ≡ Some x → xs ≡ take (length xs - 1) xs ++ x ∷ []
last_split xs x e =
    let lt = slice_get_within xs (length xs - 1) x e in
    let whole : length xs - 1 + 1 ≡ length xs = omega arith in
    let read : get_or xs (length xs - 1) x ≡ x = same_Some _ x (sym (slice_get-get_or xs (length xs - 1) x lt) ∙ e) in
    sym (take_all (length xs) xs (omega arith)) ∙ ap (λ n. take n xs) (sym whole) ∙ take_more xs (length xs - 1) x lt
    ∙ ap (λ y. take (length xs - 1) xs ++ y ∷ []) read

sum_push : {X : Type 0} (f : X → ℕ) (xs : List X) (x : X) → sum (map f (xs ++ x ∷ [])) ≡ sum (map f xs) + f x
sum_push f xs x = sum-map f (xs ++ x ∷ []) ∙ sum_by_push f xs x ∙ ap (λ n. n + f x) (sym (sum-map f xs))

sum_most : {X : Type 0} (f : X → ℕ) (most : ℕ) (xs : List X) → ((x : X) → f x ≤ most) → sum (map f xs) ≤ length xs * most
sum_most f most [] h = omega arith
sum_most f most (x ∷ xs) h =
    let rest = sum_most f most xs h in
    let one = h x in
    let whole : sum (map f (x ∷ xs)) ≡ f x + sum (map f xs) = sum-map f (x ∷ xs) ∙ sum_by-cons f x xs ∙ ap (λ n. f x + n) (sym (sum-map f xs)) in
    rw whole (omega (arith, rest, one))

-- ---- the cells of frames

pub end_push : (parts : GraphParts) (owners : List ℕ) (own : ℕ) → end_of parts (owners ++ own ∷ []) ≡ end_of parts owners + cells_of parts own
end_push parts owners own = let s = sum_push (cells_of parts) owners own in omega (arith, s)

cells_most : (parts : GraphParts) → IsGraph parts → (own : ℕ) → cells_of parts own ≤ 16384
cells_most parts g own = at (slice_get parts.functions own) refl
  where
    at : (o : Option Function) → slice_get parts.functions own ≡ o → function_cells o ≤ 16384
    at None e = omega arith
    at (Some f) e = (g.rest.functions own f e).most_cells

-- the cells of at most 64 frames are fewer than 2^32
pub end_few : (parts : GraphParts) (owners : List ℕ) → IsGraph parts → length owners ≤ 64 → end_of parts owners < 2 ^ 32
end_few parts owners g few =
    let most = sum_most (cells_of parts) 16384 owners (cells_most parts g) in
    let globals = g.rest.globals in
    omega (arith, most, globals)

-- ---- the node of a state

-- a node belongs to a function that is there
pub record Belongs (parts : GraphParts) (node : ℕ) : Type 0 where
  pub place : Node
  pub own : Function
  pub node_is : slice_get parts.nodes node ≡ Some place
  pub own_is : slice_get parts.functions place.function ≡ Some own
  pub found : function_at parts node ≡ Some own

pub belongs : (parts : GraphParts) (node : ℕ) → IsGraph parts → node < length parts.nodes → Belongs parts node
belongs parts node g lt =
    let n = element_at parts.nodes node lt in
    let f = element_at parts.functions n.0.function (g.rest.nodes node n.0 n.1).function in
    record { place = n.0; own = f.0; node_is = n.1; own_is = f.1; found = rw n.1 f.1 }

-- ---- the frame that runs

pub record Running (parts : GraphParts) (s : State) : Type 0 where
  pub at : Belongs parts s.node
  -- the functions of the frames below, and its own
  pub below : List ℕ
  pub long : length below + 1 ≡ length s.frames
  pub frame_is : slice_get s.frames (length s.frames - 1) ≡ Some (running_frame s)
  pub base : (running_frame s).base ≡ end_of parts below
  pub cells : length s.cells ≡ end_of parts below + at.own.cells
  pub arrays : AllZip (λ start count. start + count ≤ (running_frame s).base) (running_frame s).arrays at.own.arrays

-- a node belongs to a function
abbrev pub Of : ℕ → Node → Type 0
Of function n = n.function ≡ function

-- the last owner is the node's function
abbrev pub Owned : GraphParts → State → List ℕ → Node → Type 0
Owned parts s owners n = slice_get owners (length s.frames - 1) ≡ Some n.function

-- the arrays that a frame is lent lie below it
abbrev pub Lent : Frame → Function → Type 0
Lent frame f = AllZip (λ start count. start + count ≤ frame.base) frame.arrays f.arrays

state_node : (parts : GraphParts) (s : State) → IsState parts s → s.node < length parts.nodes
state_node parts s h = let n = taken (Owned parts s h.owners) (slice_get parts.nodes s.node) h.node in slice_get_within parts.nodes s.node n.0 n.1

pub running : (parts : GraphParts) (s : State) → IsGraph parts → IsState parts s → Running parts s
running parts s g h =
    let b = belongs parts s.node g (state_node parts s h) in
    let n = taken (Owned parts s h.owners) (slice_get parts.nodes s.node) h.node in
    let same : n.0 ≡ b.place = same_Some n.0 b.place (sym n.1 ∙ b.node_is) in
    let some = h.some_frame in
    let each = h.each_owner in
    let lt : length s.frames - 1 < length s.frames = omega arith in
    let f = element_at s.frames (length s.frames - 1) lt in
    let frame : running_frame s ≡ f.0 = ap (λ o. unwrap_or o (record { call = None; base = 0; arrays = [] })) f.1 in
    let frame_is : slice_get s.frames (length s.frames - 1) ≡ Some (running_frame s) = f.1 ∙ ap Some (sym frame) in
    let count : length h.owners - 1 ≡ length s.frames - 1 = omega arith in
    let owner : slice_get h.owners (length s.frames - 1) ≡ Some b.place.function = subst (λ (p : Node). slice_get h.owners (length s.frames - 1) ≡ Some p.function) same n.2 in
    let split : h.owners ≡ take (length s.frames - 1) h.owners ++ b.place.function ∷ [] = subst (λ m. h.owners ≡ take m h.owners ++ b.place.function ∷ []) count (last_split h.owners b.place.function (subst (λ m. slice_get h.owners m ≡ Some b.place.function) (sym count) owner)) in
    let all = h.cells ∙ ap (end_of parts) split ∙ end_push parts (take (length s.frames - 1) h.owners) b.place.function in
    let own_cells : cells_of parts b.place.function ≡ b.own.cells = ap function_cells b.own_is in
    let arrays = taken (Lent (running_frame s)) (slice_get parts.functions b.place.function) (h.arrays (length s.frames - 1) b.place.function (running_frame s) owner frame_is) in
    let own : arrays.0 ≡ b.own = same_Some arrays.0 b.own (sym arrays.1 ∙ b.own_is) in
    record {
      at = b;
      below = take (length s.frames - 1) h.owners;
      long = omega (arith, length-take (length s.frames - 1) h.owners);
      frame_is = frame_is;
      base = h.bases (length s.frames - 1) (running_frame s) frame_is;
      cells = all ∙ ap (λ m. end_of parts (take (length s.frames - 1) h.owners) + m) own_cells;
      arrays = subst (Lent (running_frame s)) own arrays.2;
    }

-- ---- room

lent_within : (starts counts : List ℕ) (base most : ℕ) → base ≤ most → AllZip (λ start count. start + count ≤ base) starts counts → AllZip (λ start count. start + count ≤ most) starts counts
lent_within [] [] base most le h = tt
lent_within [] (c ∷ cs) base most le h = h
lent_within (s ∷ ss) [] base most le h = h
lent_within (s ∷ ss) (c ∷ cs) base most le h = (omega (arith, h.0), lent_within ss cs base most le h.1)

-- what a state's expressions may name lies within its cells
pub has_room : (parts : GraphParts) (s : State) → IsGraph parts → IsState parts s → HasRoom (storage_of parts s)
has_room parts s g h =
    let r = running parts s g h in
    let most = end_few parts h.owners g (omega (arith, h.each_owner, h.most_frames)) in
    let room : room_in parts (function_at parts s.node) ≡ room_of parts r.at.own = ap (room_in parts) r.at.found in
    subst (λ q. HasRoom (record { cells = s.cells; frame = running_frame s; room = q })) (sym room) (record {
      globals = omega (arith, r.cells);
      locals = omega (arith, r.cells, r.base);
      arrays = lent_within (running_frame s).arrays r.at.own.arrays (running_frame s).base (length s.cells) (omega (arith, r.cells, r.base)) r.arrays;
      few = omega (arith, most, h.cells);
    })
