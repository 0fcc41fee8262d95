-- What comes next in a state of a graph: where the run goes on, the state's pair follows along the edge, and where it is
-- blocked, too deep or has returned, why it is.
use Rattle.std.proofs.Common.{◌≡◌, ℕ, ◌+◌, ◌-◌, Bool, true, false, List, [], ◌∷◌, ◌++◌, Option, Some, None, map, take, length, refl, sym, ap, subst, ◌∙◌, arith}
use Rattle.std.specs.Prelude.{Result, Ok, Err, ◌==◌, if◌then◌else◌, nat_le, reverse, slice_get, slice_set}
use Rattle.std.specs.Option.{IsSomeAnd, option_map}
use Rattle.std.proofs.lemmas.Bool.{eqb-false, eqb-true, leb-true}
use Rattle.std.proofs.lemmas.List.{map-append, reverse-append}
use Rattle.std.proofs.lemmas.Option.{same_Some}
use Rattle.cfa.specs.declared.expr.ArrayPlace.{ArrayPlace}
use Rattle.cfa.specs.declared.expr.CellPlace.{CellPlace}
use Rattle.cfa.specs.declared.expr.Expr.{Expr}
use Rattle.cfa.specs.declared.parts.Edge.{Edge}
use Rattle.cfa.specs.declared.parts.Function.{Function}
use Rattle.cfa.specs.declared.parts.GraphParts.{GraphParts}
use Rattle.cfa.specs.declared.parts.Operation.{Operation}
use Rattle.cfa.specs.declared.parts.Operation.TheVariants.{Skip, Assign, Clear, Guard, Call, Return, Answer, Assert, Assume}
use Rattle.cfa.specs.declared.state.Frame.{Frame}
use Rattle.cfa.specs.declared.state.State.{State}
use Rattle.cfa.specs.declared.state.Trap.{Trap}
use Rattle.cfa.specs.declared.state.Trap.TheVariants as trap
use Rattle.cfa.specs.Contexts.{Context, FrameContext, Pair, Follows, ReturnsHome, along as context_along, along_operation, callers_of, frames_after}
use Rattle.cfa.specs.Graph.{IsGraph, IsExit, SourceFits, function_called, is_guard, is_return, returned_call}
use Rattle.cfa.specs.States.{IsState, running_frame, value_in}
use Rattle.cfa.specs.Table.{AreGuards, ContinuesAt, outgoing_of}
use Rattle.cfa.proofs.Eaches.{element_at}
use Rattle.cfa.proofs.Exits.{taken}
use Rattle.cfa.proofs.Places.{continues_tells}
use Rattle.c_meaning.specs.declared.input.Input.{Input}
use Rattle.c_meaning.specs.declared.stepped.Stepped.{Stepped}
use Rattle.c_meaning.specs.declared.stepped.Stepped.TheVariants.{Moved, Returned, Trapped, Blocked, TooDeep}
use Rattle.c_meaning.specs.Laws.{CallsTooDeep, FailsAssumption, ReturnsValue}
use Rattle.c_meaning.specs.Pairs.{Fits, calls_of, pair_after, pair_along}
use Rattle.c_meaning.specs.Places.{Leaves}
use Rattle.c_meaning.specs.Starts.{fitted, frame_cells}
use Rattle.c_meaning.specs.Steps.{unless_trapped, unless_zero, cell_in, values_in, start_in, moved, put, answer_of, answered, called, called_frame, call_of, cleared, operated, along_edge, along, picked_by, picked, onward, popped, result_word, returned_by, returned_along, returned_from, left, function_at, next_within, next}
use Rattle.c_meaning.proofs.Leaving.{Returns, returns_of, inner_node}
use Rattle.c_meaning.proofs.Operands.{numbers_of}
use Rattle.c_meaning.proofs.Outgoing.{outgoing_leaves}
use Rattle.c_meaning.proofs.StateLaws.{running, last_split}

-- the edge that is taken leads the pair of the state to that of the next
abbrev pub Leads : GraphParts → Pair → ℕ → State → Type 0
Leads parts p at to = ((e : Edge) × Follows parts at e p (pair_along parts p at)) × Fits (pair_along parts p at) to

abbrev pub Told : GraphParts → State → Stepped → Type 0
Told parts s (Moved at to) = (p : Pair) → Fits p s → Leads parts p at to
Told parts s (Returned value) = ReturnsValue parts s value
Told parts s (Trapped t) = Unit {0}
Told parts s Blocked = FailsAssumption parts s
Told parts s TooDeep = CallsTooDeep parts s

abbrev call_in : FrameContext → Option ℕ
call_in f = f.call

abbrev call_from : Frame → Option ℕ
call_from f = f.call

-- ---- calls of frames

-- an edge within a function keeps the calls
calls_after : (parts : GraphParts) (e : Edge) (fs : List FrameContext) → map call_in (frames_after parts e fs) ≡ map call_in fs
calls_after parts e [] = refl
calls_after parts e (f ∷ callers) = refl

-- the calls of frames with one more
calls_push : (frames : List Frame) (f : Frame) → reverse (map call_from (frames ++ f ∷ [])) ≡ f.call ∷ reverse (map call_from frames)
calls_push frames f =
    ap reverse (map-append call_from frames (f ∷ [])) ∙ reverse-append (map call_from frames) (f.call ∷ [])

module _ (parts : GraphParts) (s : State) where
  -- a pair is led along an edge that leaves the state's node
  leads : (p : Pair) → Fits p s → (at : ℕ) (e : Edge) (to : State) (after : Context) → slice_get parts.edges at ≡ Some e → e.source ≡ s.node → ReturnsHome e.operation p.context → context_along parts at e p.context ≡ after → e.target ≡ to.node → map call_in after.frames ≡ calls_of to → after.taken ≡ to.taken → Leads parts p at to
  leads p fits at e to after there source home is node calls answers =
      let reach : pair_along parts p at ≡ record { node = e.target; context = context_along parts at e p.context } = ap (pair_after parts at p) there in
      let with_it : Context → Pair = λ c. record { node = e.target; context = c } in
      let whole : pair_along parts p at ≡ with_it after = reach ∙ ap with_it is in
      let good : Fits (with_it after) to = record { node = node; calls = calls; taken = answers } in
      ((e, record { edge = there; leaves = source ∙ sym fits.node; home = home; reaches = reach }), subst (λ q. Fits q to) (sym whole) good)

-- ---- ends

module _ (parts : GraphParts) (s : State) where
  unless_told : {A : Type 0} (r : Result A Trap) (f : A → Stepped) → ((x : A) → r ≡ Ok x → Told parts s (f x)) → Told parts s (unless_trapped r f)
  unless_told (Ok x) f h = h x refl
  unless_told (Err t) f h = tt

  put_told : (t : State) (dest : Option CellPlace) (v : ℕ) (f : List ℕ → Stepped) → ((cells : List ℕ) → Told parts s (f cells)) → Told parts s (put t dest v f)
  put_told t None v f h = h t.cells
  put_told t (Some place) v f h =
      unless_told (cell_in t place) (λ cell. f (slice_set t.cells cell v)) (λ cell e. h (slice_set t.cells cell v))

  if_told : (b : Bool) (x y : Stepped) → (b ≡ true → Told parts s x) → (b ≡ false → Told parts s y) → Told parts s (if b then x else y)
  if_told true x y h k = h refl
  if_told false x y h k = k refl

-- ---- along an edge

-- an edge that is no guard is the one that leaves the node
abbrev Alone : GraphParts → State → ℕ → Operation → Type 0
Alone parts s at op = is_guard op ≡ false → outgoing_of parts s.node ≡ at ∷ []

module _ (parts : GraphParts) (input : Input) (s : State) (at : ℕ) (e : Edge) (g : IsGraph parts) (h : IsState parts s) (l : Leaves parts s at e) where
  -- a state within the function: of the context the counters of the frame that runs change, and the answers
  stays : (op : Operation) → e.operation ≡ op → (to : State) (more : ℕ → ℕ) → ((c : Context) → along_operation parts at e op c ≡ record { frames = frames_after parts e c.frames; taken = more c.taken }) → ((c : Context) → ReturnsHome op c) → e.target ≡ to.node → to.frames ≡ s.frames → to.taken ≡ more s.taken → (p : Pair) → Fits p s → Leads parts p at to
  stays op is to more after home node frames answers p fits =
      let c = p.context in
      let now : Context = record { frames = frames_after parts e c.frames; taken = more c.taken } in
      let calls : map call_in now.frames ≡ calls_of to = calls_after parts e c.frames ∙ fits.calls ∙ ap (λ (fs : List Frame). reverse (map call_from fs)) (sym frames) in
      leads parts s p fits at e to now l.0 l.1 (subst (λ o. ReturnsHome o c) (sym is) (home c)) (ap (λ o. along_operation parts at e o c) is ∙ after c) node calls (ap more fits.taken ∙ sym answers)

  -- a call pushes a frame on both
  pushes : (callee : ℕ) (words : List Expr) (arrays : List ArrayPlace) → e.operation ≡ Call callee words arrays → (f : Function) (starts values : List ℕ) → Told parts s (called s at e starts f values)
  pushes callee words arrays is f starts values p fits =
      let c = p.context in
      let now : Context = record { frames = record { call = Some at; counters = [] } ∷ c.frames; taken = c.taken } in
      let calls : map call_in now.frames ≡ reverse (map call_from (s.frames ++ called_frame s at starts ∷ [])) = ap (λ (cs : List (Option ℕ)). Some at ∷ cs) fits.calls ∙ sym (calls_push s.frames (called_frame s at starts)) in
      let frames : List Frame = s.frames ++ called_frame s at starts ∷ [] in
      let to : State = record s { node = e.target; frames = frames; cells = s.cells ++ frame_cells f values } in
      leads parts s p fits at e to now l.0 l.1 (subst (λ o. ReturnsHome o c) (sym is) tt) (ap (λ o. along_operation parts at e o c) is) refl calls fits.taken

  call_told : (callee : ℕ) (words : List Expr) (arrays : List ArrayPlace) → e.operation ≡ Call callee words arrays → outgoing_of parts s.node ≡ at ∷ [] → Told parts s (call_of s at e words arrays (slice_get parts.functions callee))
  call_told callee words arrays is only =
      let f = element_at parts.functions callee (numbers_of parts s at e (Call callee words arrays) g l is) in
      subst (λ o. Told parts s (call_of s at e words arrays o)) (sym f.1)
      (if_told parts s (nat_le 64 (length s.frames)) TooDeep (unless_trapped (values_in s words) (called s at e (map (start_in s) arrays) f.0))
      (λ many. let least = leb-true 64 (length s.frames) many in let most = h.most_frames in
      record { at = at; edge = e; callee = callee; words = words; arrays = arrays; only = only; there = l.0; calls = is; full = omega arith })
      (λ few. unless_told parts s (values_in s words) (called s at e (map (start_in s) arrays) f.0) (λ values done. pushes callee words arrays is f.0 (map (start_in s) arrays) values)))

  answer_told : (number : ℕ) (dest : Option CellPlace) → e.operation ≡ Answer number dest → Told parts s (answered input s at e dest (slice_get parts.inputs number))
  answer_told number dest is =
      let f = element_at parts.inputs number (numbers_of parts s at e (Answer number dest) g l is) in
      let after : List ℕ → State = λ cells. record s { node = e.target; cells = cells; taken = s.taken + 1 } in
      subst (λ o. Told parts s (answered input s at e dest o)) (sym f.1)
      (put_told parts s s dest (answer_of input f.0.result s.taken) (λ cells. Moved at (after cells)) (λ cells.
      stays (Answer number dest) is (after cells) (λ n. n + 1) (λ c. refl) (λ c. tt) refl refl refl))

  -- what an operation does, where an assumption is the node's one edge
  operated_told : (op : Operation) → e.operation ≡ op → Alone parts s at op → Told parts s (operated parts input s at e op)
  operated_told Skip is alone = stays Skip is (record s { node = e.target }) (λ n. n) (λ c. refl) (λ c. tt) refl refl refl
  operated_told (Assign place value) is alone =
      unless_told parts s (cell_in s place) (λ cell. unless_trapped (value_in s value) (λ v. moved at e s (slice_set s.cells cell v))) (λ cell c.
      unless_told parts s (value_in s value) (λ v. moved at e s (slice_set s.cells cell v)) (λ v d.
      stays (Assign place value) is (record s { node = e.target; cells = slice_set s.cells cell v }) (λ n. n) (λ c. refl) (λ c. tt) refl refl refl))
  operated_told (Clear array count) is alone =
      stays (Clear array count) is (record s { node = e.target; cells = cleared s.cells (start_in s array) count }) (λ n. n) (λ c. refl) (λ c. tt) refl refl refl
  operated_told (Guard test truth) is alone =
      stays (Guard test truth) is (record s { node = e.target }) (λ n. n) (λ c. refl) (λ c. tt) refl refl refl
  operated_told (Call callee words arrays) is alone = call_told callee words arrays is (alone refl)
  operated_told (Return call dest) is alone = let returns : is_return e.operation ≡ true = ap is_return is in let no = l.2 in absurd cc
  operated_told (Answer number dest) is alone = answer_told number dest is
  operated_told (Assert test) is alone =
      unless_told parts s (value_in s test) (unless_zero (Trapped trap.Assert) (moved at e s s.cells)) (λ v c.
      if_told parts s (v == 0) (Trapped trap.Assert) (moved at e s s.cells) (λ z. tt)
      (λ z. stays (Assert test) is (record s { node = e.target }) (λ n. n) (λ c. refl) (λ c. tt) refl refl refl))
  operated_told (Assume test) is alone =
      unless_told parts s (value_in s test) (unless_zero Blocked (moved at e s s.cells)) (λ v c.
      if_told parts s (v == 0) Blocked (moved at e s s.cells)
      (λ z. record { at = at; edge = e; test = test; only = alone refl; there = l.0; assumes = is; fails = c ∙ ap Ok (eqb-true v 0 z) })
      (λ z. stays (Assume test) is (record s { node = e.target }) (λ n. n) (λ c. refl) (λ c. tt) refl refl refl))

-- ---- from a node

module _ (parts : GraphParts) (input : Input) (s : State) (g : IsGraph parts) (h : IsState parts s) where
  along_told : (at : ℕ) (e : Edge) → Leaves parts s at e → Alone parts s at e.operation → Told parts s (along parts input s at)
  along_told at e l alone =
      subst (λ o. Told parts s (along_edge parts input s at o)) (sym l.0) (operated_told parts input s at e g h l e.operation refl alone)

  -- a guard is no assumption
  guard_told : (at : ℕ) (test : Expr) (truth : Bool) (e : Edge) → e.operation ≡ Guard test truth → IsSomeAnd (slice_get parts.edges at) (Leaves parts s at) → slice_get parts.edges at ≡ Some e → Told parts s (along parts input s at)
  guard_told at test truth e is leaves there =
      let own = taken (Leaves parts s at) (slice_get parts.edges at) leaves in
      let same : own.0 ≡ e = same_Some own.0 e (sym own.1 ∙ there) in
      along_told at e (subst (Leaves parts s at) same own.2) (λ no. let yes : is_guard e.operation ≡ true = ap is_guard is in absurd cc)

  abbrev GuardAfter : ℕ → Edge → Type 0
  GuardAfter no_at e = IsSomeAnd (slice_get parts.edges no_at) (λ f. AreGuards e.operation f.operation)

  abbrev GuardBeside : Edge → Edge → Type 0
  GuardBeside e f = AreGuards e.operation f.operation

  guards_told : (yes_at no_at : ℕ) → IsSomeAnd (slice_get parts.edges yes_at) (GuardAfter no_at) → IsSomeAnd (slice_get parts.edges yes_at) (Leaves parts s yes_at) → IsSomeAnd (slice_get parts.edges no_at) (Leaves parts s no_at) → Told parts s (picked parts input s yes_at no_at (slice_get parts.edges yes_at))
  guards_told yes_at no_at guards yes_leaves no_leaves =
      let e = taken (GuardAfter no_at) (slice_get parts.edges yes_at) guards in
      let f = taken (GuardBeside e.0) (slice_get parts.edges no_at) e.2 in
      let test = f.2.0 in
      let picks : picked parts input s yes_at no_at (slice_get parts.edges yes_at) ≡ picked_by parts input s yes_at no_at (Guard test true) = ap (picked parts input s yes_at no_at) e.1 ∙ ap (picked_by parts input s yes_at no_at) f.2.1 in
      subst (Told parts s) (sym picks)
      (unless_told parts s (value_in s test) (λ v. if v == 0 then along parts input s no_at else along parts input s yes_at) (λ v c.
      if_told parts s (v == 0) (along parts input s no_at) (along parts input s yes_at) (λ z. guard_told no_at test false f.0 f.2.2 no_leaves f.1) (λ z. guard_told yes_at test true e.0 f.2.1 yes_leaves e.1)))

  one_told : (at : ℕ) → outgoing_of parts s.node ≡ at ∷ [] → IsSomeAnd (slice_get parts.edges at) (Leaves parts s at) → Told parts s (along parts input s at)
  one_told at only leaves =
      let own = taken (Leaves parts s at) (slice_get parts.edges at) leaves in along_told at own.0 own.2 (λ no. only)

  row_told : (row : List ℕ) → outgoing_of parts s.node ≡ row → ContinuesAt parts row → ((j at : ℕ) → slice_get row j ≡ Some at → IsSomeAnd (slice_get parts.edges at) (Leaves parts s at)) → Told parts s (onward parts input s row)
  row_told [] is on each = absurd on
  row_told (at ∷ []) is on each = one_told at is (each 0 at refl)
  row_told (yes_at ∷ no_at ∷ []) is on each = guards_told yes_at no_at on (each 0 yes_at refl) (each 1 no_at refl)
  row_told (yes_at ∷ no_at ∷ at ∷ rest) is on each = absurd on

  -- from a node that is no exit
  inner_told : ¬ IsExit parts s.node → Told parts s (onward parts input s (outgoing_of parts s.node))
  inner_told inner =
      let r = running parts s g h in
      let on : ContinuesAt parts (outgoing_of parts s.node) = (continues_tells parts s.node).1 (g.rest.ways s.node r.at.place r.at.node_is inner) in
      row_told (outgoing_of parts s.node) refl on (λ j at e. outgoing_leaves parts s j at g inner e)

-- ---- from an exit

-- a return leaves the exit of the function that was called
return_source : (parts : GraphParts) (function source call : ℕ) (op : Operation) → returned_call op ≡ Some call → SourceFits parts function source op → IsSomeAnd (function_called parts call) (λ f. source ≡ f.exit)
return_source parts function source call (Return c dest) e h =
    let same : c ≡ call = same_Some c call e in subst (λ n. IsSomeAnd (function_called parts n) (λ f. source ≡ f.exit)) same h
return_source parts function source call Skip e h = absurd cc
return_source parts function source call (Assign place value) e h = absurd cc
return_source parts function source call (Clear array count) e h = absurd cc
return_source parts function source call (Guard test truth) e h = absurd cc
return_source parts function source call (Call callee words arrays) e h = absurd cc
return_source parts function source call (Answer input dest) e h = absurd cc
return_source parts function source call (Assert test) e h = absurd cc
return_source parts function source call (Assume test) e h = absurd cc

-- the first of the calls comes from the frame that runs, and the others from those below
home_calls : (fs : List FrameContext) (call : ℕ) (below : List (Option ℕ)) → map call_in fs ≡ Some call ∷ below → IsSomeAnd (slice_get fs 0) (λ f. f.call ≡ Some call) × (map call_in (callers_of fs) ≡ below)
home_calls [] call below e = absurd cc
home_calls (f ∷ callers) call below e = (cc, cc)

module _ (parts : GraphParts) (s : State) (g : IsGraph parts) (h : IsState parts s) (f : Function) (own : function_at parts s.node ≡ Some f) (exit : s.node ≡ f.exit) (r : Returns parts s h) where
  abbrev ExitOf : ℕ → Function → Type 0
  ExitOf source q = source ≡ q.exit

  leaves_exit : r.edge.source ≡ s.node
  leaves_exit =
      let source = return_source parts r.edge.function r.edge.source r.call r.edge.operation r.returns (g.edges (r.call + 1) r.edge r.edge_is).leaves in
      let q = taken (ExitOf r.edge.source) (function_called parts r.call) source in
      let callee : q.0 ≡ f = same_Some q.0 f (sym q.1 ∙ r.called ∙ sym r.own_is ∙ own) in
      q.2 ∙ ap (λ (p : Function). p.exit) callee ∙ sym exit

  -- the calls of the state, and those of the state below
  calls_popped : calls_of s ≡ Some r.call ∷ calls_of (popped s)
  calls_popped =
      let split = last_split s.frames (running_frame s) (running parts s g h).frame_is in
      ap (λ (fs : List Frame). reverse (map call_from fs)) split ∙ calls_push (take (length s.frames - 1) s.frames) (running_frame s)
      ∙ ap (λ (o : Option ℕ). o ∷ calls_of (popped s)) r.call_is

  -- a return pops a frame of both
  pops : (call : ℕ) (dest : Option CellPlace) (cells : List ℕ) → r.edge.operation ≡ Return call dest → Told parts s (moved (r.call + 1) r.edge (popped s) cells)
  pops call dest cells is p fits =
      let c = p.context in
      let same : r.call ≡ call = sym (same_Some call r.call (ap returned_call (sym is) ∙ r.returns)) in
      let both = home_calls c.frames r.call (calls_of (popped s)) (fits.calls ∙ calls_popped) in
      let now : Context = record { frames = callers_of c.frames; taken = c.taken } in
      let to : State = record (popped s) { node = r.edge.target; cells = cells } in
      let home : ReturnsHome (Return call dest) c = subst (λ n. IsSomeAnd (slice_get c.frames 0) (λ f. f.call ≡ Some n)) same both.0 in
      leads parts s p fits (r.call + 1) r.edge to now r.edge_is leaves_exit (subst (λ o. ReturnsHome o c) (sym is) home) (ap (λ o. along_operation parts (r.call + 1) r.edge o c) is) refl both.1 fits.taken

  returned_told : (op : Operation) → r.edge.operation ≡ op → Told parts s (returned_by s (r.call + 1) r.edge op)
  returned_told (Return call dest) is =
      put_told parts s (popped s) dest (result_word s) (moved (r.call + 1) r.edge (popped s)) (λ cells. pops call dest cells is)
  returned_told Skip is = let e = ap returned_call (sym is) ∙ r.returns in absurd cc
  returned_told (Assign place value) is = let e = ap returned_call (sym is) ∙ r.returns in absurd cc
  returned_told (Clear array count) is = let e = ap returned_call (sym is) ∙ r.returns in absurd cc
  returned_told (Guard test truth) is = let e = ap returned_call (sym is) ∙ r.returns in absurd cc
  returned_told (Call callee words arrays) is = let e = ap returned_call (sym is) ∙ r.returns in absurd cc
  returned_told (Answer input dest) is = let e = ap returned_call (sym is) ∙ r.returns in absurd cc
  returned_told (Assert test) is = let e = ap returned_call (sym is) ∙ r.returns in absurd cc
  returned_told (Assume test) is = let e = ap returned_call (sym is) ∙ r.returns in absurd cc

left_told : (parts : GraphParts) (s : State) (f : Function) → IsGraph parts → IsState parts s → function_at parts s.node ≡ Some f → s.node ≡ f.exit → Told parts s (left parts s f)
left_told parts s f g h own exit =
    if_told parts s (length s.frames == 1) (Returned (option_map (λ kind. fitted kind (result_word s)) f.result)) (returned_from parts s (running_frame s).call)
    (λ one. record { function = f; own = own; exit = exit; one = eqb-true (length s.frames) 1 one; gives = refl }) (λ more.
    let r = returns_of parts s g h (eqb-false (length s.frames) 1 more) in
    let on : returned_from parts s (running_frame s).call ≡ returned_by s (r.call + 1) r.edge r.edge.operation = ap (returned_from parts s) r.call_is ∙ ap (returned_along s (r.call + 1)) r.edge_is in
    subst (Told parts s) (sym on) (returned_told parts s g h f own exit r r.edge.operation refl))

-- ---- by the node

pub next_told : (parts : GraphParts) (input : Input) (s : State) → IsGraph parts → IsState parts s → Told parts s (next parts input s)
unfolding next
next_told parts input s g h =
    let r = running parts s g h in
    let f = r.at.own in
    subst (λ o. Told parts s (next_within parts input s o)) (sym r.at.found)
    (if_told parts s (s.node == f.exit) (left parts s f) (onward parts input s (outgoing_of parts s.node)) (λ e. left_told parts s f g h r.at.found (eqb-true s.node f.exit e))
    (λ e. inner_told parts input s g h (inner_node parts s.node f g r.at refl (eqb-false s.node f.exit e))))
