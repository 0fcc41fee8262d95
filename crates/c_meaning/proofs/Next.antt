-- What comes next in a state of a graph is a state of it, where the run goes on.
use Rattle.std.proofs.Common.{◌≡◌, ℕ, suc, ◌+◌, ◌-◌, ◌<◌, ◌≤◌, Bool, true, false, List, [], ◌∷◌, ◌++◌, Option, Some, None, map, take, drop, length, refl, sym, ap, subst, ◌∙◌, arith, length-append, length-take, length-drop}
use Rattle.std.specs.Prelude.{Result, Ok, Err, IsTrue, ◌==◌, if◌then◌else◌, nat_le, slice_get, slice_set, replicate}
use Rattle.std.specs.Option.{IsSomeAnd, option_map}
use Rattle.std.specs.List.{AllZip, list_all}
use Rattle.std.proofs.lemmas.Bool.{eqb-false, eq-eqb, ne_eqb, leb-false}
use Rattle.std.proofs.lemmas.List.{length-set, length-replicate}
use Rattle.std.proofs.lemmas.Option.{same_Some}
use Rattle.c_values.specs.Kind.{is_kind}
use Rattle.c_values.proofs.Fitting.{and_left, and_right}
use Rattle.cfa.specs.declared.expr.ArrayPlace.{ArrayPlace}
use Rattle.cfa.specs.declared.expr.CellPlace.{CellPlace}
use Rattle.cfa.specs.declared.expr.Expr.{Expr}
use Rattle.cfa.specs.declared.parts.Edge.{Edge}
use Rattle.cfa.specs.declared.parts.Function.{Function}
use Rattle.cfa.specs.declared.parts.GraphParts.{GraphParts}
use Rattle.cfa.specs.declared.parts.InputFunction.{InputFunction}
use Rattle.cfa.specs.declared.parts.Node.{Node}
use Rattle.cfa.specs.declared.parts.Operation.{Operation}
use Rattle.cfa.specs.declared.parts.Operation.TheVariants.{Skip, Assign, Clear, Guard, Call, Return, Answer, Assert, Assume}
use Rattle.cfa.specs.declared.state.Frame.{Frame}
use Rattle.cfa.specs.declared.state.State.{State}
use Rattle.cfa.specs.declared.state.Trap.{Trap}
use Rattle.cfa.specs.declared.state.Trap.TheVariants as trap
use Rattle.cfa.specs.Each.{matched}
use Rattle.cfa.specs.Graph.{IsGraph, IsNodeOf, TargetFits, callee_of, call_fits, words_fit, arrays_fit, word_fits, result_kind_fits, IsExit}
use Rattle.cfa.specs.Rules.{array_fits}
use Rattle.cfa.specs.Table.{outgoing_of}
use Rattle.cfa.specs.States.{IsState, function_cells, running_frame, value_in}
use Rattle.cfa.specs.Values.{array_start, value_of}
use Rattle.cfa.proofs.Exits.{taken, given}
use Rattle.c_meaning.specs.declared.input.Input.{Input}
use Rattle.c_meaning.specs.declared.stepped.Stepped.{Stepped}
use Rattle.c_meaning.specs.declared.stepped.Stepped.TheVariants.{Returned, Trapped, Blocked, TooDeep}
use Rattle.c_meaning.specs.Places.{Leaves, storage_of}
use Rattle.c_meaning.specs.Starts.{fitted, frame_cells}
use Rattle.c_meaning.specs.Steps.{IfMoved, unless_trapped, unless_zero, cell_in, value_before, values_of, values_in, start_in, moved, put, cleared, answer_of, answered, called_frame, called, call_of, operated, along_edge, along, picked_by, picked, onward, popped, result_word, returned_by, returned_along, returned_from, left, function_at, next_within, next}
use Rattle.c_meaning.specs.Storage.{Storage, HasRoom}
use Rattle.c_meaning.proofs.Elements.{array_within}
use Rattle.c_meaning.proofs.Kept.{moved_state, pushed_state, with_cells}
use Rattle.c_meaning.proofs.Operands.{leaves_own, operands_of}
use Rattle.c_meaning.proofs.Outgoing.{outgoing_leaves}
use Rattle.c_meaning.proofs.Leaving.{Returns, returns_of, returned_state, inner_node}
use Rattle.c_meaning.proofs.StateLaws.{Of, Owned, Running, running, has_room}

-- ---- lengths

length-cleared : (cells : List ℕ) (first count : ℕ) → first + count ≤ length cells → length (cleared cells first count) ≡ length cells
length-cleared cells first count h =
    let zeros : List ℕ = replicate count 0 in
    let long : length zeros ≡ count = length-replicate count 0 in
    let back = drop (first + count) cells in
    omega (arith, length-append (take first cells) (zeros ++ back), length-append zeros back, length-take first cells, long, length-drop (first + count) cells)

matched_length : {X Y : Type 0} (test : X → Y → Bool) (xs : List X) (ys : List Y) → IsTrue (matched test xs ys) → length xs ≡ length ys
matched_length test [] [] h = refl
matched_length test [] (y ∷ ys) h = absurd cc
matched_length test (x ∷ xs) [] h = absurd cc
matched_length test (x ∷ xs) (y ∷ ys) h = ap suc (matched_length test xs ys (and_right (test x y) (matched test xs ys) h))

values_length : (cells : List ℕ) (frame : Frame) (words : List Expr) (values : List ℕ) → values_of cells frame words ≡ Ok values → length values ≡ length words
values_length cells frame [] values e = let is : [] ≡ values = cc in ap length (sym is)
values_length cells frame (word ∷ words) values e = at (value_of cells frame word) (values_of cells frame words) values (λ vs h. values_length cells frame words vs h) e
  where
    at : (r : Result ℕ Trap) (rest : Result (List ℕ) Trap) (values : List ℕ) → ((vs : List ℕ) → rest ≡ Ok vs → length vs ≡ length words) → value_before r rest ≡ Ok values → length values ≡ suc (length words)
    at (Err t) rest values more e = absurd cc
    at (Ok v) (Err t) values more e = absurd cc
    at (Ok v) (Ok vs) values more e = let is : v ∷ vs ≡ values = cc in ap length (sym is) ∙ ap suc (more vs refl)

pub length-frame_cells : (f : Function) (words : List ℕ) → length words + 1 ≤ f.cells → length (frame_cells f words) ≡ f.cells
length-frame_cells f words h =
    let zeros : List ℕ = replicate (f.cells - (length words + 1)) 0 in
    let long : length zeros ≡ f.cells - (length words + 1) = length-replicate (f.cells - (length words + 1)) 0 in
    omega (arith, length-append words zeros, long)

-- arrays that may be lent lie below the new frame
lent_all : (s : Storage) (arrays : List ArrayPlace) (counts : List ℕ) → HasRoom s → IsTrue (arrays_fit s.room arrays counts) → AllZip (λ start count. start + count ≤ length s.cells) (map (array_start s.cells s.frame) arrays) counts
lent_all s [] [] r h = tt
lent_all s [] (c ∷ counts) r h = absurd cc
lent_all s (a ∷ arrays) [] r h = absurd cc
lent_all s (a ∷ arrays) (c ∷ counts) r h =
    (array_within s a c r (and_left (array_fits s.room a c) (arrays_fit s.room arrays counts) h), lent_all s arrays counts r (and_right (array_fits s.room a c) (arrays_fit s.room arrays counts) h))

-- ---- ends

module _ (P : State → Type 0) where
  unless_keeps : {A : Type 0} (r : Result A Trap) (next : A → Stepped) → ((x : A) → r ≡ Ok x → IfMoved (next x) P) → IfMoved (unless_trapped r next) P
  unless_keeps (Ok x) next h = h x refl
  unless_keeps (Err t) next h = tt

  zero_keeps : (stopped next : Stepped) (v : ℕ) → IfMoved stopped P → IfMoved next P → IfMoved (unless_zero stopped next v) P
  zero_keeps stopped next v h k = at (v == 0)
    where
      at : (b : Bool) → IfMoved (if b then stopped else next) P
      at true = h
      at false = k

  put_keeps : (s : State) (dest : Option CellPlace) (v : ℕ) (next : List ℕ → Stepped) → ((cells : List ℕ) → length cells ≡ length s.cells → IfMoved (next cells) P) → IfMoved (put s dest v next) P
  put_keeps s None v next h = h s.cells refl
  put_keeps s (Some place) v next h = unless_keeps _ _ (λ cell e. h (slice_set s.cells cell v) (length-set s.cells cell v))

-- an operation that is neither a call nor a return leads to a node of its function
reaches_own : (parts : GraphParts) (function target : ℕ) (op : Operation) → callee_of op ≡ None → TargetFits parts function target op → IsNodeOf parts function target
reaches_own parts function target Skip c h = h
reaches_own parts function target (Assign place value) c h = h
reaches_own parts function target (Clear array count) c h = h
reaches_own parts function target (Guard test truth) c h = h
reaches_own parts function target (Call callee words arrays) c h = absurd cc
reaches_own parts function target (Return call dest) c h = h
reaches_own parts function target (Answer input dest) c h = h
reaches_own parts function target (Assert test) c h = h
reaches_own parts function target (Assume test) c h = h

module _ (parts : GraphParts) (input : Input) (s : State) (at : ℕ) (e : Edge) (g : IsGraph parts) (h : IsState parts s) (l : Leaves parts s at e) where
  -- the state's node is of the edge's function
  here : IsSomeAnd (slice_get parts.nodes s.node) (Of e.function)
  here = subst (λ n. IsNodeOf parts e.function n) l.1 (leaves_own parts e.function e.source e.operation l.2 (g.edges at e l.0).leaves)

  -- the run goes to the edge's target, with as many cells
  stays : (cells : List ℕ) (answers : ℕ) → callee_of e.operation ≡ None → length cells ≡ length s.cells → IsState parts (record { node = e.target; frames = s.frames; cells = cells; taken = answers })
  stays cells answers c same =
      moved_state parts s e.target e.function answers cells h here (reaches_own parts e.function e.target e.operation c (g.edges at e l.0).reaches) same

  abbrev Entered : Function → Type 0
  Entered f = e.target ≡ f.entry

  called_keeps : (callee : ℕ) (words : List Expr) (arrays : List ArrayPlace) (f : Function) (values : List ℕ) → e.operation ≡ Call callee words arrays → slice_get parts.functions callee ≡ Some f → length s.frames < 64 → values_in s words ≡ Ok values → IfMoved (called s at e (map (start_in s) arrays) f values) (IsState parts)
  called_keeps callee words arrays f values is own few done =
      let fits = operands_of parts s at e (Call callee words arrays) g h l is in
      let storage = storage_of parts s in
      let good : IsTrue (call_fits storage.room (Some f) words arrays) = subst (λ o. IsTrue (call_fits storage.room o words arrays)) own fits in
      let words_good = and_left (words_fit storage.room words f.parameters) (arrays_fit storage.room arrays f.arrays) good in
      let arrays_good = and_right (words_fit storage.room words f.parameters) (arrays_fit storage.room arrays f.arrays) good in
      let function = g.rest.functions callee f own in
      let count = matched_length (word_fits storage.room) words f.parameters words_good in
      let long = values_length s.cells (running_frame s) words values done in
      let least = function.least_cells in
      let entered = taken Entered (slice_get parts.functions callee) (subst (TargetFits parts e.function e.target) is (g.edges at e l.0).reaches) in
      let same : entered.0 ≡ f = same_Some entered.0 f (sym entered.1 ∙ own) in
      let there : IsNodeOf parts callee e.target = subst (IsNodeOf parts callee) (sym (entered.2 ∙ ap (λ (q : Function). q.entry) same)) function.entry in
      let n = taken (Owned parts s h.owners) (slice_get parts.nodes s.node) h.node in
      let m = taken (Of e.function) (slice_get parts.nodes s.node) here in
      let function_is : n.0.function ≡ e.function = ap (λ (p : Node). p.function) (same_Some n.0 m.0 (sym n.1 ∙ m.1)) ∙ m.2 in
      let frame = called_frame s at (map (start_in s) arrays) in
      pushed_state parts s h callee frame e.target s.taken (frame_cells f values) few
      (λ below b. given (λ (q : Edge). (q.function ≡ below) × (callee_of q.operation ≡ Some callee)) (slice_get parts.edges at) e l.0 (sym function_is ∙ same_Some n.0.function below (sym n.2 ∙ b), ap callee_of is))
      there h.cells (length-frame_cells f values (omega (arith, long, count, least)) ∙ sym (ap function_cells own))
      (given (λ (q : Function). AllZip (λ start count. start + count ≤ frame.base) frame.arrays q.arrays) (slice_get parts.functions callee) f own (lent_all storage arrays f.arrays (has_room parts s g h) arrays_good))

  call_keeps : (callee : ℕ) (words : List Expr) (arrays : List ArrayPlace) → e.operation ≡ Call callee words arrays → IfMoved (call_of s at e words arrays (slice_get parts.functions callee)) (IsState parts)
  call_keeps callee words arrays is = by (slice_get parts.functions callee) refl
    where
      few_or : (f : Function) → slice_get parts.functions callee ≡ Some f → (b : Bool) → nat_le 64 (length s.frames) ≡ b → IfMoved (if b then TooDeep else unless_trapped (values_in s words) (called s at e (map (start_in s) arrays) f)) (IsState parts)
      few_or f own true b = tt
      few_or f own false b =
          unless_keeps (IsState parts) (values_in s words) _ (λ values done. called_keeps callee words arrays f values is own (leb-false 64 (length s.frames) b) done)

      by : (o : Option Function) → slice_get parts.functions callee ≡ o → IfMoved (call_of s at e words arrays o) (IsState parts)
      by None own = tt
      by (Some f) own = few_or f own (nat_le 64 (length s.frames)) refl

  answer_keeps : (number : ℕ) (dest : Option CellPlace) (o : Option InputFunction) → e.operation ≡ Answer number dest → IfMoved (answered input s at e dest o) (IsState parts)
  answer_keeps number dest None is = tt
  answer_keeps number dest (Some f) is =
      put_keeps (IsState parts) s dest (answer_of input f.result s.taken) _ (λ cells same. stays cells (s.taken + 1) (ap callee_of is) same)

  -- what an operation does keeps to states of the graph
  pub operated_keeps : (op : Operation) → e.operation ≡ op → IfMoved (operated parts input s at e op) (IsState parts)
  operated_keeps Skip is = stays s.cells s.taken (ap callee_of is) refl
  operated_keeps (Assign place value) is =
      unless_keeps (IsState parts) (cell_in s place) (λ cell. unless_trapped (value_in s value) (λ v. moved at e s (slice_set s.cells cell v))) (λ cell c.
      unless_keeps (IsState parts) (value_in s value) (λ v. moved at e s (slice_set s.cells cell v)) (λ v d. stays (slice_set s.cells cell v) s.taken (ap callee_of is) (length-set s.cells cell v)))
  operated_keeps (Clear array count) is =
      let within = array_within (storage_of parts s) array count (has_room parts s g h) (operands_of parts s at e (Clear array count) g h l is) in
      stays (cleared s.cells (start_in s array) count) s.taken (ap callee_of is) (length-cleared s.cells (start_in s array) count within)
  operated_keeps (Guard test truth) is = stays s.cells s.taken (ap callee_of is) refl
  operated_keeps (Call callee words arrays) is = call_keeps callee words arrays is
  operated_keeps (Return call dest) is = tt
  operated_keeps (Answer number dest) is = answer_keeps number dest (slice_get parts.inputs number) is
  operated_keeps (Assert test) is =
      unless_keeps (IsState parts) (value_in s test) (unless_zero (Trapped trap.Assert) (moved at e s s.cells)) (λ v c. zero_keeps (IsState parts) (Trapped trap.Assert) (moved at e s s.cells) v tt (stays s.cells s.taken (ap callee_of is) refl))
  operated_keeps (Assume test) is =
      unless_keeps (IsState parts) (value_in s test) (unless_zero Blocked (moved at e s s.cells)) (λ v c. zero_keeps (IsState parts) Blocked (moved at e s s.cells) v tt (stays s.cells s.taken (ap callee_of is) refl))

-- ---- from a node

module _ (parts : GraphParts) (input : Input) (s : State) (g : IsGraph parts) (h : IsState parts s) where
  along_keeps : (at : ℕ) → IsSomeAnd (slice_get parts.edges at) (Leaves parts s at) → IfMoved (along parts input s at) (IsState parts)
  along_keeps at there =
      let e = taken (Leaves parts s at) (slice_get parts.edges at) there in
      subst (λ o. IfMoved (along_edge parts input s at o) (IsState parts)) (sym e.1) (operated_keeps parts input s at e.0 g h e.2 e.0.operation refl)

  zero_picks : (a b : Stepped) (v : ℕ) → IfMoved a (IsState parts) → IfMoved b (IsState parts) → IfMoved (if v == 0 then a else b) (IsState parts)
  zero_picks a b v p q = zero_keeps (IsState parts) a b v p q

  picked_keeps : (yes_at no_at : ℕ) (o : Option Edge) → IsSomeAnd (slice_get parts.edges yes_at) (Leaves parts s yes_at) → IsSomeAnd (slice_get parts.edges no_at) (Leaves parts s no_at) → IfMoved (picked parts input s yes_at no_at o) (IsState parts)
  picked_keeps yes_at no_at None p q = tt
  picked_keeps yes_at no_at (Some e) p q = by e.operation
    where
      by : (op : Operation) → IfMoved (picked_by parts input s yes_at no_at op) (IsState parts)
      by (Guard test truth) =
          unless_keeps (IsState parts) (value_in s test) (λ v. if v == 0 then along parts input s no_at else along parts input s yes_at) (λ v c. zero_picks (along parts input s no_at) (along parts input s yes_at) v (along_keeps no_at q) (along_keeps yes_at p))
      by _ = tt

  onward_keeps : (row : List ℕ) → ((j at : ℕ) → slice_get row j ≡ Some at → IsSomeAnd (slice_get parts.edges at) (Leaves parts s at)) → IfMoved (onward parts input s row) (IsState parts)
  onward_keeps [] each = tt
  onward_keeps (at ∷ []) each = along_keeps at (each 0 at refl)
  onward_keeps (yes_at ∷ no_at ∷ rest) each =
      picked_keeps yes_at no_at (slice_get parts.edges yes_at) (each 0 yes_at refl) (each 1 no_at refl)

  -- going on from a node that is no exit keeps to states of the graph
  pub inner_keeps : ¬ IsExit parts s.node → IfMoved (onward parts input s (outgoing_of parts s.node)) (IsState parts)
  inner_keeps inner = onward_keeps (outgoing_of parts s.node) (λ j at e. outgoing_leaves parts s j at g inner e)

-- ---- from an exit

returned_keeps : (parts : GraphParts) (s : State) (g : IsGraph parts) (h : IsState parts s) (r : Returns parts s h) (op : Operation) → IfMoved (returned_by s (r.call + 1) r.edge op) (IsState parts)
returned_keeps parts s g h r (Return call dest) =
    put_keeps (IsState parts) (popped s) dest (result_word s) (moved (r.call + 1) r.edge (popped s)) (λ cells same. with_cells parts (popped s) r.edge.target cells (returned_state parts s g h r s.taken) same)
returned_keeps parts s g h r _ = tt

left_keeps : (parts : GraphParts) (s : State) (f : Function) → IsGraph parts → IsState parts s → IfMoved (left parts s f) (IsState parts)
left_keeps parts s f g h = by (length s.frames == 1) refl
  where
    from : (r : Returns parts s h) → IfMoved (returned_from parts s (Some r.call)) (IsState parts)
    from r = subst (λ o. IfMoved (returned_along s (r.call + 1) o) (IsState parts)) (sym r.edge_is) (returned_keeps parts s g h r r.edge.operation)

    by : (b : Bool) → (length s.frames == 1) ≡ b → IfMoved (if b then Returned (option_map (λ kind. fitted kind (result_word s)) f.result) else returned_from parts s (running_frame s).call) (IsState parts)
    by true e = tt
    by false e =
        let r = returns_of parts s g h (eqb-false (length s.frames) 1 e) in
        subst (λ o. IfMoved (returned_from parts s o) (IsState parts)) (sym r.call_is) (from r)

-- ---- by the node

pub next_left : (parts : GraphParts) (input : Input) (s : State) (f : Function) → function_at parts s.node ≡ Some f → s.node ≡ f.exit → next parts input s ≡ left parts s f
unfolding next
next_left parts input s f own exit = rw (own, eq-eqb s.node f.exit exit) refl

pub next_onward : (parts : GraphParts) (input : Input) (s : State) (f : Function) → function_at parts s.node ≡ Some f → (s.node ≡ f.exit → ⊥) → next parts input s ≡ onward parts input s (outgoing_of parts s.node)
unfolding next
next_onward parts input s f own apart = rw (own, ne_eqb s.node f.exit apart) refl

-- the function of a node has a result of a kind, or none
pub owner_kind : (parts : GraphParts) (s : State) (f : Function) → IsGraph parts → IsState parts s → function_at parts s.node ≡ Some f → IsTrue (result_kind_fits f.result)
owner_kind parts s f g h own =
    let r = running parts s g h in
    let same : r.at.own ≡ f = same_Some r.at.own f (sym r.at.found ∙ own) in
    subst (λ (q : Function). IsTrue (result_kind_fits q.result)) same (and_right (list_all is_kind r.at.own.parameters) (result_kind_fits r.at.own.result) (g.rest.functions r.at.place.function r.at.own r.at.own_is).signature)

pub owner_inner : (parts : GraphParts) (s : State) (f : Function) → IsGraph parts → IsState parts s → function_at parts s.node ≡ Some f → (s.node ≡ f.exit → ⊥) → ¬ IsExit parts s.node
owner_inner parts s f g h own apart =
    let r = running parts s g h in inner_node parts s.node f g r.at (same_Some r.at.own f (sym r.at.found ∙ own)) apart

-- what comes next keeps to states of the graph
pub next_keeps : (parts : GraphParts) (input : Input) (s : State) → IsGraph parts → IsState parts s → IfMoved (next parts input s) (IsState parts)
unfolding next
next_keeps parts input s g h =
    let r = running parts s g h in
    subst (λ o. IfMoved (next_within parts input s o) (IsState parts)) (sym r.at.found) (by r r.at.own refl (s.node == r.at.own.exit) refl)
  where
    by : (r : Running parts s) (f : Function) → r.at.own ≡ f → (b : Bool) → (s.node == f.exit) ≡ b → IfMoved (if b then left parts s f else onward parts input s (outgoing_of parts s.node)) (IsState parts)
    by r f own true e = left_keeps parts s f g h
    by r f own false e = inner_keeps parts input s g h (inner_node parts s.node f g r.at own (eqb-false s.node f.exit e))
