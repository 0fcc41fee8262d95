-- What comes next in a state for two inputs: it hangs on the input only where an answer is taken.
use Rattle.std.proofs.Common.{◌≡◌, ℕ, ◌+◌, Bool, true, false, List, [], ◌∷◌, map, length, Some, None, Option, refl, sym, ap, subst, ◌∙◌, arith}
use Rattle.std.specs.Prelude.{Result, Ok, Err, ◌==◌, nat_le, if◌then◌else◌, slice_get, slice_set}
use Rattle.std.specs.Option.{option_map, option_to_list}
use Rattle.c_meaning.specs.Runs.{state_moved}
use Rattle.c_meaning.specs.Starts.{fitted}
use Rattle.c_meaning.specs.Steps.{along, along_edge, answer_of, answered, call_of, called, cell_in, function_at, left, moved, next, next_within, onward, operated, picked, picked_by, popped, put, result_word, returned_along, returned_by, returned_from, start_in, unless_trapped, unless_zero, values_in}
use Rattle.c_meaning.specs.declared.input.Input.{Input}
use Rattle.c_meaning.specs.declared.stepped.Stepped.{Stepped}
use Rattle.c_meaning.specs.declared.stepped.Stepped.TheVariants.{Moved, Returned, Trapped, Blocked, TooDeep}
use Rattle.cfa.specs.States.{running_frame, value_in}
use Rattle.cfa.specs.Table.{outgoing_of}
use Rattle.cfa.specs.declared.expr.ArrayPlace.{ArrayPlace}
use Rattle.cfa.specs.declared.expr.CellPlace.{CellPlace}
use Rattle.cfa.specs.declared.expr.Expr.{Expr}
use Rattle.cfa.specs.declared.parts.Edge.{Edge}
use Rattle.cfa.specs.declared.parts.Function.{Function}
use Rattle.cfa.specs.declared.parts.GraphParts.{GraphParts}
use Rattle.cfa.specs.declared.parts.InputFunction.{InputFunction}
use Rattle.cfa.specs.declared.parts.Operation.{Operation}
use Rattle.cfa.specs.declared.parts.Operation.TheVariants.{Skip, Assign, Clear, Guard, Call, Return, Answer, Assert, Assume}
use Rattle.cfa.specs.declared.state.State.{State}
use Rattle.cfa.specs.declared.state.Trap.{Trap}
use Rattle.cfa.specs.declared.state.Trap.TheVariants as trap
use Rattle.path_runner.specs.Paths.{answer_along, answer_at, answer_by, answer_on}
use Rattle.measurer_hits.specs.run_laws.Alike.{AnswerAlike}

-- ---- what holds of each edge's operation holds of what comes next

module _ (parts : GraphParts) (x y : Input) (s : State) (P : Stepped → Stepped → Type 0)
    (blocked : P Blocked Blocked) (trapped : (t : Trap) → P (Trapped t) (Trapped t)) (leaves : (f : Function) → P (left parts s f) (left parts s f))
    (edges : (k : ℕ) (e : Edge) → slice_get parts.edges k ≡ Some e → P (operated parts x s k e e.operation) (operated parts y s k e e.operation)) where
  along_related : (k : ℕ) → P (along parts x s k) (along parts y s k)
  along_related k = by (slice_get parts.edges k) refl
    where
      by : (o : Option Edge) → slice_get parts.edges k ≡ o → P (along_edge parts x s k o) (along_edge parts y s k o)
      by None is = blocked
      by (Some e) is = edges k e is

  picked_related : (yes_at no_at : ℕ) (op : Operation) → P (picked_by parts x s yes_at no_at op) (picked_by parts y s yes_at no_at op)
  picked_related yes_at no_at (Guard test truth) = by (value_in s test)
    where
      pick : (b : Bool) → P (if b then along parts x s no_at else along parts x s yes_at) (if b then along parts y s no_at else along parts y s yes_at)
      pick true = along_related no_at
      pick false = along_related yes_at

      by : (r : Result ℕ Trap) → P (unless_trapped r (λ v. if v == 0 then along parts x s no_at else along parts x s yes_at)) (unless_trapped r (λ v. if v == 0 then along parts y s no_at else along parts y s yes_at))
      by (Err t) = trapped t
      by (Ok v) = pick (v == 0)
  picked_related yes_at no_at Skip = blocked
  picked_related yes_at no_at (Assign place value) = blocked
  picked_related yes_at no_at (Clear array count) = blocked
  picked_related yes_at no_at (Call callee words arrays) = blocked
  picked_related yes_at no_at (Return call dest) = blocked
  picked_related yes_at no_at (Answer number dest) = blocked
  picked_related yes_at no_at (Assert test) = blocked
  picked_related yes_at no_at (Assume test) = blocked

  edge_related : (yes_at no_at : ℕ) (o : Option Edge) → P (picked parts x s yes_at no_at o) (picked parts y s yes_at no_at o)
  edge_related yes_at no_at None = blocked
  edge_related yes_at no_at (Some e) = picked_related yes_at no_at e.operation

  onward_related : (row : List ℕ) → P (onward parts x s row) (onward parts y s row)
  onward_related [] = blocked
  onward_related (k ∷ []) = along_related k
  onward_related (yes_at ∷ no_at ∷ rest) = edge_related yes_at no_at (slice_get parts.edges yes_at)

  within_related : (o : Option Function) → P (next_within parts x s o) (next_within parts y s o)
  within_related None = blocked
  within_related (Some f) = by (s.node == f.exit)
    where
      by : (b : Bool) → P (if b then left parts s f else onward parts x s (outgoing_of parts s.node)) (if b then left parts s f else onward parts y s (outgoing_of parts s.node))
      by true = leaves f
      by false = onward_related (outgoing_of parts s.node)

  pub next_related : P (next parts x s) (next parts y s)
  unfolding next
  next_related = within_related (function_at parts s.node)

-- ---- a step along an edge

-- the answer that an edge reads, if it reads one, is the same of both inputs
abbrev pub ReadsAlike : GraphParts → Input → Input → ℕ → ℕ → Type 0
ReadsAlike parts x y at number =
    (e : Edge) (function : ℕ) (dest : Option CellPlace) (g : InputFunction) → slice_get parts.edges at ≡ Some e → e.operation ≡ Answer function dest → slice_get parts.inputs function ≡ Some g → answer_of y g.result number ≡ answer_of x g.result number

-- a value is put along this edge
put_via : (s to : State) (k at : ℕ) (dest : Option CellPlace) (v : ℕ) (f : List ℕ → State) → put s dest v (λ cells. Moved k (f cells)) ≡ Moved at to → k ≡ at
put_via s to k at None v f h = cc
put_via s to k at (Some place) v f h = by (cell_in s place) h
  where
    by : (r : Result ℕ Trap) → unless_trapped r (λ cell. Moved k (f (slice_set s.cells cell v))) ≡ Moved at to → k ≡ at
    by (Ok cell) g = cc
    by (Err t) g = absurd cc

module _ (parts : GraphParts) (x y : Input) (s to : State) (at : ℕ) (alike : ReadsAlike parts x y at s.taken) where
  abbrev Goes : Stepped → Stepped → Type 0
  Goes a b = a ≡ Moved at to → b ≡ Moved at to

  answered_goes : (k : ℕ) (e : Edge) (function : ℕ) (dest : Option CellPlace) (o : Option InputFunction) → slice_get parts.edges k ≡ Some e → e.operation ≡ Answer function dest → slice_get parts.inputs function ≡ o → Goes (answered x s k e dest o) (answered y s k e dest o)
  answered_goes k e function dest None there is own h = absurd cc
  answered_goes k e function dest (Some g) there is own h =
      let f : List ℕ → State = λ cells. record s { node = e.target; cells = cells; taken = s.taken + 1 } in
      let via : k ≡ at = put_via s to k at dest (answer_of x g.result s.taken) f h in
      let same = alike e function dest g (subst (λ n. slice_get parts.edges n ≡ Some e) via there) is own in
      ap (λ v. put s dest v (λ cells. Moved k (f cells))) same ∙ h

  operated_goes : (k : ℕ) (e : Edge) (op : Operation) → slice_get parts.edges k ≡ Some e → e.operation ≡ op → Goes (operated parts x s k e op) (operated parts y s k e op)
  operated_goes k e Skip there is h = h
  operated_goes k e (Assign place value) there is h = h
  operated_goes k e (Clear array count) there is h = h
  operated_goes k e (Guard test truth) there is h = h
  operated_goes k e (Call callee words arrays) there is h = h
  operated_goes k e (Return call dest) there is h = h
  operated_goes k e (Answer function dest) there is h = answered_goes k e function dest (slice_get parts.inputs function) there is refl h
  operated_goes k e (Assert test) there is h = h
  operated_goes k e (Assume test) there is h = h

  pub next_goes : next parts x s ≡ Moved at to → next parts y s ≡ Moved at to
  next_goes = next_related parts x y s Goes (λ h. h) (λ t h. h) (λ f h. h) (λ k e there. operated_goes k e e.operation there refl)

-- ---- a state from which the run doesn't go on

module _ (parts : GraphParts) (x y : Input) (s : State) where
  abbrev Stops : Stepped → Stepped → Type 0
  Stops a b = state_moved a ≡ None → b ≡ a

  answered_stops : (k : ℕ) (e : Edge) (dest : Option CellPlace) (o : Option InputFunction) → Stops (answered x s k e dest o) (answered y s k e dest o)
  answered_stops k e dest None h = refl
  answered_stops k e None (Some g) h = absurd cc
  answered_stops k e (Some place) (Some g) h = by (cell_in s place) h
    where
      by : (r : Result ℕ Trap)
          → Stops (unless_trapped r (λ cell. Moved k (record s { node = e.target; cells = slice_set s.cells cell (answer_of x g.result s.taken); taken = s.taken + 1 }))) (unless_trapped r (λ cell. Moved k (record s { node = e.target; cells = slice_set s.cells cell (answer_of y g.result s.taken); taken = s.taken + 1 })))
      by (Ok cell) moves = absurd cc
      by (Err t) moves = refl

  operated_stops : (k : ℕ) (e : Edge) (op : Operation) → Stops (operated parts x s k e op) (operated parts y s k e op)
  operated_stops k e Skip h = refl
  operated_stops k e (Assign place value) h = refl
  operated_stops k e (Clear array count) h = refl
  operated_stops k e (Guard test truth) h = refl
  operated_stops k e (Call callee words arrays) h = refl
  operated_stops k e (Return call dest) h = refl
  operated_stops k e (Answer function dest) h = answered_stops k e dest (slice_get parts.inputs function) h
  operated_stops k e (Assert test) h = refl
  operated_stops k e (Assume test) h = refl

  pub next_stops : state_moved (next parts x s) ≡ None → next parts y s ≡ next parts x s
  next_stops = next_related parts x y s Stops (λ h. refl) (λ t h. refl) (λ f h. refl) (λ k e there. operated_stops k e e.operation)

-- ---- how many answers are taken

-- it goes on along this edge, to a state where so many answers are taken, if it goes on
abbrev TakesTo : ℕ → ℕ → Stepped → Type 0
TakesTo k n (Moved at to) = (at ≡ k) × (to.taken ≡ n)
TakesTo k n (Returned value) = Unit {0}
TakesTo k n (Trapped t) = Unit {0}
TakesTo k n Blocked = Unit {0}
TakesTo k n TooDeep = Unit {0}

takes_unless : {A : Type 0} (k n : ℕ) (r : Result A Trap) (f : A → Stepped) → ((v : A) → TakesTo k n (f v)) → TakesTo k n (unless_trapped r f)
takes_unless k n (Ok v) f h = h v
takes_unless k n (Err t) f h = tt

takes_if : (k n : ℕ) (b : Bool) (a c : Stepped) → TakesTo k n a → TakesTo k n c → TakesTo k n (if b then a else c)
takes_if k n true a c h g = h
takes_if k n false a c h g = g

takes_put : (k n : ℕ) (s : State) (dest : Option CellPlace) (v : ℕ) (f : List ℕ → Stepped) → ((cells : List ℕ) → TakesTo k n (f cells)) → TakesTo k n (put s dest v f)
takes_put k n s None v f h = h s.cells
takes_put k n s (Some place) v f h = takes_unless k n (cell_in s place) _ (λ cell. h _)

module _ (parts : GraphParts) (x : Input) (s : State) where
  -- how many answers the edge of a number reads in this state
  abbrev pub reads_along : ℕ → ℕ
  reads_along at = length (option_to_list (answer_along parts x at s.taken))

  abbrev reads_at : Operation → ℕ
  reads_at op = length (option_to_list (answer_at parts x s.taken op))

  none_read : s.taken ≡ s.taken + 0
  none_read = omega arith

  answered_takes : (k : ℕ) (e : Edge) (dest : Option CellPlace) (o : Option InputFunction) → TakesTo k (s.taken + length (option_to_list (answer_by x s.taken o))) (answered x s k e dest o)
  answered_takes k e dest None = tt
  answered_takes k e dest (Some g) = takes_put k (s.taken + 1) s dest (answer_of x g.result s.taken) _ (λ cells. (refl, refl))

  call_takes : (k : ℕ) (e : Edge) (words : List Expr) (arrays : List ArrayPlace) (o : Option Function) → TakesTo k (s.taken + 0) (call_of s k e words arrays o)
  call_takes k e words arrays None = tt
  call_takes k e words arrays (Some f) =
      takes_if k (s.taken + 0) (nat_le 64 (length s.frames)) TooDeep (unless_trapped (values_in s words) (called s k e (map (start_in s) arrays) f)) tt
      (takes_unless k (s.taken + 0) (values_in s words) (called s k e (map (start_in s) arrays) f) (λ values. (refl, none_read)))

  test_takes : (k : ℕ) (e : Edge) (test : Expr) (stopped : Stepped) → TakesTo k (s.taken + 0) stopped → TakesTo k (s.taken + 0) (unless_trapped (value_in s test) (unless_zero stopped (moved k e s s.cells)))
  test_takes k e test stopped h =
      takes_unless k (s.taken + 0) (value_in s test) (unless_zero stopped (moved k e s s.cells)) (λ v. takes_if k (s.taken + 0) (v == 0) stopped (moved k e s s.cells) h (refl, none_read))

  operated_takes : (k : ℕ) (e : Edge) (op : Operation) → TakesTo k (s.taken + reads_at op) (operated parts x s k e op)
  operated_takes k e Skip = (refl, none_read)
  operated_takes k e (Assign place value) =
      takes_unless k (s.taken + 0) (cell_in s place) _ (λ cell. takes_unless k (s.taken + 0) (value_in s value) _ (λ v. (refl, none_read)))
  operated_takes k e (Clear array count) = (refl, none_read)
  operated_takes k e (Guard test truth) = (refl, none_read)
  operated_takes k e (Call callee words arrays) = call_takes k e words arrays (slice_get parts.functions callee)
  operated_takes k e (Return call dest) = tt
  operated_takes k e (Answer function dest) = answered_takes k e dest (slice_get parts.inputs function)
  operated_takes k e (Assert test) = test_takes k e test (Trapped trap.Assert) tt
  operated_takes k e (Assume test) = test_takes k e test Blocked tt

  returned_takes : (k : ℕ) (e : Edge) (op : Operation) → TakesTo k (s.taken + reads_at op) (returned_by s k e op)
  returned_takes k e (Return call dest) = takes_put k (s.taken + 0) (popped s) dest (result_word s) (moved k e (popped s)) (λ cells. (refl, none_read))
  returned_takes k e Skip = tt
  returned_takes k e (Assign place value) = tt
  returned_takes k e (Clear array count) = tt
  returned_takes k e (Guard test truth) = tt
  returned_takes k e (Call callee words arrays) = tt
  returned_takes k e (Answer function dest) = tt
  returned_takes k e (Assert test) = tt
  returned_takes k e (Assume test) = tt

  abbrev Takes : Stepped → Stepped → Type 0
  Takes a b = (at : ℕ) (to : State) → a ≡ Moved at to → to.taken ≡ s.taken + reads_along at

  along_takes : (k : ℕ) (e : Edge) (a : Stepped) → slice_get parts.edges k ≡ Some e → TakesTo k (s.taken + reads_at e.operation) a → Takes a a
  along_takes k e a there h at to is =
      let it : TakesTo k (s.taken + reads_at e.operation) (Moved at to) = subst (TakesTo k (s.taken + reads_at e.operation)) is h in
      let own : slice_get parts.edges at ≡ Some e = ap (slice_get parts.edges) it.0 ∙ there in
      it.1 ∙ ap (λ o. s.taken + length (option_to_list (answer_on parts x s.taken o))) (sym own)

  back_takes : (k : ℕ) (o : Option Edge) → slice_get parts.edges k ≡ o → Takes (returned_along s k o) (returned_along s k o)
  back_takes k None there at to h = absurd cc
  back_takes k (Some e) there at to h = along_takes k e (returned_by s k e e.operation) there (returned_takes k e e.operation) at to h

  from_takes : (call : Option ℕ) → Takes (returned_from parts s call) (returned_from parts s call)
  from_takes None at to h = absurd cc
  from_takes (Some call) at to h = back_takes (call + 1) (slice_get parts.edges (call + 1)) refl at to h

  left_takes : (f : Function) → Takes (left parts s f) (left parts s f)
  left_takes f = by (length s.frames == 1)
    where
      by : (b : Bool) → Takes (if b then Returned (option_map (λ kind. fitted kind (result_word s)) f.result) else returned_from parts s (running_frame s).call) (if b then Returned (option_map (λ kind. fitted kind (result_word s)) f.result) else returned_from parts s (running_frame s).call)
      by true at to h = absurd cc
      by false at to h = from_takes (running_frame s).call at to h

  -- a run takes the answers that the edge reads
  pub next_takes : (at : ℕ) (to : State) → next parts x s ≡ Moved at to → to.taken ≡ s.taken + reads_along at
  next_takes = next_related parts x x s Takes (λ at to h. absurd cc) (λ t at to h. absurd cc) left_takes (λ k e there. along_takes k e (operated parts x s k e e.operation) there (operated_takes k e e.operation))

-- ---- for any two inputs, and where the next answer is alike

-- the edge along which the run goes on, or how it ends
abbrev pub shape : Stepped → Result ℕ Stepped
shape (Moved at to) = Ok at
shape (Returned value) = Err (Returned value)
shape (Trapped t) = Err (Trapped t)
shape Blocked = Err Blocked
shape TooDeep = Err TooDeep

module _ (parts : GraphParts) (x y : Input) (s : State) where
  abbrev SameShape : Stepped → Stepped → Type 0
  SameShape a b = shape a ≡ shape b

  answered_shape : (k : ℕ) (e : Edge) (dest : Option CellPlace) (o : Option InputFunction) → SameShape (answered x s k e dest o) (answered y s k e dest o)
  answered_shape k e dest None = refl
  answered_shape k e None (Some g) = refl
  answered_shape k e (Some place) (Some g) = by (cell_in s place)
    where
      by : (r : Result ℕ Trap)
          → SameShape (unless_trapped r (λ cell. Moved k (record s { node = e.target; cells = slice_set s.cells cell (answer_of x g.result s.taken); taken = s.taken + 1 }))) (unless_trapped r (λ cell. Moved k (record s { node = e.target; cells = slice_set s.cells cell (answer_of y g.result s.taken); taken = s.taken + 1 })))
      by (Ok cell) = refl
      by (Err t) = refl

  operated_shape : (k : ℕ) (e : Edge) (op : Operation) → SameShape (operated parts x s k e op) (operated parts y s k e op)
  operated_shape k e Skip = refl
  operated_shape k e (Assign place value) = refl
  operated_shape k e (Clear array count) = refl
  operated_shape k e (Guard test truth) = refl
  operated_shape k e (Call callee words arrays) = refl
  operated_shape k e (Return call dest) = refl
  operated_shape k e (Answer function dest) = answered_shape k e dest (slice_get parts.inputs function)
  operated_shape k e (Assert test) = refl
  operated_shape k e (Assume test) = refl

  pub same_shape : shape (next parts x s) ≡ shape (next parts y s)
  same_shape = next_related parts x y s SameShape refl (λ t. refl) (λ f. refl) (λ k e there. operated_shape k e e.operation)

  module _ (alike : AnswerAlike parts x y s.taken) where
    answered_same : (k function : ℕ) (e : Edge) (dest : Option CellPlace) (o : Option InputFunction) → slice_get parts.inputs function ≡ o → answered x s k e dest o ≡ answered y s k e dest o
    answered_same k function e dest None own = refl
    answered_same k function e dest (Some g) own =
        ap (λ v. put s dest v (λ cells. Moved k (record s { node = e.target; cells = cells; taken = s.taken + 1 }))) (alike function g own)

    operated_same : (k : ℕ) (e : Edge) (op : Operation) → operated parts x s k e op ≡ operated parts y s k e op
    operated_same k e Skip = refl
    operated_same k e (Assign place value) = refl
    operated_same k e (Clear array count) = refl
    operated_same k e (Guard test truth) = refl
    operated_same k e (Call callee words arrays) = refl
    operated_same k e (Return call dest) = refl
    operated_same k e (Answer function dest) = answered_same k function e dest (slice_get parts.inputs function) refl
    operated_same k e (Assert test) = refl
    operated_same k e (Assume test) = refl

    pub next_same : next parts x s ≡ next parts y s
    next_same = next_related parts x y s (λ a b. a ≡ b) refl (λ t. refl) (λ f. refl) (λ k e there. operated_same k e e.operation)
