-- What comes next hangs on the input's answers only where an answer is taken.
use Rattle.std.proofs.Common.{◌≡◌, ℕ, Bool, true, false, List, [], ◌∷◌, Some, None, Option, refl, sym, ap, subst, ◌∙◌}
use Rattle.std.specs.Prelude.{Result, Ok, Err, ◌==◌, if◌then◌else◌, slice_get}
use Rattle.cfa.specs.declared.expr.CellPlace.{CellPlace}
use Rattle.cfa.specs.declared.parts.Edge.{Edge}
use Rattle.cfa.specs.declared.parts.Function.{Function}
use Rattle.cfa.specs.declared.parts.GraphParts.{GraphParts}
use Rattle.cfa.specs.declared.parts.InputFunction.{InputFunction}
use Rattle.cfa.specs.declared.parts.Operation.{Operation}
use Rattle.cfa.specs.declared.parts.Operation.TheVariants.{Skip, Assign, Clear, Guard, Call, Return, Answer, Assert, Assume}
use Rattle.cfa.specs.declared.state.State.{State}
use Rattle.cfa.specs.declared.state.Trap.{Trap}
use Rattle.cfa.specs.declared.state.Trap.TheVariants as trap
use Rattle.cfa.specs.States.{value_in}
use Rattle.cfa.specs.Table.{outgoing_of}
use Rattle.c_meaning.specs.declared.input.Input.{Input}
use Rattle.c_meaning.specs.declared.stepped.Stepped.{Stepped}
use Rattle.c_meaning.specs.declared.stepped.Stepped.TheVariants.{Moved, Returned, Trapped, Blocked, TooDeep}
use Rattle.c_meaning.specs.Steps.{along, along_edge, answer_of, answered, call_of, cell_in, function_at, left, moved, next, next_within, onward, operated, picked, picked_by, put, unless_trapped, values_in}
use Rattle.unwinder_reach.specs.reached.Searching.{is_answer}
use Rattle.std.specs.Prelude.{length, nat_le}

-- it goes on along this edge, if it does
abbrev IsVia : ℕ → Stepped → Type 0
IsVia k (Moved at to) = at ≡ k
IsVia k (Returned value) = Unit {0}
IsVia k (Trapped t) = Unit {0}
IsVia k Blocked = Unit {0}
IsVia k TooDeep = Unit {0}

via_unless : {A : Type 0} (k : ℕ) (r : Result A Trap) (f : A → Stepped) → ((v : A) → IsVia k (f v)) → IsVia k (unless_trapped r f)
via_unless k (Ok v) f h = h v
via_unless k (Err t) f h = tt

via_if : (k : ℕ) (b : Bool) (x y : Stepped) → IsVia k x → IsVia k y → IsVia k (if b then x else y)
via_if k true x y h g = h
via_if k false x y h g = g

via_put : (k : ℕ) (s : State) (dest : Option CellPlace) (v : ℕ) (f : List ℕ → Stepped) → ((cs : List ℕ) → IsVia k (f cs)) → IsVia k (put s dest v f)
via_put k s None v f h = h s.cells
via_put k s (Some place) v f h = via_unless k (cell_in s place) _ (λ cell. h _)

module _ (parts : GraphParts) (x : Input) (s : State) (k : ℕ) (e : Edge) where
  via_answered : (dest : Option CellPlace) (o : Option InputFunction) → IsVia k (answered x s k e dest o)
  via_answered dest None = tt
  via_answered dest (Some f) = via_put k s dest (answer_of x f.result s.taken) _ (λ cs. refl)

  via_call : (words : List _) (arrays : List _) (o : Option Function) → IsVia k (call_of s k e words arrays o)
  via_call words arrays None = tt
  via_call words arrays (Some f) = via_if k (nat_le 64 (length s.frames)) TooDeep _ tt (via_unless k (values_in s words) _ (λ vs. refl))

  via_operated : (op : Operation) → IsVia k (operated parts x s k e op)
  via_operated Skip = refl
  via_operated (Assign place value) = via_unless k (cell_in s place) _ (λ cell. via_unless k (value_in s value) _ (λ v. refl))
  via_operated (Clear array count) = refl
  via_operated (Guard test truth) = refl
  via_operated (Call callee words arrays) = via_call words arrays (slice_get parts.functions callee)
  via_operated (Return call dest) = tt
  via_operated (Answer number dest) = via_answered dest (slice_get parts.inputs number)
  via_operated (Assert test) = via_unless k (value_in s test) _ (λ v. via_if k (v == 0) (Trapped trap.Assert) (moved k e s s.cells) tt refl)
  via_operated (Assume test) = via_unless k (value_in s test) _ (λ v. via_if k (v == 0) Blocked (moved k e s s.cells) tt refl)

via_edge : (parts : GraphParts) (x : Input) (s : State) (k : ℕ) (o : Option Edge) → IsVia k (along_edge parts x s k o)
via_edge parts x s k None = tt
via_edge parts x s k (Some e) = via_operated parts x s k e e.operation

operated_same : (parts : GraphParts) (x y : Input) (s : State) (k : ℕ) (e : Edge) (op : Operation) → is_answer op ≡ false → operated parts x s k e op ≡ operated parts y s k e op
operated_same parts x y s k e Skip h = refl
operated_same parts x y s k e (Assign place value) h = refl
operated_same parts x y s k e (Clear array count) h = refl
operated_same parts x y s k e (Guard test truth) h = refl
operated_same parts x y s k e (Call callee words arrays) h = refl
operated_same parts x y s k e (Return call dest) h = refl
operated_same parts x y s k e (Answer number dest) h = absurd cc
operated_same parts x y s k e (Assert test) h = refl
operated_same parts x y s k e (Assume test) h = refl

module _ (parts : GraphParts) (x y : Input) (s to : State) (at : ℕ) (e : Edge) (there : slice_get parts.edges at ≡ Some e) (no : is_answer e.operation ≡ false) where
  along_same : (k : ℕ) → along parts x s k ≡ Moved at to → along parts y s k ≡ Moved at to
  along_same k h =
      let same : at ≡ k = subst (IsVia k) h (via_edge parts x s k (slice_get parts.edges k)) in
      let own : slice_get parts.edges k ≡ Some e = subst (λ n. slice_get parts.edges n ≡ Some e) same there in
      ap (along_edge parts y s k) own ∙ sym (operated_same parts x y s k e e.operation no) ∙ sym (ap (along_edge parts x s k) own) ∙ h

  picked_same : (yes_at no_at : ℕ) (op : Operation) → picked_by parts x s yes_at no_at op ≡ Moved at to → picked_by parts y s yes_at no_at op ≡ Moved at to
  picked_same yes_at no_at (Guard test truth) h = by (value_in s test) h
    where
      by : (r : Result ℕ Trap) → unless_trapped r (λ v. if v == 0 then along parts x s no_at else along parts x s yes_at) ≡ Moved at to → unless_trapped r (λ v. if v == 0 then along parts y s no_at else along parts y s yes_at) ≡ Moved at to
      by (Err t) h = absurd cc
      by (Ok v) h = pick (v == 0) h
        where
          pick : (b : Bool) → (if b then along parts x s no_at else along parts x s yes_at) ≡ Moved at to → (if b then along parts y s no_at else along parts y s yes_at) ≡ Moved at to
          pick true g = along_same no_at g
          pick false g = along_same yes_at g
  picked_same yes_at no_at Skip h = absurd cc
  picked_same yes_at no_at (Assign place value) h = absurd cc
  picked_same yes_at no_at (Clear array count) h = absurd cc
  picked_same yes_at no_at (Call callee words arrays) h = absurd cc
  picked_same yes_at no_at (Return call dest) h = absurd cc
  picked_same yes_at no_at (Answer number dest) h = absurd cc
  picked_same yes_at no_at (Assert test) h = absurd cc
  picked_same yes_at no_at (Assume test) h = absurd cc

  edge_same : (yes_at no_at : ℕ) (o : Option Edge) → picked parts x s yes_at no_at o ≡ Moved at to → picked parts y s yes_at no_at o ≡ Moved at to
  edge_same yes_at no_at None h = absurd cc
  edge_same yes_at no_at (Some own) h = picked_same yes_at no_at own.operation h

  onward_same : (row : List ℕ) → onward parts x s row ≡ Moved at to → onward parts y s row ≡ Moved at to
  onward_same [] h = absurd cc
  onward_same (k ∷ []) h = along_same k h
  onward_same (yes_at ∷ no_at ∷ rest) h = edge_same yes_at no_at (slice_get parts.edges yes_at) h

  within_same : (o : Option Function) → next_within parts x s o ≡ Moved at to → next_within parts y s o ≡ Moved at to
  within_same None h = absurd cc
  within_same (Some f) h = by (s.node == f.exit) h
    where
      by : (b : Bool) → (if b then left parts s f else onward parts x s (outgoing_of parts s.node)) ≡ Moved at to → (if b then left parts s f else onward parts y s (outgoing_of parts s.node)) ≡ Moved at to
      by true g = g
      by false g = onward_same (outgoing_of parts s.node) g

  pub next_same : next parts x s ≡ Moved at to → next parts y s ≡ Moved at to
  unfolding next
  next_same h = within_same (function_at parts s.node) h
