-- Which edges tell an event that passes a test.
use Rattle.std.proofs.Common.{◌≡◌, ℕ, zero, suc, ◌+◌, Bool, true, false, ◌||◌, ◌&&◌, if◌then◌else◌, List, [], ◌∷◌, Option, Some, None, refl, sym, ap, ◌∙◌}
use Rattle.std.specs.Prelude.{option_map, slice_get}
use Rattle.std.specs.List.{list_any}
use Rattle.fq_core.specs.declared.statement_kind.StatementKind.{StatementKind}
use Rattle.fq_core.specs.declared.statement_kind.StatementKind.TheVariants as kinds
use Rattle.cfa.specs.declared.expr.CellPlace.{CellPlace}
use Rattle.cfa.specs.declared.parts.Edge.{Edge}
use Rattle.cfa.specs.declared.parts.Operation.{Operation}
use Rattle.cfa.specs.declared.parts.Operation.TheVariants.{Skip, Assign, Clear, Guard, Call, Return, Answer, Assert, Assume}
use Rattle.cfa.specs.declared.parts.Function.{Function}
use Rattle.cfa.specs.declared.parts.InputFunction.{InputFunction}
use Rattle.cfa.specs.Graph.{is_guard}
use Rattle.c_typed_trees.specs.declared.unit.Typed.{Typed}
use Rattle.c_typed_trees.specs.declared.unit.TypedFunction.{TypedFunction}
use Rattle.c_lower_rules.specs.graph_of.GraphOf.{functions_from, graph_of}
use Rattle.filters.specs.Properties.{is_call, is_name}
use Rattle.tree_events.specs.declared.edge_events.event.Event.{Event}
use Rattle.tree_events.specs.declared.edge_events.event.What.{What}
use Rattle.tree_events.specs.declared.edge_events.event.What.TheVariants.{Did, Valued, Enters, Again, Always, Straight}
use Rattle.tree_events.specs.edge_events.Told.{done_if, ends_call, event_of, is_result, kind_tells, label_tells, operation_tells, put_tells, skip_tells, told}
use Rattle.measurer_laws.specs.covered_laws.Conditions.{guards, is_decided}
use Rattle.measurer_laws.specs.covered_laws.Covered.{tells_one}
use Rattle.measurer_laws.specs.covered_laws.Filters.{is_called, is_outcome, is_settled}

or_false : (b : Bool) → (b || false) ≡ b
or_false true = refl
or_false false = refl

-- ---- the two events that an edge may tell

done_passes : (test : Event → Bool) (e : Edge) (b : Bool) → test (event_of e (Did None)) ≡ false → list_any test (done_if e b) ≡ false
done_passes test e true misses = ap (λ a. a || false) misses
done_passes test e false misses = refl

-- where the end of a statement doesn't pass the test, the first does or none
pub first_passes : (test : Event → Bool) (e : Edge) → test (event_of e (Did None)) ≡ false → tells_one test e ≡ test (event_of e (operation_tells e e.operation))
unfolding told
first_passes test e misses =
    let own = test (event_of e (operation_tells e e.operation)) in
    ap (λ b. own || b) (done_passes test e (ends_call e.operation) misses) ∙ or_false own

-- where all that may happen at an edge passes the test or not, so it is of what the edge tells
pub all_pass : (test : Event → Bool) (e : Edge) (b : Bool) → ((w : What) → test (event_of e w) ≡ b) → tells_one test e ≡ b
unfolding told
all_pass test e b alike = ap (λ a. a || list_any test (done_if e (ends_call e.operation))) (alike (operation_tells e e.operation)) ∙ by b (ends_call e.operation) alike
  where
    by : (a c : Bool) → ((w : What) → test (event_of e w) ≡ a) → (a || list_any test (done_if e c)) ≡ a
    by true c is = refl
    by false true is = ap (λ d. d || false) (is (Did None))
    by false false is = refl

-- ---- what happens at no edge but those of one operation

-- a test that these don't pass: what a Skip, an Assign or a Clear tells
pub record IsBare (q : What → Bool) : Type 0 where
  pub did : (name : Option (List ℕ)) → q (Did name) ≡ false
  pub valued : q Valued ≡ false
  pub enters : q Enters ≡ false
  pub again : q Again ≡ false
  pub always : q Always ≡ false
  pub straight : q Straight ≡ false

module _ (q : What → Bool) (bare : IsBare q) where
  put_bare : (names : List (List ℕ)) (p : CellPlace) → q (put_tells names p) ≡ false
  put_bare [] p = by (is_result p)
    where
      by : (b : Bool) → q (if b then Did None else Valued) ≡ false
      by true = bare.did None
      by false = bare.valued
  put_bare (name ∷ rest) p = bare.did (Some name)

  kind_bare : (kind : StatementKind) → q (kind_tells kind) ≡ false
  kind_bare kinds.If = bare.did None
  kind_bare kinds.For = bare.always
  kind_bare kinds.While = bare.did None
  kind_bare kinds.Do = bare.did None
  kind_bare kinds.Switch = bare.straight
  kind_bare kinds.Assign = bare.did None
  kind_bare kinds.Call = bare.did None
  kind_bare kinds.Return = bare.did None
  kind_bare kinds.Decl = bare.did None
  kind_bare kinds.Assert = bare.did None
  kind_bare kinds.Assume = bare.did None
  kind_bare kinds.Jump = bare.did None
  kind_bare kinds.Label = bare.did None
  kind_bare kinds.Empty = bare.did None

  label_bare : (label : Option (List ℕ)) (kind : StatementKind) → q (label_tells label kind) ≡ false
  label_bare None kind = kind_bare kind
  label_bare (Some name) kind = bare.did (Some name)

  skip_bare : (e : Edge) → q (skip_tells e) ≡ false
  skip_bare e = by e.enter e.back
    where
      by : (a b : Bool) → q (if a then Enters else if b then Again else label_tells e.label e.statement) ≡ false
      by true b = bare.enters
      by false true = bare.again
      by false false = label_bare e.label e.statement

-- ---- the tests of what happens

outcome_bare : IsBare is_outcome
outcome_bare = record { did = λ name. refl; valued = refl; enters = refl; again = refl; always = refl; straight = refl }

settled_bare : IsBare is_settled
settled_bare = record { did = λ name. refl; valued = refl; enters = refl; again = refl; always = refl; straight = refl }

decided_bare : (truth : Bool) → IsBare (is_decided truth)
decided_bare truth = record { did = λ name. refl; valued = refl; enters = refl; again = refl; always = refl; straight = refl }

called_bare : (t : Typed) (name : List ℕ) → IsBare (is_called t name)
called_bare t name = record { did = λ own. refl; valued = refl; enters = refl; again = refl; always = refl; straight = refl }

pub outcome_of : (e : Edge) (op : Operation) → is_outcome (operation_tells e op) ≡ is_guard op
outcome_of e Skip = skip_bare is_outcome outcome_bare e
outcome_of e (Assign p value) = put_bare is_outcome outcome_bare e.writes p
outcome_of e (Clear array length) = refl
outcome_of e (Guard test truth) = refl
outcome_of e (Call callee words arrays) = refl
outcome_of e (Return call dest) = refl
outcome_of e (Answer input dest) = refl
outcome_of e (Assert test) = refl
outcome_of e (Assume test) = refl

pub decided_of : (truth : Bool) (e : Edge) (op : Operation) → is_decided truth (operation_tells e op) ≡ guards truth op
decided_of truth e Skip = skip_bare (is_decided truth) (decided_bare truth) e
decided_of truth e (Assign p value) = put_bare (is_decided truth) (decided_bare truth) e.writes p
decided_of truth e (Clear array length) = refl
decided_of truth e (Guard test own) = refl
decided_of truth e (Call callee words arrays) = refl
decided_of truth e (Return call dest) = refl
decided_of truth e (Answer input dest) = refl
decided_of truth e (Assert test) = refl
decided_of truth e (Assume test) = refl

not_marked : (b : Bool) → (b ≡ true → false ≡ true) → false ≡ b
not_marked true h = h refl
not_marked false h = refl

pub settled_of : (e : Edge) (op : Operation) → (e.outcome ≡ true → is_guard op ≡ true) → is_settled (operation_tells e op) ≡ e.outcome
settled_of e Skip h = skip_bare is_settled settled_bare e ∙ not_marked e.outcome h
settled_of e (Assign p value) h = put_bare is_settled settled_bare e.writes p ∙ not_marked e.outcome h
settled_of e (Clear array length) h = not_marked e.outcome h
settled_of e (Guard test truth) h = refl
settled_of e (Call callee words arrays) h = not_marked e.outcome h
settled_of e (Return call dest) h = not_marked e.outcome h
settled_of e (Answer input dest) h = not_marked e.outcome h
settled_of e (Assert test) h = not_marked e.outcome h
settled_of e (Assume test) h = not_marked e.outcome h

-- the functions of the automaton have the names of those of the unit
names_from : (i : ℕ) (fs : List TypedFunction) (n : ℕ) → option_map (λ (f : Function). f.name) (slice_get (functions_from i fs) n) ≡ option_map (λ (f : TypedFunction). f.name) (slice_get fs n)
names_from i [] n = refl
names_from i (f ∷ fs) zero = refl
names_from i (f ∷ fs) (suc n) = names_from (i + 1) fs n

function_named : (t : Typed) (files : List (List ℕ)) (name : List ℕ) (n : ℕ)
    → is_name (option_map (λ (f : TypedFunction). f.name) (slice_get t.functions n)) name ≡ is_name (option_map (λ (f : Function). f.name) (slice_get (graph_of t files).functions n)) name
unfolding graph_of
function_named t files name n = ap (λ o. is_name o name) (sym (names_from 0 t.functions n))

input_named : (t : Typed) (files : List (List ℕ)) (name : List ℕ) (n : ℕ)
    → is_name (option_map (λ (f : InputFunction). f.name) (slice_get t.inputs n)) name ≡ is_name (option_map (λ (f : InputFunction). f.name) (slice_get (graph_of t files).inputs n)) name
unfolding graph_of
input_named t files name n = refl

pub called_of : (t : Typed) (files : List (List ℕ)) (name : List ℕ) (e : Edge) (op : Operation) → is_called t name (operation_tells e op) ≡ is_call (graph_of t files) name op
called_of t files name e Skip = skip_bare (is_called t name) (called_bare t name) e
called_of t files name e (Assign p value) = put_bare (is_called t name) (called_bare t name) e.writes p
called_of t files name e (Clear array length) = refl
called_of t files name e (Guard test truth) = refl
called_of t files name e (Call callee words arrays) = function_named t files name callee
called_of t files name e (Return call dest) = refl
called_of t files name e (Answer input dest) = input_named t files name input
called_of t files name e (Assert test) = refl
called_of t files name e (Assume test) = refl

-- ---- tests of two kinds at once

-- where all that may happen at an edge passes the first or not
pub both_told : (a b : Event → Bool) (e : Edge) (c : Bool) → ((w : What) → a (event_of e w) ≡ c) → tells_one (λ v. a v && b v) e ≡ (c && tells_one b e)
unfolding told
both_told a b e c is = by c (ends_call e.operation) (operation_tells e e.operation) is
  where
    by : (c y : Bool) (x : What) → ((w : What) → a (event_of e w) ≡ c) → list_any (λ v. a v && b v) (event_of e x ∷ done_if e y) ≡ (c && list_any b (event_of e x ∷ done_if e y))
    by true false x is = ap (λ s. (s && b (event_of e x)) || false) (is x)
    by true true x is = λ i. (is x i && b (event_of e x)) || ((is (Did None) i && b (event_of e (Did None))) || false)
    by false false x is = ap (λ s. (s && b (event_of e x)) || false) (is x)
    by false true x is = λ i. (is x i && b (event_of e x)) || ((is (Did None) i && b (event_of e (Did None))) || false)

or_swap : (p q r s : Bool) → ((p || q) || (r || s)) ≡ ((p || r) || (q || s))
or_swap true q r s = refl
or_swap false true true s = refl
or_swap false true false s = refl
or_swap false false r s = refl

pub either_told : (a b : Event → Bool) (es : List Event) → list_any (λ v. a v || b v) es ≡ (list_any a es || list_any b es)
either_told a b [] = refl
either_told a b (v ∷ es) = ap (λ c. (a v || b v) || c) (either_told a b es) ∙ or_swap (a v) (b v) (list_any a es) (list_any b es)
