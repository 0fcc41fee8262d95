-- What it is that the edges of an expression tell what happens in it.
use Rattle.std.specs.Prelude.{◌≡◌, ℕ, ◌<◌, Bool, List, [], ◌++◌, map, length, Option, Some, None, IfSome, Ok, IsTrue, if◌then◌else◌, slice_get}
use Rattle.std.specs.List.{AllByRecursion}
use Rattle.cfa.specs.Each.{matched}
use Rattle.cfa.specs.declared.expr.Expr.{Expr}
use Rattle.cfa.specs.declared.parts.Edge.{Edge}
use Rattle.cfa.specs.declared.parts.Variable.{Variable}
use Rattle.cfa.specs.declared.state.State.{State}
use Rattle.c_meaning.specs.Steps.{values_in}
use Rattle.c_typed_trees.specs.declared.unit.TypedFunction.{TypedFunction}
use Rattle.c_typed_trees.specs.Fitting.{array_fits, array_lengths, word_kinds}
use Rattle.c_lower_rules.specs.declared.graph_of.parts.Around.{Around}
use Rattle.c_lower_rules.specs.graph_of.Builder.{Builder, Flow}
use Rattle.c_lower_rules.specs.graph_of.Edges.{decides}
use Rattle.c_lower_rules.specs.graph_of.Expressions.{Value, array_of}
use Rattle.tree_meaning_laws.specs.temporaries_apart.Named.{IsBelow}
use Rattle.tree_events.specs.declared.edge_events.event.Event.{Event}
use Rattle.tree_events.specs.declared.edge_events.event.What.TheVariants.{Entered, Left}
use Rattle.tree_events.specs.edge_events.Told.{told}
use Rattle.tree_meaning.specs.Outcomes.{Store}
use Rattle.tree_meaning.specs.Calls.{called}
use Rattle.tree_events.specs.Outcomes.{Told, gives, behind, ◌thence◌, Deciding, At, happens, did}
use Rattle.tree_events.specs.Expressions.{First, Telling}
use Rattle.tree_events.specs.Calls.{Calls}
use Rattle.tree_meaning_laws.specs.expression_laws.Sits.{Sits}
use Rattle.tree_meaning_laws.specs.expression_laws.Contexts.{Context, Held, Related, Proper, Spare, parts_of, names_of, own_activation}
use Rattle.tree_meaning_laws.specs.expression_laws.Flows.{Ended, HasRest, Site, Came}
use Rattle.tree_events_laws.specs.expression_events.Follows.{Follows}

-- the statement at hand, where the table has it
abbrev pub at_of : Around → At
at_of u = record { place = u.span; kind = u.statement }

-- ---- conditions lead to one of two nodes

abbrev pub Chosen : Context → Held → ℕ → ℕ → Bool → Store → State → Type 0
Chosen c ho t f b s st = Related c ho (if b then t else f) s st

-- the nodes of the decision around come before one
abbrev pub EndsBelow : Option (ℕ × ℕ) → ℕ → Type 0
EndsBelow None n = Unit {0}
EndsBelow (Some ends) n = (ends.0 < n) × (ends.1 < n)

abbrev pub Ahead : Around → ℕ → Type 0
Ahead u n = EndsBelow u.decision n

-- What is made of a condition does what is decided, from each place, and tells it. Its truth settles where it leads to a node of
-- the decision around.
abbrev pub Decides : Context → Held → (At → Bool → Bool → Deciding) → (Around → ℕ → ℕ → ℕ → Builder) → Type 0
Decides c ho does cond = (u : Around) (a t f n e k : ℕ) → Sits (parts_of c) (cond u a t f n e k) n e k → Ahead u n
    → (s : Store) (st : State) → Related c ho a s st → Follows (parts_of c) c.input st s.turns s.turns (Chosen c ho t f) (does (at_of u) (decides u.decision t) (decides u.decision f) s)

-- what a flow makes does what a first part means, from each place, and tells it
abbrev pub Flows : {A : Type 0} → Context → Held → (low high parts : ℕ) → First → (Held → List ℕ → A → Type 0) → Flow A → Type 0
Flows c ho low high parts first Means x = (vs : List ℕ) (a n e k : ℕ) → Sits (parts_of c) (x a n e k).made n e k
    → (s : Store) (st : State) → Related c ho a s st
    → Follows (parts_of c) c.input st s.turns s.turns (Ended c ho low high parts Means vs (x a n e k).end (x a n e k).gives) (first vs s)

-- an expression as a value and as a condition, by the statement at hand
pub record Does (c : Context) (ho : Held) (low high : ℕ) (m : At → Telling) (v : Value) : Type 0 where
  pub kind : (at : At) → v.kind ≡ (m at).kind
  pub pure : (u : Around) → Flows c ho low high (m (at_of u)).parts (m (at_of u)).first (HasRest c (m (at_of u)).kind (m (at_of u)).rest) (v.pure u)
  pub cond : Decides c ho (λ at. (m at).decide) v.cond

-- ---- calls

-- a call whose value is put nowhere is a statement, and done
abbrev pub done_at : At → Option ℕ → List Event
done_at at None = did at
done_at at (Some cell) = []

-- what behind a call's return is told along its edge
abbrev pub landing : At → Option ℕ → Told ℕ → Told ℕ
landing at temp t = t thence λ v s. behind (done_at at temp) (gives v s)

-- the two edges of a call of a defined function, and what they tell
pub record CallTells (at : At) (callee : ℕ) (e back : Edge) (temp : Option ℕ) : Type 0 where
  pub enters : told e ≡ happens at (Entered callee)
  pub leaves : told back ≡ happens at Left ++ done_at at temp

-- each call of a defined function that isn't too deep does what calls mean, and tells it
abbrev pub CallsDo : Context → Calls → Type 0
CallsDo c calls = (at : At) (callee : ℕ) (f : TypedFunction) → slice_get c.typed.functions callee ≡ Some f → length c.frames < 64
    → (ho : Held) → Proper c ho → (number : ℕ) (e back : Edge) (words : List Expr) (lent : List Variable) (temp : Option ℕ)
    → Site c callee number e back words (map (λ (v : Variable). array_of v.place) lent) temp → CallTells at callee e back temp → IfSome temp (Spare c ho)
    → IsTrue (matched (array_fits (names_of c)) lent (array_lengths f)) → AllByRecursion (IsBelow c.locals) lent
    → (s : Store) (st : State) (ws : List ℕ) → length ws ≡ length (word_kinds f) → Related c ho e.source s st → values_in st words ≡ Ok ws
    → Follows (parts_of c) c.input st s.turns s.turns (Came c ho temp back.target) (landing at temp (calls at callee (called (own_activation c) lent s) ws s))
