-- What it is that the nodes and edges of an expression do what the expression means.
use Rattle.std.specs.Prelude.{◌≡◌, ℕ, ◌+◌, ◌<◌, List, ◌++◌, map, length, Option, Some, None, IfSome, Ok, IsTrue, if◌then◌else◌, slice_get}
use Rattle.std.specs.Option.{option_map}
use Rattle.std.specs.List.{AllByRecursion}
use Rattle.c_values.specs.declared.kinds.Kind.{Kind}
use Rattle.cfa.specs.Each.{matched}
use Rattle.cfa.specs.declared.expr.ArrayPlace.{ArrayPlace}
use Rattle.cfa.specs.declared.expr.CellPlace.TheVariants as place
use Rattle.cfa.specs.declared.expr.Expr.{Expr}
use Rattle.cfa.specs.declared.parts.Edge.{Edge}
use Rattle.cfa.specs.declared.parts.Operation.TheVariants.{Call, Return}
use Rattle.cfa.specs.declared.parts.Variable.{Variable}
use Rattle.cfa.specs.declared.state.State.{State}
use Rattle.cfa.specs.Values.{valued, value_of, cell_of}
use Rattle.c_meaning.specs.Steps.{values_in}
use Rattle.c_typed_trees.specs.declared.unit.TypedFunction.{TypedFunction}
use Rattle.c_typed_trees.specs.Fitting.{array_fits, array_lengths, word_kinds}
use Rattle.c_lower_rules.specs.declared.graph_of.parts.Around.{Around}
use Rattle.c_lower_rules.specs.declared.graph_of.parts.Operand.{Operand}
use Rattle.c_lower_rules.specs.declared.graph_of.parts.Target.{Target}
use Rattle.c_lower_rules.specs.graph_of.Builder.{Builder, Flow}
use Rattle.c_lower_rules.specs.graph_of.Edges.{entry_of}
use Rattle.c_lower_rules.specs.graph_of.Expressions.{Value, array_of}
use Rattle.tree_meaning_laws.specs.temporaries_apart.Named.{IsBelow}
use Rattle.tree_meaning.specs.Outcomes.{Store, Evaluation, is_true}
use Rattle.tree_meaning.specs.Expressions.{First, Rest, Meant, evaluate}
use Rattle.tree_meaning.specs.Calls.{Calls, called}
use Rattle.tree_meaning_laws.specs.expression_laws.Sits.{Sits}
use Rattle.tree_meaning_laws.specs.expression_laws.Follows.{Follows}
use Rattle.tree_meaning_laws.specs.expression_laws.Contexts.{Context, Held, holding, Agree, Related, Proper, Spare, Outside, parts_of, names_of, own_frame, own_activation}

-- ---- conditions lead to one of two nodes

abbrev pub Chosen : Context → Held → ℕ → ℕ → ℕ → Store → State → Type 0
Chosen c ho t f v s st = Related c ho (if is_true v then t else f) s st

-- what is made of a condition does what it means, from each place
abbrev pub Decides : Context → Held → Evaluation → (Around → ℕ → ℕ → ℕ → Builder) → Type 0
Decides c ho does cond = (u : Around) (a t f n e k : ℕ) → Sits (parts_of c) (cond u a t f n e k) n e k
    → (s : Store) (st : State) → Related c ho a s st → Follows (parts_of c) c.input st s.turns s.turns (Chosen c ho t f) (does s)

-- ---- first parts

-- At the end of a first part its values stand behind those that were there, as many as there are parts. Temporaries hold
-- them, which lie from one cell to another, and while they do, what is given means something.
pub record Ended {A : Type 0} (c : Context) (ho : Held) (low high parts : ℕ) (Means : Held → List ℕ → A → Type 0) (vs : List ℕ) (end : ℕ) (gives : A) (ws : List ℕ) (s : Store) (st : State) : Type 0 where
  pub held : Held
  pub news : List ℕ
  pub are : ws ≡ vs ++ news
  pub long : length news ≡ parts
  pub outside : (i : ℕ) → Outside c low high i → held i ≡ ho i
  pub related : Related c held end s st
  pub means : Means held news gives

-- what a flow makes does what a first part means, from each place
abbrev pub Flows : {A : Type 0} → Context → Held → (low high parts : ℕ) → First → (Held → List ℕ → A → Type 0) → Flow A → Type 0
Flows c ho low high parts first Means x = (vs : List ℕ) (a n e k : ℕ) → Sits (parts_of c) (x a n e k).made n e k
    → (s : Store) (st : State) → Related c ho a s st
    → Follows (parts_of c) c.input st s.turns s.turns (Ended c ho low high parts Means vs (x a n e k).end (x a n e k).gives) (first vs s)

-- an operand has the value of the rest, by the values of the first part, and its kind
pub record HasRest (c : Context) (kind : Kind) (rest : Rest) (held : Held) (news : List ℕ) (o : Operand) : Type 0 where
  pub value : (more xs ys : List ℕ) → Agree c.keeps held xs ys → value_of ys (own_frame c) o.value ≡ rest (news ++ more) xs
  pub kinds : (ys : List ℕ) → (valued ys (own_frame c) o.value).kind ≡ kind

-- a target names the cell of the rest, which is no temporary
pub record NamesCell (c : Context) (rest : Rest) (held : Held) (news : List ℕ) (t : Target) : Type 0 where
  pub cell : (more xs ys : List ℕ) → Agree c.keeps held xs ys → cell_of ys (own_frame c) t.place ≡ rest (news ++ more) xs
  pub kept : (more xs : List ℕ) (cell : ℕ) → rest (news ++ more) xs ≡ Ok cell → IsTrue (c.keeps cell)

-- an expression as a value and as a condition
pub record Does (c : Context) (ho : Held) (low high : ℕ) (m : Meant) (v : Value) : Type 0 where
  pub kind : v.kind ≡ m.kind
  pub pure : (u : Around) → Flows c ho low high m.parts m.first (HasRest c m.kind m.rest) (v.pure u)
  pub cond : Decides c ho (evaluate m) v.cond

-- ---- calls

-- the two edges of a call of a defined function
pub record Site (c : Context) (callee at : ℕ) (e back : Edge) (words : List Expr) (arrays : List ArrayPlace) (temp : Option ℕ) : Type 0 where
  pub number : ℕ
  pub there : slice_get (parts_of c).edges at ≡ Some e
  pub back_there : slice_get (parts_of c).edges (at + 1) ≡ Some back
  pub calls : e.operation ≡ Call callee words arrays
  pub returns : back.operation ≡ Return number (option_map place.Local temp)
  pub enters : e.target ≡ entry_of callee

-- a call's value is held in its temporary, where it has one
abbrev pub landed : Context → Held → Option ℕ → ℕ → Held
landed c ho temp v = elim temp [ None ↦ ho | Some cell ↦ holding ho ((own_frame c).base + cell) v ]

abbrev pub Came : Context → Held → Option ℕ → ℕ → ℕ → Store → State → Type 0
Came c ho temp node v s st = Related c (landed c ho temp v) node s st

-- each call of a defined function that isn't too deep does what calls mean
abbrev pub CallsDo : Context → Calls → Type 0
CallsDo c calls = (callee : ℕ) (f : TypedFunction) → slice_get c.typed.functions callee ≡ Some f → length c.frames < 64
    → (ho : Held) → Proper c ho → (at : ℕ) (e back : Edge) (words : List Expr) (lent : List Variable) (temp : Option ℕ)
    → Site c callee at e back words (map (λ (v : Variable). array_of v.place) lent) temp → IfSome temp (Spare c ho)
    → IsTrue (matched (array_fits (names_of c)) lent (array_lengths f)) → AllByRecursion (IsBelow c.locals) lent
    → (s : Store) (st : State) (ws : List ℕ) → length ws ≡ length (word_kinds f) → Related c ho e.source s st → values_in st words ≡ Ok ws
    → Follows (parts_of c) c.input st s.turns s.turns (Came c ho temp back.target) (calls callee (called (own_activation c) lent s) ws s)
