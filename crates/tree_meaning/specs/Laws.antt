-- What follows from the meaning of trees.
use Rattle.std.specs.Prelude.{◌≡◌, ◌≢◌, ℕ, ◌+◌, List, Ok, IsTrue}
use Rattle.c_values.specs.Kind.{IsValue}
use Rattle.c_meaning.specs.declared.input.Input.{Input}
use Rattle.c_typed_trees.specs.Fitting.{Nameable, expression_fits}
use Rattle.c_typed_trees.specs.declared.expression.TypedExpr.{TypedExpr}
use Rattle.c_typed_trees.specs.declared.unit.Typed.{Typed}
use Rattle.tree_meaning.specs.declared.ends.TreeEnd.TheVariants.{OutOfTurns}
use Rattle.tree_meaning.specs.declared.activation.Activation.{Activation}
use Rattle.tree_meaning.specs.Calls.{Calls}
use Rattle.tree_meaning.specs.Ends.{tree_end}
use Rattle.tree_meaning.specs.Expressions.{Meant}
use Rattle.tree_meaning.specs.Trees.{meant}

-- where so many turns are enough, more give the same end
abbrev pub TurnsSuffice : Type 0
TurnsSuffice = (t : Typed) (entry : ℕ) (input : Input) (turns more : ℕ) → tree_end t entry input turns ≢ OutOfTurns → tree_end t entry input (turns + more) ≡ tree_end t entry input turns

-- an expression that fits has a value of its kind, whatever its outermost parts give and the cells hold
abbrev pub ValuesAreOfKinds : Type 0
ValuesAreOfKinds =
    (n : Nameable) (t : Typed) (calls : Calls) (a : Activation) (x : TypedExpr) (vs cells : List ℕ) (v : ℕ)
    → IsTrue (expression_fits n x) → (meant t calls a x).rest vs cells ≡ Ok v → IsValue x.kind v

-- two meanings of an expression that differ at most in what their outermost parts do
pub record SameRest (m m' : Meant) : Type 0 where
  pub kind : m.kind ≡ m'.kind
  pub parts : m.parts ≡ m'.parts
  pub rest : m.rest ≡ m'.rest

-- the rest of an expression does not depend on what calls do
abbrev pub RestsAreSteady : Type 0
RestsAreSteady = (t t' : Typed) (calls calls' : Calls) (a : Activation) (x : TypedExpr) → SameRest (meant t calls a x) (meant t' calls' a x)
