-- What typing makes is fit for lowering.
use Rattle.std.specs.Prelude.{◌≡◌, ℕ, List, [], length, map, Some, IsTrue, nat_lt}
use Rattle.c_values.specs.Kind.{is_value}
use Rattle.c_lex.specs.declared.token.SourceText.{SourceText}
use Rattle.c_lex.specs.declared.token.Token.{Token}
use Rattle.c_lex.specs.Lexed.{Lexed}
use Rattle.c_parse.specs.declared.expr.ExprTree.{ExprTree}
use Rattle.c_parse.specs.declared.unit.Item.{Item}
use Rattle.c_parse.specs.Items.{DerivesItems}
use Rattle.c_parse.specs.Signs.{terminal_of}
use Rattle.c_types_laws.specs.tree_contents.Contents.{ContentsFit, tree_passes}
use Rattle.cfa.specs.declared.expr.Expr.{Expr}
use Rattle.cfa.specs.declared.parts.Scope.{Scope}
use Rattle.cfa.specs.Graph.{scope_fits, scope_fits_in}
use Rattle.cfa.specs.Rules.{Room, expr_fits}
use Rattle.c_typed_trees.specs.Fitting.{IsFitting}
use Rattle.c_types.specs.Scoped.{expression_in}
use Rattle.c_types.specs.Units.{faults_of, typed_of}

-- The typed tree of a unit in which nothing is wrong can be made an automaton of, where the unit's numbers are values of
-- their kinds and its places lie in so many files.
abbrev pub UnitsFit : Type 0
UnitsFit = (items : List Item) (files : ℕ) → ContentsFit files items → faults_of items ≡ [] → IsFitting (typed_of items) files

-- So can that of a unit of texts.
abbrev pub UnitsOfTextsFit : Type 0
UnitsOfTextsFit =
    (texts : List SourceText) (tokens : List Token) (items : List Item) → Lexed texts tokens → DerivesItems items (map terminal_of tokens) →
    faults_of items ≡ [] → IsFitting (typed_of items) (length texts)

-- The expression that a tree is in a scope meets the rules in each room that has the scope's variables, where the tree's
-- numbers are values of their kinds and its places lie in so many files.
abbrev pub ScopedExpressionsFit : Type 0
ScopedExpressionsFit =
    (s : Scope) (t : ExprTree) (e : Expr) (room : Room) (files : ℕ) → IsTrue (tree_passes (λ n kind. is_value kind n) (λ place. nat_lt place.file files) t) →
    IsTrue (scope_fits room.globals s) → IsTrue (scope_fits_in room s) → expression_in s t ≡ Some e → IsTrue (expr_fits room e)
