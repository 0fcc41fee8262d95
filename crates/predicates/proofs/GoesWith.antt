-- The predicates of texts beside an automaton go with it.
use Rattle.std.proofs.Common.{◌≡◌, ℕ, zero, suc, List, [], ◌∷◌, length, map, Some, refl, sym, ap, subst, ◌∙◌, arith}
use Rattle.std.specs.Prelude.{IsTrue, Option, nat_lt, slice_get}
use Rattle.std.proofs.lemmas.List.{length-map}
use Rattle.c_values.specs.Kind.{is_value}
use Rattle.c_parse.specs.declared.expr.ExprTree.{ExprTree}
use Rattle.c_types.specs.Scoped.{expression_in}
use Rattle.cfa.specs.declared.expr.Expr.{Expr}
use Rattle.cfa.specs.declared.parts.Function.{Function}
use Rattle.cfa.specs.declared.parts.GraphParts.{GraphParts}
use Rattle.cfa.specs.declared.parts.Node.{Node}
use Rattle.cfa.specs.declared.parts.Scope.{Scope}
use Rattle.cfa.specs.declared.state.Predicates.{Predicates}
use Rattle.cfa.specs.Graph.{IsGraph, room_of}
use Rattle.cfa.specs.Predicates.{IsPredicates}
use Rattle.cfa.specs.Rules.{expr_fits}
use Rattle.c_types_laws.specs.tree_contents.Contents.{ExpressionsOfTexts, tree_passes}
use Rattle.c_types_laws.specs.typing_fits.Laws.{ScopedExpressionsFit}
use Rattle.predicates.specs.Outcome.{ArePredicatesOf}
use Rattle.predicates.specs.Reading.{AreTreesOf, IsTreeOf, source_of}
use Rattle.predicates.specs.Typing.{meanings_in}

row_length : (texts : List (List ℕ)) (trees : List ExprTree) → AreTreesOf texts trees → length trees ≡ length texts
row_length [] [] a = refl
row_length [] (t ∷ ts) a = absurd a
row_length (x ∷ xs) [] a = absurd a
row_length (x ∷ xs) (t ∷ ts) a = ap suc (row_length xs ts a.1)

-- each tree is that of some text
record TextOf (t : ExprTree) : Type 0 where
  text : List ℕ
  is : IsTreeOf text t

text_of : (texts : List (List ℕ)) (trees : List ExprTree) (i : ℕ) (t : ExprTree) → AreTreesOf texts trees → slice_get trees i ≡ Some t → TextOf t
text_of [] [] i t a at = cc
text_of [] (u ∷ ts) i t a at = absurd a
text_of (x ∷ xs) [] i t a at = cc
text_of (x ∷ xs) (u ∷ ts) zero t a at = let same : u ≡ t = cc in record { text = x; is = subst (IsTreeOf x) same a.0 }
text_of (x ∷ xs) (u ∷ ts) (suc i) t a at = text_of xs ts i t a.1 at

-- an element of the images is that of an element
record ImageOf {X Y : Type 0} (f : X → Y) (xs : List X) (i : ℕ) (y : Y) : Type 0 where
  item : X
  at : slice_get xs i ≡ Some item
  is : y ≡ f item

image_of : {X Y : Type 0} (f : X → Y) (xs : List X) (i : ℕ) (y : Y) → slice_get (map f xs) i ≡ Some y → ImageOf f xs i y
image_of f [] i y at = cc
image_of f (x ∷ xs) zero y at = record { item = x; at = refl; is = let same : f x ≡ y = cc in sym same }
image_of f (x ∷ xs) (suc i) y at = let there = image_of f xs i y at in record { item = there.item; at = there.at; is = there.is }

module _ (contents : ExpressionsOfTexts) (fit : ScopedExpressionsFit) (parts : GraphParts) (graph : IsGraph parts) where
  passes : (t : ExprTree) → TextOf t → IsTrue (tree_passes (λ n kind. is_value kind n) (λ place. nat_lt place.file 1) t)
  passes t x = contents (source_of x.text) x.is.tokens t x.is.cut x.is.spelled.spelled.derived

  expression_fits : (t : ExprTree) → TextOf t → (j : ℕ) (n : Node) (s : Scope) (e : Expr) (f : Function) → slice_get parts.nodes j ≡ Some n → slice_get parts.scopes n.scope ≡ Some s
      → slice_get parts.functions n.function ≡ Some f → expression_in s t ≡ Some e → IsTrue (expr_fits (room_of parts f) e)
  expression_fits t x j n s e f node scope function is =
      fit s t e (room_of parts f) 1 (passes t x) (graph.rest.scopes n.scope s scope) (graph.rest.variables j n node f s function scope) is

  at_row : (t : ExprTree) → TextOf t → (row : List (Option Expr)) → row ≡ meanings_in parts.scopes t → (j : ℕ) (n : Node) → slice_get parts.nodes j ≡ Some n
      → (e : Expr) (f : Function) → slice_get row n.scope ≡ Some (Some e) → slice_get parts.functions n.function ≡ Some f → IsTrue (expr_fits (room_of parts f) e)
  at_row t x row is j n node e f at function =
      let there = image_of (λ s. expression_in s t) parts.scopes n.scope (Some e) (subst (λ (r : List (Option Expr)). slice_get r n.scope ≡ Some (Some e)) is at) in
      expression_fits t x j n there.item e f node there.at function (sym there.is)

  module _ (texts : List (List ℕ)) (p : Predicates) (a : ArePredicatesOf parts texts p) where
    rows_at : (i : ℕ) (row : List (Option Expr)) → slice_get p.meanings i ≡ Some row → ImageOf (meanings_in parts.scopes) a.trees i row
    rows_at i row at = image_of (meanings_in parts.scopes) a.trees i row (subst (λ (rows : List (List (Option Expr))). slice_get rows i ≡ Some row) a.meanings at)

    rows : length p.meanings ≡ length texts
    rows = ap length a.meanings ∙ length-map a.trees _ ∙ row_length texts a.trees a.read

    pub goes_with : IsPredicates parts p
    goes_with = record {
      texts = ap length a.same ∙ sym rows;
      most = omega (arith, rows, a.few);
      scopes = λ i row at. let there = rows_at i row at in ap length there.is ∙ length-map parts.scopes _;
      rules =
          λ i row at. let there = rows_at i row at in
          at_row there.item (text_of texts a.trees i there.item a.read there.at) row there.is;
    }
