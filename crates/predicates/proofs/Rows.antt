-- The meanings of trees, one tree more.
use Rattle.std.proofs.Common.{◌≡◌, ℕ, ◌+◌, ◌<◌, Bool, true, false, List, [], ◌∷◌, ◌++◌, length, map, get_or, take, sym, ap, ◌∙◌}
use Rattle.std.specs.Prelude.{Option}
use Rattle.std.proofs.lemmas.Bool.{and_from}
use Rattle.std.proofs.lemmas.List.{map-append, take_more}
use Rattle.std.proofs.lemmas.List.Folds.{list_all_at, list_all_more}
use Rattle.c_parse.specs.declared.expr.ExprTree.{ExprTree}
use Rattle.cfa.specs.declared.expr.Expr.{Expr}
use Rattle.cfa.specs.declared.parts.GraphParts.{GraphParts}
use Rattle.predicates.specs.Typing.{IsTableOf, all_typable, is_met, is_typable, meanings_in}
use Rattle.predicates.proofs.Typable.{met_is_typable}

abbrev Row : Type 0
Row = List (Option Expr)

module _ (parts : GraphParts) (trees : List ExprTree) (table : List Bool) (of : IsTableOf parts.nodes (length parts.scopes) table)
    (i : ℕ) (t : ExprTree) (within : i < length trees) (at : t ≡ get_or trees i t) (row : Row) (made : row ≡ meanings_in parts.scopes t) where
  test_is : is_met row table ≡ is_typable parts (get_or trees i t)
  test_is = ap (λ (r : Row). is_met r table) made ∙ met_is_typable parts t table of ∙ ap (is_typable parts) at

  pub typable_more : is_met row table ≡ true → all_typable parts (take i trees) ≡ true → all_typable parts (take (i + 1) trees) ≡ true
  typable_more met had =
      list_all_more (is_typable parts) trees i t within
      ∙ and_from (all_typable parts (take i trees)) (is_typable parts (get_or trees i t)) had (sym test_is ∙ met)

  pub untypable : is_met row table ≡ false → all_typable parts trees ≡ false
  untypable none = list_all_at (is_typable parts) trees i t within (sym test_is ∙ none)

  pub rows_more : (rows more : List Row) → more ≡ rows ++ row ∷ [] → rows ≡ map (meanings_in parts.scopes) (take i trees)
      → more ≡ map (meanings_in parts.scopes) (take (i + 1) trees)
  rows_more rows more e had =
      e ∙ (λ j. had j ++ made j ∷ [])
      ∙ sym (map-append (meanings_in parts.scopes) (take i trees) (t ∷ []))
      ∙ ap (λ (u : ExprTree). map (meanings_in parts.scopes) (take i trees ++ u ∷ [])) at
      ∙ sym (ap (map (meanings_in parts.scopes)) (take_more trees i t within))
