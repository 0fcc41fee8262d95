-- A tree has an expression in a node's scope, by the table of the scopes that have one.
use Rattle.std.proofs.Common.{◌≡◌, ℕ, zero, suc, ◌+◌, ◌<◌, Bool, true, false, List, [], ◌∷◌, length, map, get_or, set, take, Some, None, refl, sym, ap, ◌∙◌, inl, inr, arith}
use Rattle.std.specs.Prelude.{◌⊎◌, Option, ◌&&◌, ◌||◌, ◌==◌, slice_get, option_and_then, replicate}
use Rattle.std.specs.List.{list_any, zip}
use Rattle.std.specs.Option.{is_some}
use Rattle.std.proofs.lemmas.Bool.{and_from, and_parts, cases_eq, eq-eqb, eqb-true, ne_eqb, or_cases, or_left, or_right}
use Rattle.std.proofs.lemmas.List.{get_or-replicate, get_or-set_other, get_or-set_same, length-replicate, length-set}
use Rattle.std.proofs.lemmas.List.Folds.{list_any_more}
use Rattle.std.proofs.lemmas.Option.{same_Some, slice_get_within}
use Rattle.c_parse.specs.declared.expr.ExprTree.{ExprTree}
use Rattle.c_types.specs.Scoped.{expression_in}
use Rattle.cfa.specs.declared.parts.GraphParts.{GraphParts}
use Rattle.cfa.specs.declared.parts.Node.{Node}
use Rattle.cfa.specs.declared.parts.Scope.{Scope}
use Rattle.predicates.specs.Typing.{IsTableOf, has_node, is_met, is_typable, meaning_at, meanings_in}

-- two tests that hold together are one
same_test : (a b : Bool) → (a ≡ true → b ≡ true) → (b ≡ true → a ≡ true) → a ≡ b
same_test true b f g = sym (f refl)
same_test false true f g = g refl
same_test false false f g = refl

module _ {X E : Type 0} (f : X → Option E) where
  -- ---- a row beside the table

  abbrev both_at : Option E × Bool → Bool
  both_at at = is_some at.0 && at.1

  abbrev met : List X → List Bool → Bool
  met xs table = list_any both_at (zip (map f xs) table)

  -- a place that the table has, and at which there is an expression
  record MetAt (xs : List X) (table : List Bool) : Type 0 where
    place : ℕ
    item : X
    at : slice_get xs place ≡ Some item
    some : is_some (f item) ≡ true
    has : get_or table place false ≡ true

  meets : (xs : List X) (table : List Bool) (k : ℕ) (x : X) → slice_get xs k ≡ Some x → is_some (f x) ≡ true → get_or table k false ≡ true → met xs table ≡ true
  meets [] table k x at some has = cc
  meets (y ∷ xs) [] k x at some has = cc
  meets (y ∷ xs) (b ∷ table) zero x at some has =
      let same : y ≡ x = same_Some y x at in
      or_left (is_some (f y) && b) (met xs table) (and_from (is_some (f y)) b (ap (λ z. is_some (f z)) same ∙ some) has)
  meets (y ∷ xs) (b ∷ table) (suc k) x at some has = or_right (is_some (f y) && b) (met xs table) (meets xs table k x at some has)

  met_behind : (y : X) (b : Bool) (xs : List X) (table : List Bool) → MetAt xs table → MetAt (y ∷ xs) (b ∷ table)
  met_behind y b xs table m = record { place = suc m.place; item = m.item; at = m.at; some = m.some; has = m.has }

  met_at : (xs : List X) (table : List Bool) → met xs table ≡ true → MetAt xs table
  met_at [] table is = cc
  met_at (y ∷ xs) [] is = cc
  met_at (y ∷ xs) (b ∷ table) is =
      elim (or_cases (is_some (f y) && b) (met xs table) is) [
        | inl here ↦ let parts = and_parts (is_some (f y)) b here in record { place = zero; item = y; at = refl; some = parts.0; has = parts.1 }
        | inr later ↦ met_behind y b xs table (met_at xs table later)
      ]

-- ---- nodes

module _ (scopes : List Scope) (t : ExprTree) where
  abbrev at_node : Node → Bool
  at_node n = is_some (meaning_at scopes t n)

  -- a scope that some node has, in which there is an expression
  record SeenAt (nodes : List Node) : Type 0 where
    scope : ℕ
    item : Scope
    at : slice_get scopes scope ≡ Some item
    some : is_some (expression_in item t) ≡ true
    has : has_node nodes scope ≡ true

  seen : (nodes : List Node) (k : ℕ) (s : Scope) → slice_get scopes k ≡ Some s → is_some (expression_in s t) ≡ true → has_node nodes k ≡ true → list_any at_node nodes ≡ true
  seen [] k s at some has = cc
  seen (n ∷ nodes) k s at some has =
      elim (or_cases (n.scope == k) (has_node nodes k) has) [
        | inl here ↦
            let there : slice_get scopes n.scope ≡ Some s = ap (slice_get scopes) (eqb-true n.scope k here) ∙ at in
            or_left (at_node n) (list_any at_node nodes) (ap (λ o. is_some (option_and_then (λ z. expression_in z t) o)) there ∙ some)
        | inr later ↦ or_right (at_node n) (list_any at_node nodes) (seen nodes k s at some later)
      ]

  seen_behind : (n : Node) (nodes : List Node) → SeenAt nodes → SeenAt (n ∷ nodes)
  seen_behind n nodes m = record { scope = m.scope; item = m.item; at = m.at; some = m.some; has = or_right (n.scope == m.scope) (has_node nodes m.scope) m.has }

  seen_here : (n : Node) (nodes : List Node) (o : Option Scope) → slice_get scopes n.scope ≡ o → is_some (option_and_then (λ z. expression_in z t) o) ≡ true → SeenAt (n ∷ nodes)
  seen_here n nodes None is some = cc
  seen_here n nodes (Some s) is some = record { scope = n.scope; item = s; at = is; some = some; has = or_left (n.scope == n.scope) (has_node nodes n.scope) (eq-eqb n.scope n.scope refl) }

  seen_at : (nodes : List Node) → list_any at_node nodes ≡ true → SeenAt nodes
  seen_at [] is = cc
  seen_at (n ∷ nodes) is =
      elim (or_cases (at_node n) (list_any at_node nodes) is) [
        | inl here ↦ seen_here n nodes _ refl here
        | inr later ↦ seen_behind n nodes (seen_at nodes later)
      ]

module _ (parts : GraphParts) (t : ExprTree) (table : List Bool) (is : IsTableOf parts.nodes (length parts.scopes) table) where
  by_row : met (λ s. expression_in s t) parts.scopes table ≡ true → is_typable parts t ≡ true
  by_row h =
      let m = met_at (λ s. expression_in s t) parts.scopes table h in
      let within = slice_get_within parts.scopes m.place m.item m.at in
      seen parts.scopes t parts.nodes m.place m.item m.at m.some (sym (is.says m.place within) ∙ m.has)

  by_nodes : is_typable parts t ≡ true → met (λ s. expression_in s t) parts.scopes table ≡ true
  by_nodes h =
      let m = seen_at parts.scopes t parts.nodes h in
      let within = slice_get_within parts.scopes m.scope m.item m.at in
      meets (λ s. expression_in s t) parts.scopes table m.scope m.item m.at m.some (is.says m.scope within ∙ m.has)

  pub met_is_typable : is_met (meanings_in parts.scopes t) table ≡ is_typable parts t
  met_is_typable = same_test _ _ by_row by_nodes

-- ---- the table, node by node

or_false : (a b : Bool) → b ≡ false → (a || b) ≡ a
or_false true b h = refl
or_false false b h = h

module _ (nodes : List Node) (k : ℕ) (n : Node) (within : k < length nodes) (is : n ≡ get_or nodes k n) where
  node_more : (i : ℕ) → has_node (take (k + 1) nodes) i ≡ (has_node (take k nodes) i || (n.scope == i))
  node_more i =
      list_any_more (λ (m : Node). m.scope == i) nodes k n within ∙ ap (λ (m : Node). has_node (take k nodes) i || (m.scope == i)) (sym is)

  pub table_more : (scopes : ℕ) (table more : List Bool) → n.scope < scopes → more ≡ set table n.scope true → IsTableOf (take k nodes) scopes table → IsTableOf (take (k + 1) nodes) scopes more
  table_more scopes table more inside e had = record {
    size = ap length e ∙ length-set table n.scope true ∙ had.size;
    says = λ i below. ap (λ (l : List Bool). get_or l i false) e ∙ by_place i below (cases_eq i n.scope);
  }
    where
      at_it : (i : ℕ) → i ≡ n.scope → get_or (set table n.scope true) i false ≡ has_node (take (k + 1) nodes) i
      at_it i same =
          let long : n.scope < length table = omega (arith, had.size) in
          ap (λ j. get_or (set table n.scope true) j false) same ∙ get_or-set_same table n.scope true false long
          ∙ sym (node_more i ∙ or_right (has_node (take k nodes) i) (n.scope == i) (eq-eqb n.scope i (sym same)))

      elsewhere : (i : ℕ) → i < scopes → (i ≡ n.scope → ⊥) → get_or (set table n.scope true) i false ≡ has_node (take (k + 1) nodes) i
      elsewhere i below apart =
          get_or-set_other table n.scope i true false apart ∙ had.says i below
          ∙ sym (node_more i ∙ or_false (has_node (take k nodes) i) (n.scope == i) (ne_eqb n.scope i (λ e. apart (sym e))))

      by_place : (i : ℕ) → i < scopes → (i ≡ n.scope) ⊎ (i ≡ n.scope → ⊥) → get_or (set table n.scope true) i false ≡ has_node (take (k + 1) nodes) i
      by_place i below (inl same) = at_it i same
      by_place i below (inr apart) = elsewhere i below apart

pub no_table : (scopes : ℕ) (table : List Bool) → table ≡ replicate scopes false → IsTableOf [] scopes table
no_table scopes table e = record {
  size = ap length e ∙ length-replicate scopes false;
  says = λ i below. ap (λ (l : List Bool). get_or l i false) e ∙ get_or-replicate scopes i false false below;
}
