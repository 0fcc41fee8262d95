-- What is seen behind declarations.
use Rattle.std.proofs.Common.{◌≡◌, ◌<◌, ℕ, ◌+◌, List, [], ◌∷◌, ◌++◌, map, length, take, get_or, Bool, ◌||◌, Option, refl, sym, ap, ◌∙◌, append_assoc, append-nil, rules}
use Rattle.std.specs.Prelude.{if◌then◌else◌}
use Rattle.std.proofs.lemmas.List.{take_more, map-append}
use Rattle.fq_core.specs.declared.span.Span.{Span}
use Rattle.cfa.specs.declared.parts.Node.{Node}
use Rattle.cfa.specs.declared.parts.Scope.{Scope}
use Rattle.cfa.specs.declared.parts.Variable.{Variable}
use Rattle.c_typed_trees.specs.declared.expression.TypedExpr.{TypedExpr}
use Rattle.c_typed_trees.specs.declared.statement.TypedForm.{TypedForm, out-TypedForm, map-TypedForm, the_lemmas}
use Rattle.c_typed_trees.specs.declared.statement.TypedForm.TheOpen.{TypedForm-F}
use Rattle.c_typed_trees.specs.declared.statement.TypedForm.TheVariants as forms
use Rattle.c_typed_trees.specs.declared.statement.TypedGroup.{TypedGroup}
use Rattle.c_typed_trees.specs.declared.statement.TypedStatement.{TypedStatement}
use Rattle.c_lower_rules.specs.declared.graph_of.parts.Around.{Around}
use Rattle.c_lower_rules.specs.declared.graph_of.parts.Parts.{Parts}
use Rattle.c_lower_rules.specs.graph_of.Builder.{node, scope, after}
use Rattle.c_lower_rules.specs.graph_of.Edges.{scope_behind, sees_behind, seeing}
use Rattle.c_lower_rules.specs.graph_of.Statements.{Piece, declared_by}
use Rattle.c_lower_rules.specs.graph_of.Switch.{Group}
use Rattle.c_lower_rules.specs.graph_of.Table.{form_step, shape, group_of, piece}
use Rattle.c_lower_rules.proofs.graph_of.After.{after_nil}
use Rattle.c_lower.specs.Forms.{has_any}

-- a statement is what its form makes
pub shaped : (s : TypedStatement) → piece s ≡ shape s.form s.span
unfolding piece shape
shaped s = search (rules, the_lemmas)

layered : TypedForm-F TypedForm TypedGroup TypedStatement → Span → Piece
layered l = form_step (map-TypedForm TypedForm TypedGroup TypedStatement (Span → Piece) Group Piece shape group_of piece l)

by_layer : (f : TypedForm) → shape f ≡ layered (out-TypedForm f)
unfolding shape group_of piece layered
by_layer f = search (rules, the_lemmas)

-- ---- what statements declare

abbrev pub declared_at : {A B C : Type 0} → TypedForm-F A B C → List Variable
declared_at (TypedForm-F.Local x first) = x ∷ []
declared_at (TypedForm-F.LocalArray x list) = x ∷ []
declared_at _ = []

layer_declares : (span : Span) (l : TypedForm-F TypedForm TypedGroup TypedStatement) → (layered l span).declares ≡ declared_at l
unfolding layered
layer_declares span (TypedForm-F.Block body) = refl
layer_declares span TypedForm-F.Empty = refl
layer_declares span (TypedForm-F.Local x first) = refl
layer_declares span (TypedForm-F.LocalArray x list) = refl
layer_declares span (TypedForm-F.Assign p op e) = refl
layer_declares span (TypedForm-F.Call c) = refl
layer_declares span (TypedForm-F.Label name s) = refl
layer_declares span (TypedForm-F.If arms otherwise) = refl
layer_declares span (TypedForm-F.While c s) = refl
layer_declares span (TypedForm-F.Do s c) = refl
layer_declares span (TypedForm-F.For first c j s) = refl
layer_declares span (TypedForm-F.Switch e cell groups) = refl
layer_declares span TypedForm-F.Break = refl
layer_declares span TypedForm-F.Continue = refl
layer_declares span (TypedForm-F.Return e) = refl
layer_declares span (TypedForm-F.Assert e) = refl
layer_declares span (TypedForm-F.Assume e) = refl

layer_span : (span : Span) (l : TypedForm-F TypedForm TypedGroup TypedStatement) → (layered l span).span ≡ span
unfolding layered
layer_span span (TypedForm-F.Block body) = refl
layer_span span _ = refl

pub piece_span : (s : TypedStatement) → (piece s).span ≡ s.span
piece_span s = ap (λ (p : Piece). p.span) (shaped s ∙ ap (λ (g : Span → Piece). g s.span) (by_layer s.form)) ∙ layer_span s.span (out-TypedForm s.form)

pub declares_by : (s : TypedStatement) → (piece s).declares ≡ declared_at (out-TypedForm s.form)
declares_by s = ap (λ (p : Piece). p.declares) (shaped s ∙ ap (λ (g : Span → Piece). g s.span) (by_layer s.form)) ∙ layer_declares s.span (out-TypedForm s.form)

pub local_declares : (s : TypedStatement) (x : Variable) (first : Option TypedExpr) (vs : List Variable) → s.form ≡ forms.Local x first → (piece s).declares ++ vs ≡ x ∷ vs
local_declares s x first vs e = ap (λ ds. ds ++ vs) (declares_by s ∙ ap (λ f. declared_at (out-TypedForm f)) e ∙ k)
  where
    k : declared_at (out-TypedForm (forms.Local x first)) ≡ x ∷ []
    k = search (rules, the_lemmas)

pub array_declares : (s : TypedStatement) (x : Variable) (list : List TypedExpr) (vs : List Variable) → s.form ≡ forms.LocalArray x list → (piece s).declares ++ vs ≡ x ∷ vs
array_declares s x list vs e = ap (λ ds. ds ++ vs) (declares_by s ∙ ap (λ f. declared_at (out-TypedForm f)) e ∙ k)
  where
    k : declared_at (out-TypedForm (forms.LocalArray x list)) ≡ x ∷ []
    k = search (rules, the_lemmas)

pub ruleset declare_laws = (declares_by, local_declares, array_declares)

declared-append : (xs ys : List Piece) → declared_by (xs ++ ys) ≡ declared_by ys ++ declared_by xs
declared-append [] ys = sym (append-nil (declared_by ys))
declared-append (x ∷ xs) ys = ap (λ vs. vs ++ x.declares) (declared-append xs ys) ∙ append_assoc (declared_by ys) (declared_by xs) x.declares

any-append : {A : Type 0} (xs ys : List A) → has_any (xs ++ ys) ≡ has_any ys || has_any xs
any-append [] [] = refl
any-append [] (y ∷ ys) = refl
any-append (x ∷ xs) [] = refl
any-append (x ∷ xs) (y ∷ ys) = refl

-- one statement more
pub declared_more : (list : List TypedStatement) (i : ℕ) (s : TypedStatement) → i < length list → s ≡ get_or list i s → declared_by (map piece (take (i + 1) list)) ≡ (piece s).declares ++ declared_by (map piece (take i list))
declared_more list i s within is =
    ap (λ l. declared_by (map piece l)) (take_more list i s within ∙ ap (λ x. take i list ++ x ∷ []) (sym is))
    ∙ ap declared_by (map-append piece (take i list) (s ∷ [])) ∙ declared-append (map piece (take i list)) (piece s ∷ [])

pub any_more : (list : List TypedStatement) (i : ℕ) (s : TypedStatement) → i < length list → s ≡ get_or list i s
    → has_any (declared_by (map piece (take (i + 1) list))) ≡ has_any (declared_by (map piece (take i list))) || has_any (piece s).declares
any_more list i s within is = ap has_any (declared_more list i s within is) ∙ any-append (piece s).declares (declared_by (map piece (take i list)))

-- ---- scopes

module _ (u : Around) (vs : List Variable) (sees : Scope) (m : Parts) (fresh : Bool) (seen : sees.variables ≡ vs ++ u.sees.variables) (any : fresh ≡ has_any vs) where
  pub settled : seeing u vs (length m.scopes) ≡ (if fresh then record u { scope = length m.scopes; sees = sees } else record u { sees = sees })
  settled = by vs seen any
    where
      by : (vs : List Variable) → sees.variables ≡ vs ++ u.sees.variables → fresh ≡ has_any vs → seeing u vs (length m.scopes) ≡ (if fresh then record u { scope = length m.scopes; sees = sees } else record u { sees = sees })
      by [] e h = rw h (λ i. record u { sees = record { variables = sym e i } })
      by (v ∷ rest) e h = rw h (λ i. record u { scope = length m.scopes; sees = record { variables = sym e i } })

  pub scope_made : after (scope_behind u vs) m ≡ (if fresh then after (scope sees) m else m)
  scope_made = by vs seen any
    where
      by : (vs : List Variable) → sees.variables ≡ vs ++ u.sees.variables → fresh ≡ has_any vs → after (scope_behind u vs) m ≡ (if fresh then after (scope sees) m else m)
      by [] e h = rw h (after_nil m)
      by (v ∷ rest) e h = rw h (λ i. after (scope (record { variables = sym e i })) m)

-- nodes and scopes are made apart from one another
pub swapped : (u : Around) (vs : List Variable) (x : Node) (m : Parts) → after (scope_behind u vs) (after (node x) m) ≡ after (node x) (after (scope_behind u vs) m)
unfolding after
swapped u [] x m = after_nil (after (node x) m) ∙ ap (after (node x)) (sym (after_nil m))
swapped u (v ∷ vs) x m = one (sees_behind u (v ∷ vs))
  where
    one : (s : Scope) → after (scope s) (after (node x) m) ≡ after (node x) (after (scope s) m)
    one s = λ i. record {
      nodes = (append-nil (m.nodes ++ x ∷ []) ∙ ap (λ xs. xs ++ x ∷ []) (sym (append-nil m.nodes))) i;
      edges = (m.edges ++ []) ++ [];
      scopes = (ap (λ xs. xs ++ s ∷ []) (append-nil m.scopes) ∙ sym (append-nil (m.scopes ++ s ∷ []))) i;
    }

pub scopes_keep_nodes : (u : Around) (vs : List Variable) (m : Parts) → length (after (scope_behind u vs) m).nodes ≡ length m.nodes
unfolding after
scopes_keep_nodes u [] m = ap (λ (p : Parts). length p.nodes) (after_nil m)
scopes_keep_nodes u (v ∷ vs) m = one (sees_behind u (v ∷ vs))
  where
    one : (s : Scope) → length (after (scope s) m).nodes ≡ length m.nodes
    one s = ap length (append-nil m.nodes)

pub ruleset behind_laws = (settled, scope_made, scopes_keep_nodes)

-- a turn over statements, from what its call gives
pub seen_more : (list : List TypedStatement) (i : ℕ) (s : TypedStatement) (more sees outer : List Variable) → i < length list → s ≡ get_or list i s → more ≡ (piece s).declares ++ sees → sees ≡ declared_by (map piece (take i list)) ++ outer
    → more ≡ declared_by (map piece (take (i + 1) list)) ++ outer
seen_more list i s more sees outer within is e h =
    e ∙ ap (λ vs. (piece s).declares ++ vs) h ∙ sym (append_assoc (piece s).declares (declared_by (map piece (take i list))) outer) ∙ ap (λ vs. vs ++ outer) (sym (declared_more list i s within is))
