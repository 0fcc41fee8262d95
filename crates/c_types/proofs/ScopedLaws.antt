-- One expression in a scope of the graph.
use Rattle.std.proofs.Common.{◌≡◌, ℕ, ◌+◌, ◌-◌, ◌<◌, ◌≤◌, true, false, List, [], ◌∷◌, ◌++◌, length, get_or, drop, Some, None, refl, sym, ap, ◌∙◌, arith}
use Rattle.std.specs.Prelude.{if◌then◌else◌}
use Rattle.std.proofs.lemmas.List.{drop_more, drop_all}
use Rattle.c_parse.specs.declared.expr.ExprTree.{ExprTree}
use Rattle.c_parse.specs.SequencePoints.{has_sequence_point}
use Rattle.cfa.specs.declared.parts.Scope.{Scope}
use Rattle.cfa.specs.declared.parts.Variable.{Variable}
use Rattle.c_type_rules.specs.declared.faults.Found.{Found}
use Rattle.c_type_rules.specs.declared.scopes.Bound.{Bound}
use Rattle.c_type_rules.specs.declared.scopes.Meaning.TheVariants as meanings
use Rattle.c_type_rules.specs.declared.typer.Sort.{Sort}
use Rattle.c_type_rules.specs.declared.typer.Typer.{Typer}
use Rattle.c_type_rules.specs.Expressions.{typing}
use Rattle.c_type_rules.specs.Faults.{first_with, first_of}
use Rattle.c_type_rules.specs.Rule.{made_by, after}
use Rattle.c_type_rules.proofs.FirstLaws.{none_is_none}
use Rattle.c_types.specs.Declarations.{bound_as}
use Rattle.c_types.specs.Scoped.{names_in, at_scope, sort_expr, faultless_expr, done_expr, expression_in}

-- ---- the names, from a place on

module _ (vs : List Variable) (i : ℕ) where
  pub names_end : length vs ≤ i → names_in (drop i vs) ≡ []
  unfolding names_in
  names_end h = ap names_in (drop_all i vs h)

  pub names_more : (v : Variable) → i < length vs → v ≡ get_or vs i v → names_in (drop i vs) ≡ names_in (drop (i + 1) vs) ++ bound_as 0 v ∷ []
  unfolding names_in
  names_more v h e = ap names_in (drop_more vs i v h) ∙ ap (λ (w : Variable). names_in (drop (i + 1) vs) ++ bound_as 0 w ∷ []) (sym e)

pub names_turn : (vs : List Variable) (left : ℕ) (v : Variable) (names names' : List Bound) (w : List ℕ) (copy : Variable) → 0 < left → left ≤ length vs → v ≡ get_or vs (left - 1) v → w ≡ v.name → copy ≡ v
    → names' ≡ names ++ record { name = w; level = 0; meaning = meanings.Variable copy } ∷ [] → names ≡ names_in (drop left vs) → names' ≡ names_in (drop (left - 1) vs)
names_turn vs left v names names' w copy some within is ew ec e l =
    let here : left - 1 < length vs = omega arith in
    let next : left ≡ left - 1 + 1 = omega arith in
    e ∙ (λ i. l i ++ record { name = ew i; level = 0; meaning = meanings.Variable (ec i) } ∷ [])
    ∙ ap (λ n. names_in (drop n vs) ++ bound_as 0 v ∷ []) next
    ∙ sym (names_more vs (left - 1) v here is)

-- ---- the expression

abbrev pub state_in : List Bound → Typer
state_in names = record { bound = names; labels = []; cases = []; level = 0; local = 0; temporary = 0; fault = None }

faulty : (fs : List Found) (sort : Sort) (f : Found) → first_of fs ≡ Some f → faultless_expr fs sort ≡ None
unfolding first_with
faulty [] sort f h = cc
faulty (g ∷ gs) sort f h = refl

module _ (s : Scope) (t : ExprTree) where
  pub has_point : has_sequence_point t ≡ true → expression_in s t ≡ None
  unfolding expression_in
  has_point h = ap (λ b. if b then None else done_expr (typing t (at_scope s))) h

  without_point : has_sequence_point t ≡ false → expression_in s t ≡ done_expr (typing t (at_scope s))
  unfolding expression_in
  without_point h = ap (λ b. if b then None else done_expr (typing t (at_scope s))) h

  fault_is : (after (typing t) (state_in (names_in s.variables))).fault ≡ first_of (typing t (at_scope s)).faults
  unfolding after
  fault_is = refl

  made_is : made_by (typing t) (state_in (names_in s.variables)) ≡ (typing t (at_scope s)).made
  unfolding made_by
  made_is = refl

  pub faulty_expression : (r : Typer) (f : Found) → has_sequence_point t ≡ false → r ≡ after (typing t) (state_in (names_in s.variables)) → r.fault ≡ Some f → expression_in s t ≡ None
  faulty_expression r f p e h =
      without_point p ∙ faulty (typing t (at_scope s)).faults (typing t (at_scope s)).made f (sym fault_is ∙ ap (λ (x : Typer). x.fault) (sym e) ∙ h)

  pub typed_expression : (r : Typer) (sort : Sort) → has_sequence_point t ≡ false → r ≡ after (typing t) (state_in (names_in s.variables)) → sort ≡ made_by (typing t) (state_in (names_in s.variables)) → r.fault ≡ None
      → expression_in s t ≡ sort_expr sort
  typed_expression r sort p e m h =
      let none : (typing t (at_scope s)).faults ≡ [] = none_is_none (typing t (at_scope s)).faults (sym fault_is ∙ ap (λ (x : Typer). x.fault) (sym e) ∙ h) in
      without_point p ∙ ap (λ fs. faultless_expr fs (typing t (at_scope s)).made) none ∙ ap sort_expr (sym made_is ∙ sym m)

pub ruleset scoped_laws = (has_point, faulty_expression, typed_expression)
