-- The faults of declarations, of any scope.
use Rattle.std.proofs.Common.{ℕ, Bool, true, false, not, List, [], ◌∷◌, length, Option, Some, None, refl}
use Rattle.std.specs.Prelude.{IsTrue, ◌&&◌}
use Rattle.std.specs.List.{list_all}
use Rattle.fq_core.specs.declared.span.Span.{Span}
use Rattle.c_values.specs.declared.kinds.Kind.{Kind}
use Rattle.c_values.proofs.Fitting.{and_left, and_right}
use Rattle.c_parse.specs.declared.expr.ExprTree.{ExprTree}
use Rattle.c_parse.specs.declared.expr.Ident.{Ident}
use Rattle.c_parse.specs.declared.statement.Declarator.{Declarator}
use Rattle.c_parse.specs.declared.statement.Initial.{Initial}
use Rattle.c_parse.specs.declared.statement.Initial.TheVariants as initials
use Rattle.c_types_laws.specs.tree_contents.Contents.{optional_passes, initial_passes, declarator_passes, constant_passes}
use Rattle.cfa.specs.declared.parts.Variable.{Variable}
use Rattle.cfa.specs.declared.parts.VariablePlace.TheVariants as places
use Rattle.c_values.specs.Kind.{int}
use Rattle.c_type_rules.specs.Rule.{Rule, alone_in}
use Rattle.c_types.specs.Declarations.{same_level, unused, variable_of, bound_as, bind_variable, is_array_length, length_if, length_within, length_at, cells_of, is_list_for, value_for, values_for, begun, local_rule, locals_rule, value_or_zero, first_value, first_values, begun_global, global_rule, globals_rule, enumerated, bound_constant, constant_rule, constants_from}
use Rattle.c_types_laws.proofs.typing_faults.Telling.{test_all, Tells, then_tells, pure_tells, fault_tells, expect_tells, look_tells, here_tells, local_tells, bind_tells, alone_tells, each_tells}
use Rattle.c_types_laws.proofs.typing_faults.Expressions.{passes, expression_tells, constant_tells}

module _ (number : ℕ → Kind → Bool) (place : Span → Bool) where
  abbrev Fine : {A : Type 0} → Rule A → Type 0
  Fine m = Tells place m

  abbrev optional : Option ExprTree → Bool
  optional = optional_passes number place

  -- ---- names and lengths

  pub unused_tells : (d : Ident) → IsTrue (place d.span) → Fine (unused d)
  unfolding unused
  unused_tells d s = then_tells place (here_tells place) (λ level. then_tells place (look_tells place d.name) (λ found. expect_tells place 31 d.span (not (same_level level found)) refl s))

  pub bind_variable_tells : (v : Variable) → Fine (bind_variable v)
  unfolding bind_variable
  bind_variable_tells v = then_tells place (here_tells place) (λ level. bind_tells place (bound_as level v))

  length_if_tells : (span : Span) → IsTrue (place span) → (n : ℕ) (b : Bool) → Fine (length_if span n b)
  length_if_tells span s n true = pure_tells place _
  length_if_tells span s n false = fault_tells place 34 span _ refl s

  length_within_tells : (span : Span) → IsTrue (place span) → (o : Option ℕ) → Fine (length_within span o)
  length_within_tells span s None = pure_tells place _
  length_within_tells span s (Some n) = length_if_tells span s n (is_array_length n)

  pub length_at_tells : (span : Span) → IsTrue (place span) → (t : Option ExprTree) → IsTrue (optional t) → Fine (length_at span t)
  unfolding length_at
  length_at_tells span s None p = pure_tells place _
  length_at_tells span s (Some t) p = then_tells place (constant_tells number place None t p) (length_within_tells span s)

  -- ---- variables of a block

  value_tells : (kind : Kind) (t : ExprTree) → IsTrue (passes number place t) → Fine (value_for kind t)
  unfolding value_for
  value_tells kind t p = then_tells place (expression_tells number place t p) (λ a. pure_tells place _)

  values_tells : (kind : Kind) (ts : List ExprTree) → IsTrue (list_all (passes number place) ts) → Fine (values_for kind ts)
  unfolding values_for
  values_tells kind ts p = each_tells place (λ t. alone_in (value_for kind t)) (λ t q. alone_tells place (value_tells kind t q)) ts (test_all (passes number place) ts p)

  begun_tells : (span : Span) (d : Ident) → IsTrue (place d.span) → (v : Variable) (length : Option ℕ) (first : Option Initial) → IsTrue (initial_passes number place first) → Fine (begun span d v length first)
  begun_tells span d s v None None p = pure_tells place _
  begun_tells span d s v None (Some (initials.One t)) p = then_tells place (value_tells v.kind t p) (λ a. pure_tells place _)
  begun_tells span d s v None (Some (initials.List ts)) p = then_tells place (expect_tells place 33 d.span false refl s) (λ u. then_tells place (values_tells v.kind ts p) (λ list. pure_tells place _))
  begun_tells span d s v (Some n) None p = pure_tells place _
  begun_tells span d s v (Some n) (Some (initials.One t)) p = then_tells place (expect_tells place 33 d.span false refl s) (λ u. then_tells place (value_tells v.kind t p) (λ a. pure_tells place _))
  begun_tells span d s v (Some n) (Some (initials.List ts)) p = then_tells place (expect_tells place 34 d.span (is_list_for n (length ts)) refl s) (λ u. then_tells place (values_tells v.kind ts p) (λ list. pure_tells place _))

  -- the parts of a declarator that passes
  record Parts (d : Declarator) : Type 0 where
    span : IsTrue (place d.name.span)
    length : IsTrue (optional d.length)
    first : IsTrue (initial_passes number place d.first)

  parts_of : (d : Declarator) → IsTrue (declarator_passes number place d) → Parts d
  parts_of d p =
      let front = and_left (place d.name.span && optional d.length) (initial_passes number place d.first) p in
      record {
        span = and_left (place d.name.span) (optional d.length) front;
        length = and_right (place d.name.span) (optional d.length) front;
        first = and_right (place d.name.span && optional d.length) (initial_passes number place d.first) p;
      }

  local_rule_tells : (span : Span) (kind : Kind) (d : Declarator) → Parts d → Fine (local_rule span kind d)
  unfolding local_rule
  local_rule_tells span kind d p =
      then_tells place (unused_tells d.name p.span) (λ u. then_tells place (length_at_tells d.name.span p.span d.length p.length) (λ length.
      then_tells place (local_tells place (cells_of length)) (λ cell. then_tells place (bind_variable_tells (variable_of d.name.name kind length (places.Local cell))) (λ u.
      begun_tells span d.name p.span (variable_of d.name.name kind length (places.Local cell)) length d.first p.first))))

  pub locals_tells : (span : Span) (kind : Kind) (ds : List Declarator) → IsTrue (list_all (declarator_passes number place) ds) → Fine (locals_rule span kind ds)
  unfolding locals_rule
  locals_tells span kind ds p = each_tells place (λ d. alone_in (local_rule span kind d)) (λ d q. alone_tells place (local_rule_tells span kind d (parts_of d q))) ds (test_all (declarator_passes number place) ds p)

  -- ---- variables of the file

  first_tells : (kind : Kind) (t : ExprTree) → IsTrue (passes number place t) → Fine (first_value kind t)
  unfolding first_value
  first_tells kind t p = then_tells place (constant_tells number place (Some kind) t p) (λ v. pure_tells place (value_or_zero v))

  firsts_tells : (kind : Kind) (ts : List ExprTree) → IsTrue (list_all (passes number place) ts) → Fine (first_values kind ts)
  unfolding first_values
  firsts_tells kind ts p = each_tells place (λ t. alone_in (first_value kind t)) (λ t q. alone_tells place (first_tells kind t q)) ts (test_all (passes number place) ts p)

  begun_global_tells : (d : Ident) → IsTrue (place d.span) → (kind : Kind) (length : Option ℕ) (first : Option Initial) → IsTrue (initial_passes number place first) → Fine (begun_global d kind length first)
  begun_global_tells d s kind None None p = pure_tells place _
  begun_global_tells d s kind None (Some (initials.One t)) p = then_tells place (first_tells kind t p) (λ v. pure_tells place _)
  begun_global_tells d s kind None (Some (initials.List ts)) p = then_tells place (expect_tells place 33 d.span false refl s) (λ u. then_tells place (firsts_tells kind ts p) (λ vs. pure_tells place _))
  begun_global_tells d s kind (Some n) None p = pure_tells place _
  begun_global_tells d s kind (Some n) (Some (initials.One t)) p = then_tells place (expect_tells place 33 d.span false refl s) (λ u. then_tells place (first_tells kind t p) (λ v. pure_tells place _))
  begun_global_tells d s kind (Some n) (Some (initials.List ts)) p = then_tells place (expect_tells place 34 d.span (is_list_for n (length ts)) refl s) (λ u. then_tells place (firsts_tells kind ts p) (λ vs. pure_tells place _))

  global_tells : (kind : Kind) (d : Declarator) → Parts d → Fine (global_rule kind d)
  unfolding global_rule
  global_tells kind d p =
      then_tells place (unused_tells d.name p.span) (λ u. then_tells place (length_at_tells d.name.span p.span d.length p.length) (λ length.
      then_tells place (local_tells place (cells_of length)) (λ cell. then_tells place (expect_tells place 37 d.name.span _ refl p.span) (λ u.
      then_tells place (bind_variable_tells (variable_of d.name.name kind length (places.Global cell))) (λ u.
      then_tells place (begun_global_tells d.name p.span kind length d.first p.first) (λ first. pure_tells place _))))))

  pub globals_tells : (kind : Kind) (ds : List Declarator) → IsTrue (list_all (declarator_passes number place) ds) → Fine (globals_rule kind ds)
  unfolding globals_rule
  globals_tells kind ds p = each_tells place (λ d. alone_in (global_rule kind d)) (λ d q. alone_tells place (global_tells kind d (parts_of d q))) ds (test_all (declarator_passes number place) ds p)

  -- ---- enumeration constants

  enumerated_tells : (next : ℕ) (t : Option ExprTree) → IsTrue (optional t) → Fine (enumerated next t)
  enumerated_tells next None p = pure_tells place next
  enumerated_tells next (Some t) p = first_tells int t p

  constant_rule_tells : (next : ℕ) (c : Ident × Option ExprTree) → IsTrue (constant_passes number place c) → Fine (constant_rule next c)
  unfolding constant_rule
  constant_rule_tells next c p =
      then_tells place (enumerated_tells next c.1 (and_right (place c.0.span) (optional c.1) p)) (λ v.
      then_tells place (unused_tells c.0 (and_left (place c.0.span) (optional c.1) p)) (λ u. then_tells place (here_tells place) (λ level.
      then_tells place (bind_tells place (bound_constant c.0.name level v)) (λ u. pure_tells place _))))

  pub constants_tells : (next : ℕ) (cs : List (Ident × Option ExprTree)) → IsTrue (list_all (constant_passes number place) cs) → Fine (constants_from next cs)
  unfolding constants_from
  constants_tells next [] p = pure_tells place tt
  constants_tells next (c ∷ cs) p =
      let rest = list_all (constant_passes number place) cs in
      then_tells place (constant_rule_tells next c (and_left (constant_passes number place c) rest p)) (λ more. constants_tells more cs (and_right (constant_passes number place c) rest p))
