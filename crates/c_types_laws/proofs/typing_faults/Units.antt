-- The faults of functions and units.
use Rattle.std.proofs.Common.{ℕ, ◌+◌, Bool, true, false, not, List, [], ◌∷◌, Option, Some, None, refl}
use Rattle.std.specs.Prelude.{IsTrue, ◌&&◌, nat_le, cond}
use Rattle.std.specs.Option.{is_some}
use Rattle.std.specs.List.{AllByRecursion, list_all}
use Rattle.fq_core.specs.declared.span.Span.{Span}
use Rattle.c_values.specs.declared.kinds.Kind.{Kind}
use Rattle.c_values.proofs.Fitting.{and_left, and_right}
use Rattle.c_parse.specs.declared.expr.Ident.{Ident}
use Rattle.c_parse.specs.declared.unit.Body.{Body}
use Rattle.c_parse.specs.declared.unit.Item.{Item}
use Rattle.c_parse.specs.declared.unit.Item.TheVariants as items
use Rattle.c_parse.specs.declared.unit.Parameter.{Parameter}
use Rattle.c_types_laws.specs.tree_contents.Contents.{optional_passes, declarator_passes, statement_passes, name_passes, parameter_passes, body_passes, result_passes, constant_passes, item_passes}
use Rattle.cfa.specs.declared.parts.Variable.{Variable}
use Rattle.c_typed_trees.specs.declared.expression.Callee.{Callee}
use Rattle.c_type_rules.specs.declared.scopes.Signature.{Signature}
use Rattle.c_type_rules.specs.Rule.{Rule}
use Rattle.c_types.specs.declared.parameters.Parameters.{Parameters}
use Rattle.c_types.specs.declared.program.Program.{Program}
use Rattle.c_types.specs.Declarations.{variable_of}
use Rattle.c_types.specs.Functions.{name_of, name_span, parameter_place, cell_behind, lent_behind, named_parameter, parameter_rule, parameters_from, may_declare, bound_function, declare, in_frame, too_large, framed, bind_parameters, in_function, body_rule, defined_rule, function_rule}
use Rattle.c_types.specs.Units.{callee_of, item_rule, items_rule, program_of, start, faults_of}
use Rattle.c_types_laws.specs.typing_faults.Laws.{FaultsLieInTheUnit}
use Rattle.c_types_laws.proofs.typing_faults.Telling.{all_append, Lies, among_all, Tells, then_tells, pure_tells, expect_tells, look_tells, here_tells, bind_tells, scope_tells}
use Rattle.c_types_laws.proofs.typing_faults.Declarations.{unused_tells, bind_variable_tells, length_at_tells, globals_tells, constants_tells}
use Rattle.c_types_laws.proofs.typing_faults.Statements.{statements_tell}

module _ (number : ℕ → Kind → Bool) (place : Span → Bool) where
  abbrev Fine : {A : Type 0} → Rule A → Type 0
  Fine m = Tells place m

  -- ---- parameters

  name_span_passes : (span : Span) → IsTrue (place span) → (name : Option Ident) → IsTrue (name_passes number place name) → IsTrue (place (name_span span name))
  name_span_passes span s None p = s
  name_span_passes span s (Some d) p = p

  named_tells : (defined : Bool) (span : Span) → IsTrue (place span) → (name : Option Ident) → IsTrue (name_passes number place name) → (v : Variable) → Fine (named_parameter defined span name v)
  named_tells defined span s None p v = then_tells place (expect_tells place 29 span (not defined) refl s) (λ u. pure_tells place v)
  named_tells defined span s (Some d) p v = then_tells place (unused_tells number place d p) (λ u. then_tells place (bind_variable_tells number place v) (λ w. pure_tells place v))

  parameter_tells : (defined : Bool) (cell lent : ℕ) (p : Parameter) → IsTrue (parameter_passes number place p) → Fine (parameter_rule defined cell lent p)
  unfolding parameter_rule
  parameter_tells defined cell lent p h =
      let front = and_left (place p.span && name_passes number place p.name && optional_passes number place p.length) _ h in
      let names = and_left (place p.span && name_passes number place p.name) (optional_passes number place p.length) front in
      let s = and_left (place p.span) (name_passes number place p.name) names in
      let d = and_right (place p.span) (name_passes number place p.name) names in
      then_tells place (length_at_tells number place (name_span p.span p.name) (name_span_passes p.span s p.name d) p.length (and_right (place p.span && name_passes number place p.name) (optional_passes number place p.length) front))
      (λ length. named_tells defined p.span s p.name d (variable_of (name_of p.name) p.kind length (parameter_place cell lent length)))

  parameters_tell : (defined : Bool) (cell lent : ℕ) (ps : List Parameter) → IsTrue (list_all (parameter_passes number place) ps) → Fine (parameters_from defined cell lent ps)
  unfolding parameters_from
  parameters_tell defined cell lent [] h = pure_tells place _
  parameters_tell defined cell lent (p ∷ ps) h =
      let rest = list_all (parameter_passes number place) ps in
      then_tells place (parameter_tells defined cell lent p (and_left (parameter_passes number place p) rest h)) (λ v.
      then_tells place (parameters_tell defined (cell_behind cell v.length) (lent_behind lent v.length) ps (and_right (parameter_passes number place p) rest h)) (λ more. pure_tells place _))

  declare_tells : (d : Ident) → IsTrue (place d.span) → (f : Signature) → Fine (declare d f)
  unfolding declare
  declare_tells d s f =
      then_tells place (look_tells place d.name) (λ found. then_tells place (expect_tells place 31 d.span (may_declare f found) refl s) (λ u.
      then_tells place (here_tells place) (λ level. bind_tells place (bound_function d.name level f found))))

  -- ---- bodies

  too_large_lies : (span : Span) → IsTrue (place span) → (cells : ℕ) → AllByRecursion (Lies place) (too_large span cells)
  too_large_lies span s cells = by (nat_le cells 16384)
    where
      by : (b : Bool) → AllByRecursion (Lies place) (cond b [] (record { span = span; code = 37 } ∷ []))
      by true = tt
      by false = ((refl, s), tt)

  framed_tells : {A : Type 0} (span : Span) → IsTrue (place span) → (first : ℕ) (m : Rule A) → Fine m → Fine (framed span first m)
  unfolding framed
  framed_tells span s first m h = record {
    faults = λ at.
        let temporaries = first + (m (in_frame first 0 at)).locals in
        let d = m (in_frame first temporaries at) in
        all_append (Lies place) d.faults (too_large span (temporaries + d.temporaries)) (h.faults (in_frame first temporaries at)) (too_large_lies span s (temporaries + d.temporaries));
  }

  bind_parameters_tells : (vs : List Variable) → Fine (bind_parameters vs)
  unfolding bind_parameters
  bind_parameters_tells [] = pure_tells place tt
  bind_parameters_tells (v ∷ vs) = then_tells place (bind_variable_tells number place v) (λ u. bind_parameters_tells vs)

  body_tells : (result : Option Kind) (ps : Parameters) (b : Body) → IsTrue (list_all (statement_passes number place) b.statements) → Fine (body_rule result ps b)
  unfolding body_rule
  body_tells result ps b p = scope_tells place (then_tells place (bind_parameters_tells ps.variables) (λ u. statements_tell number place (in_function result) b.statements p))

  defined_tells : (span : Span) → IsTrue (place span) → (result : Option Kind) (d : Ident) (ps : Parameters) (body : Option Body) → IsTrue (body_passes number place body) → Fine (defined_rule span result d ps body)
  defined_tells span s result d ps None p = pure_tells place []
  defined_tells span s result d ps (Some b) p =
      then_tells place (framed_tells span s ps.cells (body_rule result ps b) (body_tells result ps b (and_left (list_all (statement_passes number place) b.statements) (place b.close) p))) (λ made. pure_tells place _)

  -- ---- items

  function_tells : (callee : Option Callee) (span : Span) (result : Option Kind) (d : Ident) (ps : List Parameter) (body : Option Body) → IsTrue (place span) → IsTrue (place d.span)
      → IsTrue (list_all (parameter_passes number place) ps) → IsTrue (body_passes number place body) → Fine (function_rule callee span result d ps body)
  unfolding function_rule
  function_tells callee span result d ps body s n p b =
      then_tells place (scope_tells place (parameters_tell (is_some body) 1 0 ps p)) (λ vs. then_tells place (declare_tells d n _) (λ u. defined_tells span s result d vs body b))

  item_tells : (p : Program) (i : Item) → IsTrue (item_passes number place i) → Fine (item_rule p i)
  unfolding item_rule
  item_tells p (items.Function span result d ps body) h =
      let all = list_all (parameter_passes number place) ps in
      let a = and_left (place span && place d.span && all && body_passes number place body) (result_passes number place result) h in
      let b = and_left (place span && place d.span && all) (body_passes number place body) a in
      let c = and_left (place span && place d.span) all b in
      then_tells place (function_tells (callee_of p d.name) span result d ps body (and_left (place span) (place d.span) c) (and_right (place span) (place d.span) c)
      (and_right (place span && place d.span) all b) (and_right (place span && place d.span && all) (body_passes number place body) a)) (λ fs. pure_tells place _)
  item_tells p (items.Variables span kind list) h =
      let ds = list_all (declarator_passes number place) list in
      then_tells place (globals_tells number place kind list (and_right (place span) ds (and_left (place span && ds) _ h))) (λ gs. pure_tells place _)
  item_tells p (items.Constants span list) h = then_tells place (constants_tells number place 0 list (and_right (place span) (list_all (constant_passes number place) list) h)) (λ u. pure_tells place _)

  items_tell : (p : Program) (is : List Item) → IsTrue (list_all (item_passes number place) is) → Fine (items_rule p is)
  unfolding items_rule
  items_tell p [] h = pure_tells place _
  items_tell p (i ∷ is) h =
      let rest = list_all (item_passes number place) is in
      then_tells place (item_tells p i (and_left (item_passes number place i) rest h)) (λ x. then_tells place (items_tell p is (and_right (item_passes number place i) rest h)) (λ y. pure_tells place _))

pub lie_in_the_unit : FaultsLieInTheUnit
unfolding faults_of
lie_in_the_unit number place list h f among = among_all place f (items_rule (program_of list) list start).faults ((items_tell number place (program_of list) list h).faults start) among
