-- The functions of accepted units fit.
use Rattle.std.proofs.Common.{◌≡◌, ℕ, suc, ◌+◌, ◌≤◌, Bool, true, false, List, [], ◌∷◌, length, Option, Some, None, refl, sym, ap, subst, ◌∙◌, arith}
use Rattle.std.specs.Prelude.{slice_get, IsTrue, ◌&&◌, nat_le, cond}
use Rattle.std.specs.List.{AllByRecursion, list_all, filter_map, cons_option}
use Rattle.std.proofs.lemmas.Bool.{le-leb}
use Rattle.std.proofs.lemmas.Bool.Decides.{Decides-eqb}
use Rattle.fq_core.specs.declared.span.Span.{Span}
use Rattle.c_values.specs.declared.kinds.Kind.{Kind}
use Rattle.c_values.specs.Kind.{IsKind, is_kind}
use Rattle.c_values.proofs.Fitting.{and_left, and_right, and_both}
use Rattle.c_parse.specs.declared.expr.Ident.{Ident}
use Rattle.c_parse.specs.declared.unit.Body.{Body}
use Rattle.c_parse.specs.declared.unit.Parameter.{Parameter}
use Rattle.c_types_laws.specs.tree_contents.Contents.{statement_passes, body_passes, result_passes}
use Rattle.cfa.specs.declared.parts.Variable.{Variable}
use Rattle.cfa.specs.Graph.{variable_fits, result_kind_fits}
use Rattle.cfa.specs.Rules.{is_length}
use Rattle.c_typed_trees.specs.declared.unit.TypedFunction.{TypedFunction}
use Rattle.c_typed_trees.specs.Fitting.{Nameable, word_kind, word_kinds, array_lengths, span_fits, is_variable, statement_fits}
use Rattle.c_type_rules.specs.declared.faults.Found.{Found}
use Rattle.c_type_rules.specs.declared.scopes.Bound.{Bound}
use Rattle.c_type_rules.specs.Rule.{At, behind, pure, ◌then◌, in_scope}
use Rattle.c_types.specs.declared.parameters.Parameters.{Parameters}
use Rattle.c_types.specs.Declarations.{variable_of, length_at}
use Rattle.c_types.specs.Functions.{name_of, name_span, parameter_place, cell_behind, lent_behind, named_parameter, parameter_rule, parameters_from, parameters_rule, in_frame, too_large, framed, bind_parameters, in_function, body_rule, function_of}
use Rattle.c_types_laws.proofs.typing_laws.AlikeStatements.{same_locals}
use Rattle.c_types_laws.proofs.typing_fits.Sound.{StandsFrom, left_empty, right_empty, all_test, NamesFit, Sound, Any, then_sound, pure_sound, scope_sound}
use Rattle.c_types_laws.proofs.typing_fits.Expressions.{number_is, place_in, within}
use Rattle.c_types_laws.proofs.typing_fits.Statements.{AllFit}
use Rattle.c_types_laws.proofs.typing_fits.StatementRules.{bind_variable_sound, statements_sound}

-- ---- parameters lie one behind another

-- integers have the cells from one on, and arrays are lent from a place on
abbrev pub Placed : ℕ → ℕ → List Variable → ℕ → Type 0
Placed cell lent [] end = end ≡ cell
Placed cell lent (v ∷ vs) end = (v.place ≡ parameter_place cell lent v.length) × IsKind v.kind × Placed (cell_behind cell v.length) (lent_behind lent v.length) vs end

abbrev PlacedAt : ℕ → ℕ → Kind → Variable → Type 0
PlacedAt cell lent kind v = (v.place ≡ parameter_place cell lent v.length) × (v.kind ≡ kind)

named_made : (defined : Bool) (span : Span) (d : Option Ident) (v : Variable) (at : At) → (named_parameter defined span d v at).made ≡ v
unfolding ◌then◌ pure
named_made defined span None v at = refl
named_made defined span (Some d) v at = refl

parameter_made : (defined : Bool) (cell lent : ℕ) (p : Parameter) (at : At) → PlacedAt cell lent p.kind (parameter_rule defined cell lent p at).made
unfolding parameter_rule ◌then◌
parameter_made defined cell lent p at =
    let d = length_at (name_span p.span p.name) p.length at in
    let v = variable_of (name_of p.name) p.kind d.made (parameter_place cell lent d.made) in
    subst (PlacedAt cell lent p.kind) (sym (named_made defined p.span p.name v (behind at d))) (refl, refl)

abbrev pub KindsAre : List Parameter → Type 0
KindsAre ps = AllByRecursion (λ (p : Parameter). IsKind p.kind) ps

parameters_made : (defined : Bool) (cell lent : ℕ) (ps : List Parameter) → KindsAre ps → (at : At)
    → Placed cell lent (parameters_from defined cell lent ps at).made.variables (parameters_from defined cell lent ps at).made.cells
unfolding parameters_from ◌then◌ pure
parameters_made defined cell lent [] h at = refl
parameters_made defined cell lent (p ∷ ps) h at =
    let d = parameter_rule defined cell lent p at in
    let k = parameter_made defined cell lent p at in
    (k.0, subst IsKind (sym k.1) h.0, parameters_made defined (cell_behind cell d.made.length) (lent_behind lent d.made.length) ps h.1 (behind at d))

pub parameters_placed : (defined : Bool) (ps : List Parameter) → KindsAre ps → (at : At)
    → Placed 1 0 (in_scope (parameters_rule defined ps) at).made.variables (in_scope (parameters_rule defined ps) at).made.cells
unfolding in_scope
parameters_placed defined ps h at = parameters_made defined 1 0 ps h _

abbrev length_of : Variable → Option ℕ
length_of v = v.length

behind_least : (cell : ℕ) (o : Option ℕ) → cell ≤ cell_behind cell o
behind_least cell None = omega arith
behind_least cell (Some n) = omega arith

placed_least : (cell lent : ℕ) (vs : List Variable) (end : ℕ) → Placed cell lent vs end → cell ≤ end
placed_least cell lent [] end h = omega arith
placed_least cell lent (v ∷ vs) end h = (let p = placed_least (cell_behind cell v.length) (lent_behind lent v.length) vs end h.2 in let q = behind_least cell v.length in omega arith)

pub placed_count : (cell lent : ℕ) (vs : List Variable) (end : ℕ) → Placed cell lent vs end → length (filter_map word_kind vs) + cell ≡ end
placed_count cell lent [] end h = omega (arith, h)
placed_count cell lent (v ∷ vs) end h = by v.length (placed_count (cell_behind cell v.length) (lent_behind lent v.length) vs end h.2)
  where
    by : (o : Option ℕ) → length (filter_map word_kind vs) + cell_behind cell o ≡ end → length (cons_option (elim o [ None ↦ Some v.kind | Some n ↦ None ]) (filter_map word_kind vs)) + cell ≡ end
    by None e = omega (arith, e)
    by (Some n) e = e

module _ (n : Nameable) where
  one_placed : (cell lent : ℕ) (o : Option ℕ) (rest : List ℕ) → cell_behind cell o ≤ n.room.cells → StandsFrom n.room.arrays lent (cons_option o rest) → IsTrue (variable_fits n.room o (parameter_place cell lent o))
  one_placed cell lent None rest h k = le-leb (cell + 1) n.room.cells h
  one_placed cell lent (Some m) rest h k =
      let e : lent ≡ lent + 0 = omega arith in
      subst (λ o. IsTrue (is_length o m)) (sym (ap (slice_get n.room.arrays) e ∙ k 0)) ((Decides-eqb m m).1 refl)

  lent_more : (lent : ℕ) (o : Option ℕ) (rest : List ℕ) → StandsFrom n.room.arrays lent (cons_option o rest) → StandsFrom n.room.arrays (lent_behind lent o) rest
  lent_more lent None rest k j = k j
  lent_more lent (Some m) rest k j = (let e : lent + 1 + j ≡ lent + suc j = omega arith in ap (slice_get n.room.arrays) e ∙ k (suc j))

  pub placed_fit : (cell lent : ℕ) (vs : List Variable) (end : ℕ) → Placed cell lent vs end → end ≤ n.room.cells → StandsFrom n.room.arrays lent (filter_map length_of vs) → AllByRecursion (λ v. IsTrue (is_variable n v)) vs
  placed_fit cell lent [] end h l k = tt
  placed_fit cell lent (v ∷ vs) end h l k =
      let least = placed_least (cell_behind cell v.length) (lent_behind lent v.length) vs end h.2 in
      let there = one_placed cell lent v.length (filter_map length_of vs) (omega arith) k in (
        and_both (is_kind v.kind) (variable_fits n.room v.length v.place) h.1 (subst (λ place. IsTrue (variable_fits n.room v.length place)) (sym h.0) there),
        placed_fit (cell_behind cell v.length) (lent_behind lent v.length) vs end h.2 l (lent_more lent v.length (filter_map length_of vs) k),
      )

  bind_parameters_sound : (vs : List Variable) → AllByRecursion (λ v. IsTrue (is_variable n v)) vs → Sound n (within n n.room.cells) Any (bind_parameters vs)
  unfolding bind_parameters
  bind_parameters_sound [] h = pure_sound tt tt
  bind_parameters_sound (v ∷ vs) h = then_sound (bind_variable_sound n (within n n.room.cells) v h.0) (λ u p. bind_parameters_sound vs h.1)

  body_sound : (result : Option Kind) → IsTrue (result_kind_fits result) → (ps : Parameters) → AllByRecursion (λ v. IsTrue (is_variable n v)) ps.variables → (b : Body) → IsTrue (list_all (statement_passes number_is (place_in n.files)) b.statements)
      → Sound n (within n n.room.cells) (AllFit n) (body_rule result ps b)
  unfolding body_rule
  body_sound result k ps h b p = scope_sound (then_sound (bind_parameters_sound ps.variables h) (λ u q. statements_sound n (in_function result) k b.statements p))

-- ---- frames

-- a function's own room, among the functions, inputs and globals of the unit
abbrev pub roomed : Nameable → ℕ → List ℕ → Nameable
roomed n cells arrays = record { files = n.files; functions = n.functions; inputs = n.inputs; room = record { globals = n.room.globals; cells = cells; arrays = arrays } }

-- names of the file fit in every frame
abbrev pub FileNames : Nameable → List Bound → Type 0
FileNames n bs = (cells : ℕ) (arrays : List ℕ) → NamesFit (roomed n cells arrays) bs

abbrev pub function_fits_in : Nameable → TypedFunction → Bool
function_fits_in u f =
    let n = roomed u f.cells (array_lengths f) in
    span_fits n f.span && span_fits n f.close && result_kind_fits f.result && list_all (is_variable n) f.parameters
    && nat_le (length (word_kinds f) + 1) f.cells && nat_le f.cells 16384 && list_all (statement_fits n) f.body

within_limit : (t : Bool) (f : Found) → cond t [] (f ∷ []) ≡ [] → IsTrue t
within_limit true f e = refl
within_limit false f e = absurd (cc)

all_front : (a b c d e f g : Bool) → IsTrue a → IsTrue b → IsTrue c → IsTrue d → IsTrue e → IsTrue f → IsTrue g → IsTrue (a && b && c && d && e && f && g)
all_front a b c d e f g h i j k l m o = and_both (a && b && c && d && e && f) g (and_both (a && b && c && d && e) f (and_both (a && b && c && d) e (and_both (a && b && c) d (and_both (a && b) c (and_both a b h i) j) k) l) m) o

pub result_is : (files : ℕ) (o : Option Kind) → IsTrue (result_passes number_is (place_in files) o) → IsTrue (result_kind_fits o)
result_is files None h = refl
result_is files (Some kind) h = h

-- a function that is defined fits
pub function_fit : (u : Nameable) (span : Span) (result : Option Kind) (d : Ident) (ps : Parameters) (b : Body) (at : At) → FileNames u at.bound → Placed 1 0 ps.variables ps.cells
    → IsTrue (place_in u.files span) → IsTrue (result_kind_fits result) → IsTrue (body_passes number_is (place_in u.files) (Some b)) → (framed span ps.cells (body_rule result ps b) at).faults ≡ []
    → IsTrue (function_fits_in u (function_of span result d ps b (framed span ps.cells (body_rule result ps b) at).made))
unfolding framed
function_fit u span result d ps b at names placed s r p none =
    let first = ps.cells in
    let m = body_rule result ps b in
    let temporaries = first + (m (in_frame first 0 at)).locals in
    let done = m (in_frame first temporaries at) in
    let cells = temporaries + done.temporaries in
    let n = roomed u cells (filter_map length_of ps.variables) in
    let faultless = left_empty done.faults (too_large span cells) none in
    let limit = within_limit (nat_le cells 16384) (record { span = span; code = 37 }) (right_empty done.faults (too_large span cells) none) in
    let alike = same_locals result ps b at first temporaries in
    let room : first ≤ cells = omega arith in
    let parameters = placed_fit n 1 0 ps.variables first placed room (λ j. (let e : 0 + j ≡ j = omega arith in ap (slice_get (filter_map length_of ps.variables)) e)) in
    let passes = list_all (statement_passes number_is (place_in u.files)) b.statements in
    let fits = ((body_sound n result r ps parameters b (and_left passes (place_in u.files b.close) p)).run (in_frame first temporaries at) (names cells (filter_map length_of ps.variables)) faultless (omega arith) (omega arith)).made in
    let count = placed_count 1 0 ps.variables first placed in
    all_front (span_fits n span) (span_fits n b.close) (result_kind_fits result) (list_all (is_variable n) ps.variables) (nat_le (length (filter_map word_kind ps.variables) + 1) cells) (nat_le cells 16384) (list_all (statement_fits n) done.made)
    s (and_right passes (place_in u.files b.close) p) r (all_test (is_variable n) ps.variables parameters) (le-leb (length (filter_map word_kind ps.variables) + 1) cells (omega arith)) limit (all_test (statement_fits n) done.made fits)
