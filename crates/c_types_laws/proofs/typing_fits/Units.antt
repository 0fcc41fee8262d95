-- What typing makes of an accepted unit fits.
use Rattle.std.proofs.Common.{◌≡◌, ℕ, suc, ◌+◌, ◌≤◌, Bool, true, false, List, [], ◌∷◌, ◌++◌, map, length, Option, Some, None, refl, sym, ap, subst, ◌∙◌, arith}
use Rattle.std.specs.Prelude.{slice_get, IsTrue, ◌&&◌, ◌||◌, cond}
use Rattle.std.specs.Option.{is_some}
use Rattle.std.specs.Str.{bytes_eq}
use Rattle.std.specs.List.{AllByRecursion, list_all, fold}
use Rattle.std.proofs.lemmas.List.{append-nil, append_assoc, map-append}
use Rattle.std.proofs.lemmas.Bool.{le-leb}
use Rattle.fq_core.specs.declared.span.Span.{Span}
use Rattle.c_values.specs.declared.kinds.Kind.{Kind}
use Rattle.c_values.specs.Kind.{int, IsKind, is_kind, is_value, IsValue}
use Rattle.c_values.specs.Operations.{sum_of}
use Rattle.c_values.proofs.Fitting.{and_left, and_right, and_both, IsValue-wrapped, IsValue-zero}
use Rattle.c_parse.specs.declared.expr.ExprTree.{ExprTree}
use Rattle.c_parse.specs.declared.expr.Ident.{Ident}
use Rattle.c_parse.specs.declared.statement.Declarator.{Declarator}
use Rattle.c_parse.specs.declared.statement.Initial.{Initial}
use Rattle.c_parse.specs.declared.statement.Initial.TheVariants as initials
use Rattle.c_parse.specs.declared.unit.Body.{Body}
use Rattle.c_parse.specs.declared.unit.Item.{Item}
use Rattle.c_parse.specs.declared.unit.Item.TheVariants as items
use Rattle.c_parse.specs.declared.unit.Parameter.{Parameter}
use Rattle.c_types_laws.specs.tree_contents.Contents.{tree_passes, optional_passes, initial_passes, declarator_passes, name_passes, parameter_passes, body_passes, result_passes, constant_passes, item_passes}
use Rattle.cfa.specs.declared.parts.InputFunction.{InputFunction}
use Rattle.cfa.specs.declared.parts.Variable.{Variable}
use Rattle.cfa.specs.declared.parts.VariablePlace.TheVariants as places
use Rattle.cfa.specs.Graph.{result_kind_fits}
use Rattle.cfa.specs.Rules.{cell_count}
use Rattle.c_typed_trees.specs.declared.expression.Callee.{Callee}
use Rattle.c_typed_trees.specs.declared.unit.Global.{Global}
use Rattle.c_typed_trees.specs.declared.unit.TypedFunction.{TypedFunction}
use Rattle.c_typed_trees.specs.Fitting.{Nameable, global_fits, function_fits, IsFitting}
use Rattle.c_type_rules.specs.declared.scopes.Bound.{Bound}
use Rattle.c_type_rules.specs.declared.scopes.ParameterKind.{ParameterKind}
use Rattle.c_type_rules.specs.declared.scopes.Signature.{Signature}
use Rattle.c_type_rules.specs.declared.scopes.Meaning.{Meaning}
use Rattle.c_type_rules.specs.declared.scopes.Meaning.TheVariants as meanings
use Rattle.c_type_rules.specs.Rule.{At, Done, behind, pure, ◌then◌, in_scope, alone_in}
use Rattle.c_type_rules.specs.Scopes.{newest, has_name, name_place, next_place}
use Rattle.c_types.specs.declared.parameters.Parameters.{Parameters}
use Rattle.c_types.specs.declared.program.Inputs.{Inputs}
use Rattle.c_types.specs.declared.program.Program.{Program}
use Rattle.c_types.specs.declared.units.Parts.{Parts}
use Rattle.c_types.specs.Declarations.{variable_of, cells_of, value_or_zero, first_value, first_values, begun_global, global_rule, globals_rule, enumerated, next_value, bound_constant, constant_rule, constants_from}
use Rattle.c_types.specs.Functions.{taken, cell_behind, lent_behind, signature_of, was_defined, bound_function, declare, framed, body_rule, defined_rule, parameters_from, parameters_rule, function_rule}
use Rattle.c_types.specs.Units.{with_name, with_definition, input_unless, with_prototype, with_input, definitions_of, inputs_of, no_inputs, program_of, callee_or_input, callee_of, item_rule, items_rule, start, unit_done, faults_of, typed_of}
use Rattle.c_types_laws.proofs.typing_fits.Sound.{is_false, left_empty, right_empty, all_append, all_test, test_all, DefinedAs, InputAs, CalleeIs, SignatureFits, NamesFit, names_append, Limits, Sound, Any, then_sound, pure_sound, expect_sound, here_sound, local_sound, bind_sound, alone_sound, each_sound}
use Rattle.c_types_laws.proofs.typing_fits.Expressions.{number_is, place_in, TreePasses, ConstantIs, constant_sound}
use Rattle.c_types_laws.proofs.typing_fits.StatementRules.{unused_sound, bind_variable_sound, length_at_sound, same_count}
use Rattle.c_types_laws.proofs.typing_fits.Known.{same_bytes, bytes_same, Means, KnownIs, Known, known_once, items_keep, item_keeps, function_keeps, defined_bound, declared_at, declares}
use Rattle.c_types_laws.proofs.typing_fits.Functions.{Placed, KindsAre, result_is, parameters_placed, roomed, FileNames, function_fits_in, function_fit}
use Rattle.c_types_laws.proofs.typing_fits.Cells.{cells_in, items_take}

-- ---- variables and constants of the file

module _ (n : Nameable) (temporaries : ℕ) where
  abbrev FileLimit : Limits
  FileLimit = record { locals = n.room.globals; temporaries = temporaries }

  abbrev passes : ExprTree → Bool
  passes = tree_passes number_is (place_in n.files)

  value_is : (kind : Kind) → IsKind kind → (o : Option ℕ) → ConstantIs (Some kind) o → IsValue kind (value_or_zero o)
  value_is kind k None h = IsValue-zero kind k
  value_is kind k (Some v) h = h

  first_sound : (kind : Kind) → IsKind kind → (t : ExprTree) → TreePasses n.files t → Sound n FileLimit (IsValue kind) (first_value kind t)
  unfolding first_value
  first_sound kind k t p = then_sound (constant_sound n FileLimit (Some kind) k t p) (λ o h. pure_sound (value_or_zero o) (value_is kind k o h))

  firsts_sound : (kind : Kind) → IsKind kind → (ts : List ExprTree) → IsTrue (list_all passes ts) → Sound n FileLimit (AllByRecursion (IsValue kind)) (first_values kind ts)
  unfolding first_values
  firsts_sound kind k ts p = each_sound (λ t. alone_in (first_value kind t)) (λ t q. alone_sound (first_sound kind k t q)) ts (test_all passes ts p)

  begun_sound : (d : Ident) (kind : Kind) → IsKind kind → (length : Option ℕ) (first : Option Initial) → IsTrue (initial_passes number_is (place_in n.files) first) → Sound n FileLimit Any (begun_global d kind length first)
  begun_sound d kind k None None p = pure_sound _ tt
  begun_sound d kind k None (Some (initials.One t)) p = then_sound (first_sound kind k t p) (λ v h. pure_sound _ tt)
  begun_sound d kind k None (Some (initials.List ts)) p = then_sound (expect_sound 33 d.span false) (λ u h. absurd (is_false h))
  begun_sound d kind k (Some m) None p = pure_sound _ tt
  begun_sound d kind k (Some m) (Some (initials.One t)) p = then_sound (expect_sound 33 d.span false) (λ u h. absurd (is_false h))
  begun_sound d kind k (Some m) (Some (initials.List ts)) p = then_sound (expect_sound 34 d.span _) (λ u h. then_sound (firsts_sound kind k ts p) (λ vs q. pure_sound _ tt))

  abbrev GlobalFits : Global → Type 0
  GlobalFits g = IsTrue (global_fits n.room.globals g)

  global_sound : (kind : Kind) → IsKind kind → (d : Declarator) → IsTrue (declarator_passes number_is (place_in n.files) d) → Sound n FileLimit GlobalFits (global_rule kind d)
  unfolding global_rule
  global_sound kind k d p =
      let place = place_in n.files in
      let sized = optional_passes number_is place d.length in
      let begun = initial_passes number_is place d.first in
      then_sound (unused_sound n FileLimit d.name) (λ u a. then_sound (length_at_sound n FileLimit d.name.span d.length (and_right (place d.name.span) sized (and_left (place d.name.span && sized) begun p))) (λ length b.
      then_sound (local_sound (cells_of length)) (λ cell c. then_sound (expect_sound 37 d.name.span _) (λ v e.
      let h = and_both (is_kind kind) _ k (le-leb (cell + cell_count length) n.room.globals (let same = same_count length in omega arith)) in
      then_sound (bind_variable_sound n FileLimit (variable_of d.name.name kind length (places.Global cell)) h) (λ w f.
      then_sound (begun_sound d.name kind k length d.first (and_right (place d.name.span && sized) begun p)) (λ first g. pure_sound _ h))))))

  globals_sound : (kind : Kind) → IsKind kind → (ds : List Declarator) → IsTrue (list_all (declarator_passes number_is (place_in n.files)) ds) → Sound n FileLimit (AllByRecursion GlobalFits) (globals_rule kind ds)
  unfolding globals_rule
  globals_sound kind k ds p = each_sound (λ d. alone_in (global_rule kind d)) (λ d q. alone_sound (global_sound kind k d q)) ds (test_all (declarator_passes number_is (place_in n.files)) ds p)

  next_is : (v : ℕ) → IsValue int (next_value v)
  unfolding sum_of
  next_is v = by (is_value int v)
    where
      by : (t : Bool) → IsValue int (cond t (sum_of int v 1) 0)
      by true = IsValue-wrapped int _ refl
      by false = IsValue-zero int refl

  enumerated_sound : (next : ℕ) → IsValue int next → (t : Option ExprTree) → IsTrue (optional_passes number_is (place_in n.files) t) → Sound n FileLimit (IsValue int) (enumerated next t)
  enumerated_sound next h None p = pure_sound next h
  enumerated_sound next h (Some t) p = first_sound int refl t p

  constants_sound : (next : ℕ) → IsValue int next → (cs : List (Ident × Option ExprTree)) → IsTrue (list_all (constant_passes number_is (place_in n.files)) cs) → Sound n FileLimit Any (constants_from next cs)
  unfolding constants_from constant_rule
  constants_sound next h [] p = pure_sound tt tt
  constants_sound next h (c ∷ cs) p =
      let place = place_in n.files in
      let rest = list_all (constant_passes number_is place) cs in
      let here = and_left (place c.0.span && optional_passes number_is place c.1) rest p in
      then_sound {P = IsValue int} (then_sound (enumerated_sound next h c.1 (and_right (place c.0.span) (optional_passes number_is place c.1) here)) (λ v k. then_sound (unused_sound n FileLimit c.0) (λ u a. then_sound here_sound (λ level b.
      then_sound (bind_sound (bound_constant c.0.name level v) k) (λ w e. pure_sound (next_value v) (next_is v)))))) (λ more k. constants_sound more k cs (and_right (place c.0.span && optional_passes number_is place c.1) rest p))

-- ---- what is known of names

-- a function with this result and these parameters
abbrev pub like : Bool → Option Kind → List ParameterKind → Signature
like defined result parameters = record { callee = None; defined = defined; result = result; parameters = parameters }

like_meaning : (f g : Signature) (m : Meaning) → f.result ≡ g.result → f.parameters ≡ g.parameters → (g.defined ≡ true → f.defined ≡ true) → Means f m → Means g m
like_meaning f g (meanings.Variable v) e h k known = known
like_meaning f g (meanings.Constant n) e h k known = known
like_meaning f g (meanings.Function x) e h k known = record { result = known.result ∙ e; parameters = known.parameters ∙ h; defined = λ t. known.defined (k t) }

known_like : (f g : Signature) (o : Option Bound) → f.result ≡ g.result → f.parameters ≡ g.parameters → (g.defined ≡ true → f.defined ≡ true) → KnownIs f o → KnownIs g o
known_like f g None e h k known = known
known_like f g (Some b) e h k known = (known.0, like_meaning f g b.meaning e h k known.1)

-- ---- the declaration of a function

module _ (callee : Option Callee) (span : Span) (result : Option Kind) (d : Ident) (ps : List Parameter) (body : Option Body) (at : At) where
  abbrev scope : Done Parameters
  scope = in_scope (parameters_rule (is_some body) ps) at

  abbrev sign : Signature
  sign = signature_of callee (is_some body) result scope.made

  abbrev declaration : Done (Unit {0})
  declaration = declare d sign (behind at scope)

  abbrev definition : Done (List TypedFunction)
  definition = defined_rule span result d scope.made body (behind (behind at scope) declaration)

  abbrev function : Done (List TypedFunction)
  function = function_rule callee span result d ps body at

  function_bound : function.bound ≡ declaration.bound
  unfolding function_rule ◌then◌ in_scope
  function_bound = ap (λ bs. declaration.bound ++ bs) (defined_bound [] sign span result d scope.made body (behind (behind at scope) declaration)) ∙ append-nil declaration.bound

  function_known : at.level ≡ 0 → Known (at.bound ++ function.bound) d.name sign
  unfolding in_scope
  function_known level =
      subst (λ bs. Known (bs ++ function.bound) d.name sign) (append-nil at.bound)
      (subst (λ bs. Known ((at.bound ++ []) ++ bs) d.name sign) (sym function_bound) (declares d sign (behind at scope) level))

  function_made : function.made ≡ definition.made
  unfolding function_rule ◌then◌
  function_made = refl

-- ---- from one item to the end

none_made : (p : Program) (at : At) (P : TypedFunction → Type 0) → AllByRecursion P (items_rule p [] at).made.functions
unfolding items_rule pure
none_made p at P = tt

abbrev first : Program → Item → At → Done Parts
first p i at = item_rule p i at

abbrev rest : Program → Item → List Item → At → Done Parts
rest p i is at = items_rule p is (behind at (item_rule p i at))

items_made : (p : Program) (i : Item) (is : List Item) (at : At) → (items_rule p (i ∷ is) at).made.functions ≡ (first p i at).made.functions ++ (rest p i is at).made.functions
unfolding items_rule ◌then◌ pure
items_made p i is at = refl

items_globals : (p : Program) (i : Item) (is : List Item) (at : At) → (items_rule p (i ∷ is) at).made.globals ≡ (first p i at).made.globals ++ (rest p i is at).made.globals
unfolding items_rule ◌then◌ pure
items_globals p i is at = refl

first_faultless : (p : Program) (i : Item) (is : List Item) (at : At) → (items_rule p (i ∷ is) at).faults ≡ [] → (first p i at).faults ≡ []
unfolding items_rule ◌then◌ pure
first_faultless p i is at none = left_empty (first p i at).faults ((rest p i is at).faults ++ []) none

rest_faultless : (p : Program) (i : Item) (is : List Item) (at : At) → (items_rule p (i ∷ is) at).faults ≡ [] → (rest p i is at).faults ≡ []
unfolding items_rule ◌then◌ pure
rest_faultless p i is at none = left_empty (rest p i is at).faults [] (right_empty (first p i at).faults ((rest p i is at).faults ++ []) none)

ends : (p : Program) (i : Item) (is : List Item) (at : At) (end : List Bound) → at.bound ++ (items_rule p (i ∷ is) at).bound ≡ end → (at.bound ++ (first p i at).bound) ++ (rest p i is at).bound ≡ end
unfolding items_rule ◌then◌ pure
ends p i is at end e =
    let x = (first p i at).bound in
    let y = (rest p i is at).bound in
    append_assoc at.bound x y ∙ ap (λ z. at.bound ++ (x ++ z)) (sym (append-nil y)) ∙ e

-- what is known behind an item is known at the end
known_last : (p : Program) (is : List Item) (at : At) (end : List Bound) → at.level ≡ 0 → (items_rule p is at).faults ≡ [] → at.bound ++ (items_rule p is at).bound ≡ end → (w : List ℕ) (s : Signature) → Known at.bound w s → Known end w s
known_last p is at end level none e w s known = subst (λ bs. Known bs w s) e ((items_keep w s p is).run at level known none).1

-- ---- all functions and inputs are known at the end

abbrev as_defined : TypedFunction → Signature
as_defined g = like true g.result (map taken g.parameters)

abbrev as_input : InputFunction → Signature
as_input g = like false (Some g.result) []

abbrev FunctionKnown : List Bound → TypedFunction → Type 0
FunctionKnown end g = Known end g.name (as_defined g)

abbrev PrototypeKnown : List Bound → Option Kind → Ident → List Parameter → Type 0
PrototypeKnown end result d [] = Known end d.name (like false result [])
PrototypeKnown end result d (p ∷ ps) = Unit {0}

abbrev ItemKnown : List Bound → Item → Type 0
ItemKnown end (items.Function span result d ps body) = PrototypeKnown end result d ps
ItemKnown end (items.Variables span kind list) = Unit {0}
ItemKnown end (items.Constants span list) = Unit {0}

prototype_known : (end : List Bound) (callee : Option Callee) (result : Option Kind) (d : Ident) (ps : List Parameter) (body : Option Body) (at : At)
    → Known end d.name (signature_of callee (is_some body) result (in_scope (parameters_rule (is_some body) ps) at).made) → PrototypeKnown end result d ps
unfolding in_scope parameters_from pure
prototype_known end callee result d [] body at known = known_like _ (like false result []) (newest d.name end) refl refl (λ t. absurd (is_false t)) known
prototype_known end callee result d (p ∷ ps) body at known = tt

made_known : (end : List Bound) (callee : Option Callee) (span : Span) (result : Option Kind) (d : Ident) (vs : Parameters) (body : Option Body) (at : At) → Known end d.name (signature_of callee (is_some body) result vs) → AllByRecursion (FunctionKnown end) (defined_rule span result d vs body at).made
unfolding ◌then◌ pure
made_known end callee span result d vs None at known = tt
made_known end callee span result d vs (Some b) at known = (known_like (signature_of callee true result vs) (like true result (map taken vs.variables)) (newest d.name end) refl refl (λ t. refl) known, tt)

record AllKnown (end : List Bound) (is : List Item) (functions : List TypedFunction) : Type 0 where
  made : AllByRecursion (FunctionKnown end) functions
  items : AllByRecursion (ItemKnown end) is

record OneKnown (end : List Bound) (i : Item) (functions : List TypedFunction) : Type 0 where
  made : AllByRecursion (FunctionKnown end) functions
  item : ItemKnown end i

item_known : (p : Program) (i : Item) (at : At) (end : List Bound) → at.level ≡ 0 → ((w : List ℕ) (s : Signature) → Known (at.bound ++ (item_rule p i at).bound) w s → Known end w s) → OneKnown end i (item_rule p i at).made.functions
unfolding item_rule ◌then◌ pure
item_known p (items.Function span result d ps body) at end level last =
    let callee = callee_of p d.name in
    let known = function_known callee span result d ps body at level in
    let s = sign callee span result d ps body at in
    let f = function callee span result d ps body at in
    let to : Known end d.name s = last d.name s (subst (λ bs. Known (at.bound ++ bs) d.name s) (sym (append-nil f.bound)) known) in
    record {
      made = subst (AllByRecursion (FunctionKnown end)) (sym (function_made callee span result d ps body at)) (made_known end callee span result d (scope callee span result d ps body at).made body _ to);
      item = prototype_known end callee result d ps body at to;
    }
item_known p (items.Variables span kind list) at end level last = record { made = tt; item = tt }
item_known p (items.Constants span list) at end level last = record { made = tt; item = tt }

items_known : (p : Program) (is : List Item) (at : At) (end : List Bound) → at.level ≡ 0 → (items_rule p is at).faults ≡ [] → at.bound ++ (items_rule p is at).bound ≡ end → AllKnown end is (items_rule p is at).made.functions
items_known p [] at end level none e = record { made = nothing; items = tt }
  where
    nothing : AllByRecursion (FunctionKnown end) (items_rule p [] at).made.functions
    nothing = none_made p at (FunctionKnown end)
items_known p (i ∷ is) at end level none e =
    let later = ends p i is at end e in
    let one = item_known p i at end level (λ w s known. known_last p is (behind at (first p i at)) end level (rest_faultless p i is at none) later w s known) in
    let more = items_known p is (behind at (first p i at)) end level (rest_faultless p i is at none) later in
    record {
      made = subst (AllByRecursion (FunctionKnown end)) (sym (items_made p i is at)) (all_append (FunctionKnown end) (first p i at).made.functions (rest p i is at).made.functions one.made more.made);
      items = (one.item, more.items);
    }

-- ---- each function is defined once, so their list has the order of their names

record DefinedAt (bs : List Bound) (w : List ℕ) : Type 0 where
  sign_is : Signature
  known : Known bs w sign_is
  defined : sign_is.defined ≡ true

abbrev names_of : List TypedFunction → List (List ℕ)
names_of fs = map (λ (g : TypedFunction). g.name) fs

not_either : (bs : List Bound) (v w : List ℕ) (vs : List (List ℕ)) (t : Bool) → (DefinedAt bs w → ⊥) → DefinedAt bs v → (t ≡ true → v ≡ w) → has_name vs w ≡ false → (t || has_name vs w) ≡ false
not_either bs v w vs true h k e r = absurd (h (subst (DefinedAt bs) (e refl) k))
not_either bs v w vs false h k e r = r

not_among : (bs : List Bound) (w : List ℕ) → (DefinedAt bs w → ⊥) → (names : List (List ℕ)) → AllByRecursion (DefinedAt bs) names → has_name names w ≡ false
unfolding has_name
not_among bs w h [] k = refl
not_among bs w h (v ∷ vs) k = not_either bs v w vs (bytes_eq v w) h k.0 (same_bytes v w) (not_among bs w h vs k.1)

new_name : (names : List (List ℕ)) (w : List ℕ) → has_name names w ≡ false → with_name names w ≡ names ++ w ∷ []
new_name names w e = ap (λ t. cond t names (names ++ w ∷ [])) e

-- a name that is defined isn't defined again
defined_once : (callee : Option Callee) (span : Span) (result : Option Kind) (d : Ident) (ps : List Parameter) (b : Body) (at : At) → at.level ≡ 0 → (function_rule callee span result d ps (Some b) at).faults ≡ [] → DefinedAt at.bound d.name → ⊥
defined_once callee span result d ps b at level none h = ((function_keeps d.name h.sign_is callee span result d ps (Some b)).run at level h.known none).0 (bytes_same d.name) refl h.defined

all_defined : (p : Program) (i : Item) (at : At) → at.level ≡ 0 → (item_rule p i at).faults ≡ [] → (names : List (List ℕ)) → AllByRecursion (DefinedAt at.bound) names → AllByRecursion (DefinedAt (at.bound ++ (item_rule p i at).bound)) names
all_defined p i at level none [] h = tt
all_defined p i at level none (w ∷ names) h =
    (record { sign_is = h.0.sign_is; known = ((item_keeps w h.0.sign_is p i).run at level h.0.known none).1; defined = h.0.defined }, all_defined p i at level none names h.1)

record Named (p : Program) (i : Item) (at : At) (names : List (List ℕ)) : Type 0 where
  next : with_definition names i ≡ names ++ names_of (item_rule p i at).made.functions
  all : AllByRecursion (DefinedAt (at.bound ++ (item_rule p i at).bound)) (with_definition names i)

item_named : (p : Program) (i : Item) (at : At) → at.level ≡ 0 → (item_rule p i at).faults ≡ [] → (names : List (List ℕ)) → AllByRecursion (DefinedAt at.bound) names → Named p i at names
unfolding item_rule ◌then◌ pure
item_named p (items.Function span result d ps None) at level none names h = record {
  next = sym (append-nil names) ∙ ap (λ (fs : List TypedFunction). names ++ names_of fs) (sym (function_made (callee_of p d.name) span result d ps None at));
  all = all_defined p (items.Function span result d ps None) at level none names h;
}
item_named p (items.Function span result d ps (Some b)) at level none names h =
    let callee = callee_of p d.name in
    let f = function callee span result d ps (Some b) at in
    let s = sign callee span result d ps (Some b) at in
    let new = new_name names d.name (not_among at.bound d.name (defined_once callee span result d ps b at level (left_empty f.faults [] none)) names h) in
    let known : Known (at.bound ++ (f.bound ++ [])) d.name s = subst (λ bs. Known (at.bound ++ bs) d.name s) (sym (append-nil f.bound)) (function_known callee span result d ps (Some b) at level) in
    record {
      next = new ∙ ap (λ (fs : List TypedFunction). names ++ names_of fs) (sym (function_made callee span result d ps (Some b) at));
      all = subst (AllByRecursion (DefinedAt (at.bound ++ (f.bound ++ [])))) (sym new)
          (all_append (DefinedAt (at.bound ++ (f.bound ++ []))) names (d.name ∷ []) (all_defined p (items.Function span result d ps (Some b)) at level none names h) (record { sign_is = s; known = known; defined = refl }, tt));
    }
item_named p (items.Variables span kind list) at level none names h = record { next = sym (append-nil names); all = all_defined p (items.Variables span kind list) at level none names h }
item_named p (items.Constants span list) at level none names h = record { next = sym (append-nil names); all = all_defined p (items.Constants span list) at level none names h }

none_named : (p : Program) (at : At) (names : List (List ℕ)) → names ≡ names ++ names_of (items_rule p [] at).made.functions
unfolding items_rule pure
none_named p at names = sym (append-nil names)

items_named : (p : Program) (is : List Item) (at : At) → at.level ≡ 0 → (items_rule p is at).faults ≡ [] → (names : List (List ℕ)) → AllByRecursion (DefinedAt at.bound) names → fold with_definition names is ≡ names ++ names_of (items_rule p is at).made.functions
items_named p [] at level none names h = none_named p at names
items_named p (i ∷ is) at level none names h =
    let one = item_named p i at level (first_faultless p i is at none) names h in
    let x = (first p i at).made.functions in
    let y = (rest p i is at).made.functions in
    items_named p is (behind at (first p i at)) level (rest_faultless p i is at none) (with_definition names i) one.all
    ∙ ap (λ ns. ns ++ names_of y) one.next ∙ append_assoc names (names_of x) (names_of y) ∙ ap (λ ns. names ++ ns) (sym (map-append (λ (g : TypedFunction). g.name) x y) ∙ ap names_of (sym (items_made p i is at)))

-- ---- the inputs

record InputsKnown (end : List Bound) (x : Inputs) : Type 0 where
  names_are : x.names ≡ map (λ (g : InputFunction). g.name) x.list
  known : AllByRecursion (λ (g : InputFunction). Known end g.name (as_input g)) x.list
  kinds : AllByRecursion (λ (g : InputFunction). IsTrue (is_kind g.result)) x.list

module _ (files : ℕ) where
  abbrev ItemPasses : Item → Type 0
  ItemPasses i = IsTrue (item_passes number_is (place_in files) i)

  input_more : (end : List Bound) (t : Bool) (x : Inputs) (w : List ℕ) (kind : Kind) → InputsKnown end x → Known end w (like false (Some kind) []) → IsKind kind → InputsKnown end (input_unless t x w kind)
  input_more end true x w kind h known k = h
  input_more end false x w kind h known k =
      let new : InputFunction = record { name = w; result = kind } in
      record {
        names_are = ap (λ ns. ns ++ w ∷ []) h.names_are ∙ sym (map-append (λ (g : InputFunction). g.name) x.list (new ∷ []));
        known = all_append (λ (g : InputFunction). Known end g.name (as_input g)) x.list (new ∷ []) h.known (known, tt);
        kinds = all_append (λ (g : InputFunction). IsTrue (is_kind g.result)) x.list (new ∷ []) h.kinds (k, tt);
      }

  prototype_input : (end : List Bound) (defined : List (List ℕ)) (x : Inputs) (result : Option Kind) (d : Ident) (ps : List Parameter) (body : Option Body)
      → InputsKnown end x → PrototypeKnown end result d ps → IsTrue (result_passes number_is (place_in files) result) → InputsKnown end (with_prototype defined x result d.name ps body)
  prototype_input end defined x (Some kind) d [] None h known k = input_more end _ x d.name kind h known k
  prototype_input end defined x None d [] None h known k = h
  prototype_input end defined x None d [] (Some b) h known k = h
  prototype_input end defined x None d (p ∷ ps) None h known k = h
  prototype_input end defined x None d (p ∷ ps) (Some b) h known k = h
  prototype_input end defined x (Some kind) d (p ∷ ps) None h known k = h
  prototype_input end defined x (Some kind) d (p ∷ ps) (Some b) h known k = h
  prototype_input end defined x (Some kind) d [] (Some b) h known k = h

  item_input : (end : List Bound) (defined : List (List ℕ)) (x : Inputs) (i : Item) → InputsKnown end x → ItemKnown end i → ItemPasses i → InputsKnown end (with_input defined x i)
  item_input end defined x (items.Function span result d ps body) h known p =
      let place = place_in files in
      prototype_input end defined x result d ps body h known
      (and_right (place span && place d.span && list_all (parameter_passes number_is place) ps && body_passes number_is place body) (result_passes number_is place result) p)
  item_input end defined x (items.Variables span kind list) h known p = h
  item_input end defined x (items.Constants span list) h known p = h

  inputs_known : (end : List Bound) (defined : List (List ℕ)) (x : Inputs) (is : List Item) → InputsKnown end x → AllByRecursion (ItemKnown end) is → AllByRecursion ItemPasses is → InputsKnown end (fold (with_input defined) x is)
  inputs_known end defined x [] h known p = h
  inputs_known end defined x (i ∷ is) h known p = inputs_known end defined (with_input defined x i) is (item_input end defined x i h known.0 p.0) known.1 p.1

-- ---- functions are called as they are declared

module _ {X : Type 0} (name : X → List ℕ) (P : X → Type 0) (w : List ℕ) where
  abbrev FoundAt : Option X → Type 0
  FoundAt None = ⊥
  FoundAt (Some x) = (name x ≡ w) × P x

  next_found : (o : Option ℕ) (i : ℕ) (xs : List X) (x : X) → next_place o ≡ Some i → ((j : ℕ) → o ≡ Some j → FoundAt (slice_get xs j)) → FoundAt (slice_get (x ∷ xs) i)
  next_found None i xs x e h = absurd (cc)
  next_found (Some j) i xs x e h = (let same : suc j ≡ i = cc in subst (λ k. FoundAt (slice_get (x ∷ xs) k)) same (h j refl))

  first_found : (x : X) (xs : List X) (t : Bool) (o : Option ℕ) (i : ℕ) → (t ≡ true → name x ≡ w) → P x → cond t (Some 0) (next_place o) ≡ Some i → ((j : ℕ) → o ≡ Some j → FoundAt (slice_get xs j)) → FoundAt (slice_get (x ∷ xs) i)
  first_found x xs true o i h p e k = (let same : 0 ≡ i = cc in subst (λ j. FoundAt (slice_get (x ∷ xs) j)) same (h refl, p))
  first_found x xs false o i h p e k = next_found o i xs x e k

  found_at : (xs : List X) → AllByRecursion P xs → (i : ℕ) → name_place (map name xs) w ≡ Some i → FoundAt (slice_get xs i)
  unfolding name_place
  found_at [] h i e = absurd (cc)
  found_at (x ∷ xs) h i e = first_found x xs (bytes_eq (name x) w) (name_place (map name xs) w) i (same_bytes (name x) w) h.0 e (λ j k. found_at xs h.1 j k)

defined_is : (end : List Bound) (w : List ℕ) (s : Signature) → Known end w s → (o : Option TypedFunction) → FoundAt (λ (g : TypedFunction). g.name) (FunctionKnown end) w o → DefinedAs s o
defined_is end w s known None h = h
defined_is end w s known (Some g) h = known_once end w (as_defined g) s (subst (λ v. Known end v (as_defined g)) h.0 h.1) known

input_is : (end : List Bound) (w : List ℕ) (s : Signature) → Known end w s → (o : Option InputFunction) → FoundAt (λ (g : InputFunction). g.name) (λ (g : InputFunction). Known end g.name (as_input g)) w o → InputAs s o
input_is end w s known None h = h
input_is end w s known (Some g) h = (let e = known_once end w (as_input g) s (subst (λ v. Known end v (as_input g)) h.0 h.1) known in (e.0, sym e.1))

-- the functions of a unit, and what is known of them
record Whole (end : List Bound) (p : Program) (functions : List TypedFunction) : Type 0 where
  names_are : names_of functions ≡ p.defined
  known : AllByRecursion (FunctionKnown end) functions
  inputs : InputsKnown end p.inputs

module _ (end : List Bound) (p : Program) (functions : List TypedFunction) (whole : Whole end p functions) where
  callee_from : (w : List ℕ) (s : Signature) → Known end w s → (a b : Option ℕ) → name_place p.defined w ≡ a → name_place p.inputs.names w ≡ b → CalleeIs functions p.inputs.list s (callee_or_input a b)
  callee_from w s known (Some i) b e f =
      defined_is end w s known (slice_get functions i) (found_at (λ (g : TypedFunction). g.name) (FunctionKnown end) w functions whole.known i (ap (λ ns. name_place ns w) whole.names_are ∙ e))
  callee_from w s known None (Some i) e f =
      input_is end w s known (slice_get p.inputs.list i)
      (found_at (λ (g : InputFunction). g.name) (λ (g : InputFunction). Known end g.name (as_input g)) w p.inputs.list whole.inputs.known i (ap (λ ns. name_place ns w) (sym whole.inputs.names_are) ∙ f))
  callee_from w s known None None e f = tt

  signature_fits : (w : List ℕ) (defined : Bool) (result : Option Kind) (parameters : List ParameterKind) → Known end w (like false result parameters) → IsTrue (result_kind_fits result) → AllByRecursion (λ (q : ParameterKind). IsKind q.kind) parameters
      → SignatureFits functions p.inputs.list (record { callee = callee_of p w; defined = defined; result = result; parameters = parameters })
  unfolding callee_of
  signature_fits w defined result parameters known r k = record {
    callee = callee_from w (like false result parameters) known (name_place p.defined w) (name_place p.inputs.names w) refl refl;
    result = r;
    parameters = k;
  }

-- ---- items

placed_kinds : (cell lent : ℕ) (vs : List Variable) (end : ℕ) → Placed cell lent vs end → AllByRecursion (λ (q : ParameterKind). IsKind q.kind) (map taken vs)
placed_kinds cell lent [] end h = tt
placed_kinds cell lent (v ∷ vs) end h = (h.1, placed_kinds (cell_behind cell v.length) (lent_behind lent v.length) vs end h.2)

record ItemFits (u : Nameable) (d : Done Parts) : Type 0 where
  globals : AllByRecursion (λ (g : Global). IsTrue (global_fits u.room.globals g)) d.made.globals
  functions : AllByRecursion (λ (g : TypedFunction). IsTrue (function_fits_in u g)) d.made.functions
  names : FileNames u d.bound

module _ (u : Nameable) (p : Program) where
  abbrev place : Span → Bool
  place = place_in u.files

  abbrev Callable : List Bound → Type 0
  Callable end = (w : List ℕ) (defined : Bool) (result : Option Kind) (parameters : List ParameterKind) → Known end w (like false result parameters) → IsTrue (result_kind_fits result)
      → AllByRecursion (λ (q : ParameterKind). IsKind q.kind) parameters → SignatureFits u.functions u.inputs (record { callee = callee_of p w; defined = defined; result = result; parameters = parameters })

  parameter_kinds : (ps : List Parameter) → IsTrue (list_all (parameter_passes number_is place) ps) → KindsAre ps
  parameter_kinds [] h = tt
  parameter_kinds (q ∷ ps) h =
      let front = place q.span && name_passes number_is place q.name && optional_passes number_is place q.length in
      let more = list_all (parameter_passes number_is place) ps in
      (and_right front (is_kind q.kind) (and_left (front && is_kind q.kind) more h), parameter_kinds ps (and_right (front && is_kind q.kind) more h))

  definition_fits : (span : Span) (result : Option Kind) (d : Ident) (vs : Parameters) (body : Option Body) (at : At) → FileNames u at.bound → Placed 1 0 vs.variables vs.cells → IsTrue (place span) → IsTrue (result_kind_fits result)
      → IsTrue (body_passes number_is place body) → (defined_rule span result d vs body at).faults ≡ [] → AllByRecursion (λ (g : TypedFunction). IsTrue (function_fits_in u g)) (defined_rule span result d vs body at).made
  unfolding ◌then◌ pure
  definition_fits span result d vs None at names placed s r b none = tt
  definition_fits span result d vs (Some body) at names placed s r b none =
      (function_fit u span result d vs body at names placed s r b (left_empty (framed span vs.cells (body_rule result vs body) at).faults [] none), tt)

  function_item_fits : (span : Span) (result : Option Kind) (d : Ident) (ps : List Parameter) (body : Option Body) (at : At) (end : List Bound) → at.level ≡ 0 → FileNames u at.bound
      → IsTrue (item_passes number_is place (items.Function span result d ps body)) → (item_rule p (items.Function span result d ps body) at).faults ≡ [] → ((w : List ℕ) (s : Signature) → Known (at.bound ++ (item_rule p (items.Function span result d ps body) at).bound) w s → Known end w s)
      → Callable end → ItemFits u (item_rule p (items.Function span result d ps body) at)
  unfolding item_rule function_rule ◌then◌ pure in_scope
  function_item_fits span result d ps body at end level names passes none last callable =
      let callee = callee_of p d.name in
      let f = function callee span result d ps body at in
      let s = sign callee span result d ps body at in
      let scoped = scope callee span result d ps body at in
      let declared = declaration callee span result d ps body at in
      let defining = definition callee span result d ps body at in
      let front = place span && place d.span && list_all (parameter_passes number_is place) ps && body_passes number_is place body in
      let a = and_left front (result_passes number_is place result) passes in
      let b = and_left (place span && place d.span && list_all (parameter_passes number_is place) ps) (body_passes number_is place body) a in
      let kinds = parameter_kinds ps (and_right (place span && place d.span) (list_all (parameter_passes number_is place) ps) b) in
      let spans = and_left (place span) (place d.span) (and_left (place span && place d.span) (list_all (parameter_passes number_is place) ps) b) in
      let r = result_is u.files result (and_right front (result_passes number_is place result) passes) in
      let placed = parameters_placed (is_some body) ps kinds at in
      let behind_scope = behind at scoped in
      let new = bound_function d.name behind_scope.level s (newest d.name behind_scope.bound) in
      let known : Known end d.name s = last d.name s (subst (λ bs. Known (at.bound ++ bs) d.name s) (sym (append-nil f.bound)) (function_known callee span result d ps body at level)) in
      let known_as : Known end d.name (like false s.result s.parameters) = known_like s (like false s.result s.parameters) (newest d.name end) refl refl (λ t. absurd (is_false t)) known in
      let fits = callable d.name (s.defined || was_defined (newest d.name behind_scope.bound)) s.result s.parameters known_as r (placed_kinds 1 0 scoped.made.variables scoped.made.cells placed) in
      let adds : declared.bound ≡ new ∷ [] = declared_at d s behind_scope in
      let names_behind : FileNames u (at.bound ++ [] ++ declared.bound) = λ cells arrays.
      subst (λ bs. NamesFit (roomed u cells arrays) (at.bound ++ [] ++ bs)) (sym adds) (names_append (roomed u cells arrays) (at.bound ++ []) (new ∷ []) (names_append (roomed u cells arrays) at.bound [] (names cells arrays) tt) (fits, tt)) in
      let faultless = right_empty scoped.faults (declared.faults ++ defining.faults) (left_empty f.faults [] none) in
      record {
        globals = tt;
        functions = definition_fits span result d scoped.made body (behind behind_scope declared) names_behind placed spans r (and_right (place span && place d.span && list_all (parameter_passes number_is place) ps) (body_passes number_is place body) a)
            (right_empty declared.faults defining.faults faultless);
        names = λ cells arrays. subst (NamesFit (roomed u cells arrays)) (sym (append-nil f.bound ∙ function_bound callee span result d ps body at ∙ adds)) (fits, tt);
      }

  variables_fit : (span : Span) (kind : Kind) (ds : List Declarator) (at : At) → FileNames u at.bound → IsTrue (item_passes number_is place (items.Variables span kind ds)) → (item_rule p (items.Variables span kind ds) at).faults ≡ []
      → at.local + (item_rule p (items.Variables span kind ds) at).locals ≤ u.room.globals → ItemFits u (item_rule p (items.Variables span kind ds) at)
  unfolding item_rule ◌then◌ pure
  variables_fit span kind ds at names passes none locals =
      let d = globals_rule kind ds at in
      let list = list_all (declarator_passes number_is place) ds in
      let k = and_right (place span && list) (is_kind kind) passes in
      let q = and_right (place span) list (and_left (place span && list) (is_kind kind) passes) in
      let at_room = λ (cells : ℕ) (arrays : List ℕ).
      (globals_sound (roomed u cells arrays) (at.temporary + d.temporaries) kind k ds q).run at (names cells arrays) (left_empty d.faults [] none) (omega arith) (omega arith) in
      record { globals = (at_room 0 []).made; functions = tt; names = λ cells arrays. subst (NamesFit (roomed u cells arrays)) (sym (append-nil d.bound)) (at_room cells arrays).bound }

  constants_fit : (span : Span) (cs : List (Ident × Option ExprTree)) (at : At) → FileNames u at.bound → IsTrue (item_passes number_is place (items.Constants span cs)) → (item_rule p (items.Constants span cs) at).faults ≡ []
      → at.local + (item_rule p (items.Constants span cs) at).locals ≤ u.room.globals → ItemFits u (item_rule p (items.Constants span cs) at)
  unfolding item_rule ◌then◌ pure
  constants_fit span cs at names passes none locals =
      let d = constants_from 0 cs at in
      let q = and_right (place span) (list_all (constant_passes number_is place) cs) passes in
      let at_room = λ (cells : ℕ) (arrays : List ℕ).
      (constants_sound (roomed u cells arrays) (at.temporary + d.temporaries) 0 (IsValue-zero int refl) cs q).run at (names cells arrays) (left_empty d.faults [] none) (omega arith) (omega arith) in
      record { globals = tt; functions = tt; names = λ cells arrays. subst (NamesFit (roomed u cells arrays)) (sym (append-nil d.bound)) (at_room cells arrays).bound }

  item_fits : (i : Item) (at : At) (end : List Bound) → at.level ≡ 0 → FileNames u at.bound → IsTrue (item_passes number_is place i) → (item_rule p i at).faults ≡ [] → at.local + (item_rule p i at).locals ≤ u.room.globals
      → ((w : List ℕ) (s : Signature) → Known (at.bound ++ (item_rule p i at).bound) w s → Known end w s) → Callable end → ItemFits u (item_rule p i at)
  item_fits (items.Function span result d ps body) at end level names passes none locals last callable = function_item_fits span result d ps body at end level names passes none last callable
  item_fits (items.Variables span kind ds) at end level names passes none locals last callable = variables_fit span kind ds at names passes none locals
  item_fits (items.Constants span cs) at end level names passes none locals last callable = constants_fit span cs at names passes none locals

  record AllItemsFit (parts : Parts) : Type 0 where
    globals : AllByRecursion (λ (g : Global). IsTrue (global_fits u.room.globals g)) parts.globals
    functions : AllByRecursion (λ (g : TypedFunction). IsTrue (function_fits_in u g)) parts.functions

  none_fit : (at : At) → AllItemsFit (items_rule p [] at).made
  unfolding items_rule pure
  none_fit at = record { globals = tt; functions = tt }

  items_locals : (i : Item) (is : List Item) (at : At) → (items_rule p (i ∷ is) at).locals ≡ (first p i at).locals + (rest p i is at).locals
  unfolding items_rule ◌then◌ pure
  items_locals i is at = omega arith

  items_fit : (is : List Item) (at : At) (end : List Bound) → at.level ≡ 0 → FileNames u at.bound → AllByRecursion (λ i. IsTrue (item_passes number_is place i)) is → (items_rule p is at).faults ≡ [] → at.local + (items_rule p is at).locals ≤ u.room.globals
      → at.bound ++ (items_rule p is at).bound ≡ end → Callable end → AllItemsFit (items_rule p is at).made
  items_fit [] at end level names passes none locals e callable = none_fit at
  items_fit (i ∷ is) at end level names passes none locals e callable =
      let x = first p i at in
      let y = rest p i is at in
      let count = items_locals i is at in
      let later = ends p i is at end e in
      let one = item_fits i at end level names passes.0 (first_faultless p i is at none) (omega arith) (λ w s known. known_last p is (behind at x) end level (rest_faultless p i is at none) later w s known) callable in
      let names_behind : FileNames u (at.bound ++ x.bound) = λ cells arrays. names_append (roomed u cells arrays) at.bound x.bound (names cells arrays) (one.names cells arrays) in
      let more = items_fit is (behind at x) end level names_behind passes.1 (rest_faultless p i is at none) (omega arith) later callable in
      record {
        globals = subst (AllByRecursion (λ (g : Global). IsTrue (global_fits u.room.globals g))) (sym (items_globals p i is at)) (all_append (λ (g : Global). IsTrue (global_fits u.room.globals g)) x.made.globals y.made.globals one.globals more.globals);
        functions = subst (AllByRecursion (λ (g : TypedFunction). IsTrue (function_fits_in u g))) (sym (items_made p i is at)) (all_append (λ (g : TypedFunction). IsTrue (function_fits_in u g)) x.made.functions y.made.functions one.functions more.functions);
      }

-- ---- units

pub unit_fits : (list : List Item) (files : ℕ) → IsTrue (list_all (item_passes number_is (place_in files)) list) → faults_of list ≡ [] → IsFitting (typed_of list) files
unfolding faults_of typed_of definitions_of inputs_of
unit_fits list files passes none =
    let p = program_of list in
    let done = unit_done list in
    let each = test_all (item_passes number_is (place_in files)) list passes in
    let known = items_known p list start ([] ++ done.bound) refl none refl in
    let inputs = inputs_known files ([] ++ done.bound) p.defined no_inputs list (record { names_are = refl; known = tt; kinds = tt }) known.items each in
    let named = items_named p list start refl none [] tt in
    let whole : Whole ([] ++ done.bound) p done.made.functions = record { names_are = sym named; known = known.made; inputs = inputs } in
    let cells = (items_take p list).run start none in
    let u : Nameable = record { files = files; functions = done.made.functions; inputs = p.inputs.list; room = record { globals = length (cells_in done.made.globals); cells = 0; arrays = [] } } in
    let count = cells.count in
    let fits = items_fit u p list start ([] ++ done.bound) refl (λ c arrays. tt) each none (omega arith) refl (signature_fits ([] ++ done.bound) p done.made.functions whole) in
    let limit = cells.limit (omega arith) in
    record {
      globals = all_test (global_fits (length (cells_in done.made.globals))) done.made.globals fits.globals;
      cells = omega arith;
      inputs = all_test (λ (g : InputFunction). is_kind g.result) p.inputs.list inputs.kinds;
      functions = all_test (function_fits (typed_of list) files) done.made.functions fits.functions;
    }
