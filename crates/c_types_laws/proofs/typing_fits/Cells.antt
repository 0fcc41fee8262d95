-- How many cells the globals of an accepted unit have, and where each lies.
use Rattle.std.proofs.Common.{◌≡◌, ℕ, suc, ◌+◌, ◌-◌, ◌≤◌, Bool, true, false, List, [], ◌∷◌, ◌++◌, map, length, Option, Some, None, refl, ap, subst, arith, length-append}
use Rattle.std.specs.Prelude.{IsTrue, nat_le}
use Rattle.std.specs.Option.{is_some}
use Rattle.std.specs.List.{flat_map}
use Rattle.std.proofs.Math.ListN.{replicate, length-replicate}
use Rattle.std.proofs.lemmas.Grind.{flat_map-append}
use Rattle.std.proofs.lemmas.Bool.{leb-true}
use Rattle.std.proofs.lemmas.Bool.Decides.{nat_tests}
use Rattle.std.proofs.lemmas.List.{length-map}
use Rattle.fq_core.specs.declared.span.Span.{Span}
use Rattle.c_values.specs.declared.kinds.Kind.{Kind}
use Rattle.c_values.proofs.Fitting.{and_left}
use Rattle.c_parse.specs.declared.expr.ExprTree.{ExprTree}
use Rattle.c_parse.specs.declared.expr.Ident.{Ident}
use Rattle.c_parse.specs.declared.statement.Declarator.{Declarator}
use Rattle.c_parse.specs.declared.statement.Initial.{Initial}
use Rattle.c_parse.specs.declared.statement.Initial.TheVariants as initials
use Rattle.c_parse.specs.declared.unit.Body.{Body}
use Rattle.c_parse.specs.declared.unit.Item.{Item}
use Rattle.c_parse.specs.declared.unit.Item.TheVariants as items
use Rattle.c_parse.specs.declared.unit.Parameter.{Parameter}
use Rattle.cfa.specs.declared.parts.Variable.{Variable}
use Rattle.cfa.specs.declared.parts.VariablePlace.TheVariants as places
use Rattle.c_typed_trees.specs.declared.expression.Callee.{Callee}
use Rattle.c_typed_trees.specs.declared.unit.Global.{Global}
use Rattle.c_type_rules.specs.declared.scopes.Signature.{Signature}
use Rattle.c_type_rules.specs.Rule.{At, Rule, behind, pure, ◌then◌, fault, expect, here, local, bind, in_scope, uncounted, each, alone_in}
use Rattle.c_type_rules.specs.declared.constants.Folded.{Folded}
use Rattle.c_type_rules.specs.declared.constants.Folded.TheVariants as folds
use Rattle.c_type_rules.specs.Constants.{folded}
use Rattle.c_type_rules.specs.Expressions.{integer, piece, fitted, constant_of, constant}
use Rattle.c_types.specs.declared.parameters.Parameters.{Parameters}
use Rattle.c_types.specs.declared.program.Program.{Program}
use Rattle.c_types.specs.declared.units.Parts.{Parts}
use Rattle.c_types.specs.Declarations.{unused, variable_of, bind_variable, is_array_length, length_if, length_within, length_at, cells_of, is_list_for, first_values, with_zeros, begun_global, global_rule, globals_rule, enumerated, constant_rule, constants_from}
use Rattle.c_types.specs.Functions.{declare, framed, body_rule, defined_rule, cell_behind, lent_behind, named_parameter, parameter_rule, parameters_from, function_rule}
use Rattle.c_types.specs.Units.{callee_of, item_rule, items_rule}
use Rattle.c_types_laws.proofs.typing_fits.Silent.{Silent, pure_silent, expect_silent, look_silent}
use Rattle.c_types_laws.proofs.typing_fits.Sound.{is_false, some_fault, left_empty, right_empty}
use Rattle.c_types_laws.proofs.typing_fits.Known.{length_silent, first_silent, firsts_silent}

-- ---- rules that take no cells of locals, whatever they add

pub record Still {A : Type 0} (m : Rule A) : Type 0 where
  pub locals : (at : At) → (m at).locals ≡ 0

quiet_still : {A : Type 0} {m : Rule A} → Silent m → Still m
quiet_still h = record { locals = h.locals }

then_still : {A B : Type 0} {m : Rule A} {k : A → Rule B} → Still m → ((x : A) → Still (k x)) → Still (m then k)
unfolding ◌then◌
then_still {m = m} {k = k} h g = record { locals = λ at i. h.locals at i + (g (m at).made).locals (behind at (m at)) i }

here_still : Still here
unfolding here
here_still = record { locals = λ at. refl }

bind_still : (b : _) → Still (bind b)
unfolding bind
bind_still b = record { locals = λ at. refl }

pure_still : {A : Type 0} (x : A) → Still (pure x)
pure_still x = quiet_still (pure_silent x)

variable_still : (v : Variable) → Still (bind_variable v)
unfolding bind_variable
variable_still v = then_still here_still (λ level. bind_still _)

unused_still : (d : Ident) → Still (unused d)
unfolding unused
unused_still d = then_still here_still (λ level. then_still (quiet_still (look_silent d.name)) (λ found. quiet_still (expect_silent 31 d.span _)))

constants_still : (next : ℕ) (cs : List (Ident × Option ExprTree)) → Still (constants_from next cs)
unfolding constants_from constant_rule
constants_still next [] = pure_still tt
constants_still next (c ∷ cs) =
    then_still (then_still (valued next c.1) (λ v. then_still (unused_still c.0) (λ u. then_still here_still (λ level. then_still (bind_still _) (λ x. pure_still _))))) (λ more. constants_still more cs)
  where
    valued : (next : ℕ) (t : Option ExprTree) → Still (enumerated next t)
    valued next None = pure_still _
    valued next (Some t) = quiet_still (first_silent _ t)

named_still : (defined : Bool) (span : Span) (d : Option Ident) (v : Variable) → Still (named_parameter defined span d v)
named_still defined span None v = then_still (quiet_still (expect_silent 29 span _)) (λ u. pure_still v)
named_still defined span (Some d) v = then_still (unused_still d) (λ u. then_still (variable_still v) (λ w. pure_still v))

parameters_still : (defined : Bool) (cell lent : ℕ) (ps : List Parameter) → Still (parameters_from defined cell lent ps)
unfolding parameters_from parameter_rule
parameters_still defined cell lent [] = pure_still _
parameters_still defined cell lent (p ∷ ps) =
    then_still (then_still (quiet_still (length_silent _ p.length)) (λ length. named_still defined p.span p.name _)) (λ v. then_still (parameters_still defined (cell_behind cell v.length) (lent_behind lent v.length) ps) (λ rest. pure_still _))

scope_still : {A : Type 0} {m : Rule A} → Still m → Still (in_scope m)
unfolding in_scope
scope_still h = record { locals = λ at. h.locals _ }

declare_still : (d : Ident) (s : Signature) → Still (declare d s)
unfolding declare
declare_still d s = then_still (quiet_still (look_silent d.name)) (λ found. then_still (quiet_still (expect_silent 31 d.span _)) (λ u. then_still here_still (λ level. bind_still _)))

frame_still : {A : Type 0} (span : Span) (first : ℕ) (m : Rule A) → Still (framed span first m)
unfolding framed
frame_still span first m = record { locals = λ at. refl }

defined_still : (span : Span) (result : Option Kind) (d : Ident) (ps : Parameters) (body : Option Body) → Still (defined_rule span result d ps body)
defined_still span result d ps None = pure_still _
defined_still span result d ps (Some b) = then_still (frame_still span ps.cells (body_rule result ps b)) (λ made. pure_still _)

function_still : (callee : Option Callee) (span : Span) (result : Option Kind) (d : Ident) (ps : List Parameter) (body : Option Body) → Still (function_rule callee span result d ps body)
unfolding function_rule
function_still callee span result d ps body = then_still (scope_still (parameters_still (is_some body) 1 0 ps)) (λ vs. then_still (declare_still d _) (λ u. defined_still span result d vs body))

-- ---- rules that take cells, from a cell on

pub record Takes {A : Type 0} (P : ℕ → A → ℕ → Type 0) (m : Rule A) : Type 0 where
  pub run : (at : At) → (m at).faults ≡ [] → P at.local (m at).made (m at).locals

module _ {A B : Type 0} {Q : ℕ → B → ℕ → Type 0} {m : Rule A} {k : A → Rule B} where
  -- a rule that takes none first, and what is known where nothing is wrong in it
  after_still : {P : A → Type 0} → Still m → ((at : At) → (m at).faults ≡ [] → P (m at).made) → ((x : A) → P x → Takes Q (k x)) → Takes Q (m then k)
  unfolding ◌then◌
  after_still h p g = record {
    run = λ at none.
        let d = m at in
        let e = k d.made (behind at d) in
        let z = h.locals at in
        let r : Q (at.local + d.locals) e.made e.locals = (g d.made (p at (left_empty d.faults e.faults none))).run (behind at d) (right_empty d.faults e.faults none) in
        let from : at.local + d.locals ≡ at.local = omega arith in
        let to : e.locals ≡ d.locals + e.locals = omega arith in
        subst (λ c. Q at.local e.made c) to (subst (λ l. Q l e.made e.locals) from r);
  }

after_quiet : {A B : Type 0} {Q : ℕ → B → ℕ → Type 0} {m : Rule A} {k : A → Rule B} → Still m → ((x : A) → Takes Q (k x)) → Takes Q (m then k)
after_quiet h g = after_still {P = λ x. Unit {0}} h (λ at none. tt) (λ x p. g x)

expected : (code : ℕ) (span : Span) (b : Bool) (at : At) → (expect code span b at).faults ≡ [] → IsTrue b
unfolding expect fault
expected code span true at none = refl
expected code span false at none = absurd (some_fault _ none)

pure_takes : {A : Type 0} {Q : ℕ → A → ℕ → Type 0} (x : A) → ((l : ℕ) → Q l x 0) → Takes Q (pure x)
unfolding pure
pure_takes x q = record { run = λ at none. q at.local }

after_local : {B : Type 0} {Q : ℕ → B → ℕ → Type 0} {k : ℕ → Rule B} (cells : ℕ) → ((l : ℕ) → Takes (λ n b c. n ≡ l + cells → Q l b (cells + c)) (k l)) → Takes Q (local cells then k)
unfolding ◌then◌ local
after_local cells g = record { run = λ at none. (g at.local).run _ none refl }

-- ---- lengths

abbrev pub LengthIs : Option ℕ → Type 0
LengthIs None = Unit {0}
LengthIs (Some n) = IsTrue (is_array_length n)

pub some_length : (n : ℕ) → IsTrue (is_array_length n) → 1 ≤ n
some_length n h = leb-true 1 n (and_left (nat_le 1 n) (nat_le n 1024) h)

abbrev IsThere : Option ℕ → Type 0
IsThere None = ⊥
IsThere (Some n) = Unit {0}

value_there : (span : Span) (f : Folded) (at : At) → (constant_of span f at).faults ≡ [] → IsThere (constant_of span f at).made
unfolding fault pure
value_there span folds.Varying at none = some_fault _ none
value_there span folds.Undefined at none = some_fault _ none
value_there span (folds.Value v) at none = tt

constant_there : (kind : Option Kind) (t : ExprTree) (at : At) → (constant kind t at).faults ≡ [] → IsThere (constant kind t at).made
unfolding constant ◌then◌
constant_there kind t at none =
    let d = uncounted (integer (piece t)) at in
    value_there t.span (folded (fitted kind d.made)) (behind at d) (right_empty d.faults (constant_of t.span (folded (fitted kind d.made)) (behind at d)).faults none)

length_if_known : (span : Span) (n : ℕ) (b : Bool) → (IsTrue b → IsTrue (is_array_length n)) → (at : At) → (length_if span n b at).faults ≡ [] → LengthIs (length_if span n b at).made
unfolding fault pure
length_if_known span n true h at none = h refl
length_if_known span n false h at none = absurd (some_fault _ none)

within_known : (span : Span) (o : Option ℕ) → IsThere o → (at : At) → (length_within span o at).faults ≡ [] → LengthIs (length_within span o at).made
within_known span None h at none = absurd h
within_known span (Some n) h at none = length_if_known span n (is_array_length n) (λ t. t) at none

pub length_known : (span : Span) (t : Option ExprTree) (at : At) → (length_at span t at).faults ≡ [] → LengthIs (length_at span t at).made
unfolding length_at ◌then◌ pure
length_known span None at none = tt
length_known span (Some t) at none =
    let d = constant None t at in
    let e = length_within span d.made (behind at d) in
    within_known span d.made (constant_there None t at (left_empty d.faults e.faults none)) (behind at d) (right_empty d.faults e.faults none)

-- ---- first values

-- as many as there are cells
abbrev Filled : Option ℕ → ℕ → List ℕ → ℕ → Type 0
Filled o l first c = (length first ≡ cells_of o) × (c ≡ 0)

zeros_fill : (n : ℕ) (vs : List ℕ) → length vs ≤ n → length (with_zeros n vs) ≡ n
zeros_fill n vs h = omega (arith, length-append vs (replicate (n - length vs) 0), length-replicate {A = ℕ} (n - length vs) 0)

-- a list of values is as long as that of the expressions
values_length : (kind : Kind) (ts : List ExprTree) (at : At) → length (first_values kind ts at).made ≡ length ts
unfolding first_values each ◌then◌ pure
values_length kind [] at = refl
values_length kind (t ∷ ts) at = ap suc (values_length kind ts _)

pub listed : (n count : ℕ) → 1 ≤ n → IsTrue (is_list_for n count) → count ≤ n
listed n count some h = grind (arith, nat_tests)

begun_fills : (d : Ident) (kind : Kind) (o : Option ℕ) (first : Option Initial) → LengthIs o → Takes (Filled o) (begun_global d kind o first)
begun_fills d kind None None h = pure_takes _ (λ l. (refl, refl))
begun_fills d kind None (Some (initials.One t)) h = after_quiet (quiet_still (first_silent kind t)) (λ v. pure_takes _ (λ l. (refl, refl)))
begun_fills d kind None (Some (initials.List ts)) h = after_still {P = λ u. ⊥} (quiet_still (expect_silent 33 d.span false)) (λ at none. is_false (expected 33 d.span false at none)) (λ u p. absurd p)
begun_fills d kind (Some n) None h = pure_takes _ (λ l. (zeros_fill n [] (omega arith), refl))
begun_fills d kind (Some n) (Some (initials.One t)) h = after_still {P = λ u. ⊥} (quiet_still (expect_silent 33 d.span false)) (λ at none. is_false (expected 33 d.span false at none)) (λ u p. absurd p)
begun_fills d kind (Some n) (Some (initials.List ts)) h =
    after_still {P = λ u. IsTrue (is_list_for n (length ts))} (quiet_still (expect_silent 34 d.span (is_list_for n (length ts)))) (λ at none. expected 34 d.span (is_list_for n (length ts)) at none) (λ u p.
    after_still {P = λ vs. length vs ≡ length ts} (quiet_still (firsts_silent kind ts)) (λ at none. values_length kind ts at) (λ vs q.
    pure_takes _ (λ l. (zeros_fill n vs (let le = listed n (length ts) (some_length n h) p in omega arith), refl))))

-- ---- globals

-- a global begins at its first cell, and has a first value for each; the limit is kept
pub record Cells (l : ℕ) (g : Global) (c : ℕ) : Type 0 where
  pub count : c ≡ length g.first
  pub limit : l + c ≤ 16384

filled : (v : Variable) (o : Option ℕ) (cell : ℕ) {m : Rule (List ℕ)} → Takes (Filled o) m → cell + cells_of o ≤ 16384
    → Takes (λ n g c. n ≡ cell + cells_of o → Cells cell g (cells_of o + c)) (m then λ first. pure (record { variable = v; first = first }))
unfolding ◌then◌ pure
filled v o cell {m = m} h limit = record {
  run = λ at none same.
      let d = m at in
      let r = h.run at (left_empty d.faults [] none) in
      record { count = omega (arith, r.0, r.1); limit = omega (arith, r.1) };
}

global_takes : (kind : Kind) (d : Declarator) → Takes Cells (global_rule kind d)
unfolding global_rule
global_takes kind d =
    after_quiet (unused_still d.name) (λ u. after_still {P = LengthIs} (quiet_still (length_silent d.name.span d.length)) (λ at none. length_known d.name.span d.length at none) (λ length h.
    after_local (cells_of length) (λ cell. after_still {P = λ v. IsTrue (nat_le (cell + cells_of length) 16384)} (quiet_still (expect_silent 37 d.name.span _)) (λ at none. expected 37 d.name.span _ at none) (λ v p.
    after_quiet (variable_still _) (λ w. filled (variable_of d.name.name kind length (places.Global cell)) length cell (begun_fills d.name kind length d.first h) (leb-true (cell + cells_of length) 16384 p))))))

-- the cells of globals, each with its kind and its first value
abbrev pub cell_of : Kind → ℕ → Kind × ℕ
cell_of kind value = (kind, value)

abbrev pub of_global : Global → List (Kind × ℕ)
of_global g = map (cell_of g.variable.kind) g.first

abbrev pub cells_in : List Global → List (Kind × ℕ)
cells_in gs = flat_map of_global gs

pub record Total (l : ℕ) (gs : List Global) (c : ℕ) : Type 0 where
  pub count : c ≡ length (cells_in gs)
  pub limit : l ≤ 16384 → l + c ≤ 16384

no_cells : (l : ℕ) → Total l [] 0
no_cells l = record { count = refl; limit = λ h. omega arith }

two_totals : (l : ℕ) (xs ys : List Global) (b c : ℕ) → Total l xs b → Total (l + b) ys c → Total l (xs ++ ys) (b + (c + 0))
two_totals l xs ys b c h k = record {
  count =
      let joined = ap length (flat_map-append of_global xs ys) in
      omega (arith, h.count, k.count, joined, length-append (cells_in xs) (cells_in ys));
  limit = λ m. (let p = h.limit m in let q = k.limit p in omega arith);
}

one_total : (l : ℕ) (g : Global) (c : ℕ) → Cells l g c → Total l (g ∷ []) (c + 0)
one_total l g c h =
    let cells = of_global g in
    let long = length-append cells [] in
    let mapped : length cells ≡ length g.first = length-map g.first (cell_of g.variable.kind) in
    record { count = omega (arith, h.count, long, mapped); limit = λ m. (let p = h.limit in omega arith) }

alone_takes : {m : Rule Global} → Takes Cells m → Takes Total (alone_in m)
unfolding ◌then◌ pure
alone_takes {m = m} h = record { run = λ at none. one_total at.local (m at).made (m at).locals (h.run at (left_empty (m at).faults [] none)) }

each_takes : {X : Type 0} (f : X → Rule (List Global)) → ((x : X) → Takes Total (f x)) → (xs : List X) → Takes Total (each f xs)
unfolding each ◌then◌ pure
each_takes f h [] = record { run = λ at none. no_cells at.local }
each_takes f h (x ∷ xs) = record {
  run = λ at none.
      let d = f x at in
      let e = each f xs (behind at d) in
      two_totals at.local d.made e.made d.locals e.locals ((h x).run at (left_empty d.faults (e.faults ++ []) none)) ((each_takes f h xs).run (behind at d) (left_empty e.faults [] (right_empty d.faults (e.faults ++ []) none)));
}

abbrev pub PartsTake : ℕ → Parts → ℕ → Type 0
PartsTake l parts c = Total l parts.globals c

variables_take : (kind : Kind) (ds : List Declarator) → Takes PartsTake (globals_rule kind ds then λ gs. pure (record { globals = gs; functions = [] }))
unfolding globals_rule ◌then◌ pure
variables_take kind ds = record {
  run = λ at none.
      let d = globals_rule kind ds at in
      let r = (each_takes (λ d. alone_in (global_rule kind d)) (λ d. alone_takes (global_takes kind d)) ds).run at (left_empty d.faults [] none) in
      record { count = omega (arith, r.count); limit = λ h. (let p = r.limit h in omega arith) };
}

item_takes : (p : Program) (i : Item) → Takes PartsTake (item_rule p i)
unfolding item_rule
item_takes p (items.Function span result d ps body) = after_quiet (function_still (callee_of p d.name) span result d ps body) (λ fs. pure_takes _ no_cells)
item_takes p (items.Variables span kind list) = variables_take kind list
item_takes p (items.Constants span list) = after_quiet (constants_still 0 list) (λ u. pure_takes _ no_cells)

-- the globals of a unit have as many cells as are counted, which are within the limit
pub items_take : (p : Program) (is : List Item) → Takes PartsTake (items_rule p is)
unfolding items_rule ◌then◌ pure
items_take p [] = record { run = λ at none. no_cells at.local }
items_take p (i ∷ is) = record {
  run = λ at none.
      let d = item_rule p i at in
      let e = items_rule p is (behind at d) in
      two_totals at.local d.made.globals e.made.globals d.locals e.locals ((item_takes p i).run at (left_empty d.faults (e.faults ++ []) none)) ((items_take p is).run (behind at d) (left_empty e.faults [] (right_empty d.faults (e.faults ++ []) none)));
}
