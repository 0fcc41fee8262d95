-- The frames of the functions of a unit.
use Rattle.std.proofs.Common.{◌≡◌, ℕ, ◌+◌, ◌≤◌, Bool, not, List, [], ◌∷◌, ◌++◌, length, Option, Some, None, refl, sym, subst, arith}
use Rattle.std.specs.Prelude.{nat_le}
use Rattle.std.specs.Option.{is_some}
use Rattle.std.specs.List.{AllByRecursion, filter_map, cons_option}
use Rattle.fq_core.specs.declared.span.Span.{Span}
use Rattle.c_values.specs.declared.kinds.Kind.{Kind}
use Rattle.c_parse.specs.declared.expr.ExprTree.{ExprTree}
use Rattle.c_parse.specs.declared.expr.Ident.{Ident}
use Rattle.c_parse.specs.declared.statement.Declarator.{Declarator}
use Rattle.c_parse.specs.declared.unit.Body.{Body}
use Rattle.c_parse.specs.declared.unit.Item.{Item}
use Rattle.c_parse.specs.declared.unit.Item.TheVariants as items
use Rattle.c_parse.specs.declared.unit.Parameter.{Parameter}
use Rattle.cfa.specs.declared.parts.Variable.{Variable}
use Rattle.cfa.specs.declared.parts.VariablePlace.TheVariants as places
use Rattle.c_typed_trees.specs.Fitting.{word_kind}
use Rattle.c_typed_trees.specs.declared.expression.Callee.{Callee}
use Rattle.c_typed_trees.specs.declared.unit.TypedFunction.{TypedFunction}
use Rattle.c_type_rules.specs.declared.scopes.Bound.{Bound}
use Rattle.c_type_rules.specs.declared.scopes.Signature.{Signature}
use Rattle.c_type_rules.specs.Rule.{At, Rule, behind, pure, ◌then◌, here, local, bind, in_scope, each, alone_in}
use Rattle.c_types.specs.declared.parameters.Parameters.{Parameters}
use Rattle.c_types.specs.declared.program.Program.{Program}
use Rattle.c_types.specs.declared.units.Parts.{Parts}
use Rattle.c_types.specs.Declarations.{same_level, unused, variable_of, bound_as, bind_variable, length_at, cells_of, global_rule, globals_rule, enumerated, bound_constant, constant_rule, constants_from}
use Rattle.c_types.specs.Functions.{name_of, name_span, parameter_place, cell_behind, lent_behind, named_parameter, parameter_rule, parameters_from, signature_of, may_declare, bound_function, declare, in_frame, framed, body_rule, function_of, defined_rule, function_rule}
use Rattle.c_types.specs.Units.{callee_of, program_of, item_rule, items_rule, start, typed_of}
use Rattle.tree_meaning_laws.specs.temporaries_apart.Named.{IsBelow, PlaceBelow, body_named}
use Rattle.tree_meaning_laws.specs.temporaries_apart.Laws.{IsApart}
use Rattle.tree_meaning_laws.proofs.temporaries_apart.Stands.{Stands}
use Rattle.tree_meaning_laws.proofs.temporaries_apart.Numbered.{NamesBelow, names_append, Kept, Any}
use Rattle.tree_meaning_laws.proofs.temporaries_apart.NumberedStatements.{body_numbered}
use Rattle.c_types_laws.proofs.typing_laws.AlikeStatements.{same_locals}
use Rattle.c_types_laws.proofs.typing_fits.Silent.{Silent, expect_silent, look_silent}
use Rattle.c_types_laws.proofs.typing_fits.Known.{length_silent, first_silent, begun_silent}
use Rattle.c_types_laws.proofs.typing_fits.Sound.{all_append}

-- ---- parameters lie one behind another

abbrev Placed : ℕ → ℕ → List Variable → ℕ → Type 0
Placed cell lent [] end = end ≡ cell
Placed cell lent (v ∷ vs) end = (v.place ≡ parameter_place cell lent v.length) × Placed (cell_behind cell v.length) (lent_behind lent v.length) vs end

abbrev PlacedAt : ℕ → ℕ → Variable → Type 0
PlacedAt cell lent v = v.place ≡ parameter_place cell lent v.length

named_made : (defined : Bool) (span : Span) (d : Option Ident) (v : Variable) (at : At) → (named_parameter defined span d v at).made ≡ v
unfolding ◌then◌ pure
named_made defined span None v at = refl
named_made defined span (Some d) v at = refl

parameter_made : (defined : Bool) (cell lent : ℕ) (p : Parameter) (at : At) → PlacedAt cell lent (parameter_rule defined cell lent p at).made
unfolding parameter_rule ◌then◌
parameter_made defined cell lent p at =
    let d = length_at (name_span p.span p.name) p.length at in
    let v = variable_of (name_of p.name) p.kind d.made (parameter_place cell lent d.made) in
    subst (PlacedAt cell lent) (sym (named_made defined p.span p.name v (behind at d))) refl

parameters_made : (defined : Bool) (cell lent : ℕ) (ps : List Parameter) (at : At) → Placed cell lent (parameters_from defined cell lent ps at).made.variables (parameters_from defined cell lent ps at).made.cells
unfolding parameters_from ◌then◌ pure
parameters_made defined cell lent [] at = refl
parameters_made defined cell lent (p ∷ ps) at =
    let d = parameter_rule defined cell lent p at in
    (parameter_made defined cell lent p at, parameters_made defined (cell_behind cell d.made.length) (lent_behind lent d.made.length) ps (behind at d))

behind_least : (cell : ℕ) (o : Option ℕ) → cell ≤ cell_behind cell o
behind_least cell None = omega arith
behind_least cell (Some n) = omega arith

placed_least : (cell lent : ℕ) (vs : List Variable) (end : ℕ) → Placed cell lent vs end → cell ≤ end
placed_least cell lent [] end h = omega arith
placed_least cell lent (v ∷ vs) end h = (let p = placed_least (cell_behind cell v.length) (lent_behind lent v.length) vs end h.1 in let q = behind_least cell v.length in omega arith)

placed_count : (cell lent : ℕ) (vs : List Variable) (end : ℕ) → Placed cell lent vs end → length (filter_map word_kind vs) + cell ≡ end
placed_count cell lent [] end h = omega (arith, h)
placed_count cell lent (v ∷ vs) end h = by v.length (placed_count (cell_behind cell v.length) (lent_behind lent v.length) vs end h.1)
  where
    by : (o : Option ℕ) → length (filter_map word_kind vs) + cell_behind cell o ≡ end → length (cons_option (elim o [ None ↦ Some v.kind | Some n ↦ None ]) (filter_map word_kind vs)) + cell ≡ end
    by None e = omega (arith, e)
    by (Some n) e = e

one_below : (end cell lent : ℕ) (o : Option ℕ) → cell_behind cell o ≤ end → PlaceBelow end o (parameter_place cell lent o)
one_below end cell lent None h = h
one_below end cell lent (Some n) h = tt

placed_below : (limit cell lent : ℕ) (vs : List Variable) (end : ℕ) → Placed cell lent vs end → end ≤ limit → AllByRecursion (IsBelow limit) vs
placed_below limit cell lent [] end h l = tt
placed_below limit cell lent (v ∷ vs) end h l =
    let least = placed_least (cell_behind cell v.length) (lent_behind lent v.length) vs end h.1 in
    let there : PlaceBelow limit v.length (parameter_place cell lent v.length) = one_below limit cell lent v.length (omega arith) in
    (subst (PlaceBelow limit v.length) (sym h.0) there, placed_below limit (cell_behind cell v.length) (lent_behind lent v.length) vs end h.1 l)

-- ---- names of the file are no variables of a frame

abbrev FileNames : List Bound → Type 0
FileNames bs = (end : ℕ) → NamesBelow end bs

-- where names are those of a file, P of what is made, and the names that are added are so too
record Filed {A : Type 0} (P : A → Type 0) (m : Rule A) : Type 0 where
  run : (at : At) → FileNames at.bound → P (m at).made × FileNames (m at).bound

then_filed : {A B : Type 0} {P : A → Type 0} {Q : B → Type 0} {m : Rule A} {k : A → Rule B} → Filed P m → ((x : A) → P x → Filed Q (k x)) → Filed Q (m then k)
unfolding ◌then◌
then_filed {P = P} {Q = Q} {m = m} {k = k} h g = record {
  run = λ at names.
      let d = m at in
      let e = k d.made (behind at d) in
      let first : P d.made × FileNames d.bound = h.run at names in
      let second : Q e.made × FileNames e.bound = (g d.made first.0).run (behind at d) (λ end. names_append end at.bound d.bound (names end) (first.1 end)) in
      (second.0, λ end. names_append end d.bound e.bound (first.1 end) (second.1 end));
}

pure_filed : {A : Type 0} {P : A → Type 0} (x : A) → P x → Filed P (pure x)
unfolding pure
pure_filed x p = record { run = λ at names. (p, λ end. tt) }

silent_filed : {A : Type 0} {m : Rule A} → Silent m → Filed Any m
silent_filed {m = m} h = record { run = λ at names. (tt, λ end. subst (NamesBelow end) (sym (h.bound at)) tt) }

here_filed : Filed Any here
unfolding here
here_filed = record { run = λ at names. (tt, λ end. tt) }

local_filed : (cells : ℕ) → Filed Any (local cells)
unfolding local
local_filed cells = record { run = λ at names. (tt, λ end. tt) }

bind_filed : (b : Bound) → FileNames (b ∷ []) → Filed Any (bind b)
unfolding bind
bind_filed b h = record { run = λ at names. (tt, h) }

scope_filed : {A : Type 0} {P : A → Type 0} (m : Rule A) → ((at : At) → P (m at).made) → Filed P (in_scope m)
unfolding in_scope
scope_filed m h = record { run = λ at names. (h _, λ end. tt) }

each_filed : {X A : Type 0} (g : X → Rule (List A)) → ((x : X) → Filed Any (g x)) → (xs : List X) → Filed Any (each g xs)
unfolding each
each_filed g h [] = pure_filed [] tt
each_filed g h (x ∷ xs) = then_filed (h x) (λ ys p. then_filed (each_filed g h xs) (λ zs q. pure_filed (ys ++ zs) tt))

alone_filed : {A : Type 0} {m : Rule A} → Filed Any m → Filed Any (alone_in m)
alone_filed h = then_filed h (λ x p. pure_filed (x ∷ []) tt)

unused_filed : (d : Ident) → Filed Any (unused d)
unfolding unused
unused_filed d = then_filed here_filed (λ level p. then_filed (silent_filed (look_silent d.name)) (λ found q. silent_filed (expect_silent 31 d.span (not (same_level level found)))))

variable_filed : (w : List ℕ) (kind : Kind) (length : Option ℕ) (cell : ℕ) → Filed Any (bind_variable (variable_of w kind length (places.Global cell)))
unfolding bind_variable
variable_filed w kind length cell = then_filed here_filed (λ level p. bind_filed (bound_as level (variable_of w kind length (places.Global cell))) (λ end. (tt, tt)))

global_filed : (kind : Kind) (d : Declarator) → Filed Any (global_rule kind d)
unfolding global_rule
global_filed kind d =
    then_filed (unused_filed d.name) (λ u p. then_filed (silent_filed (length_silent d.name.span d.length)) (λ length q. then_filed (local_filed (cells_of length)) (λ cell r.
    then_filed (silent_filed (expect_silent 37 d.name.span (nat_le (cell + cells_of length) 16384))) (λ v s. then_filed (variable_filed d.name.name kind length cell) (λ w t.
    then_filed (silent_filed (begun_silent d.name kind length d.first)) (λ first o. pure_filed _ tt))))))

constants_filed : (next : ℕ) (cs : List (Ident × Option ExprTree)) → Filed Any (constants_from next cs)
unfolding constants_from constant_rule
constants_filed next [] = pure_filed tt tt
constants_filed next (c ∷ cs) =
    then_filed {P = Any} (then_filed (valued c.1) (λ v p. then_filed (unused_filed c.0) (λ u q. then_filed here_filed (λ level r. then_filed (bind_filed (bound_constant c.0.name level v) (λ end. (tt, tt))) (λ w s. pure_filed _ tt)))))
    (λ more p. constants_filed more cs)
  where
    valued : (t : Option ExprTree) → Filed Any (enumerated next t)
    valued None = pure_filed next tt
    valued (Some t) = silent_filed (first_silent _ t)

declare_filed : (d : Ident) (s : Signature) → Filed Any (declare d s)
unfolding declare
declare_filed d s =
    then_filed (silent_filed (look_silent d.name)) (λ found p. then_filed (silent_filed (expect_silent 31 d.span (may_declare s found))) (λ u q. then_filed here_filed (λ level r. bind_filed (bound_function d.name level s found) (λ end. (tt, tt)))))

-- ---- functions

framed_apart : (span : Span) (result : Option Kind) (d : Ident) (ps : Parameters) (b : Body) (at : At) → FileNames at.bound → Placed 1 0 ps.variables ps.cells
    → IsApart (function_of span result d ps b (framed span ps.cells (body_rule result ps b) at).made)
unfolding framed
framed_apart span result d ps b at names placed =
    let first = ps.cells in
    let m = body_rule result ps b in
    let locals = first + (m (in_frame first 0 at)).locals in
    let done = m (in_frame first locals at) in
    let alike = same_locals result ps b at first locals in
    let least = placed_least 1 0 ps.variables first placed in
    let count = placed_count 1 0 ps.variables first placed in
    let parameters = placed_below locals 1 0 ps.variables first placed (omega arith) in
    let kept : Kept locals (λ ss. Stands locals locals (locals + done.temporaries) (body_named ss)) done = (body_numbered locals (omega arith) result ps b parameters locals).run (in_frame first locals at) refl (names locals) (omega arith) in
    record {
      locals = locals;
      words = omega arith;
      parameters = parameters;
      variables = kept.made.below;
      temporaries = kept.made.ascend;
    }

-- a body's names end with it
framed_filed : (span : Span) (first : ℕ) (result : Option Kind) (ps : Parameters) (b : Body) (at : At) → FileNames (framed span first (body_rule result ps b) at).bound
unfolding framed body_rule in_scope
framed_filed span first result ps b at = λ end. tt

abbrev AllApart : List TypedFunction → Type 0
AllApart fs = AllByRecursion IsApart fs

defined_filed : (span : Span) (result : Option Kind) (d : Ident) (ps : Parameters) (body : Option Body) → Placed 1 0 ps.variables ps.cells → Filed AllApart (defined_rule span result d ps body)
unfolding ◌then◌ pure
defined_filed span result d ps None placed = pure_filed [] tt
defined_filed span result d ps (Some b) placed = record {
  run = λ at names. ((framed_apart span result d ps b at names placed, tt), λ end. names_append end _ [] (framed_filed span ps.cells result ps b at end) tt);
}

function_filed : (callee : Option Callee) (span : Span) (result : Option Kind) (d : Ident) (ps : List Parameter) (body : Option Body) → Filed AllApart (function_rule callee span result d ps body)
unfolding function_rule
function_filed callee span result d ps body =
    then_filed {P = λ (vs : Parameters). Placed 1 0 vs.variables vs.cells} (scope_filed _ (λ at. parameters_made (is_some body) 1 0 ps at)) (λ vs placed. then_filed (declare_filed d (signature_of callee (is_some body) result vs)) (λ u p.
    defined_filed span result d vs body placed))

-- ---- units

abbrev PartsApart : Parts → Type 0
PartsApart p = AllApart p.functions

item_filed : (p : Program) (i : Item) → Filed PartsApart (item_rule p i)
unfolding item_rule globals_rule
item_filed p (items.Function span result d ps body) = then_filed (function_filed (callee_of p d.name) span result d ps body) (λ fs h. pure_filed _ h)
item_filed p (items.Variables span kind list) = then_filed (each_filed (λ (d : Declarator). alone_in (global_rule kind d)) (λ d. alone_filed (global_filed kind d)) list) (λ gs h. pure_filed _ tt)
item_filed p (items.Constants span list) = then_filed (constants_filed 0 list) (λ u h. pure_filed _ tt)

items_filed : (p : Program) (is : List Item) → Filed PartsApart (items_rule p is)
unfolding items_rule
items_filed p [] = pure_filed _ tt
items_filed p (i ∷ is) = then_filed (item_filed p i) (λ x h. then_filed (items_filed p is) (λ y k. pure_filed _ (all_append IsApart x.functions y.functions h k)))

pub unit_apart : (list : List Item) → AllApart (typed_of list).functions
unfolding typed_of
unit_apart list = ((items_filed (program_of list) list).run start (λ end. tt)).0
