-- What derives as an item is read again, whatever follows.
use Rattle.std.proofs.Common.{◌≡◌, suc, Bool, true, false, List, [], ◌∷◌, ◌++◌, length, Option, Some, None, refl, append_assoc, arith}
use Rattle.std.specs.Prelude.{◌||◌}
use Rattle.std.proofs.lemmas.List.{length-append}
use Rattle.fq_core.specs.declared.span.Span.{Span}
use Rattle.c_values.specs.declared.kinds.Kind.{Kind}
use Rattle.c_parse.specs.declared.sign.Terminal.{Terminal}
use Rattle.c_parse.specs.declared.sign.Sign.TheVariants as sign
use Rattle.c_parse.specs.declared.sign.Symbol.{Symbol}
use Rattle.c_parse.specs.declared.sign.Symbol.TheVariants as symbols
use Rattle.c_parse.specs.declared.expr.Ident.{Ident}
use Rattle.c_parse.specs.declared.expr.ExprTree.{ExprTree}
use Rattle.c_parse.specs.declared.unit.Parameter.{Parameter}
use Rattle.c_parse.specs.declared.unit.Body.{Body}
use Rattle.c_parse.specs.declared.unit.Item.{Item}
use Rattle.c_parse.specs.declared.unit.Item.TheVariants as item
use Rattle.c_parse.specs.Types.{kind_of}
use Rattle.c_parse.specs.StatementTrees.{ident}
use Rattle.c_parse.specs.Grammar.{Text, symbol, name_token, first_span, end, word}
use Rattle.c_parse.specs.declared.statement.Declarator.{Declarator}
use Rattle.c_parse.specs.Separated.{DerivesSeparated, the_only, the_only_with_comma, and_others}
use Rattle.c_parse.specs.Declarations.{DerivesType, a_type, no_bracket, in_brackets, no_first, one_first, some_first, DerivesDeclarator, a_declarator, DerivesDeclarators}
use Rattle.c_parse.specs.Statements.{no_const, a_const}
use Rattle.c_parse.specs.Items.{ForFunction, static_function, extern_function, inline_function, const_function, ForVariable, static_variable, const_variable, AreAll, none_left, one_more_word, nothing_given, a_kind, DerivesNamed, without_name, with_name, DerivesParameter, a_parameter, DerivesParameters, no_parameter, void_parameter, some_parameters, DerivesEnd, declared, defined, AreTag, no_tag, a_tag, DerivesConstant, plain_constant, with_value, DerivesItem, a_function, some_variables, some_constants}
use Rattle.c_parse.specs.Reading.{starts, starts_type, tail}
use Rattle.c_parse.specs.ReadingStatements.{separated_at, name_at, body_at, statement_at}
use Rattle.c_parse.specs.ReadingItems.{is_shared, is_of_functions, is_before, starts_before, past_before, for_variables, by_name, parameter_at, parameters_at, end_at, function_at, past_named, constant_at, enum_at, typed_at, void_at, item_at}
use Rattle.c_parse.proofs.Again.{Stays, Stays_symbol}
use Rattle.c_parse.proofs.TakesStatements.{type_first}
use Rattle.c_parse.proofs.AgainParts.{choice_in_again, separated_again, bracketed_again, declarators_again, declarators_begin, no_type_first, consts_again, type_at_again, type_no_const}
use Rattle.c_parse.proofs.AgreeStatements.{body_unbounded}
use Rattle.c_parse.proofs.AgainStatements.{body_again}

-- ---- the words in front

function_word : (m : Symbol) → ForFunction m → is_before (sign.Symbol m) ≡ true
function_word _ static_function = refl
function_word _ extern_function = refl
function_word _ inline_function = refl
function_word _ const_function = refl

variable_word : (m : Symbol) → ForVariable m → ForFunction m × (is_shared (sign.Symbol m) ≡ true)
variable_word _ static_variable = (static_function, refl)
variable_word _ const_variable = (const_function, refl)

for_functions : {bs : List Terminal} → AreAll ForVariable bs → AreAll ForFunction bs
for_functions none_left = none_left
for_functions (one_more_word m p f d) = one_more_word m p (variable_word m f).0 (for_functions d)

before_again : {bs : List Terminal} → AreAll ForFunction bs → (rest : List Terminal) → starts_before rest ≡ false → past_before (bs ++ rest) ≡ rest
before_again none_left [] e = refl
before_again none_left (t ∷ ts) e = rw e refl
before_again (one_more_word m p f d) rest e = rw (function_word m f) (before_again d rest e)

no_word : (a b : Bool) → (a || b) ≡ false → (a ≡ false) × (b ≡ false)
no_word false b e = (refl, e)
no_word true b e = absurd cc

variables_again : {bs : List Terminal} → AreAll ForVariable bs → (rest : List Terminal) → starts_before rest ≡ false → for_variables (bs ++ rest) ≡ true
variables_again none_left [] e = refl
variables_again none_left (t ∷ ts) e = let w = no_word (is_shared t.sign) (is_of_functions t.sign) e in rw (w.0, w.1) refl
variables_again (one_more_word m p f d) rest e = rw (variable_word m f).1 (variables_again d rest e)

-- no word in front is `enum`
no_enum : {bs : List Terminal} → AreAll ForFunction bs → (rest : List Terminal) → starts symbols.Enum rest ≡ false → starts symbols.Enum (bs ++ rest) ≡ false
no_enum none_left rest e = e
no_enum (one_more_word _ p static_function d) rest e = refl
no_enum (one_more_word _ p extern_function d) rest e = refl
no_enum (one_more_word _ p inline_function d) rest e = refl
no_enum (one_more_word _ p const_function d) rest e = refl

-- what a type begins with
record BeginsType (xs : List Terminal) : Type 0 where
  no_before : starts_before xs ≡ false
  no_enum_first : starts symbols.Enum xs ≡ false
  no_void_first : starts symbols.Void xs ≡ false
  no_close_first : starts symbols.Close xs ≡ false

type_begins : {kind : Kind} {ts : List Terminal} → DerivesType kind ts → (rest : List Terminal) → BeginsType (ts ++ rest)
unfolding kind_of
type_begins (a_type end k) rest = absurd cc
type_begins (a_type (word p w) k) rest = record { no_before = refl; no_enum_first = refl; no_void_first = refl; no_close_first = refl }

-- ---- parameters

named_again : {n : Option Ident} {l : Option ExprTree} {xs : List Terminal} → DerivesNamed n l xs → (rest : List Terminal) → name_at rest ≡ None → starts symbols.OpenIndex rest ≡ false → by_name (name_at (xs ++ rest)) (xs ++ rest) ≡ Some ((n, l), rest)
named_again without_name rest e f = rw e refl
named_again (with_name d) rest e f = rw (bracketed_again d rest f) refl

named_no_type : {n : Option Ident} {l : Option ExprTree} {xs : List Terminal} → DerivesNamed n l xs → (rest : List Terminal) → starts_type rest ≡ false → starts_type (xs ++ rest) ≡ false
named_no_type without_name rest e = e
named_no_type (with_name d) rest e = refl

parameter_again : {x : Parameter} {xs : List Terminal} → DerivesParameter x xs → (rest : List Terminal) → name_at rest ≡ None → starts symbols.OpenIndex rest ≡ false → starts_type rest ≡ false → parameter_at (xs ++ rest) ≡ Some (x, rest)
unfolding parameter_at
parameter_again (a_parameter {consts = cs} {type = type} {ts = ts} c t n) rest e f g =
    let regroup : (cs ++ (type ++ ts)) ++ rest ≡ cs ++ (type ++ (ts ++ rest)) = simp append_assoc in
    rw (regroup, consts_again c (type ++ (ts ++ rest)) (type_no_const t (ts ++ rest)), type_at_again t (ts ++ rest) (named_no_type n rest g), named_again n rest e f, type_first t cs (ts ++ rest)) refl

parameter_begins : {x : Parameter} {xs : List Terminal} → DerivesParameter x xs → (rest : List Terminal) → (starts symbols.Close (xs ++ rest) ≡ false) × (starts symbols.Void (xs ++ rest) ≡ false)
parameter_begins (a_parameter (a_const p c) t n) rest = (refl, refl)
parameter_begins (a_parameter {type = type} {ts = ts} no_const t n) rest = let b = type_begins t (ts ++ rest) in rw (append_assoc type ts rest) (b.no_close_first, b.no_void_first)

parameters_begin : {ps : List Parameter} {xs : List Terminal} → DerivesSeparated DerivesParameter false symbols.Close ps xs → (rest : List Terminal) → (starts symbols.Close (xs ++ rest) ≡ false) × (starts symbols.Void (xs ++ rest) ≡ false)
parameters_begin (the_only {ts = ts} q d) rest = rw append_assoc (parameter_begins d _)
parameters_begin (the_only_with_comma {ts = ts} p q e d) rest = rw append_assoc (parameter_begins d _)
parameters_begin (and_others {ts = ts} q d ds) rest = rw append_assoc (parameter_begins d _)

parameters_again : {ps : List Parameter} {xs : List Terminal} → DerivesParameters ps xs → (rest : List Terminal) → parameters_at (xs ++ rest) ≡ Some (ps, rest)
unfolding parameters_at
parameters_again (no_parameter q) rest = refl
parameters_again (void_parameter p q) rest = refl
parameters_again (some_parameters {ts = ts} d) rest =
    let b = parameters_begin d rest in
    rw (b.0, b.1) (separated_again DerivesParameter parameter_at false symbols.Close refl refl
    (λ y us g q r. parameter_again g (symbol symbols.Comma q ∷ r) refl refl refl) (λ y us g q r. parameter_again g (symbol symbols.Close q ∷ r) refl refl refl)
    (λ y us g r. (parameter_begins g r).0) d (length (ts ++ rest)) rest (omega (arith, length-append ts rest)))

-- ---- items

end_again : {o : Option Body} {xs : List Terminal} → DerivesEnd o xs → (rest : List Terminal) → end_at (xs ++ rest) ≡ Some (o, rest)
unfolding end_at
end_again (declared p) rest = refl
end_again (defined {ts = ts} p q d) rest =
    let all : List Terminal = ts ++ symbol symbols.CloseBrace q ∷ rest in
    let e : body_at (statement_at (suc (length all))) (length all) all ≡ Some (_, symbol symbols.CloseBrace q ∷ rest) = body_again d (suc (length all)) (length all) (symbol symbols.CloseBrace q ∷ rest) (omega (arith, length-append ts (symbol symbols.CloseBrace q ∷ rest))) (omega (arith, length-append ts (symbol symbols.CloseBrace q ∷ rest))) refl in
    let f = body_unbounded (suc (length all)) (length all) all (omega arith) in
    rw (append_assoc, ← f, e) refl

function_again : (p q : Span) (result : Option Kind) (name : Ident) (ps : List Parameter) (o : Option Body) (ts us rest : List Terminal) → DerivesParameters ps ts → DerivesEnd o us
    → function_at p result name (symbol symbols.Open q ∷ (ts ++ (us ++ rest))) ≡ Some (item.Function p result name ps o, rest)
unfolding function_at
function_again p q result name ps o ts us rest d e = rw (parameters_again d (us ++ rest), end_again e rest) refl

constant_again : {x : Ident × Option ExprTree} {xs : List Terminal} → DerivesConstant x xs → (rest : List Terminal) → starts symbols.Assign rest ≡ false → Stays rest → constant_at (xs ++ rest) ≡ Some (x, rest)
unfolding constant_at
constant_again plain_constant rest e stays = rw e refl
constant_again (with_value q d) rest e stays = rw (choice_in_again d rest stays) refl

constant_no_close : {x : Ident × Option ExprTree} {xs : List Terminal} → DerivesConstant x xs → (rest : List Terminal) → starts symbols.CloseBrace (xs ++ rest) ≡ false
constant_no_close plain_constant rest = refl
constant_no_close (with_value q d) rest = refl

tag_again : {xs : List Terminal} → AreTag xs → (q : Span) (rest : List Terminal) → past_named (name_at (xs ++ symbol symbols.OpenBrace q ∷ rest)) (xs ++ symbol symbols.OpenBrace q ∷ rest) ≡ symbol symbols.OpenBrace q ∷ rest
tag_again no_tag q rest = refl
tag_again a_tag q rest = refl

enum_again : (p q r : Span) (cs : List (Ident × Option ExprTree)) (tag ts rest : List Terminal) → AreTag tag → DerivesSeparated DerivesConstant true symbols.CloseBrace cs ts
    → enum_at p (tag ++ symbol symbols.OpenBrace q ∷ (ts ++ symbol symbols.Semicolon r ∷ rest)) ≡ Some (item.Constants p cs, rest)
unfolding enum_at
enum_again p q r cs tag ts rest t d =
    let behind : List Terminal = symbol symbols.Semicolon r ∷ rest in
    let e : separated_at constant_at true symbols.CloseBrace (length (ts ++ behind)) (ts ++ behind) ≡ Some (cs, behind) =
    separated_again DerivesConstant constant_at true symbols.CloseBrace refl refl
    (λ y us g q r. constant_again g (symbol symbols.Comma q ∷ r) refl (Stays_symbol _ _ _ refl refl refl refl)) (λ y us g q r. constant_again g (symbol symbols.CloseBrace q ∷ r) refl (Stays_symbol _ _ _ refl refl refl refl))
    (λ y us g r. constant_no_close g r) d (length (ts ++ behind)) behind (omega (arith, length-append ts behind)) in
    rw (tag_again t q (ts ++ behind), e) refl

void_span : (us : List Terminal) (p : Span) (vs : List Terminal) → first_span (us ++ (symbol symbols.Void p ∷ vs)) ≡ first_span (us ++ symbol symbols.Void p ∷ [])
void_span [] p vs = refl
void_span (u ∷ us) p vs = refl

-- declarators begin with a name, and no parenthesis follows it
declarator_name : {d : Declarator} {xs : List Terminal} → DerivesDeclarator d xs → (rest : List Terminal) → starts symbols.Open rest ≡ false → (w : Text) × (name_at (xs ++ rest) ≡ Some w) × (starts symbols.Open (tail (xs ++ rest)) ≡ false)
declarator_name (a_declarator {w = w} no_bracket no_first) rest e = (w, refl, e)
declarator_name (a_declarator {w = w} no_bracket (one_first p d)) rest e = (w, refl, refl)
declarator_name (a_declarator {w = w} no_bracket (some_first p q d)) rest e = (w, refl, refl)
declarator_name (a_declarator {w = w} (in_brackets p q d) f) rest e = (w, refl, refl)

declarators_name : {ds : List Declarator} {xs : List Terminal} → DerivesDeclarators ds xs → (rest : List Terminal) → (w : Text) × (name_at (xs ++ rest) ≡ Some w) × (starts symbols.Open (tail (xs ++ rest)) ≡ false)
declarators_name (the_only q d) rest = rw append_assoc (declarator_name d _ refl)
declarators_name (the_only_with_comma p q e d) rest = rw append_assoc (declarator_name d _ refl)
declarators_name (and_others q d ds) rest = rw append_assoc (declarator_name d _ refl)

pub item_again : {i : Item} {xs : List Terminal} → DerivesItem i xs → (rest : List Terminal) → item_at (xs ++ rest) ≡ Some (i, rest)
unfolding item_at void_at typed_at
item_again (a_function {result = result} {w = w} {ps = ps} {body = body} {before = bs} {ts = ts} {us = us} p q b (nothing_given v) d e) rest =
    let behind : List Terminal = name_token w p ∷ symbol symbols.Open q ∷ (ts ++ (us ++ rest)) in
    let regroup : (bs ++ (symbol symbols.Void v ∷ name_token w p ∷ symbol symbols.Open q ∷ (ts ++ us))) ++ rest ≡ bs ++ (symbol symbols.Void v ∷ behind) = simp append_assoc in
    rw (regroup, no_enum b (symbol symbols.Void v ∷ behind) refl, before_again b (symbol symbols.Void v ∷ behind) refl, void_span bs v behind, function_again (first_span (bs ++ symbol symbols.Void v ∷ [])) q None (ident w p) ps body ts us rest d e) refl
item_again (a_function {w = w} {ps = ps} {body = body} {before = bs} {type = type} {ts = ts} {us = us} p q b (a_kind {kind = kind} t) d e) rest =
    let behind : List Terminal = name_token w p ∷ symbol symbols.Open q ∷ (ts ++ (us ++ rest)) in
    let regroup : (bs ++ (type ++ name_token w p ∷ symbol symbols.Open q ∷ (ts ++ us))) ++ rest ≡ bs ++ (type ++ behind) = simp append_assoc in
    let g = type_begins t behind in
    rw (regroup, no_enum b (type ++ behind) g.no_enum_first, before_again b (type ++ behind) g.no_before, g.no_void_first, type_at_again t behind refl, type_first t bs behind, function_again (first_span (bs ++ type)) q (Some kind) (ident w p) ps body ts us rest d e) refl
item_again (some_variables {ds = ds} {before = bs} {type = type} {ts = ts} b t d) rest =
    let behind : List Terminal = ts ++ rest in
    let regroup : (bs ++ (type ++ ts)) ++ rest ≡ bs ++ (type ++ behind) = simp append_assoc in
    let g = type_begins t behind in
    let n = declarators_name d rest in
    rw (regroup, no_enum (for_functions b) (type ++ behind) g.no_enum_first, before_again (for_functions b) (type ++ behind) g.no_before, g.no_void_first, type_at_again t behind (no_type_first (λ w. refl) ts rest (declarators_begin d)), n.1, n.2, variables_again b (type ++ behind) g.no_before, declarators_again d rest, type_first t bs behind) refl
item_again (some_constants {cs = cs} {tag = tag} {ts = ts} p q r t d) rest =
    let regroup : (tag ++ symbol symbols.OpenBrace q ∷ (ts ++ symbol symbols.Semicolon r ∷ [])) ++ rest ≡ tag ++ symbol symbols.OpenBrace q ∷ (ts ++ symbol symbols.Semicolon r ∷ rest) = simp append_assoc in
    rw (regroup, enum_again p q r cs tag ts rest t d) refl
