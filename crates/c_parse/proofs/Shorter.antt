-- What is read is some of the tokens, so that fewer are left.
use Rattle.std.proofs.Common.{◌≡◌, ℕ, zero, suc, ◌+◌, ◌≤◌, ◌<◌, List, ◌++◌, [], ◌∷◌, length, Option, Some, ap, arith}
use Rattle.std.proofs.lemmas.List.{length-append}
use Rattle.std.specs.Prelude.{IfSome}
use Rattle.std.proofs.lemmas.Option.{IfSome_then}
use Rattle.c_parse.specs.declared.sign.Terminal.{Terminal}
use Rattle.c_parse.specs.declared.expr.ExprTree.{ExprTree}
use Rattle.c_values.specs.declared.kinds.Kind.{Kind}
use Rattle.c_parse.specs.declared.expr.Ident.{Ident}
use Rattle.c_parse.specs.declared.statement.CaseLabel.{CaseLabel}
use Rattle.c_parse.specs.declared.statement.Declarator.{Declarator}
use Rattle.c_parse.specs.declared.statement.Initial.{Initial}
use Rattle.c_parse.specs.declared.unit.Parameter.{Parameter}
use Rattle.c_parse.specs.Types.{kind_of}
use Rattle.c_parse.specs.Grammar.{Text, end, word}
use Rattle.c_parse.specs.Declarations.{DerivesType, a_type, DerivesDeclarator, a_declarator}
use Rattle.c_parse.specs.Statements.{DerivesLabel, a_case, a_default}
use Rattle.c_parse.specs.Items.{DerivesParameter, a_parameter, DerivesConstant, plain_constant, with_value}
use Rattle.c_parse.specs.Reading.{tail, type_at, operand_at, level_by, expr_in}
use Rattle.c_parse.specs.ReadingStatements.{choice_in, name_at, bracketed_at, first_at, past_consts, declarator_at, label_at, test_at}
use Rattle.c_parse.specs.ReadingItems.{by_name, parameter_at, constant_at}
use Rattle.c_parse.proofs.Firsts.{some_first}
use Rattle.c_parse.proofs.Takes.{length-parts, DerivesAt, operand_takes, level_takes, expr_in_takes}
use Rattle.c_parse.proofs.TakesStatements.{choice_in_takes, declarator_takes, label_takes, test_takes, bracketed_takes, first_takes, derives_type, consts_take}
use Rattle.c_parse.proofs.TakesItems.{parameter_takes, constant_takes, named_takes}
use Rattle.c_parse.proofs.Again.{Begins, Derives_begins, Choice_begins}

-- there are fewer tokens behind a front of some
pub fewer : (ts front rest : List Terminal) → ts ≡ front ++ rest → 0 < length front → length rest < length ts
fewer ts front rest parts some = omega (arith, ap length parts, length-append front rest)

expression_begins : (k : ℕ) (t : ExprTree) (ts : List Terminal) → DerivesAt k t ts → Begins ts
expression_begins zero t ts d = Choice_begins d
expression_begins (suc k) t ts d = Derives_begins d

pub expression_fewer : (k : ℕ) (ts rest : List Terminal) (t : ExprTree) → expr_in k ts ≡ Some (t, rest) → length rest < length ts
expression_fewer k ts rest t e =
    let h = expr_in_takes k ts in
    let d = rw e at h in
    fewer ts d.0.front rest d.0.parts (some_first d.0.front (expression_begins k t d.0.front d.0.fact))

pub operand_fewer : (ts rest : List Terminal) (t : ExprTree) → operand_at expr_in ts ≡ Some (t, rest) → length rest < length ts
operand_fewer ts rest t e =
    let h = operand_takes expr_in expr_in_takes ts in
    let d = rw e at h in
    fewer ts d.front rest d.parts (some_first d.front (Derives_begins (d.fact 0)))

pub level_fewer : (k : ℕ) (ts rest : List Terminal) (t : ExprTree) → level_by expr_in k ts ≡ Some (t, rest) → length rest < length ts
level_fewer k ts rest t e =
    let h = level_takes expr_in expr_in_takes k ts in
    let d = rw e at h in
    fewer ts d.0.front rest d.0.parts (some_first d.0.front (Derives_begins d.0.fact.0))

-- ---- forms of declarations

pub choice_fewer : (ts rest : List Terminal) (y : ExprTree) → choice_in ts ≡ Some (y, rest) → length rest < length ts
choice_fewer ts rest y e =
    let h = choice_in_takes ts in
    let d = rw e at h in
    fewer ts d.front rest d.parts (some_first d.front (Choice_begins d.fact))

pub declarator_fewer : (ts rest : List Terminal) (y : Declarator) → declarator_at ts ≡ Some (y, rest) → length rest < length ts
declarator_fewer ts rest y e =
    let h = declarator_takes ts in
    let d = rw e at h in
    fewer ts d.front rest d.parts (some d.fact)
  where
    some : {y : Declarator} {us : List Terminal} → DerivesDeclarator y us → 0 < length us
    some (a_declarator b f) = omega arith

type_some : {kind : Kind} {us : List Terminal} → DerivesType kind us → 0 < length us
unfolding kind_of
type_some (a_type end k) = absurd cc
type_some (a_type (word p w) k) = omega arith

pub parameter_fewer : (ts rest : List Terminal) (y : Parameter) → parameter_at ts ≡ Some (y, rest) → length rest < length ts
parameter_fewer ts rest y e =
    let h = parameter_takes ts in
    let d = rw e at h in
    fewer ts d.front rest d.parts (some d.fact)
  where
    some : {y : Parameter} {us : List Terminal} → DerivesParameter y us → 0 < length us
    some (a_parameter {consts = consts} {type = type} {ts = us} c t n) = omega (arith, type_some t, length-append consts (type ++ us), length-append type us)

pub constant_fewer : (ts rest : List Terminal) (y : Ident × Option ExprTree) → constant_at ts ≡ Some (y, rest) → length rest < length ts
constant_fewer ts rest y e =
    let h = constant_takes ts in
    let d = rw e at h in
    fewer ts d.front rest d.parts (some d.fact)
  where
    some : {y : Ident × Option ExprTree} {us : List Terminal} → DerivesConstant y us → 0 < length us
    some plain_constant = omega arith
    some (with_value q d) = omega arith

pub label_fewer : (ts rest : List Terminal) (l : CaseLabel) → label_at ts ≡ Some (l, rest) → length rest < length ts
label_fewer ts rest l e =
    let h = label_takes ts in
    let d = rw e at h in
    fewer ts d.front rest d.parts (some d.fact)
  where
    some : {y : CaseLabel} {us : List Terminal} → DerivesLabel y us → 0 < length us
    some (a_case p q d) = omega arith
    some (a_default p q) = omega arith

-- ---- tests

pub test_less : (ts : List Terminal) → IfSome (test_at ts) (λ x. length x.1 + 1 ≤ length ts)
test_less ts = IfSome_then (test_at ts) (test_takes ts) (λ x d. let n = simp length-append at (ap length d.parts) in omega arith)

pub test_fewer : (ts rest : List Terminal) (c : ExprTree) → test_at ts ≡ Some (c, rest) → length rest < length ts
test_fewer ts rest c e = let h = test_less ts in omega (arith, rw e at h)

-- ---- what a form is read by

pub name_there : (ts : List Terminal) (w : Text) → name_at ts ≡ Some w → length (tail ts) < length ts
name_there [] w e = absurd cc
name_there (t ∷ ts) w e = omega arith

pub bracketed_most : (ts rest : List Terminal) (o : Option ExprTree) → bracketed_at ts ≡ Some (o, rest) → length rest ≤ length ts
bracketed_most ts rest o e = let h = bracketed_takes ts in let d = rw e at h in length-parts ts d.front rest d.parts

pub first_most : (ts rest : List Terminal) (o : Option Initial) → first_at ts ≡ Some (o, rest) → length rest ≤ length ts
first_most ts rest o e = let h = first_takes ts in let d = rw e at h in length-parts ts d.front rest d.parts

pub named_most : (ts rest : List Terminal) (n : Option Ident × Option ExprTree) → by_name (name_at ts) ts ≡ Some (n, rest) → length rest ≤ length ts
named_most ts rest n e = let h = named_takes ts in let d = rw e at h in length-parts ts d.front rest d.parts

pub type_fewer : (ts rest : List Terminal) (kind : Kind) → type_at (past_consts ts) ≡ Some (kind, rest) → length rest < length ts
type_fewer ts rest kind e =
    let h = derives_type (past_consts ts) in
    let d = rw e at h in
    let c = consts_take ts in
    omega (arith, fewer (past_consts ts) d.front rest d.parts (type_some d.fact), length-parts ts c.front (past_consts ts) c.parts)
