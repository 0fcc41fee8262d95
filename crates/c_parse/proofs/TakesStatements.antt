-- What is read as a declaration or a statement derives from the tokens that were taken.
use Rattle.std.proofs.Common.{◌≡◌, ℕ, zero, suc, Bool, true, false, List, [], ◌∷◌, ◌++◌, length, Option, Some, None, refl, sym, ap, subst, ◌∙◌, append_assoc}
use Rattle.std.specs.Prelude.{IfSome, ◌&&◌, ◌||◌}
use Rattle.std.proofs.lemmas.List.{append-nil}
use Rattle.std.proofs.lemmas.Option.{IfSome_then}
use Rattle.fq_core.specs.declared.span.Span.{Span}
use Rattle.c_values.specs.declared.kinds.Kind.{Kind}
use Rattle.c_values.specs.declared.operators.BinaryOp.{BinaryOp}
use Rattle.c_parse.specs.declared.sign.Terminal.{Terminal}
use Rattle.c_parse.specs.declared.sign.Sign.{Sign}
use Rattle.c_parse.specs.declared.sign.Sign.TheVariants as sign
use Rattle.c_parse.specs.declared.sign.Symbol.{Symbol}
use Rattle.c_parse.specs.declared.sign.Symbol.TheVariants as symbols
use Rattle.c_parse.specs.declared.expr.ExprTree.{ExprTree}
use Rattle.c_parse.specs.declared.statement.PlaceTree.{PlaceTree}
use Rattle.c_parse.specs.declared.statement.Group.{Group}
use Rattle.c_parse.specs.declared.statement.Statement.{Statement}
use Rattle.c_parse.specs.Types.{kind_of}
use Rattle.c_parse.specs.declared.statement.Form.TheVariants as form
use Rattle.c_parse.specs.StatementTrees.{statement, place_tree, assigned_by, step_by}
use Rattle.c_parse.specs.Grammar.{Text, symbol, name_token, first_span, end, word, DerivesChoice}
use Rattle.c_parse.specs.Separated.{DerivesSeparated, the_only, the_only_with_comma, and_others}
use Rattle.c_parse.specs.Declarations.{DerivesType, a_type, DerivesBracketed, no_bracket, in_brackets, DerivesFirst, no_first, one_first, some_first, DerivesDeclarator, a_declarator, DerivesDeclarators}
use Rattle.c_parse.specs.Statements.{NoIf, AreConsts, no_const, a_const, DerivesPlace, a_place, DerivesSimple, an_assignment, a_step_after, a_step_before, a_bare_run, a_run, DerivesLocal, a_local, DerivesOptional, no_choice, some_choice, DerivesBegin, begins_not, begins_simple, begins_local, DerivesNext, no_next, a_next, DerivesLabel, a_case, a_default, DerivesLabels, last_label, more_labels, DerivesStatement, a_block, an_empty, a_simple, a_label, an_if, a_while, a_do, a_for, a_switch, a_break, a_continue, a_return, an_assert, an_assume, DerivesBody, no_more, local_then, statement_then, DerivesArms, an_arm, no_else, an_else, else_if, DerivesGroups, no_group, a_group}
use Rattle.c_parse.specs.Reading.{Read, ◌>>=◌, is_symbol, starts, tail, expect, type_at, arguments_at, expr_in}
use Rattle.c_parse.specs.ReadingStatements.{choice_in, separated_at, name_of, name_at, bracketed_at, first_at, declarator_at, declarators_at, past_consts, starts_local, local_at, symbol_of, symbol_at, changed_by, changed_at, named_at, stepped_at, simple_of, simple_at, test_at, optional_at, begin_at, next_at, starts_label, label_at, labels_at, Reads, one_at, ends_body, body_at, groups_at, arms_at, do_at, for_at, switch_at, return_at, assert_at, assume_at, statement_of_symbol, labelled_at, statement_of, statement_by, statement_at, statement_in}
use Rattle.c_parse.proofs.Steps.{then_some, either_some, starts-true, expect_takes}
use Rattle.c_parse.proofs.Takes.{Takes, expr_in_takes, arguments_take, type_takes}

pub choice_in_takes : (ts : List Terminal) → IfSome (choice_in ts) (λ x. Takes (λ us. DerivesChoice x.0 us) ts x.1)
unfolding choice_in
choice_in_takes ts = IfSome_then (expr_in 0 ts) (expr_in_takes 0 ts) (λ x d. d.0)

-- both tests pass
both-true : (a b : Bool) → (a && b) ≡ true → (a ≡ true) × (b ≡ true)
both-true true b e = (refl, e)
both-true false b e = absurd cc

pub separated_takes : {Y : Type 0} (One : Y → List Terminal → Type 0) (one : List Terminal → Read Y) (comma : Bool) (last : Symbol) → ((ts : List Terminal) → IfSome (one ts) (λ x. Takes (λ us. One x.0 us) ts x.1))
    → (n : ℕ) (ts : List Terminal) → IfSome (separated_at one comma last n ts) (λ x. Takes (λ us. DerivesSeparated One comma last x.0 us) ts x.1)
unfolding separated_at
separated_takes One one comma last sound zero ts = tt
separated_takes One one comma last sound (suc n) ts =
    then_some (one ts) _ _ (sound ts) (λ y d.
    either_some (starts symbols.Comma y.1) _ _ _
    (λ e. let a = starts-true symbols.Comma y.1 e in
    either_some (comma && starts last (tail y.1)) _ _ _
    (λ f. let b = both-true comma (starts last (tail y.1)) f in let c = starts-true last (tail y.1) b.1 in
    record { front = d.front ++ symbol symbols.Comma a.0 ∷ symbol last c.0 ∷ []; parts = simp append_assoc cc; fact = the_only_with_comma a.0 c.0 b.0 d.fact })
    (λ _. then_some (separated_at one comma last n (tail y.1)) _ _ (separated_takes One one comma last sound n (tail y.1)) (λ ys h.
    record { front = d.front ++ symbol symbols.Comma a.0 ∷ h.front; parts = simp append_assoc cc; fact = and_others a.0 d.fact h.fact })))
    (λ _. then_some (expect last y.1) _ _ (expect_takes last y.1) (λ rest e.
    record { front = d.front ++ symbol last e.0 ∷ []; parts = simp append_assoc cc; fact = the_only e.0 d.fact })))

pub bracketed_takes : (ts : List Terminal) → IfSome (bracketed_at ts) (λ x. Takes (λ us. DerivesBracketed x.0 us) ts x.1)
unfolding bracketed_at
bracketed_takes ts =
    either_some (starts symbols.OpenIndex ts) _ _ _
    (λ e. let a = starts-true symbols.OpenIndex ts e in
    then_some (choice_in (tail ts)) _ _ (choice_in_takes (tail ts)) (λ x d.
    then_some (expect symbols.CloseIndex x.1) _ _ (expect_takes symbols.CloseIndex x.1) (λ rest f.
    record { front = _; parts = simp append_assoc cc; fact = in_brackets a.0 f.0 d.fact })))
    (λ _. record { front = []; parts = refl; fact = no_bracket })

pub first_takes : (ts : List Terminal) → IfSome (first_at ts) (λ x. Takes (λ us. DerivesFirst x.0 us) ts x.1)
unfolding first_at
first_takes ts =
    either_some (starts symbols.Assign ts) _ _ _
    (λ e. let a = starts-true symbols.Assign ts e in
    either_some (starts symbols.OpenBrace (tail ts)) _ _ _
    (λ f. let b = starts-true symbols.OpenBrace (tail ts) f in
    then_some (separated_at choice_in true symbols.CloseBrace (length (tail (tail ts))) (tail (tail ts))) _ _ (separated_takes DerivesChoice choice_in true symbols.CloseBrace choice_in_takes (length (tail (tail ts))) (tail (tail ts))) (λ es d.
    record { front = _; parts = cc; fact = some_first a.0 b.0 d.fact }))
    (λ _. then_some (choice_in (tail ts)) _ _ (choice_in_takes (tail ts)) (λ t d.
    record { front = _; parts = cc; fact = one_first a.0 d.fact })))
    (λ _. record { front = []; parts = refl; fact = no_first })

-- the name in front
pub name_takes : (ts : List Terminal) → IfSome (name_at ts) (λ w. ts ≡ name_token w (first_span ts) ∷ tail ts)
name_takes [] = tt
name_takes (t ∷ ts) = at t.sign t.span
  where
    at : (s : Sign) (p : Span) → IfSome (name_of s) (λ w. (let u : Terminal = record { sign = s; span = p } in u ∷ ts) ≡ name_token w p ∷ ts)
    at (sign.Name w) p = refl
    at (sign.Symbol m) p = tt
    at (sign.Number n k) p = tt
    at (sign.Type w) p = tt
    at sign.Foreign p = tt
    at sign.Unknown p = tt

pub declarator_takes : (ts : List Terminal) → IfSome (declarator_at ts) (λ x. Takes (λ us. DerivesDeclarator x.0 us) ts x.1)
unfolding declarator_at
declarator_takes ts =
    then_some (name_at ts) _ _ (name_takes ts) (λ w e.
    then_some (bracketed_at (tail ts)) _ _ (bracketed_takes (tail ts)) (λ l d.
    then_some (first_at l.1) _ _ (first_takes l.1) (λ f g.
    record { front = name_token w (first_span ts) ∷ (d.front ++ g.front); parts = simp append_assoc cc; fact = a_declarator d.fact g.fact })))

pub declarators_take : (ts : List Terminal) → IfSome (declarators_at ts) (λ x. Takes (λ us. DerivesDeclarators x.0 us) ts x.1)
declarators_take ts = separated_takes DerivesDeclarator declarator_at false symbols.Semicolon declarator_takes (length ts) ts

-- the words `const` in front
pub consts_take : (ts : List Terminal) → Takes AreConsts ts (past_consts ts)
consts_take [] = record { front = []; parts = refl; fact = no_const }
consts_take (t ∷ ts) = at (is_symbol symbols.Const t.sign) refl (consts_take ts)
  where
    at : (b : Bool) → is_symbol symbols.Const t.sign ≡ b → Takes AreConsts ts (past_consts ts) → Takes AreConsts (t ∷ ts) (past_consts (t ∷ ts))
    at true e d = let a = starts-true symbols.Const (t ∷ ts) e in rw e (record { front = symbol symbols.Const a.0 ∷ d.front; parts = (let h = a.1 in cc); fact = a_const a.0 d.fact })
    at false e d = rw e (record { front = []; parts = refl; fact = no_const })

pub derives_type : (ts : List Terminal) → IfSome (type_at ts) (λ x. Takes (λ us. DerivesType x.0 us) ts x.1)
derives_type ts = IfSome_then (type_at ts) (type_takes ts) (λ x d. record { front = d.1.front; parts = d.1.parts; fact = a_type d.1.fact.0 d.1.fact.1 })

-- a type has a first token
pub type_first : {kind : Kind} {ts : List Terminal} → DerivesType kind ts → (us vs : List Terminal) → first_span (us ++ (ts ++ vs)) ≡ first_span (us ++ ts)
unfolding kind_of
type_first d (u ∷ us) vs = refl
type_first (a_type end k) [] vs = absurd cc
type_first (a_type (word p w) k) [] vs = refl

pub local_takes : (ts : List Terminal) → IfSome (local_at ts) (λ x. Takes (λ us. DerivesLocal x.0 us) ts x.1)
unfolding local_at
local_takes ts =
    let c = consts_take ts in
    then_some (type_at (past_consts ts)) _ _ (derives_type (past_consts ts)) (λ kind d.
    then_some (declarators_at kind.1) _ _ (declarators_take kind.1) (λ ds g.
    let span_is : first_span ts ≡ first_span (c.front ++ d.front) = ap first_span (c.parts ∙ ap (λ us. c.front ++ us) d.parts) ∙ type_first d.fact c.front kind.1 in
    rw span_is (record { front = c.front ++ (d.front ++ g.front); parts = simp append_assoc cc; fact = a_local c.fact d.fact g.fact })))

-- ---- simple statements

symbol_takes : (ts : List Terminal) → IfSome (symbol_at ts) (λ m. (p : Span) × (ts ≡ symbol m p ∷ tail ts))
symbol_takes [] = tt
symbol_takes (t ∷ ts) = at t.sign t.span
  where
    at : (s : Sign) (p : Span) → IfSome (symbol_of s) (λ m. (q : Span) × ((let u : Terminal = record { sign = s; span = p } in u ∷ ts) ≡ symbol m q ∷ ts))
    at (sign.Symbol m) p = (p, refl)
    at (sign.Name w) p = tt
    at (sign.Number n k) p = tt
    at (sign.Type w) p = tt
    at sign.Foreign p = tt
    at sign.Unknown p = tt

changed_take : (o : Option Bool) (how : Option (Option BinaryOp)) (to : PlaceTree) (m : Symbol) (q : Span) (us ts : List Terminal) → DerivesPlace to us → step_by m ≡ o → assigned_by m ≡ how
    → IfSome (changed_by o how (first_span us) to ts) (λ x. Takes (λ vs. DerivesSimple x.0 vs) (us ++ symbol m q ∷ ts) x.1)
changed_take (Some up) how to m q us ts d e f = record { front = us ++ symbol m q ∷ []; parts = simp append_assoc refl; fact = a_step_after m q d e }
changed_take None (Some op) to m q us ts d e f =
    then_some (choice_in ts) _ _ (choice_in_takes ts) (λ t g.
    record { front = us ++ symbol m q ∷ g.front; parts = simp append_assoc cc; fact = an_assignment m q d f g.fact })
changed_take None None to m q us ts d e f = tt

changed_takes : (to : PlaceTree) (us ts : List Terminal) → DerivesPlace to us → IfSome (changed_at (first_span us) to ts) (λ x. Takes (λ vs. DerivesSimple x.0 vs) (us ++ ts) x.1)
unfolding changed_at
changed_takes to us ts d =
    then_some (symbol_at ts) _ _ (symbol_takes ts) (λ m e.
    let same : us ++ ts ≡ us ++ symbol m e.0 ∷ tail ts = ap (λ vs. us ++ vs) e.1 in
    rw same (changed_take (step_by m) (assigned_by m) to m e.0 us (tail ts) d refl refl))

pub named_takes : (p : Span) (w : Text) (ts : List Terminal) → IfSome (named_at p w ts) (λ x. Takes (λ us. DerivesSimple x.0 us) (name_token w p ∷ ts) x.1)
unfolding named_at
named_takes p w ts =
    either_some (starts symbols.Open ts) _ _ _
    (λ e. let a = starts-true symbols.Open ts e in
    either_some (starts symbols.Close (tail ts)) _ _ _
    (λ f. let b = starts-true symbols.Close (tail ts) f in
    record { front = _; parts = cc; fact = a_bare_run {w = w} {p = p} a.0 b.0 })
    (λ _. then_some (arguments_at expr_in (length (tail ts)) (tail ts)) _ _ (arguments_take expr_in expr_in_takes (length (tail ts)) (tail ts)) (λ x d.
    record { front = _; parts = simp append_assoc cc; fact = a_run {w = w} {p = p} a.0 d.0 d.1.fact })))
    (λ _. then_some (bracketed_at ts) _ _ (bracketed_takes ts) (λ i d.
    let same : name_token w p ∷ ts ≡ (name_token w p ∷ d.front) ++ i.1 = ap (λ us. name_token w p ∷ us) d.parts in
    rw same (changed_takes (place_tree w p i.0) (name_token w p ∷ d.front) i.1 (a_place {w = w} {p = p} d.fact))))

pub stepped_takes : (p : Span) (m : Symbol) (ts : List Terminal) → IfSome (stepped_at p m ts) (λ x. Takes (λ us. DerivesSimple x.0 us) (symbol m p ∷ ts) x.1)
unfolding stepped_at
stepped_takes p m ts = at (step_by m) refl
  where
    at : (o : Option Bool) → step_by m ≡ o → IfSome {T = Statement × List Terminal} (o >>= λ up. name_at ts >>= λ w. bracketed_at (tail ts) >>= λ i. Some (statement p (form.Step (place_tree w (first_span ts) i.0) up), i.1)) (λ x. Takes (λ us. DerivesSimple x.0 us) (symbol m p ∷ ts) x.1)
    at None e = tt
    at (Some up) e =
        then_some (name_at ts) _ _ (name_takes ts) (λ w f.
        then_some (bracketed_at (tail ts)) _ _ (bracketed_takes (tail ts)) (λ i d.
        record { front = symbol m p ∷ name_token w (first_span ts) ∷ d.front; parts = cc; fact = a_step_before m p e (a_place d.fact) }))

simple_takes : (ts : List Terminal) → IfSome (simple_at ts) (λ x. Takes (λ us. DerivesSimple x.0 us) ts x.1)
unfolding simple_at
simple_takes [] = tt
simple_takes (t ∷ ts) = at t.sign t.span
  where
    at : (s : Sign) (p : Span) → IfSome (simple_of s p ts) (λ x. Takes (λ us. DerivesSimple x.0 us) (record { sign = s; span = p } ∷ ts) x.1)
    at (sign.Name w) p = named_takes p w ts
    at (sign.Symbol m) p = stepped_takes p m ts
    at (sign.Number n k) p = tt
    at (sign.Type w) p = tt
    at sign.Foreign p = tt
    at sign.Unknown p = tt

-- ---- the parts of statements

-- a test in parentheses
pub record Tests (c : ExprTree) (tokens rest : List Terminal) : Type 0 where
  pub p : Span
  pub q : Span
  pub front : List Terminal
  pub parts : tokens ≡ symbol symbols.Open p ∷ (front ++ symbol symbols.Close q ∷ rest)
  pub fact : DerivesChoice c front

pub test_takes : (ts : List Terminal) → IfSome (test_at ts) (λ x. Tests x.0 ts x.1)
unfolding test_at
test_takes ts =
    then_some (expect symbols.Open ts) _ _ (expect_takes symbols.Open ts) (λ a e.
    then_some (choice_in a) _ _ (choice_in_takes a) (λ c d.
    then_some (expect symbols.Close c.1) _ _ (expect_takes symbols.Close c.1) (λ b f.
    record { p = e.0; q = f.0; front = d.front; parts = cc; fact = d.fact })))

pub optional_takes : (ts : List Terminal) → IfSome (optional_at ts) (λ x. Takes (λ us. DerivesOptional x.0 us) ts x.1)
unfolding optional_at
optional_takes ts =
    either_some (starts symbols.Semicolon ts) _ _ _
    (λ _. record { front = []; parts = refl; fact = no_choice })
    (λ _. then_some (choice_in ts) _ _ (choice_in_takes ts) (λ t d. record { front = d.front; parts = d.parts; fact = some_choice d.fact }))

pub begin_takes : (ts : List Terminal) → IfSome (begin_at ts) (λ x. Takes (λ us. DerivesBegin x.0 us) ts x.1)
unfolding begin_at
begin_takes ts =
    either_some (starts symbols.Semicolon ts) _ _ _
    (λ e. let a = starts-true symbols.Semicolon ts e in record { front = symbol symbols.Semicolon a.0 ∷ []; parts = a.1; fact = begins_not a.0 })
    (λ _. either_some (starts_local ts) _ _ _
    (λ _. then_some (local_at ts) _ _ (local_takes ts) (λ s d. record { front = d.front; parts = d.parts; fact = begins_local d.fact }))
    (λ _. then_some (simple_at ts) _ _ (simple_takes ts) (λ s d.
    then_some (expect symbols.Semicolon s.1) _ _ (expect_takes symbols.Semicolon s.1) (λ rest e.
    record { front = d.front ++ symbol symbols.Semicolon e.0 ∷ []; parts = simp append_assoc cc; fact = begins_simple e.0 d.fact }))))

pub next_takes : (ts : List Terminal) → IfSome (next_at ts) (λ x. Takes (λ us. DerivesNext x.0 us) ts x.1)
unfolding next_at
next_takes ts =
    either_some (starts symbols.Close ts) _ _ _
    (λ _. record { front = []; parts = refl; fact = no_next })
    (λ _. then_some (simple_at ts) _ _ (simple_takes ts) (λ s d. record { front = d.front; parts = d.parts; fact = a_next d.fact }))

pub label_takes : (ts : List Terminal) → IfSome (label_at ts) (λ x. Takes (λ us. DerivesLabel x.0 us) ts x.1)
unfolding label_at
label_takes ts =
    either_some (starts symbols.Case ts) _ _ _
    (λ e. let a = starts-true symbols.Case ts e in let span_is : first_span ts ≡ a.0 = ap first_span a.1 in
    then_some (choice_in (tail ts)) _ _ (choice_in_takes (tail ts)) (λ t d.
    then_some (expect symbols.Colon t.1) _ _ (expect_takes symbols.Colon t.1) (λ rest f.
    rw span_is (record { front = symbol symbols.Case a.0 ∷ (d.front ++ symbol symbols.Colon f.0 ∷ []); parts = simp append_assoc cc; fact = a_case a.0 f.0 d.fact }))))
    (λ _. then_some (expect symbols.Default ts) _ _ (expect_takes symbols.Default ts) (λ a e.
    let span_is : first_span ts ≡ e.0 = ap first_span e.1 in
    then_some (expect symbols.Colon a) _ _ (expect_takes symbols.Colon a) (λ rest f.
    rw span_is (record { front = symbol symbols.Default e.0 ∷ symbol symbols.Colon f.0 ∷ []; parts = cc; fact = a_default e.0 f.0 }))))

-- what follows labels is no label
pub labels_take : (n : ℕ) (ts : List Terminal) → IfSome (labels_at n ts) (λ x. Takes (λ us. DerivesLabels x.0 us) ts x.1 × (starts_label x.1 ≡ false))
unfolding labels_at
labels_take zero ts = tt
labels_take (suc n) ts =
    then_some (label_at ts) _ _ (label_takes ts) (λ l d.
    either_some (starts_label l.1) _ _ _
    (λ _. then_some (labels_at n l.1) _ _ (labels_take n l.1) (λ ls ds.
    (record { front = d.front ++ ds.0.front; parts = (let h = ds.0.parts in simp append_assoc cc); fact = more_labels d.fact ds.0.fact }, ds.1)))
    (λ e. (record { front = d.front; parts = d.parts; fact = last_label d.fact }, e)))

-- an `else` that follows would be its own
abbrev pub Closed : Bool → List Terminal → Type 0
Closed opens rest = opens ≡ true → starts symbols.Else rest ≡ false

-- a statement was taken
abbrev pub TakesStatement : Statement → List Terminal → List Terminal → Type 0
TakesStatement s ts rest = (o : Bool) × Takes (λ us. DerivesStatement o s us) ts rest × Closed o rest

abbrev pub IsSoundHere : Reads → Type 0
IsSoundHere r = (ts : List Terminal) → IfSome (r ts) (λ x. TakesStatement x.0 ts x.1)

never_open : (rest : List Terminal) → Closed false rest
never_open rest opens = absurd cc

return_takes : (p : Span) (ts : List Terminal) → IfSome (return_at p ts) (λ x. TakesStatement x.0 (symbol symbols.Return p ∷ ts) x.1)
unfolding return_at
return_takes p ts =
    then_some (optional_at ts) _ _ (optional_takes ts) (λ t d.
    then_some (expect symbols.Semicolon t.1) _ _ (expect_takes symbols.Semicolon t.1) (λ rest e.
    (false, record { front = _; parts = simp append_assoc cc; fact = a_return {p = p} e.0 d.fact }, never_open rest)))

assert_takes : (p : Span) (ts : List Terminal) → IfSome (assert_at p ts) (λ x. TakesStatement x.0 (symbol symbols.Assert p ∷ ts) x.1)
unfolding assert_at
assert_takes p ts =
    then_some (test_at ts) _ _ (test_takes ts) (λ t d.
    then_some (expect symbols.Semicolon t.1) _ _ (expect_takes symbols.Semicolon t.1) (λ rest e.
    (false, record { front = _; parts = (let h = d.parts in simp append_assoc cc); fact = an_assert {p = p} d.p d.q e.0 d.fact }, never_open rest)))

assume_takes : (p : Span) (ts : List Terminal) → IfSome (assume_at p ts) (λ x. TakesStatement x.0 (symbol symbols.Assume p ∷ ts) x.1)
unfolding assume_at
assume_takes p ts =
    then_some (test_at ts) _ _ (test_takes ts) (λ t d.
    then_some (expect symbols.Semicolon t.1) _ _ (expect_takes symbols.Semicolon t.1) (λ rest e.
    (false, record { front = _; parts = (let h = d.parts in simp append_assoc cc); fact = an_assume {p = p} d.p d.q e.0 d.fact }, never_open rest)))

-- a simple statement with its semicolon
with_semicolon : (o : Read Statement) (all : List Terminal) → IfSome o (λ x. Takes (λ us. DerivesSimple x.0 us) all x.1)
    → IfSome (o >>= λ s. expect symbols.Semicolon s.1 >>= λ rest. let x : Statement × List Terminal = (s.0, rest) in Some x) (λ x. TakesStatement x.0 all x.1)
with_semicolon o all given =
    then_some o _ _ given (λ s d.
    then_some (expect symbols.Semicolon s.1) _ _ (expect_takes symbols.Semicolon s.1) (λ rest e.
    (false, record { front = d.front ++ symbol symbols.Semicolon e.0 ∷ []; parts = simp append_assoc cc; fact = a_simple e.0 d.fact }, never_open rest)))

-- groups were taken, and the closing brace behind them
record TakesGroups (gs : List Group) (tokens rest : List Terminal) : Type 0 where
  q : Span
  front : List Terminal
  parts : tokens ≡ front ++ symbol symbols.CloseBrace q ∷ rest
  fact : DerivesGroups gs front
  bare : starts symbols.CloseBrace tokens ≡ true → front ≡ []

-- a statement has a first token
pub record HasFirst (xs : List Terminal) : Type 0 where
  pub head : Terminal
  pub others : List Terminal
  pub is : xs ≡ head ∷ others

simple_first : {s : Statement} {xs : List Terminal} → DerivesSimple s xs → HasFirst xs
simple_first (an_assignment m q (a_place d) e t) = record { head = _; others = _; is = refl }
simple_first (a_step_after m q (a_place d) e) = record { head = _; others = _; is = refl }
simple_first (a_step_before m q e d) = record { head = _; others = _; is = refl }
simple_first (a_bare_run q r) = record { head = _; others = _; is = refl }
simple_first (a_run q r d) = record { head = _; others = _; is = refl }

first-append : {xs : List Terminal} → HasFirst xs → (ys : List Terminal) → HasFirst (xs ++ ys)
first-append h ys = record { head = h.head; others = h.others ++ ys; is = ap (λ us. us ++ ys) h.is }

pub statement_first : {o : Bool} {s : Statement} {xs : List Terminal} → DerivesStatement o s xs → HasFirst xs
statement_first (a_block q d) = record { head = _; others = _; is = refl }
statement_first an_empty = record { head = _; others = _; is = refl }
statement_first (a_simple q d) = first-append (simple_first d) _
statement_first (a_label q d) = record { head = _; others = _; is = refl }
statement_first (an_if d) = record { head = _; others = _; is = refl }
statement_first (a_while q r c d) = record { head = _; others = _; is = refl }
statement_first (a_do q r u v d c) = record { head = _; others = _; is = refl }
statement_first (a_for q r u a b c d) = record { head = _; others = _; is = refl }
statement_first (a_switch q r u v c d) = record { head = _; others = _; is = refl }
statement_first (a_break q) = record { head = _; others = _; is = refl }
statement_first (a_continue q) = record { head = _; others = _; is = refl }
statement_first (a_return q d) = record { head = _; others = _; is = refl }
statement_first (an_assert q r u d) = record { head = _; others = _; is = refl }
statement_first (an_assume q r u d) = record { head = _; others = _; is = refl }

-- what a statement begins with is what it and what follows begin with
pub no_if_front : (xs rest : List Terminal) → starts symbols.If (xs ++ rest) ≡ false → NoIf xs
no_if_front [] rest e = λ p us parts. absurd cc
no_if_front (x ∷ xs) rest e = λ p us parts.
    let same : x ≡ symbol symbols.If p = cc in
    let first : is_symbol symbols.If x.sign ≡ true = ap (λ (t : Terminal). is_symbol symbols.If t.sign) same in
    let wrong : true ≡ false = sym first ∙ e in
    absurd cc

-- a declaration or a statement was taken, and may stand before others
pub record TakesOne (s : Statement) (tokens rest : List Terminal) : Type 0 where
  pub front : List Terminal
  pub parts : tokens ≡ front ++ rest
  pub fact : (ss : List Statement) (us : List Terminal) → DerivesBody ss us → DerivesBody (s ∷ ss) (front ++ us)

module _ (r : Reads) (sound : IsSoundHere r) where
  pub one_takes : (ts : List Terminal) → IfSome (one_at r ts) (λ x. TakesOne x.0 ts x.1)
  one_takes ts =
      either_some (starts_local ts) _ _ _
      (λ _. IfSome_then (local_at ts) (local_takes ts) (λ s d. record { front = d.front; parts = d.parts; fact = λ ss us ds. local_then d.fact ds }))
      (λ _. IfSome_then (r ts) (sound ts) (λ s d. record { front = d.1.front; parts = d.1.parts; fact = λ ss us ds. statement_then d.1.fact ds }))

  pub body_take : (n : ℕ) (ts : List Terminal) → IfSome (body_at r n ts) (λ x. Takes (λ us. DerivesBody x.0 us) ts x.1 × (ends_body x.1 ≡ true))
  unfolding body_at
  body_take zero ts = tt
  body_take (suc n) ts =
      either_some (ends_body ts) _ _ _
      (λ e. (record { front = []; parts = refl; fact = no_more }, e))
      (λ _. then_some (one_at r ts) _ _ (one_takes ts) (λ s d.
      then_some (body_at r n s.1) _ _ (body_take n s.1) (λ ss ds.
      (record { front = d.front ++ ds.0.front; parts = (let h = ds.0.parts in simp append_assoc cc); fact = d.fact _ _ ds.0.fact }, ds.1))))

  -- behind a group without statements nothing but the closing brace may follow, since its labels were all that stand in a row
  no_label_ends : (ts : List Terminal) → starts_label ts ≡ false → ends_body ts ≡ true → starts symbols.CloseBrace ts ≡ true
  no_label_ends ts e f = at (starts symbols.CloseBrace ts) (starts_label ts) e f
    where
      at : (a b : Bool) → b ≡ false → (a || b) ≡ true → a ≡ true
      at true b e f = refl
      at false b e f = cc

  groups_take : (n : ℕ) (ts : List Terminal) → IfSome (groups_at r n ts) (λ x. TakesGroups x.0 ts x.1)
  unfolding groups_at
  groups_take zero ts = tt
  groups_take (suc n) ts =
      either_some (starts symbols.CloseBrace ts) _ _ _
      (λ e. let a = starts-true symbols.CloseBrace ts e in record { q = a.0; front = []; parts = a.1; fact = no_group; bare = λ _. refl })
      (λ e. then_some (labels_at (length ts) ts) _ _ (labels_take (length ts) ts) (λ ls d.
      then_some (body_at r (length ls.1) ls.1) _ _ (body_take (length ls.1) ls.1) (λ ss g.
      then_some (groups_at r n ss.1) _ _ (groups_take n ss.1) (λ gs h.
      record {
        q = h.q;
        front = d.0.front ++ (g.0.front ++ h.front);
        parts = (let a = d.0.parts in let b = g.0.parts in let c = h.parts in simp append_assoc cc);
        fact = a_group d.0.fact g.0.fact (λ nil. h.bare (no_label_ends ss.1 (subst (λ us. starts_label us ≡ false) (g.0.parts ∙ ap (λ us. us ++ ss.1) nil) d.1) g.1)) h.fact;
        bare = λ f. absurd cc;
      }))))

  arms_take : (n : ℕ) (ts : List Terminal) → IfSome (arms_at r n ts) (λ x. (o : Bool) × Takes (λ us. DerivesArms o x.0.0 x.0.1 us) ts x.1 × Closed o x.1)
  unfolding arms_at
  arms_take zero ts = tt
  arms_take (suc n) ts =
      then_some (test_at ts) _ _ (test_takes ts) (λ c d.
      then_some (r c.1) _ _ (sound c.1) (λ s g.
      either_some (starts symbols.Else s.1) _ _ _
      (λ e. let a = starts-true symbols.Else s.1 e in
      either_some (starts symbols.If (tail s.1)) _ _ _
      (λ f. let b = starts-true symbols.If (tail s.1) f in
      then_some (arms_at r n (tail (tail s.1))) _ _ (arms_take n (tail (tail s.1))) (λ x h.
      (h.0, record { front = _; parts = (let i = d.parts in let j = g.1.parts in let k = h.1.parts in simp append_assoc cc); fact = an_arm d.p d.q d.fact g.1.fact (λ opens. absurd (let h = g.2 opens in cc)) (else_if a.0 b.0 h.1.fact) }, h.2)))
      (λ f. then_some (r (tail s.1)) _ _ (sound (tail s.1)) (λ o h.
      (h.0, record { front = _; parts = (let i = d.parts in let j = g.1.parts in let k = h.1.parts in simp append_assoc cc); fact = an_arm d.p d.q d.fact g.1.fact (λ opens. absurd (let i = g.2 opens in cc)) (an_else a.0 (no_if_front h.1.front o.1 (rw (← h.1.parts) f)) h.1.fact) }, h.2))))
      (λ e. (true, record { front = _; parts = (let i = d.parts in let j = g.1.parts in simp (append_assoc, append-nil) cc); fact = an_arm d.p d.q d.fact g.1.fact (λ opens. refl) no_else }, λ opens. e))))

  labelled_takes : (p : Span) (w : Text) (ts : List Terminal) → IfSome (labelled_at r p w ts) (λ x. TakesStatement x.0 (name_token w p ∷ ts) x.1)
  unfolding labelled_at
  labelled_takes p w ts =
      either_some (starts symbols.Colon ts) _ _ _
      (λ e. let a = starts-true symbols.Colon ts e in
      then_some (r (tail ts)) _ _ (sound (tail ts)) (λ s d. (d.0, record { front = _; parts = (let b = d.1.parts in cc); fact = a_label {w = w} {p = p} a.0 d.1.fact }, d.2)))
      (λ _. with_semicolon (named_at p w ts) (name_token w p ∷ ts) (named_takes p w ts))

  do_takes : (p : Span) (ts : List Terminal) → IfSome (do_at r p ts) (λ x. TakesStatement x.0 (symbol symbols.Do p ∷ ts) x.1)
  unfolding do_at
  do_takes p ts =
      then_some (r ts) _ _ (sound ts) (λ s d.
      then_some (expect symbols.While s.1) _ _ (expect_takes symbols.While s.1) (λ a e.
      then_some (test_at a) _ _ (test_takes a) (λ c f.
      then_some (expect symbols.Semicolon c.1) _ _ (expect_takes symbols.Semicolon c.1) (λ rest g.
      (false, record { front = _; parts = (let b = d.1.parts in let h = f.parts in simp append_assoc cc); fact = a_do {p = p} e.0 f.p f.q g.0 d.1.fact f.fact }, never_open rest)))))

  for_takes : (p : Span) (ts : List Terminal) → IfSome (for_at r p ts) (λ x. TakesStatement x.0 (symbol symbols.For p ∷ ts) x.1)
  unfolding for_at
  for_takes p ts =
      then_some (expect symbols.Open ts) _ _ (expect_takes symbols.Open ts) (λ a e.
      then_some (begin_at a) _ _ (begin_takes a) (λ i d.
      then_some (optional_at i.1) _ _ (optional_takes i.1) (λ c f.
      then_some (expect symbols.Semicolon c.1) _ _ (expect_takes symbols.Semicolon c.1) (λ b g.
      then_some (next_at b) _ _ (next_takes b) (λ j h.
      then_some (expect symbols.Close j.1) _ _ (expect_takes symbols.Close j.1) (λ z k.
      then_some (r z) _ _ (sound z) (λ s m.
      (m.0, record { front = _; parts = (let l = m.1.parts in simp append_assoc cc); fact = a_for {p = p} e.0 g.0 k.0 d.fact f.fact h.fact m.1.fact }, m.2))))))))

  switch_takes : (p : Span) (ts : List Terminal) → IfSome (switch_at r p ts) (λ x. TakesStatement x.0 (symbol symbols.Switch p ∷ ts) x.1)
  unfolding switch_at
  switch_takes p ts =
      then_some (test_at ts) _ _ (test_takes ts) (λ c d.
      then_some (expect symbols.OpenBrace c.1) _ _ (expect_takes symbols.OpenBrace c.1) (λ a e.
      then_some (groups_at r (length a) a) _ _ (groups_take (length a) a) (λ gs g.
      (false, record { front = _; parts = (let b = d.parts in let h = g.parts in simp append_assoc cc); fact = a_switch {p = p} d.p d.q e.0 g.q d.fact g.fact }, never_open gs.1))))

  pub of_symbol_takes : (m : Symbol) (p : Span) (ts : List Terminal) → IfSome (statement_of_symbol r m p ts) (λ x. TakesStatement x.0 (symbol m p ∷ ts) x.1)
  of_symbol_takes symbols.OpenBrace p ts =
      then_some (body_at r (length ts) ts) _ _ (body_take (length ts) ts) (λ ss d.
      then_some (expect symbols.CloseBrace ss.1) _ _ (expect_takes symbols.CloseBrace ss.1) (λ rest e.
      (false, record { front = _; parts = (let h = d.0.parts in simp append_assoc cc); fact = a_block {p = p} e.0 d.0.fact }, never_open rest)))
  of_symbol_takes symbols.Semicolon p ts = (false, record { front = _; parts = refl; fact = an_empty }, never_open ts)
  of_symbol_takes symbols.If p ts =
      then_some (arms_at r (length ts) ts) _ _ (arms_take (length ts) ts) (λ x d. (d.0, record { front = _; parts = (let h = d.1.parts in cc); fact = an_if {p = p} d.1.fact }, d.2))
  of_symbol_takes symbols.While p ts =
      then_some (test_at ts) _ _ (test_takes ts) (λ c d.
      then_some (r c.1) _ _ (sound c.1) (λ s g. (g.0, record { front = _; parts = (let h = d.parts in let i = g.1.parts in simp append_assoc cc); fact = a_while {p = p} d.p d.q d.fact g.1.fact }, g.2)))
  of_symbol_takes symbols.Do p ts = do_takes p ts
  of_symbol_takes symbols.For p ts = for_takes p ts
  of_symbol_takes symbols.Switch p ts = switch_takes p ts
  of_symbol_takes symbols.Break p ts =
      then_some (expect symbols.Semicolon ts) _ _ (expect_takes symbols.Semicolon ts) (λ rest e. (false, record { front = _; parts = (let h = e.1 in cc); fact = a_break {p = p} e.0 }, never_open rest))
  of_symbol_takes symbols.Continue p ts =
      then_some (expect symbols.Semicolon ts) _ _ (expect_takes symbols.Semicolon ts) (λ rest e. (false, record { front = _; parts = (let h = e.1 in cc); fact = a_continue {p = p} e.0 }, never_open rest))
  of_symbol_takes symbols.Return p ts = return_takes p ts
  of_symbol_takes symbols.Assert p ts = assert_takes p ts
  of_symbol_takes symbols.Assume p ts = assume_takes p ts
  of_symbol_takes m p ts = with_semicolon (stepped_at p m ts) (symbol m p ∷ ts) (stepped_takes p m ts)

  of_sign_takes : (s : Sign) (p : Span) (ts : List Terminal) → IfSome (statement_of r s p ts) (λ x. TakesStatement x.0 (record { sign = s; span = p } ∷ ts) x.1)
  of_sign_takes (sign.Symbol m) p ts = of_symbol_takes m p ts
  of_sign_takes (sign.Name w) p ts = labelled_takes p w ts
  of_sign_takes (sign.Number n k) p ts = tt
  of_sign_takes (sign.Type w) p ts = tt
  of_sign_takes sign.Foreign p ts = tt
  of_sign_takes sign.Unknown p ts = tt

pub statement_takes : (n : ℕ) → IsSoundHere (statement_at n)
unfolding statement_at statement_by
statement_takes zero ts = tt
statement_takes (suc n) [] = tt
statement_takes (suc n) (t ∷ ts) = of_sign_takes (statement_at n) (statement_takes n) t.sign t.span ts

pub statement_in_takes : IsSoundHere statement_in
unfolding statement_in
statement_in_takes ts = statement_takes (suc (length ts)) ts
