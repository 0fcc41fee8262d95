-- What is read as an item derives from the tokens that were taken.
use Rattle.std.proofs.Common.{◌≡◌, Bool, true, false, List, [], ◌∷◌, ◌++◌, length, Option, Some, None, refl, sym, ap, subst, ◌∙◌, append_assoc}
use Rattle.std.specs.Prelude.{IfSome}
use Rattle.std.proofs.lemmas.Option.{IfSome_then}
use Rattle.fq_core.specs.declared.span.Span.{Span}
use Rattle.c_values.specs.declared.kinds.Kind.{Kind}
use Rattle.c_parse.specs.declared.sign.Terminal.{Terminal}
use Rattle.c_parse.specs.declared.sign.Sign.{Sign}
use Rattle.c_parse.specs.declared.sign.Sign.TheVariants as sign
use Rattle.c_parse.specs.declared.sign.Symbol.{Symbol}
use Rattle.c_parse.specs.declared.sign.Symbol.TheVariants as symbols
use Rattle.c_parse.specs.StatementTrees.{ident}
use Rattle.c_parse.specs.Grammar.{Text, symbol, name_token, first_span}
use Rattle.c_parse.specs.Items.{ForFunction, static_function, extern_function, inline_function, const_function, ForVariable, static_variable, const_variable, AreAll, none_left, one_more_word, DerivesResult, nothing_given, a_kind, DerivesNamed, without_name, with_name, DerivesParameter, a_parameter, DerivesParameters, no_parameter, void_parameter, some_parameters, DerivesEnd, declared, defined, AreTag, no_tag, a_tag, DerivesConstant, plain_constant, with_value, DerivesItem, a_function, some_variables, some_constants}
use Rattle.c_parse.specs.Reading.{starts, tail, expect, type_at}
use Rattle.c_parse.specs.ReadingStatements.{choice_in, separated_at, name_at, bracketed_at, declarators_at, past_consts, body_at, statement_in}
use Rattle.c_parse.specs.ReadingItems.{is_shared, is_of_functions, is_before, past_before, for_variables, by_name, parameter_at, parameters_at, end_at, function_at, past_named, constant_at, enum_at, typed_at, void_at, item_at}
use Rattle.c_parse.proofs.Steps.{then_some, either_some, starts-true, expect_takes}
use Rattle.c_parse.proofs.Takes.{Takes}
use Rattle.c_parse.proofs.TakesStatements.{choice_in_takes, separated_takes, bracketed_takes, name_takes, declarators_take, consts_take, derives_type, type_first, body_take, statement_in_takes}

-- ---- the words in front

record IsWord (Fits : Symbol → Type 0) (s : Sign) : Type 0 where
  m : Symbol
  is : s ≡ sign.Symbol m
  fits : Fits m

before_word : (s : Sign) → is_before s ≡ true → IsWord ForFunction s
before_word (sign.Symbol symbols.Static) e = record { m = symbols.Static; is = refl; fits = static_function }
before_word (sign.Symbol symbols.Extern) e = record { m = symbols.Extern; is = refl; fits = extern_function }
before_word (sign.Symbol symbols.Inline) e = record { m = symbols.Inline; is = refl; fits = inline_function }
before_word (sign.Symbol symbols.Const) e = record { m = symbols.Const; is = refl; fits = const_function }
before_word _ e = absurd cc

variable_word : (s : Sign) → is_shared s ≡ true → IsWord ForVariable s × (is_before s ≡ true)
variable_word (sign.Symbol symbols.Static) e = (record { m = symbols.Static; is = refl; fits = static_variable }, refl)
variable_word (sign.Symbol symbols.Const) e = (record { m = symbols.Const; is = refl; fits = const_variable }, refl)
variable_word _ e = absurd cc

one_word : {Fits : Symbol → Type 0} (t : Terminal) (ts rest : List Terminal) → IsWord Fits t.sign → Takes (AreAll Fits) ts rest → Takes (AreAll Fits) (t ∷ ts) rest
one_word t ts rest w d =
    let same : t ≡ symbol w.m t.span = ap (λ (s : Sign). (let u : Terminal = record { sign = s; span = t.span } in u)) w.is in
    record { front = symbol w.m t.span ∷ d.front; parts = (let h = d.parts in cc); fact = one_more_word w.m t.span w.fits d.fact }

before_take : (ts : List Terminal) → Takes (AreAll ForFunction) ts (past_before ts)
before_take [] = record { front = []; parts = refl; fact = none_left }
before_take (t ∷ ts) = at (is_before t.sign) refl (before_take ts)
  where
    at : (b : Bool) → is_before t.sign ≡ b → Takes (AreAll ForFunction) ts (past_before ts) → Takes (AreAll ForFunction) (t ∷ ts) (past_before (t ∷ ts))
    at true e d = rw e (one_word t ts (past_before ts) (before_word t.sign e) d)
    at false e d = rw e (record { front = []; parts = refl; fact = none_left })

variables_take : (ts : List Terminal) → for_variables ts ≡ true → Takes (AreAll ForVariable) ts (past_before ts)
variables_take [] f = record { front = []; parts = refl; fact = none_left }
variables_take (t ∷ ts) f = at (is_shared t.sign) (is_of_functions t.sign) refl refl (λ g. variables_take ts g)
  where
    at : (a b : Bool) → is_shared t.sign ≡ a → is_of_functions t.sign ≡ b → (for_variables ts ≡ true → Takes (AreAll ForVariable) ts (past_before ts))
        → Takes (AreAll ForVariable) (t ∷ ts) (past_before (t ∷ ts))
    at true b e g more = let w = variable_word t.sign e in let h : for_variables ts ≡ true = rw e at f in rw w.1 (one_word t ts (past_before ts) w.0 (more h))
    at false false e g more = rw (e, g) (record { front = []; parts = refl; fact = none_left })
    at false true e g more = let h : false ≡ true = rw (e, g) at f in absurd cc

-- ---- parameters

pub named_takes : (ts : List Terminal) → IfSome (by_name (name_at ts) ts) (λ x. Takes (λ us. DerivesNamed x.0.0 x.0.1 us) ts x.1)
named_takes ts = at (name_at ts) (name_takes ts)
  where
    at : (o : Option Text) → IfSome o (λ w. ts ≡ name_token w (first_span ts) ∷ tail ts) → IfSome (by_name o ts) (λ x. Takes (λ us. DerivesNamed x.0.0 x.0.1 us) ts x.1)
    at None e = record { front = []; parts = refl; fact = without_name }
    at (Some w) e =
        then_some (bracketed_at (tail ts)) _ _ (bracketed_takes (tail ts)) (λ l d.
        record { front = name_token w (first_span ts) ∷ d.front; parts = cc; fact = with_name d.fact })

pub parameter_takes : (ts : List Terminal) → IfSome (parameter_at ts) (λ x. Takes (λ us. DerivesParameter x.0 us) ts x.1)
unfolding parameter_at
parameter_takes ts =
    let c = consts_take ts in
    then_some (type_at (past_consts ts)) _ _ (derives_type (past_consts ts)) (λ kind d.
    then_some (by_name (name_at kind.1) kind.1) _ _ (named_takes kind.1) (λ n g.
    let span_is : first_span ts ≡ first_span (c.front ++ d.front) = ap first_span (c.parts ∙ ap (λ us. c.front ++ us) d.parts) ∙ type_first d.fact c.front kind.1 in
    rw span_is (record { front = c.front ++ (d.front ++ g.front); parts = simp append_assoc cc; fact = a_parameter c.fact d.fact g.fact })))

parameters_take : (ts : List Terminal) → IfSome (parameters_at ts) (λ x. Takes (λ us. DerivesParameters x.0 us) ts x.1)
unfolding parameters_at
parameters_take ts =
    either_some (starts symbols.Close ts) _ _ _
    (λ e. let a = starts-true symbols.Close ts e in record { front = symbol symbols.Close a.0 ∷ []; parts = a.1; fact = no_parameter a.0 })
    (λ _. either_some (starts symbols.Void ts) _ _ _
    (λ e. let a = starts-true symbols.Void ts e in
    then_some (expect symbols.Close (tail ts)) _ _ (expect_takes symbols.Close (tail ts)) (λ rest b.
    record { front = symbol symbols.Void a.0 ∷ symbol symbols.Close b.0 ∷ []; parts = cc; fact = void_parameter a.0 b.0 }))
    (λ _. IfSome_then (separated_at parameter_at false symbols.Close (length ts) ts) (separated_takes DerivesParameter parameter_at false symbols.Close parameter_takes (length ts) ts) (λ x d.
    record { front = d.front; parts = d.parts; fact = some_parameters d.fact })))

-- ---- items

end_takes : (ts : List Terminal) → IfSome (end_at ts) (λ x. Takes (λ us. DerivesEnd x.0 us) ts x.1)
unfolding end_at
end_takes ts =
    either_some (starts symbols.Semicolon ts) _ _ _
    (λ e. let a = starts-true symbols.Semicolon ts e in record { front = symbol symbols.Semicolon a.0 ∷ []; parts = a.1; fact = declared a.0 })
    (λ _. then_some (expect symbols.OpenBrace ts) _ _ (expect_takes symbols.OpenBrace ts) (λ a e.
    then_some (body_at statement_in (length a) a) _ _ (body_take statement_in statement_in_takes (length a) a) (λ ss d.
    then_some (expect symbols.CloseBrace ss.1) _ _ (expect_takes symbols.CloseBrace ss.1) (λ rest f.
    let span_is : first_span ss.1 ≡ f.0 = ap first_span f.1 in
    rw span_is (record { front = symbol symbols.OpenBrace e.0 ∷ (d.0.front ++ symbol symbols.CloseBrace f.0 ∷ []); parts = (let h = d.0.parts in simp append_assoc cc); fact = defined e.0 f.0 d.0.fact })))))

function_takes : (all before type ts : List Terminal) (result : Option Kind) (w : Text) (q : Span) → all ≡ before ++ (type ++ name_token w q ∷ ts) → AreAll ForFunction before → DerivesResult result type → first_span all ≡ first_span (before ++ type)
    → IfSome (function_at (first_span all) result (ident w q) ts) (λ x. Takes (λ us. DerivesItem x.0 us) all x.1)
unfolding function_at
function_takes all before type ts result w q parts b r span_is =
    then_some (expect symbols.Open ts) _ _ (expect_takes symbols.Open ts) (λ a e.
    then_some (parameters_at a) _ _ (parameters_take a) (λ ps d.
    then_some (end_at ps.1) _ _ (end_takes ps.1) (λ o f.
    rw span_is (record { front = before ++ (type ++ name_token w q ∷ symbol symbols.Open e.0 ∷ (d.front ++ f.front)); parts = simp append_assoc cc; fact = a_function q e.0 b r d.fact f.fact }))))

pub constant_takes : (ts : List Terminal) → IfSome (constant_at ts) (λ x. Takes (λ us. DerivesConstant x.0 us) ts x.1)
unfolding constant_at
constant_takes ts =
    then_some (name_at ts) _ _ (name_takes ts) (λ w e.
    either_some (starts symbols.Assign (tail ts)) _ _ _
    (λ f. let a = starts-true symbols.Assign (tail ts) f in
    then_some (choice_in (tail (tail ts))) _ _ (choice_in_takes (tail (tail ts))) (λ t d.
    record { front = name_token w (first_span ts) ∷ symbol symbols.Assign a.0 ∷ d.front; parts = cc; fact = with_value a.0 d.fact }))
    (λ _. record { front = name_token w (first_span ts) ∷ []; parts = e; fact = plain_constant }))

tag_takes : (ts : List Terminal) → Takes AreTag ts (past_named (name_at ts) ts)
tag_takes ts = at (name_at ts) (name_takes ts)
  where
    at : (o : Option Text) → IfSome o (λ w. ts ≡ name_token w (first_span ts) ∷ tail ts) → Takes AreTag ts (past_named o ts)
    at None e = record { front = []; parts = refl; fact = no_tag }
    at (Some w) e = record { front = name_token w (first_span ts) ∷ []; parts = e; fact = a_tag }

enum_takes : (p : Span) (ts : List Terminal) → IfSome (enum_at p ts) (λ x. Takes (λ us. DerivesItem x.0 us) (symbol symbols.Enum p ∷ ts) x.1)
unfolding enum_at
enum_takes p ts =
    let t = tag_takes ts in
    then_some (expect symbols.OpenBrace (past_named (name_at ts) ts)) _ _ (expect_takes symbols.OpenBrace (past_named (name_at ts) ts)) (λ a e.
    then_some (separated_at constant_at true symbols.CloseBrace (length a) a) _ _ (separated_takes DerivesConstant constant_at true symbols.CloseBrace constant_takes (length a) a) (λ cs d.
    then_some (expect symbols.Semicolon cs.1) _ _ (expect_takes symbols.Semicolon cs.1) (λ rest f.
    record { front = symbol symbols.Enum p ∷ (t.front ++ symbol symbols.OpenBrace e.0 ∷ (d.front ++ symbol symbols.Semicolon f.0 ∷ [])); parts = simp append_assoc cc; fact = some_constants p e.0 f.0 t.fact d.fact })))

typed_takes : (all : List Terminal) → IfSome (typed_at all (past_before all)) (λ x. Takes (λ us. DerivesItem x.0 us) all x.1)
unfolding typed_at
typed_takes all =
    let b = before_take all in
    then_some (type_at (past_before all)) _ _ (derives_type (past_before all)) (λ kind d.
    then_some (name_at kind.1) _ _ (name_takes kind.1) (λ w e.
    either_some (starts symbols.Open (tail kind.1)) _ _ _
    (λ _. function_takes all b.front d.front (tail kind.1) (Some kind.0) w (first_span kind.1)
    (b.parts ∙ ap (λ us. b.front ++ us) (d.parts ∙ ap (λ us. d.front ++ us) e)) b.fact (a_kind d.fact)
    (ap first_span (b.parts ∙ ap (λ us. b.front ++ us) d.parts) ∙ type_first d.fact b.front kind.1))
    (λ _. either_some (for_variables all) _ _ _
    (λ f. let v = variables_take all f in
    then_some (declarators_at kind.1) _ _ (declarators_take kind.1) (λ ds g.
    let span_is : first_span all ≡ first_span (v.front ++ d.front) = ap first_span (v.parts ∙ ap (λ us. v.front ++ us) d.parts) ∙ type_first d.fact v.front kind.1 in
    rw span_is (record { front = v.front ++ (d.front ++ g.front); parts = simp append_assoc cc; fact = some_variables v.fact d.fact g.fact })))
    (λ _. tt))))

void_first : (us : List Terminal) (p : Span) (vs : List Terminal) → first_span (us ++ (symbol symbols.Void p ∷ vs)) ≡ first_span (us ++ symbol symbols.Void p ∷ [])
void_first [] p vs = refl
void_first (u ∷ us) p vs = refl

void_takes : (all : List Terminal) (p : Span) → past_before all ≡ symbol symbols.Void p ∷ tail (past_before all) → IfSome (void_at all (tail (past_before all))) (λ x. Takes (λ us. DerivesItem x.0 us) all x.1)
unfolding void_at
void_takes all p e =
    let b = before_take all in
    let rest : List Terminal = tail (past_before all) in
    let parts : all ≡ b.front ++ (symbol symbols.Void p ∷ rest) = b.parts ∙ ap (λ us. b.front ++ us) e in
    then_some (name_at rest) _ _ (name_takes rest) (λ w f.
    function_takes all b.front (symbol symbols.Void p ∷ []) (tail rest) None w (first_span rest)
    (parts ∙ ap (λ us. b.front ++ (symbol symbols.Void p ∷ us)) f) b.fact (nothing_given p) (ap first_span parts ∙ void_first b.front p rest))

pub item_takes : (ts : List Terminal) → IfSome (item_at ts) (λ x. Takes (λ us. DerivesItem x.0 us) ts x.1)
unfolding item_at
item_takes ts =
    either_some (starts symbols.Enum ts) _ _ _
    (λ e. let a = starts-true symbols.Enum ts e in let span_is : first_span ts ≡ a.0 = ap first_span a.1 in
    rw span_is (subst (λ us. IfSome (enum_at a.0 (tail ts)) (λ x. Takes (λ vs. DerivesItem x.0 vs) us x.1)) (sym a.1) (enum_takes a.0 (tail ts))))
    (λ _. either_some (starts symbols.Void (past_before ts)) _ _ _
    (λ e. let a = starts-true symbols.Void (past_before ts) e in void_takes ts a.0 a.1)
    (λ _. typed_takes ts))
