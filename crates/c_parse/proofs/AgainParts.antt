-- What derives as a declaration or a statement is read again.
use Rattle.std.proofs.Common.{◌≡◌, ℕ, zero, suc, ◌≤◌, ◌<◌, Bool, true, false, List, [], ◌∷◌, ◌++◌, length, Option, Some, None, refl, ◌∙◌, append_assoc, arith}
use Rattle.std.specs.Prelude.{◌&&◌}
use Rattle.std.proofs.lemmas.List.{length-append}
use Rattle.fq_core.specs.declared.span.Span.{Span}
use Rattle.c_values.specs.declared.kinds.Kind.{Kind}
use Rattle.c_values.specs.declared.operators.BinaryOp.{BinaryOp}
use Rattle.c_parse.specs.declared.sign.Terminal.{Terminal}
use Rattle.c_parse.specs.declared.sign.TypeWord.{TypeWord}
use Rattle.c_parse.specs.declared.sign.Sign.{Sign}
use Rattle.c_parse.specs.declared.sign.Sign.TheVariants as sign
use Rattle.c_parse.specs.declared.sign.Symbol.{Symbol}
use Rattle.c_parse.specs.declared.sign.Symbol.TheVariants as symbols
use Rattle.c_parse.specs.declared.expr.ExprTree.{ExprTree}
use Rattle.c_parse.specs.declared.statement.PlaceTree.{PlaceTree}
use Rattle.c_parse.specs.declared.statement.Initial.{Initial}
use Rattle.c_parse.specs.declared.statement.Declarator.{Declarator}
use Rattle.c_parse.specs.declared.statement.CaseLabel.{CaseLabel}
use Rattle.c_parse.specs.declared.statement.Statement.{Statement}
use Rattle.c_parse.specs.declared.statement.Form.TheVariants as form
use Rattle.c_parse.specs.Types.{kind_of}
use Rattle.c_parse.specs.StatementTrees.{statement, ident, place_tree, assigned_by, step_by}
use Rattle.c_parse.specs.Grammar.{Text, symbol, name_token, end, word, DerivesChoice, DerivesArguments}
use Rattle.c_parse.specs.Separated.{DerivesSeparated, the_only, the_only_with_comma, and_others}
use Rattle.c_parse.specs.Declarations.{DerivesType, a_type, DerivesBracketed, no_bracket, in_brackets, DerivesFirst, no_first, one_first, some_first, DerivesDeclarator, a_declarator, DerivesDeclarators}
use Rattle.c_parse.specs.Statements.{AreConsts, no_const, a_const, a_place, DerivesSimple, an_assignment, a_step_after, a_step_before, a_bare_run, a_run, DerivesLocal, a_local, DerivesOptional, no_choice, some_choice, DerivesBegin, begins_not, begins_simple, begins_local, DerivesNext, no_next, a_next, DerivesLabel, a_case, a_default, DerivesLabels, last_label, more_labels}
use Rattle.c_parse.specs.Reading.{expr_in, Read, is_symbol, is_type, starts, starts_type, infix_of, type_at}
use Rattle.c_parse.specs.ReadingStatements.{choice_in, separated_at, bracketed_at, first_at, declarator_at, declarators_at, past_consts, starts_local, local_at, changed_at, named_at, stepped_at, simple_at, test_at, optional_at, begin_at, next_at, starts_label, label_at, labels_at}
use Rattle.c_parse.proofs.Agree.{arguments_unbounded}
use Rattle.c_parse.proofs.Again.{Stays, Stays_symbol, choice_again, arguments_again, Choice_begins, Arguments_begin, type_again}
use Rattle.c_parse.proofs.Firsts.{BeginsBy, BeginsBy-append, not_first}
use Rattle.c_parse.proofs.TakesStatements.{type_first}

pub choice_in_again : {t : ExprTree} {xs : List Terminal} → DerivesChoice t xs → (rest : List Terminal) → Stays rest → choice_in (xs ++ rest) ≡ Some (t, rest)
unfolding choice_in expr_in
choice_in_again {t} {xs} d rest stays = choice_again d (suc (length (xs ++ rest))) rest (omega (arith, length-append xs rest)) stays

pub test_again : (p q : Span) (c : ExprTree) (xs rest : List Terminal) → DerivesChoice c xs → test_at (symbol symbols.Open p ∷ (xs ++ symbol symbols.Close q ∷ rest)) ≡ Some (c, rest)
unfolding test_at
test_again p q c xs rest d = let e = choice_in_again d (symbol symbols.Close q ∷ rest) (Stays_symbol _ _ _ refl refl refl refl) in rw e refl

-- ---- lists with commas

and-false : (b : Bool) → (b && false) ≡ false
and-false true = refl
and-false false = refl

-- a symbol after which a form is read again, as a comma and the closing symbol are
abbrev pub ReadAgain : {Y : Type 0} → (Y → List Terminal → Type 0) → (List Terminal → Read Y) → Symbol → Type 0
ReadAgain {Y} One one m = (y : Y) (xs : List Terminal) → One y xs → (q : Span) (rest : List Terminal) → one (xs ++ symbol m q ∷ rest) ≡ Some (y, symbol m q ∷ rest)

-- a form that does not begin with the closing symbol
abbrev pub BeginsNot : {Y : Type 0} → (Y → List Terminal → Type 0) → Symbol → Type 0
BeginsNot {Y} One last = (y : Y) (xs : List Terminal) → One y xs → (rest : List Terminal) → starts last (xs ++ rest) ≡ false

module _ {Y : Type 0} (One : Y → List Terminal → Type 0) (one : List Terminal → Read Y) (comma : Bool) (last : Symbol) (itself : is_symbol last (sign.Symbol last) ≡ true) (no_comma : is_symbol symbols.Comma (sign.Symbol last) ≡ false) where
  only_again : (n : ℕ) (q : Span) (y : Y) (ts rest : List Terminal) → 0 < n
      → one (ts ++ symbol last q ∷ rest) ≡ Some (y, symbol last q ∷ rest) → separated_at one comma last n (ts ++ symbol last q ∷ [] ++ rest) ≡ Some (y ∷ [], rest)
  unfolding separated_at
  only_again zero q y ts rest some e = absurd (omega arith)
  only_again (suc n) q y ts rest some e = rw (append_assoc, e, no_comma, itself) refl

  only_comma_again : (n : ℕ) (p q : Span) (y : Y) (ts rest : List Terminal) → 0 < n → comma ≡ true
      → one (ts ++ symbol symbols.Comma p ∷ symbol last q ∷ rest) ≡ Some (y, symbol symbols.Comma p ∷ symbol last q ∷ rest)
      → separated_at one comma last n (ts ++ symbol symbols.Comma p ∷ symbol last q ∷ [] ++ rest) ≡ Some (y ∷ [], rest)
  unfolding separated_at
  only_comma_again zero p q y ts rest some allowed e = absurd (omega arith)
  only_comma_again (suc n) p q y ts rest some allowed e = rw (append_assoc, e, allowed, itself) refl

  others_again : (n : ℕ) (q : Span) (y : Y) (ys : List Y) (ts us rest : List Terminal) → 0 < n → one (ts ++ symbol symbols.Comma q ∷ (us ++ rest)) ≡ Some (y, symbol symbols.Comma q ∷ (us ++ rest))
      → starts last (us ++ rest) ≡ false → ((k : ℕ) → suc k ≡ n → separated_at one comma last k (us ++ rest) ≡ Some (ys, rest)) → separated_at one comma last n (ts ++ symbol symbols.Comma q ∷ us ++ rest) ≡ Some (y ∷ ys, rest)
  unfolding separated_at
  others_again zero q y ys ts us rest some e g f = absurd (omega arith)
  others_again (suc n) q y ys ts us rest some e g f = rw (append_assoc, e, g, and-false comma, f n refl) refl

  module _ (by_comma : ReadAgain One one symbols.Comma) (by_close : ReadAgain One one last) (begins : BeginsNot One last) where
    pub separated_not : {ys : List Y} {xs : List Terminal} → DerivesSeparated One comma last ys xs → (rest : List Terminal) → starts last (xs ++ rest) ≡ false
    separated_not (the_only {ts = ts} q d) rest = rw append_assoc (begins _ ts d _)
    separated_not (the_only_with_comma {ts = ts} p q e d) rest = rw append_assoc (begins _ ts d _)
    separated_not (and_others {ts = ts} q d ds) rest = rw append_assoc (begins _ ts d _)

    pub separated_again : {ys : List Y} {xs : List Terminal} → DerivesSeparated One comma last ys xs → (n : ℕ) (rest : List Terminal) → length xs ≤ n → separated_at one comma last n (xs ++ rest) ≡ Some (ys, rest)
    separated_again (the_only {ts = ts} q d) n rest le = only_again n q _ ts rest (omega (arith, length-append {A = Terminal})) (by_close _ ts d q rest)
    separated_again (the_only_with_comma {ts = ts} p q e d) n rest le = only_comma_again n p q _ ts rest (omega (arith, length-append {A = Terminal})) e (by_comma _ ts d p (symbol last q ∷ rest))
    separated_again (and_others {ts = ts} {us = us} q d ds) n rest le =
        others_again n q _ _ ts us rest (omega (arith, length-append {A = Terminal})) (by_comma _ ts d q (us ++ rest)) (separated_not ds rest)
        (λ k e. separated_again ds k rest (omega (arith, length-append {A = Terminal})))

choice_by_symbol : (m : Symbol) → is_symbol symbols.OpenIndex (sign.Symbol m) ≡ false → is_symbol symbols.Open (sign.Symbol m) ≡ false → infix_of m ≡ None → is_symbol symbols.Question (sign.Symbol m) ≡ false
    → ReadAgain DerivesChoice choice_in m
choice_by_symbol m a b c d y xs given q rest = choice_in_again given (symbol m q ∷ rest) (Stays_symbol _ _ _ a b c d)

-- ---- declarations

pub bracketed_again : {i : Option ExprTree} {xs : List Terminal} → DerivesBracketed i xs → (rest : List Terminal) → starts symbols.OpenIndex rest ≡ false → bracketed_at (xs ++ rest) ≡ Some (i, rest)
unfolding bracketed_at
bracketed_again no_bracket rest e = rw e refl
bracketed_again (in_brackets {ts = ts} p q d) rest e = let f = choice_in_again d (symbol symbols.CloseIndex q ∷ rest) (Stays_symbol _ _ _ refl refl refl refl) in rw (append_assoc, f) refl

first_again : {f : Option Initial} {xs : List Terminal} → DerivesFirst f xs → (rest : List Terminal) → starts symbols.Assign rest ≡ false → Stays rest → first_at (xs ++ rest) ≡ Some (f, rest)
unfolding first_at
first_again no_first rest e stays = rw e refl
first_again (one_first {ts = ts} p d) rest e stays = rw (not_first symbols.OpenBrace refl ts rest (Choice_begins d), choice_in_again d rest stays) refl
first_again (some_first {ts = ts} p q ds) rest e stays =
    rw (separated_again DerivesChoice choice_in true symbols.CloseBrace refl refl (choice_by_symbol symbols.Comma refl refl refl refl) (choice_by_symbol symbols.CloseBrace refl refl refl refl) (λ y xs d rest. not_first symbols.CloseBrace refl xs rest (Choice_begins d)) ds (length (ts ++ rest)) rest (omega (arith, length-append ts rest))) refl

first_no_index : {f : Option Initial} {xs : List Terminal} → DerivesFirst f xs → (rest : List Terminal) → starts symbols.OpenIndex rest ≡ false → starts symbols.OpenIndex (xs ++ rest) ≡ false
first_no_index no_first rest e = e
first_no_index (one_first p d) rest e = refl
first_no_index (some_first p q ds) rest e = refl

declarator_again : {d : Declarator} {xs : List Terminal} → DerivesDeclarator d xs → (rest : List Terminal) → starts symbols.OpenIndex rest ≡ false → starts symbols.Assign rest ≡ false → Stays rest → declarator_at (xs ++ rest) ≡ Some (d, rest)
unfolding declarator_at
declarator_again (a_declarator {xs = xs} {ys = ys} i f) rest a b stays =
    rw (append_assoc, bracketed_again i (ys ++ rest) (first_no_index f rest a), first_again f rest b stays) refl

abbrev pub begins_name : Sign → Bool
begins_name (sign.Name w) = true
begins_name _ = false

declarator_begins : {d : Declarator} {xs : List Terminal} → DerivesDeclarator d xs → BeginsBy begins_name xs
declarator_begins (a_declarator i f) = record { head = _; others = _; is = refl; fits = refl }

pub declarators_begin : {ds : List Declarator} {xs : List Terminal} → DerivesDeclarators ds xs → BeginsBy begins_name xs
declarators_begin (the_only q d) = BeginsBy-append _ _ (declarator_begins d)
declarators_begin (the_only_with_comma p q e d) = BeginsBy-append _ _ (declarator_begins d)
declarators_begin (and_others q d ds) = BeginsBy-append _ _ (declarator_begins d)

pub declarators_again : {ds : List Declarator} {xs : List Terminal} → DerivesDeclarators ds xs → (rest : List Terminal) → declarators_at (xs ++ rest) ≡ Some (ds, rest)
declarators_again {ds} {xs} d rest =
    separated_again DerivesDeclarator declarator_at false symbols.Semicolon refl refl
    (λ y us g q r. declarator_again g (symbol symbols.Comma q ∷ r) refl refl (Stays_symbol _ _ _ refl refl refl refl))
    (λ y us g q r. declarator_again g (symbol symbols.Semicolon q ∷ r) refl refl (Stays_symbol _ _ _ refl refl refl refl))
    (λ y us g r. not_first symbols.Semicolon refl us r (declarator_begins g)) d (length (xs ++ rest)) rest (omega (arith, length-append xs rest))

pub consts_again : {cs : List Terminal} → AreConsts cs → (rest : List Terminal) → starts symbols.Const rest ≡ false → past_consts (cs ++ rest) ≡ rest
consts_again no_const [] e = refl
consts_again no_const (t ∷ ts) e = rw e refl
consts_again (a_const p d) rest e = consts_again d rest e

-- what begins so is no word of a type
pub no_type_first : {f : Sign → Bool} → ((w : TypeWord) → f (sign.Type w) ≡ false) → (xs ys : List Terminal) → BeginsBy f xs → starts_type (xs ++ ys) ≡ false
no_type_first {f} none xs ys b = rw b.is (at b.head.sign b.fits)
  where
    at : (s : Sign) → f s ≡ true → is_type s ≡ false
    at (sign.Type w) e = let g = none w in absurd cc
    at _ e = refl

pub type_at_again : {kind : Kind} {ts : List Terminal} → DerivesType kind ts → (rest : List Terminal) → starts_type rest ≡ false → type_at (ts ++ rest) ≡ Some (kind, rest)
type_at_again (a_type w k) rest e = type_again w k rest e

pub type_no_const : {kind : Kind} {ts : List Terminal} → DerivesType kind ts → (rest : List Terminal) → starts symbols.Const (ts ++ rest) ≡ false
unfolding kind_of
type_no_const (a_type end k) rest = absurd cc
type_no_const (a_type (word p w) k) rest = refl

pub local_again : {s : Statement} {xs : List Terminal} → DerivesLocal s xs → (rest : List Terminal) → local_at (xs ++ rest) ≡ Some (s, rest)
unfolding local_at
local_again (a_local {kind = kind} {ds = ds} {consts = cs} {type = type} {ts = ts} c t d) rest =
    let regroup : (cs ++ (type ++ ts)) ++ rest ≡ cs ++ (type ++ (ts ++ rest)) = simp append_assoc in
    rw (regroup, consts_again c (type ++ (ts ++ rest)) (type_no_const t (ts ++ rest)), type_at_again t (ts ++ rest) (no_type_first (λ w. refl) ts rest (declarators_begin d)), declarators_again d rest, type_first t cs (ts ++ rest)) refl

pub local_starts : {s : Statement} {xs : List Terminal} → DerivesLocal s xs → (rest : List Terminal) → starts_local (xs ++ rest) ≡ true
unfolding kind_of
local_starts (a_local (a_const p c) t d) rest = refl
local_starts (a_local no_const (a_type end k) d) rest = absurd cc
local_starts (a_local no_const (a_type (word p w) k) d) rest = refl

-- ---- simple statements

-- a symbol that changes a place goes on neither a name nor a label
record Changes (m : Symbol) : Type 0 where
  no_index : is_symbol symbols.OpenIndex (sign.Symbol m) ≡ false
  no_call : is_symbol symbols.Open (sign.Symbol m) ≡ false
  no_label : is_symbol symbols.Colon (sign.Symbol m) ≡ false

assigning_changes : (m : Symbol) (op : Option BinaryOp) → assigned_by m ≡ Some op → Changes m
assigning_changes symbols.OpenIndex op e = absurd cc
assigning_changes symbols.Open op e = absurd cc
assigning_changes symbols.Colon op e = absurd cc
assigning_changes _ op e = record { no_index = refl; no_call = refl; no_label = refl }

stepping_changes : (m : Symbol) (up : Bool) → step_by m ≡ Some up → Changes m
stepping_changes symbols.OpenIndex up e = absurd cc
stepping_changes symbols.Open up e = absurd cc
stepping_changes symbols.Colon up e = absurd cc
stepping_changes _ up e = record { no_index = refl; no_call = refl; no_label = refl }

assigns_no_step : (m : Symbol) (op : Option BinaryOp) → assigned_by m ≡ Some op → step_by m ≡ None
assigns_no_step symbols.Increment op e = absurd cc
assigns_no_step symbols.Decrement op e = absurd cc
assigns_no_step _ op e = refl

place_again : (p : Span) (w : Text) (i : Option ExprTree) (xs : List Terminal) (m : Symbol) (q : Span) (us : List Terminal) → DerivesBracketed i xs → Changes m
    → named_at p w (xs ++ symbol m q ∷ us) ≡ changed_at p (place_tree w p i) (symbol m q ∷ us)
unfolding named_at
place_again p w i xs m q us d c = rw (no_call d, bracketed_again d (symbol m q ∷ us) c.no_index) refl
  where
    no_call : {i : Option ExprTree} {xs : List Terminal} → DerivesBracketed i xs → starts symbols.Open (xs ++ symbol m q ∷ us) ≡ false
    no_call no_bracket = c.no_call
    no_call (in_brackets a b d) = refl

assigned_again : (p q : Span) (to : PlaceTree) (m : Symbol) (op : Option BinaryOp) (t : ExprTree) (ys rest : List Terminal) → assigned_by m ≡ Some op → DerivesChoice t ys → Stays rest
    → changed_at p to (symbol m q ∷ (ys ++ rest)) ≡ Some (statement p (form.Assign to op t), rest)
unfolding changed_at
assigned_again p q to m op t ys rest e d stays = rw (assigns_no_step m op e, e, choice_in_again d rest stays) refl

stepped_after_again : (p q : Span) (to : PlaceTree) (m : Symbol) (up : Bool) (rest : List Terminal) → step_by m ≡ Some up → changed_at p to (symbol m q ∷ rest) ≡ Some (statement p (form.Step to up), rest)
unfolding changed_at
stepped_after_again p q to m up rest e = rw e refl

stepped_before_again : (p q : Span) (w : Text) (i : Option ExprTree) (m : Symbol) (up : Bool) (xs rest : List Terminal) → step_by m ≡ Some up → DerivesBracketed i xs → starts symbols.OpenIndex rest ≡ false
    → stepped_at p m (name_token w q ∷ (xs ++ rest)) ≡ Some (statement p (form.Step (place_tree w q i) up), rest)
unfolding stepped_at
stepped_before_again p q w i m up xs rest e d ends = rw (e, bracketed_again d rest ends) refl

bare_run_again : (p q r : Span) (w : Text) (rest : List Terminal) → named_at p w (symbol symbols.Open q ∷ symbol symbols.Close r ∷ rest) ≡ Some (statement p (form.Call (ident w p) []), rest)
unfolding named_at
bare_run_again p q r w rest = refl

run_again : (p q r : Span) (w : Text) (args : List ExprTree) (ts rest : List Terminal) → DerivesArguments args ts
    → named_at p w (symbol symbols.Open q ∷ (ts ++ symbol symbols.Close r ∷ []) ++ rest) ≡ Some (statement p (form.Call (ident w p) args), rest)
unfolding named_at
run_again p q r w args ts rest d =
    let bare = not_first symbols.Close refl ts (symbol symbols.Close r ∷ rest) (Arguments_begin d) in
    let e = arguments_again d (suc (suc (length (ts ++ symbol symbols.Close r ∷ rest)))) (length (ts ++ symbol symbols.Close r ∷ rest)) r rest (omega (arith, length-append ts (symbol symbols.Close r ∷ rest))) (omega (arith, length-append ts (symbol symbols.Close r ∷ rest))) in
    let f = arguments_unbounded (suc (suc (length (ts ++ symbol symbols.Close r ∷ rest)))) (length (ts ++ symbol symbols.Close r ∷ rest)) (ts ++ symbol symbols.Close r ∷ rest) (omega arith) in
    rw (append_assoc, bare, ← f, e) refl

-- a simple statement begins with a name, or with the symbol of a step
pub data IsRead (s : Statement) (xs rest : List Terminal) : Type 0 where
  by_name : (p : Span) (w : Text) (us : List Terminal) → xs ++ rest ≡ name_token w p ∷ us → starts symbols.Colon us ≡ false → named_at p w us ≡ Some (s, rest) → IsRead s xs rest
  by_step : (p : Span) (m : Symbol) (up : Bool) (us : List Terminal) → xs ++ rest ≡ symbol m p ∷ us → step_by m ≡ Some up → stepped_at p m us ≡ Some (s, rest) → IsRead s xs rest

pub simple_is_read : {s : Statement} {xs : List Terminal} → DerivesSimple s xs → (rest : List Terminal) → Stays rest → starts symbols.OpenIndex rest ≡ false → IsRead s xs rest
simple_is_read (an_assignment {op = op} {t = t} {ys = ys} m q (a_place {w = w} {p = p} {index = i} {ts = ts} d) e g) rest stays ends =
    let c = assigning_changes m op e in
    by_name p w (ts ++ symbol m q ∷ (ys ++ rest)) (simp append_assoc refl) (no_label d c) (place_again p w i ts m q (ys ++ rest) d c ∙ assigned_again p q (place_tree w p i) m op t ys rest e g stays)
  where
    no_label : {i : Option ExprTree} {ts : List Terminal} → DerivesBracketed i ts → Changes m → starts symbols.Colon (ts ++ symbol m q ∷ (ys ++ rest)) ≡ false
    no_label no_bracket c = c.no_label
    no_label (in_brackets a b d) c = refl
simple_is_read (a_step_after {up = up} m q (a_place {w = w} {p = p} {index = i} {ts = ts} d) e) rest stays ends =
    let c = stepping_changes m up e in
    by_name p w (ts ++ symbol m q ∷ rest) (simp append_assoc refl) (no_label d c) (place_again p w i ts m q rest d c ∙ stepped_after_again p q (place_tree w p i) m up rest e)
  where
    no_label : {i : Option ExprTree} {ts : List Terminal} → DerivesBracketed i ts → Changes m → starts symbols.Colon (ts ++ symbol m q ∷ rest) ≡ false
    no_label no_bracket c = c.no_label
    no_label (in_brackets a b d) c = refl
simple_is_read (a_step_before {up = up} m q e (a_place {w = w} {p = p} {index = i} {ts = ts} d)) rest stays ends =
    by_step q m up (name_token w p ∷ (ts ++ rest)) refl e (stepped_before_again q p w i m up ts rest e d ends)
simple_is_read (a_bare_run {w = w} {p = p} q r) rest stays ends = by_name p w (symbol symbols.Open q ∷ symbol symbols.Close r ∷ rest) refl refl (bare_run_again p q r w rest)
simple_is_read (a_run {w = w} {p = p} {args = args} {ts = ts} q r d) rest stays ends = by_name p w (symbol symbols.Open q ∷ (ts ++ symbol symbols.Close r ∷ []) ++ rest) refl refl (run_again p q r w args ts rest d)

read_again : {s : Statement} {xs rest : List Terminal} → IsRead s xs rest → simple_at (xs ++ rest) ≡ Some (s, rest)
unfolding simple_at
read_again (by_name p w us parts no_label e) = rw parts e
read_again (by_step p m up us parts step e) = rw parts e

pub simple_again : {s : Statement} {xs : List Terminal} → DerivesSimple s xs → (rest : List Terminal) → Stays rest → starts symbols.OpenIndex rest ≡ false → simple_at (xs ++ rest) ≡ Some (s, rest)
simple_again d rest stays ends = read_again (simple_is_read d rest stays ends)

abbrev pub begins_simple_by : Sign → Bool
begins_simple_by (sign.Name w) = true
begins_simple_by (sign.Symbol symbols.Increment) = true
begins_simple_by (sign.Symbol symbols.Decrement) = true
begins_simple_by _ = false

step_begins : (m : Symbol) (up : Bool) → step_by m ≡ Some up → begins_simple_by (sign.Symbol m) ≡ true
step_begins symbols.Increment up e = refl
step_begins symbols.Decrement up e = refl
step_begins _ up e = absurd cc

pub simple_begins : {s : Statement} {xs : List Terminal} → DerivesSimple s xs → BeginsBy begins_simple_by xs
simple_begins (an_assignment m q (a_place d) e g) = record { head = _; others = _; is = refl; fits = refl }
simple_begins (a_step_after m q (a_place d) e) = record { head = _; others = _; is = refl; fits = refl }
simple_begins (a_step_before {up = up} m q e d) = record { head = _; others = _; is = refl; fits = step_begins m up e }
simple_begins (a_bare_run q r) = record { head = _; others = _; is = refl; fits = refl }
simple_begins (a_run q r d) = record { head = _; others = _; is = refl; fits = refl }

-- ---- the parts of statements

pub optional_again : {t : Option ExprTree} {xs : List Terminal} → DerivesOptional t xs → (q : Span) (rest : List Terminal) → optional_at (xs ++ symbol symbols.Semicolon q ∷ rest) ≡ Some (t, symbol symbols.Semicolon q ∷ rest)
unfolding optional_at
optional_again no_choice q rest = refl
optional_again (some_choice {ts = ts} d) q rest =
    rw (not_first symbols.Semicolon refl ts (symbol symbols.Semicolon q ∷ rest) (Choice_begins d), choice_in_again d (symbol symbols.Semicolon q ∷ rest) (Stays_symbol _ _ _ refl refl refl refl)) refl

-- what begins otherwise than a declaration
pub no_local_first : {f : Sign → Bool} → ((w : TypeWord) → f (sign.Type w) ≡ false) → f (sign.Symbol symbols.Const) ≡ false → (xs ys : List Terminal) → BeginsBy f xs → starts_local (xs ++ ys) ≡ false
no_local_first none no_const_first xs ys b = rw (not_first symbols.Const no_const_first xs ys b, no_type_first none xs ys b) refl

local_no_semicolon : {s : Statement} {ts : List Terminal} → DerivesLocal s ts → (rest : List Terminal) → starts symbols.Semicolon (ts ++ rest) ≡ false
unfolding kind_of
local_no_semicolon (a_local (a_const p c) t d) rest = refl
local_no_semicolon (a_local no_const (a_type end k) d) rest = absurd cc
local_no_semicolon (a_local no_const (a_type (word p w) k) d) rest = refl

pub begin_again : {i : Option Statement} {xs : List Terminal} → DerivesBegin i xs → (rest : List Terminal) → begin_at (xs ++ rest) ≡ Some (i, rest)
unfolding begin_at
begin_again (begins_not p) rest = refl
begin_again (begins_simple {ts = ts} p d) rest =
    rw (append_assoc, not_first symbols.Semicolon refl ts (symbol symbols.Semicolon p ∷ rest) (simple_begins d), no_local_first (λ w. refl) refl ts (symbol symbols.Semicolon p ∷ rest) (simple_begins d), simple_again d (symbol symbols.Semicolon p ∷ rest) (Stays_symbol _ _ _ refl refl refl refl) refl) refl
begin_again (begins_local {ts = ts} d) rest = rw (local_no_semicolon d rest, local_starts d rest, local_again d rest) refl

pub next_again : {j : Option Statement} {xs : List Terminal} → DerivesNext j xs → (q : Span) (rest : List Terminal) → next_at (xs ++ symbol symbols.Close q ∷ rest) ≡ Some (j, symbol symbols.Close q ∷ rest)
unfolding next_at
next_again no_next q rest = refl
next_again (a_next {ts = ts} d) q rest = rw (not_first symbols.Close refl ts (symbol symbols.Close q ∷ rest) (simple_begins d), simple_again d (symbol symbols.Close q ∷ rest) (Stays_symbol _ _ _ refl refl refl refl) refl) refl

-- ---- labels

label_again : {l : CaseLabel} {xs : List Terminal} → DerivesLabel l xs → (rest : List Terminal) → label_at (xs ++ rest) ≡ Some (l, rest)
unfolding label_at
label_again (a_case {ts = ts} p q d) rest = let e = choice_in_again d (symbol symbols.Colon q ∷ rest) (Stays_symbol _ _ _ refl refl refl refl) in rw (append_assoc, e) refl
label_again (a_default p q) rest = refl

label_starts : {l : CaseLabel} {xs : List Terminal} → DerivesLabel l xs → (rest : List Terminal) → starts_label (xs ++ rest) ≡ true
label_starts (a_case p q d) rest = refl
label_starts (a_default p q) rest = refl

label_there : {l : CaseLabel} {xs : List Terminal} → DerivesLabel l xs → 0 < length xs
label_there (a_case p q d) = omega arith
label_there (a_default p q) = omega arith

pub labels_start : {ls : List CaseLabel} {xs : List Terminal} → DerivesLabels ls xs → (rest : List Terminal) → starts_label (xs ++ rest) ≡ true
labels_start (last_label d) rest = label_starts d rest
labels_start (more_labels {ts = ts} d ds) rest = rw append_assoc (label_starts d _)

last_again : (n : ℕ) (l : CaseLabel) (xs rest : List Terminal) → 0 < n → label_at (xs ++ rest) ≡ Some (l, rest) → starts_label rest ≡ false → labels_at n (xs ++ rest) ≡ Some (l ∷ [], rest)
unfolding labels_at
last_again zero l xs rest some e f = absurd (omega arith)
last_again (suc n) l xs rest some e f = rw (e, f) refl

more_again : (n : ℕ) (l : CaseLabel) (ls : List CaseLabel) (xs us rest : List Terminal) → 0 < n → label_at (xs ++ (us ++ rest)) ≡ Some (l, us ++ rest) → starts_label (us ++ rest) ≡ true
    → ((k : ℕ) → suc k ≡ n → labels_at k (us ++ rest) ≡ Some (ls, rest)) → labels_at n (xs ++ us ++ rest) ≡ Some (l ∷ ls, rest)
unfolding labels_at
more_again zero l ls xs us rest some e f g = absurd (omega arith)
more_again (suc n) l ls xs us rest some e f g = rw (append_assoc, e, f, g n refl) refl

pub labels_again : {ls : List CaseLabel} {xs : List Terminal} → DerivesLabels ls xs → (n : ℕ) (rest : List Terminal) → length xs ≤ n → starts_label rest ≡ false → labels_at n (xs ++ rest) ≡ Some (ls, rest)
labels_again (last_label {ts = ts} d) n rest le e = last_again n _ ts rest (omega (arith, label_there d)) (label_again d rest) e
labels_again (more_labels {ts = ts} {us = us} d ds) n rest le e =
    more_again n _ _ ts us rest (omega (arith, label_there d, length-append {A = Terminal})) (label_again d (us ++ rest)) (labels_start ds rest)
    (λ k f. labels_again ds k rest (omega (arith, label_there d, length-append {A = Terminal})) e)
