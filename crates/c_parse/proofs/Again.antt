-- What derives is read again, whatever follows that cannot go on it.
use Rattle.std.proofs.Common.{◌≡◌, ℕ, zero, suc, ◌+◌, ◌≤◌, ◌<◌, Bool, true, false, leb, List, [], ◌∷◌, ◌++◌, length, Option, Some, None, refl, sym, ◌∙◌, append_assoc, arith}
use Rattle.std.proofs.lemmas.Bool.{le-leb, lt-leb}
use Rattle.std.proofs.lemmas.List.{length-append}
use Rattle.fq_core.specs.declared.span.Span.{Span}
use Rattle.c_values.specs.declared.kinds.Kind.{Kind}
use Rattle.c_values.specs.declared.operators.UnaryOp.TheVariants as unaries
use Rattle.c_values.specs.declared.operators.BinaryOp.TheVariants as ops
use Rattle.c_parse.specs.declared.sign.Terminal.{Terminal}
use Rattle.c_parse.specs.declared.sign.TypeWord.{TypeWord}
use Rattle.c_parse.specs.declared.sign.Sign.{Sign}
use Rattle.c_parse.specs.declared.sign.Sign.TheVariants as sign
use Rattle.c_parse.specs.declared.sign.Symbol.{Symbol}
use Rattle.c_parse.specs.declared.sign.Symbol.TheVariants as symbols
use Rattle.c_parse.specs.declared.expr.ExprTree.{ExprTree}
use Rattle.c_parse.specs.declared.expr.ExprForm.TheVariants as form
use Rattle.c_parse.specs.declared.operator.Prefix.{Prefix}
use Rattle.c_parse.specs.declared.operator.Prefix.TheVariants as prefixes
use Rattle.c_parse.specs.declared.operator.Infix.{Infix}
use Rattle.c_parse.specs.declared.operator.Infix.TheVariants as infixes
use Rattle.c_parse.specs.Types.{kind_of}
use Rattle.c_parse.specs.Trees.{tree, prefixed, joined, level, prefix_symbol, infix_symbol}
use Rattle.c_parse.specs.Grammar.{Text, symbol, DerivesChoice, a_plain, a_choice, Derives, a_number, a_name, an_element, a_bare_call, a_call, parens, a_cast, a_prefix, an_infix, DerivesArguments, the_last, one_more, AreWords, end, word, first_span, name_token, number_token}
use Rattle.c_parse.specs.Reading.{◌>>=◌, Read, Reader, is_type, is_symbol, starts, starts_type, tail, with_word, words_of, past_words, type_at, infix_at, infix_of, by_operator, arguments_at, after_name, after_open, prefix_of, operand_at, operators_at, level_by, choice_by, expr_at}
use Rattle.c_parse.proofs.Steps.{Stops}
use Rattle.c_parse.proofs.Firsts.{BeginsBy, BeginsBy-append, some_first, not_first}
use Rattle.c_parse.proofs.Takes.{first_stays}

-- what an expression may begin with
abbrev pub begins : Sign → Bool
begins (sign.Number n k) = true
begins (sign.Name w) = true
begins (sign.Symbol symbols.Open) = true
begins (sign.Symbol symbols.Plus) = true
begins (sign.Symbol symbols.Minus) = true
begins (sign.Symbol symbols.Tilde) = true
begins (sign.Symbol symbols.Not) = true
begins _ = false

abbrev pub Begins : List Terminal → Type 0
Begins xs = BeginsBy begins xs

pub Derives_begins : {k : ℕ} {t : ExprTree} {xs : List Terminal} → Derives k t xs → Begins xs
Derives_begins a_number = record { head = _; others = _; is = refl; fits = refl }
Derives_begins a_name = record { head = _; others = _; is = refl; fits = refl }
Derives_begins (an_element q r d) = record { head = _; others = _; is = refl; fits = refl }
Derives_begins (a_bare_call q r) = record { head = _; others = _; is = refl; fits = refl }
Derives_begins (a_call q r d) = record { head = _; others = _; is = refl; fits = refl }
Derives_begins (parens p q d) = record { head = _; others = _; is = refl; fits = refl }
Derives_begins (a_cast q w k d) = record { head = _; others = _; is = refl; fits = refl }
Derives_begins (a_prefix (prefixes.Plus) d) = record { head = _; others = _; is = refl; fits = refl }
Derives_begins (a_prefix (prefixes.Unary unaries.Neg) d) = record { head = _; others = _; is = refl; fits = refl }
Derives_begins (a_prefix (prefixes.Unary unaries.Complement) d) = record { head = _; others = _; is = refl; fits = refl }
Derives_begins (a_prefix (prefixes.Unary unaries.Not) d) = record { head = _; others = _; is = refl; fits = refl }
Derives_begins (an_infix op p le a b) = BeginsBy-append _ _ (Derives_begins a)

pub Choice_begins : {t : ExprTree} {xs : List Terminal} → DerivesChoice t xs → Begins xs
Choice_begins (a_plain d) = Derives_begins d
Choice_begins (a_choice p q c a b) = BeginsBy-append _ _ (Derives_begins c)

pub Arguments_begin : {args : List ExprTree} {xs : List Terminal} → DerivesArguments args xs → Begins xs
Arguments_begin (the_last d) = Choice_begins d
Arguments_begin (one_more p d ds) = BeginsBy-append _ _ (Choice_begins d)

begins_no_type : (xs ys : List Terminal) → Begins xs → starts_type (xs ++ ys) ≡ false
begins_no_type xs ys b = rw b.is (no_type b.head.sign b.fits)
  where
    no_type : (s : Sign) → begins s ≡ true → is_type s ≡ false
    no_type (sign.Type w) e = absurd cc
    no_type _ e = refl

-- what follows cannot go on a name
pub record Ends (rest : List Terminal) : Type 0 where
  pub no_index : starts symbols.OpenIndex rest ≡ false
  pub no_call : starts symbols.Open rest ≡ false

-- what follows cannot go on an expression
pub record Stays (rest : List Terminal) : Type 0 where
  pub ends : Ends rest
  pub no_operator : Stops 1 rest
  pub no_question : starts symbols.Question rest ≡ false

pub Stays_symbol : (m : Symbol) (p : Span) (rest : List Terminal) → is_symbol symbols.OpenIndex (sign.Symbol m) ≡ false → is_symbol symbols.Open (sign.Symbol m) ≡ false → infix_of m ≡ None → is_symbol symbols.Question (sign.Symbol m) ≡ false → Stays (symbol m p ∷ rest)
Stays_symbol m p rest a b c d = record { ends = record { no_index = a; no_call = b }; no_operator = λ op e. absurd cc; no_question = d }

infix_of-infix_symbol : (op : Infix) → infix_of (infix_symbol op) ≡ Some op
infix_of-infix_symbol (infixes.Binary ops.Add) = refl
infix_of-infix_symbol (infixes.Binary ops.Sub) = refl
infix_of-infix_symbol (infixes.Binary ops.Mul) = refl
infix_of-infix_symbol (infixes.Binary ops.Div) = refl
infix_of-infix_symbol (infixes.Binary ops.Rem) = refl
infix_of-infix_symbol (infixes.Binary ops.Shl) = refl
infix_of-infix_symbol (infixes.Binary ops.Shr) = refl
infix_of-infix_symbol (infixes.Binary ops.And) = refl
infix_of-infix_symbol (infixes.Binary ops.Or) = refl
infix_of-infix_symbol (infixes.Binary ops.Xor) = refl
infix_of-infix_symbol (infixes.Binary ops.Less) = refl
infix_of-infix_symbol (infixes.Binary ops.LessEqual) = refl
infix_of-infix_symbol (infixes.Binary ops.Greater) = refl
infix_of-infix_symbol (infixes.Binary ops.GreaterEqual) = refl
infix_of-infix_symbol (infixes.Binary ops.Equal) = refl
infix_of-infix_symbol (infixes.Binary ops.NotEqual) = refl
infix_of-infix_symbol (infixes.Both) = refl
infix_of-infix_symbol (infixes.Either) = refl

Ends_infix : (op : Infix) (p : Span) (rest : List Terminal) → Ends (symbol (infix_symbol op) p ∷ rest)
Ends_infix (infixes.Binary ops.Add) p rest = record { no_index = refl; no_call = refl }
Ends_infix (infixes.Binary ops.Sub) p rest = record { no_index = refl; no_call = refl }
Ends_infix (infixes.Binary ops.Mul) p rest = record { no_index = refl; no_call = refl }
Ends_infix (infixes.Binary ops.Div) p rest = record { no_index = refl; no_call = refl }
Ends_infix (infixes.Binary ops.Rem) p rest = record { no_index = refl; no_call = refl }
Ends_infix (infixes.Binary ops.Shl) p rest = record { no_index = refl; no_call = refl }
Ends_infix (infixes.Binary ops.Shr) p rest = record { no_index = refl; no_call = refl }
Ends_infix (infixes.Binary ops.And) p rest = record { no_index = refl; no_call = refl }
Ends_infix (infixes.Binary ops.Or) p rest = record { no_index = refl; no_call = refl }
Ends_infix (infixes.Binary ops.Xor) p rest = record { no_index = refl; no_call = refl }
Ends_infix (infixes.Binary ops.Less) p rest = record { no_index = refl; no_call = refl }
Ends_infix (infixes.Binary ops.LessEqual) p rest = record { no_index = refl; no_call = refl }
Ends_infix (infixes.Binary ops.Greater) p rest = record { no_index = refl; no_call = refl }
Ends_infix (infixes.Binary ops.GreaterEqual) p rest = record { no_index = refl; no_call = refl }
Ends_infix (infixes.Binary ops.Equal) p rest = record { no_index = refl; no_call = refl }
Ends_infix (infixes.Binary ops.NotEqual) p rest = record { no_index = refl; no_call = refl }
Ends_infix (infixes.Both) p rest = record { no_index = refl; no_call = refl }
Ends_infix (infixes.Either) p rest = record { no_index = refl; no_call = refl }

Stops_infix : (op : Infix) (p : Span) (rest : List Terminal) → Stops (suc (level op)) (symbol (infix_symbol op) p ∷ rest)
Stops_infix op p rest o e =
    let same : Some op ≡ Some o = sym (infix_of-infix_symbol op) ∙ e in
    let is : op ≡ o = cc in rw (← is) (omega arith)

-- the reader comes to the operators behind the tree
record Reaches (n j : ℕ) (t : ExprTree) (xs rest : List Terminal) : Type 0 where
  count : ℕ
  enough : length rest ≤ count
  goes : level_by (expr_at n) j (xs ++ rest) ≡ operators_at (expr_at n) count j (first_span xs) t rest

by_operand : (n j : ℕ) (t : ExprTree) (xs rest : List Terminal) → first_span (xs ++ rest) ≡ first_span xs → operand_at (expr_at n) (xs ++ rest) ≡ Some (t, rest) → Reaches n j t xs rest
unfolding level_by
by_operand n j t xs rest first e = record { count = length rest; enough = omega arith; goes = rw (e, first) refl }

-- no operator of the level follows
pub operators_end : (r : Reader) (n j : ℕ) (p : Span) (t : ExprTree) (rest : List Terminal) → Stops j rest → operators_at r n j p t rest ≡ Some (t, rest)
unfolding operators_at
operators_end r zero j p t rest stops = refl
operators_end r (suc n) j p t rest stops = at (infix_at rest) refl
  where
    at : (o : Option Infix) → infix_at rest ≡ o → by_operator j o (λ op. r (suc (level op)) (tail rest) >>= λ x. operators_at r n j p (tree p (joined op t x.0)) x.1) (Some (t, rest)) ≡ Some (t, rest)
    at None e = refl
    at (Some op) e = let no_more : leb j (level op) ≡ false = lt-leb _ _ (stops op e) in rw no_more refl

level_again : (n k : ℕ) (t : ExprTree) (xs rest : List Terminal) → Reaches n (suc k) t xs rest → Stops (suc k) rest → expr_at (suc n) (suc k) (xs ++ rest) ≡ Some (t, rest)
unfolding expr_at
level_again n k t xs rest d stops = d.goes ∙ operators_end (expr_at n) d.count (suc k) (first_span xs) t rest stops

-- ---- a rule at a time: r is a reader, and the premises say what it gives at the parts

number_again : (r : Reader) (p : Span) (n : ℕ) (kind : Kind) (rest : List Terminal) → operand_at r (number_token n kind p ∷ rest) ≡ Some (tree p (form.Number n kind), rest)
unfolding operand_at
number_again r p n kind rest = refl

name_again : (r : Reader) (p : Span) (w : Text) (rest : List Terminal) → Ends rest → operand_at r (name_token w p ∷ rest) ≡ Some (tree p (form.Name w), rest)
unfolding operand_at after_name
name_again r p w rest ends = rw (ends.no_index, ends.no_call) refl

element_again : (r : Reader) (p : Span) (w : Text) (q c : Span) (t : ExprTree) (ts rest : List Terminal) → r 0 (ts ++ symbol symbols.CloseIndex c ∷ rest) ≡ Some (t, symbol symbols.CloseIndex c ∷ rest)
    → operand_at r (name_token w p ∷ symbol symbols.OpenIndex q ∷ (ts ++ symbol symbols.CloseIndex c ∷ []) ++ rest) ≡ Some (tree p (form.Element w t), rest)
unfolding operand_at after_name
element_again r p w q c t ts rest e = rw (append_assoc, e) refl

bare_call_again : (r : Reader) (p : Span) (w : Text) (q c : Span) (rest : List Terminal) → operand_at r (name_token w p ∷ symbol symbols.Open q ∷ symbol symbols.Close c ∷ rest) ≡ Some (tree p (form.Call w []), rest)
unfolding operand_at after_name
bare_call_again r p w q c rest = refl

call_again : (r : Reader) (p : Span) (w : Text) (q c : Span) (args : List ExprTree) (ts rest : List Terminal) → starts symbols.Close (ts ++ symbol symbols.Close c ∷ rest) ≡ false
    → arguments_at r (length (ts ++ symbol symbols.Close c ∷ rest)) (ts ++ symbol symbols.Close c ∷ rest) ≡ Some (args, rest)
    → operand_at r (name_token w p ∷ symbol symbols.Open q ∷ (ts ++ symbol symbols.Close c ∷ []) ++ rest) ≡ Some (tree p (form.Call w args), rest)
unfolding operand_at after_name
call_again r p w q c args ts rest bare e = rw (append_assoc, bare, e) refl

parens_again : (r : Reader) (p q : Span) (t : ExprTree) (ts rest : List Terminal) → starts_type (ts ++ symbol symbols.Close q ∷ rest) ≡ false → r 0 (ts ++ symbol symbols.Close q ∷ rest) ≡ Some (t, symbol symbols.Close q ∷ rest)
    → operand_at r (symbol symbols.Open p ∷ (ts ++ symbol symbols.Close q ∷ []) ++ rest) ≡ Some (t, rest)
unfolding operand_at after_open
parens_again r p q t ts rest bare e = rw (append_assoc, bare, e) refl

cast_again : (r : Reader) (p q : Span) (kind : Kind) (t : ExprTree) (type ts rest : List Terminal) → starts_type (type ++ symbol symbols.Close q ∷ (ts ++ rest)) ≡ true
    → type_at (type ++ symbol symbols.Close q ∷ (ts ++ rest)) ≡ Some (kind, symbol symbols.Close q ∷ (ts ++ rest)) → r 11 (ts ++ rest) ≡ Some (t, rest)
    → operand_at r (symbol symbols.Open p ∷ (type ++ symbol symbols.Close q ∷ ts) ++ rest) ≡ Some (tree p (form.Cast kind t), rest)
unfolding operand_at after_open
cast_again r p q kind t type ts rest is e f = rw (append_assoc, is, e, f) refl

prefix_of-prefix_symbol : (op : Prefix) → prefix_of (prefix_symbol op) ≡ Some op
prefix_of-prefix_symbol prefixes.Plus = refl
prefix_of-prefix_symbol (prefixes.Unary unaries.Neg) = refl
prefix_of-prefix_symbol (prefixes.Unary unaries.Complement) = refl
prefix_of-prefix_symbol (prefixes.Unary unaries.Not) = refl

opens_not : (op : Prefix) → is_symbol symbols.Open (sign.Symbol (prefix_symbol op)) ≡ false
opens_not prefixes.Plus = refl
opens_not (prefixes.Unary unaries.Neg) = refl
opens_not (prefixes.Unary unaries.Complement) = refl
opens_not (prefixes.Unary unaries.Not) = refl

prefix_again : (r : Reader) (p : Span) (op : Prefix) (t : ExprTree) (ts rest : List Terminal) → r 11 (ts ++ rest) ≡ Some (t, rest) → operand_at r (symbol (prefix_symbol op) p ∷ (ts ++ rest)) ≡ Some (tree p (prefixed op t), rest)
unfolding operand_at
prefix_again r p op t ts rest e = rw (opens_not op, prefix_of-prefix_symbol op, e) refl

operator_goes : (r : Reader) (m j : ℕ) (p q : Span) (op : Infix) (a b : ExprTree) (ts rest : List Terminal) → j ≤ level op → r (suc (level op)) ts ≡ Some (b, rest)
    → operators_at r (suc m) j p a (symbol (infix_symbol op) q ∷ ts) ≡ operators_at r m j p (tree p (joined op a b)) rest
unfolding operators_at
operator_goes r m j p q op a b ts rest le e = let goes_on : leb j (level op) ≡ true = le-leb _ _ le in rw (infix_of-infix_symbol op, goes_on, e) refl

infix_again : (n j : ℕ) (p : Span) (op : Infix) (a b : ExprTree) (xs ys rest : List Terminal) → j ≤ level op → Reaches n j a xs (symbol (infix_symbol op) p ∷ (ys ++ rest)) → expr_at n (suc (level op)) (ys ++ rest) ≡ Some (b, rest)
    → first_span (xs ++ symbol (infix_symbol op) p ∷ ys) ≡ first_span xs → Reaches n j (tree (first_span xs) (joined op a b)) (xs ++ symbol (infix_symbol op) p ∷ ys) rest
infix_again n j p op a b xs ys rest le d e first = at d.count d.enough d.goes
  where
    at : (count : ℕ) → length (symbol (infix_symbol op) p ∷ (ys ++ rest)) ≤ count
        → level_by (expr_at n) j (xs ++ symbol (infix_symbol op) p ∷ (ys ++ rest)) ≡ operators_at (expr_at n) count j (first_span xs) a (symbol (infix_symbol op) p ∷ (ys ++ rest))
        → Reaches n j (tree (first_span xs) (joined op a b)) (xs ++ symbol (infix_symbol op) p ∷ ys) rest
    at zero enough goes = absurd (omega arith)
    at (suc m) enough goes = record {
      count = m;
      enough = omega (arith, length-append ys rest);
      goes = rw (append_assoc, first) (goes ∙ operator_goes (expr_at n) m j (first_span xs) p op a b (ys ++ rest) rest le e);
    }

Stops_more : (j k : ℕ) (rest : List Terminal) → j ≤ k → Stops j rest → Stops k rest
Stops_more j k rest le stops op e = omega (arith, stops op e)

level_most : (op : Infix) → level op ≤ 10
level_most (infixes.Binary ops.Add) = omega arith
level_most (infixes.Binary ops.Sub) = omega arith
level_most (infixes.Binary ops.Mul) = omega arith
level_most (infixes.Binary ops.Div) = omega arith
level_most (infixes.Binary ops.Rem) = omega arith
level_most (infixes.Binary ops.Shl) = omega arith
level_most (infixes.Binary ops.Shr) = omega arith
level_most (infixes.Binary ops.And) = omega arith
level_most (infixes.Binary ops.Or) = omega arith
level_most (infixes.Binary ops.Xor) = omega arith
level_most (infixes.Binary ops.Less) = omega arith
level_most (infixes.Binary ops.LessEqual) = omega arith
level_most (infixes.Binary ops.Greater) = omega arith
level_most (infixes.Binary ops.GreaterEqual) = omega arith
level_most (infixes.Binary ops.Equal) = omega arith
level_most (infixes.Binary ops.NotEqual) = omega arith
level_most (infixes.Both) = omega arith
level_most (infixes.Either) = omega arith

Stops_top : (k : ℕ) (rest : List Terminal) → 11 ≤ k → Stops k rest
Stops_top k rest le op e = omega (arith, level_most op)

-- from a fuel that is not 0
at_level : (n k : ℕ) (t : ExprTree) (xs rest : List Terminal) → 0 < n → ((m : ℕ) → suc m ≡ n → Reaches m (suc k) t xs rest) → Stops (suc k) rest → expr_at n (suc k) (xs ++ rest) ≡ Some (t, rest)
at_level zero k t xs rest some d stops = absurd (omega arith)
at_level (suc m) k t xs rest some d stops = level_again m k t xs rest (d m refl) stops

at_choice : (n : ℕ) (ts : List Terminal) (x : Read ExprTree) → 0 < n → ((m : ℕ) → suc m ≡ n → choice_by (expr_at m) ts ≡ x) → expr_at n 0 ts ≡ x
unfolding expr_at
at_choice zero ts x some d = absurd (omega arith)
at_choice (suc m) ts x some d = d m refl

condition_again : (m : ℕ) (t : ExprTree) (xs rest : List Terminal) → Reaches m 1 t xs rest → Stops 1 rest → level_by (expr_at m) 1 (xs ++ rest) ≡ Some (t, rest)
condition_again m t xs rest d stops = d.goes ∙ operators_end (expr_at m) d.count 1 (first_span xs) t rest stops

plain_again : (m : ℕ) (t : ExprTree) (xs rest : List Terminal) → Reaches m 1 t xs rest → Stays rest → choice_by (expr_at m) (xs ++ rest) ≡ Some (t, rest)
unfolding choice_by
plain_again m t xs rest d stays = rw (condition_again m t xs rest d stays.no_operator, stays.no_question) refl

choice_rule_again : (r : Reader) (p q : Span) (c a b : ExprTree) (xs ys zs rest : List Terminal)
    → level_by r 1 (xs ++ symbol symbols.Question p ∷ (ys ++ symbol symbols.Colon q ∷ (zs ++ rest))) ≡ Some (c, symbol symbols.Question p ∷ (ys ++ symbol symbols.Colon q ∷ (zs ++ rest)))
    → r 0 (ys ++ symbol symbols.Colon q ∷ (zs ++ rest)) ≡ Some (a, symbol symbols.Colon q ∷ (zs ++ rest)) → r 0 (zs ++ rest) ≡ Some (b, rest)
    → first_span (xs ++ symbol symbols.Question p ∷ (ys ++ symbol symbols.Colon q ∷ (zs ++ rest))) ≡ first_span xs
    → choice_by r (xs ++ symbol symbols.Question p ∷ (ys ++ symbol symbols.Colon q ∷ zs) ++ rest) ≡ Some (tree (first_span xs) (form.Choice c a b), rest)
unfolding choice_by
choice_rule_again r p q c a b xs ys zs rest e f g first =
    let regroup : (xs ++ symbol symbols.Question p ∷ (ys ++ symbol symbols.Colon q ∷ zs)) ++ rest ≡ xs ++ symbol symbols.Question p ∷ (ys ++ symbol symbols.Colon q ∷ (zs ++ rest)) = simp append_assoc in
    rw (regroup, e, f, g, first) refl

last_again : (r : Reader) (m : ℕ) (q : Span) (t : ExprTree) (ts rest : List Terminal) → 0 < m → r 0 (ts ++ symbol symbols.Close q ∷ rest) ≡ Some (t, symbol symbols.Close q ∷ rest)
    → arguments_at r m (ts ++ symbol symbols.Close q ∷ rest) ≡ Some (t ∷ [], rest)
unfolding arguments_at
last_again r zero q t ts rest some e = absurd (omega arith)
last_again r (suc m) q t ts rest some e = rw e refl

more_again : (r : Reader) (m : ℕ) (p q : Span) (t : ExprTree) (args : List ExprTree) (ts us rest : List Terminal) → 0 < m → r 0 (ts ++ symbol symbols.Comma p ∷ (us ++ symbol symbols.Close q ∷ rest)) ≡ Some (t, symbol symbols.Comma p ∷ (us ++ symbol symbols.Close q ∷ rest))
    → ((k : ℕ) → suc k ≡ m → arguments_at r k (us ++ symbol symbols.Close q ∷ rest) ≡ Some (args, rest))
    → arguments_at r m (ts ++ symbol symbols.Comma p ∷ us ++ symbol symbols.Close q ∷ rest) ≡ Some (t ∷ args, rest)
unfolding arguments_at
more_again r zero p q t args ts us rest some e f = absurd (omega arith)
more_again r (suc m) p q t args ts us rest some e f = rw (append_assoc, e, f m refl) refl

words_again : {ws : List TypeWord} {ts : List Terminal} → AreWords ws ts → (rest : List Terminal) → starts_type rest ≡ false → (words_of (ts ++ rest) ≡ ws) × (past_words (ts ++ rest) ≡ rest)
words_again end [] e = (refl, refl)
words_again end (t ∷ rest) e = (no_words t.sign (words_of rest) e, rw e refl)
  where
    no_words : (s : Sign) (ws : List TypeWord) → is_type s ≡ false → with_word s ws ≡ []
    no_words (sign.Type w) ws e = absurd cc
    no_words _ ws e = refl
words_again (word p d) rest e = let h = words_again d rest e in (rw h.0 refl, h.1)

pub type_again : {ws : List TypeWord} {ts : List Terminal} {kind : Kind} → AreWords ws ts → kind_of ws ≡ Some kind → (rest : List Terminal) → starts_type rest ≡ false → type_at (ts ++ rest) ≡ Some (kind, rest)
unfolding type_at
type_again d k rest e = let h = words_again d rest e in rw (h.0, h.1, k) refl

starts_with_type : {ws : List TypeWord} {ts : List Terminal} {kind : Kind} → AreWords ws ts → kind_of ws ≡ Some kind → (rest : List Terminal) → starts_type (ts ++ rest) ≡ true
unfolding kind_of
starts_with_type end k rest = absurd cc
starts_with_type (word p d) k rest = refl

mutual
  reaches : {k : ℕ} {t : ExprTree} {xs : List Terminal} → Derives k t xs → (n j : ℕ) (rest : List Terminal) → length xs + length rest ≤ n → j ≤ k → Ends rest → Stops (suc k) rest → Reaches n j t xs rest
  reaches a_number n j rest le jk ends stops = by_operand n j _ _ rest refl (number_again (expr_at n) _ _ _ rest)
  reaches a_name n j rest le jk ends stops = by_operand n j _ _ rest refl (name_again (expr_at n) _ _ rest ends)
  reaches (an_element {ts = ts} q r d) n j rest le jk ends stops =
      by_operand n j _ _ rest refl (element_again (expr_at n) _ _ q r _ ts rest (choice_again d n (symbol symbols.CloseIndex r ∷ rest) (omega (arith, length-append {A = Terminal})) (Stays_symbol _ _ _ refl refl refl refl)))
  reaches (a_bare_call q r) n j rest le jk ends stops = by_operand n j _ _ rest refl (bare_call_again (expr_at n) _ _ q r rest)
  reaches (a_call {ts = ts} q r d) n j rest le jk ends stops =
      by_operand n j _ _ rest refl (call_again (expr_at n) _ _ q r _ ts rest (not_first symbols.Close refl ts _ (Arguments_begin d)) (arguments_again d n _ r rest (omega (arith, length-append {A = Terminal})) (omega (arith, length-append {A = Terminal}))))
  reaches (parens {ts = ts} p q d) n j rest le jk ends stops =
      by_operand n j _ _ rest refl (parens_again (expr_at n) p q _ ts rest (begins_no_type ts _ (Choice_begins d)) (choice_again d n (symbol symbols.Close q ∷ rest) (omega (arith, length-append {A = Terminal})) (Stays_symbol _ _ _ refl refl refl refl)))
  reaches (a_cast {type = type} {ts = ts} q w k d) n j rest le jk ends stops =
      by_operand n j _ _ rest refl (cast_again (expr_at n) _ q _ _ type ts rest (starts_with_type w k _) (type_again w k _ refl)
      (at_level n 10 _ ts rest (omega arith) (λ m e. reaches d m 11 rest (omega (arith, length-append {A = Terminal})) (omega arith) ends (Stops_top 12 rest (omega arith))) (Stops_top 11 rest (omega arith))))
  reaches (a_prefix op {ts = ts} d) n j rest le jk ends stops =
      by_operand n j _ _ rest refl (prefix_again (expr_at n) _ op _ ts rest
      (at_level n 10 _ ts rest (omega arith) (λ m e. reaches d m 11 rest (omega arith) (omega arith) ends (Stops_top 12 rest (omega arith))) (Stops_top 11 rest (omega arith))))
  reaches (an_infix op {xs = xs} {ys = ys} p at a b) n j rest le jk ends stops =
      infix_again n j p op _ _ xs ys rest (omega arith) (reaches a n j (symbol (infix_symbol op) p ∷ (ys ++ rest)) (omega (arith, length-append {A = Terminal})) (omega arith) (Ends_infix op p (ys ++ rest)) (Stops_infix op p (ys ++ rest)))
      (at_level n (level op) _ ys rest (omega (arith, length-append {A = Terminal})) (λ m e. reaches b m (suc (level op)) rest (omega (arith, length-append {A = Terminal})) (omega arith) ends (Stops_more _ _ rest (omega arith) stops)) (Stops_more _ _ rest (omega arith) stops))
      (first_stays a _)

  pub choice_again : {t : ExprTree} {xs : List Terminal} → DerivesChoice t xs → (n : ℕ) (rest : List Terminal) → length xs + length rest < n → Stays rest → expr_at n 0 (xs ++ rest) ≡ Some (t, rest)
  choice_again (a_plain {ts = ts} d) n rest le stays =
      at_choice n (ts ++ rest) _ (omega arith) (λ m e. plain_again m _ ts rest (reaches d m 1 rest (omega arith) (omega arith) stays.ends (Stops_more 1 2 rest (omega arith) stays.no_operator)) stays)
  choice_again (a_choice {xs = xs} {ys = ys} {zs = zs} p q c a b) n rest le stays =
      at_choice n _ _ (omega arith) (λ m e. choice_rule_again (expr_at m) p q _ _ _ xs ys zs rest
      (condition_again m _ xs _ (reaches c m 1 _ (omega (arith, length-append {A = Terminal})) (omega arith) (record { no_index = refl; no_call = refl }) (λ op h. absurd cc)) (λ op h. absurd cc))
      (choice_again a m (symbol symbols.Colon q ∷ (zs ++ rest)) (omega (arith, length-append {A = Terminal})) (Stays_symbol _ _ _ refl refl refl refl)) (choice_again b m rest (omega (arith, length-append {A = Terminal})) stays) (first_stays c _))

  pub arguments_again : {args : List ExprTree} {xs : List Terminal} → DerivesArguments args xs → (n m : ℕ) (q : Span) (rest : List Terminal) → length xs + suc (length rest) < n → length xs ≤ m → arguments_at (expr_at n) m (xs ++ symbol symbols.Close q ∷ rest) ≡ Some (args, rest)
  arguments_again (the_last {ts = ts} d) n m q rest le lm = last_again (expr_at n) m q _ ts rest (omega (arith, some_first ts (Choice_begins d))) (choice_again d n (symbol symbols.Close q ∷ rest) (omega arith) (Stays_symbol _ _ _ refl refl refl refl))
  arguments_again (one_more {ts = ts} {us = us} p d ds) n m q rest le lm =
      more_again (expr_at n) m p q _ _ ts us rest (omega (arith, length-append {A = Terminal}))
      (choice_again d n (symbol symbols.Comma p ∷ (us ++ symbol symbols.Close q ∷ rest)) (omega (arith, length-append {A = Terminal})) (Stays_symbol _ _ _ refl refl refl refl))
      (λ k e. arguments_again ds n k q rest (omega (arith, length-append {A = Terminal})) (omega (arith, length-append {A = Terminal})))
