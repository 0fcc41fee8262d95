-- What is read derives from the tokens that were taken.
use Rattle.std.proofs.Common.{◌≡◌, ℕ, zero, suc, ◌≤◌, List, [], ◌∷◌, ◌++◌, length, Option, Some, None, refl, sym, ap, ◌∙◌, append_assoc, arith}
use Rattle.std.specs.Prelude.{IfSome}
use Rattle.std.proofs.lemmas.List.{length-append}
use Rattle.std.proofs.lemmas.Option.{IfSome_then}
use Rattle.fq_core.specs.declared.span.Span.{Span}
use Rattle.c_values.specs.declared.kinds.Kind.{Kind}
use Rattle.c_parse.specs.declared.sign.Terminal.{Terminal}
use Rattle.c_parse.specs.declared.sign.TypeWord.{TypeWord}
use Rattle.c_parse.specs.declared.sign.Sign.{Sign}
use Rattle.c_parse.specs.declared.sign.Sign.TheVariants as sign
use Rattle.c_parse.specs.declared.sign.Symbol.{Symbol}
use Rattle.c_parse.specs.declared.sign.Symbol.TheVariants as symbols
use Rattle.c_parse.specs.declared.expr.ExprTree.{ExprTree}
use Rattle.c_parse.specs.declared.operator.Prefix.{Prefix}
use Rattle.c_parse.specs.declared.operator.Infix.{Infix}
use Rattle.c_parse.specs.Types.{kind_of}
use Rattle.c_parse.specs.Trees.{tree, joined, level, prefix_symbol, infix_symbol}
use Rattle.c_parse.specs.Grammar.{Text, symbol, DerivesChoice, a_plain, Derives, a_number, a_name, an_element, a_bare_call, a_call, parens, a_cast, a_prefix, an_infix, a_choice, DerivesArguments, the_last, one_more, AreWords, end, word, first_span, name_token}
use Rattle.c_parse.specs.Reading.{◌>>=◌, Reader, is_symbol, starts, starts_type, tail, expect, words_of, past_words, type_at, infix_at, prefix_of, arguments_at, after_name, after_open, after_prefix, operand_of, operand_at, operators_at, level_by, choice_by, expr_at, expr_in}
use Rattle.c_parse.proofs.Steps.{then_some, either_some, starts-true, expect_takes, Stops, by_operator_some, infix_at-some, prefix_of-some, is_symbol-true, level_pos}

-- the tokens are some with this fact, and then the rest
pub record Takes (P : List Terminal → Type 0) (tokens rest : List Terminal) : Type 0 where
  pub front : List Terminal
  pub parts : tokens ≡ front ++ rest
  pub fact : P front

-- an expression at level 0, an operand at a level above
abbrev pub DerivesAt : ℕ → ExprTree → List Terminal → Type 0
DerivesAt zero t ts = DerivesChoice t ts
DerivesAt (suc k) t ts = Derives (suc k) t ts

-- a reader whose answers derive
abbrev pub IsSound : Reader → Type 0
IsSound r = (k : ℕ) (ts : List Terminal) → IfSome (r k ts) (λ x. Takes (DerivesAt k x.0) ts x.1 × Stops k x.1)

pub length-parts : (ts front rest : List Terminal) → ts ≡ front ++ rest → length rest ≤ length ts
length-parts ts front rest e = omega (arith, simp length-append at (ap length e))

-- the first token of an expression is that of its tokens, whatever follows
pub first_stays : {k : ℕ} {t : ExprTree} {xs : List Terminal} → Derives k t xs → (ys : List Terminal) → first_span (xs ++ ys) ≡ first_span xs
first_stays a_number ys = refl
first_stays a_name ys = refl
first_stays (an_element q r d) ys = refl
first_stays (a_bare_call q r) ys = refl
first_stays (a_call q r d) ys = refl
first_stays (parens p q d) ys = refl
first_stays (a_cast q w k d) ys = refl
first_stays (a_prefix op d) ys = refl
first_stays (an_infix op p le a b) ys = simp (append_assoc, first_stays a)

-- what an operator may follow: the tree, whose first token stands at p, derives at level k, and at that of the operator in front
record Operand (k : ℕ) (p : Span) (t : ExprTree) (all ts : List Terminal) : Type 0 where
  front : List Terminal
  parts : all ≡ front ++ ts
  here : Derives k t front
  next : (op : Infix) → infix_at ts ≡ Some op → Derives (level op) t front
  span_is : p ≡ first_span front

nothing_stops : (k : ℕ) (ts : List Terminal) → length ts ≤ 0 → Stops k ts
nothing_stops k [] le = λ op e. absurd cc
nothing_stops k (t ∷ ts) le = absurd (omega arith)

-- the words in front
words_take : (ts : List Terminal) → Takes (AreWords (words_of ts)) ts (past_words ts)
words_take [] = record { front = []; parts = refl; fact = end }
words_take (t ∷ ts) = words_take_at t.sign t.span ts (words_take ts)
  where
    words_take_at : (s : Sign) (p : Span) (ts : List Terminal) → Takes (AreWords (words_of ts)) ts (past_words ts) → (let u : Terminal = record { sign = s; span = p } in Takes (AreWords (words_of (u ∷ ts))) (u ∷ ts) (past_words (u ∷ ts)))
    words_take_at (sign.Type w) p ts d = record { front = _; parts = cc; fact = word p d.fact }
    words_take_at (sign.Number n k) p ts d = record { front = []; parts = refl; fact = end }
    words_take_at (sign.Name n) p ts d = record { front = []; parts = refl; fact = end }
    words_take_at (sign.Symbol n) p ts d = record { front = []; parts = refl; fact = end }
    words_take_at sign.Foreign p ts d = record { front = []; parts = refl; fact = end }
    words_take_at sign.Unknown p ts d = record { front = []; parts = refl; fact = end }

pub type_takes : (ts : List Terminal) → IfSome (type_at ts) (λ x. (words : List TypeWord) × Takes (λ us. AreWords words us × (kind_of words ≡ Some x.0)) ts x.1)
unfolding type_at
type_takes ts = is_kind (kind_of (words_of ts)) refl
  where
    is_kind : (o : Option Kind) → kind_of (words_of ts) ≡ o → IfSome {T = Kind × List Terminal} (o >>= λ kind. Some (kind, past_words ts)) (λ x. (words : List TypeWord) × Takes (λ us. AreWords words us × (kind_of words ≡ Some x.0)) ts x.1)
    is_kind None e = tt
    is_kind (Some kind) e = let d = words_take ts in (words_of ts, record { front = d.front; parts = d.parts; fact = (d.fact, e) })

-- an operand derives at each level
abbrev DerivesOperand : ExprTree → List Terminal → Type 0
DerivesOperand t ts = (k : ℕ) → Derives k t ts

stops_at_0 : (ts : List Terminal) → Stops 1 ts → Stops 0 ts
stops_at_0 ts d op e = omega (arith, d op e, level_pos op)

module _ (r : Reader) (sound : IsSound r) where
  pub arguments_take : (n : ℕ) (ts : List Terminal) → IfSome (arguments_at r n ts) (λ x. (q : Span) × Takes (λ us. DerivesArguments x.0 us) ts (symbol symbols.Close q ∷ x.1))
  unfolding arguments_at
  arguments_take zero ts = tt
  arguments_take (suc n) ts =
      then_some (r 0 ts) _ _ (sound 0 ts) (λ first d.
      either_some (starts symbols.Comma first.1) _ _ _
      (λ e. let c = starts-true symbols.Comma first.1 e in
      then_some (arguments_at r n (tail first.1)) _ _ (arguments_take n (tail first.1)) (λ others ds.
      (ds.0, record { front = d.0.front ++ symbol symbols.Comma c.0 ∷ ds.1.front; parts = simp append_assoc cc; fact = one_more c.0 d.0.fact ds.1.fact })))
      (λ e. then_some (expect symbols.Close first.1) _ _ (expect_takes symbols.Close first.1) (λ rest c.
      (c.0, record { front = d.0.front; parts = cc; fact = the_last d.0.fact }))))

  after_name_takes : (p : Span) (w : Text) (ts : List Terminal) → IfSome (after_name r p w ts) (λ x. Takes (DerivesOperand x.0) (name_token w p ∷ ts) x.1)
  unfolding after_name
  after_name_takes p w ts =
      either_some (starts symbols.OpenIndex ts) _ _ _
      (λ e. let c = starts-true symbols.OpenIndex ts e in
      then_some (r 0 (tail ts)) _ _ (sound 0 (tail ts)) (λ x d.
      then_some (expect symbols.CloseIndex x.1) _ _ (expect_takes symbols.CloseIndex x.1) (λ rest f.
      record { front = _; parts = simp append_assoc cc; fact = λ k. an_element c.0 f.0 d.0.fact })))
      (λ _. either_some (starts symbols.Open ts) _ _ _
      (λ e. let c = starts-true symbols.Open ts e in
      either_some (starts symbols.Close (tail ts)) _ _ _
      (λ g. let f = starts-true symbols.Close (tail ts) g in
      record { front = _; parts = cc; fact = λ k. a_bare_call c.0 f.0 })
      (λ _. then_some (arguments_at r (length (tail ts)) (tail ts)) _ _ (arguments_take (length (tail ts)) (tail ts)) (λ x d.
      record { front = _; parts = simp append_assoc cc; fact = λ k. a_call c.0 d.0 d.1.fact })))
      (λ _. record { front = _; parts = refl; fact = λ k. a_name }))

  after_open_takes : (p : Span) (ts : List Terminal) → IfSome (after_open r p ts) (λ x. Takes (DerivesOperand x.0) (symbol symbols.Open p ∷ ts) x.1)
  unfolding after_open
  after_open_takes p ts =
      either_some (starts_type ts) _ _ _
      (λ _. then_some (type_at ts) _ _ (type_takes ts) (λ kind d.
      then_some (expect symbols.Close kind.1) _ _ (expect_takes symbols.Close kind.1) (λ rest f.
      then_some (r 11 rest) _ _ (sound 11 rest) (λ x g.
      record { front = _; parts = simp append_assoc cc; fact = λ k. a_cast f.0 d.1.fact.0 d.1.fact.1 g.0.fact }))))
      (λ _. then_some (r 0 ts) _ _ (sound 0 ts) (λ x d.
      then_some (expect symbols.Close x.1) _ _ (expect_takes symbols.Close x.1) (λ rest f.
      record { front = _; parts = simp append_assoc cc; fact = λ k. parens p f.0 d.0.fact })))

  after_prefix_takes : (o : Option Prefix) (m : Symbol) (p : Span) (ts : List Terminal) → prefix_of m ≡ o → IfSome (after_prefix r o p ts) (λ x. Takes (DerivesOperand x.0) (symbol m p ∷ ts) x.1)
  after_prefix_takes None m p ts e = tt
  after_prefix_takes (Some op) m p ts e =
      let same = prefix_of-some m op e in
      then_some (r 11 ts) _ _ (sound 11 ts) (λ x d. rw same (record { front = symbol (prefix_symbol op) p ∷ d.0.front; parts = cc; fact = λ k. a_prefix {p = p} op d.0.fact }))

  operand_of_symbol_takes : (m : Symbol) (p : Span) (ts : List Terminal) → IfSome (operand_of r (sign.Symbol m) p ts) (λ x. Takes (DerivesOperand x.0) (symbol m p ∷ ts) x.1)
  operand_of_symbol_takes m p ts =
      either_some (is_symbol symbols.Open (sign.Symbol m)) _ _ _
      (λ e. let same : sign.Symbol m ≡ sign.Symbol symbols.Open = is_symbol-true symbols.Open (sign.Symbol m) e in let is : m ≡ symbols.Open = cc in rw is (after_open_takes p ts))
      (λ _. after_prefix_takes (prefix_of m) m p ts refl)

  operand_of_takes : (s : Sign) (p : Span) (ts : List Terminal) → IfSome (operand_of r s p ts) (λ x. Takes (DerivesOperand x.0) (record { sign = s; span = p } ∷ ts) x.1)
  operand_of_takes (sign.Number n kind) p ts = record { front = _; parts = refl; fact = λ k. a_number }
  operand_of_takes (sign.Name w) p ts = after_name_takes p w ts
  operand_of_takes (sign.Symbol m) p ts = operand_of_symbol_takes m p ts
  operand_of_takes (sign.Type w) p ts = tt
  operand_of_takes sign.Foreign p ts = tt
  operand_of_takes sign.Unknown p ts = tt

  pub operand_takes : (ts : List Terminal) → IfSome (operand_at r ts) (λ x. Takes (DerivesOperand x.0) ts x.1)
  unfolding operand_at
  operand_takes [] = tt
  operand_takes (t ∷ ts) = operand_of_takes t.sign t.span ts

  operators_take : (n k : ℕ) (p : Span) (t : ExprTree) (all ts : List Terminal) → length ts ≤ n → Operand k p t all ts
      → IfSome (operators_at r n k p t ts) (λ x. Operand k p x.0 all x.1 × Stops k x.1)
  unfolding operators_at
  operators_take zero k p t all ts small d = (d, nothing_stops k ts small)
  operators_take (suc n) k p t all ts small d =
      by_operator_some k (infix_at ts) _ (Some (t, ts)) _
      (λ op e le. let f = infix_at-some op ts e in
      then_some (r (suc (level op)) (tail ts)) _ _ (sound (suc (level op)) (tail ts)) (λ x g.
      operators_take n k p (tree p (joined op t x.0)) all x.1 (omega (arith, ap length f.1, length-parts (tail ts) g.0.front x.1 g.0.parts)) (record {
        front = d.front ++ symbol (infix_symbol op) f.0 ∷ g.0.front;
        parts = simp append_assoc cc;
        here = rw d.span_is (an_infix op f.0 le (d.next op e) g.0.fact);
        next = λ o h. rw d.span_is (an_infix {k = level o} op f.0 (omega (arith, g.1 o h)) (d.next op e) g.0.fact);
        span_is = d.span_is ∙ sym (first_stays d.here _);
      })))
      (λ stays. (d, stays))

  pub level_takes : (k : ℕ) (ts : List Terminal) → IfSome (level_by r k ts) (λ x. Takes (λ us. Derives k x.0 us × (first_span ts ≡ first_span us)) ts x.1 × Stops k x.1)
  unfolding level_by
  level_takes k ts =
      then_some (operand_at r ts) _ _ (operand_takes ts) (λ t d.
      IfSome_then (operators_at r (length t.1) k (first_span ts) t.0 t.1)
      (operators_take (length t.1) k (first_span ts) t.0 ts t.1 (omega arith) (record {
        front = d.front;
        parts = d.parts;
        here = d.fact k;
        next = λ op _. d.fact (level op);
        span_is = ap first_span d.parts ∙ first_stays (d.fact 0) t.1;
      })) (λ x g. (record { front = g.0.front; parts = g.0.parts; fact = (g.0.here, g.0.span_is) }, g.1)))

  choice_takes : (ts : List Terminal) → IfSome (choice_by r ts) (λ x. Takes (DerivesChoice x.0) ts x.1 × Stops 0 x.1)
  unfolding choice_by
  choice_takes ts =
      then_some (level_by r 1 ts) _ _ (level_takes 1 ts) (λ c d.
      either_some (starts symbols.Question c.1) _ _ _
      (λ e. let f = starts-true symbols.Question c.1 e in
      then_some (r 0 (tail c.1)) _ _ (sound 0 (tail c.1)) (λ a g.
      then_some (expect symbols.Colon a.1) _ _ (expect_takes symbols.Colon a.1) (λ rest h.
      then_some (r 0 rest) _ _ (sound 0 rest) (λ b i. (
        record {
          front = d.0.front ++ symbol symbols.Question f.0 ∷ (g.0.front ++ symbol symbols.Colon h.0 ∷ i.0.front);
          parts = simp append_assoc cc;
          fact = rw d.0.fact.1 (a_choice f.0 h.0 d.0.fact.0 g.0.fact i.0.fact);
        },
        i.1,
      )))))
      (λ _. (record { front = d.0.front; parts = d.0.parts; fact = a_plain d.0.fact.0 }, stops_at_0 c.1 d.1)))

pub expr_takes : (n : ℕ) → IsSound (expr_at n)
unfolding expr_at
expr_takes zero k ts = tt
expr_takes (suc n) zero ts = choice_takes (expr_at n) (expr_takes n) ts
expr_takes (suc n) (suc k) ts =
    IfSome_then (level_by (expr_at n) (suc k) ts) (level_takes (expr_at n) (expr_takes n) (suc k) ts) (λ x d. (record { front = d.0.front; parts = d.0.parts; fact = d.0.fact.0 }, d.1))

pub expr_in_takes : IsSound expr_in
unfolding expr_in
expr_in_takes k ts = expr_takes (suc (length ts)) k ts
