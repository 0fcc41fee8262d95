-- What is spelled as a filter is read again, whatever follows.
use Rattle.std.proofs.Common.{◌≡◌, ℕ, zero, suc, ◌≤◌, ◌<◌, List, [], ◌∷◌, ◌++◌, length, Option, Some, refl, append_assoc, arith}
use Rattle.std.proofs.lemmas.List.{length-append}
use Rattle.fq_core.specs.declared.statement_kind.StatementKind.{StatementKind}
use Rattle.fql_tokens.specs.declared.token.Mark.TheVariants as marks
use Rattle.fql_tokens.specs.declared.token.Sign.{Sign}
use Rattle.fql_tokens.specs.declared.token.Token.{Token}
use Rattle.fql_read.specs.declared.operator.Head.TheVariants as head
use Rattle.fql_read.specs.declared.operator.BareFilter.{BareFilter}
use Rattle.fql_read.specs.declared.operator.NamedFilter.{NamedFilter}
use Rattle.fql_read.specs.declared.operator.SingleFilter.{SingleFilter}
use Rattle.fql_read.specs.declared.operator.DoubleFilter.{DoubleFilter}
use Rattle.fql_read.specs.declared.filter.Filter.{Filter}
use Rattle.fql_read.specs.declared.filter.FilterForm.TheVariants as form
use Rattle.fql_read.specs.Forms.{Text, filter, bare_form, named_form, single_form, double_form}
use Rattle.fql_read.specs.Tables.{head_of, name_in, file_in, number_in}
use Rattle.fql_read.specs.Spelled.{mark, DerivesKinds, last_kind, more_kinds, DerivesFilter, a_bare, a_named, a_file, a_line, some_kinds, a_single, a_double}
use Rattle.fql_read.specs.Reading.{Read, FilterReader, bracketed_at, kinds_at, kinds_in, single_at, double_at, after_head, filter_by, filter_at, filter_in}

bracketed_again : {A : Type 0} (f : Sign → Option A) (a : A) (u : Token) (p q : ℕ) (rest : List Token) → f u.sign ≡ Some a → bracketed_at f (mark marks.Open p ∷ u ∷ mark marks.Close q ∷ rest) ≡ Some (a, rest)
unfolding bracketed_at
bracketed_again f a u p q rest e = rw e refl

kinds_again : {ks : List StatementKind} {ts : List Token} → DerivesKinds ks ts → (n q : ℕ) (rest : List Token) → length ts ≤ n → kinds_at n (ts ++ mark marks.Close q ∷ rest) ≡ Some (ks, rest)
unfolding kinds_at
kinds_again (last_kind t e) zero q rest le = absurd (omega arith)
kinds_again (last_kind t e) (suc n) q rest le = rw e refl
kinds_again (more_kinds t p e d) zero q rest le = absurd (omega arith)
kinds_again (more_kinds t p e d) (suc n) q rest le = rw (e, kinds_again d n q rest (omega arith)) refl

kinds_in_again : (ks : List StatementKind) (ts : List Token) (p q : ℕ) (rest : List Token) → DerivesKinds ks ts → kinds_in (mark marks.Open p ∷ (ts ++ mark marks.Close q ∷ rest)) ≡ Some (ks, rest)
unfolding kinds_in
kinds_in_again ks ts p q rest d = kinds_again d (length (ts ++ mark marks.Close q ∷ rest)) q rest (omega (arith, length-append ts (mark marks.Close q ∷ rest)))

pub single_again : {A : Type 0} (r : List Token → Read A) (g : A) (ts : List Token) (p q : ℕ) (rest : List Token) → r (ts ++ mark marks.Close q ∷ rest) ≡ Some (g, mark marks.Close q ∷ rest)
    → single_at r (mark marks.Open p ∷ (ts ++ mark marks.Close q ∷ rest)) ≡ Some (g, rest)
unfolding single_at
single_again r g ts p q rest e = rw e refl

double_again : (r : FilterReader) (g h : Filter) (xs ys : List Token) (p q s : ℕ) (rest : List Token)
    → r (xs ++ mark marks.Comma q ∷ (ys ++ mark marks.Close s ∷ rest)) ≡ Some (g, mark marks.Comma q ∷ (ys ++ mark marks.Close s ∷ rest))
    → r (ys ++ mark marks.Close s ∷ rest) ≡ Some (h, mark marks.Close s ∷ rest)
    → double_at r (mark marks.Open p ∷ (xs ++ mark marks.Comma q ∷ (ys ++ mark marks.Close s ∷ rest))) ≡ Some ((g, h), rest)
unfolding double_at
double_again r g h xs ys p q s rest e f = rw (e, f) refl

-- ---- a rule at a time: r is a reader, and the premises say what it gives at the parts

module _ (r : FilterReader) (t : Token) where
  bare_again : (f : BareFilter) (rest : List Token) → head_of t.sign ≡ head.Bare f → filter_by r (t ∷ rest) ≡ Some (filter t.column (bare_form f), rest)
  unfolding after_head
  bare_again f rest e = rw e refl

  named_again : (f : NamedFilter) (w : Text) (u : Token) (p q : ℕ) (rest : List Token) → head_of t.sign ≡ head.Named f → name_in u.sign ≡ Some w
      → filter_by r (t ∷ mark marks.Open p ∷ u ∷ mark marks.Close q ∷ rest) ≡ Some (filter t.column (named_form f w), rest)
  unfolding after_head
  named_again f w u p q rest e h = rw (e, bracketed_again name_in w u p q rest h) refl

  file_again : (w : Text) (u : Token) (p q : ℕ) (rest : List Token) → head_of t.sign ≡ head.File → file_in u.sign ≡ Some w
      → filter_by r (t ∷ mark marks.Open p ∷ u ∷ mark marks.Close q ∷ rest) ≡ Some (filter t.column (form.File w), rest)
  unfolding after_head
  file_again w u p q rest e h = rw (e, bracketed_again file_in w u p q rest h) refl

  line_again : (n : ℕ) (u : Token) (p q : ℕ) (rest : List Token) → head_of t.sign ≡ head.Line → number_in u.sign ≡ Some n
      → filter_by r (t ∷ mark marks.Open p ∷ u ∷ mark marks.Close q ∷ rest) ≡ Some (filter t.column (form.Line n), rest)
  unfolding after_head
  line_again n u p q rest e h = rw (e, bracketed_again number_in n u p q rest h) refl

  some_kinds_again : (ks : List StatementKind) (ts : List Token) (p q : ℕ) (rest : List Token) → head_of t.sign ≡ head.Kinds → DerivesKinds ks ts
      → filter_by r (t ∷ mark marks.Open p ∷ (ts ++ mark marks.Close q ∷ []) ++ rest) ≡ Some (filter t.column (form.StatementTypes ks), rest)
  unfolding after_head
  some_kinds_again ks ts p q rest e d = rw (append_assoc, e, kinds_in_again ks ts p q rest d) refl

  one_again : (f : SingleFilter) (g : Filter) (ts : List Token) (p q : ℕ) (rest : List Token) → head_of t.sign ≡ head.Single f → r (ts ++ mark marks.Close q ∷ rest) ≡ Some (g, mark marks.Close q ∷ rest)
      → filter_by r (t ∷ mark marks.Open p ∷ (ts ++ mark marks.Close q ∷ []) ++ rest) ≡ Some (filter t.column (single_form f g), rest)
  unfolding after_head
  one_again f g ts p q rest e h = rw (append_assoc, e, single_again r g ts p q rest h) refl

  two_again : (f : DoubleFilter) (g h : Filter) (xs ys : List Token) (p q s : ℕ) (rest : List Token) → head_of t.sign ≡ head.Double f
      → r (xs ++ mark marks.Comma q ∷ (ys ++ mark marks.Close s ∷ rest)) ≡ Some (g, mark marks.Comma q ∷ (ys ++ mark marks.Close s ∷ rest))
      → r (ys ++ mark marks.Close s ∷ rest) ≡ Some (h, mark marks.Close s ∷ rest)
      → filter_by r (t ∷ mark marks.Open p ∷ (xs ++ mark marks.Comma q ∷ (ys ++ mark marks.Close s ∷ [])) ++ rest) ≡ Some (filter t.column (double_form f g h), rest)
  unfolding after_head
  two_again f g h xs ys p q s rest e one two =
      let regroup : (xs ++ mark marks.Comma q ∷ (ys ++ mark marks.Close s ∷ [])) ++ rest ≡ xs ++ mark marks.Comma q ∷ (ys ++ mark marks.Close s ∷ rest) = simp append_assoc in
      rw (regroup, e, double_again r g h xs ys p q s rest one two) refl

-- from a fuel that is not 0
at_filter : (n : ℕ) (ts : List Token) (x : Read Filter) → 0 < n → ((m : ℕ) → suc m ≡ n → filter_by (filter_at m) ts ≡ x) → filter_at n ts ≡ x
unfolding filter_at
at_filter zero ts x some d = absurd (omega arith)
at_filter (suc m) ts x some d = d m refl

filter_again : {g : Filter} {xs : List Token} → DerivesFilter g xs → (n : ℕ) (rest : List Token) → length xs ≤ n → filter_at n (xs ++ rest) ≡ Some (g, rest)
filter_again (a_bare t e) n rest le = at_filter n _ _ (omega arith) (λ m s. bare_again (filter_at m) t _ rest e)
filter_again (a_named t u p q e h) n rest le = at_filter n _ _ (omega arith) (λ m s. named_again (filter_at m) t _ _ u p q rest e h)
filter_again (a_file t u p q e h) n rest le = at_filter n _ _ (omega arith) (λ m s. file_again (filter_at m) t _ u p q rest e h)
filter_again (a_line t u p q e h) n rest le = at_filter n _ _ (omega arith) (λ m s. line_again (filter_at m) t _ u p q rest e h)
filter_again (some_kinds {ts = ts} t p q e d) n rest le = at_filter n _ _ (omega arith) (λ m s. some_kinds_again (filter_at m) t _ ts p q rest e d)
filter_again (a_single {ts = ts} t p q e d) n rest le =
    at_filter n _ _ (omega arith) (λ m s. one_again (filter_at m) t _ _ ts p q rest e (filter_again d m (mark marks.Close q ∷ rest) (omega (arith, length-append {A = Token}))))
filter_again (a_double {xs = xs} {ys = ys} t p q r e d f) n rest le =
    at_filter n _ _ (omega arith) (λ m s. two_again (filter_at m) t _ _ _ xs ys p q r rest e
    (filter_again d m (mark marks.Comma q ∷ (ys ++ mark marks.Close r ∷ rest)) (omega (arith, length-append {A = Token})))
    (filter_again f m (mark marks.Close r ∷ rest) (omega (arith, length-append {A = Token}))))

pub filter_in_again : {g : Filter} {xs : List Token} → DerivesFilter g xs → (rest : List Token) → filter_in (xs ++ rest) ≡ Some (g, rest)
unfolding filter_in
filter_in_again {g} {xs} d rest = filter_again d (suc (length (xs ++ rest))) rest (omega (arith, length-append xs rest))
