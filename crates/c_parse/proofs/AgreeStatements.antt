-- Readers of statements that agree on fewer tokens read the same: a bound on how deep statements nest that is above the
-- number of the tokens is none.
use Rattle.std.proofs.Common.{◌≡◌, ℕ, zero, suc, ◌≤◌, ◌<◌, List, [], ◌∷◌, length, Option, Some, None, refl, ap, ◌∙◌, arith}
use Rattle.std.specs.Prelude.{IfSome}
use Rattle.fq_core.specs.declared.span.Span.{Span}
use Rattle.c_parse.specs.declared.sign.Terminal.{Terminal}
use Rattle.c_parse.specs.declared.sign.Sign.{Sign}
use Rattle.c_parse.specs.declared.sign.Sign.TheVariants as sign
use Rattle.c_parse.specs.declared.sign.Symbol.{Symbol}
use Rattle.c_parse.specs.declared.sign.Symbol.TheVariants as symbols
use Rattle.c_parse.specs.declared.expr.ExprTree.{ExprTree}
use Rattle.c_parse.specs.declared.statement.CaseLabel.{CaseLabel}
use Rattle.c_parse.specs.declared.statement.Group.{Group}
use Rattle.c_parse.specs.declared.statement.Statement.{Statement}
use Rattle.c_parse.specs.declared.statement.Form.TheVariants as form
use Rattle.c_parse.specs.Grammar.{Text}
use Rattle.c_parse.specs.StatementTrees.{statement, group}
use Rattle.c_parse.specs.Reading.{◌>>=◌, Read, starts, tail, expect}
use Rattle.c_parse.specs.ReadingStatements.{starts_local, test_at, optional_at, begin_at, next_at, labels_at, Reads, one_at, ends_body, body_at, groups_at, arms_at, do_at, for_at, switch_at, statement_of_symbol, labelled_at, statement_of, statement_by, statement_at, statement_in}
use Rattle.c_parse.proofs.Takes.{Takes, length-parts}
use Rattle.c_parse.proofs.TakesStatements.{IsSoundHere, optional_takes, begin_takes, next_takes, labels_take, one_takes, body_take, statement_takes}
use Rattle.c_parse.proofs.Agree.{then_same, either_same, tail_most, expect_fewer}
use Rattle.c_parse.proofs.Shorter.{test_fewer}

pub taken_most : {A : Type 0} (P : A → List Terminal → Type 0) (read : Read A) (ts : List Terminal) (x : A × List Terminal) → read ≡ Some x → IfSome read (λ y. Takes (P y.0) ts y.1) → length x.1 ≤ length ts
taken_most P read ts x e h = let d = rw e at h in length-parts ts d.front x.1 d.parts

pub labels_most : (n : ℕ) (ts : List Terminal) (x : List CaseLabel × List Terminal) → labels_at n ts ≡ Some x → length x.1 ≤ length ts
labels_most n ts x e = let h = labels_take n ts in let d = rw e at h in length-parts ts d.0.front x.1 d.0.parts

no_test : (us : List Terminal) → length us ≤ 0 → test_at us ≡ None
unfolding test_at
no_test [] le = refl
no_test (u ∷ us) le = absurd (omega arith)

module _ (r : Reads) (sound : IsSoundHere r) where
  pub reads_most : (ts : List Terminal) (x : Statement × List Terminal) → r ts ≡ Some x → length x.1 ≤ length ts
  reads_most ts x e = let h = sound ts in let d = rw e at h in length-parts ts d.1.front x.1 d.1.parts

  pub one_most : (ts : List Terminal) (x : Statement × List Terminal) → one_at r ts ≡ Some x → length x.1 ≤ length ts
  one_most ts x e = let h = one_takes r sound ts in let d = rw e at h in length-parts ts d.front x.1 d.parts

  pub body_most : (n : ℕ) (ts : List Terminal) (x : List Statement × List Terminal) → body_at r n ts ≡ Some x → length x.1 ≤ length ts
  body_most n ts x e = let h = body_take r sound n ts in let d = rw e at h in length-parts ts d.0.front x.1 d.0.parts

  -- more arms than tokens are not read
  pub arms_enough : (n m : ℕ) (ts : List Terminal) → length ts ≤ n → length ts ≤ m → arms_at r n ts ≡ arms_at r m ts
  unfolding arms_at
  arms_enough zero zero ts a b = refl
  arms_enough zero (suc m) ts a b = let none = no_test ts a in rw none refl
  arms_enough (suc n) zero ts a b = let none = no_test ts b in rw none refl
  arms_enough (suc n) (suc m) ts a b =
      then_same (test_at ts) _ _ (λ c e.
      then_same (r c.1) _ _ (λ s f.
      either_same (starts symbols.Else s.1) _ _ _ _
      (λ g. either_same (starts symbols.If (tail s.1)) _ _ _ _
      (λ h.
      let few : length (tail (tail s.1)) < length ts = omega (arith, test_fewer ts c.1 c.0 e, reads_most c.1 s f, tail_most s.1, tail_most (tail s.1)) in
      ap (λ (o : Read (List (ExprTree × Statement) × Option Statement)). o >>= λ x. Some (((c.0, s.0) ∷ x.0.0, x.0.1), x.1)) (arms_enough n m (tail (tail s.1)) (omega (arith, few)) (omega (arith, few))))
      (λ h. refl))
      (λ g. refl)))

-- what follows a statement of a body, the labels of a group, and its body
abbrev with_others : Reads → ℕ → Statement × List Terminal → Read (List Statement)
with_others q n x = body_at q n x.1 >>= λ ss. Some (x.0 ∷ ss.0, ss.1)

abbrev other_groups : Reads → ℕ → List CaseLabel → List Statement × List Terminal → Read (List Group)
other_groups q n ls ss = groups_at q n ss.1 >>= λ gs. Some (group ls ss.0 ∷ gs.0, gs.1)

abbrev group_and_others : Reads → ℕ → List CaseLabel × List Terminal → Read (List Group)
group_and_others q n ls = body_at q (length ls.1) ls.1 >>= other_groups q n ls.0

module _ (r s : Reads) (size : ℕ) (sound : IsSoundHere r) (agree : (ts : List Terminal) → length ts < size → r ts ≡ s ts) where
  read_same : {B : Type 0} (ts : List Terminal) (f g : Statement × List Terminal → Option B) → length ts < size → ((x : Statement × List Terminal) → length x.1 ≤ length ts → f x ≡ g x) → (r ts >>= f) ≡ (s ts >>= g)
  read_same ts f g lt h = then_same (r ts) f g (λ x e. h x (reads_most r sound ts x e)) ∙ ap (λ (o : Read Statement). o >>= g) (agree ts lt)

  one_same : (ts : List Terminal) → length ts < size → one_at r ts ≡ one_at s ts
  one_same ts lt = either_same (starts_local ts) _ _ _ _ (λ e. refl) (λ e. agree ts lt)

  pub body_same : (n : ℕ) (ts : List Terminal) → length ts < size → body_at r n ts ≡ body_at s n ts
  unfolding body_at
  body_same zero ts lt = refl
  body_same (suc n) ts lt =
      either_same (ends_body ts) _ _ _ _ (λ e. refl)
      (λ e.
      then_same (one_at r ts) (with_others r n) (with_others s n) (λ x f. ap (λ (o : Read (List Statement)). o >>= λ ss. Some (x.0 ∷ ss.0, ss.1)) (body_same n x.1 (omega (arith, one_most r sound ts x f))))
      ∙ ap (λ (o : Read Statement). o >>= with_others s n) (one_same ts lt))

  groups_same : (n : ℕ) (ts : List Terminal) → length ts < size → groups_at r n ts ≡ groups_at s n ts
  unfolding groups_at
  groups_same zero ts lt = refl
  groups_same (suc n) ts lt =
      either_same (starts symbols.CloseBrace ts) _ _ _ _ (λ e. refl)
      (λ e.
      then_same (labels_at (length ts) ts) (group_and_others r n) (group_and_others s n) (λ ls f.
      let few = labels_most (length ts) ts ls f in
      then_same (body_at r (length ls.1) ls.1) (other_groups r n ls.0) (other_groups s n ls.0) (λ ss g. ap (λ (o : Read (List Group)). o >>= λ gs. Some (group ls.0 ss.0 ∷ gs.0, gs.1)) (groups_same n ss.1 (omega (arith, few, body_most r sound (length ls.1) ls.1 ss g))))
      ∙ ap (λ (o : Read (List Statement)). o >>= other_groups s n ls.0) (body_same (length ls.1) ls.1 (omega (arith, few)))))

  arms_same : (n : ℕ) (ts : List Terminal) → length ts < size → arms_at r n ts ≡ arms_at s n ts
  unfolding arms_at
  arms_same zero ts lt = refl
  arms_same (suc n) ts lt =
      then_same (test_at ts) _ _ (λ c e.
      let few = test_fewer ts c.1 c.0 e in
      read_same c.1 _ _ (omega (arith, few)) (λ x le.
      either_same (starts symbols.Else x.1) _ _ _ _
      (λ f. either_same (starts symbols.If (tail x.1)) _ _ _ _
      (λ g. ap (λ (o : Read (List (ExprTree × Statement) × Option Statement)). o >>= λ y. Some (((c.0, x.0) ∷ y.0.0, y.0.1), y.1)) (arms_same n (tail (tail x.1)) (omega (arith, few, le, tail_most x.1, tail_most (tail x.1)))))
      (λ g. read_same (tail x.1) _ _ (omega (arith, few, le, tail_most x.1)) (λ y l. refl)))
      (λ f. refl)))

  for_same : (p : Span) (ts : List Terminal) → length ts < size → for_at r p ts ≡ for_at s p ts
  unfolding for_at
  for_same p ts lt =
      then_same (expect symbols.Open ts) _ _ (λ a ea.
      then_same (begin_at a) _ _ (λ i ei.
      then_same (optional_at i.1) _ _ (λ c ec.
      then_same (expect symbols.Semicolon c.1) _ _ (λ b eb.
      then_same (next_at b) _ _ (λ j ej.
      then_same (expect symbols.Close j.1) _ _ (λ d ed.
      read_same d _ _ (omega (arith, expect_fewer symbols.Open ts a ea, taken_most _ (begin_at a) a i ei (begin_takes a), taken_most _ (optional_at i.1) i.1 c ec (optional_takes i.1), expect_fewer symbols.Semicolon c.1 b eb, taken_most _ (next_at b) b j ej (next_takes b), expect_fewer symbols.Close j.1 d ed)) (λ x le. refl)))))))

  switch_same : (p : Span) (ts : List Terminal) → length ts < size → switch_at r p ts ≡ switch_at s p ts
  unfolding switch_at
  switch_same p ts lt =
      then_same (test_at ts) _ _ (λ c e.
      then_same (expect symbols.OpenBrace c.1) _ _ (λ a f.
      ap (λ (o : Read (List Group)). o >>= λ gs. Some (statement p (form.Switch c.0 gs.0), gs.1)) (groups_same (length a) a (omega (arith, test_fewer ts c.1 c.0 e, expect_fewer symbols.OpenBrace c.1 a f)))))

  do_same : (p : Span) (ts : List Terminal) → length ts < size → do_at r p ts ≡ do_at s p ts
  unfolding do_at
  do_same p ts lt = read_same ts _ _ lt (λ x le. refl)

  of_symbol_same : (m : Symbol) (p : Span) (ts : List Terminal) → length ts < size → statement_of_symbol r m p ts ≡ statement_of_symbol s m p ts
  of_symbol_same symbols.OpenBrace p ts lt = ap (λ (o : Read (List Statement)). o >>= λ ss. expect symbols.CloseBrace ss.1 >>= λ rest. Some (statement p (form.Block ss.0), rest)) (body_same (length ts) ts lt)
  of_symbol_same symbols.If p ts lt = ap (λ (o : Read (List (ExprTree × Statement) × Option Statement)). o >>= λ x. Some (statement p (form.If x.0.0 x.0.1), x.1)) (arms_same (length ts) ts lt)
  of_symbol_same symbols.While p ts lt = then_same (test_at ts) _ _ (λ c e. read_same c.1 _ _ (omega (arith, test_fewer ts c.1 c.0 e)) (λ x le. refl))
  of_symbol_same symbols.Do p ts lt = do_same p ts lt
  of_symbol_same symbols.For p ts lt = for_same p ts lt
  of_symbol_same symbols.Switch p ts lt = switch_same p ts lt
  of_symbol_same _ p ts lt = refl

  labelled_same : (p : Span) (w : Text) (ts : List Terminal) → length ts < size → labelled_at r p w ts ≡ labelled_at s p w ts
  unfolding labelled_at
  labelled_same p w ts lt = either_same (starts symbols.Colon ts) _ _ _ _ (λ e. read_same (tail ts) _ _ (omega (arith, tail_most ts)) (λ x le. refl)) (λ e. refl)

  of_sign_same : (f : Sign) (p : Span) (ts : List Terminal) → length ts < size → statement_of r f p ts ≡ statement_of s f p ts
  of_sign_same (sign.Symbol m) p ts lt = of_symbol_same m p ts lt
  of_sign_same (sign.Name w) p ts lt = labelled_same p w ts lt
  of_sign_same _ p ts lt = refl

  statement_by_same : (ts : List Terminal) → length ts ≤ size → statement_by r ts ≡ statement_by s ts
  unfolding statement_by
  statement_by_same [] le = refl
  statement_by_same (t ∷ ts) le = of_sign_same t.sign t.span ts (omega arith)

statement_enough : (n m : ℕ) (ts : List Terminal) → length ts < n → length ts < m → statement_at n ts ≡ statement_at m ts
unfolding statement_at
statement_enough zero m ts a b = absurd (omega arith)
statement_enough (suc n) zero ts a b = absurd (omega arith)
statement_enough (suc n) (suc m) ts a b = statement_by_same (statement_at n) (statement_at m) (length ts) (statement_takes n) (λ us lt. statement_enough n m us (omega arith) (omega arith)) ts (omega arith)

-- a bound that is large enough is none
bound_enough : (n : ℕ) (ts : List Terminal) → length ts < n → statement_at n ts ≡ statement_in ts
unfolding statement_in
bound_enough n ts lt = statement_enough n (suc (length ts)) ts lt (omega arith)

pub body_unbounded : (n m : ℕ) (ts : List Terminal) → length ts < n → body_at (statement_at n) m ts ≡ body_at statement_in m ts
body_unbounded n m ts lt = body_same (statement_at n) statement_in n (statement_takes n) (λ us l. bound_enough n us l) m ts lt

-- a statement is read without a bound as with one
pub statement_unbounded : (ts : List Terminal) → statement_in ts ≡ statement_by statement_in ts
unfolding statement_in statement_at
statement_unbounded ts = statement_by_same (statement_at (length ts)) statement_in (length ts) (statement_takes (length ts)) (λ us lt. bound_enough (length ts) us lt) ts (omega arith)
