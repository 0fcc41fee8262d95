-- What is read as a filter is spelled by the tokens that were taken.
use Rattle.std.proofs.Common.{◌≡◌, ℕ, zero, suc, List, [], ◌∷◌, ◌++◌, length, Option, Some, None, refl, ap, ◌∙◌, append_assoc}
use Rattle.std.specs.Prelude.{IfSome}
use Rattle.fq_core.specs.declared.statement_kind.StatementKind.{StatementKind}
use Rattle.fql_tokens.specs.declared.token.Mark.TheVariants as marks
use Rattle.fql_tokens.specs.declared.token.Sign.{Sign}
use Rattle.fql_tokens.specs.declared.token.Token.{Token}
use Rattle.fql_read.specs.declared.operator.Head.{Head}
use Rattle.fql_read.specs.declared.operator.Head.TheVariants as head
use Rattle.fql_read.specs.declared.filter.Filter.{Filter}
use Rattle.fql_read.specs.Tables.{head_of, name_in, file_in, number_in, kind_in}
use Rattle.fql_read.specs.Spelled.{mark, DerivesKinds, last_kind, more_kinds, DerivesFilter, a_bare, a_named, a_file, a_line, some_kinds, a_single, a_double}
use Rattle.fql_read.specs.Reading.{Read, FilterReader, starts, tail, expect, one_at, bracketed_at, kinds_at, kinds_in, single_at, double_at, after_head, filter_by, filter_at, filter_in}
use Rattle.fql_read.proofs.Steps.{then_some, either_some, starts-true, expect_takes, one_takes}

-- the tokens are some with this fact, and then the rest
pub record Takes (P : List Token → Type 0) (tokens rest : List Token) : Type 0 where
  pub front : List Token
  pub parts : tokens ≡ front ++ rest
  pub fact : P front

-- one token in parentheses
pub record Brackets {A : Type 0} (f : Sign → Option A) (a : A) (ts rest : List Token) : Type 0 where
  pub inner : Token
  pub begin : ℕ
  pub end : ℕ
  pub parts : ts ≡ mark marks.Open begin ∷ inner ∷ mark marks.Close end ∷ rest
  pub holds : f inner.sign ≡ Some a

bracketed_takes : {A : Type 0} (f : Sign → Option A) (ts : List Token) → IfSome (bracketed_at f ts) (λ x. Brackets f x.0 ts x.1)
unfolding bracketed_at
bracketed_takes f ts =
    then_some (expect marks.Open ts) _ _ (expect_takes marks.Open ts) (λ a o.
    then_some (one_at f a) _ _ (one_takes f a) (λ x h.
    then_some (expect marks.Close x.1) _ _ (expect_takes marks.Close x.1) (λ rest c.
    record { inner = h.0; begin = o.0; end = c.0; parts = o.1 ∙ ap (λ us. mark marks.Open o.0 ∷ us) (h.2 ∙ ap (λ us. h.0 ∷ us) c.1); holds = h.1 })))

kinds_take : (n : ℕ) (ts : List Token) → IfSome (kinds_at n ts) (λ x. (q : ℕ) × Takes (λ us. DerivesKinds x.0 us) ts (mark marks.Close q ∷ x.1))
unfolding kinds_at
kinds_take zero ts = tt
kinds_take (suc n) ts =
    then_some (one_at kind_in ts) _ _ (one_takes kind_in ts) (λ first h.
    either_some (starts marks.Comma first.1) _ _ _
    (λ e. let c = starts-true marks.Comma first.1 e in
    then_some (kinds_at n (tail first.1)) _ _ (kinds_take n (tail first.1)) (λ others ds.
    (ds.0, record { front = h.0 ∷ mark marks.Comma c.0 ∷ ds.1.front; parts = cc; fact = more_kinds h.0 c.0 h.1 ds.1.fact })))
    (λ e. then_some (expect marks.Close first.1) _ _ (expect_takes marks.Close first.1) (λ rest c.
    (c.0, record { front = h.0 ∷ []; parts = cc; fact = last_kind h.0 h.1 }))))

-- what stands in parentheses, with a first and a last mark
pub record Inside (P : List Token → Type 0) (ts rest : List Token) : Type 0 where
  pub front : List Token
  pub begin : ℕ
  pub end : ℕ
  pub parts : ts ≡ mark marks.Open begin ∷ (front ++ mark marks.Close end ∷ rest)
  pub fact : P front

kinds_in_take : (ts : List Token) → IfSome (kinds_in ts) (λ x. Inside (DerivesKinds x.0) ts x.1)
unfolding kinds_in
kinds_in_take ts =
    then_some (expect marks.Open ts) _ _ (expect_takes marks.Open ts) (λ a o.
    kinds_close a o (kinds_at (length a) a) (kinds_take (length a) a))
  where
    kinds_close : (a : List Token) → (p : ℕ) × (ts ≡ mark marks.Open p ∷ a) → (o : Read (List StatementKind))
        → IfSome o (λ x. (q : ℕ) × Takes (λ us. DerivesKinds x.0 us) a (mark marks.Close q ∷ x.1)) → IfSome o (λ x. Inside (DerivesKinds x.0) ts x.1)
    kinds_close a o None h = tt
    kinds_close a o (Some x) h = record { front = h.1.front; begin = o.0; end = h.0; parts = o.1 ∙ ap (λ us. mark marks.Open o.0 ∷ us) h.1.parts; fact = h.1.fact }

-- a reader whose answers are spelled
abbrev pub SoundFilters : FilterReader → Type 0
SoundFilters r = (ts : List Token) → IfSome (r ts) (λ x. Takes (DerivesFilter x.0) ts x.1)

pub single_takes : {A : Type 0} (D : A → List Token → Type 0) (r : List Token → Read A) → ((ts : List Token) → IfSome (r ts) (λ x. Takes (D x.0) ts x.1)) → (ts : List Token) → IfSome (single_at r ts) (λ x. Inside (D x.0) ts x.1)
unfolding single_at
single_takes D r sound ts =
    then_some (expect marks.Open ts) _ _ (expect_takes marks.Open ts) (λ a o.
    then_some (r a) _ _ (sound a) (λ x d.
    then_some (expect marks.Close x.1) _ _ (expect_takes marks.Close x.1) (λ rest c.
    record { front = d.front; begin = o.0; end = c.0; parts = cc; fact = d.fact })))

record Both (g h : Filter) (ts rest : List Token) : Type 0 where
  left : List Token
  right : List Token
  begin : ℕ
  middle : ℕ
  end : ℕ
  parts : ts ≡ mark marks.Open begin ∷ (left ++ mark marks.Comma middle ∷ (right ++ mark marks.Close end ∷ rest))
  first : DerivesFilter g left
  second : DerivesFilter h right

double_takes : (r : FilterReader) → SoundFilters r → (ts : List Token) → IfSome (double_at r ts) (λ x. Both x.0.0 x.0.1 ts x.1)
unfolding double_at
double_takes r sound ts =
    then_some (expect marks.Open ts) _ _ (expect_takes marks.Open ts) (λ a o.
    then_some (r a) _ _ (sound a) (λ x d.
    then_some (expect marks.Comma x.1) _ _ (expect_takes marks.Comma x.1) (λ b m.
    then_some (r b) _ _ (sound b) (λ y e.
    then_some (expect marks.Close y.1) _ _ (expect_takes marks.Close y.1) (λ rest c.
    record { left = d.front; right = e.front; begin = o.0; middle = m.0; end = c.0; parts = cc; first = d.fact; second = e.fact })))))

module _ (r : FilterReader) (sound : SoundFilters r) where
  after_head_takes : (h : Head) (t : Token) (ts : List Token) → head_of t.sign ≡ h → IfSome (after_head r h t.column ts) (λ x. Takes (DerivesFilter x.0) (t ∷ ts) x.1)
  unfolding after_head
  after_head_takes (head.Bare f) t ts e = record { front = t ∷ []; parts = refl; fact = a_bare t e }
  after_head_takes (head.Named f) t ts e =
      then_some (bracketed_at name_in ts) _ _ (bracketed_takes name_in ts) (λ x b.
      record { front = _; parts = cc; fact = a_named t b.inner b.begin b.end e b.holds })
  after_head_takes head.File t ts e =
      then_some (bracketed_at file_in ts) _ _ (bracketed_takes file_in ts) (λ x b.
      record { front = _; parts = cc; fact = a_file t b.inner b.begin b.end e b.holds })
  after_head_takes head.Line t ts e =
      then_some (bracketed_at number_in ts) _ _ (bracketed_takes number_in ts) (λ x b.
      record { front = _; parts = cc; fact = a_line t b.inner b.begin b.end e b.holds })
  after_head_takes head.Kinds t ts e =
      then_some (kinds_in ts) _ _ (kinds_in_take ts) (λ x b.
      record { front = _; parts = simp append_assoc cc; fact = some_kinds t b.begin b.end e b.fact })
  after_head_takes (head.Single f) t ts e =
      then_some (single_at r ts) _ _ (single_takes DerivesFilter r sound ts) (λ x b.
      record { front = _; parts = simp append_assoc cc; fact = a_single t b.begin b.end e b.fact })
  after_head_takes (head.Double f) t ts e =
      then_some (double_at r ts) _ _ (double_takes r sound ts) (λ x b.
      record { front = _; parts = simp append_assoc cc; fact = a_double t b.begin b.middle b.end e b.first b.second })
  after_head_takes head.Nothing t ts e = tt

  filter_by_takes : (ts : List Token) → IfSome (filter_by r ts) (λ x. Takes (DerivesFilter x.0) ts x.1)
  filter_by_takes [] = tt
  filter_by_takes (t ∷ ts) = after_head_takes (head_of t.sign) t ts refl

filter_takes : (n : ℕ) → SoundFilters (filter_at n)
unfolding filter_at
filter_takes zero ts = tt
filter_takes (suc n) ts = filter_by_takes (filter_at n) (filter_takes n) ts

pub filter_in_takes : SoundFilters filter_in
unfolding filter_in
filter_in_takes ts = filter_takes (suc (length ts)) ts
