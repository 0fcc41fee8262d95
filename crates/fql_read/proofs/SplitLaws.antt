-- What is read as a filter or PRED is spelled by the tokens that were taken, and what is spelled is read again.
use Rattle.std.proofs.Common.{◌≡◌, ℕ, zero, suc, ◌+◌, ◌≤◌, ◌<◌, Bool, true, false, List, [], ◌∷◌, ◌++◌, length, Option, Some, None, refl, sym, ap, ◌∙◌, append_assoc, arith}
use Rattle.std.specs.Prelude.{IfSome}
use Rattle.std.proofs.lemmas.List.{length-append}
use Rattle.fql_tokens.specs.declared.token.Mark.{Mark}
use Rattle.fql_tokens.specs.declared.token.Mark.TheVariants as marks
use Rattle.fql_tokens.specs.declared.token.Keyword.{Keyword}
use Rattle.fql_tokens.specs.declared.token.Keyword.TheVariants as keywords
use Rattle.fql_tokens.specs.declared.token.Sign.{Sign}
use Rattle.fql_tokens.specs.declared.token.Sign.TheVariants as sign
use Rattle.fql_tokens.specs.declared.token.Token.{Token}
use Rattle.fql_read.specs.declared.operator.Head.{Head}
use Rattle.fql_read.specs.declared.operator.Head.TheVariants as head
use Rattle.fql_read.specs.declared.operator.Atom.TheVariants as atom
use Rattle.fql_read.specs.declared.filter.Filter.{Filter}
use Rattle.fql_read.specs.declared.cover.Split.{Split}
use Rattle.fql_read.specs.Forms.{Text, unsplit, split_by}
use Rattle.fql_read.specs.Tables.{head_of, atom_of, keyword_in, is_pred, place_of_predicate}
use Rattle.fql_read.specs.Spelled.{mark, DerivesFilter, a_bare, a_named, a_file, a_line, some_kinds, a_single, a_double, DerivesSplit, no_split, a_split}
use Rattle.fql_read.specs.Reading.{Read, SplitReader, keyword_at, is_mark, tail, expect, one_at, filter_in, pred_at, split_at, split_in}
use Rattle.fql_read.proofs.Steps.{then_some, either_some, expect_takes, one_takes}
use Rattle.fql_read.proofs.TakesFilters.{Takes, filter_in_takes}
use Rattle.fql_read.proofs.AgainFilters.{filter_in_again}

-- ---- what is read is spelled

pub is_pred-true : (o : Option Keyword) → is_pred o ≡ true → o ≡ Some keywords.Pred
is_pred-true (Some keywords.Pred) e = refl
is_pred-true _ e = absurd cc

word_first : (k : Keyword) (ts : List Token) → keyword_at ts ≡ Some k → (t : Token) × (keyword_in t.sign ≡ Some k) × (ts ≡ t ∷ tail ts)
word_first k [] e = absurd cc
word_first k (t ∷ ts) e = (t, e, refl)

module _ (ps : List Text) where
  abbrev SoundSplits : SplitReader → Type 0
  SoundSplits r = (ts : List Token) → IfSome (r ts) (λ x. Takes (DerivesSplit ps x.0) ts x.1)

  -- what follows PRED
  record Behind (s : Split) (ts rest : List Token) : Type 0 where
    split : Split
    place : ℕ
    front : List Token
    inner : Token
    begin : ℕ
    comma : ℕ
    end : ℕ
    parts : ts ≡ mark marks.Open begin ∷ (front ++ mark marks.Comma comma ∷ inner ∷ mark marks.Close end ∷ rest)
    is : s ≡ split_by split place
    fact : DerivesSplit ps split front
    holds : place_of_predicate ps inner.sign ≡ Some place

  behind_takes : (r : SplitReader) → SoundSplits r → (ts : List Token) → IfSome (pred_at ps r ts) (λ x. Behind x.0 ts x.1)
  unfolding pred_at
  behind_takes r sound ts =
      then_some (expect marks.Open ts) _ _ (expect_takes marks.Open ts) (λ a o.
      then_some (r a) _ _ (sound a) (λ x d.
      then_some (expect marks.Comma x.1) _ _ (expect_takes marks.Comma x.1) (λ b m.
      then_some (one_at (place_of_predicate ps) b) _ _ (one_takes (place_of_predicate ps) b) (λ i h.
      then_some (expect marks.Close i.1) _ _ (expect_takes marks.Close i.1) (λ rest c.
      record { split = x.0; place = i.0; front = d.front; inner = h.0; begin = o.0; comma = m.0; end = c.0; parts = let e = h.2 in let f = d.parts in cc; is = refl; fact = d.fact; holds = h.1 })))))

  with_word : (t : Token) (ts : List Token) → keyword_in t.sign ≡ Some keywords.Pred → ts ≡ t ∷ tail ts → (o : Read Split) → IfSome o (λ x. Behind x.0 (tail ts) x.1) → IfSome o (λ x. Takes (DerivesSplit ps x.0) ts x.1)
  with_word t ts k is None h = tt
  with_word t ts k is (Some x) h =
      rw h.is (record {
        front = t ∷ mark marks.Open h.begin ∷ (h.front ++ mark marks.Comma h.comma ∷ h.inner ∷ mark marks.Close h.end ∷ []);
        parts = let f = h.parts in simp append_assoc cc;
        fact = a_split t h.inner h.begin h.comma h.end k h.fact h.holds;
      })

  split_takes : (n : ℕ) → SoundSplits (split_at ps n)
  unfolding split_at
  split_takes zero ts = tt
  split_takes (suc n) ts =
      either_some (is_pred (keyword_at ts)) _ _ _
      (λ e. let k = word_first keywords.Pred ts (is_pred-true (keyword_at ts) e) in
      with_word k.0 ts k.1 k.2 (pred_at ps (split_at ps n) (tail ts)) (behind_takes (split_at ps n) (split_takes n) (tail ts)))
      (λ e. then_some (filter_in ts) _ _ (filter_in_takes ts) (λ f d.
      record { front = d.front; parts = d.parts; fact = no_split d.fact }))

  pub split_in_takes : SoundSplits (split_in ps)
  unfolding split_in
  split_in_takes ts = split_takes (suc (length ts)) ts

-- ---- what a filter and PRED begin with

no_pred_head : (k : Keyword) (w : Text) (h : Head) → head_of (sign.Word (Some k) w) ≡ h → (h ≡ head.Nothing → ⊥) → is_pred (Some k) ≡ false
no_pred_head keywords.Pred w h e some = absurd (some (sym e))
no_pred_head _ w h e some = refl

filter_no_pred : (s : Sign) (h : Head) → head_of s ≡ h → (h ≡ head.Nothing → ⊥) → is_pred (keyword_in s) ≡ false
filter_no_pred (sign.Word (Some k) w) h e some = no_pred_head k w h e some
filter_no_pred (sign.Word None w) h e some = refl
filter_no_pred (sign.Filter f) h e some = refl
filter_no_pred (sign.Mark m) h e some = refl
filter_no_pred (sign.Predicate w) h e some = refl
filter_no_pred (sign.Number n) h e some = refl
filter_no_pred (sign.File w) h e some = refl

filter_first : {f : Filter} {xs : List Token} → DerivesFilter f xs → (rest : List Token) → is_pred (keyword_at (xs ++ rest)) ≡ false
filter_first (a_bare t e) rest = filter_no_pred t.sign _ e (λ h. cc)
filter_first (a_named t u p q e h) rest = filter_no_pred t.sign _ e (λ h. cc)
filter_first (a_file t u p q e h) rest = filter_no_pred t.sign _ e (λ h. cc)
filter_first (a_line t u p q e h) rest = filter_no_pred t.sign _ e (λ h. cc)
filter_first (some_kinds t p q e d) rest = filter_no_pred t.sign _ e (λ h. cc)
filter_first (a_single t p q e d) rest = filter_no_pred t.sign _ e (λ h. cc)
filter_first (a_double t p q r e d f) rest = filter_no_pred t.sign _ e (λ h. cc)

pub pred_atom : (s : Sign) → keyword_in s ≡ Some keywords.Pred → atom_of s ≡ atom.Filter
pred_atom (sign.Word (Some keywords.Pred) w) e = refl
pred_atom (sign.Word (Some _) w) e = absurd cc
pred_atom (sign.Word None w) e = absurd cc
pred_atom (sign.Filter f) e = absurd cc
pred_atom (sign.Mark m) e = absurd cc
pred_atom (sign.Predicate w) e = absurd cc
pred_atom (sign.Number n) e = absurd cc
pred_atom (sign.File w) e = absurd cc

pub pred_no_start : (s : Sign) → keyword_in s ≡ Some keywords.Pred → is_mark marks.Start s ≡ false
pred_no_start (sign.Mark m) e = absurd cc
pred_no_start _ e = refl

-- ---- what is spelled is read

pred_goes : (ps : List Text) (n : ℕ) (t : Token) (us : List Token) → keyword_in t.sign ≡ Some keywords.Pred → split_at ps (suc n) (t ∷ us) ≡ pred_at ps (split_at ps n) us
unfolding split_at
pred_goes ps n t us e = rw e refl

filter_goes : (ps : List Text) (n : ℕ) (f : Filter) (ts rest : List Token) → is_pred (keyword_at ts) ≡ false → filter_in ts ≡ Some (f, rest) → split_at ps (suc n) ts ≡ Some (unsplit f, rest)
unfolding split_at
filter_goes ps n f ts rest e h = rw (e, h) refl

pred_again : (ps : List Text) (r : SplitReader) (s : Split) (i : ℕ) (ts : List Token) (u : Token) (p q o : ℕ) (rest : List Token)
    → r (ts ++ mark marks.Comma q ∷ u ∷ mark marks.Close o ∷ rest) ≡ Some (s, mark marks.Comma q ∷ u ∷ mark marks.Close o ∷ rest) → place_of_predicate ps u.sign ≡ Some i
    → pred_at ps r (mark marks.Open p ∷ (ts ++ mark marks.Comma q ∷ u ∷ mark marks.Close o ∷ rest)) ≡ Some (split_by s i, rest)
unfolding pred_at
pred_again ps r s i ts u p q o rest e h = rw (e, h) refl

module _ (ps : List Text) where
  split_again : {s : Split} {xs : List Token} → DerivesSplit ps s xs → (n : ℕ) (rest : List Token) → length xs < n → split_at ps n (xs ++ rest) ≡ Some (s, rest)
  split_again (no_split d) zero rest lt = absurd (omega arith)
  split_again (a_split t u p q o k d h) zero rest lt = absurd (omega arith)
  split_again (no_split {f = f} {ts = ts} d) (suc n) rest lt = filter_goes ps n f (ts ++ rest) rest (filter_first d rest) (filter_in_again d rest)
  split_again (a_split {s = s} {i = i} {ts = ts} t u p q o k d h) (suc n) rest lt =
      let tokens : (ts ++ mark marks.Comma q ∷ u ∷ mark marks.Close o ∷ []) ++ rest ≡ ts ++ mark marks.Comma q ∷ u ∷ mark marks.Close o ∷ rest = append_assoc ts (mark marks.Comma q ∷ u ∷ mark marks.Close o ∷ []) rest in
      pred_goes ps n t (mark marks.Open p ∷ ((ts ++ mark marks.Comma q ∷ u ∷ mark marks.Close o ∷ []) ++ rest)) k
      ∙ ap (λ us. pred_at ps (split_at ps n) (mark marks.Open p ∷ us)) tokens
      ∙ pred_again ps (split_at ps n) s i ts u p q o rest
      (split_again d n (mark marks.Comma q ∷ u ∷ mark marks.Close o ∷ rest) (omega (arith, length-append ts (mark marks.Comma q ∷ u ∷ mark marks.Close o ∷ [])))) h

  pub split_in_again : {s : Split} {xs : List Token} → DerivesSplit ps s xs → (rest : List Token) → split_in ps (xs ++ rest) ≡ Some (s, rest)
  unfolding split_in
  split_in_again {s} {xs} d rest = split_again d (suc (length (xs ++ rest))) rest (omega (arith, length-append xs rest))
