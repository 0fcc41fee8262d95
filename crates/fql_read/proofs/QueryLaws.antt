-- What is read as a query is spelled by its tokens, and what they spell is read.
use Rattle.std.proofs.Common.{◌≡◌, ℕ, suc, ◌<◌, Bool, true, false, List, [], ◌∷◌, ◌++◌, length, Option, Some, None, refl, sym, ap, ◌∙◌, append_assoc, arith}
use Rattle.std.specs.Prelude.{IfSome, if◌then◌else◌}
use Rattle.std.proofs.lemmas.List.{length-append, append-nil}
use Rattle.fql_tokens.specs.declared.token.Mark.{Mark}
use Rattle.fql_tokens.specs.declared.token.Mark.TheVariants as marks
use Rattle.fql_tokens.specs.declared.token.Keyword.{Keyword}
use Rattle.fql_tokens.specs.declared.token.Keyword.TheVariants as keywords
use Rattle.fql_tokens.specs.declared.token.Sign.{Sign}
use Rattle.fql_tokens.specs.declared.token.Sign.TheVariants as sign
use Rattle.fql_tokens.specs.declared.token.Token.{Token}
use Rattle.fql_read.specs.declared.operator.Head.TheVariants as head
use Rattle.fql_read.specs.declared.operator.Atom.TheVariants as atom
use Rattle.fql_read.specs.declared.operator.Part.{Part}
use Rattle.fql_read.specs.declared.operator.Part.TheVariants as part
use Rattle.fql_read.specs.declared.filter.Filter.{Filter}
use Rattle.fql_read.specs.declared.cover.Split.{Split}
use Rattle.fql_read.specs.declared.cover.CoverTree.{CoverTree}
use Rattle.fql_read.specs.declared.query.Clause.{Clause}
use Rattle.fql_read.specs.declared.query.Query.{Query}
use Rattle.fql_read.specs.Forms.{Text}
use Rattle.fql_read.specs.Tables.{head_of, atom_of, keyword_in, place_of_predicate}
use Rattle.fql_read.specs.Spelled.{mark, DerivesFilter, a_bare, a_named, a_file, a_line, some_kinds, a_single, a_double, DerivesSplit, no_split, a_split, Derives, some_nodes, some_edges, some_paths, a_predicate, alone, in_parentheses, quoted, grouped, two, any_times, times}
use Rattle.fql_read.specs.Reading.{Read, is_mark, keyword_at, starts, tail, filter_in, expr_at}
use Rattle.fql_read.specs.QueryForm.{IsAnchor, not_there, there, DerivesClause, a_clause, DerivesBase, no_base, a_base, DerivesPassing, no_passing, a_passing, DerivesQuery, a_query}
use Rattle.fql_read.specs.ReadingQueries.{past, clause_at, is_in, is_cover, is_passing, base_at, cover_at, passing_at, at_end, query_at}
use Rattle.fql_read.proofs.Steps.{then_some, either_some, starts-true, Stops}
use Rattle.fql_read.proofs.TakesFilters.{Takes, filter_in_takes}
use Rattle.fql_read.proofs.TakesCovers.{expr_takes}
use Rattle.fql_read.proofs.AgainFilters.{filter_in_again}
use Rattle.fql_read.proofs.AgainCovers.{expr_again, Stops_mark}
use Rattle.fql_read.proofs.SplitLaws.{pred_no_start}

-- ---- what is read is spelled

past_takes : (m : Mark) (ts : List Token) → Takes (IsAnchor m (starts m ts)) ts (past m ts)
past_takes m ts = at (starts m ts) refl
  where
    at : (v : Bool) → starts m ts ≡ v → Takes (IsAnchor m v) ts (if v then tail ts else ts)
    at true e = let h = starts-true m ts e in record { front = mark m h.0 ∷ []; parts = h.1; fact = there h.0 }
    at false e = record { front = []; parts = refl; fact = not_there }

parts_of : (ts us vs ws xs ys zs : List Token) → ts ≡ xs ++ us → us ≡ ys ++ vs → vs ≡ zs ++ ws → ts ≡ (xs ++ (ys ++ zs)) ++ ws
parts_of ts us vs ws xs ys zs e f g = simp append_assoc cc

clause_takes : (text : List ℕ) (ps : List Text) (x : Part) (ts : List Token) → IfSome (clause_at text ps x ts) (λ c. Takes (DerivesClause text ps x c.0) ts c.1)
unfolding clause_at
clause_takes text ps x ts =
    let a = past_takes marks.Start ts in
    then_some (expr_at text ps (suc (length (past marks.Start ts))) x 1 (past marks.Start ts)) _ _ (expr_takes text ps (suc (length (past marks.Start ts))) x 1 (past marks.Start ts)) (λ c d.
    with_end c d a (past_takes marks.End c.1))
  where
    with_end : (c : CoverTree × List Token) → Takes (Derives text ps x 1 c.0) (past marks.Start ts) c.1 × Stops 1 c.1 → Takes (IsAnchor marks.Start (starts marks.Start ts)) ts (past marks.Start ts)
        → Takes (IsAnchor marks.End (starts marks.End c.1)) c.1 (past marks.End c.1)
        → Takes (DerivesClause text ps x (record { first = starts marks.Start ts; body = c.0; last = starts marks.End c.1 })) ts (past marks.End c.1)
    with_end c d a b = record {
      front = a.front ++ (d.0.front ++ b.front);
      parts = parts_of ts (past marks.Start ts) c.1 (past marks.End c.1) a.front d.0.front b.front a.parts d.0.parts b.parts;
      fact = a_clause a.fact d.0.fact b.fact;
    }

is_in-true : (o : Option Keyword) → is_in o ≡ true → o ≡ Some keywords.In
is_in-true (Some keywords.In) e = refl
is_in-true _ e = absurd cc

is_cover-true : (o : Option Keyword) → is_cover o ≡ true → o ≡ Some keywords.Cover
is_cover-true (Some keywords.Cover) e = refl
is_cover-true _ e = absurd cc

is_passing-true : (o : Option Keyword) → is_passing o ≡ true → o ≡ Some keywords.Passing
is_passing-true (Some keywords.Passing) e = refl
is_passing-true _ e = absurd cc

keyword_first : (k : Keyword) (ts : List Token) → keyword_at ts ≡ Some k → (t : Token) × (keyword_in t.sign ≡ Some k) × (ts ≡ t ∷ tail ts)
keyword_first k [] e = absurd cc
keyword_first k (t ∷ ts) e = (t, e, refl)

base_takes : (ts : List Token) → IfSome (base_at ts) (λ b. Takes (DerivesBase b.0) ts b.1)
unfolding base_at
base_takes ts =
    either_some (is_in (keyword_at ts)) _ _ _
    (λ e. let k = keyword_first keywords.In ts (is_in-true (keyword_at ts) e) in
    then_some (filter_in (tail ts)) _ _ (filter_in_takes (tail ts)) (λ f d.
    record { front = k.0 ∷ d.front; parts = k.2 ∙ ap (λ us. k.0 ∷ us) d.parts; fact = a_base k.0 k.1 d.fact }))
    (λ e. record { front = []; parts = refl; fact = no_base })

all_parts : (ts us vs ws xs ys zs qs : List Token) (t : Token) → ts ≡ xs ++ us → us ≡ ys ++ vs → ys ≡ t ∷ zs → vs ≡ qs ++ ws → ws ≡ [] → ts ≡ xs ++ t ∷ (zs ++ qs)
all_parts ts us vs ws xs ys zs qs t e f g h i =
    let last : vs ≡ qs = h ∙ ap (λ is. qs ++ is) i ∙ append-nil qs in
    e ∙ ap (λ is. xs ++ is) (f ∙ ap (λ is. is ++ vs) g ∙ ap (λ is. t ∷ (zs ++ is)) last)

module _ (text : List ℕ) (ps : List Text) where
  cover_takes : (ts : List Token) → IfSome (cover_at text ps ts) (λ c. (t : Token) × (keyword_in t.sign ≡ Some keywords.Cover) × Takes (λ us. (vs : List Token) × (us ≡ t ∷ vs) × DerivesClause text ps part.Cover c.0 vs) ts c.1)
  unfolding cover_at
  cover_takes ts =
      either_some (is_cover (keyword_at ts)) _ _ _
      (λ e. let k = keyword_first keywords.Cover ts (is_cover-true (keyword_at ts) e) in
      with_word k.0 k.1 k.2 (clause_at text ps part.Cover (tail ts)) (clause_takes text ps part.Cover (tail ts)))
      (λ e. tt)
    where
      with_word : (t : Token) → keyword_in t.sign ≡ Some keywords.Cover → ts ≡ t ∷ tail ts → (o : Read Clause) → IfSome o (λ c. Takes (DerivesClause text ps part.Cover c.0) (tail ts) c.1)
          → IfSome o (λ c. (t : Token) × (keyword_in t.sign ≡ Some keywords.Cover) × Takes (λ us. (vs : List Token) × (us ≡ t ∷ vs) × DerivesClause text ps part.Cover c.0 vs) ts c.1)
      with_word t k is None h = tt
      with_word t k is (Some c) h = (t, k, record { front = t ∷ h.front; parts = is ∙ ap (λ us. t ∷ us) h.parts; fact = (h.front, refl, h.fact) })

  passing_takes : (ts : List Token) → IfSome (passing_at text ps ts) (λ p. Takes (DerivesPassing text ps p.0) ts p.1)
  unfolding passing_at
  passing_takes ts =
      either_some (is_passing (keyword_at ts)) _ _ _
      (λ e. let k = keyword_first keywords.Passing ts (is_passing-true (keyword_at ts) e) in
      then_some (clause_at text ps part.Passing (tail ts)) _ _ (clause_takes text ps part.Passing (tail ts)) (λ c d.
      record { front = k.0 ∷ d.front; parts = k.2 ∙ ap (λ us. k.0 ∷ us) d.parts; fact = a_passing k.0 k.1 d.fact }))
      (λ e. record { front = []; parts = refl; fact = no_passing })

  at_end-some : (q : Query) (rest : List Token) (P : Query → Type 0) → (rest ≡ [] → P q) → IfSome (at_end q rest) P
  at_end-some q [] P f = f refl
  at_end-some q (t ∷ ts) P f = tt

  pub query_takes : (ts : List Token) → IfSome (query_at text ps ts) (λ q. DerivesQuery text ps q ts)
  unfolding query_at
  query_takes ts =
      then_some (base_at ts) _ _ (base_takes ts) (λ b d.
      then_some (cover_at text ps b.1) _ _ (cover_takes b.1) (λ c e.
      then_some (passing_at text ps c.1) _ _ (passing_takes c.1) (λ p f.
      at_end-some _ p.1 _ (λ last.
      let parts : ts ≡ d.front ++ e.0 ∷ (e.2.fact.0 ++ f.front) = all_parts ts b.1 c.1 p.1 d.front e.2.front e.2.fact.0 f.front e.0 d.parts e.2.parts e.2.fact.1 f.parts last in
      rw parts (a_query e.0 d.fact e.1 e.2.fact.2 f.fact)))))

-- ---- what is spelled is read

-- the first token is there, and it is no `^`
record NoStart (xs : List Token) : Type 0 where
  first : Token
  others : List Token
  is : xs ≡ first ∷ others
  fits : is_mark marks.Start first.sign ≡ false

atom_no_mark : (m : Mark) → (atom_of (sign.Mark m) ≡ atom.Filter → ⊥) → is_mark marks.Start (sign.Mark m) ≡ false
atom_no_mark marks.Start h = absurd (h refl)
atom_no_mark _ h = refl

atom_no_start : (s : Sign) → (atom_of s ≡ atom.Filter → ⊥) → is_mark marks.Start s ≡ false
atom_no_start (sign.Mark m) h = atom_no_mark m h
atom_no_start _ h = refl

head_no_start : (s : Sign) → (head_of s ≡ head.Nothing → ⊥) → is_mark marks.Start s ≡ false
head_no_start (sign.Mark m) h = absurd (h refl)
head_no_start _ h = refl

predicate_no_start : (ps : List Text) (s : Sign) (i : ℕ) → place_of_predicate ps s ≡ Some i → is_mark marks.Start s ≡ false
predicate_no_start ps (sign.Mark m) i e = absurd cc
predicate_no_start ps _ i e = refl

by_head : (t : Token) (us : List Token) → (head_of t.sign ≡ head.Nothing → ⊥) → NoStart (t ∷ us)
by_head t us h = record { first = t; others = us; is = refl; fits = head_no_start t.sign h }

by_atom : (t : Token) (us : List Token) → (atom_of t.sign ≡ atom.Filter → ⊥) → NoStart (t ∷ us)
by_atom t us h = record { first = t; others = us; is = refl; fits = atom_no_start t.sign h }

NoStart-append : (xs ys : List Token) → NoStart xs → NoStart (xs ++ ys)
NoStart-append xs ys b = record { first = b.first; others = b.others ++ ys; is = ap (λ us. us ++ ys) b.is; fits = b.fits }

filter_no_start : {f : Filter} {xs : List Token} → DerivesFilter f xs → NoStart xs
filter_no_start (a_bare t e) = by_head t _ (λ h. cc)
filter_no_start (a_named t u p q e h) = by_head t _ (λ h. cc)
filter_no_start (a_file t u p q e h) = by_head t _ (λ h. cc)
filter_no_start (a_line t u p q e h) = by_head t _ (λ h. cc)
filter_no_start (some_kinds t p q e d) = by_head t _ (λ h. cc)
filter_no_start (a_single t p q e d) = by_head t _ (λ h. cc)
filter_no_start (a_double t p q r e d f) = by_head t _ (λ h. cc)

split_no_start : {ps : List Text} {s : Split} {xs : List Token} → DerivesSplit ps s xs → NoStart xs
split_no_start (no_split d) = filter_no_start d
split_no_start (a_split t u p q o k d h) = record { first = t; others = _; is = refl; fits = pred_no_start t.sign k }

module _ (text : List ℕ) (ps : List Text) where
  no_start : {x : Part} {k : ℕ} {c : CoverTree} {xs : List Token} → Derives text ps x k c xs → NoStart xs
  no_start (some_nodes t p q e d) = by_atom t _ (λ h. cc)
  no_start (some_edges t p q e d) = by_atom t _ (λ h. cc)
  no_start (some_paths t u p q r e d h) = by_atom t _ (λ h. cc)
  no_start (a_predicate t e) = record { first = t; others = []; is = refl; fits = predicate_no_start ps t.sign _ e }
  no_start (alone d) = split_no_start d
  no_start (in_parentheses t q e d) = by_atom t _ (λ h. cc)
  no_start (quoted t q e d) = by_atom t _ (λ h. cc)
  no_start (grouped t q e d) = by_atom t _ (λ h. cc)
  no_start (two t e le a b) = NoStart-append _ _ (no_start a)
  no_start (any_times t e le a) = NoStart-append _ _ (no_start a)
  no_start (times t u e h le a) = NoStart-append _ _ (no_start a)

  starts_not : (xs ys : List Token) → NoStart xs → starts marks.Start (xs ++ ys) ≡ false
  starts_not xs ys b = rw b.is b.fits

  -- what may follow a clause
  record Follows (rest : List Token) : Type 0 where
    no_operator : Stops 1 rest
    no_end : starts marks.End rest ≡ false

  anchor_is : {m : Mark} {b : Bool} {zs : List Token} → IsAnchor m b zs → (rest : List Token) → is_mark m (sign.Mark m) ≡ true → (b ≡ false → starts m rest ≡ false) → starts m (zs ++ rest) ≡ b
  anchor_is not_there rest self h = h refl
  anchor_is (there p) rest self h = self

  past_anchor : {m : Mark} {b : Bool} {zs : List Token} → IsAnchor m b zs → (rest : List Token) → is_mark m (sign.Mark m) ≡ true → (b ≡ false → starts m rest ≡ false) → past m (zs ++ rest) ≡ rest
  past_anchor not_there rest self h = rw (h refl) refl
  past_anchor (there p) rest self h = rw self refl

  end_stops : {b : Bool} {zs : List Token} → IsAnchor marks.End b zs → (rest : List Token) → Stops 1 rest → Stops 1 (zs ++ rest)
  end_stops not_there rest h = h
  end_stops (there p) rest h = Stops_mark marks.End p 1 rest refl

  clause_rule : (x : Part) (first last : Bool) (c : CoverTree) (ts us vs ws : List Token) → starts marks.Start ts ≡ first → past marks.Start ts ≡ us
      → expr_at text ps (suc (length us)) x 1 us ≡ Some (c, vs) → starts marks.End vs ≡ last → past marks.End vs ≡ ws
      → clause_at text ps x ts ≡ Some (record { first = first; body = c; last = last }, ws)
  unfolding clause_at
  clause_rule x first last c ts us vs ws e f g h i = rw (f, g, e, i, h) refl

  clause_again : {x : Part} {c : Clause} {ts : List Token} → DerivesClause text ps x c ts → (rest : List Token) → Follows rest → clause_at text ps x (ts ++ rest) ≡ Some (c, rest)
  clause_again {x} (a_clause {first = first} {last = last} {c = c} {xs = xs} {ys = ys} {zs = zs} a d b) rest follows =
      let regroup : (xs ++ (ys ++ zs)) ++ rest ≡ xs ++ (ys ++ (zs ++ rest)) = simp append_assoc in
      rw regroup (clause_rule x first last c (xs ++ (ys ++ (zs ++ rest))) (ys ++ (zs ++ rest)) (zs ++ rest) rest
      (anchor_is a (ys ++ (zs ++ rest)) refl (λ e. starts_not ys (zs ++ rest) (no_start d)))
      (past_anchor a (ys ++ (zs ++ rest)) refl (λ e. starts_not ys (zs ++ rest) (no_start d)))
      (expr_again text ps d (suc (length (ys ++ (zs ++ rest)))) (zs ++ rest) (omega (arith, length-append ys (zs ++ rest))) (end_stops b rest follows.no_operator))
      (anchor_is b rest refl (λ e. follows.no_end))
      (past_anchor b rest refl (λ e. follows.no_end)))

  nothing_follows : Follows []
  nothing_follows = record { no_operator = λ op e. absurd cc; no_end = refl }

  keyword_follows : (s : Sign) (p : ℕ) (us : List Token) (k : Keyword) → keyword_in s ≡ Some k → Follows (record { sign = s; column = p } ∷ us)
  keyword_follows (sign.Word o w) p us k e = record { no_operator = λ op e. absurd cc; no_end = refl }
  keyword_follows (sign.Filter f) p us k e = absurd cc
  keyword_follows (sign.Mark m) p us k e = absurd cc
  keyword_follows (sign.Predicate w) p us k e = absurd cc
  keyword_follows (sign.Number n) p us k e = absurd cc
  keyword_follows (sign.File w) p us k e = absurd cc

  passing_follows : {p : Option Clause} {zs : List Token} → DerivesPassing text ps p zs → Follows zs
  passing_follows no_passing = nothing_follows
  passing_follows (a_passing t e d) = keyword_follows t.sign t.column _ _ e

  base_again : {b : Option Filter} {xs : List Token} → DerivesBase b xs → (t : Token) (us : List Token) → keyword_in t.sign ≡ Some keywords.Cover → base_at (xs ++ t ∷ us) ≡ Some (b, t ∷ us)
  unfolding base_at
  base_again no_base t us e = rw e refl
  base_again (a_base u k d) t us e = rw (k, filter_in_again d (t ∷ us)) refl

  passing_again : {p : Option Clause} {zs : List Token} → DerivesPassing text ps p zs → passing_at text ps zs ≡ Some (p, [])
  unfolding passing_at
  passing_again no_passing = refl
  passing_again (a_passing {c = c} {ts = ts} t e d) =
      let all : clause_at text ps part.Passing ts ≡ Some (c, []) = ap (clause_at text ps part.Passing) (sym (append-nil ts)) ∙ clause_again d [] nothing_follows in
      rw (e, all) refl

  cover_again : {c : Clause} {ys : List Token} (t : Token) (zs : List Token) → keyword_in t.sign ≡ Some keywords.Cover → DerivesClause text ps part.Cover c ys → Follows zs → cover_at text ps (t ∷ (ys ++ zs)) ≡ Some (c, zs)
  unfolding cover_at
  cover_again t zs e d follows = rw (e, clause_again d zs follows) refl

  pub query_again : {q : Query} {ts : List Token} → DerivesQuery text ps q ts → query_at text ps ts ≡ Some q
  unfolding query_at
  query_again (a_query {ys = ys} {zs = zs} t b k c p) =
      rw (base_again b t (ys ++ zs) k, cover_again t zs k c (passing_follows p), passing_again p) refl

-- ---- something follows a query

pub more_follows : (text : List ℕ) (ps : List Text) (ts : List Token) (b : Option Filter) (us : List Token) (c : Clause) (vs : List Token) (p : Option Clause) (ws : List Token)
    → base_at ts ≡ Some (b, us) → cover_at text ps us ≡ Some (c, vs) → passing_at text ps vs ≡ Some (p, ws) → 0 < length ws → query_at text ps ts ≡ None
unfolding query_at
more_follows text ps ts b us c vs p ws e f g some = rw (e, f, g) (at ws some)
  where
    at : (ws : List Token) → 0 < length ws → at_end (record { base = b; cover = c; passing = p; predicates = ps }) ws ≡ None
    at [] some = absurd (omega arith)
    at (t ∷ ts) some = refl
