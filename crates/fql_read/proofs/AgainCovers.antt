-- What is spelled as an expression is read again, whatever follows that cannot go on it.
use Rattle.std.proofs.Common.{◌≡◌, ℕ, zero, suc, ◌+◌, ◌≤◌, ◌<◌, true, leb, List, [], ◌∷◌, ◌++◌, length, Some, None, refl, sym, ap, ◌∙◌, append_assoc, arith}
use Rattle.std.proofs.lemmas.Bool.{le-leb}
use Rattle.std.proofs.lemmas.List.{length-append}
use Rattle.fql_tokens.specs.declared.token.Mark.{Mark}
use Rattle.fql_tokens.specs.declared.token.Mark.TheVariants as marks
use Rattle.fql_tokens.specs.declared.token.Keyword.{Keyword}
use Rattle.fql_tokens.specs.declared.token.Keyword.TheVariants as keywords
use Rattle.fql_tokens.specs.declared.token.Sign.{Sign}
use Rattle.fql_tokens.specs.declared.token.Sign.TheVariants as sign
use Rattle.fql_tokens.specs.declared.token.Token.{Token}
use Rattle.fql_read.specs.declared.operator.Head.{Head}
use Rattle.fql_read.specs.declared.operator.Head.TheVariants as head
use Rattle.fql_read.specs.declared.operator.Atom.TheVariants as atom
use Rattle.fql_read.specs.declared.operator.Count.{Count}
use Rattle.fql_read.specs.declared.operator.Join.{Join}
use Rattle.fql_read.specs.declared.operator.Operator.{Operator}
use Rattle.fql_read.specs.declared.operator.Operator.TheVariants as operator
use Rattle.fql_read.specs.declared.operator.Part.{Part}
use Rattle.fql_read.specs.declared.operator.Part.TheVariants as part
use Rattle.fql_read.specs.declared.filter.Filter.{Filter}
use Rattle.fql_read.specs.declared.cover.Split.{Split}
use Rattle.fql_read.specs.declared.cover.CoverTree.{CoverTree}
use Rattle.fql_read.specs.declared.cover.CoverTree.TheVariants as cover
use Rattle.fql_read.specs.Forms.{Text, joined, least_of, most_of, between}
use Rattle.fql_read.specs.Tables.{head_of, atom_of, operator_of, level, number_in, place_of_predicate}
use Rattle.fql_read.specs.Spelled.{mark, DerivesFilter, a_bare, a_named, a_file, a_line, some_kinds, a_single, a_double, DerivesSplit, no_split, a_split, Derives, some_nodes, some_edges, some_paths, a_predicate, alone, in_parentheses, quoted, grouped, two, any_times, times}
use Rattle.fql_read.specs.Reading.{Reader, filter_in, split_in, paths_at, closed_at, quoted_at, atom_at, operand_at, behind, operators_at, level_by, expr_at}
use Rattle.fql_read.proofs.Steps.{Stops}
use Rattle.fql_read.proofs.Loops.{operators_end}
use Rattle.fql_read.proofs.AgainFilters.{single_again, filter_in_again}
use Rattle.fql_read.proofs.SplitLaws.{split_in_again, pred_atom}
use Rattle.fql_read.proofs.TakesCovers.{level_most}

-- ---- what a filter and a predicate begin with

no_keyword_atom : (k : Keyword) (w : Text) (h : Head) → head_of (sign.Word (Some k) w) ≡ h → (h ≡ head.Nothing → ⊥) → atom_of (sign.Word (Some k) w) ≡ atom.Filter
no_keyword_atom keywords.Nodes w h e some = absurd (some (sym e))
no_keyword_atom keywords.Edges w h e some = absurd (some (sym e))
no_keyword_atom keywords.Paths w h e some = absurd (some (sym e))
no_keyword_atom _ w h e some = refl

filter_atom : (s : Sign) (h : Head) → head_of s ≡ h → (h ≡ head.Nothing → ⊥) → atom_of s ≡ atom.Filter
filter_atom (sign.Word (Some k) w) h e some = no_keyword_atom k w h e some
filter_atom (sign.Word None w) h e some = refl
filter_atom (sign.Filter f) h e some = refl
filter_atom (sign.Mark m) h e some = absurd (some (sym e))
filter_atom (sign.Predicate w) h e some = absurd (some (sym e))
filter_atom (sign.Number n) h e some = refl
filter_atom (sign.File w) h e some = refl

record FirstIsFilter (xs : List Token) : Type 0 where
  first : Token
  others : List Token
  is : xs ≡ first ∷ others
  fits : atom_of first.sign ≡ atom.Filter

filter_first : {f : Filter} {xs : List Token} → DerivesFilter f xs → FirstIsFilter xs
filter_first (a_bare t e) = record { first = t; others = _; is = refl; fits = filter_atom t.sign _ e (λ h. cc) }
filter_first (a_named t u p q e h) = record { first = t; others = _; is = refl; fits = filter_atom t.sign _ e (λ h. cc) }
filter_first (a_file t u p q e h) = record { first = t; others = _; is = refl; fits = filter_atom t.sign _ e (λ h. cc) }
filter_first (a_line t u p q e h) = record { first = t; others = _; is = refl; fits = filter_atom t.sign _ e (λ h. cc) }
filter_first (some_kinds t p q e d) = record { first = t; others = _; is = refl; fits = filter_atom t.sign _ e (λ h. cc) }
filter_first (a_single t p q e d) = record { first = t; others = _; is = refl; fits = filter_atom t.sign _ e (λ h. cc) }
filter_first (a_double t p q r e d f) = record { first = t; others = _; is = refl; fits = filter_atom t.sign _ e (λ h. cc) }

predicate_atom : (ps : List Text) (s : Sign) (i : ℕ) → place_of_predicate ps s ≡ Some i → atom_of s ≡ atom.Predicate
predicate_atom ps (sign.Predicate w) i e = refl
predicate_atom ps (sign.Word k w) i e = absurd cc
predicate_atom ps (sign.Filter f) i e = absurd cc
predicate_atom ps (sign.Mark m) i e = absurd cc
predicate_atom ps (sign.Number n) i e = absurd cc
predicate_atom ps (sign.File w) i e = absurd cc

-- ---- what follows

pub Stops_mark : (m : Mark) (p k : ℕ) (rest : List Token) → operator_of (sign.Mark m) ≡ None → Stops k (mark m p ∷ rest)
Stops_mark m p k rest none op e = absurd cc

Stops_operator : (op : Operator) (t : Token) (rest : List Token) → operator_of t.sign ≡ Some op → Stops (suc (level op)) (t ∷ rest)
Stops_operator op t rest is o e =
    let same : Some op ≡ Some o = sym is ∙ e in
    let h : op ≡ o = cc in rw (← h) (omega arith)

pub Stops_more : (j k : ℕ) (rest : List Token) → j ≤ k → Stops j rest → Stops k rest
Stops_more j k rest le stops op e = omega (arith, stops op e)

Stops_top : (k : ℕ) (rest : List Token) → 5 ≤ k → Stops k rest
Stops_top k rest le op e = omega (arith, level_most op)

-- ---- a rule at a time: r is a reader, and the premises say what it gives at the parts

module _ (text : List ℕ) (ps : List Text) where
  module _ (r : Reader) (x : Part) (t : Token) where
    nodes_again : (s : Split) (ts : List Token) (p q : ℕ) (rest : List Token) → atom_of t.sign ≡ atom.Nodes → DerivesSplit ps s ts
        → operand_at text ps r x (t ∷ mark marks.Open p ∷ (ts ++ mark marks.Close q ∷ []) ++ rest) ≡ Some (cover.Nodes s, rest)
    unfolding operand_at atom_at
    nodes_again s ts p q rest e d = rw (append_assoc, e, single_again (split_in ps) s ts p q rest (split_in_again ps d (mark marks.Close q ∷ rest))) refl

    edges_again : (s : Split) (ts : List Token) (p q : ℕ) (rest : List Token) → atom_of t.sign ≡ atom.Edges → DerivesSplit ps s ts
        → operand_at text ps r x (t ∷ mark marks.Open p ∷ (ts ++ mark marks.Close q ∷ []) ++ rest) ≡ Some (cover.Edges s, rest)
    unfolding operand_at atom_at
    edges_again s ts p q rest e d = rw (append_assoc, e, single_again (split_in ps) s ts p q rest (split_in_again ps d (mark marks.Close q ∷ rest))) refl

    paths_again : (f : Filter) (n : ℕ) (ts : List Token) (u : Token) (p q s : ℕ) (rest : List Token) → atom_of t.sign ≡ atom.Paths → DerivesFilter f ts → number_in u.sign ≡ Some n
        → operand_at text ps r x (t ∷ mark marks.Open p ∷ (ts ++ mark marks.Comma q ∷ u ∷ mark marks.Close s ∷ []) ++ rest) ≡ Some (cover.Paths f n, rest)
    unfolding operand_at atom_at paths_at
    paths_again f n ts u p q s rest e d h = rw (append_assoc, e, filter_in_again d (mark marks.Comma q ∷ u ∷ mark marks.Close s ∷ rest), h) refl

    predicate_again : (i : ℕ) (rest : List Token) → place_of_predicate ps t.sign ≡ Some i → operand_at text ps r x (t ∷ rest) ≡ Some (cover.Predicate i, rest)
    unfolding operand_at atom_at
    predicate_again i rest e = rw (predicate_atom ps t.sign i e, e) refl

    parentheses_again : (c : CoverTree) (ts : List Token) (q : ℕ) (rest : List Token) → atom_of t.sign ≡ atom.Group
        → r x 1 (ts ++ mark marks.Close q ∷ rest) ≡ Some (c, mark marks.Close q ∷ rest)
        → operand_at text ps r x (t ∷ (ts ++ mark marks.Close q ∷ []) ++ rest) ≡ Some (c, rest)
    unfolding operand_at atom_at closed_at
    parentheses_again c ts q rest e h = rw (append_assoc, e, h) refl

  quoted_again : (r : Reader) (t : Token) (c : CoverTree) (ts : List Token) (q : ℕ) (rest : List Token) → atom_of t.sign ≡ atom.Quote
      → r part.Quoted 1 (ts ++ mark marks.Quote q ∷ rest) ≡ Some (c, mark marks.Quote q ∷ rest)
      → operand_at text ps r part.Cover (t ∷ (ts ++ mark marks.Quote q ∷ []) ++ rest) ≡ Some (cover.Quoted c (between text t.column q), rest)
  unfolding operand_at atom_at quoted_at
  quoted_again r t c ts q rest e h = rw (append_assoc, e, h) refl

  grouped_again : (r : Reader) (t : Token) (c : CoverTree) (ts : List Token) (q : ℕ) (rest : List Token) → atom_of t.sign ≡ atom.Quote
      → r part.Quoted 1 (ts ++ mark marks.Quote q ∷ rest) ≡ Some (c, mark marks.Quote q ∷ rest)
      → operand_at text ps r part.Passing (t ∷ (ts ++ mark marks.Quote q ∷ []) ++ rest) ≡ Some (c, rest)
  unfolding operand_at atom_at quoted_at closed_at
  grouped_again r t c ts q rest e h = rw (append_assoc, e, h) refl

  first_split_again : (r : Reader) (x : Part) (s : Split) (t : Token) (us rest : List Token) → atom_of t.sign ≡ atom.Filter → split_in ps (t ∷ us) ≡ Some (s, rest)
      → operand_at text ps r x (t ∷ us) ≡ Some (cover.Edges s, rest)
  unfolding operand_at atom_at
  first_split_again r x s t us rest e h = rw (e, h) refl

  split_first : {s : Split} {xs : List Token} → DerivesSplit ps s xs → FirstIsFilter xs
  split_first (no_split d) = filter_first d
  split_first (a_split t u p q o k d h) = record { first = t; others = _; is = refl; fits = pred_atom t.sign k }

  alone_again : (r : Reader) (x : Part) (s : Split) (ts rest : List Token) → DerivesSplit ps s ts → operand_at text ps r x (ts ++ rest) ≡ Some (cover.Edges s, rest)
  alone_again r x s ts rest d =
      let b = split_first d in
      let is : ts ++ rest ≡ b.first ∷ (b.others ++ rest) = ap (λ us. us ++ rest) b.is in
      rw is (first_split_again r x s b.first (b.others ++ rest) rest b.fits (ap (split_in ps) (sym is) ∙ split_in_again ps d rest))

  -- the reader comes to the operators behind the tree
  record Reaches (n : ℕ) (x : Part) (j : ℕ) (c : CoverTree) (xs rest : List Token) : Type 0 where
    count : ℕ
    enough : length rest ≤ count
    goes : level_by text ps (expr_at text ps n) x j (xs ++ rest) ≡ operators_at (expr_at text ps n) x count j c rest

  by_operand : (n : ℕ) (x : Part) (j : ℕ) (c : CoverTree) (xs rest : List Token) → operand_at text ps (expr_at text ps n) x (xs ++ rest) ≡ Some (c, rest) → Reaches n x j c xs rest
  unfolding level_by
  by_operand n x j c xs rest e = record { count = length rest; enough = omega arith; goes = rw e refl }

  operator_goes : (r : Reader) (x : Part) (m j : ℕ) (op : Operator) (c d : CoverTree) (t : Token) (ts rest : List Token) → operator_of t.sign ≡ Some op → j ≤ level op → behind r x op c t.column ts ≡ Some (d, rest)
      → operators_at r x (suc m) j c (t ∷ ts) ≡ operators_at r x m j d rest
  unfolding operators_at
  operator_goes r x m j op c d t ts rest is le e = let goes_on : leb j (level op) ≡ true = le-leb _ _ le in rw (is, goes_on, e) refl

  go_on : (n : ℕ) (x : Part) (j : ℕ) (op : Operator) (c d : CoverTree) (t : Token) (xs ys ts rest : List Token) → operator_of t.sign ≡ Some op → j ≤ level op → Reaches n x j c xs (t ∷ ts)
      → behind (expr_at text ps n) x op c t.column ts ≡ Some (d, rest) → length rest ≤ length ts → ys ++ rest ≡ xs ++ t ∷ ts → Reaches n x j d ys rest
  go_on n x j op c d t xs ys ts rest is le a e shorter parts = at a.count a.enough a.goes
    where
      at : (count : ℕ) → length (t ∷ ts) ≤ count → level_by text ps (expr_at text ps n) x j (xs ++ t ∷ ts) ≡ operators_at (expr_at text ps n) x count j c (t ∷ ts) → Reaches n x j d ys rest
      at zero enough goes = absurd (omega arith)
      at (suc m) enough goes = record {
        count = m;
        enough = omega arith;
        goes = rw parts (goes ∙ operator_goes (expr_at text ps n) x m j op c d t ts rest is le e);
      }

  join_behind : (r : Reader) (x : Part) (op : Join) (a b : CoverTree) (p : ℕ) (ys rest : List Token) → r x (suc (level (operator.Join op))) (ys ++ rest) ≡ Some (b, rest)
      → behind r x (operator.Join op) a p (ys ++ rest) ≡ Some (joined op a b, rest)
  unfolding behind
  join_behind r x op a b p ys rest e = rw e refl

  star_behind : (r : Reader) (x : Part) (a : CoverTree) (p : ℕ) (rest : List Token) → behind r x operator.Star a p rest ≡ Some (cover.Repeat a 0 None p, rest)
  unfolding behind
  star_behind r x a p rest = refl

  count_behind : (r : Reader) (x : Part) (c : Count) (n : ℕ) (a : CoverTree) (p : ℕ) (u : Token) (rest : List Token) → number_in u.sign ≡ Some n
      → behind r x (operator.Count c) a p (u ∷ rest) ≡ Some (cover.Repeat a (least_of c n) (most_of c n) p, rest)
  unfolding behind
  count_behind r x c n a p u rest e = rw e refl

  level_again : (n : ℕ) (x : Part) (k : ℕ) (c : CoverTree) (xs rest : List Token) → Reaches n x k c xs rest → Stops k rest → expr_at text ps (suc n) x k (xs ++ rest) ≡ Some (c, rest)
  unfolding expr_at
  level_again n x k c xs rest d stops = d.goes ∙ operators_end (expr_at text ps n) x d.count k c rest stops

  -- from a fuel that is not 0
  at_level : (n : ℕ) (x : Part) (k : ℕ) (c : CoverTree) (xs rest : List Token) → 0 < n → ((m : ℕ) → suc m ≡ n → Reaches m x k c xs rest) → Stops k rest → expr_at text ps n x k (xs ++ rest) ≡ Some (c, rest)
  at_level zero x k c xs rest some d stops = absurd (omega arith)
  at_level (suc m) x k c xs rest some d stops = level_again m x k c xs rest (d m refl) stops

  reaches : {x : Part} {k : ℕ} {c : CoverTree} {xs : List Token} → Derives text ps x k c xs → (n j : ℕ) (rest : List Token) → length xs + length rest ≤ n → j ≤ k → Stops (suc k) rest → Reaches n x j c xs rest
  reaches (some_nodes {x = x} {s = s} {ts = ts} t p q e d) n j rest le jk stops = by_operand n x j _ _ rest (nodes_again (expr_at text ps n) x t s ts p q rest e d)
  reaches (some_edges {x = x} {s = s} {ts = ts} t p q e d) n j rest le jk stops = by_operand n x j _ _ rest (edges_again (expr_at text ps n) x t s ts p q rest e d)
  reaches (some_paths {x = x} {n = m} {f = f} {ts = ts} t u p q s e d h) n j rest le jk stops = by_operand n x j _ _ rest (paths_again (expr_at text ps n) x t f m ts u p q s rest e d h)
  reaches (a_predicate {x = x} {i = i} t e) n j rest le jk stops = by_operand n x j _ _ rest (predicate_again (expr_at text ps n) x t i rest e)
  reaches (alone {x = x} {s = s} {ts = ts} d) n j rest le jk stops = by_operand n x j _ _ rest (alone_again (expr_at text ps n) x s ts rest d)
  reaches (in_parentheses {x = x} {c = c} {ts = ts} t q e d) n j rest le jk stops =
      by_operand n x j _ _ rest (parentheses_again (expr_at text ps n) x t c ts q rest e
      (at_level n x 1 c ts (mark marks.Close q ∷ rest) (omega arith) (λ m s. reaches d m 1 (mark marks.Close q ∷ rest) (omega (arith, length-append {A = Token})) (omega arith) (Stops_mark marks.Close q 2 rest refl)) (Stops_mark marks.Close q 1 rest refl)))
  reaches (quoted {c = c} {ts = ts} t q e d) n j rest le jk stops =
      by_operand n part.Cover j _ _ rest (quoted_again (expr_at text ps n) t c ts q rest e
      (at_level n part.Quoted 1 c ts (mark marks.Quote q ∷ rest) (omega arith) (λ m s. reaches d m 1 (mark marks.Quote q ∷ rest) (omega (arith, length-append {A = Token})) (omega arith) (Stops_mark marks.Quote q 2 rest refl)) (Stops_mark marks.Quote q 1 rest refl)))
  reaches (grouped {c = c} {ts = ts} t q e d) n j rest le jk stops =
      by_operand n part.Passing j _ _ rest (grouped_again (expr_at text ps n) t c ts q rest e
      (at_level n part.Quoted 1 c ts (mark marks.Quote q ∷ rest) (omega arith) (λ m s. reaches d m 1 (mark marks.Quote q ∷ rest) (omega (arith, length-append {A = Token})) (omega arith) (Stops_mark marks.Quote q 2 rest refl)) (Stops_mark marks.Quote q 1 rest refl)))
  reaches (two {x = x} {op = op} {a = a} {b = b} {xs = xs} {ys = ys} t is le' d f) n j rest le jk stops =
      go_on n x j (operator.Join op) a _ t xs _ (ys ++ rest) rest is (omega arith)
      (reaches d n j (t ∷ (ys ++ rest)) (omega (arith, length-append {A = Token})) (omega arith) (Stops_operator (operator.Join op) t (ys ++ rest) is))
      (join_behind (expr_at text ps n) x op a b t.column ys rest
      (at_level n x (suc (level (operator.Join op))) b ys rest (omega (arith, length-append {A = Token}))
      (λ m s. reaches f m (suc (level (operator.Join op))) rest (omega (arith, length-append {A = Token})) (omega arith) (Stops_more _ _ rest (omega arith) stops))
      (Stops_more _ _ rest (omega arith) stops)))
      (omega (arith, length-append {A = Token})) (simp append_assoc)
  reaches (any_times {x = x} {a = a} {xs = xs} t is le' d) n j rest le jk stops =
      go_on n x j operator.Star a _ t xs _ rest rest is (omega arith)
      (reaches d n j (t ∷ rest) (omega (arith, length-append {A = Token})) (omega arith) (Stops_operator operator.Star t rest is))
      (star_behind (expr_at text ps n) x a t.column rest) (omega arith) (simp append_assoc)
  reaches (times {x = x} {n = m} {c = c} {a = a} {xs = xs} t u is h le' d) n j rest le jk stops =
      go_on n x j (operator.Count c) a _ t xs _ (u ∷ rest) rest is (omega arith)
      (reaches d n j (t ∷ u ∷ rest) (omega (arith, length-append {A = Token})) (omega arith) (Stops_operator (operator.Count c) t (u ∷ rest) is))
      (count_behind (expr_at text ps n) x c m a t.column u rest h) (omega arith) (simp append_assoc)

  pub expr_again : {x : Part} {c : CoverTree} {xs : List Token} → Derives text ps x 1 c xs → (n : ℕ) (rest : List Token) → length xs + length rest < n → Stops 1 rest → expr_at text ps n x 1 (xs ++ rest) ≡ Some (c, rest)
  expr_again {x} {c} {xs} d n rest le stops =
      at_level n x 1 c xs rest (omega arith) (λ m s. reaches d m 1 rest (omega arith) (omega arith) (Stops_more 1 2 rest (omega arith) stops)) stops
