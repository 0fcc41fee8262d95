-- What is spelled within the limits is usable.
use Rattle.std.proofs.Common.{◌≡◌, ℕ, zero, suc, ◌+◌, ◌≤◌, ◌<◌, Bool, true, false, List, [], ◌∷◌, ◌++◌, length, Option, Some, None, refl, sym, ap, ◌∙◌, append_assoc, arith, rules}
use Rattle.std.specs.Prelude.{IfSome, IsTrue, if◌then◌else◌, nat_lt, nat_le, ◌||◌, ◌&&◌, ◌==◌, max}
use Rattle.std.specs.List.{list_all, list_any}
use Rattle.std.specs.Str.{bytes_eq}
use Rattle.std.proofs.lemmas.List.Folds.{list_all-append}
use Rattle.std.proofs.lemmas.List.Quantifiers.{position-Some}
use Rattle.std.proofs.lemmas.Bool.{and_from, le-leb, leb-false, lt-ltb}
use Rattle.fql_tokens.specs.declared.token.Mark.{Mark}
use Rattle.fql_tokens.specs.declared.token.Mark.TheVariants as marks
use Rattle.fql_tokens.specs.declared.token.Sign.{Sign}
use Rattle.fql_tokens.specs.declared.token.Sign.TheVariants as sign
use Rattle.fql_tokens.specs.declared.token.Token.{Token}
use Rattle.fql_read.specs.declared.limits.Bounds.{Bounds}
use Rattle.fql_read.specs.declared.limits.Bounds.TheVariants as bounds
use Rattle.fql_read.specs.declared.operator.Count.{Count}
use Rattle.fql_read.specs.declared.operator.Count.TheVariants as count
use Rattle.fql_read.specs.declared.operator.Join.{Join}
use Rattle.fql_read.specs.declared.operator.Join.TheVariants as join
use Rattle.fql_read.specs.declared.operator.Operator.TheVariants as operator
use Rattle.fql_read.specs.declared.operator.Part.{Part}
use Rattle.fql_read.specs.declared.operator.Part.TheVariants as part
use Rattle.fql_read.specs.declared.cover.CoverTree.{CoverTree, the_lemmas}
use Rattle.fql_read.specs.declared.cover.CoverTree.TheVariants as cover
use Rattle.fql_read.specs.declared.cover.Split.{Split}
use Rattle.fql_read.specs.declared.filter.Filter.{Filter}
use Rattle.fql_read.specs.declared.query.Clause.{Clause}
use Rattle.fql_read.specs.declared.query.Query.{Query}
use Rattle.fql_read.specs.Forms.{Text, joined, least_of, most_of, between, place_in, with_place}
use Rattle.fql_read.specs.Tables.{operator_of, number_in, place_of_predicate}
use Rattle.fql_read.specs.Spelled.{mark, DerivesSplit, no_split, a_split, Derives, some_nodes, some_edges, some_paths, a_predicate, alone, in_parentheses, quoted, grouped, two, any_times, times}
use Rattle.fql_read.specs.QueryForm.{DerivesClause, a_clause, DerivesPassing, no_passing, a_passing, DerivesQuery, a_query, predicates_of}
use Rattle.fql_read.specs.QueryLimits.{most_letters, first_repetition, clause_letters, bounds_behind, is_outside, sign_outside, first_outside, bad_number}
use Rattle.fql_read.specs.Asks.{Asks}
use Rattle.fql_read.proofs.Predicates.{Differ, predicates_differ}
use Rattle.fql_read.specs.Usable.{is_few, is_within, quote_depth, IsUsable}

-- ---- what is asked of a tree, by its form

module _ (n : ℕ) where
  within-nodes : (s : Split) → is_within n (cover.Nodes s) ≡ list_all (λ i. nat_lt i n) s.predicates
  unfolding is_within
  within-nodes s = search (rules, the_lemmas)

  within-edges : (s : Split) → is_within n (cover.Edges s) ≡ list_all (λ i. nat_lt i n) s.predicates
  unfolding is_within
  within-edges s = search (rules, the_lemmas)

  within-paths : (f : Filter) (k : ℕ) → is_within n (cover.Paths f k) ≡ (nat_le 1 k && nat_le k 100)
  unfolding is_within
  within-paths f k = search (rules, the_lemmas)

  within-predicate : (i : ℕ) → is_within n (cover.Predicate i) ≡ nat_lt i n
  unfolding is_within
  within-predicate i = search (rules, the_lemmas)

  within-quoted : (a : CoverTree) (w : Text) → is_within n (cover.Quoted a w) ≡ is_within n a
  unfolding is_within
  within-quoted a w = search (rules, the_lemmas)

  within-joined : (op : Join) (a b : CoverTree) → is_within n (joined op a b) ≡ (is_within n a && is_within n b)
  unfolding is_within
  within-joined join.Plus a b = search (rules, the_lemmas)
  within-joined join.Arrow a b = search (rules, the_lemmas)
  within-joined join.Dot a b = search (rules, the_lemmas)

  within-repeat : (a : CoverTree) (least : ℕ) (most : Option ℕ) (column : ℕ) → is_within n (cover.Repeat a least most column) ≡ (is_within n a && nat_le least 100 && is_few most)
  unfolding is_within
  within-repeat a least most column = search (rules, the_lemmas)

depth-nodes : (s : Split) → quote_depth (cover.Nodes s) ≡ 0
unfolding quote_depth
depth-nodes s = search (rules, the_lemmas)

depth-edges : (s : Split) → quote_depth (cover.Edges s) ≡ 0
unfolding quote_depth
depth-edges s = search (rules, the_lemmas)

depth-paths : (f : Filter) (k : ℕ) → quote_depth (cover.Paths f k) ≡ 0
unfolding quote_depth
depth-paths f k = search (rules, the_lemmas)

depth-predicate : (i : ℕ) → quote_depth (cover.Predicate i) ≡ 0
unfolding quote_depth
depth-predicate i = search (rules, the_lemmas)

depth-quoted : (a : CoverTree) (w : Text) → quote_depth (cover.Quoted a w) ≡ quote_depth a + 1
unfolding quote_depth
depth-quoted a w = search (rules, the_lemmas)

depth-joined : (op : Join) (a b : CoverTree) → quote_depth (joined op a b) ≡ max (quote_depth a) (quote_depth b)
unfolding quote_depth
depth-joined join.Plus a b = search (rules, the_lemmas)
depth-joined join.Arrow a b = search (rules, the_lemmas)
depth-joined join.Dot a b = search (rules, the_lemmas)

depth-repeat : (a : CoverTree) (least : ℕ) (most : Option ℕ) (column : ℕ) → quote_depth (cover.Repeat a least most column) ≡ quote_depth a
unfolding quote_depth
depth-repeat a least most column = search (rules, the_lemmas)

-- ---- numbers in a part of the tokens

first_inside : (b : Bounds) (t : Token) (ts : List Token) → first_outside b (t ∷ ts) ≡ None → (sign_outside b t.sign ≡ false) × (first_outside (bounds_behind t.sign) ts ≡ None)
first_inside b t ts e = at (sign_outside b t.sign) refl e
  where
    at : (v : Bool) → sign_outside b t.sign ≡ v → (if v then Some t.column else first_outside (bounds_behind t.sign) ts) ≡ None → (sign_outside b t.sign ≡ false) × (first_outside (bounds_behind t.sign) ts ≡ None)
    at true h e = absurd cc
    at false h e = (h, e)

inside_more : (b : Bounds) (t : Token) (ts : List Token) → sign_outside b t.sign ≡ false → first_outside (bounds_behind t.sign) ts ≡ None → first_outside b (t ∷ ts) ≡ None
inside_more b t ts h e = rw h e

front_inside : (b : Bounds) (xs ys : List Token) → first_outside b (xs ++ ys) ≡ None → first_outside b xs ≡ None
front_inside b [] ys e = refl
front_inside b (x ∷ xs) ys e = let h = first_inside b x (xs ++ ys) e in inside_more b x xs h.0 (front_inside (bounds_behind x.sign) xs ys h.1)

back_inside : (b : Bounds) (xs ys : List Token) → first_outside b (xs ++ ys) ≡ None → (c : Bounds) × (first_outside c ys ≡ None)
back_inside b [] ys e = (b, e)
back_inside b (x ∷ xs) ys e = back_inside (bounds_behind x.sign) xs ys (first_inside b x (xs ++ ys) e).1

-- behind a token
rest_inside : (b : Bounds) (xs : List Token) (t : Token) (ys : List Token) → first_outside b (xs ++ t ∷ ys) ≡ None → first_outside (bounds_behind t.sign) ys ≡ None
rest_inside b [] t ys e = (first_inside b t ys e).1
rest_inside b (x ∷ xs) t ys e = rest_inside (bounds_behind x.sign) xs t ys (first_inside b x (xs ++ t ∷ ys) e).1

is_number : (c : Bounds) (s : Sign) (n : ℕ) → number_in s ≡ Some n → sign_outside c s ≡ false → is_outside c n ≡ false
is_number c (sign.Number m) n h e = let same : m ≡ n = cc in rw same at e
is_number c (sign.Word k w) n h e = absurd cc
is_number c (sign.Filter f) n h e = absurd cc
is_number c (sign.Mark m) n h e = absurd cc
is_number c (sign.Predicate w) n h e = absurd cc
is_number c (sign.File w) n h e = absurd cc

-- the number behind a token
number_inside : (b : Bounds) (xs : List Token) (t u : Token) (ys : List Token) (n : ℕ) → first_outside b (xs ++ t ∷ u ∷ ys) ≡ None → number_in u.sign ≡ Some n → is_outside (bounds_behind t.sign) n ≡ false
number_inside b xs t u ys n e h = is_number (bounds_behind t.sign) u.sign n h (first_inside (bounds_behind t.sign) u ys (rest_inside b xs t (u ∷ ys) e)).0

small : (n : ℕ) → nat_lt 100 n ≡ false → n ≤ 100
small n e = let h : n < 101 = leb-false 101 n e in omega arith

some_number : (n : ℕ) → (n == 0) ≡ false → 1 ≤ n
some_number zero f = absurd cc
some_number (suc n) f = omega arith

path_range : (n : ℕ) → is_outside bounds.Path n ≡ false → (1 ≤ n) × (n ≤ 100)
path_range n e = at (n == 0) (nat_lt 100 n) refl refl e
  where
    at : (v w : Bool) → (n == 0) ≡ v → nat_lt 100 n ≡ w → (v || w) ≡ false → (1 ≤ n) × (n ≤ 100)
    at true w f g e = absurd cc
    at false true f g e = absurd cc
    at false false f g e = (some_number n f, small n g)

mark_bounds : (m : Mark) (c : Count) → operator_of (sign.Mark m) ≡ Some (operator.Count c) → bounds_behind (sign.Mark m) ≡ bounds.Repetition
mark_bounds marks.Exactly c e = refl
mark_bounds marks.AtMost c e = refl
mark_bounds marks.AtLeast c e = refl
mark_bounds _ c e = absurd cc

count_bounds : (s : Sign) (c : Count) → operator_of s ≡ Some (operator.Count c) → bounds_behind s ≡ bounds.Repetition
count_bounds (sign.Mark m) c e = mark_bounds m c e
count_bounds _ c e = absurd cc

count_range : (s : Sign) (c : Count) (n : ℕ) → operator_of s ≡ Some (operator.Count c) → is_outside (bounds_behind s) n ≡ false → n ≤ 100
count_range s c n is e = small n (rw (count_bounds s c is) at e)

least_small : (c : Count) (n : ℕ) → n ≤ 100 → least_of c n ≤ 100
least_small count.Exactly n h = h
least_small count.AtMost n h = omega arith
least_small count.AtLeast n h = h

most_small : (c : Count) (n : ℕ) → n ≤ 100 → IsTrue (is_few (most_of c n))
most_small count.Exactly n h = le-leb n 100 h
most_small count.AtMost n h = le-leb n 100 h
most_small count.AtLeast n h = refl

joined_depth : (d : ℕ) (op : Join) (a b : CoverTree) → quote_depth a ≤ d → quote_depth b ≤ d → quote_depth (joined op a b) ≤ d
joined_depth d op a b h g = rw (depth-joined op a b) (omega arith)

place_within : (ps : List Text) (s : Sign) (i : ℕ) → place_of_predicate ps s ≡ Some i → IsTrue (nat_lt i (length ps))
place_within ps (sign.Predicate w) i e = lt-ltb i (length ps) (position-Some (λ v. bytes_eq v w) ps i [] e).0
place_within ps (sign.Word k w) i e = absurd cc
place_within ps (sign.Filter f) i e = absurd cc
place_within ps (sign.Mark m) i e = absurd cc
place_within ps (sign.Number n) i e = absurd cc
place_within ps (sign.File w) i e = absurd cc

path_within : (n : ℕ) → is_outside bounds.Path n ≡ false → IsTrue (nat_le 1 n && nat_le n 100)
path_within n e = let h = path_range n e in and_from (nat_le 1 n) (nat_le n 100) (le-leb 1 n h.0) (le-leb n 100 h.1)

-- a repetition that is in its bounds
repeat_within : (b : Bool) (least : ℕ) (most : Option ℕ) → IsTrue b → least ≤ 100 → IsTrue (is_few most) → IsTrue (b && nat_le least 100 && is_few most)
repeat_within b least most h l m =
    and_from (b && nat_le least 100) (is_few most) (and_from b (nat_le least 100) h (le-leb least 100 l)) m

-- the places of PRED's predicates
place_added : (n : ℕ) (ks : List ℕ) (i : ℕ) → list_all (λ k. nat_lt k n) ks ≡ true → nat_lt i n ≡ true → list_all (λ k. nat_lt k n) (with_place ks i) ≡ true
place_added n ks i h g = at (list_any (λ k. k == i) ks)
  where
    at : (b : Bool) → list_all (λ k. nat_lt k n) (if b then ks else ks ++ i ∷ []) ≡ true
    at true = h
    at false = list_all-append (λ k. nat_lt k n) ks (i ∷ []) ∙ (λ j. h j && (g j && true))

split_within : (ps : List Text) {s : Split} {xs : List Token} → DerivesSplit ps s xs → list_all (λ i. nat_lt i (length ps)) s.predicates ≡ true
split_within ps (no_split d) = refl
split_within ps (a_split {s = s} {i = i} t u p q o k d h) = place_added (length ps) s.predicates i (split_within ps d) (place_within ps u.sign i h)

module _ (text : List ℕ) (ps : List Text) where
  within : {x : Part} {k : ℕ} {c : CoverTree} {xs : List Token} → Derives text ps x k c xs → (b : Bounds) → first_outside b xs ≡ None → IsTrue (is_within (length ps) c)
  within (some_nodes {s = s} t p q e d) b i = within-nodes (length ps) s ∙ split_within ps d
  within (some_edges {s = s} t p q e d) b i = within-edges (length ps) s ∙ split_within ps d
  within (some_paths {n = n} {f = f} {ts = ts} t u p q r e d h) b i =
      rw (within-paths (length ps) f n) (path_within n (number_inside (bounds_behind t.sign) (mark marks.Open p ∷ ts) (mark marks.Comma q) u (mark marks.Close r ∷ []) n (first_inside b t (mark marks.Open p ∷ (ts ++ mark marks.Comma q ∷ u ∷ mark marks.Close r ∷ [])) i).1 h))
  within (a_predicate {i = k} t e) b i = rw (within-predicate (length ps) k) (place_within ps t.sign k e)
  within (alone {s = s} d) b i = within-edges (length ps) s ∙ split_within ps d
  within (in_parentheses {ts = ts} t q e d) b i =
      within d (bounds_behind t.sign) (front_inside (bounds_behind t.sign) ts (mark marks.Close q ∷ []) (first_inside b t (ts ++ mark marks.Close q ∷ []) i).1)
  within (quoted {c = c} {ts = ts} t q e d) b i =
      rw (within-quoted (length ps) c (between text t.column q)) (within d (bounds_behind t.sign) (front_inside (bounds_behind t.sign) ts (mark marks.Quote q ∷ []) (first_inside b t (ts ++ mark marks.Quote q ∷ []) i).1))
  within (grouped {ts = ts} t q e d) b i =
      within d (bounds_behind t.sign) (front_inside (bounds_behind t.sign) ts (mark marks.Quote q ∷ []) (first_inside b t (ts ++ mark marks.Quote q ∷ []) i).1)
  within (two {op = op} {a = c} {b = d} {xs = xs} {ys = ys} t e le f g) b i =
      rw (within-joined (length ps) op c d) (and_from (is_within (length ps) c) (is_within (length ps) d) (within f b (front_inside b xs (t ∷ ys) i)) (within g (bounds_behind t.sign) (rest_inside b xs t ys i)))
  within (any_times {a = a} {xs = xs} t e le d) b i =
      rw (within-repeat (length ps) a 0 None t.column) (repeat_within (is_within (length ps) a) 0 None (within d b (front_inside b xs (t ∷ []) i)) (omega arith) refl)
  within (times {n = n} {c = c} {a = a} {xs = xs} t u e h le d) b i =
      let few = count_range t.sign c n e (number_inside b xs t u [] n i h) in
      rw (within-repeat (length ps) a (least_of c n) (most_of c n) t.column) (repeat_within (is_within (length ps) a) (least_of c n) (most_of c n) (within d b (front_inside b xs (t ∷ u ∷ []) i)) (least_small c n few) (most_small c n few))

  unquoted : {x : Part} {k : ℕ} {c : CoverTree} {xs : List Token} → Derives text ps x k c xs → (x ≡ part.Cover → ⊥) → quote_depth c ≤ 0
  unquoted (some_nodes {s = s} t p q e d) n = omega (arith, depth-nodes s)
  unquoted (some_edges {s = s} t p q e d) n = omega (arith, depth-edges s)
  unquoted (some_paths {n = k} {f = f} t u p q r e d h) n = omega (arith, depth-paths f k)
  unquoted (a_predicate {i = i} t e) n = omega (arith, depth-predicate i)
  unquoted (alone {s = s} d) n = omega (arith, depth-edges s)
  unquoted (in_parentheses t q e d) n = unquoted d n
  unquoted (quoted t q e d) n = absurd (n refl)
  unquoted (grouped t q e d) n = unquoted d (λ h. cc)
  unquoted (two {op = op} {a = c} {b = d} t e le f g) n = joined_depth 0 op c d (unquoted f n) (unquoted g n)
  unquoted (any_times {a = a} t e le d) n = omega (arith, depth-repeat a 0 None t.column, unquoted d n)
  unquoted (times {n = m} {c = c} {a = a} t u e h le d) n = omega (arith, depth-repeat a (least_of c m) (most_of c m) t.column, unquoted d n)

  apart : {x : Part} {k : ℕ} {c : CoverTree} {xs : List Token} → Derives text ps x k c xs → quote_depth c ≤ 1
  apart (some_nodes {s = s} t p q e d) = omega (arith, depth-nodes s)
  apart (some_edges {s = s} t p q e d) = omega (arith, depth-edges s)
  apart (some_paths {n = k} {f = f} t u p q r e d h) = omega (arith, depth-paths f k)
  apart (a_predicate {i = i} t e) = omega (arith, depth-predicate i)
  apart (alone {s = s} d) = omega (arith, depth-edges s)
  apart (in_parentheses t q e d) = apart d
  apart (quoted {c = c} t q e d) = omega (arith, depth-quoted c (between text t.column q), unquoted d (λ h. cc))
  apart (grouped t q e d) = apart d
  apart (two {op = op} {a = c} {b = d} t e le f g) = joined_depth 1 op c d (apart f) (apart g)
  apart (any_times {a = a} t e le d) = omega (arith, depth-repeat a 0 None t.column, apart d)
  apart (times {n = m} {c = c} {a = a} t u e h le d) = omega (arith, depth-repeat a (least_of c m) (most_of c m) t.column, apart d)

  clause_within : {x : Part} {c : Clause} {ts : List Token} → DerivesClause text ps x c ts → (b : Bounds) → first_outside b ts ≡ None → IsTrue (is_within (length ps) c.body)
  clause_within (a_clause {xs = xs} {ys = ys} {zs = zs} s d e) b i =
      let h = back_inside b xs (ys ++ zs) i in within d h.0 (front_inside h.0 ys zs h.1)

  clause_apart : {x : Part} {c : Clause} {ts : List Token} → DerivesClause text ps x c ts → quote_depth c.body ≤ 1
  clause_apart (a_clause s d e) = apart d

  clause_unquoted : {c : Clause} {ts : List Token} → DerivesClause text ps part.Passing c ts → quote_depth c.body ≡ 0
  clause_unquoted (a_clause s d e) = omega (arith, unquoted d (λ h. cc))

  passing_within : {p : Option Clause} {ts : List Token} → DerivesPassing text ps p ts → (b : Bounds) → first_outside b ts ≡ None → IfSome p (λ c. IsTrue (is_within (length ps) c.body))
  passing_within no_passing b i = tt
  passing_within (a_passing {ts = ts} t e d) b i = clause_within d (bounds_behind t.sign) (first_inside b t ts i).1

  passing_unquoted : {p : Option Clause} {ts : List Token} → DerivesPassing text ps p ts → IfSome p (λ c. quote_depth c.body ≡ 0)
  passing_unquoted no_passing = tt
  passing_unquoted (a_passing t e d) = clause_unquoted d

  query_usable : {q : Query} {ts : List Token} → DerivesQuery text ps q ts → Differ ps → bad_number ts ≡ None → first_repetition q.cover.body ≡ None → clause_letters q ≤ most_letters → IsUsable q
  unfolding bad_number
  query_usable (a_query {xs = xs} {ys = ys} {zs = zs} t b k c p) listed i once few =
      let rest = rest_inside bounds.Any xs t (ys ++ zs) i in
      let behind = back_inside (bounds_behind t.sign) ys zs rest in
      record {
        cover_within = clause_within c (bounds_behind t.sign) (front_inside (bounds_behind t.sign) ys zs rest);
        passing_within = passing_within p behind.0 behind.1;
        once = once;
        apart = clause_apart c;
        unquoted = passing_unquoted p;
        few = few;
        listed = listed;
      }

pub asks_usable : (text : List ℕ) (q : Query) → Asks text q → IsUsable q
asks_usable text q a = let few = a.few in query_usable text (predicates_of a.tokens) a.spelled (predicates_differ a.tokens) a.bounded a.once (omega arith)
