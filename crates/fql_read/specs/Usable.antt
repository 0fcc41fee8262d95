-- What the layers above may use of a query.
use Rattle.std.specs.Prelude.{◌≡◌, ℕ, ◌+◌, ◌≤◌, Bool, true, ◌&&◌, not, ◌==◌, nat_lt, nat_le, max, List, length, Option, Some, None, IsTrue, IfSome, AllPairs}
use Rattle.std.specs.List.{list_all}
use Rattle.fql_read.specs.declared.cover.CoverTree.{CoverTree, fold-CoverTree}
use Rattle.fql_read.specs.declared.cover.CoverTree.TheOpen.{CoverTree-F}
use Rattle.fql_read.specs.declared.query.Query.{Query}
use Rattle.fql_read.specs.QueryLimits.{most_letters, first_repetition, clause_letters}

-- a number of repetitions is at most 100, where there is one
abbrev pub is_few : Option ℕ → Bool
is_few None = true
is_few (Some n) = nat_le n 100

-- the k of PATHS is from 1 to 100, repetitions are at most 100, and each predicate is one of so many
abbrev pub within_step : ℕ → CoverTree-F Bool → Bool
within_step n (CoverTree-F.Nodes s) = list_all (λ i. nat_lt i n) s.predicates
within_step n (CoverTree-F.Edges s) = list_all (λ i. nat_lt i n) s.predicates
within_step n (CoverTree-F.Paths f k) = nat_le 1 k && nat_le k 100
within_step n (CoverTree-F.Predicate i) = nat_lt i n
within_step n (CoverTree-F.Quoted body text) = body
within_step n (CoverTree-F.Dot a b) = a && b
within_step n (CoverTree-F.Plus a b) = a && b
within_step n (CoverTree-F.Arrow a b) = a && b
within_step n (CoverTree-F.Repeat body least most column) = body && nat_le least 100 && is_few most

unfoldable pub is_within : ℕ → CoverTree → Bool
is_within n = fold-CoverTree Bool (within_step n)

-- how deep quotation marks stand in one another
abbrev pub depth_step : CoverTree-F ℕ → ℕ
depth_step (CoverTree-F.Nodes s) = 0
depth_step (CoverTree-F.Edges s) = 0
depth_step (CoverTree-F.Paths f k) = 0
depth_step (CoverTree-F.Predicate i) = 0
depth_step (CoverTree-F.Quoted body text) = body + 1
depth_step (CoverTree-F.Dot a b) = max a b
depth_step (CoverTree-F.Plus a b) = max a b
depth_step (CoverTree-F.Arrow a b) = max a b
depth_step (CoverTree-F.Repeat body least most column) = body

unfoldable pub quote_depth : CoverTree → ℕ
quote_depth = fold-CoverTree ℕ depth_step

-- Numbers are in their ranges, and predicates are there; the cover clause has no repetition outside quotation marks;
-- quotation marks don't nest, and the passing clause has none; there are no more letters than the limit allows, and no
-- predicate is listed twice.
pub record IsUsable (q : Query) : Type 0 where
  pub cover_within : IsTrue (is_within (length q.predicates) q.cover.body)
  pub passing_within : IfSome q.passing (λ c. IsTrue (is_within (length q.predicates) c.body))
  pub once : first_repetition q.cover.body ≡ None
  pub apart : quote_depth q.cover.body ≤ 1
  pub unquoted : IfSome q.passing (λ c. quote_depth c.body ≡ 0)
  pub few : clause_letters q ≤ most_letters
  pub listed : AllPairs (λ (v w : List ℕ). v ≡ w → ⊥) q.predicates
