-- What is refused of a query that the tokens spell, by its limits.
use Rattle.std.specs.Prelude.{ℕ, ◌+◌, Bool, true, false, ◌&&◌, ◌||◌, ◌==◌, nat_lt, if◌then◌else◌, List, [], ◌∷◌, Option, Some, None}
use Rattle.std.specs.Option.{option_map_or}
use Rattle.fql_tokens.specs.declared.token.Mark.TheVariants as marks
use Rattle.fql_tokens.specs.declared.token.Sign.{Sign}
use Rattle.fql_tokens.specs.declared.token.Sign.TheVariants as sign
use Rattle.fql_tokens.specs.declared.token.Token.{Token}
use Rattle.fql_read.specs.Tables.{is_pred, keyword_in}
use Rattle.fql_read.specs.declared.cover.CoverTree.{CoverTree, fold-CoverTree}
use Rattle.fql_read.specs.declared.cover.CoverTree.TheOpen.{CoverTree-F}
use Rattle.fql_read.specs.declared.limits.Bounds.{Bounds}
use Rattle.fql_read.specs.declared.limits.Bounds.TheVariants as bounds
use Rattle.fql_read.specs.declared.query.Clause.{Clause}
use Rattle.fql_read.specs.declared.query.Query.{Query}

-- the greatest number of letters of a query
abbrev pub most_letters : ℕ
most_letters = 200

-- the first that is there
abbrev pub or_first : Option ℕ → Option ℕ → Option ℕ
or_first None b = b
or_first (Some a) b = Some a

-- the column of the first mark outside quotation marks that says how often an expression occurs
abbrev pub repetition_step : CoverTree-F (Option ℕ) → Option ℕ
repetition_step (CoverTree-F.Nodes s) = None
repetition_step (CoverTree-F.Edges s) = None
repetition_step (CoverTree-F.Paths f n) = None
repetition_step (CoverTree-F.Predicate i) = None
repetition_step (CoverTree-F.Quoted body text) = None
repetition_step (CoverTree-F.Dot a b) = or_first a b
repetition_step (CoverTree-F.Plus a b) = or_first a b
repetition_step (CoverTree-F.Arrow a b) = or_first a b
repetition_step (CoverTree-F.Repeat body least most column) = or_first body (Some column)

unfoldable pub first_repetition : CoverTree → Option ℕ
first_repetition = fold-CoverTree (Option ℕ) repetition_step

-- a number behind a comma is that of PATHS, and one behind `==`, `<=` or `>=` says how often an expression occurs
abbrev pub bounds_behind : Sign → Bounds
bounds_behind (sign.Mark marks.Comma) = bounds.Path
bounds_behind (sign.Mark marks.Exactly) = bounds.Repetition
bounds_behind (sign.Mark marks.AtMost) = bounds.Repetition
bounds_behind (sign.Mark marks.AtLeast) = bounds.Repetition
bounds_behind _ = bounds.Any

-- that of PATHS is from 1 to 100, and the others are from 0 to 100
abbrev pub is_outside : Bounds → ℕ → Bool
is_outside bounds.Any n = false
is_outside bounds.Path n = n == 0 || nat_lt 100 n
is_outside bounds.Repetition n = nat_lt 100 n

abbrev pub sign_outside : Bounds → Sign → Bool
sign_outside b (sign.Number n) = is_outside b n
sign_outside b _ = false

-- the column of the first number that is outside its bounds
abbrev pub first_outside : Bounds → List Token → Option ℕ
first_outside b [] = None
first_outside b (t ∷ ts) = if sign_outside b t.sign then Some t.column else first_outside (bounds_behind t.sign) ts

unfoldable pub bad_number : List Token → Option ℕ
bad_number ts = first_outside bounds.Any ts

-- how many letters an expression has without those of PRED, within quotation marks too
abbrev pub letters_step : CoverTree-F ℕ → ℕ
letters_step (CoverTree-F.Nodes s) = 1
letters_step (CoverTree-F.Edges s) = 1
letters_step (CoverTree-F.Paths f n) = 1
letters_step (CoverTree-F.Predicate i) = 1
letters_step (CoverTree-F.Quoted body text) = body
letters_step (CoverTree-F.Dot a b) = a + b
letters_step (CoverTree-F.Plus a b) = a + b
letters_step (CoverTree-F.Arrow a b) = a + b
letters_step (CoverTree-F.Repeat body least most column) = body

unfoldable pub letters : CoverTree → ℕ
letters = fold-CoverTree ℕ letters_step

-- those of both clauses
abbrev pub clause_letters : Query → ℕ
clause_letters q = letters q.cover.body + option_map_or (λ (c : Clause). letters c.body) q.passing 0

-- a token that opens parentheses
abbrev pub opens : Sign → Bool
opens (sign.Mark marks.Open) = true
opens _ = false

-- How many PRED there are among tokens: the word with `(` behind it. A name may be the same word, but has `)` behind it.
abbrev pub preds_behind : Bool → List Token → ℕ
preds_behind pred [] = 0
preds_behind pred (t ∷ ts) = (if pred && opens t.sign then 1 else 0) + preds_behind (is_pred (keyword_in t.sign)) ts

unfoldable pub preds : List Token → ℕ
preds ts = preds_behind false ts

-- how many letters a query has: those of its clauses, and one for each PRED
abbrev pub letters_of : List Token → Query → ℕ
letters_of ts q = preds ts + clause_letters q
