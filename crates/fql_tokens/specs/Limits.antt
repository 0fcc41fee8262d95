-- The limits of a query's length and of its open brackets.
use Rattle.std.specs.Prelude.{ℕ, ◌+◌, ◌-◌, Bool, nat_lt, List, [], ◌∷◌}
use Rattle.std.specs.List.{list_any}
use Rattle.fql_tokens.specs.declared.token.Mark.TheVariants as marks
use Rattle.fql_tokens.specs.declared.token.Sign.{Sign}
use Rattle.fql_tokens.specs.declared.token.Sign.TheVariants as sign
use Rattle.fql_tokens.specs.declared.token.Token.{Token}

-- the greatest number of bytes, and of open brackets
abbrev pub most_bytes : ℕ
most_bytes = 4096

abbrev pub most_brackets : ℕ
most_brackets = 60

-- how many brackets are open after one more token; one that closes nothing isn't counted
abbrev pub with_bracket : ℕ → Sign → ℕ
with_bracket n (sign.Mark marks.Open) = n + 1
with_bracket n (sign.Mark marks.Close) = n - 1
with_bracket n s = n

-- how many are open after each token, where so many are open before them
abbrev pub depths : ℕ → List Token → List ℕ
depths n [] = []
depths n (t ∷ ts) = with_bracket n t.sign ∷ depths (with_bracket n t.sign) ts

-- at some token more are open than the limit allows
unfoldable pub is_too_deep : List Token → Bool
is_too_deep ts = list_any (λ n. nat_lt most_brackets n) (depths 0 ts)
