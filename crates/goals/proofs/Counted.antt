-- Counts of words and letters.
use Rattle.std.proofs.Common.{◌≡◌, ℕ, ◌+◌, ◌<◌, max, List, [], ◌∷◌, ◌++◌, length, get_or, map, take, ap, ◌∙◌, arith}
use Rattle.std.proofs.lemmas.List.{map_more}
use Rattle.goals.specs.Counts.{greatest}

greatest_behind : (ns : List ℕ) (n : ℕ) → greatest (ns ++ n ∷ []) ≡ max (greatest ns) n
greatest_behind [] n = omega arith
greatest_behind (x ∷ xs) n = let rest = greatest_behind xs n in omega arith

pub greatest_more : (ps : List (List ℕ)) (i : ℕ) (d : List ℕ) → i < length ps → greatest (map length (take (i + 1) ps)) ≡ max (greatest (map length (take i ps))) (length (get_or ps i d))
greatest_more ps i d lt = ap greatest (map_more length ps i d lt) ∙ greatest_behind (map length (take i ps)) (length (get_or ps i d))
