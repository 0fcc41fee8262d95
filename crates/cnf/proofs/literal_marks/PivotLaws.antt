-- What is no pivot.
use Rattle.std.proofs.Common.{◌≡◌, zero, suc, Bool, true, false, List, refl, arith}
use Rattle.std.specs.Prelude.{ℤ, pos, negsuc, neg_ℤ, ◌&&◌}
use Rattle.cnf.specs.Clauses.{IsLiteral, IsClause, has_literal}
use Rattle.cnf.specs.Resolution.{can_resolve}
use Rattle.cnf.proofs.ClauseLaws.{literal_in_clause}

literal_of_negation : (x : ℤ) → IsLiteral (neg_ℤ x) → IsLiteral x
literal_of_negation (pos zero) h = h
literal_of_negation (pos (suc n)) h = (omega (arith, h.0, h.1), omega (arith, h.0, h.1))
literal_of_negation (negsuc n) h = (omega (arith, h.0, h.1), omega (arith, h.0, h.1))

-- a number that is no literal is no pivot
pub no_pivot : (set : ℤ → Bool) (pivot : ℤ) (clause : List ℤ) → IsClause clause → ¬ IsLiteral pivot → false ≡ can_resolve set pivot (has_literal clause)
no_pivot set pivot clause c other = by_test (set pivot) (has_literal clause (neg_ℤ pivot)) refl
  where
    by_test : (a b : Bool) → has_literal clause (neg_ℤ pivot) ≡ b → false ≡ (a && b)
    by_test a true e = absurd (other (literal_of_negation pivot (literal_in_clause 0 clause (neg_ℤ pivot) c e)))
    by_test true false e = refl
    by_test false false e = refl
