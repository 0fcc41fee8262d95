-- Clauses over the variables up to a number.
use Rattle.std.proofs.Common.{◌≡◌, ℕ, ◌+◌, ◌*◌, ◌≤◌, ◌^◌, List, [], ◌∷◌, ◌++◌, map, sym, ◌∙◌, ap, arith, append_assoc}
use Rattle.std.specs.Prelude.{ℤ, pos, negsuc}
use Rattle.cnf.specs.declared.derivation.DerivationLine.{DerivationLine}
use Rattle.cnf.specs.Clauses.{literal_key, RisesFrom}
use Rattle.cnf.specs.Dimacs.{text_of_lines}
use Rattle.certificate.specs.Certificates.{RisesWithin, IsClauseOver, AreClausesOver, AreStepsOver, IsLineOver, AreLinesOver, numbers_of_steps, numbers_of_line}
use Rattle.certificate.specs.Numbers.{IsSmall, AreSmall}

pub rises_from_within : (variables low : ℕ) (xs : List ℤ) → variables ≤ 2 ^ 30 → RisesWithin variables low xs → RisesFrom low xs
rises_from_within variables low [] h r = tt
rises_from_within variables low (x ∷ xs) h r = (r.0, omega (arith, r.1), rises_from_within variables (literal_key x) xs h r.2)

small_literal : (variables : ℕ) (x : ℤ) → variables ≤ 2 ^ 30 → literal_key x ≤ 2 * variables + 1 → IsSmall x
small_literal variables (pos n) h r = omega arith
small_literal variables (negsuc n) h r = omega arith

pub small_clause : (variables low : ℕ) (xs : List ℤ) → variables ≤ 2 ^ 30 → RisesWithin variables low xs → AreSmall xs
small_clause variables low [] h r = tt
small_clause variables low (x ∷ xs) h r = (small_literal variables x h r.1, small_clause variables (literal_key x) xs h r.2)

small_append : (xs ys : List ℤ) → AreSmall xs → AreSmall ys → AreSmall (xs ++ ys)
small_append [] ys s t = t
small_append (x ∷ xs) ys s t = (s.0, small_append xs ys s.1 t)

small_steps : (variables : ℕ) (steps : List (ℕ × ℤ)) → variables ≤ 2 ^ 30 → AreStepsOver variables steps → AreSmall (numbers_of_steps steps)
small_steps variables [] h o = tt
small_steps variables (step ∷ steps) h o = (o.0.0.1, (small_literal variables step.1 h o.0.1.1, small_steps variables steps h o.1))

pub small_line : (variables : ℕ) (line : DerivationLine) → variables ≤ 2 ^ 30 → IsLineOver variables line → AreSmall (numbers_of_line line)
small_line variables line h o =
    small_append line.clause (pos 0 ∷ pos line.first ∷ numbers_of_steps line.steps) (small_clause variables 0 line.clause h o.0)
    (omega arith, (o.1.1, small_steps variables line.steps h o.2))

-- ---- clauses and lines in turn

pub clauses_over_more : (variables : ℕ) (clauses : List (List ℤ)) (clause : List ℤ) → AreClausesOver variables clauses → IsClauseOver variables clause → AreClausesOver variables (clauses ++ clause ∷ [])
clauses_over_more variables [] clause o p = (p, tt)
clauses_over_more variables (c ∷ cs) clause o p = (o.0, clauses_over_more variables cs clause o.1 p)

pub lines_over_more : (variables : ℕ) (lines : List DerivationLine) (line : DerivationLine) → AreLinesOver variables lines → IsLineOver variables line → AreLinesOver variables (lines ++ line ∷ [])
lines_over_more variables [] line o p = (p, tt)
lines_over_more variables (l ∷ ls) line o p = (o.0, lines_over_more variables ls line o.1 p)

pub text_more : {X : Type 0} (text_of : X → List ℕ) (xs : List X) (x : X) (text rest after : List ℕ) → text ≡ text_of_lines (map text_of xs) ++ rest → rest ≡ text_of x ++ 10 ∷ after
    → text ≡ text_of_lines (map text_of (xs ++ x ∷ [])) ++ after
text_more {X = X} text_of xs x text rest after e f = e ∙ ap (λ (r : List ℕ). text_of_lines (map text_of xs) ++ r) f ∙ again xs
  where
    again : (ys : List X) → text_of_lines (map text_of ys) ++ (text_of x ++ 10 ∷ after) ≡ text_of_lines (map text_of (ys ++ x ∷ [])) ++ after
    again [] = simp append_assoc
    again (y ∷ ys) =
        append_assoc (text_of y ++ 10 ∷ []) (text_of_lines (map text_of ys)) (text_of x ++ 10 ∷ after)
        ∙ ap (λ (r : List ℕ). (text_of y ++ 10 ∷ []) ++ r) (again ys)
        ∙ sym (append_assoc (text_of y ++ 10 ∷ []) (text_of_lines (map text_of (ys ++ x ∷ []))) after)
