-- Bytes that are no certificate have one first line that isn't allowed.
use Rattle.std.proofs.Common.{◌≡◌, ℕ, ◌<◌, ◌≤◌, ◌^◌, false, List, [], ◌∷◌, ◌++◌, length, map, refl, sym, ap, subst, ◌∙◌, ⊎_elim, arith, append_assoc}
use Rattle.std.specs.Prelude.{ℤ}
use Rattle.std.proofs.lemmas.Bool.{cases_lt}
use Rattle.cnf.specs.declared.formula.Formula.{Formula}
use Rattle.cnf.specs.declared.derivation.DerivationLine.{DerivationLine}
use Rattle.cnf.specs.declared.derivation.Derivation.{Derivation}
use Rattle.cnf.specs.Dimacs.{clause_text, text_of_lines}
use Rattle.certificate.specs.Certificates.{AreClausesOver, AreLinesOver, Begins, IsFirstBadLine, IsPair, certificate_lines, derivation_head, line_text, numbers_of_line}
use Rattle.certificate.specs.Numbers.{has_byte}
use Rattle.certificate.proofs.ClauseLaws.{small_clause, small_line}
use Rattle.certificate.proofs.HeadLaws.{derivation_head_lacks, head_lacks}
use Rattle.certificate.proofs.RowLaws.{cut_once, row_lacks}

-- ---- the lines of a certificate have no line feed

abbrev Lacks : List ℕ → Type 0
Lacks line = has_byte 10 line ≡ false

AllLack : List (List ℕ) → Type 0
AllLack [] = Unit {0}
AllLack (line ∷ lines) = Lacks line × AllLack lines

lack_append : (front back : List (List ℕ)) → AllLack front → AllLack back → AllLack (front ++ back)
unfolding AllLack
lack_append [] back f b = b
lack_append (line ∷ front) back f b = (f.0, lack_append front back f.1 b)

lack_front : (front back : List (List ℕ)) → AllLack (front ++ back) → AllLack front
unfolding AllLack
lack_front [] back h = tt
lack_front (line ∷ front) back h = (h.0, lack_front front back h.1)

module _ (variables : ℕ) (few : variables ≤ 2 ^ 30) where
  clauses_lack : (clauses : List (List ℤ)) → AreClausesOver variables clauses → AllLack (map clause_text clauses)
  unfolding AllLack
  clauses_lack [] over = tt
  clauses_lack (clause ∷ clauses) over = (row_lacks 10 clause (omega arith) (small_clause variables 0 clause few over.0), clauses_lack clauses over.1)

  lines_lack : (lines : List DerivationLine) → AreLinesOver variables lines → AllLack (map line_text lines)
  unfolding AllLack
  lines_lack [] over = tt
  lines_lack (line ∷ lines) over = (row_lacks 10 (numbers_of_line line) (omega arith) (small_line variables line few over.0), lines_lack lines over.1)

certificate_lacks : (formula : Formula) (derivation : Derivation) → IsPair formula derivation → AllLack (certificate_lines formula derivation)
unfolding AllLack
certificate_lacks formula derivation pair =
    let few = pair.variables in
    let clauses = pair.clause_count in
    let lines = pair.line_count in (
      refl,
      (
        head_lacks formula.variables (length formula.clauses) (omega arith) (omega arith),
        lack_append (map clause_text formula.clauses) (derivation_head (length derivation.lines) ∷ map line_text derivation.lines) (clauses_lack formula.variables few formula.clauses pair.clauses)
            (derivation_head_lacks (length derivation.lines) (omega arith), lines_lack formula.variables few derivation.lines pair.lines),
      ),
    )

begun_lack : (before : List (List ℕ)) → Begins before → AllLack before
begun_lack before good = lack_front before good.more (subst AllLack good.whole (certificate_lacks good.formula good.derivation good.pair))

-- ---- of two beginnings of one text the longer one goes on with a line

record GoesOn (front lines : List (List ℕ)) (rest other : List ℕ) : Type 0 where
  next : List ℕ
  more : List (List ℕ)
  lines_are : lines ≡ front ++ next ∷ more
  rest_is : rest ≡ next ++ 10 ∷ (text_of_lines more ++ other)

regrouped : (line text rest : List ℕ) → ((line ++ 10 ∷ []) ++ text) ++ rest ≡ line ++ 10 ∷ (text ++ rest)
regrouped line text rest = simp append_assoc

goes_on : (front lines : List (List ℕ)) (rest other : List ℕ) → AllLack front → AllLack lines → length front < length lines → text_of_lines front ++ rest ≡ text_of_lines lines ++ other → GoesOn front lines rest other
unfolding AllLack
goes_on [] [] rest other f l h e = absurd (omega (arith, h))
goes_on [] (line ∷ lines) rest other f l h e = record { next = line; more = lines; lines_are = refl; rest_is = e ∙ regrouped line (text_of_lines lines) other }
goes_on (a ∷ front) [] rest other f l h e = absurd (omega (arith, h))
goes_on (a ∷ front) (b ∷ lines) rest other f l h e =
    let parts = cut_once 10 a (text_of_lines front ++ rest) b (text_of_lines lines ++ other) f.0 l.0 (sym (regrouped a (text_of_lines front) rest) ∙ e ∙ regrouped b (text_of_lines lines) other) in
    let later = goes_on front lines rest other f.1 l.1 (omega (arith, h)) parts.1 in
    let first : a ≡ b = parts.0 in
    let all = later.lines_are in
    record { next = later.next; more = later.more; lines_are = cc; rest_is = later.rest_is }

-- ---- one line

regrouped_lines : (before more last : List (List ℕ)) (next : List ℕ) → (before ++ next ∷ more) ++ last ≡ (before ++ next ∷ []) ++ (more ++ last)
regrouped_lines before more last next = simp append_assoc

module _ (bytes : List ℕ) where
  not_before : (k l : ℕ) → k < l → IsFirstBadLine bytes k → IsFirstBadLine bytes l → ⊥
  not_before k l less a b =
      let good = b.good in
      let fewer : length a.before < length b.before = (let m = a.count in let n = b.count in omega (arith, less, m, n)) in
      let on = goes_on a.before b.before a.rest b.rest (begun_lack a.before a.good) (begun_lack b.before good) fewer (sym a.text ∙ b.text) in
      a.bad on.next (text_of_lines on.more ++ b.rest) on.rest_is (record {
        formula = good.formula;
        derivation = good.derivation;
        more = on.more ++ good.more;
        pair = good.pair;
        whole = good.whole ∙ ap (λ (lines : List (List ℕ)). lines ++ good.more) on.lines_are ∙ regrouped_lines a.before on.more good.more on.next;
      })

  -- the first line that isn't allowed has one number
  pub one_line : (k l : ℕ) → IsFirstBadLine bytes k → IsFirstBadLine bytes l → k ≡ l
  one_line k l a b =
      ⊎_elim (λ less. absurd (not_before k l less a b))
      (λ rest. ⊎_elim (λ more. absurd (not_before l k more b a)) (λ most. omega (arith, rest, most)) (cases_lt l k))
      (cases_lt k l)
