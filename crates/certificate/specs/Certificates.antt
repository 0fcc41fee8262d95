-- The text of a certificate: a formula and a derivation over it.
use Rattle.std.specs.Prelude.{◌≡◌, ℕ, ◌+◌, ◌*◌, ◌<◌, ◌≤◌, ◌^◌, ℤ, pos, List, [], ◌∷◌, ◌++◌, length, map, codes}
use Rattle.std.specs.Fmt.{decimal}
use Rattle.cnf.specs.declared.formula.Formula.{Formula}
use Rattle.cnf.specs.declared.derivation.DerivationLine.{DerivationLine}
use Rattle.cnf.specs.declared.derivation.Derivation.{Derivation}
use Rattle.cnf.specs.Clauses.{literal_key}
use Rattle.cnf.specs.Dimacs.{dimacs_lines, text_of_lines}
use Rattle.certificate.specs.Numbers.{row_text}

-- ---- what a certificate may hold

-- literals rise, the first one standing after a place, and are of the variables up to a number
abbrev pub RisesWithin : ℕ → ℕ → List ℤ → Type 0
RisesWithin variables low [] = Unit {0}
RisesWithin variables low (x ∷ xs) = (low < literal_key x) × (literal_key x ≤ 2 * variables + 1) × RisesWithin variables (literal_key x) xs

-- a clause over the variables up to a number
abbrev pub IsClauseOver : ℕ → List ℤ → Type 0
IsClauseOver variables clause = RisesWithin variables 0 clause

abbrev pub AreClausesOver : ℕ → List (List ℤ) → Type 0
AreClausesOver variables [] = Unit {0}
AreClausesOver variables (clause ∷ clauses) = IsClauseOver variables clause × AreClausesOver variables clauses

-- the number of a clause
abbrev pub IsNumber : ℕ → Type 0
IsNumber n = (1 ≤ n) × (n < 2 ^ 32)

-- a literal of the variables up to a number
abbrev pub IsLiteralOver : ℕ → ℤ → Type 0
IsLiteralOver variables x = (0 < literal_key x) × (literal_key x ≤ 2 * variables + 1)

-- a step: a number and a literal
abbrev pub IsStepOver : ℕ → ℕ × ℤ → Type 0
IsStepOver variables step = IsNumber step.0 × IsLiteralOver variables step.1

abbrev pub AreStepsOver : ℕ → List (ℕ × ℤ) → Type 0
AreStepsOver variables [] = Unit {0}
AreStepsOver variables (step ∷ steps) = IsStepOver variables step × AreStepsOver variables steps

abbrev pub IsLineOver : ℕ → DerivationLine → Type 0
IsLineOver variables line = IsClauseOver variables line.clause × IsNumber line.first × AreStepsOver variables line.steps

abbrev pub AreLinesOver : ℕ → List DerivationLine → Type 0
AreLinesOver variables [] = Unit {0}
AreLinesOver variables (line ∷ lines) = IsLineOver variables line × AreLinesOver variables lines

-- a formula and a derivation that certificates can write
pub record IsPair (formula : Formula) (derivation : Derivation) : Type 0 where
  pub variables : formula.variables ≤ 2 ^ 30
  pub clause_count : length formula.clauses < 2 ^ 32
  pub clauses : AreClausesOver formula.variables formula.clauses
  pub line_count : length derivation.lines < 2 ^ 32
  pub lines : AreLinesOver formula.variables derivation.lines

-- ---- its lines

abbrev pub title : List ℕ
title = codes "fshell certificate 1"

abbrev pub derivation_head : ℕ → List ℕ
derivation_head count = codes "derivation " ++ decimal count

-- antecedent and pivot of each step
abbrev pub numbers_of_steps : List (ℕ × ℤ) → List ℤ
numbers_of_steps [] = []
numbers_of_steps (step ∷ steps) = pos step.0 ∷ step.1 ∷ numbers_of_steps steps

-- the numbers of a line, but for the last 0: its clause and 0, the first antecedent, and antecedent and pivot of each step
abbrev pub numbers_of_line : DerivationLine → List ℤ
numbers_of_line line = line.clause ++ pos 0 ∷ pos line.first ∷ numbers_of_steps line.steps

abbrev pub line_text : DerivationLine → List ℕ
line_text line = row_text (numbers_of_line line)

-- the title, the formula in DIMACS form, the number of lines, the lines
abbrev pub certificate_lines : Formula → Derivation → List (List ℕ)
certificate_lines formula derivation = title ∷ (dimacs_lines formula ++ derivation_head (length derivation.lines) ∷ map line_text derivation.lines)

abbrev pub certificate_text : Formula → Derivation → List ℕ
certificate_text formula derivation = text_of_lines (certificate_lines formula derivation)

-- these bytes are the certificate of this formula and derivation
abbrev pub IsCertificate : List ℕ → Formula → Derivation → Type 0
IsCertificate bytes formula derivation = IsPair formula derivation × (bytes ≡ certificate_text formula derivation)

-- ---- the first line that isn't allowed

-- these lines begin a certificate
pub record Begins (lines : List (List ℕ)) : Type 0 where
  pub formula : Formula
  pub derivation : Derivation
  pub more : List (List ℕ)
  pub pair : IsPair formula derivation
  pub whole : certificate_lines formula derivation ≡ lines ++ more

-- these lines are a certificate
pub record IsWhole (lines : List (List ℕ)) : Type 0 where
  pub formula : Formula
  pub derivation : Derivation
  pub pair : IsPair formula derivation
  pub whole : certificate_lines formula derivation ≡ lines

-- the lines before this one, from 1, begin a certificate, and with it they don't; or it isn't there, and they are no certificate
pub record IsFirstBadLine (bytes : List ℕ) (number : ℕ) : Type 0 where
  pub before : List (List ℕ)
  pub rest : List ℕ
  pub count : number ≡ length before + 1
  pub text : bytes ≡ text_of_lines before ++ rest
  pub good : Begins before
  pub bad : (next : List ℕ) (more : List ℕ) → rest ≡ next ++ 10 ∷ more → Begins (before ++ next ∷ []) → ⊥
  pub ended : rest ≡ [] → IsWhole before → ⊥
