-- How the reading of a certificate goes on from line to line.
use Rattle.std.specs.Prelude.{◌≡◌, ℕ, ◌<◌, ◌≤◌, ◌^◌, ℤ, List, ◌∷◌, ◌++◌, length, map}
use Rattle.cnf.specs.declared.derivation.DerivationLine.{DerivationLine}
use Rattle.cnf.specs.Dimacs.{clause_text, head_text, text_of_lines}
use Rattle.certificate.specs.declared.stop.Stop.{Stop}
use Rattle.certificate.specs.declared.stop.Stop.TheVariants as stop
use Rattle.certificate.specs.Certificates.{IsClauseOver, AreClausesOver, IsLineOver, AreLinesOver, line_text, title}

-- a text begins with so many clauses
pub record IsClauses (variables : ℕ) (text : List ℕ) (count : ℕ) (clauses : List (List ℤ)) (rest : List ℕ) : Type 0 where
  pub number : length clauses ≡ count
  pub over : AreClausesOver variables clauses
  pub text_is : text ≡ text_of_lines (map clause_text clauses) ++ rest

-- no clause stands first in a text
abbrev pub NoClause : ℕ → List ℕ → Type 0
NoClause variables text = (clause : List ℤ) (more : List ℕ) → IsClauseOver variables clause → text ≡ clause_text clause ++ 10 ∷ more → ⊥

-- a text begins with fewer clauses, and no further one
pub record ClausesStop (variables : ℕ) (text : List ℕ) (count at : ℕ) : Type 0 where
  pub clauses : List (List ℤ)
  pub rest : List ℕ
  pub read : IsClauses variables text at clauses rest
  pub fewer : at < count
  pub bad : NoClause variables rest

abbrev pub IsClausesStop : ℕ → List ℕ → ℕ → Stop → Type 0
IsClausesStop variables text count (stop.BadLine at) = ClausesStop variables text count at
IsClausesStop variables text count stop.Memory = Unit {0}

-- the same of lines of a derivation
pub record IsLines (variables : ℕ) (text : List ℕ) (count : ℕ) (lines : List DerivationLine) (rest : List ℕ) : Type 0 where
  pub number : length lines ≡ count
  pub over : AreLinesOver variables lines
  pub text_is : text ≡ text_of_lines (map line_text lines) ++ rest

abbrev pub NoLine : ℕ → List ℕ → Type 0
NoLine variables text = (line : DerivationLine) (more : List ℕ) → IsLineOver variables line → text ≡ line_text line ++ 10 ∷ more → ⊥

pub record LinesStop (variables : ℕ) (text : List ℕ) (count at : ℕ) : Type 0 where
  pub lines : List DerivationLine
  pub rest : List ℕ
  pub read : IsLines variables text at lines rest
  pub fewer : at < count
  pub bad : NoLine variables rest

abbrev pub IsLinesStop : ℕ → List ℕ → ℕ → Stop → Type 0
IsLinesStop variables text count (stop.BadLine at) = LinesStop variables text count at
IsLinesStop variables text count stop.Memory = Unit {0}

-- the title, the head and the clauses have been read
pub record ClausesRead (bytes : List ℕ) (variables count : ℕ) (clauses : List (List ℤ)) (rest : List ℕ) : Type 0 where
  pub small : variables ≤ 2 ^ 30
  pub fits : count < 2 ^ 32
  pub over : AreClausesOver variables clauses
  pub fewer : length clauses ≤ count
  pub text : bytes ≡ text_of_lines (title ∷ head_text variables count ∷ map clause_text clauses) ++ rest
