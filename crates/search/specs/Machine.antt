-- The search machine: moves over a trail of literals and learned clauses (clause learning: Marques-Silva and Sakallah
-- 1999; the words are those of MiniSat, Eén and Sörensson 2003).
use Rattle.std.specs.Prelude.{◌≡◌, ◌⊎◌, ℕ, ◌+◌, ◌*◌, ◌≤◌, ℤ, neg_ℤ, Bool, true, false, not, ◌&&◌, ◌||◌, ◌==◌, List, [], ◌∷◌, ◌++◌, length, take, map, filter, slice_get, Option, None, Some, if◌then◌else◌, IsSomeAnd}
use Rattle.std.specs.List.{list_all, list_any}
use Rattle.std.specs.Option.{is_some}
use Rattle.std.specs.Ordering.{int_eq}
use Rattle.cnf.specs.declared.derivation.DerivationLine.{DerivationLine}
use Rattle.cnf.specs.declared.formula.Formula.{Formula}
use Rattle.cnf.specs.Clauses.{literal_key}
use Rattle.cnf.specs.Checks.{IsRight, numbered}
use Rattle.search.specs.declared.trail.Entry.{Entry}
use Rattle.search.specs.declared.moves.Move.{Move}
use Rattle.search.specs.declared.moves.Move.TheVariants.{Propagate, Decide, Jump}

-- ---- states

-- the trail, the oldest entry first, and the learned lines
pub record State : Type 0 where
  pub trail : List Entry
  pub learned : List DerivationLine

abbrev pub first_state : State
first_state = record { trail = []; learned = [] }

-- the clauses by number, from 1: the formula's, then the learned ones
abbrev pub clauses_of : Formula → State → List (List ℤ)
clauses_of formula s = formula.clauses ++ map (λ line. line.clause) s.learned

-- ---- literals and clauses, by the set of the literals that are true

-- the literals that stand on a trail
abbrev pub is_true : List Entry → ℤ → Bool
is_true trail x = list_any (λ e. int_eq e.literal x) trail

-- neither a literal nor its negation is true
abbrev pub is_open : (ℤ → Bool) → ℤ → Bool
is_open true_literals x = not (true_literals x || true_literals (neg_ℤ x))

-- all literals of a clause are false
abbrev pub is_conflict : (ℤ → Bool) → List ℤ → Bool
is_conflict true_literals clause = list_all (λ x. true_literals (neg_ℤ x)) clause

-- its literals that aren't false
abbrev pub remaining : (ℤ → Bool) → List ℤ → List ℤ
remaining true_literals clause = filter (λ x. not (true_literals (neg_ℤ x))) clause

abbrev pub lone_open : (ℤ → Bool) → List ℤ → Option ℤ
lone_open true_literals [] = None
lone_open true_literals (x ∷ []) = if is_open true_literals x then Some x else None
lone_open true_literals (x ∷ y ∷ more) = None

-- its one open literal, where all its others are false
abbrev pub unit_of : (ℤ → Bool) → List ℤ → Option ℤ
unit_of true_literals clause = lone_open true_literals (remaining true_literals clause)

-- ---- moves

-- the trail with a literal that a clause implied, or that was decided
abbrev pub with_entry : List Entry → ℤ → Option ℕ → List Entry
with_entry trail x reason = trail ++ record { literal = x; reason = reason } ∷ []

-- a literal of one of the variables 1 to this number
abbrev pub IsOver : ℕ → ℤ → Type 0
IsOver variables x = (2 ≤ literal_key x) × (literal_key x ≤ 2 * variables + 1)

-- the one open literal of a clause, all others of which are false, is put on the trail
pub record Propagates (formula : Formula) (s : State) (number : ℕ) (t : State) : Type 0 where
  pub clause : List ℤ
  pub literal : ℤ
  pub named : numbered (clauses_of formula s) number ≡ Some clause
  pub unit : unit_of (is_true s.trail) clause ≡ Some literal
  pub gives : t ≡ record { trail = with_entry s.trail literal (Some number); learned = s.learned }

-- where no clause is false, and none would propagate, an open literal is put on the trail
pub record Decides (formula : Formula) (s : State) (literal : ℤ) (t : State) : Type 0 where
  pub no_conflict : list_any (is_conflict (is_true s.trail)) (clauses_of formula s) ≡ false
  pub no_unit : list_any (λ clause. is_some (unit_of (is_true s.trail) clause)) (clauses_of formula s) ≡ false
  pub over : IsOver formula.variables literal
  pub still_open : is_open (is_true s.trail) literal ≡ true
  pub gives : t ≡ record { trail = with_entry s.trail literal None; learned = s.learned }

abbrev pub is_reason : Option ℕ → ℕ → Bool
is_reason None number = false
is_reason (Some own) number = own == number

-- the clause with this number implied the literal of this one's variable
abbrev pub is_implied_by : List Entry → ℕ → ℤ → Bool
is_implied_by trail number x = list_any (λ e. (int_eq e.literal x || int_eq e.literal (neg_ℤ x)) && is_reason e.reason number) trail

-- A clause is false, and a line that begins with it is right, each antecedent of which implied the literal of its pivot's
-- variable. The trail is cut before a decided literal, where the line's clause has one open literal and its others are
-- false. The line is learned, and that literal is put on the trail.
pub record Jumps (formula : Formula) (s : State) (line : DerivationLine) (cut : ℕ) (t : State) : Type 0 where
  pub literal : ℤ
  pub conflict : IsSomeAnd (numbered (clauses_of formula s) line.first) (λ clause. is_conflict (is_true s.trail) clause ≡ true)
  pub right : IsRight (clauses_of formula s) line
  pub reasons : list_all (λ step. is_implied_by s.trail step.0 step.1) line.steps ≡ true
  pub decided : IsSomeAnd (slice_get s.trail cut) (λ e. e.reason ≡ None)
  pub unit : unit_of (is_true (take cut s.trail)) line.clause ≡ Some literal
  pub gives : t ≡ record {
    trail = with_entry (take cut s.trail) literal (Some (length (clauses_of formula s) + 1));
    learned = s.learned ++ line ∷ [];
  }

-- a move leads from one state to another
abbrev pub Moves : Formula → State → Move → State → Type 0
Moves formula s (Propagate clause) t = Propagates formula s clause t
Moves formula s (Decide literal) t = Decides formula s literal t
Moves formula s (Jump line cut) t = Jumps formula s line cut t

-- moves in turn lead from one state to another
abbrev pub Runs : Formula → State → List Move → State → Type 0
Runs formula s [] t = s ≡ t
Runs formula s (move ∷ moves) t = (next : State) × Moves formula s move next × Runs formula next moves t

-- ---- ends

-- no clause is false, and all variables stand on the trail
pub record EndsAsModel (formula : Formula) (s : State) : Type 0 where
  pub no_conflict : list_any (is_conflict (is_true s.trail)) (clauses_of formula s) ≡ false
  pub all : (x : ℤ) → IsOver formula.variables x → is_open (is_true s.trail) x ≡ false

-- a clause is false, and nothing on the trail was decided
pub record EndsRefuted (formula : Formula) (s : State) : Type 0 where
  pub conflict : list_any (is_conflict (is_true s.trail)) (clauses_of formula s) ≡ true
  pub none_decided : list_all (λ e. is_some e.reason) s.trail ≡ true

abbrev pub IsFinished : Formula → State → Type 0
IsFinished formula s = EndsAsModel formula s ⊎ EndsRefuted formula s
