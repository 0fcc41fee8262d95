-- What comes next.
use Rattle.std.proofs.Common.{◌≡◌, ℕ, zero, suc, Bool, true, false, ◌||◌, List, [], ◌∷◌, ◌++◌, length, take, map, refl, sym, ◌∙◌, ap, arith, Option, None, Some}
use mathlib.Core.Logic.{inl, inr}
use Rattle.std.specs.Prelude.{ℤ, slice_get, IsSomeAnd}
use Rattle.std.specs.List.{list_all, list_any}
use Rattle.std.specs.Option.{is_some}
use Rattle.std.proofs.lemmas.List.{take_all}
use Rattle.cnf.specs.declared.derivation.Derivation.{Derivation}
use Rattle.cnf.specs.declared.derivation.DerivationLine.{DerivationLine}
use Rattle.cnf.specs.declared.formula.Formula.{Formula}
use Rattle.cnf.specs.Checks.{numbered}
use Rattle.search.specs.declared.landing.Landing.{Landing}
use Rattle.search.specs.declared.next.Next.TheVariants as next
use Rattle.search.specs.declared.scan.Scan.TheVariants as scan
use Rattle.search.specs.declared.trail.Entry.{Entry}
use Rattle.search.specs.Lessons.{IsAsserting, IsLesson}
use Rattle.search.specs.Machine.{EndsAsModel, IsFinished, IsOver, State, clauses_of, is_conflict, is_open, is_true, unit_of}
use Rattle.search.specs.Nexts.{IsNext, state_of}
use Rattle.search.specs.Sound.{IsSound, all_clauses}
use Rattle.search.specs.Statuses.{IsScan}
use Rattle.search.proofs.BackLaws.{some_entry}
use Rattle.search.proofs.KeptLaws.{and_left, and_right, has_over, is_over-tells, line_over, numbered_over, unit_is}

-- the clauses of a state are all clauses
pub same_clauses : (formula : Formula) (learned : Derivation) (trail : List Entry) → clauses_of formula (state_of trail learned) ≡ all_clauses formula learned
same_clauses formula learned trail = ap (λ (lines : List DerivationLine). formula.clauses ++ map (λ line. line.clause) lines) (sym (take_all (length learned.lines) learned.lines (omega arith)))

differ : (b : Bool) → b ≡ true → b ≡ false → ⊥
differ b e f = let no : true ≡ false = sym e ∙ f in absurd cc

-- where no clause is false and a literal is open, the search isn't finished
unfinished_open : (formula : Formula) (s : State) (x : ℤ) → list_any (is_conflict (is_true s.trail)) (clauses_of formula s) ≡ false → IsOver formula.variables x → is_open (is_true s.trail) x ≡ true
    → IsFinished formula s → ⊥
unfinished_open formula s x none over free (inl model) = differ _ free (model.all x over)
unfinished_open formula s x none over free (inr refuted) = differ _ refuted.conflict none

-- where a clause is false and a literal was decided, it isn't either
unfinished_decided : (formula : Formula) (s : State) (cut : ℕ) (e : Entry) → list_any (is_conflict (is_true s.trail)) (clauses_of formula s) ≡ true → slice_get s.trail cut ≡ Some e → e.reason ≡ None
    → IsFinished formula s → ⊥
unfinished_decided formula s cut e some at d (inl model) = differ _ some model.no_conflict
unfinished_decided formula s cut e some at d (inr refuted) = no_reason s.trail cut refuted.none_decided at
  where
    no_reason : (trail : List Entry) (i : ℕ) → list_all (λ f. is_some f.reason) trail ≡ true → slice_get trail i ≡ Some e → ⊥
    no_reason [] i a h = absurd cc
    no_reason (f ∷ trail) zero a h =
        let same : f ≡ e = cc in
        let has : is_some f.reason ≡ true = and_left _ _ a in
        let lacks : is_some f.reason ≡ false = ap (λ g. is_some g.reason) same ∙ rw d refl in
        differ _ has lacks
    no_reason (f ∷ trail) (suc i) a h = no_reason trail i (and_right _ _ a) h

pub any_at : (clauses : List (List ℤ)) (i : ℕ) (clause : List ℤ) (test : List ℤ → Bool) → slice_get clauses i ≡ Some clause → test clause ≡ true → list_any test clauses ≡ true
any_at [] i clause test at h = absurd cc
any_at (c ∷ cs) zero clause test at h = let same : c ≡ clause = cc in rw (ap test same ∙ h) refl
any_at (c ∷ cs) (suc i) clause test at h = later (test c) _ (any_at cs i clause test at h)
  where
    later : (a b : Bool) → b ≡ true → (a || b) ≡ true
    later true b g = refl
    later false b g = g

any_numbered : (clauses : List (List ℤ)) (number : ℕ) (clause : List ℤ) (test : List ℤ → Bool) → numbered clauses number ≡ Some clause → test clause ≡ true → list_any test clauses ≡ true
any_numbered clauses zero clause test at h = absurd cc
any_numbered clauses (suc i) clause test at h = any_at clauses i clause test at h

module _ (formula : Formula) (learned : Derivation) (trail : List Entry) where
  whole : clauses_of formula (state_of trail learned) ≡ all_clauses formula learned
  whole = same_clauses formula learned trail

  pub next_unit : (number : ℕ) (x : ℤ) → IsSound formula learned trail → IsScan (is_true trail) (all_clauses formula learned) (scan.Unit number x)
      → IsNext formula (state_of trail learned) (next.Propagate number x)
  next_unit number x sound is = by_clause (numbered (all_clauses formula learned) number) refl is.0
    where
      by_clause : (found : Option (List ℤ)) → numbered (all_clauses formula learned) number ≡ found → IsSomeAnd found (λ clause. unit_of (is_true trail) clause ≡ Some x)
          → IsNext formula (state_of trail learned) (next.Propagate number x)
      by_clause None f g = absurd g
      by_clause (Some clause) f g =
          let unit = unit_is trail clause x g in
          let over = is_over-tells formula.variables x (has_over formula.variables clause x (numbered_over formula.variables (all_clauses formula learned) number clause sound.clauses f) unit.0) in (
            record { clause = clause; literal = x; named = ap (λ clauses. numbered clauses number) whole ∙ f; unit = g; gives = refl },
            unfinished_open formula (state_of trail learned) x (ap (list_any (is_conflict (is_true trail))) whole ∙ is.1) over unit.1,
          )

  pub next_decide : (x : ℤ) → IsScan (is_true trail) (all_clauses formula learned) scan.Neither → IsOver formula.variables x → is_open (is_true trail) x ≡ true
      → IsNext formula (state_of trail learned) (next.Decide x)
  next_decide x is over free = (
    record {
      no_conflict = ap (list_any (is_conflict (is_true trail))) whole ∙ is.0;
      no_unit = ap (list_any (λ clause. is_some (unit_of (is_true trail) clause))) whole ∙ is.1;
      over = over;
      still_open = free;
      gives = refl;
    },
    unfinished_open formula (state_of trail learned) x (ap (list_any (is_conflict (is_true trail))) whole ∙ is.0) over free,
  )

  pub next_model : IsScan (is_true trail) (all_clauses formula learned) scan.Neither → ((x : ℤ) → IsOver formula.variables x → is_open (is_true trail) x ≡ false)
      → EndsAsModel formula (state_of trail learned)
  next_model is all = record { no_conflict = ap (list_any (is_conflict (is_true trail))) whole ∙ is.0; all = all }

  -- the literal that a jump puts on the trail
  pub landing_over : (number : ℕ) (line : DerivationLine) (lands : Option Landing) (landing : Landing) → IsSound formula learned trail → IsLesson (all_clauses formula learned) trail number line lands → lands ≡ Some landing
      → IsOver formula.variables landing.literal
  landing_over number line lands landing sound is at =
      is_over-tells formula.variables landing.literal
      (has_over formula.variables line.clause landing.literal (line_over formula.variables (all_clauses formula learned) line sound.clauses is.right)
      (unit_is (take landing.cut trail) line.clause landing.literal asserts.unit).0)
    where
      asserts : IsAsserting trail line.clause landing
      asserts = rw at at is.landing

  pub next_jump : (number : ℕ) (line : DerivationLine) (lands : Option Landing) (landing : Landing) → IsSomeAnd (numbered (all_clauses formula learned) number) (λ clause. is_conflict (is_true trail) clause ≡ true)
      → IsLesson (all_clauses formula learned) trail number line lands → lands ≡ Some landing → IsNext formula (state_of trail learned) (next.Jump line landing.cut landing.literal)
  next_jump number line lands landing conflict is at = (
    record {
      literal = landing.literal;
      conflict = rw (whole, is.first) conflict;
      right = rw whole is.right;
      reasons = is.reasons;
      decided = asserts.decided;
      unit = asserts.unit;
      gives = refl;
    },
    unfinished_decided formula (state_of trail learned) landing.cut decided.0 some decided.1 decided.2,
  )
    where
      asserts : IsAsserting trail line.clause landing
      asserts = rw at at is.landing

      decided : (e : Entry) × (slice_get trail landing.cut ≡ Some e) × (e.reason ≡ None)
      decided = some_entry trail landing.cut (λ e. e.reason ≡ None) asserts.decided

      some : list_any (is_conflict (is_true trail)) (clauses_of formula (state_of trail learned)) ≡ true
      some = by_clause (numbered (all_clauses formula learned) number) refl conflict
        where
          by_clause : (found : Option (List ℤ)) → numbered (all_clauses formula learned) number ≡ found → IsSomeAnd found (λ clause. is_conflict (is_true trail) clause ≡ true)
              → list_any (is_conflict (is_true trail)) (clauses_of formula (state_of trail learned)) ≡ true
          by_clause None f g = absurd g
          by_clause (Some clause) f g = any_numbered (clauses_of formula (state_of trail learned)) number clause (is_conflict (is_true trail)) (ap (λ clauses. numbered clauses number) whole ∙ f) g
