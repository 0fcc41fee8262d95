-- What each turn of the search keeps.
use Rattle.std.proofs.Common.{◌≡◌, ◌⊎◌, ℕ, zero, suc, ◌+◌, ◌-◌, ◌*◌, ◌<◌, ◌≤◌, Bool, true, false, ◌||◌, List, [], ◌∷◌, ◌++◌, length, take, map, refl, sym, ◌∙◌, ap, add-one, arith, Option, None, Some}
use mathlib.Core.Logic.{inl, inr}
use Rattle.std.specs.Prelude.{ℤ, pos, negsuc, neg_ℤ, not, ◌&&◌, nat_lt, slice_get, IfSome, IsSomeAnd, IsTrue, if◌then◌else◌}
use Rattle.std.specs.List.{list_all, list_any}
use Rattle.std.specs.Ordering.{int_eq}
use Rattle.std.proofs.lemmas.Bool.Decides.{Decides-ltb}
use Rattle.std.proofs.lemmas.List.{append_assoc, length-append, map-append}
use Rattle.std.proofs.lemmas.List.Folds.{list_all-append}
use Rattle.cnf.specs.declared.derivation.Derivation.{Derivation}
use Rattle.cnf.specs.declared.derivation.DerivationLine.{DerivationLine}
use Rattle.cnf.specs.declared.formula.Formula.{Formula}
use Rattle.cnf.specs.Checks.{Checks, IsRight, IsRightAt, numbered}
use Rattle.cnf.specs.Clauses.{has_literal, literal_key}
use Rattle.cnf.specs.Formulas.{is_true_clause, is_true_literal}
use Rattle.cnf.proofs.ClauseLaws.{equal_literal, same_literal}
use Rattle.cnf.specs.literal_marks.Marks.{has_place}
use Rattle.cnf.specs.declared.literal_marks.places.Places.TheVariants.{ByKey}
use Rattle.search.specs.declared.moves.Move.{Move}
use Rattle.search.specs.declared.trail.Entry.{Entry}
use Rattle.search.specs.Laws.{is_over}
use Rattle.search.specs.Machine.{IsOver, Moves, Runs, State, is_conflict, is_open, is_true, remaining, unit_of, with_entry}
use Rattle.search.specs.Sound.{Implies, IsSound, all_clauses}
use Rattle.search.specs.Trails.{IsTrail}
use Rattle.search.proofs.HistoryLaws.{no_places}
use Rattle.search.proofs.KeptLaws.{and_left, and_right, has_filtered, is_over-tells, line_over, lone, trail_more, trail_taken}
use Rattle.search.proofs.NextLaws.{same_clauses}

-- ---- runs

pub run_more : (formula : Formula) (s : State) (moves : List Move) (t : State) (move : Move) (u : State) → Runs formula s moves t → Moves formula t move u → Runs formula s (moves ++ move ∷ []) u
run_more formula s [] t move u run m = (u, rw run m, refl)
run_more formula s (first ∷ moves) t move u run m = (run.0, run.1, run_more formula run.0 moves t move u run.2 m)

-- ---- places

pub has_place-over : (n size : ℕ) (x : ℤ) → size ≡ 2 * n + 2 → IsOver n x → IsTrue (has_place ByKey size x)
has_place-over n size x e over = (Decides-ltb (literal_key x) size).1 (omega (arith, over.1))

-- ---- a unit implies

in_remaining : (set : ℤ → Bool) (xs : List ℤ) (y : ℤ) → has_literal xs y ≡ true → set (neg_ℤ y) ≡ false → has_literal (remaining set xs) y ≡ true
in_remaining set [] y h f = absurd cc
in_remaining set (x ∷ xs) y h f = by_test (int_eq x y) refl h (in_remaining set xs y)
  where
    later : (a b : Bool) → b ≡ true → (a || b) ≡ true
    later true b g = refl
    later false b g = g

    over : (b : Bool) → has_literal (remaining set xs) y ≡ true → has_literal (if not b then x ∷ remaining set xs else remaining set xs) y ≡ true
    over true g = g
    over false g = later (int_eq x y) _ g

    by_test : (t : Bool) → int_eq x y ≡ t → (t || has_literal xs y) ≡ true → (has_literal xs y ≡ true → set (neg_ℤ y) ≡ false → has_literal (remaining set xs) y ≡ true)
        → has_literal (if not (set (neg_ℤ x)) then x ∷ remaining set xs else remaining set xs) y ≡ true
    by_test true e g rest =
        let same : x ≡ y = same_literal x y e in
        let free : set (neg_ℤ x) ≡ false = ap (λ z. set (neg_ℤ z)) same ∙ f in
        rw (free, e) refl
    by_test false e g rest = over (set (neg_ℤ x)) (rest g f)

pub unit_implies : (trail : List Entry) (clause : List ℤ) (x : ℤ) → unit_of (is_true trail) clause ≡ Some x → Implies trail x clause
unit_implies trail clause x e = record {
  here = has_filtered (λ y. not (is_true trail (neg_ℤ y))) clause x (rw (one.0, equal_literal x x refl) refl);
  others = λ y h other. by_test y h other (is_true trail (neg_ℤ y)) refl;
}
  where
    one : (remaining (is_true trail) clause ≡ x ∷ []) × (is_open (is_true trail) x ≡ true)
    one = lone trail (remaining (is_true trail) clause) x e

    by_test : (y : ℤ) → has_literal clause y ≡ true → (y ≡ x → ⊥) → (b : Bool) → is_true trail (neg_ℤ y) ≡ b → is_true trail (neg_ℤ y) ≡ true
    by_test y h other true f = f
    by_test y h other false f = absurd (other (sym (same_literal x y (single (int_eq x y) (rw one.0 at (in_remaining (is_true trail) clause y h f))))))
      where
        single : (b : Bool) → (b || false) ≡ true → b ≡ true
        single true g = refl
        single false g = g

-- ---- what a state keeps

pub get_before : (trail : List Entry) (e : Entry) (j : ℕ) (f : Entry) → slice_get (trail ++ e ∷ []) j ≡ Some f → ((slice_get trail j ≡ Some f) × (take j (trail ++ e ∷ []) ≡ take j trail)) ⊎ ((f ≡ e) × (take j (trail ++ e ∷ []) ≡ trail))
get_before [] e zero f at = inr (cc, refl)
get_before [] e (suc j) f at = absurd cc
get_before (g ∷ trail) e zero f at = inl (at, refl)
get_before (g ∷ trail) e (suc j) f at = by_side (get_before trail e j f at)
  where
    by_side : ((slice_get trail j ≡ Some f) × (take j (trail ++ e ∷ []) ≡ take j trail)) ⊎ ((f ≡ e) × (take j (trail ++ e ∷ []) ≡ trail))
        → ((slice_get trail j ≡ Some f) × (g ∷ take j (trail ++ e ∷ []) ≡ g ∷ take j trail)) ⊎ ((f ≡ e) × (g ∷ take j (trail ++ e ∷ []) ≡ g ∷ trail))
    by_side (inl h) = inl (h.0, ap (λ t. g ∷ t) h.1)
    by_side (inr h) = inr (h.0, ap (λ t. g ∷ t) h.1)

pub get_taken : (trail : List Entry) (cut j : ℕ) (f : Entry) → slice_get (take cut trail) j ≡ Some f → (slice_get trail j ≡ Some f) × (take j (take cut trail) ≡ take j trail)
get_taken trail zero j f at = absurd cc
get_taken [] (suc cut) j f at = absurd cc
get_taken (g ∷ trail) (suc cut) zero f at = (at, refl)
get_taken (g ∷ trail) (suc cut) (suc j) f at = let rest = get_taken trail cut j f at in (rest.0, ap (λ t. g ∷ t) rest.1)

-- one more literal, with the clause that implies it
pub sound_more : (formula : Formula) (learned : Derivation) (trail : List Entry) (x : ℤ) (reason : Option ℕ) → IsSound formula learned trail → IsOver formula.variables x
    → is_open (is_true trail) x ≡ true → IfSome reason (λ number. IsSomeAnd (numbered (all_clauses formula learned) number) (Implies trail x)) → IsSound formula learned (with_entry trail x reason)
sound_more formula learned trail x reason sound over free implied = record {
  kept = trail_more formula.variables trail x reason over free sound.kept;
  clauses = sound.clauses;
  reasons = λ j f number at r. by_side j f number r (get_before trail record { literal = x; reason = reason } j f at);
}
  where
    e : Entry
    e = record { literal = x; reason = reason }

    at_end : (own : Option ℕ) (number : ℕ) → IfSome own (λ k. IsSomeAnd (numbered (all_clauses formula learned) k) (Implies trail x)) → own ≡ Some number
        → IsSomeAnd (numbered (all_clauses formula learned) number) (Implies trail x)
    at_end None number h r = absurd cc
    at_end (Some k) number h r = let same : k ≡ number = cc in rw same at h

    by_side : (j : ℕ) (f : Entry) (number : ℕ) → f.reason ≡ Some number
        → ((slice_get trail j ≡ Some f) × (take j (trail ++ e ∷ []) ≡ take j trail)) ⊎ ((f ≡ e) × (take j (trail ++ e ∷ []) ≡ trail))
        → IsSomeAnd (numbered (all_clauses formula learned) number) (Implies (take j (trail ++ e ∷ [])) f.literal)
    by_side j f number r (inl h) = rw h.1 (sound.reasons j f number h.0 r)
    by_side j f number r (inr h) =
        let is : f.literal ≡ x = ap (λ g. g.literal) h.0 in
        let own : reason ≡ Some number = sym (ap (λ g. g.reason) h.0) ∙ r in
        rw (h.1, is) (at_end reason number implied own)

pub sound_cut : (formula : Formula) (learned : Derivation) (trail : List Entry) (cut : ℕ) → IsSound formula learned trail → IsSound formula learned (take cut trail)
sound_cut formula learned trail cut sound = record {
  kept = trail_taken formula.variables trail cut no_places sound.kept;
  clauses = sound.clauses;
  reasons = λ j f number at r. let taken = get_taken trail cut j f at in rw taken.1 (sound.reasons j f number taken.0 r);
}

-- ---- one more line

pub with_line : (formula : Formula) (learned : Derivation) (line : DerivationLine) → all_clauses formula record { lines = learned.lines ++ line ∷ [] } ≡ all_clauses formula learned ++ line.clause ∷ []
with_line formula learned line =
    sym (same_clauses formula record { lines = learned.lines ++ line ∷ [] } [])
    ∙ ap (λ zs. formula.clauses ++ zs) (map-append (λ (l : DerivationLine). l.clause) learned.lines (line ∷ []))
    ∙ sym (append_assoc formula.clauses (map (λ (l : DerivationLine). l.clause) learned.lines) (line.clause ∷ []))
    ∙ ap (λ zs. zs ++ line.clause ∷ []) (same_clauses formula learned [])

get_front : (xs : List (List ℤ)) (y c : List ℤ) (i : ℕ) → slice_get xs i ≡ Some c → slice_get (xs ++ y ∷ []) i ≡ Some c
get_front [] y c i e = absurd cc
get_front (x ∷ xs) y c zero e = e
get_front (x ∷ xs) y c (suc i) e = get_front xs y c i e

numbered_front : (xs : List (List ℤ)) (y c : List ℤ) (number : ℕ) → numbered xs number ≡ Some c → numbered (xs ++ y ∷ []) number ≡ Some c
numbered_front xs y c zero e = absurd cc
numbered_front xs y c (suc i) e = get_front xs y c i e

get_last : (xs : List (List ℤ)) (y : List ℤ) → slice_get (xs ++ y ∷ []) (length xs) ≡ Some y
get_last [] y = refl
get_last (x ∷ xs) y = get_last xs y

pub numbered_last : (xs : List (List ℤ)) (y : List ℤ) → numbered (xs ++ y ∷ []) (length xs + 1) ≡ Some y
numbered_last xs y = ap (numbered (xs ++ y ∷ [])) (add-one (length xs)) ∙ get_last xs y

pub sound_learn : (formula : Formula) (learned : Derivation) (trail : List Entry) (line : DerivationLine) → IsSound formula learned trail → IsRight (all_clauses formula learned) line
    → IsSound formula record { lines = learned.lines ++ line ∷ [] } trail
sound_learn formula learned trail line sound right = record {
  kept = sound.kept;
  clauses = rw (with_line formula learned line) (list_all-append (list_all (is_over formula.variables)) (all_clauses formula learned) (line.clause ∷ []) ∙ rw (sound.clauses, over) refl);
  reasons = λ j f number at r. rw (with_line formula learned line) (by_clause j f number (numbered (all_clauses formula learned) number) refl (sound.reasons j f number at r));
}
  where
    over : list_all (is_over formula.variables) line.clause ≡ true
    over = line_over formula.variables (all_clauses formula learned) line sound.clauses right

    by_clause : (j : ℕ) (f : Entry) (number : ℕ) (found : Option (List ℤ)) → numbered (all_clauses formula learned) number ≡ found → IsSomeAnd found (Implies (take j trail) f.literal)
        → IsSomeAnd (numbered (all_clauses formula learned ++ line.clause ∷ []) number) (Implies (take j trail) f.literal)
    by_clause j f number None g h = absurd h
    by_clause j f number (Some clause) g h = rw (numbered_front (all_clauses formula learned) line.clause clause number g) h

take_front : (xs : List DerivationLine) (y : DerivationLine) (k : ℕ) → k ≤ length xs → take k (xs ++ y ∷ []) ≡ take k xs
take_front xs y zero h = refl
take_front [] y (suc k) h = absurd (omega arith)
take_front (x ∷ xs) y (suc k) h = ap (λ zs. x ∷ zs) (take_front xs y k (omega arith))

line_at : (xs : List DerivationLine) (y : DerivationLine) (k : ℕ) → k < length xs → slice_get (xs ++ y ∷ []) k ≡ slice_get xs k
line_at [] y k h = absurd (omega arith)
line_at (x ∷ xs) y zero h = refl
line_at (x ∷ xs) y (suc k) h = line_at xs y k (omega arith)

last_line : (xs : List DerivationLine) (y : DerivationLine) → slice_get (xs ++ y ∷ []) (length xs) ≡ Some y
last_line [] y = refl
last_line (x ∷ xs) y = last_line xs y

pub rights_more : (formula : Formula) (learned : Derivation) (line : DerivationLine) → ((k : ℕ) → k < length learned.lines → IsRightAt formula learned k) → IsRight (all_clauses formula learned) line
    → (k : ℕ) → k < length (learned.lines ++ line ∷ []) → IsRightAt formula record { lines = learned.lines ++ line ∷ [] } k
rights_more formula learned line rights right k h = by_place (nat_lt k (length learned.lines)) refl
  where
    count : length (learned.lines ++ line ∷ []) ≡ length learned.lines + 1
    count = length-append learned.lines (line ∷ [])

    by_place : (b : Bool) → nat_lt k (length learned.lines) ≡ b → IsRightAt formula record { lines = learned.lines ++ line ∷ [] } k
    by_place true e =
        let below : k < length learned.lines = (Decides-ltb k (length learned.lines)).0 e in
        rw (line_at learned.lines line k below, take_front learned.lines line k (omega arith)) (rights k below)
    by_place false e =
        let past : k < length learned.lines → ⊥ = λ l. let yes = (Decides-ltb k (length learned.lines)).1 l in let no : true ≡ false = sym yes ∙ e in absurd cc in
        let at : k ≡ length learned.lines = omega (arith, h, count) in
        rw (at, last_line learned.lines line, take_front learned.lines line (length learned.lines) (omega arith)) right

-- lines that end in the empty clause
pub checks_by : (formula : Formula) (learned : Derivation) (line : DerivationLine) → ((k : ℕ) → k < length learned.lines → IsRightAt formula learned k) → IsRight (all_clauses formula learned) line
    → line.clause ≡ [] → Checks formula record { lines = learned.lines ++ line ∷ [] }
checks_by formula learned line rights right empty =
    let count : length (learned.lines ++ line ∷ []) ≡ length learned.lines + 1 = length-append learned.lines (line ∷ []) in
    let last : length (learned.lines ++ line ∷ []) - 1 ≡ length learned.lines = omega (arith, count) in
    (rights_more formula learned line rights right, rw (last, last_line learned.lines line) empty)

-- ---- models

module _ (formula : Formula) (trail : List Entry) (value : ℕ → Bool) (is : IsTrail formula.variables trail)
    (values : (v : ℕ) → 0 < v → v ≤ formula.variables → value v ≡ is_true trail (pos v)) (all : (x : ℤ) → IsOver formula.variables x → is_open (is_true trail) x ≡ false) where
  either : (a b : Bool) → not (a || b) ≡ false → b ≡ false → a ≡ true
  either true b e f = refl
  either false true e f = absurd cc
  either false false e f = absurd cc

  -- a literal that isn't false is true
  made_true : (x : ℤ) → IsOver formula.variables x → is_true trail (neg_ℤ x) ≡ false → is_true_literal value x ≡ true
  made_true (pos zero) over none = absurd (omega (arith, over.0))
  made_true (pos (suc k)) over none = values (suc k) (omega arith) (omega (arith, over.1)) ∙ either _ _ (all (pos (suc k)) over) none
  made_true (negsuc k) over none =
      let own : value (suc k) ≡ false = values (suc k) (omega arith) (omega (arith, over.1)) ∙ none in
      rw own refl

  clause_true : (clause : List ℤ) → list_all (is_over formula.variables) clause ≡ true → is_conflict (is_true trail) clause ≡ false → is_true_clause value clause ≡ true
  clause_true [] over free = absurd cc
  clause_true (x ∷ xs) over free = by_test (is_true trail (neg_ℤ x)) refl free (clause_true xs (and_right _ _ over))
    where
      later : (a b : Bool) → b ≡ true → (a || b) ≡ true
      later true b h = refl
      later false b h = h

      front : (a b : Bool) → a ≡ true → (a || b) ≡ true
      front true b h = refl
      front false b h = absurd cc

      by_test : (b : Bool) → is_true trail (neg_ℤ x) ≡ b → (b && is_conflict (is_true trail) xs) ≡ false → (is_conflict (is_true trail) xs ≡ false → is_true_clause value xs ≡ true)
          → (is_true_literal value x || is_true_clause value xs) ≡ true
      by_test true f g rest = later (is_true_literal value x) _ (rest g)
      by_test false f g rest = front _ _ (made_true x (is_over-tells formula.variables x (and_left _ _ over)) f)

  pub all_true : (clauses : List (List ℤ)) → list_all (list_all (is_over formula.variables)) clauses ≡ true → list_any (is_conflict (is_true trail)) clauses ≡ false
      → list_all (is_true_clause value) clauses ≡ true
  all_true [] over free = refl
  all_true (c ∷ cs) over free =
      let own : is_true_clause value c ≡ true = clause_true c (and_left _ _ over) (none_left _ _ free) in
      rw own (all_true cs (and_right _ _ over) (none_right _ _ free))
    where
      none_left : (a b : Bool) → (a || b) ≡ false → a ≡ false
      none_left true b h = h
      none_left false b h = refl

      none_right : (a b : Bool) → (a || b) ≡ false → b ≡ false
      none_right true b h = absurd cc
      none_right false b h = h
