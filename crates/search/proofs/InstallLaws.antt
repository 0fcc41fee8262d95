-- How the formula's clauses get their watched literals.
use Rattle.std.proofs.Common.{◌≡◌, ◌⊎◌, ℕ, zero, suc, ◌+◌, ◌*◌, ◌<◌, ◌≤◌, true, false, List, [], ◌∷◌, ◌++◌, length, take, map, get_or, pos, refl, sym, ◌∙◌, ap, arith, None, Some, length-append}
use mathlib.Core.Logic.{inl, inr}
use Rattle.std.specs.Prelude.{ℤ, slice_get, IfOk, Result, Ok, Err}
use Rattle.std.specs.List.{list_all}
use Rattle.std.specs.Ordering.{int_eq}
use Rattle.std.proofs.lemmas.Option.{slice_get_read, slice_get_within}
use Rattle.cnf.specs.declared.derivation.Derivation.{Derivation}
use Rattle.cnf.specs.declared.derivation.DerivationLine.{DerivationLine}
use Rattle.cnf.specs.declared.formula.Formula.{Formula}
use Rattle.cnf.specs.Clauses.{IsClause, has_literal, literal_key}
use Rattle.cnf.proofs.ClauseLaws.{equal_literal}
use Rattle.fq_core.specs.declared.memory.Memory.{Memory}
use Rattle.search.specs.declared.machine.Machine.{Machine}
use Rattle.search.specs.declared.reading.Visit.{Visit}
use Rattle.search.specs.declared.reading.Visit.TheVariants as visit
use Rattle.search.specs.declared.trail.Entry.{Entry}
use Rattle.search.specs.declared.watching.Pair.{Pair}
use Rattle.search.specs.declared.watching.Watching.{Watching}
use Rattle.search.specs.At.{IsAt}
use Rattle.search.specs.Installs.{IsInstalling, IsMade, IsRefuted}
use Rattle.search.specs.Machine.{is_true, with_entry}
use Rattle.search.specs.Readings.{IsImplied, IsSearching}
use Rattle.search.specs.Sound.{all_clauses}
use Rattle.search.specs.Watching.{IsDecidedAt, IsPaired, is_among, is_blocked, list_of, watchers_of}
use Rattle.search.proofs.BackLaws.{or_behind, some_entry}
use Rattle.search.proofs.ListsLaws.{clause_place}
use Rattle.search.proofs.LookLaws.{other_test, satisfied_by}
use Rattle.search.proofs.MachineLaws.{get_before}
use Rattle.search.proofs.ScanLaws.{clauses_count}
use Rattle.search.proofs.VisitLaws.{visiting_conflict}
use Rattle.search.proofs.WatchLaws.{watching_on, watching_paired}

get_front : (xs ys : List (List ℤ)) (k : ℕ) (c : List ℤ) → slice_get xs k ≡ Some c → slice_get (xs ++ ys) k ≡ Some c
get_front [] ys k c h = absurd cc
get_front (x ∷ xs) ys zero c h = h
get_front (x ∷ xs) ys (suc k) c h = get_front xs ys k c h

pub front_clause : (formula : Formula) (learned : Derivation) (place : ℕ) (clause : List ℤ) → slice_get formula.clauses place ≡ Some clause → slice_get (all_clauses formula learned) place ≡ Some clause
front_clause formula learned place clause h = get_front formula.clauses (map (λ (line : DerivationLine). line.clause) (take (length learned.lines) learned.lines)) place clause h

pub own_literal : (x : ℤ) → has_literal (x ∷ []) x ≡ true
own_literal x = rw (equal_literal x x refl) refl

-- the first state
pub installing_begins : (formula : Formula) (budget : ℕ) (m : Machine) (w : Watching) → IsAt formula m → m.trail.items ≡ [] → length m.learned.lines ≡ 0 → length m.moves.items ≡ 0
    → length w.watchers.items ≡ 2 * formula.variables + 2 → ((x : ℤ) → watchers_of w.watchers.items x ≡ []) → w.pairs.items ≡ [] → w.head ≡ 0 → IsInstalling formula budget m w 0
installing_begins formula budget m w at trail lines moves lists none pairs head = record {
  at = at;
  watching = record {
    lists = lists;
    head = omega (arith, head);
    decided = λ d h. absurd (undecided d h);
    pairs = rw pairs (omega arith);
    tracked = λ k clause pair named has. absurd (no_pair k pair has);
    own = λ k clause pair named has. absurd (no_pair k pair has);
    within = λ x k h. let no : false ≡ true = sym (ap (λ ws. is_among k (map clause_place ws)) (none x)) ∙ h in absurd cc;
    blocked = λ x. ap (list_all (is_blocked (all_clauses formula m.learned))) (none x);
  };
  pairs = rw pairs refl;
  head = head;
  undecided = undecided;
  lines = lines;
  paid = omega (arith, moves);
}
  where
    no_pair : (k : ℕ) (pair : Pair) → slice_get w.pairs.items k ≡ Some pair → ⊥
    no_pair k pair has = let one = rw pairs at has in let within = slice_get_within [] k pair one in omega (arith, within)

    undecided : (d : ℕ) → IsDecidedAt m.trail.items d → ⊥
    undecided d h = rw trail at h

-- a clause's one literal put on the trail
pub installing_implied : (formula : Formula) (budget : ℕ) (m n : Machine) (w : Watching) (x : ℤ) (place : ℕ) → IsInstalling formula budget m w place → (r : Result Visit Memory)
    → IfOk r (IsImplied formula budget m n x place) → IfOk r (IsMade formula budget n w x place)
installing_implied formula budget m n w x place is (Err e) h = tt
installing_implied formula budget m n w x place is (Ok visit.Leaves) h = absurd h
installing_implied formula budget m n w x place is (Ok (visit.Conflict number)) h = absurd h
installing_implied formula budget m n w x place is (Ok visit.Spent) h = (rw h.0 is.at, h.1)
installing_implied formula budget m n w x place is (Ok visit.Stays) h = (
  record {
    at = h.0;
    watching = rw (h.1, h.2) (watching_on formula m.learned m.trail.items w x (Some (place + 1)) (λ none. absurd cc) is.watching);
    pairs = is.pairs;
    head = is.head;
    undecided = λ d decided. never d (rw h.1 at decided);
    lines = rw h.2 is.lines;
    paid = let moves = h.3 in let room = h.4 in omega (arith, moves, room);
  },
  rw h.1 (at_end m.trail.items),
)
  where
    at_end : (t : List Entry) → is_true (with_entry t x (Some (place + 1))) x ≡ true
    at_end [] = rw (equal_literal x x refl) refl
    at_end (f ∷ t) = or_behind (int_eq f.literal x) _ (at_end t)

    never : (d : ℕ) → IsDecidedAt (with_entry m.trail.items x (Some (place + 1))) d → ⊥
    never d decided =
        let found = some_entry (with_entry m.trail.items x (Some (place + 1))) d (λ f. f.reason ≡ None) decided in
        by_side found.0 found.2 (get_before m.trail.items record { literal = x; reason = Some (place + 1) } d found.0 found.1)
      where
        by_side : (f : Entry) → f.reason ≡ None
            → ((slice_get m.trail.items d ≡ Some f) × (take d (with_entry m.trail.items x (Some (place + 1))) ≡ take d m.trail.items))
            ⊎ ((f ≡ record { literal = x; reason = Some (place + 1) }) × (take d (with_entry m.trail.items x (Some (place + 1))) ≡ m.trail.items)) → ⊥
        by_side f none (inl g) = is.undecided d (rw g.0 none)
        by_side f none (inr g) = let no : Some (place + 1) ≡ None = sym (ap (λ (e : Entry). e.reason) g.0) ∙ none in absurd cc

-- a clause of one literal, which is true
pub installed_one : (formula : Formula) (budget : ℕ) (m : Machine) (w n : Watching) (x : ℤ) (place : ℕ) → IsInstalling formula budget m w place → slice_get formula.clauses place ≡ Some (x ∷ [])
    → is_true m.trail.items x ≡ true → n.watchers.items ≡ w.watchers.items → n.pairs.items ≡ w.pairs.items ++ record { left = x; right = x } ∷ [] → n.head ≡ w.head → IsInstalling formula budget m n (place + 1)
installed_one formula budget m w n x place is clause own lists pairs head = record {
  at = is.at;
  watching =
      watching_paired formula m.learned m.trail.items w n record { left = x; right = x } (x ∷ []) (ap (slice_get (all_clauses formula m.learned)) is.pairs ∙ front_clause formula m.learned place (x ∷ []) clause) pairs head
      (ap length lists) (λ y k h. ap (λ l. is_among k (list_of l y)) lists ∙ h) (λ y k h. inl (ap (λ l. is_among k (list_of l y)) (sym lists) ∙ h)) (own_literal x, own_literal x)
      (inl record { now = satisfied_by (is_true m.trail.items) (x ∷ []) x (own_literal x) own; before = λ d decided. absurd (is.undecided d decided) }) (rw lists is.watching.blocked) is.watching;
  pairs = let count = length-append w.pairs.items (record { left = x; right = x } ∷ []) in let before = is.pairs in rw pairs (omega (arith, count, before));
  head = head ∙ is.head;
  undecided = is.undecided;
  lines = is.lines;
  paid = is.paid;
}

-- a clause of two literals or more
pub installed_pair : (formula : Formula) (budget : ℕ) (m : Machine) (w n : Watching) (clause : List ℤ) (x y : ℤ) (place : ℕ) → IsInstalling formula budget m w place → slice_get formula.clauses place ≡ Some clause
    → has_literal clause x ≡ true → has_literal clause y ≡ true → int_eq x y ≡ false → IsPaired w n place record { left = x; right = y } → IsInstalling formula budget m n (place + 1)
installed_pair formula budget m w n clause x y place is named left right differ gives = record {
  at = is.at;
  watching =
      watching_paired formula m.learned m.trail.items w n record { left = x; right = y } clause (ap (slice_get (all_clauses formula m.learned)) is.pairs ∙ front_clause formula m.learned place clause named) gives.pairs gives.head
      gives.lists gives.keeps (λ z k h. rw is.pairs (gives.only z k h)) (left, right)
      (rw is.pairs (inr record {
        left = record { now = λ h. let none = rw is.head at h in absurd cc; before = λ d decided. absurd (is.undecided d decided) };
        right = record { now = λ h. let none = rw is.head at h in absurd cc; before = λ d decided. absurd (is.undecided d decided) };
        differ = differ;
        left_listed = gives.left_listed;
        right_listed = gives.right_listed;
      }))
      (gives.passing (is_blocked (all_clauses formula m.learned)) (rw (front_clause formula m.learned place clause named) right) (rw (front_clause formula m.learned place clause named) left) is.watching.blocked) is.watching;
  pairs = let count = length-append w.pairs.items (record { left = x; right = y } ∷ []) in let before = is.pairs in rw gives.pairs (omega (arith, count, before));
  head = gives.head ∙ is.head;
  undecided = is.undecided;
  lines = is.lines;
  paid = is.paid;
}

pub installed_all : (formula : Formula) (budget : ℕ) (m : Machine) (w : Watching) (place : ℕ) → length formula.clauses ≤ place → place ≤ length formula.clauses → IsInstalling formula budget m w place
    → IsSearching formula budget m w
installed_all formula budget m w place low high is = record {
  at = is.at;
  watching = is.watching;
  full = let count = clauses_count formula m.learned in let lines = is.lines in let pairs = is.pairs in omega (arith, count, lines, pairs, low, high);
  paid = is.paid;
}

-- ---- clauses by their number of literals

pub lone_list : (xs : List ℤ) → 1 ≤ length xs → length xs < 2 → xs ≡ get_or xs 0 (pos 0) ∷ []
lone_list [] low high = absurd (omega arith)
lone_list (x ∷ []) low high = refl
lone_list (x ∷ y ∷ xs) low high = absurd (omega arith)

pub empty_list : (xs : List ℤ) → length xs < 1 → xs ≡ []
empty_list [] high = refl
empty_list (x ∷ xs) high = absurd (omega arith)

pub two_apart : (xs : List ℤ) → IsClause xs → 2 ≤ length xs → int_eq (get_or xs 0 (pos 0)) (get_or xs 1 (pos 0)) ≡ false
two_apart [] is low = absurd (omega arith)
two_apart (x ∷ []) is low = absurd (omega arith)
two_apart (x ∷ y ∷ xs) is low = other_test x y (λ e. let rise = is.2.0 in let same : literal_key x ≡ literal_key y = ap literal_key e in omega (arith, rise, same))

pub read_clause : (formula : Formula) (place : ℕ) (clauses : List (List ℤ)) (clause xs : List ℤ) → clauses ≡ formula.clauses → place < length formula.clauses → clause ≡ get_or clauses place clause → xs ≡ clause
    → slice_get formula.clauses place ≡ Some xs
read_clause formula place clauses clause xs same inside is own = rw own (slice_get_read formula.clauses (length formula.clauses) place clause refl inside (is ∙ ap (λ cs. get_or cs place clause) same))

pub refuted_empty : (formula : Formula) (budget : ℕ) (m : Machine) (w : Watching) (place : ℕ) → IsInstalling formula budget m w place → slice_get formula.clauses place ≡ Some [] → IsRefuted formula budget m (place + 1)
refuted_empty formula budget m w place is named = record {
  at = is.at;
  undecided = is.undecided;
  conflict = visiting_conflict formula m place [] (front_clause formula m.learned place [] named) refl;
  paid = is.paid;
}
