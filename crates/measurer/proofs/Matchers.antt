-- What tells the matches of the goals that no index takes.
use Rattle.std.proofs.Common.{◌≡◌, ℕ, zero, suc, ◌+◌, ◌≤◌, ◌<◌, ◌⊎◌, ◌↔◌, inl, inr, Bool, true, false, List, [], ◌∷◌, ◌++◌, Option, Some, None, Result, Ok, Err, IfOk, length, get_or, refl, sym, ◌∙◌, ap, subst, arith}
use Rattle.std.specs.Prelude.{slice_get}
use Rattle.std.specs.Option.{IsSomeAnd}
use Rattle.std.proofs.lemmas.Bool.{cases_lt, false≢true}
use Rattle.patterns.specs.Letters.{form}
use Rattle.patterns.specs.Match.{Form}
use Rattle.patterns.specs.declared.letter.Letter.{Letter}
use Rattle.patterns.specs.declared.path_view.PathView.{PathView}
use Rattle.automata.specs.Standing.{IsOf}
use Rattle.automata.specs.declared.nfa.Nfa.{Nfa}
use Rattle.measurer_index.specs.gap_words.GapWords.{IsGapWordOf}
use Rattle.measurer_index.specs.declared.gap_words.gap_word.GapWord.{GapWord}
use Rattle.goals.specs.GoalForm.{GoalForm}
use Rattle.patterns.specs.Segments.{HasSegment}
use Rattle.measurer_index.specs.word_index.Numbers.{Adds}
use Rattle.measurer_index.specs.word_index.Walks.{is_plain}
use Rattle.measurer_index.proofs.word_index.Steps.{adds_none, adds_same, adds_both}
use Rattle.measurer.specs.Measured.{IsMadeOf, IsMatcherOf, IsMatcherAt, AreMatchers, HasOtherMatch, Tells}
use Rattle.measurer.specs.Openings.{IsOpening}
use Rattle.measurer.specs.declared.tables.GoalMatcher.{GoalMatcher}
use Rattle.measurer.specs.declared.tables.Matcher.TheVariants.{Gaps, Automaton}

-- ---- the element at a place of a list

pub get_push_old : {X : Type 0} (xs : List X) (y x : X) (k : ℕ) → slice_get xs k ≡ Some x → slice_get (xs ++ y ∷ []) k ≡ Some x
get_push_old [] y x k e = absurd (cc)
get_push_old (z ∷ xs) y x zero e = e
get_push_old (z ∷ xs) y x (suc k) e = get_push_old xs y x k e

pub get_push_new : {X : Type 0} (xs : List X) (y : X) → slice_get (xs ++ y ∷ []) (length xs) ≡ Some y
get_push_new [] y = refl
get_push_new (z ∷ xs) y = get_push_new xs y

pub get_push_cases : {X : Type 0} (xs : List X) (y x : X) (k : ℕ) → slice_get (xs ++ y ∷ []) k ≡ Some x → (slice_get xs k ≡ Some x) ⊎ (y ≡ x)
get_push_cases [] y x zero e = inr (let f : y ≡ x = cc in f)
get_push_cases [] y x (suc k) e = absurd (cc)
get_push_cases (z ∷ xs) y x zero e = inl e
get_push_cases (z ∷ xs) y x (suc k) e = get_push_cases xs y x k e

get_within : {X : Type 0} (xs : List X) (x : X) (k : ℕ) → slice_get xs k ≡ Some x → k < length xs
get_within [] x k e = absurd (cc)
get_within (z ∷ xs) x zero e = omega arith
get_within (z ∷ xs) x (suc k) e = let r = get_within xs x k e in omega arith

same_some : {X : Type 0} (o : Option X) (x y : X) → o ≡ Some x → o ≡ Some y → x ≡ y
same_some o x y e f = cc

pub get_some : {X : Type 0} (xs : List X) (i : ℕ) (x : X) → i < length xs → x ≡ get_or xs i x → slice_get xs i ≡ Some x
get_some [] i x lt e = absurd (omega arith)
get_some (z ∷ xs) zero x lt e = ap Some (sym e)
get_some (z ∷ xs) (suc i) x lt e = get_some xs i x (omega arith) e

-- what holds of each element below a place, and of the one at the place, holds of each one below the next
pub each_more : {X : Type 0} (P : X → Type 0) (xs : List X) (i : ℕ) (x : X) → slice_get xs i ≡ Some x → P x → ((k : ℕ) (y : X) → k < i → slice_get xs k ≡ Some y → P y)
    → (k : ℕ) (y : X) → k < i + 1 → slice_get xs k ≡ Some y → P y
each_more P xs i x e h below k y lt f = elim (cases_lt k i) [
  | inl less ↦ below k y less f
  | inr above ↦ let same : k ≡ i = omega arith in subst P (same_some (slice_get xs i) x y e (ap (slice_get xs) (sym same) ∙ f)) h
]

pub each_of_all : {X : Type 0} (P : X → Type 0) (xs : List X) (count : ℕ) → length xs ≤ count → ((k : ℕ) (y : X) → k < count → slice_get xs k ≡ Some y → P y) → (k : ℕ) (y : X) → slice_get xs k ≡ Some y → P y
each_of_all P xs count le h k y e = let lt = get_within xs y k e in h k y (omega arith) e

-- ---- one more goal

module _ (sets : List (List ℕ)) (goals : List GoalForm) (first last : Bool) where
  pub no_matchers : AreMatchers sets goals first last 0 []
  no_matchers = record {
    each = λ k own e. absurd (cc);
    every = λ place goal lt e other. absurd (omega arith);
  }

  -- of the index
  pub goal_skipped : (count : ℕ) (goal : GoalForm) (all : List GoalMatcher) → slice_get goals count ≡ Some goal → is_plain goal.word ≡ true → AreMatchers sets goals first last count all → AreMatchers sets goals first last (count + 1) all
  goal_skipped count goal all e plain h = record {
    each = h.each;
    every = λ place g lt f other. elim (cases_lt place count) [
      | inl below ↦ h.every place g below f other
      | inr above ↦
          let k : place ≡ count = omega arith in
          let same : g ≡ goal = same_some (slice_get goals count) g goal (ap (slice_get goals) (sym k) ∙ f) e in
          absurd (false≢true (sym other ∙ (ap (λ (x : GoalForm). is_plain x.word) same ∙ plain)))
    ];
  }

  -- of the others
  pub goal_added : (count : ℕ) (goal : GoalForm) (all : List GoalMatcher) (own : GoalMatcher) → slice_get goals count ≡ Some goal → own.number ≡ count + 1 → IsMadeOf sets goal first last own
      → AreMatchers sets goals first last count all → AreMatchers sets goals first last (count + 1) (all ++ own ∷ [])
  goal_added count goal all own e is of h =
      let number : own.number ≡ suc count = omega arith in
      let mine : IsMatcherAt sets goals first last count own = record {
        is = number;
        goal = subst (λ o. IsSomeAnd o (λ goal. IsMadeOf sets goal first last own)) (sym e) of;
      } in
      record {
        each = λ k one f. elim (get_push_cases all own one k f) [
          | inl old ↦ h.each k one old
          | inr new ↦ (count, subst (λ x. IsMatcherAt sets goals first last count x) new mine)
        ];
        every = λ place g lt f o. elim (cases_lt place count) [
          | inl below ↦ let r = h.every place g below f o in (r.0, (r.1.0, (get_push_old all own r.1.0 r.0 r.1.1.0, r.1.1.1)))
          | inr above ↦ let k : place ≡ count = omega arith in (length all, (own, (get_push_new all own, omega arith)))
        ];
      }

-- ---- matches of the others

-- by a row of letters and gaps
pub gaps_tell : (sets : List (List ℕ)) (first last : Bool) (path : PathView) (own : GoalMatcher) (word : GapWord) (b : Bool) → own.matcher ≡ Gaps word
    → ((pattern : Form Letter) → IsGapWordOf sets pattern word → (b ≡ true) ↔ HasSegment first last pattern path) → Tells sets first last path own b
gaps_tell sets first last path own word b e h = λ pattern of. h pattern (subst (λ m. IsMatcherOf sets first last pattern m) e of)

-- by an automaton
pub automaton_tells : {E : Type 0} (r : Result Bool E) (sets : List (List ℕ)) (first last : Bool) (path : PathView) (own : GoalMatcher) (opening : Option ℕ) (automaton : Nfa Letter) → own.matcher ≡ Automaton opening automaton
    → ((pattern : Form Letter) (first last : Bool) → IsOf automaton pattern first last → IsOpening opening first pattern → IfOk r (λ b. (b ≡ true) ↔ HasSegment first last pattern path))
    → IfOk r (λ b. Tells sets first last path own b)
automaton_tells (Ok b) sets first last path own opening automaton e h = λ pattern of. let m = subst (λ m. IsMatcherOf sets first last pattern m) e of in h pattern first last m.1 m.0
automaton_tells (Err x) sets first last path own opening automaton e h = tt

-- a number of one of the first of them, of whose goal's pattern the path has a match
abbrev pub MatchedBefore : List GoalForm → Bool → Bool → PathView → List GoalMatcher → ℕ → ℕ → Type 0
MatchedBefore goals first last path all count n =
    (k : ℕ) × ((own : GoalMatcher) × ((k < count) × ((slice_get all k ≡ Some own) × ((n ≡ own.number) × HasOtherMatch goals first last path n))))

module _ (sets : List (List ℕ)) (goals : List GoalForm) (first last : Bool) (path : PathView) (all : List GoalMatcher) (made : AreMatchers sets goals first last (length goals) all) where
  pub none_matched : (xs : List ℕ) → Adds (MatchedBefore goals first last path all 0) xs xs
  none_matched xs = adds_none _ xs (λ n (k, (own, (lt, rest))). absurd (omega arith))

  -- what is told of a goal
  pub goal_says : (own : GoalMatcher) (k : ℕ) (b : Bool) → slice_get all k ≡ Some own
      → Tells sets first last path own b → (b ≡ true) ↔ HasOtherMatch goals first last path own.number
  goal_says own k b e says = let r = made.each k own e in by_goal r.0 r.1.is (slice_get goals r.0) refl r.1.goal
    where
      by_goal : (place : ℕ) → own.number ≡ suc place → (o : Option GoalForm) → slice_get goals place ≡ o → IsSomeAnd o (λ goal. IsMadeOf sets goal first last own)
          → (b ≡ true) ↔ HasOtherMatch goals first last path own.number
      by_goal place is None f h = absurd h
      by_goal place is (Some goal) f h =
          let s = says (form goal.pattern) h.matcher in (
            λ t.
                let at : IsSomeAnd (Some goal) (λ goal. (is_plain goal.word ≡ false) × HasSegment first last (form goal.pattern) path) = (h.other, s.0 t) in
                record { place = place; is = is; goal = subst (λ o. IsSomeAnd o (λ goal. (is_plain goal.word ≡ false) × HasSegment first last (form goal.pattern) path)) (sym f) at },
            λ m.
                let here : own.number ≡ suc m.place = m.is in
                let k : m.place ≡ place = omega arith in
                let at : IsSomeAnd (Some goal) (λ goal. (is_plain goal.word ≡ false) × HasSegment first last (form goal.pattern) path) =
                subst (λ o. IsSomeAnd o (λ goal. (is_plain goal.word ≡ false) × HasSegment first last (form goal.pattern) path)) (ap (slice_get goals) k ∙ f) m.goal in
                s.1 at.1,
          )

  more_matched : (count : ℕ) (own : GoalMatcher) → slice_get all count ≡ Some own → HasOtherMatch goals first last path own.number → (xs ys zs : List ℕ) → Adds (MatchedBefore goals first last path all count) xs ys → Adds (λ n. n ≡ own.number) ys zs
      → Adds (MatchedBefore goals first last path all (count + 1)) xs zs
  more_matched count own e m xs ys zs a b = adds_same _ (MatchedBefore goals first last path all (count + 1)) xs zs to from (adds_both _ _ xs ys zs a b)
    where
      to : (n : ℕ) → (MatchedBefore goals first last path all count n ⊎ (n ≡ own.number)) → MatchedBefore goals first last path all (count + 1) n
      to n (inl (k, (one, (lt, rest)))) = (k, (one, (omega arith, rest)))
      to n (inr is) = (count, (own, (omega arith, (e, (is, subst (λ x. HasOtherMatch goals first last path x) (sym is) m)))))

      from : (n : ℕ) → MatchedBefore goals first last path all (count + 1) n → (MatchedBefore goals first last path all count n ⊎ (n ≡ own.number))
      from n (k, (one, (lt, (f, (is, h))))) = elim (cases_lt k count) [
        | inl below ↦ inl (k, (one, (below, (f, (is, h)))))
        | inr above ↦ let same : k ≡ count = omega arith in inr (is ∙ ap (λ (x : GoalMatcher). x.number) (same_some (slice_get all count) one own (ap (slice_get all) (sym same) ∙ f) e))
      ]

  -- one more of which there is a match
  pub accepted_more : (count : ℕ) (own : GoalMatcher) (b : Bool) → slice_get all count ≡ Some own → Tells sets first last path own b → b ≡ true
      → (xs ys zs : List ℕ) → Adds (MatchedBefore goals first last path all count) xs ys → Adds (λ n. n ≡ own.number) ys zs → Adds (MatchedBefore goals first last path all (count + 1)) xs zs
  accepted_more count own b e says t xs ys zs = more_matched count own e ((goal_says own count b e says).0 t) xs ys zs

  -- one more of which there is none
  pub refused_more : (count : ℕ) (own : GoalMatcher) (b : Bool) → slice_get all count ≡ Some own → Tells sets first last path own b → b ≡ false
      → (xs ys : List ℕ) → Adds (MatchedBefore goals first last path all count) xs ys → Adds (MatchedBefore goals first last path all (count + 1)) xs ys
  refused_more count own b e says t xs ys a = adds_same _ (MatchedBefore goals first last path all (count + 1)) xs ys to from a
    where
      to : (n : ℕ) → MatchedBefore goals first last path all count n → MatchedBefore goals first last path all (count + 1) n
      to n (k, (one, (lt, rest))) = (k, (one, (omega arith, rest)))

      from : (n : ℕ) → MatchedBefore goals first last path all (count + 1) n → MatchedBefore goals first last path all count n
      from n (k, (one, (lt, (f, (is, h))))) = elim (cases_lt k count) [
        | inl below ↦ (k, (one, (below, (f, (is, h)))))
        | inr above ↦
            let same : k ≡ count = omega arith in
            let one_own : one ≡ own = same_some (slice_get all count) one own (ap (slice_get all) (sym same) ∙ f) e in
            let number : n ≡ own.number = is ∙ ap (λ (x : GoalMatcher). x.number) one_own in
            absurd (false≢true (sym t ∙ (goal_says own count b e says).1 (subst (λ x. HasOtherMatch goals first last path x) number h)))
      ]

  -- all of them
  pub all_matched : (count : ℕ) (xs ys : List ℕ) → count ≡ length all → Adds (MatchedBefore goals first last path all count) xs ys → Adds (HasOtherMatch goals first last path) xs ys
  all_matched count xs ys size a = adds_same _ (HasOtherMatch goals first last path) xs ys (λ n (k, (own, (lt, (e, (is, h))))). h) from a
    where
      from : (n : ℕ) → HasOtherMatch goals first last path n → MatchedBefore goals first last path all count n
      from n h = by_goal (slice_get goals h.place) refl h.goal
        where
          by_goal : (o : Option GoalForm) → slice_get goals h.place ≡ o → IsSomeAnd o (λ goal. (is_plain goal.word ≡ false) × HasSegment first last (form goal.pattern) path) → MatchedBefore goals first last path all count n
          by_goal None e g = absurd g
          by_goal (Some goal) e g =
              let r = made.every h.place goal (get_within goals goal h.place e) e g.0 in
              let within = get_within all r.1.0 r.0 r.1.1.0 in
              let is : n ≡ r.1.0.number = h.is ∙ sym r.1.1.1 in
              (r.0, (r.1.0, (omega arith, (r.1.1.0, (is, h)))))

  -- there are none
  pub no_others : (xs : List ℕ) → length all ≡ 0 → Adds (HasOtherMatch goals first last path) xs xs
  no_others xs none = all_matched 0 xs xs (sym none) (none_matched xs)
