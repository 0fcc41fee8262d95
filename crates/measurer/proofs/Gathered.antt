-- The goals of the index and the others are all goals.
use Rattle.std.proofs.Common.{◌≡◌, ℕ, suc, ◌⊎◌, ◌↔◌, inl, inr, Bool, true, false, List, [], Option, Some, None, refl, sym, ◌∙◌, ap, subst, arith}
use Rattle.std.specs.Prelude.{IsTrue, slice_get}
use Rattle.std.specs.List.{Contains}
use Rattle.std.specs.Option.{IsSomeAnd}
use Rattle.patterns.specs.Letters.{form}
use Rattle.patterns.specs.declared.path_view.PathView.{PathView}
use Rattle.c_meaning.specs.declared.ends.Ends.{Ends}
use Rattle.path_runner.specs.Counted.{counts_end}
use Rattle.path_runner.specs.declared.path.PathRecord.{PathRecord}
use Rattle.goals.specs.GoalForm.{GoalForm, HasItsPattern}
use Rattle.goals.specs.declared.plan.Plan.{Plan}
use Rattle.patterns.specs.Segments.{HasSegment}
use Rattle.measurer_index.specs.word_index.Numbers.{Adds}
use Rattle.measurer_index.specs.word_index.Walks.{HasGoalWalk, HasWalk, word_at, word_of, is_plain}
use Rattle.measurer_hits.specs.hits.Hits.{path_in, MeetsPassing, Hits, HitsNumber}
use Rattle.measurer.specs.Measured.{HasOtherMatch}
use Rattle.measurer.proofs.Words.{walk_is_segment}

-- no list contains a number of the empty list
pub none_in : (n : ℕ) → Contains [] n → ⊥
none_in n c = let lt = c.1 in omega arith

-- nothing is hit
pub no_hits : (plan : Plan) (ends : Ends) (run : PathRecord) (xs : List ℕ) → xs ≡ [] → ((goal : GoalForm) → Hits plan ends goal run → ⊥) → (n : ℕ) → Contains xs n ↔ HitsNumber plan ends run n
no_hits plan ends run xs is none n = (λ c. absurd (none_in n (subst (λ zs. Contains zs n) is c)), λ h. absurd (by_goal (slice_get plan.goals h.place) h.hits))
  where
    by_goal : (o : Option GoalForm) → IsSomeAnd o (λ goal. Hits plan ends goal run) → ⊥
    by_goal None h = h
    by_goal (Some goal) h = none goal h

module _ (plan : Plan) (ends : Ends) (run : PathRecord) (patterns : (place : ℕ) (goal : GoalForm) → slice_get plan.goals place ≡ Some goal → HasItsPattern goal)
    (counted : IsTrue (counts_end ends run.end)) (passing : MeetsPassing plan.passing (path_in run)) where
  -- a goal that is hit is one of the index, or one of the others
  hit_found : (n place : ℕ) → n ≡ suc place → (o : Option GoalForm) → slice_get plan.goals place ≡ o → IsSomeAnd o (λ goal. Hits plan ends goal run)
      → HasGoalWalk plan.goals plan.first plan.last (path_in run) n ⊎ HasOtherMatch plan.goals plan.first plan.last (path_in run) n
  hit_found n place is None e h = absurd h
  hit_found n place is (Some goal) e h = by_word (is_plain goal.word) refl
    where
      by_word : (b : Bool) → is_plain goal.word ≡ b → HasGoalWalk plan.goals plan.first plan.last (path_in run) n ⊎ HasOtherMatch plan.goals plan.first plan.last (path_in run) n
      by_word true plain =
          let own : HasItsPattern goal = patterns place goal e in
          let segment : HasSegment plan.first plan.last (form goal.pattern) (path_in run) = h.goal_matches in
          let walk : HasWalk plan.first plan.last goal.word (path_in run) = (walk_is_segment own.0 (path_in run) plan.first plan.last goal.word plain).1 (subst (λ p. HasSegment plan.first plan.last (form p) (path_in run)) own.1 segment) in
          let word : word_at plan.goals place ≡ goal.word = ap word_of e in
          inl (record {
            place = place;
            is = is;
            plain = ap is_plain word ∙ plain;
            walk = subst (λ w. HasWalk plan.first plan.last w (path_in run)) (sym word) walk;
          })
      by_word false other =
          let both : IsSomeAnd (Some goal) (λ goal. (is_plain goal.word ≡ false) × HasSegment plan.first plan.last (form goal.pattern) (path_in run)) = (other, h.goal_matches) in
          inr (record {
            place = place;
            is = is;
            goal = subst (λ o. IsSomeAnd o (λ goal. (is_plain goal.word ≡ false) × HasSegment plan.first plan.last (form goal.pattern) (path_in run))) (sym e) both;
          })

  walk_hit : (place : ℕ) (o : Option GoalForm) → slice_get plan.goals place ≡ o → is_plain (word_of o) ≡ true → HasWalk plan.first plan.last (word_of o) (path_in run) → IsSomeAnd o (λ goal. Hits plan ends goal run)
  walk_hit place None e plain walk = absurd (cc)
  walk_hit place (Some goal) e plain walk =
      let own : HasItsPattern goal = patterns place goal e in
      let segment = (walk_is_segment own.0 (path_in run) plan.first plan.last goal.word plain).0 walk in
      record { counted = counted; goal_matches = subst (λ p. HasSegment plan.first plan.last (form p) (path_in run)) (sym own.1) segment; passing_matches = passing }

  other_hit : (o : Option GoalForm) → IsSomeAnd o (λ goal. (is_plain goal.word ≡ false) × HasSegment plan.first plan.last (form goal.pattern) (path_in run)) → IsSomeAnd o (λ goal. Hits plan ends goal run)
  other_hit None h = h
  other_hit (Some goal) h = record { counted = counted; goal_matches = h.1; passing_matches = passing }

  -- what is found is what is hit
  pub found_is_hit : (n : ℕ) → (HasGoalWalk plan.goals plan.first plan.last (path_in run) n ⊎ HasOtherMatch plan.goals plan.first plan.last (path_in run) n) ↔ HitsNumber plan ends run n
  found_is_hit n = (
    λ f. elim f [
      | inl w ↦ record { place = w.place; is = w.is; hits = walk_hit w.place (slice_get plan.goals w.place) refl w.plain w.walk }
      | inr m ↦ record { place = m.place; is = m.is; hits = other_hit (slice_get plan.goals m.place) m.goal }
    ],
    λ h. hit_found n h.place h.is (slice_get plan.goals h.place) refl h.hits,
  )

  -- what is added to nothing is what is hit
  pub all_hits : (path : PathView) (xs ys : List ℕ) → path ≡ path_in run → xs ≡ [] → Adds (λ n. HasGoalWalk plan.goals plan.first plan.last path n ⊎ HasOtherMatch plan.goals plan.first plan.last path n) xs ys
      → (n : ℕ) → Contains ys n ↔ HitsNumber plan ends run n
  all_hits path xs ys is none a n =
      let b : Adds (λ n. HasGoalWalk plan.goals plan.first plan.last (path_in run) n ⊎ HasOtherMatch plan.goals plan.first plan.last (path_in run) n) xs ys =
      subst (λ p. Adds (λ n. HasGoalWalk plan.goals plan.first plan.last p n ⊎ HasOtherMatch plan.goals plan.first plan.last p n) xs ys) is a in (
        λ c. (found_is_hit n).0 (elim ((b n).0 c) [ inl x ↦ absurd (none_in n (subst (λ zs. Contains zs n) none x)) | inr y ↦ y ]),
        λ h. (b n).1 (inr ((found_is_hit n).1 h)),
      )
