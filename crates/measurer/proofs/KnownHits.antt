-- What a run hits depends on its path, if its end is counted.
use Rattle.std.proofs.Common.{◌≡◌, ℕ, List, [], ◌∷◌, ◌++◌, sym, subst, Option, Some, None}
use Rattle.std.specs.Prelude.{IsTrue, slice_get}
use Rattle.std.specs.Option.{IsSomeAnd}
use Rattle.c_meaning.specs.declared.ends.Ends.{Ends}
use Rattle.path_runner.specs.Counted.{counts_end}
use Rattle.path_runner.specs.declared.path.PathRecord.{PathRecord}
use Rattle.std.proofs.lemmas.List.Elements.{All-push}
use Rattle.patterns.specs.Letters.{form}
use Rattle.patterns.specs.Segments.{HasSegment}
use Rattle.patterns.specs.declared.path_view.PathView.{PathView}
use Rattle.goals.specs.GoalForm.{GoalForm}
use Rattle.goals.specs.declared.plan.Plan.{Plan}
use Rattle.measurer_hits.specs.hits.Hits.{AreHits, Hits, HitsNumber, MeetsPassing, path_in}
use Rattle.measurer.specs.Known.{AreKnown, HasHits, view_of}
use Rattle.measurer.specs.declared.known.KnownPath.{KnownPath}

module _ (plan : Plan) (ends fins : Ends) (run other : PathRecord) (same : path_in run ≡ path_in other) (counted : IsTrue (counts_end fins other.end)) where
  hits_too : (o : Option GoalForm) → IsSomeAnd o (λ goal. Hits plan ends goal run) → IsSomeAnd o (λ goal. Hits plan fins goal other)
  hits_too None h = h
  hits_too (Some goal) h = record {
    counted = counted;
    goal_matches = subst (HasSegment plan.first plan.last (form goal.pattern)) same h.goal_matches;
    passing_matches = subst (MeetsPassing plan.passing) same h.passing_matches;
  }

  number_too : (n : ℕ) → HitsNumber plan ends run n → HitsNumber plan fins other n
  number_too n h = record { place = h.place; is = h.is; hits = hits_too (slice_get plan.goals h.place) h.hits }

-- what one run hits, each run along its path hits
pub all_along : (plan : Plan) (ends : Ends) (run : PathRecord) (hits : List ℕ) → IsTrue (counts_end ends run.end) → AreHits plan ends run hits → HasHits plan (path_in run) hits
all_along plan ends run hits counted are fins other same also = record {
  rise = are.rise;
  exact = λ n. (
    λ h. number_too plan ends fins run other (sym same) also n ((are.exact n).0 h),
    λ h. (are.exact n).1 (number_too plan fins ends other run same counted n h),
  );
}

-- one path more
pub one_more : (plan : Plan) (paths more : List KnownPath) (known : KnownPath) (path : PathView) (hits : List ℕ) → more ≡ paths ++ known ∷ [] → view_of known ≡ path → known.hits.items ≡ hits → AreKnown plan paths → HasHits plan path hits
    → AreKnown plan more
one_more plan paths more known path hits e view same are has =
    subst (AreKnown plan) (sym e)
    (All-push (λ k. HasHits plan (view_of k) k.hits.items) paths known are (subst (λ p. HasHits plan p known.hits.items) (sym view) (subst (HasHits plan path) (sym same) has)))
