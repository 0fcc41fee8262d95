-- Laws of measuring.
use Rattle.std.proofs.Common.{◌≡◌, ℕ, ◌+◌, ◌<◌, List, [], ◌∷◌, ◌++◌, length, take, get_or, sym, ap, subst, ◌∙◌, arith}
use Rattle.std.specs.Prelude.{Option}
use Rattle.std.specs.List.{AllZip}
use Rattle.std.specs.Option.{option_map_or}
use Rattle.std.proofs.lemmas.List.{length-map, map-append, take_more}
use Rattle.std.proofs.lemmas.List.FromFn.{length-map-range_with_len, map-range_with_len_more}
use Rattle.std.proofs.lemmas.Slice.Zip.{AllZip-long}
use Rattle.cfa.specs.declared.parts.Function.{Function}
use Rattle.cfa.specs.declared.parts.GraphParts.{GraphParts}
use Rattle.cfa.specs.declared.state.Predicates.{Predicates}
use Rattle.c_meaning.specs.declared.ends.Ends.{Ends}
use Rattle.c_meaning.specs.declared.input.Input.{Input}
use Rattle.c_meaning.specs.Starts.{start_of}
use Rattle.patterns.specs.Paths.{IsPath}
use Rattle.path_runner.specs.declared.path.PathRecord.{PathRecord}
use Rattle.path_runner.specs.declared.path.RunEnd.{RunEnd}
use Rattle.path_runner.proofs.Lengths.{lengths}
use Rattle.goals.specs.declared.answer.Answer.{Answer}
use Rattle.goals.specs.declared.answer.Answer.TheVariants as answer
use Rattle.goals.specs.declared.plan.Plan.{Plan}
use Rattle.measurer.specs.Firsts.{first_hit}
use Rattle.measurer_hits.specs.hits.Hits.{AreHits, path_in}
use Rattle.command.specs.Measure.{AreAllHits, answer_of, answers_of}
use Rattle.command.specs.Runs.{ends_of, run_of, runs_of}

-- a run's record has one more node and mask than edges
pub run_is_path : (graph : GraphParts) (entry : Function) (p : Predicates) (steps : ℕ) (input : Input) → IsPath (path_in (run_of graph entry p steps input))
unfolding run_of
run_is_path graph entry p steps input =
    let long = lengths graph input p steps (start_of graph entry input.words) in
    record { nodes_fit = long.0; masks_fit = long.1 }

-- one more of two lists side by side
pub zip_push : {A B : Type 0} (P : A → B → Type 0) (xs : List A) (ys : List B) (x : A) (y : B) → AllZip P xs ys → P x y → AllZip P (xs ++ x ∷ []) (ys ++ y ∷ [])
zip_push P [] [] x y all one = (one, tt)
zip_push P [] (b ∷ ys) x y all one = absurd all
zip_push P (a ∷ xs) [] x y all one = absurd all
zip_push P (a ∷ xs) (b ∷ ys) x y all one = (all.0, zip_push P xs ys x y all.1 one)

module _ (graph : GraphParts) (entry : Function) (p : Predicates) (steps : ℕ) (inputs : List Input) (i : ℕ) (d : Input) (within : i < length inputs) where
  -- the runs with that of the next input
  pub runs_more : runs_of graph entry p steps (take (i + 1) inputs) ≡ runs_of graph entry p steps (take i inputs) ++ run_of graph entry p steps (get_or inputs i d) ∷ []
  runs_more = rw (take_more inputs i d within) (map-append (run_of graph entry p steps) (take i inputs) (get_or inputs i d ∷ []))

  pub ends_more : (ends new : List RunEnd) (run : PathRecord) → new ≡ ends ++ run.end ∷ [] → run ≡ run_of graph entry p steps (get_or inputs i d)
      → ends ≡ ends_of (runs_of graph entry p steps (take i inputs)) → new ≡ ends_of (runs_of graph entry p steps (take (i + 1) inputs))
  ends_more ends new run more is so_far =
      let before = runs_of graph entry p steps (take i inputs) in
      more ∙ ap (λ (l : List RunEnd). l ++ run.end ∷ []) so_far ∙ sym (map-append (λ (r : PathRecord). r.end) before (run ∷ []))
      ∙ ap (λ (r : PathRecord). ends_of (before ++ r ∷ [])) is ∙ ap ends_of (sym runs_more)

  pub hits_more : (plan : Plan) (ends : Ends) (hits new : List (List ℕ)) (run : PathRecord) (last : List ℕ) → new ≡ hits ++ last ∷ [] → run ≡ run_of graph entry p steps (get_or inputs i d)
      → AreHits plan ends run last → AreAllHits plan ends (runs_of graph entry p steps (take i inputs)) hits → AreAllHits plan ends (runs_of graph entry p steps (take (i + 1) inputs)) new
  hits_more plan ends hits new run last more is one all =
      rw (more, runs_more) (zip_push (AreHits plan ends) _ hits _ last all (subst (λ (r : PathRecord). AreHits plan ends r last) is one))

-- there is a list of hits for each input
pub hits_many : (graph : GraphParts) (entry : Function) (p : Predicates) (steps : ℕ) (inputs : List Input) (plan : Plan) (ends : Ends) (hits : List (List ℕ))
    → AreAllHits plan ends (runs_of graph entry p steps inputs) hits → length hits ≡ length inputs
hits_many graph entry p steps inputs plan ends hits all =
    AllZip-long (AreHits plan ends) (runs_of graph entry p steps inputs) hits all ∙ length-map inputs (run_of graph entry p steps)

-- one more answer
pub answer_more : (hits : List (List ℕ)) (place : ℕ) (answers new : List Answer) (one : Answer) (found : Option ℕ) → new ≡ answers ++ one ∷ []
    → answers ≡ answers_of hits place → found ≡ first_hit hits (place + 1) → option_map_or answer.Covered found answer.Missed ≡ one → new ≡ answers_of hits (place + 1)
answer_more hits place answers new one found more so_far is told =
    let last : one ≡ answer_of hits (place + 1) = sym told ∙ ap (λ (o : Option ℕ). option_map_or answer.Covered o answer.Missed) is in
    more ∙ ap (λ (l : List Answer). l ++ one ∷ []) so_far ∙ ap (λ (a : Answer). answers_of hits place ++ a ∷ []) last
    ∙ sym (map-range_with_len_more (answer_of hits) 1 place (place + 1) (omega arith))

-- there is an answer for each goal
pub answers_many : (hits : List (List ℕ)) (count : ℕ) → length (answers_of hits count) ≡ count
answers_many hits count = length-map-range_with_len (answer_of hits) 1 count
