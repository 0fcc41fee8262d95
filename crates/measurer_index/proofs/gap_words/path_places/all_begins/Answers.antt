use Rattle.std.proofs.Common.{◌≡◌, ◌+◌, ◌++◌, ◌∷◌, [], List, ℕ, length, sym, ◌∙◌, ap, subst}
use Rattle.std.specs.Prelude.{slice_index_or}
use Rattle.std.proofs.lemmas.List.{length_push, get_or_read}
use Rattle.measurer_index.proofs.gap_words.Begins.{AreTabled, one_tabled}
use Rattle.measurer_index.proofs.gap_words.path_places.all_begins.Goals as goal

pub loop-set-preserved : goal.loop-set-preserved
loop-set-preserved c =
    let sets = c.args.sets.now in
    let i = c.loop-set.set-index in
    let size : length c.loop-set.all ≡ i = c.loop-set.invariant.size in
    let e : c.push.new.self ≡ c.loop-set.all ++ c.in_ok-begins_of.field-0 ∷ [] = c.in_ok-push.ensures.ok in
    let set : c.set-item.result ≡ slice_index_or sets i [] = get_or_read sets i c.set-item.result c.loop-set-test.true c.set-item.is [] in
    record {
      size = ap length e ∙ length_push c.loop-set.all c.in_ok-begins_of.field-0 ∙ ap (λ n. n + 1) size;
      tabled = subst (λ (ys : List (List ℕ)). AreTabled sets c.args.edges.now ys (i + 1)) (sym e) (one_tabled sets c.args.edges.now c.loop-set.all i c.set-item.result c.in_ok-begins_of.field-0 size set c.in_ok-begins_of.ensures c.loop-set.invariant.tabled);
    }
