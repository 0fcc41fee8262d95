use Rattle.std.proofs.Common.{◌≡◌, ◌+◌, ◌++◌, ◌∷◌, [], length, sym, ◌∙◌, ap, subst}
use Rattle.std.proofs.lemmas.List.{length_push}
use Rattle.measurer_index.specs.gap_words.Parts.{IsBegin}
use Rattle.measurer_index.proofs.gap_words.Begins.{AreBegun, begin_in, begin_out, one_begun}
use Rattle.measurer_index.proofs.gap_words.path_places.begins_of.Goals as goal
use Rattle.measurer_index.proofs.gap_words.path_places.begins_of.Goals.{then-not-contains, else-not-contains}

pub loop-place-preserved : goal.loop-place-preserved
loop-place-preserved c =
    let set = c.args.set.now in
    let edges = c.args.edges.now in
    let state = c.loop-place.place in
    let begin : IsBegin set edges (state + 1) c.if-not-contains.begin = elim c.if-not-contains.branch [
      | then-not-contains w ↦ subst (λ b. IsBegin set edges (state + 1) b) (sym w.begin-is) (begin_out set edges state (sym w.if-not-contains.ensures))
      | else-not-contains w ↦ subst (λ b. IsBegin set edges (state + 1) b) (sym w.begin-is) (begin_in set edges state c.loop-place.begin (sym w.if-not-contains.ensures) c.loop-place.invariant.begin)
    ] in
    let size : length c.loop-place.begins.items ≡ state + 1 = c.loop-place.invariant.size in
    let e : c.push-in-loop-place.new.self.items ≡ c.loop-place.begins.items ++ c.if-not-contains.begin ∷ [] = c.in_ok-push-2.ensures.items in
    record {
      size = ap length e ∙ length_push c.loop-place.begins.items c.if-not-contains.begin ∙ ap (λ n. n + 1) size;
      begin = begin;
      begun = subst (λ ys. AreBegun set edges ys (state + 1 + 1)) (sym e) (one_begun set edges c.loop-place.begins.items (state + 1) c.if-not-contains.begin size begin c.loop-place.invariant.begun);
    }
