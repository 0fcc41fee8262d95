use Rattle.std.proofs.Common.{◌++◌, ◌∷◌, [], map, append_assoc, ap, sym, ◌∙◌}
use Rattle.std.proofs.lemmas.List.{append-nil}
use Rattle.goals.proofs.Same.{word_items}
use Rattle.goals.proofs.distinct.distinct.Goals as goal

pub loop-word-init : goal.loop-word-init
loop-word-init c = ap (λ d. d ++ map word_items c.into_iter-word-iterator.result) c.new-different.ensures

pub loop-word-preserved : goal.loop-word-preserved
loop-word-preserved c =
    let more = c.in_ok-push.ensures.ok ∙ ap (λ w. c.loop-word.different ++ w ∷ []) c.from_vec.ensures in
    ap (λ d. d ++ map word_items c.next.new.self) more ∙ append_assoc c.loop-word.different (c.in-Some.word.items ∷ []) (map word_items c.next.new.self)
    ∙ ap (λ s. c.loop-word.different ++ map word_items s) (sym c.in-Some.ensures.steps) ∙ c.loop-word.invariant

pub returns : goal.returns
returns c =
    sym (append-nil c.loop-word.different) ∙ ap (λ s. c.loop-word.different ++ map word_items s) (sym c.in-None.ensures.steps.0) ∙ c.loop-word.invariant
    ∙ ap (map word_items) c.into_iter-word-iterator.ensures.into_iter_gives.0 ∙ c.in_ok-word-items.ensures
