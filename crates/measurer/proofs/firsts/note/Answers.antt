use Rattle.std.proofs.Common.{◌+◌, ◌++◌, ◌∷◌, [], ◌∙◌, ap}
use Rattle.measurer.specs.Firsts.{or_none}
use Rattle.measurer.proofs.FirstRuns.{noted_is, last_pushed}
use Rattle.measurer.proofs.firsts.note.Goals as goal

pub returns-in-Some-clause-firsts : goal.returns-in-Some-clause-firsts
returns-in-Some-clause-firsts c = λ goal.
    let pushed = c.in_ok-push.ensures.ok in
    let last = last_pushed c.as_slice.result.now c.args.hits.now c.from_vec-last.result c.in-Some.added.now (c.as_slice.ensures ∙ pushed) c.in-Some.ensures.value in
    let places = c.deref-in-Some.ensures ∙ last ∙ c.from_vec-last.ensures in
    let number = c.len-2.ensures in
    c.note_at.ensures goal
    ∙ noted_is goal _ c.deref-in-Some.result.now c.args.last.items c.args.hits.now c.push.new.self _ places (ap (λ n. n + 1) number) (ap or_none (c.lengthen.ensures.same goal) ∙ c.requires goal)
    (pushed ∙ ap (λ x. c.args.hits.now ++ x ∷ []) c.from_vec-last.ensures)
