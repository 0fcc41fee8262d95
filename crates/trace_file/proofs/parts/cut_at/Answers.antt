use Rattle.std.proofs.Common.{◌+◌, sym, subst, ◌∙◌, All}
use Rattle.std.proofs.lemmas.List.{take_all, take_rest}
use Rattle.std.proofs.lemmas.List.Elements.{All-map, All-more}
use Rattle.trace_file.proofs.PartLaws.{IsOther, IsOtherBehind, cut_nowhere, cut_row, texts}
use Rattle.trace_file.proofs.parts.cut_at.Goals as goal

pub returns-then-is_text : goal.returns-then-is_text
returns-then-is_text c =
    rw (take_rest c.args.parts.now (c.loop-at.at + 1))
    (cut_row c.args.mark.now c.args.parts.now c.loop-at.at _ c.loop-at-test.true c.loop-at.invariant (sym c.is_text.ensures ∙ c.if-is_text.true))

pub loop-at-preserved : goal.loop-at-preserved
loop-at-preserved c =
    All-more (IsOtherBehind c.args.mark.now) c.args.parts.now c.loop-at.at _ c.loop-at-test.true c.loop-at.invariant (sym c.is_text.ensures ∙ c.if-is_text.false)

pub returns : goal.returns
returns c =
    let others : All (IsOtherBehind c.args.mark.now) c.args.parts.now = subst (All (IsOtherBehind c.args.mark.now)) (take_all c.loop-at.at c.args.parts.now c.loop-at-test.false) c.loop-at.invariant in
    cut_nowhere c.args.mark.now (texts c.args.parts.now) (All-map (IsOther c.args.mark.now) (λ text. text.now) c.args.parts.now others)
