use Rattle.std.proofs.Common.{sym, ◌∙◌}
use Rattle.containers.specs.Lists.{all_there_more, all_there_fails}
use Rattle.c_lex.specs.Directives.{list_of, replacement_at}
use Rattle.c_lex.proofs.directive.list_of.Goals as goal

pub returns-in-None : goal.returns-in-None
unfolding list_of
returns-in-None c =
    sym (all_there_fails (replacement_at c.args.line.now) c.args.pieces.now c.loop-piece.piece-index _ c.loop-piece-test.true (sym c.in_ok-replacement.ensures ∙ c.in-None.is))

pub loop-piece-preserved : goal.loop-piece-preserved
loop-piece-preserved c =
    rw c.in_ok-push-in-Some.ensures.ok (all_there_more (replacement_at c.args.line.now) c.args.pieces.now c.loop-piece.piece-index _ _ _ c.loop-piece-test.true c.loop-piece.invariant (sym c.in_ok-replacement.ensures ∙ c.in-Some.is))
