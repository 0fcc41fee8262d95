use Rattle.test_expressions.proofs.Rooms.{words_more}
use Rattle.test_expressions.proofs.stores.free_store.Goals as goal

pub loop-preserved : goal.loop-preserved
loop-preserved c = words_more c.loop.words _ c.in_ok-word.word c.loop.invariant c.free_word.ensures.older c.in_ok-word.ensures.wires c.in_ok-push.ensures.ok
