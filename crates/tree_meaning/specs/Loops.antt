-- What loops do (ISO/IEC 9899:2011, 6.8.5). Each beginning of a loop's body takes a turn.
use Rattle.std.specs.Prelude.{ℕ, ◌+◌, zero, suc, Bool, true, false, List, Option, Some, None}
use Rattle.tree_meaning.specs.Outcomes.{Store, Done, Gives, OutOfTurns, ◌andthen◌, Meaning, Evaluation, skip, is_true, turn}
use Rattle.tree_meaning.specs.declared.way.Way.{Way}
use Rattle.tree_meaning.specs.declared.way.Way.TheVariants.{GoesOn, Breaks, Continues, Returns}
use Rattle.tree_meaning.specs.Statements.{block, then_next}

-- behind a loop's body: `break` ends the loop, and `continue` goes on to its next pass (6.8.6.2p2, 6.8.6.3p2)
abbrev pub after_body : Meaning → Way → Store → Done Way
after_body again GoesOn s = again s
after_body again Breaks s = Gives GoesOn s
after_body again Continues s = again s
after_body again Returns s = Gives Returns s

-- the body is done, and then what comes behind it, where the condition is other than 0
abbrev pub pass : Meaning → Meaning → Bool → Store → Done Way
pass body behind true s = turn s (λ s'. body s' andthen after_body behind)
pass body behind false s = Gives GoesOn s

-- While the condition is other than 0, the body is done and then the step. There are no more passes than turns, so that
-- the number bounds nothing.
unfoldable pub passes : ℕ → Evaluation → Meaning → Meaning → Meaning
passes zero test body step s = OutOfTurns
passes (suc n) test body step s = test s andthen λ v s'. pass body (λ s''. step s'' andthen then_next (passes n test body step)) (is_true v) s'

-- `while` (6.8.5.1)
abbrev pub while_loop : Evaluation → Meaning → Meaning
while_loop test body s = passes (s.turns + 1) test body skip s

abbrev pub again_if : Meaning → Bool → Store → Done Way
again_if again true s = again s
again_if again false s = Gives GoesOn s

-- `do`: the condition is evaluated behind the body (6.8.5.2)
unfoldable pub do_passes : ℕ → Meaning → Evaluation → Meaning
do_passes zero body test s = OutOfTurns
do_passes (suc n) body test s = pass body (λ s'. test s' andthen λ v s''. again_if (do_passes n body test) (is_true v) s'') true s

abbrev pub do_loop : Meaning → Evaluation → Meaning
do_loop body test s = do_passes (s.turns + 1) body test s

-- a condition that isn't there is other than 0 (6.8.5.3p2)
abbrev pub test_or : Option Evaluation → Evaluation
test_or None s = Gives 1 s
test_or (Some test) s = test s

abbrev pub step_or : Option Meaning → Meaning
step_or None s = skip s
step_or (Some step) s = step s

-- `for`: its declarations or its first expression, and then the loop (6.8.5.3p1)
abbrev pub for_loop : List Meaning → Option Evaluation → Option Meaning → Meaning → Meaning
for_loop first test step body s = block first s andthen then_next (λ s'. passes (s'.turns + 1) (test_or test) body (step_or step) s')
