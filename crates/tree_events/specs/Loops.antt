-- What happens in loops (ISO/IEC 9899:2011, 6.8.5). Each beginning of a loop's body takes a turn.
use Rattle.std.specs.Prelude.{ℕ, ◌+◌, zero, suc, Bool, true, false, List, Option, Some, None}
use Rattle.tree_events.specs.declared.edge_events.event.What.TheVariants.{Enters, Again, Always}
use Rattle.tree_meaning.specs.Outcomes.{Store, OutOfTurns}
use Rattle.tree_meaning.specs.declared.way.Way.{Way}
use Rattle.tree_meaning.specs.declared.way.Way.TheVariants.{GoesOn, Breaks, Continues, Returns}
use Rattle.tree_events.specs.Outcomes.{Told, silent, gives, behind, ◌thence◌, turn, Meaning, Deciding, skip, At, happens}
use Rattle.tree_events.specs.Statements.{sequence, then_next}

-- behind a loop's body: `break` ends the loop, and `continue` goes on to its next pass (6.8.6.2p2, 6.8.6.3p2)
abbrev pub after_body : Meaning → Way → Store → Told Way
after_body again GoesOn s = again s
after_body again Breaks s = gives GoesOn s
after_body again Continues s = again s
after_body again Returns s = gives Returns s

-- the body is done, and then what comes behind it, where the condition is true
abbrev pub pass : Meaning → Meaning → Bool → Store → Told Way
pass body next true s = turn s (λ s'. body s' thence after_body next)
pass body next false s = gives GoesOn s

-- a loop goes back
abbrev pub again_at : At → Meaning → Meaning
again_at at next s = behind (happens at Again) (next s)

-- While the condition is true, the body is done and then the step. There are no more passes than turns, so that the number
-- bounds nothing.
unfoldable pub passes : At → ℕ → Deciding → Meaning → Meaning → Meaning
passes at zero test body step s = silent OutOfTurns
passes at (suc n) test body step s = test s thence pass body (λ s'. step s' thence then_next (again_at at (passes at n test body step)))

-- control comes to a loop
abbrev pub entering : At → Meaning → Meaning
entering at loop s = behind (happens at Enters) (loop s)

-- `while` (6.8.5.1)
abbrev pub while_loop : At → Deciding → Meaning → Meaning
while_loop at test body s = entering at (passes at (s.turns + 1) test body skip) s

abbrev pub again_if : Meaning → Bool → Store → Told Way
again_if again true s = again s
again_if again false s = gives GoesOn s

-- `do`: the condition is decided behind the body (6.8.5.2)
unfoldable pub do_passes : At → ℕ → Meaning → Deciding → Meaning
do_passes at zero body test s = silent OutOfTurns
do_passes at (suc n) body test s = pass body (λ s'. test s' thence again_if (again_at at (do_passes at n body test))) true s

abbrev pub do_loop : At → Meaning → Deciding → Meaning
do_loop at body test s = entering at (do_passes at (s.turns + 1) body test) s

-- a condition that isn't there is true (6.8.5.3p2)
abbrev pub test_or : At → Option Deciding → Deciding
test_or at None s = behind (happens at Always) (gives true s)
test_or at (Some test) s = test s

abbrev pub step_or : Option Meaning → Meaning
step_or None s = skip s
step_or (Some step) s = step s

-- `for`: its declarations or its first expression, and then the loop (6.8.5.3p1)
abbrev pub for_loop : At → List Meaning → Option Deciding → Option Meaning → Meaning → Meaning
for_loop at first test step body s = sequence first s thence then_next (λ s'. entering at (passes at (s'.turns + 1) (test_or at test) body (step_or step)) s')
