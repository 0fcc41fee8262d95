-- The ranges of the numbers in the words.
use Rattle.std.specs.Prelude.{◌≤◌}
use Rattle.command_words.specs.declared.requests.Bounds.{Bounds as AskedBounds}
use Rattle.command_words.specs.Request as asks
use Rattle.command_words.specs.Request.{Asked, measure, generate, goals, runs, prove, check, suffice, sample}
use Rattle.unwinder_reach.specs.declared.reached.bounds.Bounds.{Bounds}

-- the bounds that the words give
abbrev pub within : AskedBounds → Bounds
within b = record { turns = b.turns; frames = b.frames; answers = b.answers }

-- some frame, and at most 256 answers
abbrev pub AreBounds : AskedBounds → Type 0
AreBounds b = (1 ≤ b.frames) × (b.answers ≤ 256)

-- the bounds are within their ranges, goals are numbered from 1, and the size of a sample is from 1 to 200
abbrev pub IsInRange : Asked → Type 0
IsInRange (measure m) = Unit {0}
IsInRange (generate m) = AreBounds m.bounds
IsInRange (goals m) = Unit {0}
IsInRange (runs m) = Unit {0}
IsInRange (prove m) = AreBounds m.bounds × (1 ≤ m.goal)
IsInRange (check m) = AreBounds m.bounds × (1 ≤ m.goal)
IsInRange (suffice m) = AreBounds m.bounds
IsInRange (asks.prove_bounds m) = AreBounds m.bounds
IsInRange (asks.check_bounds m) = AreBounds m.bounds
IsInRange (asks.least m) = AreBounds m.bounds × (1 ≤ m.goal)
IsInRange (asks.traces m) = Unit {0}
IsInRange (asks.replay m) = Unit {0}
IsInRange (asks.trees m) = Unit {0}
IsInRange (asks.events m) = Unit {0}
IsInRange (asks.graph sources) = Unit {0}
IsInRange (sample number) = (1 ≤ number) × (number ≤ 200)
