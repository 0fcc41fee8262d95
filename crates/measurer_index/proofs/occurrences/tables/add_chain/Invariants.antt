use Rattle.std.proofs.Common.{◌-◌, ℕ, length}
use Rattle.measurer_index.specs.occurrences.Places.{IsNext}
use Rattle.measurer_index.proofs.occurrences.Groups.{IsChainTo}
use Rattle.measurer_index.proofs.occurrences.tables.add_chain.Given as goal

abbrev pub invariant-loop-place : goal.invariant-loop-place
invariant-loop-place l = (x : ℕ) → IsNext l.numbers x 0 l.first → IsChainTo l.numbers x l.initial.places.items l.places.items l.place

abbrev pub decreases-loop-place : goal.decreases-loop-place
decreases-loop-place l = length l.numbers - l.place
