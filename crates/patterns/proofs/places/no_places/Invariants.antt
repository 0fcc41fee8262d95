use Rattle.std.proofs.Common.{◌≡◌, false, All, length}
use Rattle.patterns.proofs.places.no_places.Given as goal

abbrev pub invariant-loop : goal.invariant-loop
invariant-loop l = record { size : length l.places.items ≡ l.counter; none : All (λ place. place ≡ false) l.places.items }
