-- Which variables the order of decisions lists.
use Rattle.std.specs.Prelude.{◌≡◌, ℕ, ℤ, true, List}
use Rattle.std.specs.Int.RustNames.{unsigned_abs}
use Rattle.search.specs.declared.trail.Entry.{Entry}
use Rattle.search.specs.Machine.{IsOver, is_open, is_true}
use Rattle.search.specs.Watching.{is_among}

-- each open variable is listed
abbrev pub AreListed : ℕ → List Entry → List ℕ → Type 0
AreListed n trail heap = (x : ℤ) → IsOver n x → is_open (is_true trail) x ≡ true → is_among (unsigned_abs x) heap ≡ true
