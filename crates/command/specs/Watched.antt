-- What a watch is shown.
use Rattle.std.specs.Prelude.{◌≡◌, List, Option}
use Rattle.search.specs.declared.watch.Watch.{Ghosts}
use Rattle.suite.specs.Generated.{Shown, seen_also}

-- what a watch had seen before a call, and after it, where that is told
pub record Watched : Type 0 where
  pub before : Option (List Shown)
  pub after : Option (List Shown)

abbrev pub watched : {W : Type 0} → Ghosts W → W → W → Watched
watched watch old new = record { before = watch.seen old; after = watch.seen new }

-- it was shown this, in order, and nothing else
abbrev pub IsShown : List Shown → Watched → Type 0
IsShown shown w = w.after ≡ seen_also w.before shown

-- it was shown nothing
abbrev pub IsShownNone : Watched → Type 0
IsShownNone w = w.after ≡ w.before
