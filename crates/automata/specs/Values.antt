-- What bits say in one world.
use Rattle.std.specs.Prelude.{ℕ, ◌+◌, Bool, List, slice_index_or, false}
pub use Rattle.circuit.specs.Bits.{at}
use Rattle.patterns.specs.Match.{Step}
use Rattle.automata.specs.Tree.{Tree, nothing, empty, leaf, dot, either, many, maybe}

-- the truth of the letters, by number
abbrev pub seen : List Bool → List Bool → Step ℕ
seen edges states = record { edge = λ n. slice_index_or edges n false; state = λ n. slice_index_or states n false }

-- the most gates of one more beginning
abbrev pub enter_gates : Tree → ℕ
enter_gates nothing = 0
enter_gates empty = 0
enter_gates (leaf l) = 3
enter_gates (dot n a b) = enter_gates a + enter_gates b
enter_gates (either n a b) = enter_gates a + enter_gates b + 1
enter_gates (many a) = enter_gates a
enter_gates (maybe a) = enter_gates a

-- the most gates of one pass
abbrev pub pass_gates : Tree → ℕ
pass_gates nothing = 0
pass_gates empty = 0
pass_gates (leaf l) = 5
pass_gates (dot n a b) = pass_gates a + pass_gates b
pass_gates (either n a b) = pass_gates a + pass_gates b + 1
pass_gates (many a) = pass_gates a + enter_gates a + 1
pass_gates (maybe a) = pass_gates a + 1

-- the most gates of one step
abbrev pub step_gates : Tree → ℕ
step_gates t = pass_gates t + 4
