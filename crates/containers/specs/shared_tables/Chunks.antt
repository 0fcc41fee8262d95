-- Lists in chunks of one length.
use Rattle.std.specs.Prelude.{◌≡◌, ℕ, ◌*◌, ◌≤◌, All, List, length, take}
use Rattle.containers.specs.Lists.{joined}

-- the first items of chunks, so many
abbrev pub items_of : {T : Type 0} → List (List T) → ℕ → List T
items_of chunks count = take count (joined chunks)

-- each chunk has 16 items, and all together have so many at least
pub record IsStored {T : Type 0} (chunks : List (List T)) (count : ℕ) : Type 0 where
  pub full : All (λ (chunk : List T). length chunk ≡ 16) chunks
  pub enough : count ≤ 16 * length chunks
