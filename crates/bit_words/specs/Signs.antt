-- A number from its sign and its magnitude.
use Rattle.std.specs.Prelude.{ℕ, ℤ, pos, neg_ℤ, Bool, if◌then◌else◌}

abbrev pub signed_number : Bool → ℕ → ℤ
signed_number negative n = if negative then neg_ℤ (pos n) else pos n
