-- What the gates of one place make of bits.
use Rattle.std.proofs.Common.{◌≡◌, Bool, true, false, not, ◌&&◌, ◌||◌, refl}
use Rattle.std.specs.Prelude.{if◌then◌else◌}
use Rattle.bit_words.specs.Rows.{xor}

pub sum_of_gates : (a b : Bool) → ((a || b) && not (a && b)) ≡ xor a b
sum_of_gates true true = refl
sum_of_gates true false = refl
sum_of_gates false true = refl
sum_of_gates false false = refl

pub chosen_of_gates : (t y n : Bool) → ((t && y) || (not t && n)) ≡ (if t then y else n)
chosen_of_gates true true n = refl
chosen_of_gates true false n = refl
chosen_of_gates false y n = refl

pub chosen_of_one : (t y : Bool) → y ≡ (if t then y else y)
chosen_of_one true y = refl
chosen_of_one false y = refl
