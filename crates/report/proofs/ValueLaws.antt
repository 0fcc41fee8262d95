-- What a word stands for in a kind.
use Rattle.std.proofs.Common.{◌≡◌, ℕ, ◌<◌, ◌^◌, true, false, refl, sym, pos, to_z, w64}
use Rattle.c_values.specs.declared.kinds.Kind.{Kind}
use Rattle.c_values.specs.Kind.{number_of}
use Rattle.c_values.proofs.Machine.{to_z-twos}

pub number_of-signed : (kind : Kind) (value : ℕ) → kind.signed ≡ true → value < 2 ^ 64 → number_of kind value ≡ to_z w64 value
unfolding number_of
number_of-signed kind value signed small = rw signed (sym (to_z-twos value small))

pub number_of-unsigned : (kind : Kind) (value : ℕ) → kind.signed ≡ false → number_of kind value ≡ pos value
unfolding number_of
number_of-unsigned kind value unsigned = rw unsigned refl
