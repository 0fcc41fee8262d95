-- Words in any case.
use Rattle.std.proofs.Common.{◌≡◌, ℕ, Bool, true, false, List, refl, sym}
use Rattle.std.specs.Prelude.{IsTrue, ◌↔◌, map}
use Rattle.std.specs.Char.{to_ascii_lowercase}
use Rattle.std.proofs.lemmas.Slice.Eq.{bytes_eq-Decides}
use Rattle.fql_tokens.specs.Spelling.{is_written}

same_test : (r s : Bool) (P : Type 0) → (IsTrue r ↔ P) → ((s ≡ true) → P) × (P → s ≡ true) → r ≡ s
same_test true true P h d = refl
same_test true false P h d = sym (d.1 (h.0 refl))
same_test false true P h d = h.1 (d.0 refl)
same_test false false P h d = refl

pub same_written : (r : Bool) (word text : List ℕ) → (IsTrue r ↔ (map to_ascii_lowercase word ≡ map to_ascii_lowercase text)) → r ≡ is_written word text
same_written r word text h = same_test r (is_written word text) _ h (bytes_eq-Decides (map to_ascii_lowercase word) (map to_ascii_lowercase text))
