-- Words of a kind.
use Rattle.std.proofs.Common.{◌≡◌, ℕ, ◌%◌, ◌^◌, ◌<◌, List, [], ◌∷◌, pos, refl, sym, ap, ◌∙◌, arith}
use Rattle.std.proofs.Math.Nat.{mod-eq_of_lt, mod-le, mod-lt}
use Rattle.std.specs.Prelude.{IsTrue}
use Rattle.std.specs.List.{list_all}
use Rattle.c_meaning.specs.Starts.{fitted, fitted_words}
use Rattle.c_values.proofs.Bits.{low-wrapped}
use Rattle.c_values.proofs.Fitting.{IsValue-wrapped, and_left, and_right, pattern_of-number_of, value_parts, width_is, wrapped-number_of, wrapped-pattern_of}
use Rattle.c_values.proofs.Sums.{wrapped-from}
use Rattle.c_values.specs.Kind.{IsKind, IsValue, fit, is_kind, number_of, pattern_of, reading, residue, wrapped}
use Rattle.c_values.specs.declared.kinds.Kind.{Kind}
use Rattle.measurer_hits.specs.run_laws.Laws.{EqualModulo, FittedTwice, LeastWord, SameValue}

-- a value is what its kind has of it
wrapped-value : (kind : Kind) (v : ℕ) → IsValue kind v → wrapped kind (pos v) ≡ v
wrapped-value kind v h =
    let p = value_parts kind v h in
    wrapped-from kind (number_of kind v) v p.of_kind (pattern_of-number_of kind v p.pattern) ∙ wrapped-number_of kind v h

pub fitted-fitted : (kind : Kind) (word : ℕ) → IsKind kind → fitted kind (fitted kind word) ≡ fitted kind word
fitted-fitted kind word k = wrapped-value kind (fitted kind word) (IsValue-wrapped kind (pos word) k)

pub equal_modulo : EqualModulo
unfolding pattern_of residue
equal_modulo kind a b k e = sym (wrapped-pattern_of kind (pos a) k) ∙ ap (λ n. wrapped kind (pos n)) e ∙ wrapped-pattern_of kind (pos b) k

from_low : (kind : Kind) (a b : ℕ) → a % 2 ^ kind.width ≡ b % 2 ^ kind.width → fitted kind a ≡ fitted kind b
unfolding wrapped fit residue
from_low kind a b e = ap (λ n. pattern_of (reading kind.signed kind.width n)) e

to_low : (kind : Kind) (a b : ℕ) → IsKind kind → fitted kind a ≡ fitted kind b → a % 2 ^ kind.width ≡ b % 2 ^ kind.width
to_low kind a b k e = sym (low-wrapped kind a k) ∙ ap (λ n. n % 2 ^ kind.width) e ∙ low-wrapped kind b k

pub same_value : SameValue
same_value kind a b k = (to_low kind a b k, from_low kind a b)

pub least_word : LeastWord
least_word kind word k =
    let w = width_is kind k in
    let some : 0 < 2 ^ kind.width = omega (arith, w.halves, w.half) in (
      from_low kind (word % 2 ^ kind.width) word (mod-eq_of_lt (mod-lt word some)),
      λ other e. let same = to_low kind other word k e in let le = mod-le other (2 ^ kind.width) in omega (arith, same, le),
    )

words_twice : (words : List ℕ) (kinds : List Kind) → IsTrue (list_all is_kind kinds) → fitted_words (fitted_words words kinds) kinds ≡ fitted_words words kinds
words_twice [] kinds h = refl
words_twice (word ∷ words) [] h = refl
words_twice (word ∷ words) (kind ∷ kinds) h =
    let here = fitted-fitted kind word (and_left (is_kind kind) (list_all is_kind kinds) h) in
    let rest = words_twice words kinds (and_right (is_kind kind) (list_all is_kind kinds) h) in
    λ i. here i ∷ rest i

pub fitted_twice : FittedTwice
fitted_twice parts k f words graph there = words_twice words f.parameters (and_left (list_all is_kind f.parameters) _ (graph.rest.functions k f there).signature)
