-- Which words name an integer type (ISO/IEC 9899:2011, 6.7.2p2, 7.20.1.1 and 7.19p2).
-- Public contracts rest on this.
use Rattle.std.specs.Prelude.{ℕ, Bool, true, false, ◌&&◌, ◌==◌, List, [], ◌∷◌, length, count_by, Option}
use Rattle.std.specs.List.{list_all}
use Rattle.std.specs.Map.{lookup}
use Rattle.std.specs.Str.{bytes_eq}
use Rattle.c_values.specs.declared.kinds.Kind.{Kind}
use Rattle.c_parse.specs.declared.sign.TypeWord.{TypeWord}
use Rattle.c_parse.specs.declared.sign.TypeWord.TheVariants as words
use Rattle.c_parse.specs.Signs.{type_spelling}

-- how often a word is among some: words are the same where they are spelled the same
abbrev pub times : TypeWord → List TypeWord → ℕ
times w ws = count_by (λ x. bytes_eq (type_spelling x) (type_spelling w)) ws

-- the same words, each as often, in any order
abbrev pub are_same_words : List TypeWord → List TypeWord → Bool
are_same_words ws vs = length ws == length vs && list_all (λ w. times w ws == times w vs) ws

abbrev pub signed : ℕ → Kind
signed width = record { width = width; signed = true }

abbrev pub unsigned : ℕ → Kind
unsigned width = record { width = width; signed = false }

-- the names of the kinds: the lists of type specifiers, and the names of `<stdint.h>` and `<stddef.h>`. By this profile
-- `char` alone has a sign (6.2.5p15), and `long` is as wide as `long long` (5.2.4.2.1).
abbrev pub named_kinds : List (List TypeWord × Kind)
named_kinds =
    (words.Char ∷ [], signed 8) ∷
    (words.Signed ∷ words.Char ∷ [], signed 8) ∷
    (words.Unsigned ∷ words.Char ∷ [], unsigned 8) ∷
    (words.Short ∷ [], signed 16) ∷
    (words.Signed ∷ words.Short ∷ [], signed 16) ∷
    (words.Short ∷ words.Int ∷ [], signed 16) ∷
    (words.Signed ∷ words.Short ∷ words.Int ∷ [], signed 16) ∷
    (words.Unsigned ∷ words.Short ∷ [], unsigned 16) ∷
    (words.Unsigned ∷ words.Short ∷ words.Int ∷ [], unsigned 16) ∷
    (words.Int ∷ [], signed 32) ∷
    (words.Signed ∷ [], signed 32) ∷
    (words.Signed ∷ words.Int ∷ [], signed 32) ∷
    (words.Unsigned ∷ [], unsigned 32) ∷
    (words.Unsigned ∷ words.Int ∷ [], unsigned 32) ∷
    (words.Long ∷ [], signed 64) ∷
    (words.Signed ∷ words.Long ∷ [], signed 64) ∷
    (words.Long ∷ words.Int ∷ [], signed 64) ∷
    (words.Signed ∷ words.Long ∷ words.Int ∷ [], signed 64) ∷
    (words.Unsigned ∷ words.Long ∷ [], unsigned 64) ∷
    (words.Unsigned ∷ words.Long ∷ words.Int ∷ [], unsigned 64) ∷
    (words.Long ∷ words.Long ∷ [], signed 64) ∷
    (words.Signed ∷ words.Long ∷ words.Long ∷ [], signed 64) ∷
    (words.Long ∷ words.Long ∷ words.Int ∷ [], signed 64) ∷
    (words.Signed ∷ words.Long ∷ words.Long ∷ words.Int ∷ [], signed 64) ∷
    (words.Unsigned ∷ words.Long ∷ words.Long ∷ [], unsigned 64) ∷
    (words.Unsigned ∷ words.Long ∷ words.Long ∷ words.Int ∷ [], unsigned 64) ∷
    (words.Int8 ∷ [], signed 8) ∷
    (words.Int16 ∷ [], signed 16) ∷
    (words.Int32 ∷ [], signed 32) ∷
    (words.Int64 ∷ [], signed 64) ∷
    (words.Uint8 ∷ [], unsigned 8) ∷
    (words.Uint16 ∷ [], unsigned 16) ∷
    (words.Uint32 ∷ [], unsigned 32) ∷
    (words.Uint64 ∷ [], unsigned 64) ∷
    (words.Size ∷ [], unsigned 64) ∷
    []

-- the kind that words name: type specifiers may stand in any order
unfoldable pub kind_of : List TypeWord → Option Kind
kind_of ws = lookup (λ name. are_same_words name ws) named_kinds
