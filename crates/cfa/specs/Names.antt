-- Functions and variables by their names.
use Rattle.std.specs.Prelude.{◌≡◌, ℕ, ◌+◌, ◌*◌, ◌/◌, ◌%◌, ◌^◌, bit_xor, Bool, List, Option, Vec, find, fold}
use Rattle.std.specs.declared.alloc.Global.{Global}
use Rattle.std.specs.BTreeMap.{BTreeMap, get_by}
use Rattle.std.specs.Cmp.Lexicographic.{slice_cmp}
use Rattle.std.specs.List.{position}
use Rattle.std.specs.Ordering.{nat_cmp}
use Rattle.std.specs.Str.{bytes_eq}
use Rattle.cfa.specs.declared.parts.Function.{Function}
use Rattle.cfa.specs.declared.parts.Variable.{Variable}

-- the least number of a function with this name
abbrev pub first_named : List Function → List ℕ → Option ℕ
first_named functions name = position (λ f. bytes_eq f.name name) functions

-- a map from names to numbers, read by a name's bytes
abbrev pub number_at : BTreeMap (Vec ℕ Global) ℕ → List ℕ → Option ℕ
number_at names name = get_by (λ k. slice_cmp nat_cmp name k.items) names

-- each name's number is that of the first function with the name
abbrev pub AreFirstNumbers : List Function → BTreeMap (Vec ℕ Global) ℕ → Type 0
AreFirstNumbers functions names = (name : List ℕ) → number_at names name ≡ first_named functions name

-- ---- variables

-- a variable has this name
abbrev pub is_named : List ℕ → Variable → Bool
is_named name v = bytes_eq v.name name

-- what a name stands for among variables, the innermost first: an outer one of the name is hidden (ISO/IEC 9899:2011, 6.2.1p4)
abbrev pub visible : List ℕ → List Variable → Option Variable
visible name vs = find (is_named name) vs

-- a name stands for the same among these variables and among those
abbrev pub SeesAs : List Variable → List Variable → Type 0
SeesAs vs ws = (name : List ℕ) → visible name ws ≡ visible name vs

-- ---- hashes

abbrev pub spread : ℕ → ℕ → ℕ
spread hash byte = (((hash + byte) % 2 ^ 64) * 11400714819323198485) % 2 ^ 64

abbrev pub hashed : ℕ → ℕ → ℕ
hashed hash byte = bit_xor (spread hash byte) (spread hash byte / 2 ^ 32)

-- the hash of a name
abbrev pub hash_of : List ℕ → ℕ
hash_of name = fold hashed 0 name
