-- Variables of different names in a search tree by the bits of the names' hashes. No public contract rests on it.
use Rattle.std.specs.Prelude.{◌≡◌, ℕ, Bool, true, false, ◌==◌, bit_and, if◌then◌else◌, List, [], Option, Some, None}
use Rattle.std.specs.declared.alloc.Global.{Global}
use Rattle.std.specs.declared.rc.Rc.{Rc}
use Rattle.cfa.specs.declared.parts.Variable.{Variable}
use Rattle.cfa.specs.Names.{hash_of, is_named, visible}

-- the variables of a part of a tree
abbrev pub in_part : Option (Rc (List Variable) Global) → List Variable
in_part None = []
in_part (Some tree) = tree.value

-- a hash hasn't the bit that tells the parts of a fork apart
abbrev pub is_low : ℕ → ℕ → Bool
is_low place hash = bit_and hash place == 0

-- A fork has the hash of its variable's name; a name whose hash hasn't the fork's bit isn't in its high part, and any other
-- isn't in its low one.
pub record IsFork (place hash : ℕ) (variable : Variable) (low high : List Variable) : Type 0 where
  pub own : hash ≡ hash_of variable.name
  pub low_alone : (name : List ℕ) → is_low place (hash_of name) ≡ true → visible name high ≡ None
  pub high_alone : (name : List ℕ) → is_low place (hash_of name) ≡ false → visible name low ≡ None

-- the variables are visible as among others, but for one more, which hides the one of its name
abbrev pub HasAlso : List Variable → Variable → List Variable → Type 0
HasAlso others v vs = (name : List ℕ) → visible name vs ≡ (if is_named name v then Some v else visible name others)
