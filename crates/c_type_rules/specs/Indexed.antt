-- What the tables of names, and of the values of `case`, keep.
use Rattle.std.specs.Prelude.{◌≡◌, ℕ, List, [], ◌∷◌, ◌++◌, Bool, Option, Some, None}
use Rattle.std.specs.Ordering.{nat_cmp}
use Rattle.std.specs.Cmp.Lexicographic.{slice_cmp}
use Rattle.std.specs.BTreeMap.{BTreeMap, get}
use Rattle.std.specs.BTreeSet.{BTreeSet, contains}
use Rattle.c_type_rules.specs.declared.scopes.Bound.{Bound}
use Rattle.c_type_rules.specs.Scopes.{last_place, name_place, has_case}

-- by place, the last earlier place of the same name
unfoldable pub shadows : List Bound → List Bound → List (Option ℕ)
shadows before [] = []
shadows before (b ∷ bs) = last_place before b.name ∷ shadows (before ++ b ∷ []) bs

-- each name is found at its last place, and behind it at its earlier ones
pub record IsIndexed (list : List Bound) (places : BTreeMap (List ℕ) ℕ) (shadowed : List (Option ℕ)) : Type 0 where
  pub found : (w : List ℕ) → get (slice_cmp nat_cmp) places w ≡ last_place list w
  pub earlier : shadowed ≡ shadows [] list

-- each name is found at its first place
pub record IsNamed (list : List (List ℕ)) (places : BTreeMap (List ℕ) ℕ) : Type 0 where
  pub found : (w : List ℕ) → get (slice_cmp nat_cmp) places w ≡ name_place list w

-- `default`, and each value of `case`, is there where it is one of the list
pub record AreCases (list : List (Option ℕ)) (has_default : Bool) (values : BTreeSet ℕ) : Type 0 where
  pub default : has_default ≡ has_case list None
  pub found : (v : ℕ) → contains nat_cmp values v ≡ has_case list (Some v)
