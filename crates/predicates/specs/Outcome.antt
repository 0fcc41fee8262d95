-- The predicates of texts beside an automaton, or the cause for which they are refused.
use Rattle.std.specs.Prelude.{◌≡◌, ◌<◌, ◌≤◌, ℕ, true, false, List, length, map, Result, Ok, Err}
use Rattle.fq_core.specs.declared.refusal.Fault.{Fault}
use Rattle.fq_core.specs.declared.refusal.Fault.TheVariants as fault
use Rattle.fq_core.specs.declared.refusal.Place.{Place}
use Rattle.fq_core.specs.declared.refusal.Place.TheVariants as place
use Rattle.c_parse.specs.declared.expr.ExprTree.{ExprTree}
use Rattle.cfa.specs.declared.parts.GraphParts.{GraphParts}
use Rattle.cfa.specs.declared.state.Predicates.{Predicates}
use Rattle.predicates.specs.Reading.{AreTreesOf, HasUnread}
use Rattle.predicates.specs.Typing.{all_typable, meanings_in}

-- the greatest number of predicates
abbrev pub most : ℕ
most = 64

module _ (parts : GraphParts) (texts : List (List ℕ)) where
  -- These are the predicates of the texts: there are at most 64, each text is read as a tree, each tree has an expression
  -- in the scope of some node, and the meanings of a predicate are those of its tree in the scopes.
  pub record ArePredicatesOf (p : Predicates) : Type 0 where
    pub few : length texts ≤ most
    pub trees : List ExprTree
    pub read : AreTreesOf texts trees
    pub typable : all_typable parts trees ≡ true
    pub same : p.texts ≡ texts
    pub meanings : p.meanings ≡ map (meanings_in parts.scopes) trees

  -- The texts are refused with this code, at this place, for the first cause that stands: there are more than 64; some
  -- text isn't read; some tree has an expression in no node's scope.
  pub data IsRefused : ℕ → Place → Type 0 where
    too_many : most < length texts → IsRefused 67 (place.Limit most)
    unread : length texts ≤ most → HasUnread texts → IsRefused 65 place.QueryWhole
    nowhere : (trees : List ExprTree) → length texts ≤ most → AreTreesOf texts trees → all_typable parts trees ≡ false
        → IsRefused 66 place.QueryWhole

  -- the answer on texts: their predicates, or the refusal, or want of memory
  abbrev pub IsOutcome : Result Predicates Fault → Type 0
  IsOutcome (Ok p) = ArePredicatesOf p
  IsOutcome (Err (fault.Refused r)) = IsRefused r.code r.place
  IsOutcome (Err fault.Memory) = Unit {0}
