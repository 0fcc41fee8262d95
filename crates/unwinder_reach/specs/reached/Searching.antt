-- What a search for the pairs that are reached keeps.
use Rattle.std.specs.Prelude.{◌≡◌, ◌⊎◌, ℕ, ◌+◌, ◌^◌, ◌<◌, ◌≤◌, ◌-◌, ◌*◌, Bool, true, false, List, [], ◌∷◌, ◌++◌, length, map, reverse, Contains, Option, Some, None, slice_get, nat_le, if◌then◌else◌}
use Rattle.cfa.specs.declared.parts.Edge.{Edge}
use Rattle.cfa.specs.declared.parts.Function.{Function}
use Rattle.cfa.specs.declared.parts.GraphParts.{GraphParts}
use Rattle.cfa.specs.Contexts.{Context, FrameContext, Pair, Follows, IsOnce, IsWithin, first_pair, frames_after, callers_of}
use Rattle.cfa.specs.declared.parts.Operation.{Operation}
use Rattle.cfa.specs.declared.parts.Operation.TheVariants.{Call, Return, Answer}
use Rattle.std.specs.List.{list_all}
use Rattle.std.specs.List.Sorted.{IsStrictlyIncreasing}
use Rattle.unwinder_reach.specs.declared.reached.bounds.Bounds.{Bounds}
use Rattle.unwinder_reach.specs.declared.reached.search.Open.{Open}
use Rattle.unwinder_reach.specs.declared.reached.step.Step.{Step}
use Rattle.unwinder_reach.specs.declared.reached.search.Search.{Search}
use Rattle.unwinder_reach.specs.declared.reached.search.Listed.{Listed}
use Rattle.unwinder_reach.specs.reached.Reaching.{edges_of, FollowsWithin, IsNextWithin, IsReachedWithin}

-- ---- steps

-- a counter or the number of answers is past every bound
abbrev pub IsPastBounds : Context → Type 0
IsPastBounds c = (turns frames answers : ℕ) → turns < 2 ^ 32 → answers < 2 ^ 32 → ¬ IsWithin turns frames answers c

-- some counter is 2^32
abbrev pub ArePastBounds : List FrameContext → Type 0
ArePastBounds [] = ⊥
ArePastBounds (f ∷ callers) = Contains f.counters (2 ^ 32)

abbrev pub frames_along_operation : GraphParts → ℕ → Edge → Operation → List FrameContext → List FrameContext
frames_along_operation parts at e (Call callee words arrays) fs = record { call = Some at; counters = [] } ∷ fs
frames_along_operation parts at e (Return call dest) fs = callers_of fs
frames_along_operation parts at e _ fs = frames_after parts e fs

-- the frames after an edge
abbrev pub frames_along : GraphParts → ℕ → Edge → List FrameContext → List FrameContext
frames_along parts at e fs = frames_along_operation parts at e e.operation fs

abbrev pub is_answer : Operation → Bool
is_answer (Answer input dest) = true
is_answer _ = false

-- the answers taken after an edge
abbrev pub taken_along : Edge → ℕ → ℕ
taken_along e taken = if is_answer e.operation then taken + 1 else taken

-- no counter of a frame is above the turns
abbrev pub keeps_turns : ℕ → FrameContext → Bool
keeps_turns turns f = list_all (λ n. nat_le n turns) f.counters

-- the call that the running frame comes from
abbrev pub running_call : List FrameContext → Option ℕ
running_call [] = None
running_call (f ∷ callers) = f.call

-- the return edge follows the call edge
abbrev pub return_after : Option ℕ → List ℕ
return_after None = []
return_after (Some call) = (call + 1) ∷ []

-- edges among which are all those that lead from a pair
abbrev pub AreWays : GraphParts → Pair → List ℕ → Type 0
AreWays parts p ways = (at : ℕ) (e : Edge) (q : Pair) → Follows parts at e p q → Contains ways at

-- the pair that follows along the edge of a number within the bounds, or that there is none
abbrev pub IsNextAlong : GraphParts → Bounds → ℕ → Pair → Option Pair → Type 0
IsNextAlong parts bounds at p None = (e : Edge) (q : Pair) → ¬ FollowsWithin parts bounds at e p q
IsNextAlong parts bounds at p (Some q) = (e : Edge) × FollowsWithin parts bounds at e p q

-- ---- keys

abbrev pub call_words : Option ℕ → List ℕ
call_words None = 0 ∷ []
call_words (Some call) = 1 ∷ call ∷ []

-- the call, how many counters there are, and these
abbrev pub frame_words : FrameContext → List ℕ
frame_words f = call_words f.call ++ length f.counters ∷ f.counters

-- a frame's entry in a table of frames: the number of its callers, and its words
abbrev pub entry_of : ℕ → FrameContext → List ℕ
entry_of callers f = callers ∷ frame_words f

-- Frames have a number in a table: 0 where there are none, and else 1 more than the place of the first one's entry, which
-- has the number of its callers.
abbrev pub AreNumbered : List (List ℕ) → List FrameContext → ℕ → Type 0
AreNumbered table [] n = n ≡ 0
AreNumbered table (f ∷ callers) n = (m : ℕ) × AreNumbered table callers m × (place : ℕ) × (n ≡ place + 1) × (slice_get table place ≡ Some (entry_of m f))

-- the words by which a pair is found again, whose frames have a number
abbrev pub key_by : ℕ → Pair → List ℕ
key_by n p = p.node ∷ p.context.taken ∷ n ∷ []

-- no entry is at two places
abbrev pub AreEntries : List (List ℕ) → Type 0
AreEntries table = (i j : ℕ) (w : List ℕ) → slice_get table i ≡ Some w → slice_get table j ≡ Some w → i ≡ j

-- a table has all that an earlier one had, at the same places, and no entry twice where that had none
pub record Extends (old new : List (List ℕ)) : Type 0 where
  pub stays : (i : ℕ) (w : List ℕ) → slice_get old i ≡ Some w → slice_get new i ≡ Some w
  pub entries : AreEntries old → AreEntries new

-- keys are those of pairs, one by one, by the numbers of their frames
pub record AreKeys (table keys : List (List ℕ)) (pairs : List Pair) : Type 0 where
  pub entries : AreEntries table
  pub long : length keys ≡ length pairs
  pub each : (i : ℕ) (p : Pair) → slice_get pairs i ≡ Some p → (n : ℕ) × AreNumbered table p.context.frames n × (slice_get keys i ≡ Some (key_by n p))

-- pairs have numbers of their frames, one by one
pub record HaveNumbers (table : List (List ℕ)) (pairs : List Pair) (numbers : List ℕ) : Type 0 where
  pub long : length numbers ≡ length pairs
  pub each : (i : ℕ) (p : Pair) → slice_get pairs i ≡ Some p → (n : ℕ) × (slice_get numbers i ≡ Some n) × AreNumbered table p.context.frames n

-- whether a key was added: at the end, unless it was there
abbrev pub IsAdded : Bool → List (List ℕ) → List ℕ → List (List ℕ) → Type 0
IsAdded true old key new = (¬ Contains old key) × (new ≡ old ++ key ∷ [])
IsAdded false old key new = Contains old key × (new ≡ old)

-- ---- the search

abbrev pub IsIn : {X : Type 0} → List X → X → Type 0
IsIn [] x = ⊥
IsIn (y ∷ ys) x = (y ≡ x) ⊎ IsIn ys x

-- no pair is there twice
abbrev pub IsApart : List Pair → Type 0
IsApart [] = Unit {0}
IsApart (p ∷ ps) = (¬ IsIn ps p) × IsApart ps

-- No pair is there twice, and each step within the bounds leads to a later pair.
abbrev pub IsOrdered : GraphParts → Bounds → List Pair → Type 0
IsOrdered parts bounds [] = Unit {0}
IsOrdered parts bounds (p ∷ ps) = (¬ IsIn ps p) × ((q : Pair) → IsNextWithin parts bounds p q → IsIn ps q) × IsOrdered parts bounds ps

-- pairs that are a walk within the bounds from the entry of a function, the last one first
abbrev pub IsTrail : GraphParts → Bounds → Function → List Pair → Type 0
IsTrail parts bounds f [] = Unit {0}
IsTrail parts bounds f (p ∷ []) = p ≡ first_pair f
IsTrail parts bounds f (q ∷ p ∷ ps) = IsNextWithin parts bounds p q × IsTrail parts bounds f (p ∷ ps)

-- the pairs on the way, the last one first
abbrev pub pairs_of : List Open → List Pair
pairs_of way = map (λ (o : Open). o.pair) way

-- a pair is finished or on the way
abbrev pub IsFound : List Pair → List Open → Pair → Type 0
IsFound done way p = IsIn done p ⊎ IsIn (pairs_of way) p

-- A search in depth. The pairs that are finished, the last one first, are in order. Those on the way, the last one first,
-- are a walk from the entry, and each of their steps was followed unless its edge is left, or it leads to the pair that
-- comes next.
pub record IsSearching (parts : GraphParts) (bounds : Bounds) (f : Function) (next : Option Pair) (done : List Pair) (way : List Open) (found : List Pair) : Type 0 where
  pub trail : IsTrail parts bounds f (pairs_of way)
  pub ordered : IsOrdered parts bounds done
  pub reached : (p : Pair) → IsIn done p → IsReachedWithin parts bounds f p
  pub apart : (p : Pair) → IsIn (pairs_of way) p → ¬ IsIn done p
  pub looked : (o : Open) → IsIn way o → (at : ℕ) (e : Edge) (q : Pair) → FollowsWithin parts bounds at e o.pair q → Contains o.ways at ⊎ (IsFound done way q ⊎ (next ≡ Some q))
  pub listed : (p : Pair) → IsFound done way p → IsIn found p
  pub known : (p : Pair) → IsIn found p → IsFound done way p
  pub counted : length found ≡ length done + length way
  pub few : length found ≤ 50000
  pub small : (o : Open) → IsIn way o → length o.ways < 2 ^ 64
  pub ends : way ≡ [] → next ≡ None → slice_get done 0 ≡ Some (first_pair f)

-- how many edges are left at the pair that was last on the way
abbrev pub ways_left : List Open → ℕ
ways_left [] = 0
ways_left (o ∷ way) = length o.ways

-- what a search has still to do, at most: pairs are found, then pairs are finished, then edges are followed
abbrev pub work_left : ℕ → List Open → ℕ
work_left found way = (50001 - found) * 2 ^ 66 + (length way * 2 ^ 64 + ways_left way)

-- A search from the entry of a function, in a graph in which no walk comes to a pair twice: its keys are those of the pairs
-- that were found, and the pairs that it holds have the numbers of their frames beside them.
pub record IsSearchOf (parts : GraphParts) (bounds : Bounds) (k : ℕ) (f : Function) (next : Option Pair) (s : Search) : Type 0 where
  pub function : slice_get parts.functions k ≡ Some f
  pub once : IsOnce parts
  pub found : List Pair
  pub searching : IsSearching parts bounds f next (reverse s.finished) (reverse s.way) found
  pub keys : AreKeys s.frames s.keys found
  pub numbers : HaveNumbers s.frames s.finished s.numbers
  pub on_way : (o : Open) → IsIn s.way o → AreNumbered s.frames o.pair.context.frames o.frames

-- a pair comes next in a search: it follows the pair that was last on the way, or it is the first
pub record ComesNext (parts : GraphParts) (bounds : Bounds) (k : ℕ) (f : Function) (q : Pair) (n : ℕ) (s : Search) : Type 0 where
  pub search : IsSearchOf parts bounds k f (Some q) s
  pub trail : IsTrail parts bounds f (q ∷ pairs_of (reverse s.way))
  pub begins : reverse s.way ≡ [] → s.keys ≡ []
  pub number : AreNumbered s.frames q.context.frames n

abbrev pub work_of : Search → ℕ
work_of s = work_left (length s.keys) (reverse s.way)

abbrev pub IsFunctionOf : GraphParts → Function → Type 0
IsFunctionOf parts f = (k : ℕ) × (slice_get parts.functions k ≡ Some f)

-- a search from the entry of a function of the graph, between two steps
abbrev pub IsBetween : GraphParts → Bounds → Function → Search → Type 0
IsBetween parts bounds f s = (k : ℕ) × IsSearchOf parts bounds k f None s

-- the pairs that are reached, so ordered that each step leads to a later one
pub record AreInOrder (parts : GraphParts) (bounds : Bounds) (f : Function) (pairs : List Pair) : Type 0 where
  pub first : slice_get pairs 0 ≡ Some (first_pair f)
  pub ordered : IsOrdered parts bounds pairs
  pub reached : (p : Pair) → IsIn pairs p → IsReachedWithin parts bounds f p
  pub few : length pairs ≤ 50000

-- pairs in order, with their keys and the numbers of their frames
pub record AreListed (parts : GraphParts) (bounds : Bounds) (f : Function) (l : Listed) : Type 0 where
  pub order : AreInOrder parts bounds f l.pairs.items
  pub entries : AreEntries l.frames
  pub numbers : HaveNumbers l.frames l.pairs.items l.numbers.items

-- ---- the steps of a pair

-- the step from a pair along the edge of a number within the bounds, or that there is none
abbrev pub IsStepAlong : GraphParts → Bounds → List Pair → Pair → ℕ → Option Step → Type 0
IsStepAlong parts bounds pairs p at None = (e : Edge) (q : Pair) → ¬ FollowsWithin parts bounds at e p q
IsStepAlong parts bounds pairs p at (Some s) = (s.edge ≡ at) × (e : Edge) × (q : Pair) × FollowsWithin parts bounds at e p q × (slice_get pairs s.to ≡ Some q)

-- a step within the bounds from a pair leads to the pair that has its number
abbrev pub LeadsWithin : GraphParts → Bounds → List Pair → Pair → Step → Type 0
LeadsWithin parts bounds pairs p s = (e : Edge) × (q : Pair) × FollowsWithin parts bounds s.edge e p q × (slice_get pairs s.to ≡ Some q)

-- a step along the edge of a number to a pair is in a list
abbrev pub HasStep : List Pair → List Step → ℕ → Pair → Type 0
HasStep pairs steps at q = (s : Step) × IsIn steps s × (s.edge ≡ at) × (slice_get pairs s.to ≡ Some q)

abbrev pub with_step : List Step → Option Step → List Step
with_step steps None = steps
with_step steps (Some s) = steps ++ s ∷ []

-- the steps from a pair along edges of these numbers, which rise
pub record AreStepsAlong (parts : GraphParts) (bounds : Bounds) (pairs : List Pair) (p : Pair) (ways : List ℕ) (steps : List Step) : Type 0 where
  pub each : (s : Step) → IsIn steps s → LeadsWithin parts bounds pairs p s
  pub along : (s : Step) → IsIn steps s → Contains ways s.edge
  pub all : (at : ℕ) → Contains ways at → (e : Edge) (q : Pair) → FollowsWithin parts bounds at e p q → HasStep pairs steps at q
  pub rising : IsStrictlyIncreasing (edges_of steps)

-- all steps from a pair, by rising number of the edge
pub record AreStepsTo (parts : GraphParts) (bounds : Bounds) (pairs : List Pair) (p : Pair) (steps : List Step) : Type 0 where
  pub each : (s : Step) → IsIn steps s → LeadsWithin parts bounds pairs p s
  pub all : (at : ℕ) (e : Edge) (q : Pair) → FollowsWithin parts bounds at e p q → HasStep pairs steps at q
  pub rising : IsStrictlyIncreasing (edges_of steps)

-- each step from a pair within the bounds leads to one of these pairs
abbrev pub StaysAmong : GraphParts → Bounds → List Pair → Pair → Type 0
StaysAmong parts bounds pairs p = (q : Pair) → IsNextWithin parts bounds p q → IsIn pairs q

-- a list of steps for each pair
pub record AreRows (parts : GraphParts) (bounds : Bounds) (pairs : List Pair) (rows : List (List Step)) : Type 0 where
  pub long : length rows ≡ length pairs
  pub each : (i : ℕ) (p : Pair) (row : List Step) → slice_get pairs i ≡ Some p → slice_get rows i ≡ Some row → AreStepsTo parts bounds pairs p row
