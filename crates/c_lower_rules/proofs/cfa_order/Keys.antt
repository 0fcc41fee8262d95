-- The key of a frame: the ranks and counters of its loops, and then the rank of its place.
use Rattle.std.proofs.Common.{◌≡◌, ℕ, suc, ◌<◌, ◌≤◌, Bool, true, false, List, [], ◌∷◌, ◌++◌, take, length, refl, sym, ap, subst, ◌∙◌, inl, inr, arith, length-append}
use Rattle.std.specs.Prelude.{◌≢◌, min}
use Rattle.std.specs.List.{All, AllByRecursion}
use Rattle.std.proofs.lemmas.List.{take_all, length-take-le}
use Rattle.std.proofs.lemmas.List.Elements.{recursion_from_All}
use Rattle.cfa.specs.Contexts.{last_raised, entered, turned}
use Rattle.c_lower_rules.specs.cfa_order.Order.{Standing, GoesOn, Enters, TurnsBack, Resumes, Moves}
use Rattle.c_lower_rules.proofs.cfa_order.Lists.{Less}

abbrev pub frame_key : List ℕ → List ℕ → ℕ → List ℕ
frame_key [] cs r = r ∷ []
frame_key (h ∷ hs) [] r = h ∷ []
frame_key (h ∷ hs) (c ∷ cs) r = h ∷ c ∷ frame_key hs cs r

-- on to a greater rank, in as many loops or fewer
forward : (ts left cs : List ℕ) (r s : ℕ) → r < s → AllByRecursion (λ h. h ≤ r) (ts ++ left) → length cs ≡ length (ts ++ left) → Less (frame_key (ts ++ left) cs r) (frame_key ts (take (length ts) cs) s)
forward [] [] cs r s lt heads long = inl lt
forward [] (h ∷ left) [] r s lt heads long = absurd (omega arith)
forward [] (h ∷ left) (c ∷ cs) r s lt heads long = inl (omega (arith, heads.0))
forward (t ∷ ts) left [] r s lt heads long = absurd (omega arith)
forward (t ∷ ts) left (c ∷ cs) r s lt heads long = inr (refl, inr (refl, forward ts left cs r s lt heads.1 (omega arith)))

-- into a loop
inward : (hs cs : List ℕ) (r s : ℕ) → r < s → length cs ≡ length hs → Less (frame_key hs cs r) (frame_key (hs ++ s ∷ []) (cs ++ 0 ∷ []) s)
inward [] [] r s lt long = inl lt
inward [] (c ∷ cs) r s lt long = absurd (omega arith)
inward (h ∷ hs) [] r s lt long = absurd (omega arith)
inward (h ∷ hs) (c ∷ cs) r s lt long = inr (refl, inr (refl, inward hs cs r s lt (omega arith)))

-- back in the innermost loop
again : (outer cs : List ℕ) (h r s : ℕ) → length cs ≡ length (outer ++ h ∷ []) → Less (frame_key (outer ++ h ∷ []) cs r) (frame_key (outer ++ h ∷ []) (last_raised cs) s)
again [] [] h r s long = absurd (omega arith)
again [] (c ∷ []) h r s long = inr (refl, inl (omega arith))
again [] (c ∷ d ∷ cs) h r s long = absurd (omega arith)
again (o ∷ outer) [] h r s long = absurd (omega arith)
again (o ∷ outer) (c ∷ []) h r s long = absurd (omega (arith, length-append outer (h ∷ [])))
again (o ∷ outer) (c ∷ d ∷ cs) h r s long = inr (refl, inr (refl, again outer (d ∷ cs) h r s (omega arith)))

length-raised : (cs : List ℕ) → length (last_raised cs) ≡ length cs
length-raised [] = refl
length-raised (c ∷ []) = refl
length-raised (c ∷ d ∷ cs) = ap suc (length-raised (d ∷ cs))

-- on behind a call
resumed : (hs cs : List ℕ) (r s : ℕ) → r < s → length cs ≡ length hs → Less (frame_key hs cs r) (frame_key hs cs s)
resumed [] cs r s lt long = inl lt
resumed (h ∷ hs) [] r s lt long = absurd (omega arith)
resumed (h ∷ hs) (c ∷ cs) r s lt long = inr (refl, inr (refl, resumed hs cs r s lt (omega arith)))

-- The key rises from one standing with its counters to another, which has as many counters as loops.
pub record Moved (a b : Standing) (cs ds : List ℕ) : Type 0 where
  pub less : Less (frame_key a.loops cs a.rank) (frame_key b.loops ds b.rank)
  pub long : length ds ≡ length b.loops

went_on : (a b : Standing) (cs : List ℕ) (n : ℕ) → GoesOn a b → All (λ h. h ≤ a.rank) a.loops → length cs ≡ length a.loops → n ≡ length b.loops → Moved a b cs (take n cs)
went_on a b cs n g heads long few =
    let heads' : AllByRecursion (λ h. h ≤ a.rank) (b.loops ++ g.left) = recursion_from_All (λ h. h ≤ a.rank) _ (subst (All (λ h. h ≤ a.rank)) g.loops heads) in
    let core : Less (frame_key (b.loops ++ g.left) cs a.rank) (frame_key b.loops (take (length b.loops) cs) b.rank) = forward b.loops g.left cs a.rank b.rank g.rises heads' (long ∙ ap length g.loops) in
    record { less = rw (g.loops, few) core; long = rw few (length-take-le (length b.loops) cs (omega (arith, ap length g.loops, length-append b.loops g.left))) }

entered_at : (a b : Standing) (cs : List ℕ) → Enters a b → length cs ≡ length a.loops → Moved a b cs (cs ++ 0 ∷ [])
entered_at a b cs g long = record {
  less = rw g.loops (inward a.loops cs a.rank b.rank g.rises long);
  long = omega (arith, ap length g.loops, length-append a.loops (b.rank ∷ []), length-append cs (0 ∷ []));
}

turned_back : (a b : Standing) (cs : List ℕ) → TurnsBack a b → length cs ≡ length a.loops → Moved a b cs (last_raised cs)
turned_back a b cs g long = record {
  less = rw (g.same, g.loops) (again g.outer cs b.rank a.rank b.rank (long ∙ ap length g.loops));
  long = length-raised cs ∙ long ∙ sym (ap length g.same);
}

pub moved : (enter back : Bool) (a b : Standing) (cs : List ℕ) (m n : ℕ) → m ≡ length a.loops → n ≡ length b.loops → Moves enter back a b → All (λ h. h ≤ a.rank) a.loops → length cs ≡ length a.loops → Moved a b cs (turned back (entered enter (take (min m n) cs)))
moved false false a b cs m n em en g heads long =
    went_on a b cs (min m n) g heads long (omega (arith, ap length g.loops, length-append b.loops g.left))
moved true false a b cs m n em en g heads long =
    let whole : take (min m n) cs ≡ cs = take_all (min m n) cs (omega (arith, ap length g.loops, length-append a.loops (b.rank ∷ []))) in
    rw whole (entered_at a b cs g long)
moved false true a b cs m n em en g heads long =
    let whole : take (min m n) cs ≡ cs = take_all (min m n) cs (omega (arith, ap length g.same)) in
    rw whole (turned_back a b cs g long)
moved true true a b cs m n em en g heads long = absurd g

pub resumes : (a b : Standing) (cs : List ℕ) → Resumes a b → length cs ≡ length a.loops → Moved a b cs cs
resumes a b cs g long = record {
  less = rw g.same (resumed a.loops cs a.rank b.rank g.rises long);
  long = long ∙ sym (ap length g.same);
}

-- a back edge has a counter
pub has_counter : (enter : Bool) (a b : Standing) (cs : List ℕ) (m n : ℕ) → m ≡ length a.loops → n ≡ length b.loops → Moves enter true a b → length cs ≡ length a.loops → entered enter (take (min m n) cs) ≢ []
has_counter true a b cs m n em en g long = absurd g
has_counter false a b cs m n em en g long =
    let whole : take (min m n) cs ≡ cs = take_all (min m n) cs (omega (arith, ap length g.same)) in
    rw whole (some cs (omega (arith, ap length g.loops, length-append g.outer (b.rank ∷ []))))
  where
    some : (xs : List ℕ) → 0 < length xs → xs ≢ []
    some [] h = absurd (omega arith)
    some (x ∷ xs) h = λ e. cc
