-- An automaton that is taken along entries.
use Rattle.std.proofs.Common.{◌≡◌, ℕ, zero, suc, ◌+◌, ◌*◌, ◌≤◌, ◌<◌, ◌↔◌, Bool, true, false, cond, List, [], ◌∷◌, ◌++◌, length, map, take, Result, Ok, Err, Some, IfOk, refl, sym, ap, subst, ◌∙◌, arith}
use Rattle.std.specs.Prelude.{slice_get}
use Rattle.std.proofs.lemmas.List.{append-nil, map-append, take_all, take_more}
use Rattle.std.proofs.lemmas.List.Elements.{filter-append}
use Rattle.std.proofs.lemmas.Option.{get_or_from_slice_get, slice_get_within}
use Rattle.automata.specs.Reach.{steps_after}
use Rattle.automata.specs.Standing.{HasMatch, IsReach, Stands}
use Rattle.automata.specs.declared.nfa.Nfa.{Nfa}
use Rattle.automata.specs.declared.reach_bits.ReachBits.{ReachBits}
use Rattle.bit_words.proofs.Steps.{grows_then}
use Rattle.bit_words.specs.Words.{Grows}
use Rattle.cfa.specs.Each.{Each}
use Rattle.circuit.specs.Truth.{World}
use Rattle.circuit.specs.Wires.{IsWire, lit_holds}
use Rattle.circuit.specs.declared.lit.Gate.{Gate}
use Rattle.circuit.specs.declared.lit.Lit.{Lit}
use Rattle.patterns.specs.Match.{Form, Step}
use Rattle.patterns.specs.declared.letter.Letter.{Letter}
use Rattle.unwinder.specs.Lists.{entries_in}
use Rattle.unwinder.specs.declared.unwound.Entry.{Entry}
use Rattle.goal_formula.specs.Hitting.{FirstHolds}
use Rattle.goal_formula.specs.Parts.{IsMatchBit}
use Rattle.goal_formula.specs.Steps.{HasWires, entry_step, steps_in}
use Rattle.goal_formula.proofs.StepLaws.{step_still}

-- what the first entry tells, and then those that hold
abbrev pub begun_steps : List Gate → World → List Entry → List (Step Letter)
begun_steps gates w [] = []
begun_steps gates w (e ∷ es) = entry_step gates w e ∷ steps_in gates es w

module _ (gates : List Gate) (w : World) where
  one_more : (s : Step Letter) (ys : List Entry) (e : Entry) (b : Bool) → steps_after b (s ∷ map (entry_step gates w) ys) (entry_step gates w e) ≡ s ∷ map (entry_step gates w) (ys ++ cond b (e ∷ []) [])
  one_more s ys e true = ap (λ zs. s ∷ zs) (sym (map-append (entry_step gates w) ys (e ∷ [])))
  one_more s ys e false = ap (λ zs. s ∷ map (entry_step gates w) zs) (sym (append-nil ys))

  begun_push : (xs : List Entry) (e : Entry) → 0 < length xs → steps_after (lit_holds gates e.guard w) (begun_steps gates w xs) (entry_step gates w e) ≡ begun_steps gates w (xs ++ e ∷ [])
  begun_push [] e some = absurd (omega arith)
  begun_push (x ∷ xs) e some =
      one_more (entry_step gates w x) (entries_in gates xs w) e (lit_holds gates e.guard w)
      ∙ ap (λ es. entry_step gates w x ∷ map (entry_step gates w) es) (sym (filter-append (λ (y : Entry). lit_holds gates y.guard w) xs (e ∷ [])))

  pub begun_more : (entries : List Entry) (at : ℕ) (e : Entry) → slice_get entries at ≡ Some e → 1 ≤ at → steps_after (lit_holds gates e.guard w) (begun_steps gates w (take at entries)) (entry_step gates w e) ≡ begun_steps gates w (take (at + 1) entries)
  begun_more entries at e there some =
      let lt = slice_get_within entries at e there in
      let more : take (at + 1) entries ≡ take at entries ++ e ∷ [] = take_more entries at e lt ∙ ap (λ x. take at entries ++ x ∷ []) (get_or_from_slice_get entries at e e there) in
      begun_push (take at entries) e (taken_some entries at some (omega arith)) ∙ ap (begun_steps gates w) (sym more)
    where
      taken_some : (xs : List Entry) (n : ℕ) → 1 ≤ n → 0 < length xs → 0 < length (take n xs)
      taken_some xs zero le lt = absurd (omega arith)
      taken_some [] (suc n) le lt = absurd (omega arith)
      taken_some (x ∷ xs) (suc n) le lt = omega arith

  pub begun_all : (entries : List Entry) → FirstHolds gates entries w → begun_steps gates w entries ≡ steps_in gates entries w
  begun_all [] h = refl
  begun_all (e ∷ es) h = ap (λ b. map (entry_step gates w) (cond b (e ∷ entries_in gates es w) (entries_in gates es w))) (sym (h e refl))

-- An automaton was taken along the first entries, over a circuit that has grown by so many gates for each.
pub record IsTakenTo (gates : ℕ) (old now : List Gate) (nfa : Nfa Letter) (reach : ReachBits Lit) (entries : List Entry) (at : ℕ) : Type 0 where
  pub grows : Grows old now (gates * at)
  pub reach_is : IsReach {T = List Gate} {B = Lit} IsWire lit_holds true now nfa reach
  pub stands : Stands {T = List Gate} {B = Lit} lit_holds now nfa reach (λ w. begun_steps old w (take at entries))

times_one : (k : ℕ) → k ≡ k * 1
times_one k = omega arith

pub times_more : (k n : ℕ) → k * n + k ≡ k * (n + 1)
times_more k n = grind arith

module _ (gates : ℕ) (old : List Gate) (nfa : Nfa Letter) (entries : List Entry) (wires : Each entries (λ k e. HasWires old e)) where
  pub taken_first : (now : List Gate) (reach : ReachBits Lit) (e : Entry) → slice_get entries 0 ≡ Some e → Grows old now gates → IsReach {T = List Gate} {B = Lit} IsWire lit_holds true now nfa reach → Stands {T = List Gate} {B = Lit} lit_holds now nfa reach (λ w. entry_step old w e ∷ [])
      → IsTakenTo gates old now nfa reach entries 1
  taken_first now reach e there grows is stands = record {
    grows = subst (Grows old now) (times_one gates) grows;
    reach_is = is;
    stands = subst (Stands {T = List Gate} {B = Lit} lit_holds now nfa reach) (λ i w. first_steps entries there w i) stands;
  }
    where
      first_steps : (es : List Entry) → slice_get es 0 ≡ Some e → (w : World) → entry_step old w e ∷ [] ≡ begun_steps old w (take 1 es)
      first_steps [] h w = absurd cc
      first_steps (x ∷ es) h w = let same : x ≡ e = cc in ap (λ y. entry_step old w y ∷ []) (sym same)

  pub taken_more : (now new : List Gate) (reach more : ReachBits Lit) (at : ℕ) (e : Entry) → slice_get entries at ≡ Some e → 1 ≤ at → IsTakenTo gates old now nfa reach entries at → Grows now new gates → IsReach {T = List Gate} {B = Lit} IsWire lit_holds true new nfa more
      → ((path : World → List (Step Letter)) → Stands {T = List Gate} {B = Lit} lit_holds now nfa reach path → Stands {T = List Gate} {B = Lit} lit_holds new nfa more (λ w. steps_after (lit_holds now e.guard w) (path w) (entry_step now w e)))
      → IsTakenTo gates old new nfa more entries (at + 1)
  taken_more now new reach more at e there some t grows is stands =
      let own = wires at e there in
      let same : (w : World) → steps_after (lit_holds now e.guard w) (begun_steps old w (take at entries)) (entry_step now w e) ≡ begun_steps old w (take (at + 1) entries) =
      λ w. ap (λ b. steps_after b (begun_steps old w (take at entries)) (entry_step now w e)) (t.grows.older.same e.guard own.guard w)
      ∙ ap (steps_after (lit_holds old e.guard w) (begun_steps old w (take at entries))) (step_still old now w e t.grows.older own)
      ∙ begun_more old w entries at e there some in
      record {
        grows = subst (Grows old new) (times_more gates at) (grows_then t.grows grows);
        reach_is = is;
        stands = subst (Stands {T = List Gate} {B = Lit} lit_holds new nfa more) (λ i w. same w i) (stands (λ w. begun_steps old w (take at entries)) t.stands);
      }

  -- what is accepted at the end
  pub taken_all : (now new : List Gate) (reach : ReachBits Lit) (at : ℕ) (pattern : Form Letter) (first last : Bool) (l : Lit) → length entries ≤ at → IsTakenTo gates old now nfa reach entries at → new ≡ now → IsWire new l
      → ((path : World → List (Step Letter)) → Stands {T = List Gate} {B = Lit} lit_holds now nfa reach path → (w : World) → (lit_holds new l w ≡ true) ↔ HasMatch pattern first last (path w))
      → IsMatchBit old new entries pattern first last l
  taken_all now new reach at pattern first last l end t same wire value = record {
    wire = wire;
    value = λ w holds.
        let all : begun_steps old w (take at entries) ≡ steps_in old entries w = ap (begun_steps old w) (take_all at entries end) ∙ begun_all old w entries holds in
        subst (λ (steps : List (Step Letter)). (lit_holds new l w ≡ true) ↔ HasMatch pattern first last steps) all (value (λ v. begun_steps old v (take at entries)) t.stands w);
  }

  pub taken_ok : {E : Type 0} (now new : List Gate) (reach : ReachBits Lit) (at : ℕ) (pattern : Form Letter) (first last : Bool) (r : Result Lit E) → length entries ≤ at → IsTakenTo gates old now nfa reach entries at → new ≡ now → IfOk r (IsWire new)
      → ((path : World → List (Step Letter)) → Stands {T = List Gate} {B = Lit} lit_holds now nfa reach path → IfOk r (λ l. (w : World) → (lit_holds new l w ≡ true) ↔ HasMatch pattern first last (path w)))
      → IfOk r (IsMatchBit old new entries pattern first last)
  taken_ok now new reach at pattern first last (Ok l) end t same wire value = taken_all now new reach at pattern first last l end t same wire value
  taken_ok now new reach at pattern first last (Err e) end t same wire value = tt
