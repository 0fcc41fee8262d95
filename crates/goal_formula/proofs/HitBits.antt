-- The literal of a goal, of the literals of its parts.
use Rattle.std.proofs.Common.{◌≡◌, ℕ, suc, Bool, true, false, ◌&&◌, ◌||◌, cond, List, [], ◌∷◌, map, Some, None, Result, Ok, Err, IfOk, refl, sym, ap, subst, ◌∙◌, arith}
use Rattle.std.specs.List.{list_any}
use Rattle.bit_words.proofs.Steps.{grows_then, same}
use Rattle.bit_words.proofs.Values.{yes_holds}
use Rattle.bit_words.specs.Words.{Grows}
use Rattle.cfa.specs.Each.{Each}
use Rattle.circuit.specs.Sharing.{yes_lit}
use Rattle.circuit.specs.Truth.{World, Extends}
use Rattle.circuit.specs.Wires.{IsWire, lit_holds}
use Rattle.circuit.specs.declared.lit.Gate.{Gate}
use Rattle.circuit.specs.declared.lit.Lit.{Lit}
use Rattle.goals.specs.declared.plan.PassingPattern.{PassingPattern}
use Rattle.goals.specs.declared.plan.Plan.{Plan}
use Rattle.patterns.specs.Letters.{form}
use Rattle.patterns.specs.Match.{Form}
use Rattle.patterns.specs.declared.letter.Letter.{Letter}
use Rattle.unwinder.specs.Lists.{entries_in}
use Rattle.unwinder.specs.declared.unwound.Entry.{Entry}
use Rattle.goal_formula.specs.Hitting.{FirstHolds, MeetsPassing}
use Rattle.goal_formula.specs.Parts.{IsHitBit, IsMatchBit, IsPassingBit}
use Rattle.goal_formula.specs.Steps.{HasWires, entry_step, steps_in}
use Rattle.goal_formula.proofs.Ends.{ends_at, ends_held}
use Rattle.goal_formula.proofs.StepLaws.{step_still, wires_still}

-- ---- entries after more gates

pub entries_still : (old new : List Gate) (entries : List Entry) → Extends IsWire lit_holds old new → Each entries (λ k e. HasWires old e) → Each entries (λ k e. HasWires new e)
entries_still old new entries more h k e there = wires_still old new e more (h k e there)

module _ (old new : List Gate) (w : World) (more : Extends IsWire lit_holds old new) where
  pub steps_still : (entries : List Entry) → Each entries (λ k e. HasWires old e) → steps_in new entries w ≡ steps_in old entries w
  steps_still [] h = refl
  steps_still (e ∷ es) h =
      ap (λ b. map (entry_step new w) (cond b (e ∷ entries_in new es w) (entries_in new es w))) (more.same e.guard (h 0 e refl).guard w)
      ∙ by (lit_holds old e.guard w) (steps_still es (λ k x there. h (suc k) x there))
    where
      by : (b : Bool) → steps_in new es w ≡ steps_in old es w → map (entry_step new w) (cond b (e ∷ entries_in new es w) (entries_in new es w)) ≡ map (entry_step old w) (cond b (e ∷ entries_in old es w) (entries_in old es w))
      by true rest = λ i. step_still old new w e more (h 0 e refl) i ∷ rest i
      by false rest = rest

  pub ends_still : (entries : List Entry) → Each entries (λ k e. HasWires old e) → list_any (ends_at new w) entries ≡ list_any (ends_at old w) entries
  ends_still [] h = refl
  ends_still (e ∷ es) h =
      let own = h 0 e refl in
      let here : ends_at new w e ≡ ends_at old w e = λ i. more.same e.guard own.guard w i && more.same e.ended own.ended w i in
      let rest = ends_still es (λ k x there. h (suc k) x there) in
      λ i. here i || rest i

  pub first_still : (entries : List Entry) → Each entries (λ k e. HasWires old e) → FirstHolds old entries w → FirstHolds new entries w
  first_still entries h first e there = more.same e.guard (h 0 e there).guard w ∙ first e there

-- ---- three literals

all_three : (a b c : Bool) → ((a && b) && c) ≡ true → (a ≡ true) × (b ≡ true) × (c ≡ true)
all_three true true true h = (refl, refl, refl)
all_three true true false h = absurd cc
all_three true false c h = absurd cc
all_three false b c h = absurd cc

from_three : (a b c : Bool) → a ≡ true → b ≡ true → c ≡ true → ((a && b) && c) ≡ true
from_three a b c p q r = λ i. (p i && q i) && r i

module _ (c0 c1 c2 c3 c4 c5 : List Gate) (n1 n2 n3 n4 n5 : ℕ) (entries : List Entry) (plan : Plan) (pattern : Form Letter) (own passing end both all : Lit)
    (wires : Each entries (λ k e. HasWires c0 e)) (g1 : Grows c0 c1 n1) (g2 : Grows c1 c2 n2) (g3 : Grows c2 c3 n3) (g4 : Grows c3 c4 n4) (g5 : Grows c4 c5 n5)
    (own_bit : IsMatchBit c0 c1 entries pattern plan.first plan.last own) (passing_bit : IsPassingBit c1 c2 entries plan.passing passing)
    (end_wire : IsWire c3 end) (end_value : (w : World) → lit_holds c3 end w ≡ list_any (ends_at c2 w) entries)
    (both_wire : IsWire c4 both) (both_value : (w : World) → lit_holds c4 both w ≡ (lit_holds c3 own w && lit_holds c3 passing w))
    (all_wire : IsWire c5 all) (all_value : (w : World) → lit_holds c5 all w ≡ (lit_holds c4 both w && lit_holds c4 end w)) where
  abbrev counted : World → Bool
  counted w = list_any (λ (e : Entry). lit_holds c0 e.ended w) (entries_in c0 entries w)

  value_is : (w : World) → lit_holds c5 all w ≡ ((lit_holds c1 own w && lit_holds c2 passing w) && counted w)
  value_is w =
      all_value w
      ∙ ap (λ b. b && lit_holds c4 end w) (both_value w ∙ (λ i. same (grows_then g2 g3) own own_bit.wire w i && same g3 passing passing_bit.wire w i))
      ∙ ap (λ b. (lit_holds c1 own w && lit_holds c2 passing w) && b)
      (same g4 end end_wire w ∙ end_value w ∙ ends_still c0 c2 w (grows_then g1 g2).older entries wires ∙ ends_held c0 w entries)

  pub hit_bit : IsHitBit c0 c5 entries plan pattern all
  hit_bit = record {
    wire = all_wire;
    value = λ w first.
        let goal_is = own_bit.value w first in
        let passing_is = passing_bit.value w (first_still c0 c1 w g1.older entries wires first) in
        let steps = steps_still c0 c1 w g1.older entries wires in (
          λ holds.
              let parts = all_three (lit_holds c1 own w) (lit_holds c2 passing w) (counted w) (sym (value_is w) ∙ holds) in
              record {
                counted = parts.2;
                goal_matches = goal_is.0 parts.0;
                passing_matches = subst (MeetsPassing plan.passing) steps (passing_is.0 parts.1);
              },
          λ h.
              value_is w
              ∙ from_three (lit_holds c1 own w) (lit_holds c2 passing w) (counted w) (goal_is.1 h.goal_matches)
              (passing_is.1 (subst (MeetsPassing plan.passing) (sym steps) h.passing_matches)) h.counted,
        );
  }

-- and where it was made
module _ (c0 c1 c2 c3 c4 c5 : List Gate) (n1 n2 n3 n4 n5 : ℕ) (entries : List Entry) (plan : Plan) (pattern : Form Letter) (own passing end both : Lit)
    (wires : Each entries (λ k e. HasWires c0 e)) (g1 : Grows c0 c1 n1) (g2 : Grows c1 c2 n2) (g3 : Grows c2 c3 n3) (g4 : Grows c3 c4 n4) (g5 : Grows c4 c5 n5)
    (own_bit : IsMatchBit c0 c1 entries pattern plan.first plan.last own) (passing_bit : IsPassingBit c1 c2 entries plan.passing passing)
    (end_wire : IsWire c3 end) (end_value : (w : World) → lit_holds c3 end w ≡ list_any (ends_at c2 w) entries)
    (both_wire : IsWire c4 both) (both_value : (w : World) → lit_holds c4 both w ≡ (lit_holds c3 own w && lit_holds c3 passing w)) where
  pub hit_ok : {E : Type 0} (r : Result Lit E) → IfOk r (IsWire c5) → IfOk r (λ all. (w : World) → lit_holds c5 all w ≡ (lit_holds c4 both w && lit_holds c4 end w)) → IfOk r (IsHitBit c0 c5 entries plan pattern)
  hit_ok (Ok all) wire value = hit_bit c0 c1 c2 c3 c4 c5 n1 n2 n3 n4 n5 entries plan pattern own passing end both all wires g1 g2 g3 g4 g5 own_bit passing_bit end_wire end_value both_wire both_value wire value
  hit_ok (Err e) wire value = tt

-- ---- the passing clause

-- an absent one is met always
pub always_met : (gates : List Gate) (entries : List Entry) → IsPassingBit gates gates entries None yes_lit
always_met gates entries = record {
  wire = omega arith;
  value = λ w first. (λ h. tt, λ h. yes_holds gates w);
}

pub met_where_matched : (old new : List Gate) (entries : List Entry) (p : PassingPattern) (l : Lit) → IsMatchBit old new entries (form p.pattern) p.first p.last l → IsPassingBit old new entries (Some p) l
met_where_matched old new entries p l h = record { wire = h.wire; value = h.value }
