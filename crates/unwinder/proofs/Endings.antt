-- Ends of runs that count, by what literals tell of the ways of a step.
use Rattle.std.proofs.Common.{◌≡◌, ℕ, zero, suc, ◌<◌, ◌≤◌, Bool, true, false, not, List, [], ◌∷◌, length, get_or, Some, refl, sym, ap, ◌∙◌, arith}
use Rattle.std.specs.Prelude.{◌||◌, slice_get}
use Rattle.std.specs.List.{list_any}
use Rattle.std.proofs.lemmas.Bool.{eq-eqb}
use Rattle.circuit.specs.Truth.{World}
use Rattle.circuit.specs.Wires.{IsWire, lit_holds}
use Rattle.circuit.specs.declared.lit.Gate.{Gate}
use Rattle.bit_words.proofs.Values.{yes_holds, no_holds}
use Rattle.cfa.specs.Each.{Each}
use Rattle.cfa.proofs.Exits.{taken}
use Rattle.c_meaning.specs.declared.ends.Ends.{Ends}
use Rattle.c_meaning.specs.declared.ends.Ends.TheVariants as counted
use Rattle.c_meaning.specs.declared.stepped.Stepped.{Stepped}
use Rattle.c_meaning.specs.declared.stepped.Stepped.TheVariants.{Moved, Returned, Trapped, Blocked, TooDeep}
use Rattle.c_meaning.specs.Runs.{counts}
use Rattle.sym_expr.specs.declared.sym_steps.state.SymStep.{SymStep}
use Rattle.sym_expr.specs.declared.sym_steps.state.Way.{Way}
use Rattle.sym_expr.specs.sym_steps.Steps.{Tells}

-- one of the ways is taken in a world
abbrev goes_on : List Gate → List Way → World → Bool
goes_on gates ways w = list_any (λ (way : Way). lit_holds gates way.taken w) ways

-- ---- at most two ways

pub no_way : (gates : List Gate) (ways : List Way) → length ways < 1 → (w : World) → lit_holds gates (record { wire = 0; negated = true }) w ≡ goes_on gates ways w
no_way gates [] h w = no_holds gates w
no_way gates (way ∷ ways) h w = absurd (omega arith)

pub one_way_wire : (gates : List Gate) (ways : List Way) (d : Way) → Each ways (λ k way. IsWire gates way.taken) → 1 ≤ length ways → IsWire gates (get_or ways 0 d).taken
one_way_wire gates [] d h lt = absurd (omega arith)
one_way_wire gates (way ∷ ways) d h lt = h 0 way refl

or_false : (b : Bool) → b ≡ (b || false)
or_false true = refl
or_false false = refl

pub two_ways : (gates : List Gate) (ways : List Way) (d : Way) → 2 ≤ length ways → length ways ≤ 2 → (w : World) → (lit_holds gates (get_or ways 0 d).taken w || lit_holds gates (get_or ways 1 d).taken w) ≡ goes_on gates ways w
two_ways gates [] d lt few w = absurd (omega arith)
two_ways gates (way ∷ []) d lt few w = absurd (omega arith)
two_ways gates (way ∷ other ∷ []) d lt few w = ap (λ b. lit_holds gates way.taken w || b) (or_false (lit_holds gates other.taken w))
two_ways gates (way ∷ other ∷ third ∷ ways) d lt few w = absurd (omega arith)

-- ---- where a run goes on

or_true : (b : Bool) → (b || true) ≡ true
or_true true = refl
or_true false = refl

goes : (gates : List Gate) (ways : List Way) (w : World) (k : ℕ) (way : Way) → slice_get ways k ≡ Some way → lit_holds gates way.taken w ≡ true → goes_on gates ways w ≡ true
goes gates [] w k way e is = absurd (cc)
goes gates (first ∷ ways) w zero way e is = let same : first ≡ way = cc in ap (λ (q : Way). lit_holds gates q.taken w || goes_on gates ways w) same ∙ ap (λ b. b || goes_on gates ways w) is
goes gates (first ∷ ways) w (suc k) way e is = ap (λ b. lit_holds gates first.taken w || b) (goes gates ways w k way e is) ∙ or_true (lit_holds gates first.taken w)

stops : (gates : List Gate) (ways : List Way) (w : World) → Each ways (λ k way. lit_holds gates way.taken w ≡ false) → goes_on gates ways w ≡ false
stops gates [] w h = refl
stops gates (way ∷ ways) w h = ap (λ b. b || goes_on gates ways w) (h 0 way refl) ∙ stops gates ways w (λ k q e. h (suc k) q e)

-- ---- the ends that count

pub returned_counts : (gates : List Gate) (t : SymStep) (ends : Ends) (w : World) (next : Stepped) → t.returns ≡ true → Tells gates t w next → lit_holds gates (record { wire = 0; negated = false }) w ≡ counts ends next
returned_counts gates t ends w (Returned value) is tells = yes_holds gates w
returned_counts gates t ends w (Moved at to) is tells = let r = tells.returns in absurd (cc)
returned_counts gates t ends w (Trapped trap) is tells = let r = tells.returns in absurd (cc)
returned_counts gates t ends w Blocked is tells = let r = tells.returns in absurd (cc)
returned_counts gates t ends w TooDeep is tells = let r = tells.returns in absurd (cc)

pub only_returned : (gates : List Gate) (t : SymStep) (ends : Ends) (w : World) (next : Stepped) → ends ≡ counted.Returned → t.returns ≡ false → Tells gates t w next → lit_holds gates (record { wire = 0; negated = true }) w ≡ counts ends next
only_returned gates t ends w next own is tells = no_holds gates w ∙ by next tells ∙ ap (λ e. counts e next) (sym own)
  where
    by : (next : Stepped) → Tells gates t w next → false ≡ counts counted.Returned next
    by (Returned value) tells = let r = tells.returns in absurd (cc)
    by (Moved at to) tells = refl
    by (Trapped trap) tells = refl
    by Blocked tells = refl
    by TooDeep tells = refl

pub any_end : (gates : List Gate) (t : SymStep) (ways : List Way) (ends : Ends) (w : World) (next : Stepped) → ways ≡ t.ways → ends ≡ counted.Any → t.returns ≡ false → Tells gates t w next → not (goes_on gates ways w) ≡ counts ends next
any_end gates t ways ends w next same own is tells = ap (λ qs. not (goes_on gates qs w)) same ∙ by next tells ∙ ap (λ e. counts e next) (sym own)
  where
    by : (next : Stepped) → Tells gates t w next → not (goes_on gates t.ways w) ≡ counts counted.Any next
    by (Returned value) tells = let r = tells.returns in absurd (cc)
    by (Moved at to) tells =
        let has = tells.onward in
        let way = taken (λ (q : Way). q.edge ≡ at) (slice_get t.ways has.0) has.1 in
        ap not (goes gates t.ways w has.0 way.0 way.1 (tells.ways has.0 way.0 way.1 ∙ eq-eqb way.0.edge at way.2))
    by (Trapped trap) tells = ap not (stops gates t.ways w tells.ways)
    by Blocked tells = ap not (stops gates t.ways w tells.ways)
    by TooDeep tells = ap not (stops gates t.ways w tells.ways)
