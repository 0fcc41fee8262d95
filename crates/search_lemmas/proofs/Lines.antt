-- Lines that stand on clauses with marks.
use Rattle.std.proofs.Common.{◌≡◌, ℕ, zero, suc, ◌+◌, ◌-◌, ◌≤◌, ◌<◌, Bool, true, List, [], ◌∷◌, ◌++◌, length, take, map, get_or, Option, Some, sym, ◌∙◌, ap, subst, arith, append_assoc, length-append}
use Rattle.std.specs.Prelude.{ℤ, slice_get, IfSome}
use Rattle.std.proofs.lemmas.List.{length-map, length-take-le, map-append, take_all, take_more}
use Rattle.std.proofs.lemmas.List.Elements.{All-weaker}
use Rattle.std.proofs.lemmas.Option.{slice_get-get_or}
use Rattle.circuit.specs.declared.lit.Gate.{Gate}
use Rattle.cnf.specs.Checks.{IsRight, IsRightAt, clauses_before, numbered}
use Rattle.cnf.specs.declared.derivation.Derivation.{Derivation}
use Rattle.cnf.specs.declared.derivation.DerivationLine.{DerivationLine}
use Rattle.cnf.specs.declared.formula.Formula.{Formula}
use Rattle.search_lemmas.specs.Holding.{IsKnown, variable_value}
use Rattle.search_lemmas.specs.Known.{AreKnown, IsMarked, StandsOn}
use Rattle.search_lemmas.proofs.Truth.{IsTrueAt, line_true}

pub marked_known : (gates : List Gate) (wires : List (Option ℕ)) (earlier : List (List ℤ)) (marks : List Bool) (number : ℕ) (clause : List ℤ)
    → AreKnown gates wires earlier marks → IsMarked marks number → numbered earlier number ≡ Some clause → IsKnown gates wires clause
marked_known gates wires earlier marks zero clause known marked at = absurd (omega (arith, marked.0))
marked_known gates wires earlier marks (suc n) clause known marked at =
    let place : suc n - 1 ≡ n = omega arith in
    known n clause at (ap (slice_get marks) (sym place) ∙ marked.1)

pub line_known : (gates : List Gate) (wires : List (Option ℕ)) (earlier : List (List ℤ)) (marks : List Bool) (line : DerivationLine)
    → AreKnown gates wires earlier marks → StandsOn marks line → IsRight earlier line → IsKnown gates wires line.clause
line_known gates wires earlier marks line known stands right = λ w.
    let value = variable_value gates wires w in
    line_true value earlier line
    (λ clause at. marked_known gates wires earlier marks line.first clause known stands.first at w)
    (All-weaker (λ (step : ℕ × ℤ). IsMarked marks step.0) (λ (step : ℕ × ℤ). IsTrueAt value earlier step.0)
    (λ step marked clause at. marked_known gates wires earlier marks step.0 clause known marked at w) line.steps stands.steps)
    right

-- one clause more, with its mark
pub known_more : (gates : List Gate) (wires : List (Option ℕ)) (clauses : List (List ℤ)) (marks : List Bool) (clause : List ℤ) (mark : Bool)
    → length marks ≡ length clauses → AreKnown gates wires clauses marks → (mark ≡ true → IsKnown gates wires clause) → AreKnown gates wires (clauses ++ clause ∷ []) (marks ++ mark ∷ [])
known_more gates wires [] [] clause mark size known own zero c at marked = let e : clause ≡ c = cc in let f : mark ≡ true = cc in subst (IsKnown gates wires) e (own f)
known_more gates wires [] [] clause mark size known own (suc k) c at marked = absurd cc
known_more gates wires [] (m ∷ marks) clause mark size known own k c at marked = absurd (omega (arith, size))
known_more gates wires (d ∷ clauses) [] clause mark size known own k c at marked = absurd (omega (arith, size))
known_more gates wires (d ∷ clauses) (m ∷ marks) clause mark size known own zero c at marked = known zero c at marked
known_more gates wires (d ∷ clauses) (m ∷ marks) clause mark size known own (suc k) c at marked =
    known_more gates wires clauses marks clause mark (omega (arith, size)) (λ j. known (suc j)) own k c at marked

-- one line more
pub before_more : (formula : Formula) (derivation : Derivation) (i : ℕ) (line : DerivationLine) → i < length derivation.lines → line ≡ get_or derivation.lines i line
    → clauses_before formula derivation (i + 1) ≡ clauses_before formula derivation i ++ line.clause ∷ []
before_more formula derivation i line lt is =
    let taken : take (i + 1) derivation.lines ≡ take i derivation.lines ++ line ∷ [] = take_more derivation.lines i line lt ∙ ap (λ (l : DerivationLine). take i derivation.lines ++ l ∷ []) (sym is) in
    ap (λ ls. formula.clauses ++ map (λ (l : DerivationLine). l.clause) ls) taken
    ∙ ap (λ cs. formula.clauses ++ cs) (map-append (λ (l : DerivationLine). l.clause) (take i derivation.lines) (line ∷ []))
    ∙ sym (append_assoc formula.clauses (map (λ (l : DerivationLine). l.clause) (take i derivation.lines)) (line.clause ∷ []))

right_here : (earlier : List (List ℤ)) (o : Option DerivationLine) (line : DerivationLine) → o ≡ Some line → IfSome o (IsRight earlier) → IsRight earlier line
right_here earlier o line e h = let there : IfSome (Some line) (IsRight earlier) = subst (λ (x : Option DerivationLine). IfSome x (IsRight earlier)) e h in there

pub right_line : (formula : Formula) (derivation : Derivation) (i : ℕ) (line : DerivationLine) → i < length derivation.lines → line ≡ get_or derivation.lines i line → IsRightAt formula derivation i → IsRight (clauses_before formula derivation i) line
right_line formula derivation i line lt is right =
    right_here (clauses_before formula derivation i) (slice_get derivation.lines i) line (slice_get-get_or derivation.lines i line lt ∙ ap Some (sym is)) right

pub size_before : (formula : Formula) (derivation : Derivation) (i : ℕ) → i ≤ length derivation.lines → length (clauses_before formula derivation i) ≡ length formula.clauses + i
size_before formula derivation i le =
    length-append formula.clauses (map (λ (l : DerivationLine). l.clause) (take i derivation.lines))
    ∙ ap (λ n. length formula.clauses + n) (length-map (take i derivation.lines) (λ (l : DerivationLine). l.clause) ∙ length-take-le i derivation.lines le)

-- all lines
pub all_before : (formula : Formula) (derivation : Derivation) (i : ℕ) → length derivation.lines ≤ i → clauses_before formula derivation i ≡ clauses_before formula derivation (length derivation.lines)
all_before formula derivation i le =
    let own : length derivation.lines ≤ length derivation.lines = omega arith in
    ap (λ ls. formula.clauses ++ map (λ (l : DerivationLine). l.clause) ls) (take_all i derivation.lines le ∙ sym (take_all (length derivation.lines) derivation.lines own))
