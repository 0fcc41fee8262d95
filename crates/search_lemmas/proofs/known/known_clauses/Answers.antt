use Rattle.std.proofs.Common.{◌≡◌, ◌+◌, ◌≤◌, ◌<◌, ◌++◌, ◌∷◌, [], length, take, get_or, sym, ap, subst, ◌∙◌, true, arith, length-append}
use Rattle.std.proofs.lemmas.List.{length-take-le, take_all, take_more}
use Rattle.search_lemmas.specs.Holding.{IsKnown}
use Rattle.search_lemmas.specs.Known.{AreKnown}
use Rattle.search_lemmas.proofs.Lines.{known_more}
use Rattle.search_lemmas.proofs.known.known_clauses.Goals as goal

pub loop-place-preserved : goal.loop-place-preserved
loop-place-preserved c =
    let i = c.loop-place.place in
    let clauses = c.args.refutation.now.formula.now.clauses in
    let gates = c.args.held.now.circuit.now in
    let wires = c.args.wires.now in
    let item = c.clause-item.result in
    let shown = ap length c.deref-clause-items.ensures in
    let lt : i < length clauses = omega (arith, shown) in
    let is : item ≡ get_or clauses i item = c.clause-item.is ∙ ap (λ xs. get_or xs i item) c.deref-clause-items.ensures in
    let taken : take (i + 1) clauses ≡ take i clauses ++ item ∷ [] = take_more clauses i item lt ∙ ap (λ x. take i clauses ++ x ∷ []) (sym is) in
    let before = length-take-le i clauses (omega (arith, lt)) in
    let size = c.loop-place.invariant.size in
    let own : c.is_base-mark.result ≡ true → IsKnown gates wires item = λ yes. subst (IsKnown gates wires) c.literals.ensures.value (c.is_base-mark.ensures yes) in
    let more = known_more gates wires (take i clauses) c.loop-place.marks.items item c.is_base-mark.result (size ∙ sym before) c.loop-place.invariant.known own in
    let pushed = c.in_ok-push.ensures.items in
    record {
      size = ap length pushed ∙ length-append c.loop-place.marks.items (c.is_base-mark.result ∷ []) ∙ ap (λ n. n + 1) size;
      known = subst (λ cs. AreKnown gates wires cs c.push.new.self.items) (sym taken) (subst (AreKnown gates wires (take i clauses ++ item ∷ [])) (sym pushed) more);
    }

pub returns-clause-known : goal.returns-clause-known
returns-clause-known c =
    let i = c.loop-place.place in
    let clauses = c.args.refutation.now.formula.now.clauses in
    let shown = ap length c.deref-clause-items.ensures in
    let le : length clauses ≤ i = omega (arith, shown) in
    subst (λ cs. AreKnown c.args.held.now.circuit.now c.args.wires.now cs c.loop-place.marks.items) (take_all i clauses le) c.loop-place.invariant.known
