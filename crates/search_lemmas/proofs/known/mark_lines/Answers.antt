use Rattle.std.proofs.Common.{◌≡◌, ◌≤◌, ◌<◌, ◌++◌, ◌∷◌, [], length, get_or, sym, ap, subst, ◌∙◌, true, arith, length-append}
use Rattle.std.proofs.lemmas.List.{append-nil}
use Rattle.cnf.specs.Checks.{clauses_before}
use Rattle.search_lemmas.specs.Holding.{IsKnown}
use Rattle.search_lemmas.specs.Known.{AreKnown, StandsOn}
use Rattle.search_lemmas.proofs.Lines.{all_before, before_more, known_more, line_known, right_line, size_before}
use Rattle.search_lemmas.proofs.known.mark_lines.Goals as goal

pub loop-line-init : goal.loop-line-init
loop-line-init c =
    let size = c.requires.size in
    record {
      size = omega (arith, size);
      known = λ gates wires known. subst (λ cs. AreKnown gates wires cs c.args.marks.now.items) (sym (append-nil c.args.refutation.now.formula.now.clauses)) known;
    }

pub loop-line-preserved : goal.loop-line-preserved
loop-line-preserved c =
    let i = c.loop-line.line-index in
    let formula = c.args.refutation.now.formula.now in
    let derivation = c.args.refutation.now.derivation.now in
    let marks = c.loop-line.marks.items in
    let item = c.line-item.result in
    let shown = ap length c.deref-line-items.ensures in
    let lt : i < length derivation.lines = omega (arith, shown) in
    let is : item ≡ get_or derivation.lines i item = c.line-item.is ∙ ap (λ xs. get_or xs i item) c.deref-line-items.ensures in
    let earlier = clauses_before formula derivation i in
    let size = c.loop-line.invariant.size in
    let before = size_before formula derivation i (omega (arith, lt)) in
    let stands : c.stands-mark.result ≡ true → StandsOn marks item = λ yes. subst (λ ms. StandsOn ms item) c.deref.ensures.value (c.stands-mark.ensures yes) in
    let right = right_line formula derivation i item lt is (c.requires.right.0 i lt) in
    let pushed = c.in_ok-push.ensures.items in
    record {
      size = ap length pushed ∙ length-append marks (c.stands-mark.result ∷ []) ∙ omega (arith, size);
      known = λ gates wires known.
          let own : c.stands-mark.result ≡ true → IsKnown gates wires item.clause = λ yes. line_known gates wires earlier marks item (c.loop-line.invariant.known gates wires known) (stands yes) right in
          let more = known_more gates wires earlier marks item.clause c.stands-mark.result (size ∙ sym before) (c.loop-line.invariant.known gates wires known) own in
          subst (λ cs. AreKnown gates wires cs c.push.new.self.items) (sym (before_more formula derivation i item lt is)) (subst (AreKnown gates wires (earlier ++ item.clause ∷ [])) (sym pushed) more);
    }

pub returns : goal.returns
returns c = λ gates wires known.
    let i = c.loop-line.line-index in
    let shown = ap length c.deref-line-items.ensures in
    let le : length c.args.refutation.now.derivation.now.lines ≤ i = omega (arith, shown) in
    let same = all_before c.args.refutation.now.formula.now c.args.refutation.now.derivation.now i le in
    subst (λ cs. AreKnown gates wires cs c.loop-line.marks.items) same (c.loop-line.invariant.known gates wires known)
