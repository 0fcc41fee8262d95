use Rattle.std.proofs.Common.{◌≡◌, ◌∙◌, sym, true, false, get_or, pos}
use Rattle.std.proofs.lemmas.Int.{to_z-of_z}
use Rattle.cnf.proofs.literal_marks.MarksLaws.{has_literal-more}
use Rattle.cnf.proofs.literal_marks.PlacesLaws.{literal_fits}
use Rattle.search.specs.Chains.{skips}
use Rattle.search.proofs.ChainLaws.{others_added, others_kept}
use Rattle.search.proofs.LookLaws.{has_at}
use Rattle.search.proofs.MinimizingLaws.{others_front, others_last, wider_more, wider_then}
use Rattle.search.proofs.minimizing.add_others_found.Goals as goal
use Rattle.search.proofs.minimizing.add_others_found.Goals.{then-not-is_skipped+in_ok-add_found, else-not-is_skipped}

pub loop-literal-preserved : goal.loop-literal-preserved
loop-literal-preserved c =
    let i = c.loop-literal.literal-index in
    let x = get_or c.args.literals.now i (pos 0) in
    let here = has_at c.args.literals.now i c.loop-literal-test.true in
    let x_fits = to_z-of_z _ _ (literal_fits x (c.requires.over x here).0.1) in
    let told : c.is_skipped.result ≡ skips c.args.skipped x = rw x_fits at c.is_skipped.ensures in
    let before = c.loop-literal.invariant in
    elim c.if-not-is_skipped.branch [
      | then-not-is_skipped+in_ok-add_found w ↦
          let free : skips c.args.skipped x ≡ false = sym told ∙ w.if-not-is_skipped.true in
          let gives = rw x_fits at w.add_found.ensures.marks in
          let widens = rw x_fits at w.in_ok-add_found.ensures.wider in
          rw (w.marks-is, w.chain-is) record {
            size = w.add_found.ensures.size ∙ before.size;
            marks = λ y. others_added c.args.skipped x y _ _ _ _ free (before.marks y) (gives y) ∙ rw (has_literal-more c.args.literals.now i y c.loop-literal-test.true);
            start = w.in_ok-add_found.ensures.start ∙ before.start;
            low = w.in_ok-add_found.ensures.low ∙ before.low;
            steps = w.in_ok-add_found.ensures.steps ∙ before.steps;
            wider = wider_then _ _ _ _ _ _ _ _ _ before.wider widens (others_front c.args.literals.now i c.loop-literal-test.true c.args.skipped)
                (others_last c.args.literals.now i c.loop-literal-test.true c.args.skipped free);
          }
      | else-not-is_skipped w ↦
          let own : skips c.args.skipped x ≡ true = sym told ∙ w.if-not-is_skipped.false in
          rw (w.marks-is, w.chain-is) record {
            size = before.size;
            marks = λ y. others_kept c.args.skipped x y _ _ _ own (before.marks y) ∙ rw (has_literal-more c.args.literals.now i y c.loop-literal-test.true);
            start = before.start;
            low = before.low;
            steps = before.steps;
            wider = wider_more _ _ _ _ _ _ before.wider (others_front c.args.literals.now i c.loop-literal-test.true c.args.skipped);
          }
    ]
