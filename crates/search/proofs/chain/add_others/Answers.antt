use Rattle.std.proofs.Common.{◌≡◌, ◌||◌, ◌∙◌, Bool, true, false, refl, sym, get_or, pos}
use Rattle.std.proofs.lemmas.Int.{to_z-of_z}
use Rattle.cnf.proofs.literal_marks.MarksLaws.{has_literal-more}
use Rattle.cnf.proofs.literal_marks.PlacesLaws.{literal_fits}
use Rattle.search.specs.Chains.{skips}
use Rattle.search.proofs.ChainLaws.{added_then, others_added, others_kept}
use Rattle.search.proofs.LookLaws.{has_at}
use Rattle.search.proofs.chain.add_others.Goals as goal
use Rattle.search.proofs.chain.add_others.Goals.{then-not-is_skipped+in_ok-add_literal, else-not-is_skipped}

pub loop-literal-preserved : goal.loop-literal-preserved
loop-literal-preserved c =
    let i = c.loop-literal.literal-index in
    let x = get_or c.args.literals.now i (pos 0) in
    let here = has_at c.args.literals.now i c.loop-literal-test.true in
    let x_fits = to_z-of_z _ _ (literal_fits x (c.requires.over x here).0.1) in
    let told : c.is_skipped.result ≡ skips c.args.skipped x = rw x_fits at c.is_skipped.ensures in
    let before = c.loop-literal.invariant in
    elim c.if-not-is_skipped.branch [
      | then-not-is_skipped+in_ok-add_literal w ↦
          let free : skips c.args.skipped x ≡ false = sym told ∙ w.if-not-is_skipped.true in
          let gives = rw x_fits at w.add_literal.ensures.marks in
          let added = rw x_fits at w.in_ok-add_literal.ensures.chain in
          rw (w.marks-is, w.chain-is) record {
            size = w.add_literal.ensures.size ∙ before.size;
            marks = λ y. others_added c.args.skipped x y _ _ _ _ free (before.marks y) (gives y) ∙ rw (has_literal-more c.args.literals.now i y c.loop-literal-test.true);
            chain = λ n trail kept located falses.
                added_then trail _ _ _ c.args.chain.now _ _ (λ y own. gives y ∙ front _ _ own) (before.chain n trail kept located falses) (added n trail kept located (falses x here free));
          }
      | else-not-is_skipped w ↦
          let own : skips c.args.skipped x ≡ true = sym told ∙ w.if-not-is_skipped.false in
          rw (w.marks-is, w.chain-is) record {
            size = before.size;
            marks = λ y. others_kept c.args.skipped x y _ _ _ own (before.marks y) ∙ rw (has_literal-more c.args.literals.now i y c.loop-literal-test.true);
            chain = before.chain;
          }
    ]
  where
    front : (a b : Bool) → a ≡ true → (a || b) ≡ true
    front true b h = refl
    front false b h = absurd cc
