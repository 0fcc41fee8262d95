use Rattle.std.proofs.Common.{◌≡◌, ◌<◌, ◌≤◌, ◌+◌, ◌++◌, ◌∷◌, [], ℕ, List, false, get_or, arith, sym, ap, ◌∙◌, subst}
use Rattle.std.specs.List.Sorted.{IsStrictlyIncreasing}
use Rattle.filters.specs.Parts.{is_among}
use Rattle.filters.proofs.MoreMarks.{rise_more, below_pushed, each_pushed, each_kept}
use Rattle.filters.proofs.marks.numbers.Goals as goal
use Rattle.filters.proofs.marks.numbers.Goals.{then-mark+in_ok-push, else-mark}

pub loop-i-preserved : goal.loop-i-preserved
loop-i-preserved c = elim c.if-mark.branch [
  | then-mark+in_ok-push w ↦
      let e : c.if-mark.numbers.items ≡ c.loop-i.numbers.items ++ c.loop-i.i ∷ [] = ap (λ v. v.items) w.numbers-is ∙ w.in_ok-push.ensures.items in
      let P : List ℕ → Type 0 = λ xs. IsStrictlyIncreasing xs in
      let Q : List ℕ → Type 0 = λ xs. (k : ℕ) → c.loop-i.i + 1 ≤ k → is_among xs k ≡ false in
      let R : List ℕ → Type 0 = λ xs. (k : ℕ) → k < c.loop-i.i + 1 → is_among xs k ≡ get_or c.args.marks.now k false in
      record {
        rise = subst P (sym e) (rise_more c.loop-i.numbers.items c.loop-i.i c.loop-i.invariant.rise c.loop-i.invariant.below);
        below = subst Q (sym e) (below_pushed c.loop-i.numbers.items c.loop-i.i c.loop-i.invariant.below);
        each = subst R (sym e) (each_pushed c.loop-i.numbers.items c.args.marks.now c.loop-i.i w.if-mark.true c.loop-i.invariant.each);
      }
  | else-mark w ↦
      let e : c.if-mark.numbers.items ≡ c.loop-i.numbers.items = ap (λ v. v.items) w.numbers-is in
      let P : List ℕ → Type 0 = λ xs. IsStrictlyIncreasing xs in
      let Q : List ℕ → Type 0 = λ xs. (k : ℕ) → c.loop-i.i + 1 ≤ k → is_among xs k ≡ false in
      let R : List ℕ → Type 0 = λ xs. (k : ℕ) → k < c.loop-i.i + 1 → is_among xs k ≡ get_or c.args.marks.now k false in
      record {
        rise = subst P (sym e) c.loop-i.invariant.rise;
        below = subst Q (sym e) (λ k ge. c.loop-i.invariant.below k (omega arith));
        each = subst R (sym e) (each_kept c.loop-i.numbers.items c.args.marks.now c.loop-i.i w.if-mark.false c.loop-i.invariant.below c.loop-i.invariant.each);
      }
]
