use Rattle.std.proofs.Common.{◌≡◌, ℕ, ◌+◌, ◌<◌, ◌++◌, ◌∷◌, [], List, All, Contains, true, false, get_or, length, sym, ◌∙◌, ap, subst, arith}
use Rattle.std.proofs.lemmas.List.Elements.{All-push}
use Rattle.filters_paths.proofs.SpreadLaws.{numbers_more, numbers_same}
use Rattle.filters_paths.proofs.living.marked_numbers.Goals as goal
use Rattle.filters_paths.proofs.living.marked_numbers.Goals.{then-mark+in_ok-push, else-mark}

pub loop-n-preserved : goal.loop-n-preserved
loop-n-preserved c =
    let marks = c.args.marks.now in
    let W : List ℕ → Type 0 = λ xs. All (λ n. n < length marks) xs in
    let E : List ℕ → Type 0 = λ xs. (k : ℕ) → k < c.loop-n.n + 1 → get_or marks k false ≡ true → Contains xs k in
    elim c.if-mark.branch [
      | then-mark+in_ok-push w ↦
          let is : c.if-mark.numbers.items ≡ c.loop-n.numbers.items ++ c.loop-n.n ∷ [] = ap (λ v. v.items) w.numbers-is ∙ w.in_ok-push.ensures.items in
          record {
            within = subst W (sym is) (All-push (λ n. n < length marks) c.loop-n.numbers.items c.loop-n.n c.loop-n.invariant.within (omega arith));
            each = subst E (sym is) (numbers_more marks c.loop-n.numbers.items c.loop-n.n c.loop-n.invariant.each);
          }
      | else-mark w ↦
          let is : c.if-mark.numbers.items ≡ c.loop-n.numbers.items = ap (λ v. v.items) w.numbers-is in
          record {
            within = subst W (sym is) c.loop-n.invariant.within;
            each = subst E (sym is) (numbers_same marks c.loop-n.numbers.items c.loop-n.n w.if-mark.false c.loop-n.invariant.each);
          }
    ]
