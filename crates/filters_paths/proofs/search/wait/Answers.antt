use Rattle.std.proofs.Common.{◌≡◌, ℕ, ◌+◌, ◌-◌, ◌<◌, ◌≤◌, ◌++◌, ◌∷◌, [], List, All, Contains, length, get_or, sym, subst, ap, ◌∙◌, arith}
use Rattle.std.proofs.lemmas.List.Elements.{All-push, Contains-append_left}
use Rattle.filters_paths.proofs.SearchLaws.{row_within, waits_too, waits_not, all_wait}
use Rattle.filters_paths.proofs.search.wait.Goals as goal
use Rattle.filters_paths.proofs.search.wait.Goals.{then-left-edge-gt0+in_ok-push, else-left-edge-gt0}

pub bounds-left-edge : goal.bounds-left-edge
bounds-left-edge c =
    let row = c.outgoing-row.result.now in
    let low = row_within c.args.graph.now c.args.node (length row - 1 - c.loop-taken.taken) row c.outgoing-row.ensures (omega arith) in
    omega arith

pub loop-taken-preserved : goal.loop-taken-preserved
loop-taken-preserved c =
    let row = c.outgoing-row.result.now in
    let i = c.loop-taken.taken in
    let at = length row - 1 - i in
    let low = row_within c.args.graph.now c.args.node at row c.outgoing-row.ensures (omega arith) in
    let W : List ℕ → Type 0 = λ xs. All (λ k. k < length c.args.graph.now.edges) xs in
    let K : List ℕ → Type 0 = λ xs. (k : ℕ) → Contains c.args.waiting.now.items k → Contains xs k in
    let M : List ℕ → Type 0 = λ xs. (j : ℕ) → length row ≤ j + (i + 1) → j < length row → 0 < get_or c.args.left.now (get_or row j 0) 0 → Contains xs (get_or row j 0) in
    elim c.if-left-edge-gt0.branch [
      | then-left-edge-gt0+in_ok-push w ↦
          let e : c.if-left-edge-gt0.waiting.items ≡ c.loop-taken.waiting.items ++ get_or row at 0 ∷ [] = ap (λ v. v.items) w.waiting-is ∙ w.in_ok-push.ensures.items in
          record {
            waiting = subst W (sym e) (All-push (λ k. k < length c.args.graph.now.edges) c.loop-taken.waiting.items (get_or row at 0) c.loop-taken.invariant.waiting low);
            kept = subst K (sym e) (λ k h. Contains-append_left c.loop-taken.waiting.items (get_or row at 0 ∷ []) k (c.loop-taken.invariant.kept k h));
            more = subst M (sym e) (waits_too row c.loop-taken.waiting.items c.args.left.now i c.loop-taken-test.true c.loop-taken.invariant.more);
          }
      | else-left-edge-gt0 w ↦
          let e : c.if-left-edge-gt0.waiting.items ≡ c.loop-taken.waiting.items = ap (λ v. v.items) w.waiting-is in
          record {
            waiting = subst W (sym e) c.loop-taken.invariant.waiting;
            kept = subst K (sym e) c.loop-taken.invariant.kept;
            more = subst M (sym e) (waits_not row c.loop-taken.waiting.items c.args.left.now i c.loop-taken-test.true (omega (arith, w.if-left-edge-gt0.false)) c.loop-taken.invariant.more);
          }
    ]

pub returns-clause-more : goal.returns-clause-more
returns-clause-more c = λ k is some.
    let row = c.outgoing-row.result.now in
    let P : List ℕ → Type 0 = λ xs. Contains xs k in
    all_wait row c.loop-taken.waiting.items c.args.left.now c.loop-taken.taken (omega arith) c.loop-taken.invariant.more k (subst P (sym c.outgoing-row.ensures) is) some
