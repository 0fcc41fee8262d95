use Rattle.std.proofs.Common.{◌≡◌, ◌≤◌, ◌+◌, ◌-◌, List, Bool, ℕ, length, count_by, Some, None, sym, ◌∙◌, ap, subst, arith}
use Rattle.patterns.specs.Letters.{form}
use Rattle.patterns.specs.Match.{Match, Turns}
use Rattle.patterns.specs.Paths.{step_of}
use Rattle.patterns.specs.Places.{EndsOf, Rounds, union}
use Rattle.patterns.proofs.PlacesLaws.{match_forward, length-union, grows, same_count, count_within}
use Rattle.patterns.proofs.Rounds.{Growing, one_more_turn, more_rounds, grow_more, grown}
use Rattle.patterns.proofs.ByCases.{on_ok, on_ok_both, at_nothing, at_letter, at_dot, at_either, at_repeat, at_empty_repeat}
use Rattle.patterns.proofs.reading.+ends.Goals as goal

pub any_turns-returns-then-more-count : goal.any_turns-returns-then-more-count
any_turns-returns-then-more-count t c = λ starts least first.
    let M : ℕ → ℕ → Type 0 = Match (step_of c.args.path.now) (form c.args.body.now) in
    let a = c.loop-ends.ends.items in
    let b = c.in_ok-next.next.items in
    let e : c.in_ok-ends.ends.items ≡ union a b = c.in_ok-ends.ensures ∙ (λ i. union (c.deref-in-loop-ends-2.ensures.value i) (c.deref-in-loop-ends-3.ensures.value i)) in
    let n : EndsOf M a b = subst (λ x. EndsOf M x b) c.deref-in-loop-ends.ensures.value c.in_ok-next.ensures in
    let count : List Bool → ℕ = λ x. count_by (λ place. place) x in
    let k : count_by (λ place. place) (union a b) ≡ count_by (λ place. place) a =
    ap count (sym e) ∙ ap count (sym c.deref-in-loop-ends-4.ensures.value) ∙ sym c.place_count-more.ensures ∙ c.if-more-count.true ∙ c.loop-ends.invariant.counted in
    subst (EndsOf (Rounds M least None) starts) (sym e)
    (grown M (match_forward (step_of c.args.path.now) (form c.args.body.now)) least starts c.args.row.items a b first (c.loop-ends.invariant.grows starts least first) n (same_count a b (sym n.size) k))

pub any_turns-loop-ends-smaller : goal.any_turns-loop-ends-smaller
any_turns-loop-ends-smaller t c =
    let M : ℕ → ℕ → Type 0 = Match (step_of c.args.path.now) (form c.args.body.now) in
    let a = c.loop-ends.ends.items in
    let b = c.in_ok-next.next.items in
    let u = c.in_ok-ends.ends.items in
    let e : u ≡ union a b = c.in_ok-ends.ensures ∙ (λ i. union (c.deref-in-loop-ends-2.ensures.value i) (c.deref-in-loop-ends-3.ensures.value i)) in
    let n : EndsOf M a b = subst (λ x. EndsOf M x b) c.deref-in-loop-ends.ensures.value c.in_ok-next.ensures in
    let size : length u ≡ length a = ap length e ∙ length-union a b (sym n.size) in
    let count : List Bool → ℕ = λ x. count_by (λ place. place) x in
    let more : c.place_count-more.result ≡ count_by (λ place. place) u = c.place_count-more.ensures ∙ ap count c.deref-in-loop-ends-4.ensures.value in
    let up : count_by (λ place. place) a ≤ count_by (λ place. place) u = subst (λ x. count_by (λ place. place) a ≤ count_by (λ place. place) x) (sym e) (grows a b (sym n.size)) in
    let within : count_by (λ place. place) u ≤ length u = count_within u in
    let counted : c.loop-ends.count ≡ count_by (λ place. place) a = c.loop-ends.invariant.counted in
    let apart = c.if-more-count.false in
    omega arith

pub any_turns-loop-ends-preserved : goal.any_turns-loop-ends-preserved
any_turns-loop-ends-preserved t c =
    let M : ℕ → ℕ → Type 0 = Match (step_of c.args.path.now) (form c.args.body.now) in
    let a = c.loop-ends.ends.items in
    let b = c.in_ok-next.next.items in
    let u = c.in_ok-ends.ends.items in
    let e : u ≡ union a b = c.in_ok-ends.ensures ∙ (λ i. union (c.deref-in-loop-ends-2.ensures.value i) (c.deref-in-loop-ends-3.ensures.value i)) in
    let n : EndsOf M a b = subst (λ x. EndsOf M x b) c.deref-in-loop-ends.ensures.value c.in_ok-next.ensures in
    let count : List Bool → ℕ = λ x. count_by (λ place. place) x in
    record {
      size = ap length e ∙ length-union a b (sym n.size) ∙ c.loop-ends.invariant.size;
      counted = c.place_count-more.ensures ∙ ap count c.deref-in-loop-ends-4.ensures.value;
      grows = λ starts least first. subst (λ x. Growing M least starts c.args.row.items x) (sym e) (grow_more M least starts c.args.row.items a b (c.loop-ends.invariant.grows starts least first) n);
    }

pub ends_of-returns-then-most-least : goal.ends_of-returns-then-most-least
ends_of-returns-then-most-least t c =
    on_ok_both c.no_places-then-most-least.result (λ v size none. at_empty_repeat (step_of c.args.path.now) c.args.pattern.now c.in-Repeat.body c.in-Repeat.least c.in-Some.most c.in-Repeat.most c.args.starts.now v.items c.in-Repeat.is c.in-Some.is c.if-most-least.true size none)
    c.no_places-then-most-least.ensures.size c.no_places-then-most-least.ensures.none

pub ends_of-returns-in-Nothing : goal.ends_of-returns-in-Nothing
ends_of-returns-in-Nothing t c =
    on_ok_both c.no_places.result (λ v size none. at_nothing (step_of c.args.path.now) c.args.pattern.now c.args.starts.now v.items c.in-Nothing.is size none)
    c.no_places.ensures.size c.no_places.ensures.none

pub ends_of-returns-in-Letter : goal.ends_of-returns-in-Letter
ends_of-returns-in-Letter t c =
    on_ok c.letter_ends.result (λ v h. at_letter (step_of c.args.path.now) c.args.pattern.now c.in-Letter.letter c.args.starts.now v.items c.in-Letter.is h) c.letter_ends.ensures

pub ends_of-returns-in_ok-middle-in-Dot : goal.ends_of-returns-in_ok-middle-in-Dot
ends_of-returns-in_ok-middle-in-Dot t c =
    on_ok c.ends_of-in-Dot.result (λ v h. at_dot (step_of c.args.path.now) c.args.pattern.now c.in-Dot.a c.in-Dot.b c.deref.result.now c.deref-in-Dot.result.now c.args.starts.now c.in_ok-middle-in-Dot.middle.items v.items
    c.in-Dot.is c.deref.ensures c.deref-in-Dot.ensures c.in_ok-middle-in-Dot.ensures (subst (λ s. EndsOf (Match (step_of c.args.path.now) (form c.deref-in-Dot.result.now)) s v.items) c.deref-in-Dot-2.ensures.value h))
    c.ends_of-in-Dot.ensures

pub ends_of-returns-in_ok-second-in-Either : goal.ends_of-returns-in_ok-second-in-Either
ends_of-returns-in_ok-second-in-Either t c =
    let u = c.in_ok-first-in-Either.first.items in
    let v = c.in_ok-second-in-Either.second.items in
    on_ok c.either_places.result (λ r h.
    subst (EndsOf (Match (step_of c.args.path.now) (form c.args.pattern.now)) c.args.starts.now)
    (sym (h ∙ (λ i. union (c.deref-in-Either-3.ensures.value i) (c.deref-in-Either-4.ensures.value i))))
    (at_either (step_of c.args.path.now) c.args.pattern.now c.in-Either.a c.in-Either.b c.deref-in-Either.result.now c.deref-in-Either-2.result.now c.args.starts.now u v
    c.in-Either.is c.deref-in-Either.ensures c.deref-in-Either-2.ensures c.in_ok-first-in-Either.ensures c.in_ok-second-in-Either.ensures))
    c.either_places.ensures

pub ends_of-returns-in_ok-row-in-None : goal.ends_of-returns-in_ok-row-in-None
ends_of-returns-in_ok-row-in-None t c =
    let row = c.in_ok-row-in-None.row.items in
    let same : form c.deref-in-None.result.now ≡ form c.deref-in-None-2.result.now = ap form (c.deref-in-None.ensures ∙ sym c.deref-in-None-2.ensures) in
    on_ok c.any_turns.result (λ v h. at_repeat (step_of c.args.path.now) c.args.pattern.now c.in-Repeat.body c.deref-in-None-2.result.now c.in-Repeat.least c.in-Repeat.most None c.args.starts.now v.items c.in-Repeat.is c.in-None.is c.deref-in-None-2.ensures h)
    (c.any_turns.ensures c.args.starts.now c.in-Repeat.least (subst (λ f. EndsOf (Turns (Match (step_of c.args.path.now) f) c.in-Repeat.least) c.args.starts.now row) same c.in_ok-row-in-None.ensures))

pub ends_of-returns-in_ok-row-in-Some : goal.ends_of-returns-in_ok-row-in-Some
ends_of-returns-in_ok-row-in-Some t c =
    let row = c.in_ok-row-in-Some.row.items in
    let same : form c.deref-in-Some.result.now ≡ form c.deref-in-Some-2.result.now = ap form (c.deref-in-Some.ensures ∙ sym c.deref-in-Some-2.ensures) in
    let sum : c.in-Repeat.least + (c.in-Some.most - c.in-Repeat.least) ≡ c.in-Some.most = omega (arith, c.if-most-least.false) in
    on_ok c.some_turns.result (λ v h. at_repeat (step_of c.args.path.now) c.args.pattern.now c.in-Repeat.body c.deref-in-Some-2.result.now c.in-Repeat.least c.in-Repeat.most (Some c.in-Some.most) c.args.starts.now v.items c.in-Repeat.is c.in-Some.is c.deref-in-Some-2.ensures
    (subst (λ n. EndsOf (Rounds (Match (step_of c.args.path.now) (form c.deref-in-Some-2.result.now)) c.in-Repeat.least (Some n)) c.args.starts.now v.items) sum h))
    (c.some_turns.ensures c.args.starts.now c.in-Repeat.least (subst (λ f. EndsOf (Turns (Match (step_of c.args.path.now) f) c.in-Repeat.least) c.args.starts.now row) same c.in_ok-row-in-Some.ensures))

pub some_turns-loop-preserved : goal.some_turns-loop-preserved
some_turns-loop-preserved t c =
    let M : ℕ → ℕ → Type 0 = Match (step_of c.args.path.now) (form c.args.body.now) in
    let a = c.loop.ends.items in
    let b = c.in_ok-next.next.items in
    let e : c.in_ok-ends.ends.items ≡ union a b = c.in_ok-ends.ensures ∙ (λ i. union (c.deref-in-loop.ensures.value i) (c.deref-in-loop-2.ensures.value i)) in
    let n : EndsOf M a b = subst (λ x. EndsOf M x b) c.deref.ensures.value c.in_ok-next.ensures in
    record {
      size = ap length e ∙ length-union a b (sym n.size) ∙ c.loop.invariant.size;
      rounds = λ starts least first. subst (EndsOf (Rounds M least (Some (least + (c.loop.counter + 1)))) starts) (sym e)
          (more_rounds M (match_forward (step_of c.args.path.now) (form c.args.body.now)) least c.loop.counter starts a b (c.loop.invariant.rounds starts least first) n);
    }

pub some_turns-returns : goal.some_turns-returns
some_turns-returns t c = λ starts least first.
    let M : ℕ → ℕ → Type 0 = Match (step_of c.args.path.now) (form c.args.body.now) in
    let e : c.loop.counter ≡ c.args.more = omega arith in
    subst (λ n. EndsOf (Rounds M least (Some (least + n))) starts c.loop.ends.items) e (c.loop.invariant.rounds starts least first)

pub turns-loop-preserved : goal.turns-loop-preserved
turns-loop-preserved t c =
    let M : ℕ → ℕ → Type 0 = Match (step_of c.args.path.now) (form c.args.body.now) in
    let a = c.loop.ends.items in
    let b = c.in_ok-ends-2.ends.items in
    let n : EndsOf M a b = subst (λ x. EndsOf M x b) c.deref.ensures.value c.in_ok-ends-2.ensures in
    one_more_turn M (match_forward (step_of c.args.path.now) (form c.args.body.now)) c.loop.counter c.args.starts.now a b c.loop.invariant n
