-- The lines of events, one list behind another.
use Rattle.std.proofs.Common.{◌≡◌, ℕ, suc, ◌+◌, ◌<◌, List, [], ◌∷◌, ◌++◌, drop, get_or, length, slice_get, refl, sym, ap, ◌∙◌, append_assoc, arith}
use Rattle.std.proofs.Math.Seq.{drop-cons}
use Rattle.cfa.specs.declared.parts.GraphParts.{GraphParts}
use Rattle.tree_events.specs.declared.edge_events.event.Event.{Event}
use Rattle.report.specs.EventsText.{all_after, entered_after, event_line, event_lines, told_along, told_at}

lines_append : (graph : GraphParts) (entered : List ℕ) (xs ys : List Event) → event_lines graph entered (xs ++ ys) ≡ event_lines graph entered xs ++ event_lines graph (all_after entered xs) ys
lines_append graph entered [] ys = refl
lines_append graph entered (x ∷ xs) ys =
    let after = entered_after entered x.what in
    ap (λ (text : List ℕ). event_line graph entered x ++ text) (lines_append graph after xs ys)
    ∙ sym (append_assoc (event_line graph entered x) (event_lines graph after xs) (event_lines graph (all_after after xs) ys))

-- a text goes on with what the edge of a place tells
pub told_more : (graph : GraphParts) (edges : List ℕ) (i d : ℕ) (text entered text' entered' : List ℕ) → i < length edges
    → text' ≡ text ++ event_lines graph entered (told_at (slice_get graph.edges (get_or edges i d)))
    → entered' ≡ all_after entered (told_at (slice_get graph.edges (get_or edges i d)))
    → text' ++ event_lines graph entered' (told_along graph (drop (i + 1) edges)) ≡ text ++ event_lines graph entered (told_along graph (drop i edges))
told_more graph edges i d text entered text' entered' within told after =
    let es = told_at (slice_get graph.edges (get_or edges i d)) in
    let next : suc i ≡ i + 1 = omega arith in
    let rest = told_along graph (drop (i + 1) edges) in
    (λ j. told j ++ event_lines graph (after j) rest)
    ∙ append_assoc text (event_lines graph entered es) (event_lines graph (all_after entered es) rest)
    ∙ ap (λ (lines : List ℕ). text ++ lines) (sym (lines_append graph entered es rest)
    ∙ ap (λ (n : ℕ). event_lines graph entered (told_along graph (get_or edges i d ∷ drop n edges))) (sym next)
    ∙ ap (λ (xs : List ℕ). event_lines graph entered (told_along graph xs)) (sym (drop-cons edges i d within)))
