use Rattle.std.proofs.Common.{◌≡◌, ℕ, List, ◌++◌, codes, append_assoc}
use Rattle.report.specs.GraphText.{edge_head, edge_place, marks_text, operation_text}
use Rattle.report.proofs.edges.push_edge.Goals as goal

joined : (text a b c d e f g : List ℕ) → ((((((text ++ a) ++ b) ++ c) ++ d) ++ e) ++ f) ++ g ≡ text ++ ((((((a ++ b) ++ c) ++ d) ++ e) ++ f) ++ g)
joined text a b c d e f g = simp append_assoc

pub returns : goal.returns
returns c =
    rw (
      c.in_ok-extend_from_slice-3.ensures.items,
      c.in_ok-push_marks.ensures,
      c.in_ok-push_operation.ensures,
      c.in_ok-extend_from_slice-2.ensures.items,
      c.in_ok-push_edge_place.ensures,
      c.files.ensures,
      c.in_ok-extend_from_slice.ensures.items,
      c.in_ok-push_edge_head.ensures,
    )
    (joined c.args.text.now.items (edge_head c.args.number c.args.edge.now) (codes " ") (edge_place c.args.graph.now.files c.args.edge.now) (codes " ")
    (operation_text c.args.graph.now c.args.edge.now.operation) (marks_text c.args.edge.now) (codes "\n"))
