use Rattle.std.proofs.Common.{◌≡◌}
use Rattle.search_lemmas.proofs.lesson.Lessons.note_lines.Given as goal

abbrev pub invariant-loop-line : goal.invariant-loop-line
invariant-loop-line l = l.self.clauses ≡ l.fn.self.clauses
