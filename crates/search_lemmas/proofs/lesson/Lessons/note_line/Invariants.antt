use Rattle.std.proofs.Common.{◌≡◌}
use Rattle.search_lemmas.proofs.lesson.Lessons.note_line.Given as goal

abbrev pub invariant-loop-step : goal.invariant-loop-step
invariant-loop-step l = l.self.clauses ≡ l.fn.self.clauses
