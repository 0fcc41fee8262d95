use Rattle.std.proofs.Common.{◌≡◌, ◌++◌, drop, map}
use Rattle.cnf.specs.Dimacs.{text_of_lines}
use Rattle.certificate.specs.Certificates.{line_text}
use Rattle.certificate.proofs.write.push_lines.Given as goal

abbrev pub invariant-loop-line : goal.invariant-loop-line
invariant-loop-line l =
    l.text.items ++ text_of_lines (map line_text (drop l.line-index l.lines)) ≡ l.initial.text.items ++ text_of_lines (map line_text l.lines)
