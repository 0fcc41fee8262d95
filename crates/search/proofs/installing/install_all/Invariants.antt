use Rattle.std.proofs.Common.{◌≡◌, length}
use Rattle.search.specs.Installs.{IsInstalling}
use Rattle.search.proofs.installing.install_all.Given as goal

abbrev pub invariant-loop-place : goal.invariant-loop-place
invariant-loop-place l = record {
  installing : IsInstalling l.formula l.budget l.machine l.watching l.place;
  count : l.count ≡ length l.formula.clauses;
}
