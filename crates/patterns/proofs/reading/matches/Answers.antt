use Rattle.std.proofs.Common.{◌≡◌, ◌<◌, ◌+◌, ℕ, false, get_or, length, sym, ◌∙◌, subst, arith}
use Rattle.std.proofs.lemmas.List.{get_or_default}
use Rattle.patterns.specs.Letters.{form}
use Rattle.patterns.specs.Match.{Match}
use Rattle.patterns.specs.Paths.{step_of}
use Rattle.patterns.specs.Places.{EndsOf}
use Rattle.patterns.proofs.PlacesLaws.{from_one}
use Rattle.patterns.proofs.reading.matches.Goals as goal

pub returns : goal.returns
returns c =
    let P : ℕ → ℕ → Type 0 = Match (step_of c.args.path.now) (form c.args.pattern.now) in
    let ends : EndsOf P c.in_ok-starts.starts.items c.in_ok-ends.ends.items = subst (λ s. EndsOf P s c.in_ok-ends.ends.items) c.deref.ensures.value c.in_ok-ends.ensures in
    let both = from_one P c.in_ok-starts.starts.items c.in_ok-ends.ends.items c.args.from c.args.to (c.args.to + 1) ends c.in_ok-starts.ensures.size c.in_ok-starts.ensures.each (omega arith) (omega arith) in
    let size : c.args.to < length c.in_ok-ends.ends.items = omega (arith, ends.size, c.in_ok-starts.ensures.size) in
    let value : c.index.result.now ≡ get_or c.in_ok-ends.ends.items c.args.to false = c.index.ensures ∙ get_or_default c.in_ok-ends.ends.items c.args.to c.index.result.now false size in
    ((λ h. both.0 (sym value ∙ h)), (λ m. value ∙ both.1 m))
