use Rattle.std.proofs.Common.{◌≡◌, ◌-◌, Some, sym, subst}
use Rattle.std.specs.Prelude.{slice_get}
use Rattle.c_meaning.specs.declared.input.Input.{Input}
use Rattle.suite.specs.Made.{IsMadeFor}
use Rattle.suite.proofs.PoolLaws.{first_made}
use Rattle.suite.proofs.pool.Pool.first.Goals as goal

pub returns : goal.returns
returns c = λ parts f p plan bounds ends g is there.
    let pool = c.args.self.now in
    let at : slice_get pool.inputs (c.in-Some.number - 1) ≡ Some c.in-Some-get.input.now = subst (λ k. slice_get pool.inputs k ≡ Some c.in-Some-get.input.now) c.saturating_sub-place.ensures (sym c.in-Some-get.ensures) in
    subst (λ (x : Input). IsMadeFor parts f p plan bounds ends g x) (sym c.in_ok-copy_of.ensures) (first_made parts f p plan bounds ends pool c.args.goal c.in-Some.number c.in-Some-get.input.now g is (sym c.in-Some.ensures) at there)
