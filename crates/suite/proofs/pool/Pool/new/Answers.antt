use Rattle.std.proofs.Common.{◌≡◌, [], Bool, List, Some, sym, subst, true}
use Rattle.std.specs.Prelude.{slice_get}
use Rattle.std.specs.List.{AllZip}
use Rattle.c_meaning.specs.declared.input.Input.{Input}
use Rattle.measurer.specs.Measurers.{hits_of}
use Rattle.suite.specs.Standing.{IsPooledOf}
use Rattle.suite.proofs.Early.{none_noted}
use Rattle.suite.proofs.pool.Pool.new.Goals as goal

pub returns : goal.returns
returns c = record {
  measures = c.in_ok-measurer.ensures.plan;
  inputs =
      let Pooled = IsPooledOf c.args.given.now in
      let empty = subst (AllZip Pooled []) (sym c.in_ok-measurer.ensures.hits) tt in
      subst (λ (xs : List Input). AllZip Pooled xs (hits_of c.in_ok-measurer.measurer)) (sym c.new-3.ensures) empty;
  refuted = λ place g there noted. absurd (none_noted _ place (subst (λ (xs : List Bool). slice_get xs place ≡ Some true) (c.in_ok-refuted.ensures.items_if_clones_equal (λ y same. same)) noted));
}
