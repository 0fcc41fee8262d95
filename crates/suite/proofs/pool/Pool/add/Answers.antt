use Rattle.std.proofs.Common.{◌++◌, List, [], ◌∷◌, ℕ, sym, subst}
use Rattle.std.specs.List.{AllZip}
use Rattle.std.proofs.lemmas.Slice.Zip.{all_zipped_more}
use Rattle.c_meaning.specs.declared.input.Input.{Input}
use Rattle.measurer.specs.Measurers.{hits_of}
use Rattle.suite.specs.Standing.{IsPooledOf}
use Rattle.suite.proofs.pool.Pool.add.Goals as goal

pub returns-in-Ok : goal.returns-in-Ok
returns-in-Ok c =
    let Pooled : Input → List ℕ → Type 0 = IsPooledOf c.args.given.now in
    let old = c.args.self.now in
    let last = c.in-Ok.ensures.hits in
    let more = all_zipped_more Pooled old.inputs (hits_of old.measurer) c.args.input last.0 c.requires.pool.inputs (c.requires.made last.0 last.1.1) in
    let hit : AllZip Pooled (old.inputs ++ c.args.input ∷ []) (hits_of c.add.new.self) = subst (AllZip Pooled (old.inputs ++ c.args.input ∷ [])) (sym last.1.0) more in
    record {
      measures = c.add.ensures.plan;
      inputs = subst (λ (xs : List Input). AllZip Pooled xs (hits_of c.add.new.self)) (sym c.in_ok-push.ensures.ok) hit;
      refuted = c.requires.pool.refuted;
    }
