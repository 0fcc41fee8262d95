use Rattle.std.proofs.Common.{Ok, ap, sym, ◌∙◌, pos}
use Rattle.c_values.specs.Kind.{wrapped}
use Rattle.cfa.proofs.ExprRules.{constant_value, load_kind, load_place}
use Rattle.c_meaning.proofs.Values.{load_made}
use Rattle.c_meaning.proofs.evaluate.leaf_value.Goals as goal

pub direct_cell-requires-clause-fits : goal.direct_cell-requires-clause-fits
direct_cell-requires-clause-fits c =
    let e = c.in-Load in load_place c.args.store.now.room e.place e.kind (rw e.is at c.requires.fits)

pub fitted-requires : goal.fitted-requires
fitted-requires c = let e = c.in-Load in load_kind c.args.store.now.room e.place e.kind (rw e.is at c.requires.fits)

pub returns-in-Constant : goal.returns-in-Constant
returns-in-Constant c =
    let s = c.args.store.now in
    let e = c.in-Constant in rw e.is (constant_value s.room s.cells s.frame e.value e._kind)

pub returns-in-Some : goal.returns-in-Some
returns-in-Some c =
    let s = c.args.store.now in
    let e = c.in-Load in
    rw e.is (sym (load_made s.room s.cells s.frame e.place e.kind (Ok c.in-Some.cell) (Ok c.fitted.result) (sym c.in-Some.ensures) (ap Ok (c.fitted.ensures ∙ ap (λ v. wrapped e.kind (pos v)) c.at.ensures))))
