use Rattle.std.proofs.Common.{◌≡◌, ◌-◌, suc, false, not, cond, get_or, sym, ap, ◌∙◌, arith}
use Rattle.circuit.specs.Wires.{held}
use Rattle.circuit.specs.declared.lit.Gate.TheVariants.{And}
use Rattle.clause_form.proofs.WorldLaws.{held_on}
use Rattle.unwinder.proofs.guards.parts_of.Goals as goal

pub returns-in-And : goal.returns-in-And
returns-in-And c = record {
  left = (let h = c.in-And.ensures.parts in omega arith);
  right = (let h = c.in-And.ensures.parts in omega arith);
  holds = λ w.
      let gates = c.args.circuit.now in
      let k = c.args.lit.wire - 1 in
      let plain : c.args.lit.negated ≡ false = sym c.negated.ensures ∙ c.if-negated.false in
      let wire : c.args.lit.wire ≡ suc k = omega arith in
      ap (λ n. cond n (not (get_or (held gates w) c.args.lit.wire false)) (get_or (held gates w) c.args.lit.wire false)) plain
      ∙ ap (λ n. get_or (held gates w) n false) wire
      ∙ held_on gates k w (And c.in-And.left c.in-And.right) (rw c.wire-2.ensures at c.in-And.ensures.value) (rw c.wire-2.ensures at c.in-And.ensures.parts);
}
