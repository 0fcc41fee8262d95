use Rattle.std.proofs.Common.{◌≡◌, length, length-drop, sym, ap, ◌∙◌, arith}
use Rattle.fql_tokens.specs.declared.first.Beginning.TheVariants as begins
use Rattle.fql_tokens.specs.First.{beginning}
use Rattle.fql_tokens.specs.Outcome.{by_cutting}
use Rattle.fql_tokens.proofs.Sizes.{token_fits, blank_fits}
use Rattle.fql_tokens.proofs.Cutting.{begin, over_blank, over_token, at_end, at_unknown, at_last}
use Rattle.fql_tokens.proofs.cut.cut.Goals as goal
use Rattle.fql_tokens.proofs.cut.cut.Goals.{in-Blank, in-Token+in_ok-push-in-Token, else-loop-test, then-loop-test+in_ok-what_begins+in-End}

pub loop-init : goal.loop-init
loop-init c = record {
  started = omega arith;
  place = omega arith;
  so_far = rw c.new-made.ensures (begin c.args.text.now);
}

pub what_begins-requires : goal.what_begins-requires
what_begins-requires c = let h = c.loop.invariant.place in let one = c.loop.invariant.started in let short = c.requires in omega arith

pub overflow_cast-column : goal.overflow_cast-column
overflow_cast-column c =
    let e : begins.Token c.in-Token.sign c.in-Token.length ≡ beginning c.loop.mode c.loop.rest.now = sym c.in-Token.is ∙ c.in_ok-what_begins.ensures in
    let f = token_fits c.loop.mode c.loop.rest.now c.in-Token.sign c.in-Token.length (sym e) in
    let h = c.loop.invariant.place in
    let short = c.requires in
    omega (arith, f.1)

pub overflow_add-column-in-Token : goal.overflow_add-column-in-Token
overflow_add-column-in-Token c =
    let e : begins.Token c.in-Token.sign c.in-Token.length ≡ beginning c.loop.mode c.loop.rest.now = sym c.in-Token.is ∙ c.in_ok-what_begins.ensures in
    let f = token_fits c.loop.mode c.loop.rest.now c.in-Token.sign c.in-Token.length (sym e) in
    let h = c.loop.invariant.place in
    let short = c.requires in
    omega (arith, f.1)

pub returns-in-Unknown : goal.returns-in-Unknown
returns-in-Unknown c =
    let e : begins.Unknown ≡ beginning c.loop.mode c.loop.rest.now = sym c.in-Unknown.is ∙ c.in_ok-what_begins.ensures in
    let h = at_unknown (length c.args.text.now) c.loop.counter c.loop.column c.loop.mode c.loop.made c.loop.rest.now _ c.loop.invariant.so_far c.loop-test.true e in
    rw c.refusal.ensures (ap by_cutting h)

pub loop-preserved : goal.loop-preserved
loop-preserved c =
    elim c.match-branch-2.branch [
      | in-Blank w ↦
          let e : begins.Blank ≡ beginning c.loop.mode c.loop.rest.now = sym w.in-Blank.is ∙ c.in_ok-what_begins.ensures in
          let f = blank_fits c.loop.mode c.loop.rest.now (sym e) in
          let h = c.loop.invariant.place in
          let left = length-drop 1 c.loop.rest.now in
          rw (w.made-is, w.rest-is, w.column-is, w.mode-is, w.rest_of-rest.ensures) (record {
            started = omega arith;
            place = omega arith;
            so_far = over_blank (length c.args.text.now) c.loop.counter c.loop.column c.loop.mode c.loop.made c.loop.rest.now _ c.loop.invariant.so_far c.loop-test.true e;
          })
      | in-Token+in_ok-push-in-Token w ↦
          let e : begins.Token w.in-Token.sign w.in-Token.length ≡ beginning c.loop.mode c.loop.rest.now = sym w.in-Token.is ∙ c.in_ok-what_begins.ensures in
          let f = token_fits c.loop.mode c.loop.rest.now w.in-Token.sign w.in-Token.length (sym e) in
          let h = c.loop.invariant.place in
          let left = length-drop w.in-Token.length c.loop.rest.now in
          rw (w.made-is, w.rest-is, w.column-is, w.mode-is, w.rest_of-rest-in-Token.ensures, w.in_ok-push-in-Token.ensures.ok, w.after-mode.ensures) (record {
            started = omega arith;
            place = omega (arith, f.1);
            so_far = over_token (length c.args.text.now) c.loop.counter c.loop.column c.loop.mode c.loop.made c.loop.rest.now _ c.loop.invariant.so_far c.loop-test.true w.in-Token.sign w.in-Token.length e;
          })
    ]

pub returns : goal.returns
returns c =
    elim c.loop-test.branch [
      | else-loop-test w ↦ ap by_cutting (at_last (length c.args.text.now) c.loop.counter c.loop.column c.loop.mode c.loop.made c.loop.rest.now _ c.loop.invariant.so_far w.loop-test.false)
      | then-loop-test+in_ok-what_begins+in-End w ↦
          let e : begins.End ≡ beginning c.loop.mode c.loop.rest.now = sym w.in-End.is ∙ w.in_ok-what_begins.ensures in
          ap by_cutting (at_end (length c.args.text.now) c.loop.counter c.loop.column c.loop.mode c.loop.made c.loop.rest.now _ c.loop.invariant.so_far w.loop-test.true e)
    ]
