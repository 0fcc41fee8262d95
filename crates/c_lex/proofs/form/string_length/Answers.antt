use Rattle.std.specs.Prelude.{false, true}
use Rattle.c_lex.specs.Scans.{string_length}
use Rattle.c_lex.proofs.Loops.{goes_on_at, found_at, none_at, none_after, string_bad_escape, string_escape, string_end, string_backslash, string_bad, string_more, string_nothing}
use Rattle.c_lex.proofs.form.string_length.Goals as goal
use Rattle.c_lex.proofs.form.string_length.Goals.{then-escaped+else-not-is_escaped_byte, else-escaped+else-byte-eq34+then-byte-eq92, else-escaped+else-byte-eq34+else-byte-eq92+else-not-is_string_byte}

pub returns-then-not-is_escaped_byte : goal.returns-then-not-is_escaped_byte
returns-then-not-is_escaped_byte c =
    none_at (string_length c.loop-i.escaped) c.args.text.now c.loop-i.i _ c.loop-i.invariant c.loop-i-test.true (string_bad_escape _ _ _ _ c.if-escaped.true c.if-not-is_escaped_byte.true c.is_escaped_byte.ensures)

pub returns-then-byte-eq34 : goal.returns-then-byte-eq34
returns-then-byte-eq34 c =
    found_at (string_length c.loop-i.escaped) c.args.text.now c.loop-i.i _ c.loop-i.invariant 1 c.loop-i-test.true (string_end _ _ _ c.if-escaped.false c.if-byte-eq34.true)

pub returns-then-not-is_string_byte : goal.returns-then-not-is_string_byte
returns-then-not-is_string_byte c =
    none_at (string_length c.loop-i.escaped) c.args.text.now c.loop-i.i _ c.loop-i.invariant c.loop-i-test.true (string_bad _ _ _ _ c.if-escaped.false c.if-byte-eq34.false c.if-byte-eq92.false c.if-not-is_string_byte.true c.is_string_byte.ensures)

pub loop-i-preserved : goal.loop-i-preserved
loop-i-preserved c =
    elim c.if-escaped.branch [
      | then-escaped+else-not-is_escaped_byte w ↦
          rw w.escaped-is (goes_on_at (string_length c.loop-i.escaped) c.args.text.now c.loop-i.i _ c.loop-i.invariant (string_length false) c.loop-i-test.true (string_escape _ _ _ _ w.if-escaped.true w.if-not-is_escaped_byte.false w.is_escaped_byte.ensures))
      | else-escaped+else-byte-eq34+then-byte-eq92 w ↦
          rw w.escaped-is (goes_on_at (string_length c.loop-i.escaped) c.args.text.now c.loop-i.i _ c.loop-i.invariant (string_length true) c.loop-i-test.true (string_backslash _ _ _ w.if-escaped.false w.if-byte-eq34.false w.if-byte-eq92.true))
      | else-escaped+else-byte-eq34+else-byte-eq92+else-not-is_string_byte w ↦
          rw w.escaped-is (goes_on_at (string_length c.loop-i.escaped) c.args.text.now c.loop-i.i _ c.loop-i.invariant (string_length c.loop-i.escaped) c.loop-i-test.true (string_more _ _ _ _ w.if-escaped.false w.if-byte-eq34.false w.if-byte-eq92.false w.if-not-is_string_byte.false w.is_string_byte.ensures))
    ]

pub returns : goal.returns
returns c = none_after (string_length c.loop-i.escaped) c.args.text.now c.loop-i.i _ c.loop-i.invariant c.loop-i-test.false (string_nothing _)
