use Rattle.std.proofs.Common.{w64}
use Rattle.std.proofs.lemmas.Int.{of_z-to_z}
use Rattle.input_text.proofs.Numbers.{number_of-signed, number_of-unsigned}
use Rattle.trace_file.proofs.written.push_value.Goals as goal

pub returns-then-kind : goal.returns-then-kind
returns-then-kind c =
    rw (number_of-signed c.args.kind c.args.word c.if-kind.true c.ranges.word.fits)
    (let made = c.push_number.ensures in rw (c.cast_signed.ensures, of_z-to_z w64 c.args.word c.ranges.word.fits) at made)

pub returns-else-kind : goal.returns-else-kind
returns-else-kind c = rw (number_of-unsigned c.args.kind c.args.word c.if-kind.false) c.push_number-else-kind.ensures
