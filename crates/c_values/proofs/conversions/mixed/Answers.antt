use Rattle.c_values.proofs.Ranks.{mixed-high}
use Rattle.c_values.proofs.conversions.mixed.Goals as goal

pub returns-else-with_sign-without : goal.returns-else-with_sign-without
returns-else-with_sign-without c =
    mixed-high c.args.with_sign c.args.without c.requires.left c.requires.right c.requires.signed c.requires.unsigned c.if-with_sign-without.false
