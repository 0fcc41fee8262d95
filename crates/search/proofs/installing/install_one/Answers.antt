use Rattle.std.proofs.Common.{refl}
use Rattle.std.proofs.lemmas.Int.{to_z-of_z}
use Rattle.search.proofs.InstallLaws.{installed_one}
use Rattle.search.proofs.installing.install_one.Goals as goal

pub returns-in_ok-push-in-Stays : goal.returns-in_ok-push-in-Stays
returns-in_ok-push-in-Stays c =
    let made = rw (c.in-Stays.is, to_z-of_z _ _ c.ranges.literal) at c.in_ok-visit.ensures in
    let pushed = rw (to_z-of_z _ _ c.ranges.literal) at c.in_ok-push-in-Stays.ensures.items in
    installed_one c.args.formula.now c.args.budget c.make_true.new.machine c.args.watching.now _ c.args.literal c.args.place made.0 c.requires.clause made.1 refl pushed refl
