-- The bytes that a sink gained are those of what was due.
use Rattle.std.proofs.Common.{◌≡◌, ℕ, List, ◌++◌, Option, Some, sym, subst}
use Rattle.std.specs.Io.KnownBytes.{Appends}
use Rattle.std.proofs.lemmas.List.{append_cancel_left}
use Rattle.command.specs.Outcome.{Gains, Writes}
use Rattle.command_laws.specs.printed_laws.Written.{Gained, WrittenIsDue}

same_gain : (w : Writes) (said bytes : List ℕ) → Gains w said → Gained w bytes → said ≡ bytes
same_gain w said bytes gains h =
    let told : Appends (Some h.front) (Some (h.front ++ bytes)) said = subst (λ (o : Option (List ℕ)). Appends (Some h.front) o said) h.after (subst (λ (o : Option (List ℕ)). Appends o w.after said) h.before gains) in
    append_cancel_left h.front said bytes (sym told)

pub written_is_due : WrittenIsDue
written_is_due r words out err watch bytes ended gained =
    record { said = ended.0; due = ended.1; done = ended.2; out = same_gain out ended.0.out bytes ended.3.0 gained }
