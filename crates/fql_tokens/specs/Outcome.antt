-- Cutting from left to right, and what the call answers by it. Nothing that is promised speaks of this.
use Rattle.std.specs.Prelude.{ℕ, zero, suc, ◌+◌, nat_le, if◌then◌else◌, List, [], length, drop, Result, Ok, Err}
use Rattle.fq_core.specs.declared.refusal.Place.TheVariants as place
use Rattle.fq_core.specs.declared.refusal.Fault.{Fault}
use Rattle.fql_tokens.specs.declared.token.Token.{Token}
use Rattle.fql_tokens.specs.declared.first.Mode.{Mode}
use Rattle.fql_tokens.specs.declared.first.Mode.TheVariants as modes
use Rattle.fql_tokens.specs.declared.first.Beginning.{Beginning}
use Rattle.fql_tokens.specs.declared.first.Beginning.TheVariants as begins
use Rattle.fql_tokens.specs.First.{beginning}
use Rattle.fql_tokens.specs.Cuts.{Cutting, accepted, stopped, after, with_token}
use Rattle.fql_tokens.specs.Limits.{most_bytes, most_brackets, is_too_deep}
use Rattle.fq_core.specs.Refusals.{refusal}

-- the next token or blank, and then what a reader of the rest gives
abbrev pub Reader : Type 0
Reader = ℕ → Mode → List ℕ → Cutting

abbrev pub cut_by : Reader → Beginning → ℕ → Mode → List ℕ → Cutting
cut_by r begins.End c m bs = accepted []
cut_by r begins.Blank c m bs = r (c + 1) m (drop 1 bs)
cut_by r (begins.Token s k) c m bs = with_token (record { sign = s; column = c }) (r (c + k) (after m s) (drop k bs))
cut_by r begins.Unknown c m bs = stopped c

-- at most n tokens and blanks
unfoldable pub cut_at : ℕ → Reader
cut_at zero c m bs = accepted []
cut_at (suc n) c m bs = cut_by (cut_at n) (beginning m bs) c m bs

unfoldable pub cutting : List ℕ → Cutting
cutting text = cut_at (length text) 1 modes.Plain text

abbrev pub by_cutting : Cutting → Result (List Token) Fault
by_cutting (accepted ts) = Ok ts
by_cutting (stopped column) = Err (refusal 60 (place.Query column))

abbrev pub by_depth : Result (List Token) Fault → Result (List Token) Fault
by_depth (Ok ts) = if is_too_deep ts then Err (refusal 63 (place.Limit most_brackets)) else Ok ts
by_depth (Err e) = Err e

unfoldable pub text_outcome : List ℕ → Result (List Token) Fault
text_outcome text = if nat_le (length text) most_bytes then by_depth (by_cutting (cutting text)) else Err (refusal 63 (place.Limit most_bytes))
