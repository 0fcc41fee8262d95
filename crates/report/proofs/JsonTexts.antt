-- Bytes as JSON texts.
use Rattle.std.proofs.Common.{◌≡◌, ℕ, ◌+◌, ◌<◌, Bool, true, false, cond, List, ◌++◌, length, map, drop, get_or, refl, arith, append_assoc}
use Rattle.std.specs.Prelude.{IsUtf8, encode_utf8, nat_lt}
use Rattle.std.proofs.lemmas.Bool.{ltb-true}
use Rattle.std.proofs.lemmas.List.{drop_more}
use Rattle.std.specs.Str.{is_utf8}
use Rattle.std.proofs.lemmas.Str.{IsUtf8-from_is_utf8, encode_ascii, is_utf8-from_IsUtf8}
use Rattle.report.specs.Json.{json_text, masked}

pub utf8_text : (bytes : List ℕ) → IsUtf8 bytes → json_text bytes ≡ bytes
utf8_text bytes is = rw (is_utf8-from_IsUtf8 bytes is) refl

other : (bytes : List ℕ) (whole : Bool) → is_utf8 bytes ≡ whole → (IsUtf8 bytes → ⊥) → cond whole bytes (map masked bytes) ≡ map masked bytes
other bytes true is not = absurd (not (IsUtf8-from_is_utf8 bytes is))
other bytes false is not = refl

pub other_text : (bytes : List ℕ) → (IsUtf8 bytes → ⊥) → json_text bytes ≡ map masked bytes
other_text bytes not = other bytes (is_utf8 bytes) refl not

-- ---- bytes above 127

masked_small : (byte : ℕ) → masked byte < 128
masked_small byte = by byte _ refl
  where
    by : (byte : ℕ) (small : Bool) → nat_lt byte 128 ≡ small → cond small byte 63 < 128
    by byte true is = ltb-true byte 128 is
    by byte false is = omega arith

-- one more byte
pub masked_more : (new old whole : List ℕ) (ch : ℕ) (bytes : List ℕ) (i d : ℕ) → i < length bytes → ch ≡ masked (get_or bytes i d)
    → new ≡ old ++ encode_utf8 ch → old ++ map masked (drop i bytes) ≡ whole → new ++ map masked (drop (i + 1) bytes) ≡ whole
masked_more new old whole ch bytes i d within ch_is new_is all =
    rw (new_is, ch_is, encode_ascii (masked (get_or bytes i d)) (masked_small (get_or bytes i d)), append_assoc) (rw (drop_more bytes i d within) at all)
