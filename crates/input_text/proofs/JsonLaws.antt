-- Texts that are JSON, and those that aren't.
use Rattle.std.proofs.Common.{◌≡◌, ℕ, Bool, true, false, cond, List, refl, sym}
use Rattle.std.specs.Prelude.{IsUtf8, Option, None, Some}
use Rattle.std.specs.Str.{is_utf8}
use Rattle.std.proofs.lemmas.Str.{IsUtf8-from_is_utf8, is_utf8-from_IsUtf8}
use Rattle.serde_json.specs.Data.{Data}
use Rattle.serde_json.specs.Read.{read}
use Rattle.input_text.specs.Json.{json_of}

pub json_there : (bytes : List ℕ) (d : Data) → IsUtf8 bytes × (read bytes ≡ Some d) → Some d ≡ json_of bytes
json_there bytes d is = rw (is_utf8-from_IsUtf8 bytes is.0) (sym is.1)

missing : (bytes : List ℕ) (whole : Bool) → is_utf8 bytes ≡ whole → (IsUtf8 bytes → read bytes ≡ None) → None ≡ cond whole (read bytes) None
missing bytes true is none = sym (none (IsUtf8-from_is_utf8 bytes is))
missing bytes false is none = refl

pub json_missing : (bytes : List ℕ) → (IsUtf8 bytes → read bytes ≡ None) → None ≡ json_of bytes
json_missing bytes none = missing bytes (is_utf8 bytes) refl none
