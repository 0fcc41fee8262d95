-- The function that was read is the one of its number.
use Rattle.std.proofs.Common.{◌≡◌, ℕ, ◌<◌, List, length, get_or, Some, refl, sym, ap, subst, ◌∙◌}
use Rattle.std.specs.Prelude.{slice_get}
use Rattle.std.proofs.lemmas.Option.{same_Some, slice_get_read, slice_get_within}
use Rattle.cfa.specs.declared.parts.Function.{Function}

pub there_within : (functions read : List Function) (entry : ℕ) (there : Function) → read ≡ functions → slice_get functions entry ≡ Some there → entry < length read
there_within functions read entry there same at = subst (λ (fs : List Function). entry < length fs) (sym same) (slice_get_within functions entry there at)

pub own_function : (functions read : List Function) (entry : ℕ) (f there : Function) → read ≡ functions → f ≡ get_or read entry f → slice_get functions entry ≡ Some there → slice_get functions entry ≡ Some f
own_function functions read entry f there same is at =
    ap (λ (fs : List Function). slice_get fs entry) (sym same) ∙ slice_get_read read (length read) entry f refl (there_within functions read entry there same at) is

pub own_same : (functions read : List Function) (entry : ℕ) (f there : Function) → read ≡ functions → f ≡ get_or read entry f → slice_get functions entry ≡ Some there → f ≡ there
own_same functions read entry f there same is at = same_Some f there (sym (own_function functions read entry f there same is at) ∙ at)
