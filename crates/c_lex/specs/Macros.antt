-- The replacement of macros (ISO/IEC 9899:2011, 6.10.3 and 6.10.3.4). What `tokens` promises rests on this module.
use Rattle.std.specs.Prelude.{◌≡◌, ◌⊎◌, ℕ, zero, suc, Bool, true, false, List, [], ◌∷◌, ◌++◌, Option, Some, None, option_map, if◌then◌else◌}
use Rattle.std.specs.Str.{bytes_eq}
use Rattle.c_lex.specs.declared.macros.Replacement.{Replacement}
use Rattle.c_lex.specs.declared.macros.Macro.{Macro}

-- the list of the macro of a name
unfoldable pub macro_of : List Macro → List ℕ → Option (List Replacement)
macro_of [] name = None
macro_of (m ∷ ms) name = if bytes_eq m.name name then Some m.list else macro_of ms name

-- the index of the macro of a name in the table
unfoldable pub index_of : List Macro → List ℕ → Option ℕ
index_of [] name = None
index_of (m ∷ ms) name = if bytes_eq m.name name then Some 0 else option_map suc (index_of ms name)

-- the list of the macro at an index of the table
unfoldable pub list_at : List Macro → ℕ → List Replacement
list_at [] i = []
list_at (m ∷ ms) zero = m.list
list_at (m ∷ ms) (suc i) = list_at ms i

-- the tokens give these, with so many replacements: the word of a macro is replaced by the macro's list, which is then
-- read along with the tokens that follow, so that the words of macros in it are replaced in turn (6.10.3.4p1)
pub data Expands (table : List Macro) : List Replacement → List Replacement → ℕ → Type 0 where
  nothing : Expands table [] [] 0
  stays : {r : Replacement} {rs us : List Replacement} {n : ℕ} → macro_of table r.text ≡ None → Expands table rs us n
      → Expands table (r ∷ rs) (r ∷ us) n
  is_replaced : {r : Replacement} {rs us : List Replacement} {n : ℕ} (list : List Replacement) → macro_of table r.text ≡ Some list
      → Expands table (list ++ rs) us n → Expands table (r ∷ rs) us (suc n)

-- the replacement of these tokens meets the word of the macro at an index of the table: it is one of them, or the
-- replacement of one of them meets it (6.10.3.4p1)
pub data Meets (table : List Macro) : List Replacement → ℕ → Type 0 where
  here : {r : Replacement} {rs : List Replacement} {p : ℕ} → index_of table r.text ≡ Some p → Meets table (r ∷ rs) p
  within : {r : Replacement} {rs : List Replacement} {p : ℕ} (q : ℕ) → index_of table r.text ≡ Some q → Meets table (list_at table q) p
      → Meets table (r ∷ rs) p
  later : {r : Replacement} {rs : List Replacement} {p : ℕ} → Meets table rs p → Meets table (r ∷ rs) p

-- the replacement of these tokens meets a word that is met within its own replacement (6.10.3.4p2)
abbrev pub Loops : List Macro → List Replacement → Type 0
Loops table rs = (p : ℕ) × Meets table rs p × Meets table (list_at table p) p

-- the replacement of these tokens has an end
abbrev pub Ends : List Macro → List Replacement → Type 0
Ends table rs = (us : List Replacement) × (n : ℕ) × Expands table rs us n

-- the answer to whether the replacement of these tokens loops
abbrev pub LoopsOrEnds : List Macro → List Replacement → Bool → Type 0
LoopsOrEnds table rs true = Loops table rs
LoopsOrEnds table rs false = Ends table rs

-- no replacement that loops has an end
abbrev pub LoopsHaveNoEnd : Type 0
LoopsHaveNoEnd = (table : List Macro) (rs : List Replacement) → Loops table rs → Ends table rs → ⊥

-- each replacement loops or has an end
abbrev pub AllLoopOrEnd : Type 0
AllLoopOrEnd = (table : List Macro) (rs : List Replacement) → Loops table rs ⊎ Ends table rs
