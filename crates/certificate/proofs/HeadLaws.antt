-- The heads of the formula and of the derivation.
use Rattle.std.proofs.Common.{◌≡◌, ℕ, ◌<◌, ◌^◌, false, List, [], ◌∷◌, ◌++◌, length, take, refl, sym, ◌∙◌, ap, arith}
use Rattle.std.specs.Prelude.{nat_eq}
use Rattle.std.specs.Fmt.{decimal}
use Rattle.std.proofs.lemmas.List.Folds.{list_any-append}
use Rattle.cnf.specs.Dimacs.{head_text}
use Rattle.certificate.specs.Certificates.{derivation_head}
use Rattle.certificate.specs.Numbers.{has_byte}
use Rattle.certificate.proofs.RowLaws.{decimal_lacks, cut_once}

pub same_tail : (front a b : List ℕ) → front ++ a ≡ front ++ b → a ≡ b
same_tail [] a b e = e
same_tail (x ∷ xs) a b e = let tails : xs ++ a ≡ xs ++ b = cc in same_tail xs a b tails

pub head_lacks : (v c : ℕ) → v < 2 ^ 64 → c < 2 ^ 64 → has_byte 10 (head_text v c) ≡ false
head_lacks v c h s =
    list_any-append (λ b. nat_eq b 10) (decimal v) (32 ∷ decimal c)
    ∙ rw (decimal_lacks 10 v (omega arith) h, decimal_lacks 10 c (omega arith) s) refl

pub derivation_head_lacks : (n : ℕ) → n < 2 ^ 64 → has_byte 10 (derivation_head n) ≡ false
derivation_head_lacks n s = decimal_lacks 10 n (omega arith) s

-- the front of a text
pub front_is : (prefix more : List ℕ) → take (length prefix) (prefix ++ more) ≡ prefix
front_is [] more = refl
front_is (x ∷ xs) more = ap (λ (ys : List ℕ). x ∷ ys) (front_is xs more)

pub not_front : (text front prefix more : List ℕ) → front ≡ take (length prefix) text → (front ≡ prefix → ⊥) → text ≡ prefix ++ more → ⊥
not_front text front prefix more e other f = other (e ∙ ap (take (length prefix)) f ∙ front_is prefix more)

-- two counts with a space between
pub counts_parts : (counts a b : List ℕ) (v c : ℕ) → counts ≡ a ++ 32 ∷ b → has_byte 32 a ≡ false → v < 2 ^ 64 → counts ≡ decimal v ++ 32 ∷ decimal c → (a ≡ decimal v) × (b ≡ decimal c)
counts_parts counts a b v c e h s f = cut_once 32 a b (decimal v) (decimal c) h (decimal_lacks 32 v (omega arith) s) (sym e ∙ f)

-- a line with its line feed
pub line_is : (text line rest other more : List ℕ) → text ≡ line ++ 10 ∷ rest → has_byte 10 line ≡ false → has_byte 10 other ≡ false → text ≡ other ++ 10 ∷ more → line ≡ other
line_is text line rest other more e h g f = (cut_once 10 line rest other more h g (sym e ∙ f)).0
