-- Words that are equal, and sets of words.
use Rattle.std.proofs.Common.{◌≡◌, Bool, true, false, if◌then◌else◌, ◌||◌, List, [], ◌∷◌, ◌++◌, map, Vec, Global, refl, sym, ap, ◌∙◌}
use Rattle.std.specs.Cmp.Lexicographic.{pointwise}
use Rattle.std.specs.List.{list_any}
use Rattle.std.proofs.lemmas.List.{map-append}
use Rattle.std.proofs.lemmas.Grind.{fold-append}
use Rattle.indexmap.specs.IndexSet.{insert_key, insert_all}
use Rattle.goals.specs.Words.{Word, same_letter, same_word}
use Rattle.goals.specs.contracts.goal_letter as contracts
use Rattle.goals.specs.declared.goal_letter.GoalLetter.{GoalLetter}
use Rattle.goals.specs.declared.goal_letter.GoalLetter.TheVariants.{Node, Edge, Predicate, Absent, Quoted}

pub letters_same : (a b : GoalLetter) → contracts.GoalLetterPartialEq.TheImpl.ghosts.eq a b ≡ same_letter a b
letters_same (Node m) (Node n) = refl
letters_same (Node m) (Edge n) = refl
letters_same (Node m) (Predicate n) = refl
letters_same (Node m) (Absent n) = refl
letters_same (Node m) (Quoted n) = refl
letters_same (Edge m) (Node n) = refl
letters_same (Edge m) (Edge n) = refl
letters_same (Edge m) (Predicate n) = refl
letters_same (Edge m) (Absent n) = refl
letters_same (Edge m) (Quoted n) = refl
letters_same (Predicate m) (Node n) = refl
letters_same (Predicate m) (Edge n) = refl
letters_same (Predicate m) (Predicate n) = refl
letters_same (Predicate m) (Absent n) = refl
letters_same (Predicate m) (Quoted n) = refl
letters_same (Absent m) (Node n) = refl
letters_same (Absent m) (Edge n) = refl
letters_same (Absent m) (Predicate n) = refl
letters_same (Absent m) (Absent n) = refl
letters_same (Absent m) (Quoted n) = refl
letters_same (Quoted m) (Node n) = refl
letters_same (Quoted m) (Edge n) = refl
letters_same (Quoted m) (Predicate n) = refl
letters_same (Quoted m) (Absent n) = refl
letters_same (Quoted m) (Quoted n) = refl

module _ {A T : Type 0} (items : A → T) (eq : A → A → Bool) (same : T → T → Bool) (agree : (a b : A) → eq a b ≡ same (items a) (items b)) where
  any_same : (k : A) (ks : List A) → list_any (eq k) ks ≡ list_any (same (items k)) (map items ks)
  any_same k [] = refl
  any_same k (x ∷ xs) = λ i. agree k x i || any_same k xs i

  -- an insertion, seen through the items
  pub insert_seen : (ks : List A) (k : A) → map items (insert_key eq ks k) ≡ insert_key same (map items ks) (items k)
  insert_seen ks k = by (list_any (eq k) ks) refl
    where
      by : (b : Bool) → list_any (eq k) ks ≡ b → map items (insert_key eq ks k) ≡ insert_key same (map items ks) (items k)
      by true e = ap (λ b. map items (if b then ks else ks ++ k ∷ [])) e
          ∙ sym (ap (λ b. if b then map items ks else map items ks ++ items k ∷ []) (sym (any_same k ks) ∙ e))
      by false e = ap (λ b. map items (if b then ks else ks ++ k ∷ [])) e ∙ map-append items ks (k ∷ [])
          ∙ sym (ap (λ b. if b then map items ks else map items ks ++ items k ∷ []) (sym (any_same k ks) ∙ e))

abbrev pub word_items : Vec GoalLetter Global → Word
word_items v = v.items

abbrev pub vec_eq : Vec GoalLetter Global → Vec GoalLetter Global → Bool
vec_eq a b = pointwise contracts.GoalLetterPartialEq.TheImpl.ghosts.eq a.items b.items

-- one more word in a set of words
pub word_inserted : (set : List (Vec GoalLetter Global)) (v : Vec GoalLetter Global) (word : Word) (seen : List Word) → word_items v ≡ word → map word_items set ≡ insert_all same_word [] seen
    → map word_items (insert_key vec_eq set v) ≡ insert_all same_word [] (seen ++ word ∷ [])
word_inserted set v word seen e h =
    insert_seen word_items vec_eq same_word (λ a b. λ i. pointwise (λ x y. letters_same x y i) a.items b.items) set v
    ∙ (λ i. insert_key same_word (h i) (e i)) ∙ sym (fold-append (insert_key same_word) [] seen (word ∷ []))
