-- Members that are taken away.
use Rattle.std.proofs.Common.{◌≡◌, ℕ, inl, inr, Bool, true, false, List, [], ◌∷◌, ◌++◌, get_or, sym, subst}
use Rattle.std.specs.List.{Contains}
use Rattle.std.proofs.lemmas.List.Elements.{Contains-push_cases}

-- the last member is no longer known, and no other number is new
pub cleared : (known forgotten : List Bool) (members rest : List ℕ) (member : ℕ) → members ≡ rest ++ member ∷ []
    → ((n : ℕ) → get_or forgotten n false ≡ true → (get_or known n false ≡ true) × (n ≡ member → ⊥)) → ((n : ℕ) → get_or known n false ≡ true → Contains members n) → (n : ℕ) → get_or forgotten n false ≡ true → Contains rest n
cleared known forgotten members rest member is forget kept n h =
    let f = forget n h in
    elim (Contains-push_cases rest member n (subst (λ xs. Contains xs n) is (kept n f.0))) [ inl x ↦ x | inr e ↦ absurd (f.1 (sym e)) ]
