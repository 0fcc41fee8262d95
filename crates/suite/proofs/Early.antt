-- What early searches tell, and the goals that are noted as refuted.
use Rattle.std.proofs.Common.{◌≡◌, ◌⊎◌, ℕ, zero, suc, ◌<◌, inl, inr, Bool, true, false, List, [], ◌∷◌, replicate, get_or, set, Some, refl, subst}
use Rattle.std.specs.Prelude.{slice_get}
use Rattle.std.proofs.lemmas.List.{get_or-replicate, length-replicate}
use Rattle.std.proofs.lemmas.Option.{get_or_from_slice_get, slice_get_within}
use Rattle.cnf.specs.declared.formula.Formula.{Formula}
use Rattle.search.specs.Nexts.{IsEnd, IsFound}
use Rattle.search.specs.declared.found.Found.{Found}
use Rattle.search.specs.declared.found.Found.TheVariants as found

-- what ends a search is what a whole one may answer
pub end_found : (formula : Formula) (budget : ℕ) (f : Found) → IsEnd formula budget f → IsFound formula budget f
end_found formula budget (found.Model model) h = h
end_found formula budget (found.NoModel derivation) h = h
end_found formula budget (found.Spent history) h = absurd h

-- no goal is noted at first
pub none_noted : (n place : ℕ) → slice_get (replicate n false) place ≡ Some true → ⊥
none_noted n place h =
    let lt : place < n = subst (λ k. place < k) (length-replicate n false) (slice_get_within (replicate n false) place true h) in
    let one : get_or (replicate n false) place false ≡ true = get_or_from_slice_get (replicate n false) place true false h in
    let other : get_or (replicate n false) place false ≡ false = get_or-replicate n place false false lt in
    absurd cc

-- and one more where one is noted
pub noted_more : (xs : List Bool) (at place : ℕ) → slice_get (set xs at true) place ≡ Some true → (place ≡ at) ⊎ (slice_get xs place ≡ Some true)
noted_more [] at place h = inr h
noted_more (x ∷ xs) zero zero h = inl refl
noted_more (x ∷ xs) zero (suc place) h = inr h
noted_more (x ∷ xs) (suc at) zero h = inr h
noted_more (x ∷ xs) (suc at) (suc place) h = elim (noted_more xs at place h) [ inl e ↦ (let s : suc place ≡ suc at = cc in inl s) | inr e ↦ inr e ]
