use Rattle.std.proofs.Common.{rules, ◌≡◌, ◌<◌, ℕ, length, get_or, ap, SFits, w32, to_z, of_z}
use Rattle.std.specs.Prelude.{ℤ}
use Rattle.std.proofs.lemmas.List.Sorted.{answers_always}
use Rattle.std.proofs.lemmas.Int.{to_z-of_z}
use Rattle.cnf.specs.Clauses.{literal_key}
use Rattle.cnf.proofs.ClauseLaws.{literals_of_clause}
use Rattle.cnf.proofs.literal_marks.PlacesLaws.{literal_fits, searched_place}
use Rattle.cnf.proofs.literal_marks.places.place_among.Goals as goal

pub returns : goal.returns
returns c =
    let fits = c.ranges.literal in
    let own = simp to_z-of_z at c.literal_key-key.ensures.value in
    let facts = c.binary_search_by_key.ensures in
    let by_key = facts.position (λ y. literal_key (to_z w32 (of_z w32 y))) (answers_always _ _ _ (λ f a r g called. search rules)) in
    let keys : (i : ℕ) (d : ℤ) → i < length c.literals.result.now → literal_key (to_z w32 (of_z w32 (get_or c.literals.result.now i d))) ≡ literal_key (get_or c.literals.result.now i d) =
    λ i d h. let item : SFits w32 (get_or c.literals.result.now i d) = literal_fits _ (literals_of_clause 0 _ c.literals.ensures.clause i d h).1 in ap literal_key (to_z-of_z _ _ item) in
    rw (c.ok.ensures.value, ← c.literals.ensures.value) (searched_place _ _ (λ y. literal_key (to_z w32 (of_z w32 y))) _ _ c.literals.ensures.clause keys own facts.bound by_key)
