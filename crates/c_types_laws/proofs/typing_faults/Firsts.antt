-- The first fault of a unit of texts is told in one way.
use Rattle.std.proofs.Common.{◌≡◌, ℕ, false, sym, ◌∙◌, arith}
use Rattle.std.specs.Prelude.{slice_get, ◌==◌, if◌then◌else◌}
use Rattle.std.proofs.lemmas.Bool.Decides.{Decides-eqb, nat_tests}
use Rattle.fq_core.specs.declared.refusal.Place.{Place}
use Rattle.fq_core.specs.declared.refusal.Place.TheVariants as place
use Rattle.c_types_laws.proofs.tree_contents.Items.{items_pass}
use Rattle.c_type_rules.specs.declared.faults.Found.{Found}
use Rattle.c_type_rules.specs.Faults.{is_before}
use Rattle.c_types.specs.Refusal.{place_of_fault}
use Rattle.c_types_laws.specs.typing_faults.Laws.{FaultsOfTexts, OneRefusal, line_in}
use Rattle.c_types_laws.proofs.typing_faults.Lines.{any_number, line_passes, texts_pass}
use Rattle.c_types_laws.proofs.typing_faults.Units.{lie_in_the_unit}

pub of_texts : FaultsOfTexts
of_texts texts tokens items cut derived f among =
    let lies = lie_in_the_unit any_number (line_passes texts) items (items_pass any_number (line_passes texts) derived (texts_pass texts tokens cut)) f among in
    (lies.0, (Decides-eqb f.span.line (line_in (slice_get texts f.span.file) f.span.start)).0 lies.1)

-- ---- two faults of which neither is before the other

same_file : (f g : Found) → is_before f g ≡ false → is_before g f ≡ false → f.span.file ≡ g.span.file
same_file f g p q = grind (arith, nat_tests)

same_start : (f g : Found) → is_before f g ≡ false → is_before g f ≡ false → f.span.start ≡ g.span.start
same_start f g p q = grind (arith, nat_tests)

same_code : (f g : Found) → is_before f g ≡ false → is_before g f ≡ false → f.code ≡ g.code
same_code f g p q = grind (arith, nat_tests)

abbrev told_by : ℕ → ℕ → ℕ → Place
told_by code file line = if code == 34 then place.Limit 1024 else if code == 37 then place.Limit 16384 else place.Source file line

pub one_refusal : OneRefusal
one_refusal texts tokens items cut derived code other p q r s =
    let f = r.found in
    let g = s.found in
    let before = s.first.1 f r.first.0 in
    let behind = r.first.1 g s.first.0 in
    let file = same_file f g before behind in
    let start = same_start f g before behind in
    let line : f.span.line ≡ g.span.line = (of_texts texts tokens items cut derived f r.first.0).1 ∙ (λ i. line_in (slice_get texts (file i)) (start i)) ∙ sym (of_texts texts tokens items cut derived g s.first.0).1 in
    let codes = same_code f g before behind in
    let told : place_of_fault f ≡ place_of_fault g = λ i. told_by (codes i) (file i) (line i) in
    (r.code_is ∙ codes ∙ sym s.code_is, r.place_is ∙ told ∙ sym s.place_is)
