use Rattle.std.proofs.Common.{◌≡◌, ◌++◌, List, [], ◌∷◌, None, Some, ℕ, ap, sym, subst, ◌∙◌}
use Rattle.fq_io_recorded.specs.declared.handed.Handed.{Handed}
use Rattle.fq_io_recorded.specs.declared.handed.Text.{Text}
use Rattle.fq_io_recorded.specs.Handed.{AreAll, AreTold, first_of, times_of_file}
use Rattle.fq_io_recorded.proofs.Found.{all_added, first_added, others_added, told_added}
use Rattle.fq_io_recorded.proofs.handed_files.HandedFiles.add.Goals as goal

module _ (files now : List Handed) (file : Handed) (name : List ℕ) (same : file.name ≡ name) (pushed : now ≡ files ++ file ∷ []) where
  its_times : first_of files name ≡ None → times_of_file (first_of now name) ≡ file.times
  its_times none =
      let there : first_of (files ++ file ∷ []) file.name ≡ Some file = first_added files ([]) file (ap (first_of files) same ∙ none) in
      ap times_of_file (ap (λ (fs : List Handed). first_of fs name) pushed ∙ ap (first_of (files ++ file ∷ [])) (sym same) ∙ there)

  the_others : (other : List ℕ) → (other ≡ name → ⊥) → first_of now other ≡ first_of files other
  the_others other apart = ap (λ (fs : List Handed). first_of fs other) pushed ∙ others_added files ([]) file other (λ e. apart (e ∙ same))

pub returns-clause-times : goal.returns-clause-times
returns-clause-times c =
    its_times c.args.self.now.files.items c.push.new.self.items (record { name = c.in_ok-name.name; text = c.args.text; times = 1 }) c.args.name.now (c.in_ok-name.ensures ∙ c.as_bytes.ensures.value) c.in_ok-push.ensures.items c.requires

pub returns-clause-others : goal.returns-clause-others
returns-clause-others c other apart =
    the_others c.args.self.now.files.items c.push.new.self.items (record { name = c.in_ok-name.name; text = c.args.text; times = 1 }) c.args.name.now (c.in_ok-name.ensures ∙ c.as_bytes.ensures.value) c.in_ok-push.ensures.items other apart

pub invariant_of-self-2 : goal.invariant_of-self-2
invariant_of-self-2 c =
    let files : List Handed = c.args.self.now.files.items in
    let told : List (List ℕ × Text) = c.args.self.now.told.items in
    let file : Handed = record { name = c.in_ok-name.name; text = c.args.text; times = 1 } in
    record {
      are_told = subst (λ (fs : List Handed). AreTold fs c.and-told.result.items) (sym c.in_ok-push.ensures.items) (subst (AreTold (files ++ file ∷ [])) (sym c.and-told.ensures) (told_added files told file c.args.self.now.are_all c.args.self.now.are_told));
      are_all = subst (λ (fs : List Handed). AreAll fs c.and-told.result.items) (sym c.in_ok-push.ensures.items) (subst (AreAll (files ++ file ∷ [])) (sym c.and-told.ensures) (all_added files told file c.args.self.now.are_all));
    }
