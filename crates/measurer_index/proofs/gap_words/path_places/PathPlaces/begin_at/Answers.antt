use Rattle.std.proofs.Common.{◌≡◌, ◌≤◌, [], ◌∙◌, length, sym, ap, subst}
use Rattle.std.specs.Prelude.{slice_index, slice_index_or}
use Rattle.std.specs.Option.{unwrap_or}
use Rattle.std.proofs.lemmas.Option.{unwrap_or-slice_get}
use Rattle.measurer_index.specs.gap_words.Parts.{IsBegin}
use Rattle.measurer_index.specs.gap_words.Placed.{Placed}
use Rattle.measurer_index.proofs.gap_words.Begins.{no_table, one_table}
use Rattle.measurer_index.proofs.gap_words.path_places.PathPlaces.begin_at.Goals as goal

pub returns-in-None : goal.returns-in-None
returns-in-None c =
    subst (λ (v : Placed). IsBegin (slice_index_or v.sets c.args.place []) v.edges c.args.state c.args.state) c.self.view_is
    (no_table c.self.inside.sets.now c.self.inside.edges c.self.inside.begins c.args.place c.args.state c.self.invariant.1 c.in-None.ensures)

pub returns-in-Some : goal.returns-in-Some
returns-in-Some c =
    let table = c.in-Some.begins.now in
    let read : c.unwrap_or.result ≡ slice_index table c.args.state = c.unwrap_or.ensures ∙ ap (λ o. unwrap_or o 0) (c.copied.ensures ∙ c.get-in-Some.ensures) ∙ unwrap_or-slice_get table c.args.state 0 in
    let le = subst (λ (v : Placed). c.args.state ≤ length v.edges) (sym c.self.view_is) c.requires in
    subst (λ (v : Placed). IsBegin (slice_index_or v.sets c.args.place []) v.edges c.args.state c.unwrap_or.result) c.self.view_is
    (subst (λ b. IsBegin (slice_index_or c.self.inside.sets.now c.args.place []) c.self.inside.edges c.args.state b) (sym read)
    (one_table c.self.inside.sets.now c.self.inside.edges c.self.inside.begins c.args.place c.args.state c.self.invariant.1 table c.in-Some.ensures le))
