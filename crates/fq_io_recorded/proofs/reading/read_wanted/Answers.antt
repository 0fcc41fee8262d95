use Rattle.std.proofs.Common.{◌≡◌, ◌++◌, ℕ, ◌+◌, ◌<◌, List, [], length, Option, Some, get_or, take, sym, subst, ◌∙◌, inr, arith}
use Rattle.std.specs.Prelude.{IsSome, slice_get}
use Rattle.std.specs.List.{All}
use Rattle.std.proofs.lemmas.List.Elements.{All-append}
use Rattle.std.proofs.lemmas.Option.{slice_get-get_or}
use Rattle.fq_io.specs.MemoryFiles.{content_of}
use Rattle.fq_io_recorded.specs.declared.wanted.Wanted.{Wanted}
use Rattle.fq_io_recorded.specs.HandedFiles.{file_of, texts, times_of}
use Rattle.std.proofs.lemmas.List.{take_all}
use Rattle.fq_io_recorded.specs.Read.{AreThere, IsOfWanted, Stands, times_wanted}
use Rattle.fq_io_recorded.specs.Times.{times_with_one}
use Rattle.fq_io_recorded.proofs.Often.{few_wanted, often_more, some_more}
use Rattle.fq_io_recorded.proofs.Read.{there_more}
use Rattle.fq_io_recorded.proofs.reading.read_wanted.Goals as goal

abbrev first : Wanted
first = record { name = record { ref_ptr = (0, 0); now = [] }; most = 0 }

-- what is read of the next file stands behind the others
stand_more : (holds now : List ℕ → Option (List ℕ)) (all : List Wanted) (texts longer more : List (List ℕ × List ℕ)) (w : Wanted) (i : ℕ) → slice_get all i ≡ Some w → now ≡ holds → longer ≡ texts ++ more
    → All (λ (e : List ℕ × List ℕ). (e.0 ≡ w.name.now) × Stands now w e.1) more → All (IsOfWanted holds all) texts → All (IsOfWanted holds all) longer
stand_more holds now all texts longer more w i one same is are before =
    let of : All (IsOfWanted holds all) more = λ k e below.
    (let it = are k e below in
    record { place = i; wanted = w; one = one; name = it.0; stands = subst (λ (h : List ℕ → Option (List ℕ)). Stands h w (get_or more k e).1) same it.1 }) in
    subst (λ (ts : List (List ℕ × List ℕ)). All (IsOfWanted holds all) ts) (sym is) (All-append (IsOfWanted holds all) texts more before of)

pub loop-wanted-preserved : goal.loop-wanted-preserved
loop-wanted-preserved g c =
    let more = c.in_ok-read_one.ensures.more in
    let all : List Wanted = c.args.all.now in
    let i : ℕ = c.loop-wanted.wanted-index in
    let lt : i < length all = c.loop-wanted-test.true in
    let here = c.in_ok-read_one.ensures.there c.if-not-branch.false in
    record {
      stand = stand_more (g.F.Files.holds c.args.from.now) (g.F.Files.holds c.loop-wanted.from) all (texts c.loop-wanted.files) (texts c.read_one.new.files) more.0 _ i (slice_get-get_or all i first lt) c.loop-wanted.invariant.same more.1 more.2 c.loop-wanted.invariant.stand;
      there = subst (λ (ts : List (List ℕ × List ℕ)). AreThere ts (take (i + 1) all)) (sym more.1)
          (there_more (texts c.loop-wanted.files) more.0 all i first lt c.loop-wanted.invariant.there (subst (λ (ts : List (List ℕ × List ℕ)). IsSome (content_of ts (get_or all i first).name.now)) more.1 here));
      times = λ name. often_more name all i first lt (file_of c.loop-wanted.files name) (file_of c.read_one.new.files name) (c.loop-wanted.invariant.times name) (c.loop-wanted.invariant.some name) (omega (arith, few_wanted name all i))
          (λ e. subst (λ (n : List ℕ). times_of c.read_one.new.files n ≡ times_with_one (file_of c.loop-wanted.files n)) (sym e) (c.in_ok-read_one.ensures.times c.if-not-branch.false)) (λ apart. c.in_ok-read_one.ensures.others name apart);
      some = λ name. some_more name all i first lt (file_of c.loop-wanted.files name) (file_of c.read_one.new.files name) (c.loop-wanted.invariant.times name) (c.loop-wanted.invariant.some name) (omega (arith, few_wanted name all i))
          (λ e. subst (λ (n : List ℕ). times_of c.read_one.new.files n ≡ times_with_one (file_of c.loop-wanted.files n)) (sym e) (c.in_ok-read_one.ensures.times c.if-not-branch.false)) (λ apart. c.in_ok-read_one.ensures.others name apart);
      same = c.in_ok-read_one.ensures.same_files ∙ c.loop-wanted.invariant.same;
      no_fault = c.in_ok-read_one.ensures.no_fault c.if-not-branch.false ∙ c.loop-wanted.invariant.no_fault;
    }

pub returns-clause-there : goal.returns-clause-there
returns-clause-there g c = inr (subst (AreThere (texts c.loop-wanted.files)) (take_all c.loop-wanted.wanted-index c.args.all.now c.loop-wanted-test.false) c.loop-wanted.invariant.there)

pub returns-clause-times : goal.returns-clause-times
returns-clause-times g c = inr (λ name. subst (λ (ws : List Wanted). times_of c.loop-wanted.files name ≡ times_wanted name ws) (take_all c.loop-wanted.wanted-index c.args.all.now c.loop-wanted-test.false) (c.loop-wanted.invariant.times name))
