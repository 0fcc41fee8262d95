-- What was read stays, as more is read.
use Rattle.std.proofs.Common.{◌++◌, ℕ, zero, suc, ◌+◌, ◌<◌, List, [], ◌∷◌, length, Option, None, Some, get_or, take, refl, sym, subst, arith}
use Rattle.std.specs.Prelude.{IsSome}
use Rattle.std.proofs.lemmas.List.{take_more}
use Rattle.std.specs.Option.{option_or}
use Rattle.std.specs.List.{All}
use Rattle.std.proofs.lemmas.List.Elements.{All-append}
use Rattle.fq_io.specs.MemoryFiles.{content_of}
use Rattle.fq_io_recorded.specs.declared.wanted.Wanted.{Wanted}
use Rattle.fq_io_recorded.specs.Read.{AreThere}
use Rattle.fq_io_recorded.proofs.Found.{content_more}

some_left : {X : Type 0} (a b : Option X) → IsSome a → IsSome (option_or a b)
some_left None b h = cc
some_left (Some x) b h = refl

-- what is told of a name is told of it as more is told
pub stays_there : (texts more : List (List ℕ × List ℕ)) (n : List ℕ) → IsSome (content_of texts n) → IsSome (content_of (texts ++ more) n)
stays_there texts more n h = subst (λ (o : Option (List ℕ)). IsSome o) (sym (content_more texts more n)) (some_left _ _ h)

all_of_one : {X : Type 0} (P : X → Type 0) (x : X) → P x → All P (x ∷ [])
all_of_one P x p zero d lt = p
all_of_one P x p (suc k) d lt = absurd (omega arith)

-- so are those before and one more
pub there_more : (texts more : List (List ℕ × List ℕ)) (all : List Wanted) (i : ℕ) (d : Wanted) → i < length all
    → AreThere texts (take i all) → IsSome (content_of (texts ++ more) (get_or all i d).name.now) → AreThere (texts ++ more) (take (i + 1) all)
there_more texts more all i d lt before last =
    let P : Wanted → Type 0 = λ (wanted : Wanted). IsSome (content_of (texts ++ more) wanted.name.now) in
    subst (λ (ws : List Wanted). All P ws) (sym (take_more all i d lt))
    (All-append P (take i all) (get_or all i d ∷ []) (λ k e below. stays_there texts more _ (before k e below)) (all_of_one P (get_or all i d) last))
