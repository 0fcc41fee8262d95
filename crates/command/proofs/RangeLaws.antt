-- The numbers in the words are within their ranges.
use Rattle.std.proofs.Common.{◌≡◌, ℕ, ◌≤◌, List, [], ◌∷◌, length, Some, None, refl, subst, arith}
use Rattle.std.specs.Prelude.{Bool, true, false, ◌&&◌, nat_le, nat_lt, if◌then◌else◌, codes, Option, IfSome, option_and_then, option_map}
use Rattle.std.specs.Char.{is_ascii_digit}
use Rattle.std.specs.List.{list_all}
use Rattle.std.specs.Str.{bytes_eq}
use Rattle.std.specs.Str.Parse.{digits_value}
use Rattle.std.proofs.lemmas.Bool.{leb-true}
use Rattle.c_meaning.specs.declared.ends.Ends.{Ends}
use Rattle.command_words.specs.declared.command_option.CommandOption.{CommandOption}
use Rattle.command_words.specs.declared.command_option.CommandOption.TheVariants.{Steps, Turns, Frames, Answers, Ends as ends_option, Budget, Json}
use Rattle.command_words.specs.declared.requests.Bounds.{Bounds}
use Rattle.command_words.specs.Reading.{Text, Use, reading, values}
use Rattle.command_words.specs.Request as asks
use Rattle.command_words.specs.Request.{Asked, asked_by, bounds_checked, bounds_of, bounds_proved, bounds_with, check_bounds_of, check_of, checked, events_of, generate_of, generated, goal_in, goals_of, graph_of, least_of, listed, lowered, measure_of, measured, number_in, number_of, of_bounds, positionals_of, printed, prove_bounds_of, prove_of, proved, replay_of, replayed, request_of, run_for_events, run_on_trees, run_with, runs_of, sample_of, sampled, suffice_of, sufficed, traced, traces_of, trees_of}
use Rattle.command.specs.Ranges.{AreBounds, IsInRange}

-- ---- numbers

module _ (least most : ℕ) where
  abbrev IsWithin : ℕ → Type 0
  IsWithin n = (least ≤ n) × (n ≤ most)

  by_test : (a b c : Bool) (n : ℕ) → IfSome (if a && (b && (c && (nat_le least n && nat_le n most))) then Some n else None) IsWithin
  by_test false b c n = tt
  by_test true false c n = tt
  by_test true true false n = tt
  by_test true true true n = by_both (nat_le least n) (nat_le n most) refl refl
    where
      by_both : (low high : Bool) → nat_le least n ≡ low → nat_le n most ≡ high → IfSome (if low && high then Some n else None) IsWithin
      by_both false high is_low is_high = tt
      by_both true false is_low is_high = tt
      by_both true true is_low is_high = (leb-true _ _ is_low, leb-true _ _ is_high)

  number_within : (text : Text) → IfSome (number_in least most text) IsWithin
  number_within text = by_test (nat_lt 0 (length text)) (nat_le (length text) 10) (list_all is_ascii_digit text) (digits_value 10 text)

  option_within : (default : ℕ) (texts : List Text) → IsWithin default → IfSome (number_of least most default texts) IsWithin
  option_within default [] ok = ok
  option_within default (text ∷ []) ok = number_within text
  option_within default (text ∷ other ∷ texts) ok = tt

bounds_within : (turns frames answers : Option ℕ) → IfSome frames (IsWithin 1 64) → IfSome answers (IsWithin 0 256) → IfSome (bounds_with turns frames answers) AreBounds
bounds_within (Some t) (Some f) (Some a) low high = (low.0, high.1)
bounds_within (Some t) (Some f) None low high = tt
bounds_within (Some t) None answers low high = tt
bounds_within None frames answers low high = tt

-- ---- what the words of each command ask for

module _ (a : Asked) where
  -- where something that is in range is asked for, what is asked for is in range
  asked_is : (other : Asked) → IsInRange other → Some other ≡ Some a → IsInRange a
  asked_is other ok is = subst IsInRange (cc) ok

  none_asked : None ≡ Some a → IsInRange a
  none_asked is = absurd (cc)

  numbered : (number : Option ℕ) (make : ℕ → Asked) (least most : ℕ) → IfSome number (IsWithin least most) → ((n : ℕ) → IsWithin least most n → IsInRange (make n))
      → option_map make number ≡ Some a → IsInRange a
  numbered None make least most ok each is = none_asked is
  numbered (Some n) make least most ok each is = asked_is (make n) (each n ok) is

  generated_within : (words : List Text) (bounds : Option Bounds) (ends : Option Ends) (budget : Option ℕ) (json : Option Bool)
      → IfSome bounds AreBounds → generated words bounds ends budget json ≡ Some a → IsInRange a
  generated_within (entry ∷ query ∷ source ∷ sources) (Some b) (Some e) (Some n) (Some j) ok is = asked_is _ ok is
  generated_within words bounds ends budget json ok is = none_asked is

  proved_within : (words : List Text) (bounds : Option Bounds) (ends : Option Ends) (budget : Option ℕ)
      → IfSome bounds AreBounds → proved words bounds ends budget ≡ Some a → IsInRange a
  proved_within (entry ∷ query ∷ number ∷ source ∷ sources) (Some b) (Some e) (Some n) ok is =
      numbered (goal_in number) _ 1 10000 (number_within 1 10000 number) (λ goal within. (ok, within.0)) is
  proved_within words bounds ends budget ok is = none_asked is

  checked_within : (words : List Text) (bounds : Option Bounds) (ends : Option Ends) → IfSome bounds AreBounds → checked words bounds ends ≡ Some a → IsInRange a
  checked_within (entry ∷ query ∷ number ∷ certificate ∷ source ∷ sources) (Some b) (Some e) ok is =
      numbered (goal_in number) _ 1 10000 (number_within 1 10000 number) (λ goal within. (ok, within.0)) is
  checked_within words bounds ends ok is = none_asked is

  sufficed_within : (words : List Text) (bounds : Option Bounds) (budget : Option ℕ) → IfSome bounds AreBounds → sufficed words bounds budget ≡ Some a → IsInRange a
  sufficed_within (entry ∷ source ∷ sources) (Some b) (Some n) ok is = asked_is _ ok is
  sufficed_within words bounds budget ok is = none_asked is

  bounds_proved_within : (words : List Text) (bounds : Option Bounds) (budget : Option ℕ) → IfSome bounds AreBounds → bounds_proved words bounds budget ≡ Some a → IsInRange a
  bounds_proved_within (entry ∷ source ∷ sources) (Some b) (Some n) ok is = asked_is _ ok is
  bounds_proved_within words bounds budget ok is = none_asked is

  bounds_checked_within : (words : List Text) (bounds : Option Bounds) → IfSome bounds AreBounds → bounds_checked words bounds ≡ Some a → IsInRange a
  bounds_checked_within (entry ∷ certificate ∷ source ∷ sources) (Some b) ok is = asked_is _ ok is
  bounds_checked_within words bounds ok is = none_asked is

  lowered_within : (words : List Text) (bounds : Option Bounds) (ends : Option Ends) (budget : Option ℕ)
      → IfSome bounds AreBounds → lowered words bounds ends budget ≡ Some a → IsInRange a
  lowered_within (entry ∷ query ∷ number ∷ source ∷ sources) (Some b) (Some e) (Some n) ok is =
      numbered (goal_in number) _ 1 10000 (number_within 1 10000 number) (λ goal within. (ok, within.0)) is
  lowered_within words bounds ends budget ok is = none_asked is

  traced_within : (words : List Text) (steps : Option ℕ) (ends : Option Ends) → traced words steps ends ≡ Some a → IsInRange a
  traced_within (entry ∷ inputs ∷ source ∷ sources) (Some n) (Some e) is = asked_is _ tt is
  traced_within words steps ends is = none_asked is

  replayed_within : (words : List Text) (ends : Option Ends) (json : Option Bool) → replayed words ends json ≡ Some a → IsInRange a
  replayed_within (entry ∷ query ∷ traces ∷ source ∷ sources) (Some e) (Some j) is = asked_is _ tt is
  replayed_within words ends json is = none_asked is

  printed_within : (words : List Text) → printed words ≡ Some a → IsInRange a
  printed_within [] is = none_asked is
  printed_within (source ∷ sources) is = asked_is (asks.graph (source ∷ sources)) tt is

  sampled_within : (words : List Text) → sampled words ≡ Some a → IsInRange a
  sampled_within [] is = none_asked is
  sampled_within (number ∷ []) is = numbered (number_in 1 200 number) _ 1 200 (number_within 1 200 number) (λ n within. within) is
  sampled_within (number ∷ other ∷ words) is = none_asked is

  measured_within : (words : List Text) (steps : Option ℕ) (ends : Option Ends) (json : Option Bool) → measured words steps ends json ≡ Some a → IsInRange a
  measured_within (entry ∷ query ∷ inputs ∷ source ∷ sources) (Some n) (Some e) (Some j) is = asked_is _ tt is
  measured_within words steps ends json is = none_asked is

  listed_within : (words : List Text) → listed words ≡ Some a → IsInRange a
  listed_within (query ∷ source ∷ sources) is = asked_is _ tt is
  listed_within words is = none_asked is

  run_within : (words : List Text) (steps : Option ℕ) → run_with words steps ≡ Some a → IsInRange a
  run_within (entry ∷ inputs ∷ source ∷ sources) (Some n) is = asked_is _ tt is
  run_within words steps is = none_asked is

  trees_within : (words : List Text) (steps : Option ℕ) → run_on_trees words steps ≡ Some a → IsInRange a
  trees_within (entry ∷ inputs ∷ source ∷ sources) (Some n) is = asked_is _ tt is
  trees_within words steps is = none_asked is

  events_within : (words : List Text) (steps : Option ℕ) → run_for_events words steps ≡ Some a → IsInRange a
  events_within (entry ∷ inputs ∷ source ∷ sources) (Some n) is = asked_is _ tt is
  events_within words steps is = none_asked is

  -- ---- by the name of the command

  bounds_ok : (uses : List Use) → IfSome (bounds_of uses) AreBounds
  bounds_ok uses = bounds_within _ _ _ (option_within 1 64 8 (values (codes "frames") uses) (omega arith, omega arith)) (option_within 0 256 16 (values (codes "answers") uses) (omega arith, omega arith))

  read_uses : (f : List Use → Option Asked) → ((uses : List Use) → f uses ≡ Some a → IsInRange a) → (uses : Option (List Use)) → option_and_then f uses ≡ Some a → IsInRange a
  read_uses f each None is = none_asked is
  read_uses f each (Some uses) is = each uses is

  asked_within : (f : List Use → Option Asked) (options : List CommandOption) (words : List Text) → ((uses : List Use) → f uses ≡ Some a → IsInRange a)
      → asked_by f options words ≡ Some a → IsInRange a
  asked_within f options words each is = read_uses f each (reading options words None) is

  choose : (test : Bool) (x y : Option Asked) → (x ≡ Some a → IsInRange a) → (y ≡ Some a → IsInRange a) → (if test then x else y) ≡ Some a → IsInRange a
  choose true x y left right is = left is
  choose false x y left right is = right is

  of_bounds_within : (name : Text) (words : List Text) → of_bounds name words ≡ Some a → IsInRange a
  unfolding of_bounds
  of_bounds_within name words is =
      choose (bytes_eq name (codes "bounds")) _ _ (asked_within suffice_of (Turns ∷ Frames ∷ Answers ∷ Budget ∷ []) words (λ uses. sufficed_within _ _ _ (bounds_ok uses)))
      (choose (bytes_eq name (codes "prove-bounds")) _ _ (asked_within prove_bounds_of (Turns ∷ Frames ∷ Answers ∷ Budget ∷ []) words (λ uses. bounds_proved_within _ _ _ (bounds_ok uses)))
      (choose (bytes_eq name (codes "check-bounds")) _ _ (asked_within check_bounds_of (Turns ∷ Frames ∷ Answers ∷ []) words (λ uses. bounds_checked_within _ _ (bounds_ok uses)))
      none_asked)) is

  -- what words ask for is in range
  pub in_range : (words : List Text) → request_of words ≡ Some a → IsInRange a
  in_range [] is = none_asked is
  in_range (name ∷ words) is =
      choose (bytes_eq name (codes "measure")) _ _ (asked_within measure_of (Steps ∷ ends_option ∷ Json ∷ []) words (λ uses. measured_within _ _ _ _))
      (choose (bytes_eq name (codes "generate")) _ _ (asked_within generate_of (Turns ∷ Frames ∷ Answers ∷ ends_option ∷ Budget ∷ Json ∷ []) words (λ uses. generated_within _ _ _ _ _ (bounds_ok uses)))
      (choose (bytes_eq name (codes "goals")) _ _ (asked_within goals_of [] words (λ uses. listed_within (positionals_of uses)))
      (choose (bytes_eq name (codes "runs")) _ _ (asked_within runs_of (Steps ∷ []) words (λ uses. run_within _ _))
      (choose (bytes_eq name (codes "prove")) _ _ (asked_within prove_of (Turns ∷ Frames ∷ Answers ∷ ends_option ∷ Budget ∷ []) words (λ uses. proved_within _ _ _ _ (bounds_ok uses)))
      (choose (bytes_eq name (codes "check")) _ _ (asked_within check_of (Turns ∷ Frames ∷ Answers ∷ ends_option ∷ []) words (λ uses. checked_within _ _ _ (bounds_ok uses)))
      (choose (bytes_eq name (codes "least")) _ _ (asked_within least_of (Turns ∷ Frames ∷ Answers ∷ ends_option ∷ Budget ∷ []) words (λ uses. lowered_within _ _ _ _ (bounds_ok uses)))
      (choose (bytes_eq name (codes "traces")) _ _ (asked_within traces_of (Steps ∷ ends_option ∷ []) words (λ uses. traced_within _ _ _))
      (choose (bytes_eq name (codes "replay")) _ _ (asked_within replay_of (ends_option ∷ Json ∷ []) words (λ uses. replayed_within _ _ _))
      (choose (bytes_eq name (codes "trees")) _ _ (asked_within trees_of (Steps ∷ []) words (λ uses. trees_within _ _))
      (choose (bytes_eq name (codes "events")) _ _ (asked_within events_of (Steps ∷ []) words (λ uses. events_within _ _))
      (choose (bytes_eq name (codes "graph")) _ _ (asked_within graph_of [] words (λ uses. printed_within (positionals_of uses)))
      (choose (bytes_eq name (codes "sample")) _ _ (asked_within sample_of [] words (λ uses. sampled_within (positionals_of uses))) (of_bounds_within name words))))))))))))) is
