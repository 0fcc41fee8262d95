-- What an answer says of the bytes that are told.
use Rattle.std.proofs.Common.{◌≡◌, ℕ, ◌<◌, ◌≤◌, ◌+◌, Bool, true, false, List, length, Option, Some, Ok, Err, refl, sym, ap, subst, ◌∙◌, arith}
use Rattle.std.proofs.lemmas.List.{length-replicate}
use Rattle.std.specs.Prelude.{Result, Vec, IfOk, IfSome, nat_eq, nat_le, replicate, vec_len, if◌then◌else◌}
use Rattle.std.specs.declared.alloc.Global.{Global}
use Rattle.std.proofs.lemmas.Bool.{eqb-false, leb-false, leb-true}
use Rattle.fq_io.specs.declared.files.FileFault.{FileFault}
use Rattle.fq_io.specs.declared.files.FileFault.TheVariants as fault
use Rattle.fq_io.specs.Faults.{OnTooLong}
use Rattle.fq_io_recorded.specs.declared.handed.Handed.{Handed}
use Rattle.fq_io_recorded.specs.declared.handed.Text.{Text}
use Rattle.fq_io_recorded.specs.declared.handed.Text.TheVariants.{Longer, Whole}
use Rattle.fq_io_recorded.specs.Answers.{IsAnswer, answer_of, answer_within, fails, gives, is_too_long}
use Rattle.fq_io_recorded.specs.Handed.{bytes_told}

abbrev pub Given : Type 0
Given = Result (Vec ℕ Global) FileFault

pub record Says (limit : ℕ) (held : Option (List ℕ)) (r : Given) : Type 0 where
  pub bytes : IfOk r (λ given. IfSome held (λ bytes. given.items ≡ bytes))
  pub short : IfOk r (λ given. vec_len given ≤ limit)
  pub too_long : OnTooLong r (IfSome held (λ bytes. limit < length bytes))

module _ (limit : ℕ) (held : Option (List ℕ)) where
  of_fault : (r : Given) → IsAnswer r fails → Says limit held r
  of_fault (Ok given) h = absurd h
  of_fault (Err fault.Failed) h = record { bytes = tt; short = tt; too_long = tt }
  of_fault (Err fault.TooLong) h = absurd h
  of_fault (Err fault.Memory) h = record { bytes = tt; short = tt; too_long = tt }

  of_bytes : (bytes : List ℕ) → length bytes ≤ limit → held ≡ Some bytes → (r : Given) → IsAnswer r (gives bytes) → Says limit held r
  of_bytes bytes short e (Ok given) h = record {
    bytes = subst (λ (o : Option (List ℕ)). IfSome o (λ bytes. given.items ≡ bytes)) (sym e) h;
    short = subst (λ (n : ℕ). n ≤ limit) (sym (given.ok.0 ∙ ap length h)) short;
    too_long = tt;
  }
  of_bytes bytes short e (Err fault.Failed) h = absurd h
  of_bytes bytes short e (Err fault.TooLong) h = absurd h
  of_bytes bytes short e (Err fault.Memory) h = record { bytes = tt; short = tt; too_long = tt }

  of_long : (bytes : List ℕ) → limit < length bytes → held ≡ Some bytes → (r : Given) → IsAnswer r is_too_long → Says limit held r
  of_long bytes long e (Ok given) h = absurd h
  of_long bytes long e (Err fault.Failed) h = absurd h
  of_long bytes long e (Err fault.TooLong) h = record {
    bytes = tt;
    short = tt;
    too_long = subst (λ (o : Option (List ℕ)). IfSome o (λ bytes. limit < length bytes)) (sym e) long;
  }
  of_long bytes long e (Err fault.Memory) h = record { bytes = tt; short = tt; too_long = tt }

  of_whole : (bytes : Vec ℕ Global) (b : Bool) → nat_le (length bytes.items) limit ≡ b → held ≡ Some bytes.items → (r : Given) → IsAnswer r (if b then gives bytes.items else is_too_long) → Says limit held r
  of_whole bytes true is e r h = of_bytes bytes.items (leb-true _ _ is) e r h
  of_whole bytes false is e r h = of_long bytes.items (leb-false _ _ is) e r h

  of_longer : (most : ℕ) (b : Bool) → nat_le limit most ≡ b → held ≡ Some (replicate (most + 1) 0) → (r : Given) → IsAnswer r (if b then is_too_long else fails) → Says limit held r
  of_longer most true is e r h =
      let within : limit ≤ most = leb-true _ _ is in
      of_long (replicate (most + 1) 0) (omega (arith, length-replicate {A = ℕ} (most + 1) 0, within)) e r h
  of_longer most false is e r h = of_fault r h

  of_text : (text : Text) → held ≡ Some (bytes_told text) → (r : Given) → IsAnswer r (answer_within limit text) → Says limit held r
  of_text (Whole bytes) e r h = of_whole bytes _ refl e r h
  of_text (Longer most) e r h = of_longer most _ refl e r h

  of_times : (file : Handed) (b : Bool) → nat_eq file.times 0 ≡ b → (0 < file.times → held ≡ Some (bytes_told file.text)) → (r : Given) → IsAnswer r (if b then fails else answer_within limit file.text) → Says limit held r
  of_times file true is e r h = of_fault r h
  of_times file false is e r h = of_text file.text (e (positive file.times is)) r h
    where
      positive : (n : ℕ) → nat_eq n 0 ≡ false → 0 < n
      positive n isnt = let apart = eqb-false n 0 isnt in omega (arith, apart)

  pub of_file : (file : Handed) → (0 < file.times → held ≡ Some (bytes_told file.text)) → (r : Given) → IsAnswer r (answer_of limit (Some file)) → Says limit held r
  of_file file e r h = of_times file _ refl e r h
