-- What a program writes, by the verdict on its file.
use Prim.Native.Nat.{ℕ, ◌≤◌, ◌<◌}
use mathlib.Core.Path.{◌≡◌, sym, ◌∙◌, ap, subst}
use mathlib.Core.List.{List, []}
use native.Mathlib.Nat.{le_refl}
use native.Mathlib.Omega.{arith}
use lib.ListN.{length, take}
use Rattle.std.proofs.Common.{None, Some, IfSome}
use Rattle.std.specs.Prelude.{Result, Ok, Err}
use Rattle.std.specs.declared.option.Option.{Option}
use Rattle.std.specs.Io.KnownBytes.{Appends}
use Rattle.rules.specs.declared.Edition.{Edition}
use Rattle.rules.specs.declared.Refusal.{Refusal}
use Rattle.rules.specs.Editions.{convert_call}
use Rattle.rules.specs.Listing.{Said, said, turned_from, refusal_line}
use Rattle.laws.proofs.VerdictLaws.{was_ok, was_err}
use Rattle.editions.specs.Converting.{Converts}
use Rattle.editions.proofs.EditionLaws.{with_room}
use Rattle.listing.specs.Putting.{Put}
use Rattle.listing.proofs.LongLaws.{front_turned}
use Rattle.listing.proofs.PutLaws.{put-fits, put-taken, put_front}
use Rattle.streams.specs.Filling.{Takes}
use Rattle.converter.specs.Replying.{sent, Replies, Says}

-- what is written on both streams is what the rules say of the file
said_by : {e : Edition} {file : List ℕ} {o o' r r' : Option (List ℕ)} (x : Said) → x ≡ turned_from e file → Appends o o' x.output → Appends r r' x.error → Says e file o o' r r'
said_by {e} {file} {o} {o'} {r} {r'} x same w v =
    record {
      written = subst (λ (y : Said). Appends o o' y.output) same w;
      complained = subst (λ (y : Said). Appends r r' y.error) same v;
    }

module _ {e : Edition} {file out : List ℕ} {answer : Result (Unit {0}) Refusal} {out' : List ℕ} (c : Converts e file out answer out') (room : length file ≤ length out) where
  -- an output that is longer than the file makes no difference
  same-room : convert_call e file (length out) ≡ convert_call e file (length file)
  same-room = with_room e file (length out) room ∙ sym (with_room e file (length file) (le_refl (length file)))

  pub file_replied : answer ≡ Ok tt → length out' ≡ length out → Replies e file (Ok (length file)) out'
  file_replied q long =
      let v = was_ok (λ turned. tt) (convert_call e file (length out)) (sym q ∙ c.answer) in
      record {
        counts = (omega arith, sym (c.converted q).as_long);
        says = ap (λ (x : List ℕ). record { output = x; error = [] }) (c.front v.0 v.1) ∙ sym (ap said (sym same-room ∙ v.1));
      }

  pub refusal_replied : {q : Refusal} {n : ℕ} {buffer : List ℕ} → answer ≡ Err q → Put out' 0 (refusal_line q) 14 n buffer → 14 ≤ length buffer → Replies e file (Err n) buffer
  refusal_replied {q} {n} {buffer} h p long =
      record {
        counts = (put-fits p long, put-taken p long);
        says =
            ap (λ (x : List ℕ). record { output = []; error = x }) (put_front p long)
            ∙ sym (ap said (sym same-room ∙ was_err (λ turned. tt) (convert_call e file (length out)) (sym h ∙ c.answer)));
      }

-- what is said of the file that a buffer was filled with is said of the whole input
pub input_said : {e : Edition} (known : Option (List ℕ)) (n : ℕ) (buffer : List ℕ) {o o' r r' : Option (List ℕ)} → 16528 < length buffer
    → Takes known (Ok n) buffer → Says e (take n buffer) o o' r r' → IfSome known (λ (file : List ℕ). Says e file o o' r r')
input_said None n buffer long t s = tt
input_said {e} (Some file) n buffer long t s = said_by (turned_from e (take n buffer)) (ap (turned_from e) t ∙ front_turned (length buffer) file long e) s.written s.complained

-- a known reply that was written to its end, on its stream
pub reply_said : {e : Edition} {file : List ℕ} {a b : Result ℕ ℕ} {buffer : List ℕ} {o o' r r' : Option (List ℕ)} → a ≡ b → Replies e file a buffer
    → Appends o o' (sent b buffer).output → Appends r r' (sent b buffer).error → Says e file o o' r r'
reply_said {e} {file} {a} {b} {buffer} q p = said_by (sent b buffer) (subst (λ (x : Result ℕ ℕ). sent x buffer ≡ turned_from e file) q p.says)
