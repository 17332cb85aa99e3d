-- Laws of what writers of messages with strings tell and leave.
use Prim.Native.Nat.{ℕ}
use mathlib.Core.Path.{◌≡◌, refl, sym, ap, ◌∙◌}
use mathlib.Core.Bool.{Bool, true, false, cond, true≢false}
use mathlib.Core.List.{List, [], ◌∷◌}
use lib.ListN.{length}
use borrow.Author.Tests.{eq-eqb}
use Rattle.wire.specs.Told.{Told, alone, refused, written}
use Rattle.utf8.specs.WellFormed.{WellFormed, bad_place}
use Rattle.utf8.proofs.Places.{well-formed-whole}
use Rattle.proto_writer.specs.Writer.{Field}
use Rattle.proto_writer.specs.Message.{writes_message}
use Rattle.std.specs.Prelude.{Ok, Err}
use Rattle.proto_strings.specs.declared.TextFault.{TextFault}
use Rattle.proto_strings.specs.Texts.{or_text, fault_from, first_fault, AllWellFormed, why_of_fault, faulted, alone_written, writes_texts}

-- no fault is found in strings that are well formed
well-none : (field : ℕ) (s : List ℕ) → WellFormed s → or_text field s (Ok tt) ≡ Ok tt
well-none field s w = rw (eq-eqb (bad_place s) (length s) (well-formed-whole s w))

pub well-faultless : (strings : List (ℕ × List ℕ)) → AllWellFormed strings → first_fault strings ≡ Ok tt
well-faultless [] w = refl
well-faultless (t ∷ ts) w = rw (well-none t.0 t.1 w.0) (well-faultless ts w.1)

-- a fault that was found stays, whatever strings come after it
pub fault-stays : (fault : TextFault) (strings : List (ℕ × List ℕ)) → Err fault ≡ fault_from (Err fault) strings
fault-stays fault [] = refl
fault-stays fault (t ∷ ts) = fault-stays fault ts

taken : {A : Type 0} (t : Bool) (x y : A) → t ≡ false → cond t x y ≡ y
taken true x y e = absurd (true≢false e)
taken false x y e = refl

module _ (bad : Bool) (strings : List (ℕ × List ℕ)) (fields : List Field) (out : List ℕ) where
  pub texts-bad : bad ≡ true → written (refused (15, [])) out ≡ writes_texts bad strings fields out
  texts-bad b = rw b

  rest : bad ≡ false → writes_texts bad strings fields out ≡ faulted (first_fault strings) out (alone_written (writes_message bad fields out))
  rest b = taken bad _ _ b

  pub texts-fault : (fault : TextFault) → bad ≡ false → first_fault strings ≡ Err fault → written (refused (why_of_fault fault)) out ≡ writes_texts bad strings fields out
  texts-fault fault b e = sym (rest b ∙ ap (λ f. faulted f out (alone_written (writes_message bad fields out))) e)

  pub texts-wrote : (t : Told ℕ) (l : List ℕ) → bad ≡ false → first_fault strings ≡ Ok tt → written t l ≡ writes_message bad fields out → written (alone t) l ≡ writes_texts bad strings fields out
  texts-wrote t l b e w = ap alone_written w ∙ sym (rest b ∙ ap (λ f. faulted f out (alone_written (writes_message bad fields out))) e)
