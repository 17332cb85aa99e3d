-- What a writer of a message with strings tells of its size lies within the output.
use Prim.Native.Nat.{ℕ, ◌≤◌, zero-le}
use mathlib.Core.Path.{◌≡◌, refl, ap}
use mathlib.Core.Bool.{Bool, true, false, cond}
use mathlib.Core.List.{List, []}
use native.Mathlib.Omega.{arith}
use lib.ListN.{length}
use lib.Seq.{sets, length-sets}
use lib.Dec.{ltb}
use borrow.Author.Tests.{ltb-false}
use Rattle.wire.specs.Told.{WrittenOf, given, refused, written}
use Rattle.proto_writer.specs.Writer.{Field, message_bytes}
use Rattle.proto_strings.specs.declared.TextFault.{TextFault}
use Rattle.std.specs.Prelude.{⊤, Result, Ok, Err}
use Rattle.proto_strings.specs.declared.TextWriteRefusal.{TextWriteRefusal}
use Rattle.proto_strings.specs.Texts.{first_fault, faulted, alone_written, writes_texts, why_of_fault, told_text_wrote}
use Rattle.proto_writer.specs.Message.{wrote_size}

module _ (out l : List ℕ) (fields : List Field) where
  abbrev message : List ℕ
  message = message_bytes fields

  text-done : (n : ℕ) (fault : Result ⊤ TextFault) (bad short : Bool) → ltb (length out) (length message) ≡ short
      → written {N = ℕ × List ℕ} (given n) l
      ≡ cond bad (written (refused (15, [])) out) (faulted fault out (alone_written (cond bad (written (refused 15) out) (cond short (written (refused 14) out) (written (given (length message)) (sets out 0 message))))))
      → n ≤ length l
  text-done n (Ok u) false false s e =
      let t : given n ≡ given (length message) = ap (λ (w : WrittenOf (ℕ × List ℕ) ℕ). w.told) e in
      let m : n ≡ length message = cc in
      let k : l ≡ sets out 0 message = ap (λ (w : WrittenOf (ℕ × List ℕ) ℕ). w.out) e in
      omega (arith, ap length k, length-sets out 0 message, ltb-false (length out) (length message) s)
  text-done n (Ok u) false true s e =
      absurd (let t : given n ≡ refused (14, []) = ap (λ (w : WrittenOf (ℕ × List ℕ) ℕ). w.told) e in let z : ◌≡◌ {A = ℕ} 0 1 = cc in omega arith)
  text-done n (Ok u) true short s e =
      absurd (let t : given n ≡ refused (15, []) = ap (λ (w : WrittenOf (ℕ × List ℕ) ℕ). w.told) e in let z : ◌≡◌ {A = ℕ} 0 1 = cc in omega arith)
  text-done n (Err fault) false short s e =
      absurd (let t : given n ≡ refused (why_of_fault fault) = ap (λ (w : WrittenOf (ℕ × List ℕ) ℕ). w.told) e in let z : ◌≡◌ {A = ℕ} 0 1 = cc in omega arith)
  text-done n (Err fault) true short s e =
      absurd (let t : given n ≡ refused (15, []) = ap (λ (w : WrittenOf (ℕ × List ℕ) ℕ). w.told) e in let z : ◌≡◌ {A = ℕ} 0 1 = cc in omega arith)

  pub text-size : (w : Result ℕ TextWriteRefusal) (bad : Bool) (strings : List (ℕ × List ℕ)) → written (told_text_wrote w) l ≡ writes_texts bad strings fields out → wrote_size w ≤ length l
  text-size (Ok n) bad strings e = text-done n (first_fault strings) bad (ltb (length out) (length message)) refl e
  text-size (Err why) bad strings e = zero-le
