-- What writers of messages with strings tell and leave.
use Rattle.std.specs.Prelude.{ℕ, Bool, cond, List, [], ◌∷◌, length, eqb, ⊤, Result, Ok, Err}
use Rattle.wire.specs.Told.{ToldMore, told_by, alone, refused, Written, WrittenOf, written}
use Rattle.utf8.specs.WellFormed.{WellFormed, bad_place}
use Rattle.proto_writer.specs.Writer.{Field}
use Rattle.proto_writer.specs.Message.{number_of, writes_message}
use Rattle.proto_strings.specs.declared.TextFault.{TextFault}
use Rattle.proto_strings.specs.declared.TextWriteRefusal.{TextWriteRefusal}
use Rattle.proto_strings.specs.declared.TextWriteRefusal.TheVariants.{Refused, BadText}

-- a fault that was found stays; where none was, a string is judged
abbrev pub or_text : ℕ → List ℕ → Result ⊤ TextFault → Result ⊤ TextFault
or_text field s (Ok u) = cond (eqb (bad_place s) (length s)) (Ok u) (Err (record { field = field; place = bad_place s }))
or_text field s (Err fault) = Err fault

abbrev pub fault_from : Result ⊤ TextFault → List (ℕ × List ℕ) → Result ⊤ TextFault
fault_from fault [] = fault
fault_from fault (t ∷ ts) = fault_from (or_text t.0 t.1 fault) ts

-- the first of these strings, each with its field, that is not well formed
abbrev pub first_fault : List (ℕ × List ℕ) → Result ⊤ TextFault
first_fault strings = fault_from (Ok tt) strings

-- all of them are well formed
abbrev pub AllWellFormed : List (ℕ × List ℕ) → Type 0
AllWellFormed [] = Unit {0}
AllWellFormed (t ∷ ts) = WellFormed t.1 × AllWellFormed ts

-- 36, with the field and the place
abbrev pub why_of_fault : TextFault → ℕ × List ℕ
why_of_fault fault = (36, fault.field ∷ fault.place ∷ [])

-- the fault's refusal, or what is left to judge
abbrev pub faulted : {A : Type 0} → Result ⊤ TextFault → List ℕ → WrittenOf (ℕ × List ℕ) A → WrittenOf (ℕ × List ℕ) A
faulted (Ok u) out rest = rest
faulted (Err fault) out rest = written (refused (why_of_fault fault)) out

-- nothing goes with the number
abbrev pub alone_written : Written ℕ → WrittenOf (ℕ × List ℕ) ℕ
alone_written w = written (alone w.told) w.out

-- a message with strings: 15, then 36 in writing order, then 14
abbrev pub writes_texts : Bool → List (ℕ × List ℕ) → List Field → List ℕ → WrittenOf (ℕ × List ℕ) ℕ
writes_texts bad strings fields out =
    cond bad (written (refused (15, [])) out) (faulted (first_fault strings) out (alone_written (writes_message bad fields out)))

-- the number of a refusal, and what goes with it
abbrev pub why_of : TextWriteRefusal → ℕ × List ℕ
why_of (Refused why) = (number_of why, [])
why_of (BadText fault) = why_of_fault fault

-- the answers of these writers
abbrev pub told_text_wrote : Result ℕ TextWriteRefusal → ToldMore ℕ
told_text_wrote = told_by why_of
