-- What a call tells, and the table of refusals of docs/FORMATS.md.
use Rattle.std.specs.Prelude.{ℕ, Bool, cond, List, [], ◌∷◌, Result, Ok, Err}

-- what was asked for, or what a refusal tells
pub data ToldOf (N A : Type 0) : Type 0 where
  given : A → ToldOf N A
  refused : N → ToldOf N A

-- a refusal tells its number
abbrev pub Told : Type 0 → Type 0
Told A = ToldOf ℕ A

-- a refusal tells its number, and the numbers that go with it
abbrev pub ToldMore : Type 0 → Type 0
ToldMore A = ToldOf (ℕ × List ℕ) A

-- what a call gives, or what its refusal tells
abbrev pub told_by : {N A E : Type 0} → (E → N) → Result A E → ToldOf N A
told_by tells (Ok a) = given a
told_by tells (Err why) = refused (tells why)

-- 0, or the number of the refusal
abbrev pub number_told : {A : Type 0} → Told A → ℕ
number_told (given a) = 0
number_told (refused n) = n

-- go on with what was given, or stay refused
abbrev pub and_then : {N A B : Type 0} → ToldOf N A → (A → ToldOf N B) → ToldOf N B
and_then (given a) f = f a
and_then (refused n) f = refused n

-- nothing goes with the number
abbrev pub alone : {A : Type 0} → Told A → ToldMore A
alone (given a) = given a
alone (refused n) = refused (n, [])

-- a line of the table: its number, and whether what it says holds
pub record Line : Type 0 where
  pub number : ℕ
  pub holds : Bool

abbrev pub line : ℕ → Bool → Line
line n b = record { number = n; holds = b }

-- the first line that holds refuses by its number; where none does, the rest
abbrev pub table : {A : Type 0} → List Line → (ℕ → A) → A → A
table [] refuse rest = rest
table (r ∷ rs) refuse rest = cond r.holds (refuse r.number) (table rs refuse rest)

-- what a writer tells, and the lent output afterwards
pub record WrittenOf (N A : Type 0) : Type 0 where
  pub told : ToldOf N A
  pub out : List ℕ

abbrev pub Written : Type 0 → Type 0
Written A = WrittenOf ℕ A

abbrev pub written : {N A : Type 0} → ToldOf N A → List ℕ → WrittenOf N A
written t l = record { told = t; out = l }

-- a writer with its table: a refusal leaves the output as it was
abbrev pub writes : {A : Type 0} → List Line → A → List ℕ → List ℕ → Written A
writes lines a before after = table lines (λ n. written (refused n) before) (written (given a) after)
