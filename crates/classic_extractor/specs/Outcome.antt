-- What a call reports, in the words and numbers of docs/FORMATS.md.
use Rattle.std.specs.Prelude.{ℕ, Result, Ok, Err}
use Rattle.classic_extractor.specs.declared.outcome.Refusal.{Refusal}
use Rattle.classic_extractor.specs.declared.outcome.Refusal.TheVariants.{BadStateOrBuffer, StartInside, BadEscape, EarlyEnd, BadHeader, TooLong, BadChecksum}
use Rattle.classic_extractor.specs.declared.outcome.StepOutcome.{StepOutcome}
use Rattle.classic_extractor.specs.declared.outcome.StepOutcome.TheVariants as outcome
use Rattle.classic_extractor.specs.declared.outcome.Frame.{Frame}

pub data Report : Type 0 where
  skipped taken all_used : Report
  frame : ℕ → ℕ → Report
  refused : ℕ → Report

abbrev pub number_of : Refusal → ℕ
number_of BadStateOrBuffer = 1
number_of StartInside = 20
number_of BadEscape = 23
number_of EarlyEnd = 21
number_of BadHeader = 22
number_of TooLong = 24
number_of BadChecksum = 25

abbrev pub told : StepOutcome → Report
told outcome.Skipped = skipped
told outcome.Taken = taken
told (outcome.Frame f) = frame f.sequence f.len
told (outcome.Refused r) = refused (number_of r)

-- .. where the end mark stands
abbrev pub told_end : Result Frame Refusal → Report
told_end (Ok f) = frame f.sequence f.len
told_end (Err r) = refused (number_of r)
