-- Device information worked by hand, read and written: strings that are not well formed, and their place among the other refusals.
use Rattle.std.specs.Prelude.{ℕ, ◌≡◌, List, [], ◌∷◌, map, pos, replicate}
use Rattle.wire.specs.Told.{ToldMore, ToldOf, given, refused, WrittenOf, written}
use Rattle.proto_field.specs.declared.value.Part.{Part}
use Rattle.msg_device.specs.declared.information.DeviceInformation.{DeviceInformation}
use Rattle.msg_device.specs.Information.{no_information, information_of, information_written}

abbrev pub part : ℕ → ℕ → Part
part start len = record { start = start; len = len }

-- ---- reading
-- its bytes, and what is told
pub record InformationCase : Type 0 where
  pub bytes : List ℕ
  pub told : ToldMore DeviceInformation

abbrev pub information_case : List ℕ → ToldMore DeviceInformation → InformationCase
information_case s t = record { bytes = s; told = t }

unfoldable pub information_cases : List InformationCase
information_cases =
    -- a name that is not well formed: replaced by an empty one; before a field that ends early; cut short
    information_case (0x12 ∷ 0x01 ∷ 0xFF ∷ 0x12 ∷ 0x00 ∷ []) (refused (36, 2 ∷ 0 ∷ []))
    ∷ information_case (0x12 ∷ 0x01 ∷ 0xFF ∷ 0x1A ∷ []) (refused (36, 2 ∷ 0 ∷ []))
    ∷ information_case (0x12 ∷ 0x02 ∷ 0xFF ∷ []) (refused (30, []))
    -- bytes of a field that is passed over
    ∷ information_case (0x2A ∷ 0x01 ∷ 0xFF ∷ []) (given no_information)
    -- a sequence broken off
    ∷ information_case (0x0A ∷ 0x04 ∷ 0x41 ∷ 0xE2 ∷ 0x82 ∷ 0x41 ∷ []) (refused (36, 1 ∷ 1 ∷ []))
    ∷ []

-- ---- writing
-- what a writer tells, and the output afterwards
pub record WriteCase (N : Type 0) : Type 0 where
  pub done : WrittenOf N ℕ
  pub expected : WrittenOf N ℕ

abbrev pub write_case : {N : Type 0} → WrittenOf N ℕ → ToldOf N ℕ → List ℕ → WriteCase N
write_case w t out = record { done = w; expected = written t out }

unfoldable pub information_writes : List (WriteCase (ℕ × List ℕ))
information_writes =
    -- nine transports, and a name that is not well formed; the name, before the device type and the room; the device type
    write_case (information_written [] (0xFF ∷ []) (replicate 9 (pos 0)) [] (9 ∷ [])) (refused (15, [])) (9 ∷ [])
    ∷ write_case (information_written [] (0x41 ∷ 0xFF ∷ []) (replicate 8 (pos 0)) (0x80 ∷ []) (9 ∷ [])) (refused (36, 2 ∷ 1 ∷ [])) (9 ∷ [])
    ∷ write_case (information_written [] (0x41 ∷ []) [] (0x80 ∷ []) (9 ∷ [])) (refused (36, 4 ∷ 0 ∷ [])) (9 ∷ [])
    -- the serial number, before the name
    ∷ write_case (information_written (0x41 ∷ 0xC3 ∷ []) (0xFF ∷ []) [] [] (9 ∷ [])) (refused (36, 1 ∷ 1 ∷ [])) (9 ∷ [])
    -- an output of one byte too few; of one more
    ∷ write_case (information_written [] (0x41 ∷ []) [] [] (9 ∷ 9 ∷ [])) (refused (14, [])) (9 ∷ 9 ∷ [])
    ∷ write_case (information_written [] (0x41 ∷ []) [] [] (9 ∷ 9 ∷ 9 ∷ 9 ∷ [])) (given 3) (0x12 ∷ 0x01 ∷ 0x41 ∷ 9 ∷ [])
    ∷ []

-- every line of the tables holds
unfoldable pub WorkedInformation : Type 0
WorkedInformation =
    (map (λ c. information_of c.bytes) information_cases ≡ map (λ c. c.told) information_cases)
    × (map (λ c. c.done) information_writes ≡ map (λ c. c.expected) information_writes)
