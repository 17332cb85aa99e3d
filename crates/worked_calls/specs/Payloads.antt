-- The longest payload that a record of an outbox takes: what is left, and one table whose rows all hold.
use Rattle.std.specs.Prelude.{◌≡◌, Bool, true, false, List, [], ◌∷◌, map}
use Rattle.outbox.specs.Writer.{bad_record}
use Rattle.outbox.specs.Format.{version_one, version_two}

unfoldable pub payloads_rows : List (Bool × Bool)
payloads_rows =
    -- the longest payload of each version: pins bad_record
    (bad_record version_one 6 4097, true)
    ∷ (bad_record version_two 6 65535, false)
    ∷ (bad_record version_two 6 65536, true)
    ∷ []

-- each call leaves what its row says
unfoldable pub PayloadLimits : Type 0
PayloadLimits = map (λ c. c.0) payloads_rows ≡ map (λ c. c.1) payloads_rows
