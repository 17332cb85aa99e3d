-- What a capture holds: packets of 1 to 65,535 bytes, and nothing else.
use Rattle.std.specs.Prelude.{ℕ, ◌≤◌, ◌≡◌, List, [], ◌∷◌, ◌++◌, length}
use Rattle.wire.specs.Bytes.{pair_bytes, AllBytes}
use Rattle.wire.specs.Told.{given}
use Rattle.capture_reader.specs.Capture.{packets_of}

-- packets, each behind its length
abbrev pub framed : List (List ℕ) → List ℕ
framed [] = []
framed (p ∷ ps) = pair_bytes (length p) ++ p ++ framed ps

abbrev pub captured : List (List ℕ) → List ℕ
captured ps = 1 ∷ framed ps

-- each is of 1 to 65,535 bytes
abbrev pub Sizes : List (List ℕ) → Type 0
Sizes [] = Unit {0}
Sizes (p ∷ ps) = (1 ≤ length p) × (length p ≤ 65535) × Sizes ps

-- every list of such packets can be read from its capture
abbrev pub CapturesHold : Type 0
CapturesHold = (ps : List (List ℕ)) → Sizes ps → packets_of (captured ps) ≡ given ps

-- bytes from which packets can be read are the capture of these packets
abbrev pub CapturesOnly : Type 0
CapturesOnly = (bytes : List ℕ) (ps : List (List ℕ)) → AllBytes bytes → packets_of bytes ≡ given ps → (bytes ≡ captured ps) × Sizes ps
