-- Texts, called from C: what is left, and one table whose rows all hold.
use Rattle.std.specs.Prelude.{◌≡◌, List, [], ◌∷◌, map}
use Rattle.c_text.specs.Calls.{text_of}
use Rattle.c_rows.specs.Called.{Called, called}

unfoldable pub texts_rows : List (Called × Called)
texts_rows =
    -- pito_text: pins text_row, text_number, hidden_rows, is_hidden, hidden_place
    (text_of ([]) (9 ∷ []), called 1 [] [] (9 ∷ []))
    ∷ (text_of ([]) (9 ∷ 9 ∷ []), called 0 [] [] (0 ∷ 0 ∷ []))
    ∷ (text_of (0x20 ∷ 0x7E ∷ 0xC2 ∷ 0xA0 ∷ 0xC3 ∷ 0x9C ∷ 0xD7 ∷ 0x9C ∷ 0xD8 ∷ 0x9B ∷ 0xD8 ∷ 0x9D ∷ 0xD9 ∷ 0x9C ∷ 0xE1 ∷ 0x80 ∷ 0x8E ∷ 0xE2 ∷ 0x80 ∷ 0x8D ∷ 0xE2 ∷ 0x80 ∷ 0x90 ∷ 0xE2 ∷ 0x80 ∷ 0xA6 ∷ 0xE2 ∷ 0x80 ∷ 0xA7 ∷ 0xE2 ∷ 0x80 ∷ 0xAF ∷ 0xE2 ∷ 0x81 ∷ 0x8E ∷ 0xE2 ∷ 0x81 ∷ 0xA5 ∷ 0xE2 ∷ 0x81 ∷ 0xAA ∷ 0xE2 ∷ 0x82 ∷ 0xA6 ∷ 0xE3 ∷ 0x80 ∷ 0x8E ∷ 0xE1 ∷ 0x81 ∷ 0xA6 ∷ 0xE3 ∷ 0x81 ∷ 0xA6 ∷ 0xE1 ∷ 0x80 ∷ 0xA8 ∷ 0xE3 ∷ 0x80 ∷ 0xA8 ∷ []) (9 ∷ 9 ∷ []), called 0 [] [] (59 ∷ 59 ∷ []))
    ∷ (text_of (0x41 ∷ 0x00 ∷ []) (9 ∷ 9 ∷ []), called 0 [] [] (2 ∷ 1 ∷ []))
    ∷ (text_of (0x41 ∷ 0x1F ∷ []) (9 ∷ 9 ∷ []), called 0 [] [] (2 ∷ 1 ∷ []))
    ∷ (text_of (0x41 ∷ 0x7F ∷ []) (9 ∷ 9 ∷ []), called 0 [] [] (2 ∷ 1 ∷ []))
    ∷ (text_of (0xC3 ∷ 0x9C ∷ 0xC2 ∷ 0x80 ∷ []) (9 ∷ 9 ∷ []), called 0 [] [] (4 ∷ 2 ∷ []))
    ∷ (text_of (0xC2 ∷ 0x9F ∷ []) (9 ∷ 9 ∷ []), called 0 [] [] (2 ∷ 0 ∷ []))
    ∷ (text_of (0x41 ∷ 0xD8 ∷ 0x9C ∷ []) (9 ∷ 9 ∷ []), called 0 [] [] (3 ∷ 1 ∷ []))
    ∷ (text_of (0xE2 ∷ 0x80 ∷ 0x8E ∷ []) (9 ∷ 9 ∷ []), called 0 [] [] (3 ∷ 0 ∷ []))
    ∷ (text_of (0xE2 ∷ 0x80 ∷ 0x8F ∷ []) (9 ∷ 9 ∷ []), called 0 [] [] (3 ∷ 0 ∷ []))
    ∷ (text_of (0x41 ∷ 0xE2 ∷ 0x80 ∷ 0xA8 ∷ []) (9 ∷ 9 ∷ []), called 0 [] [] (4 ∷ 1 ∷ []))
    ∷ (text_of (0xE2 ∷ 0x80 ∷ 0xAE ∷ []) (9 ∷ 9 ∷ []), called 0 [] [] (3 ∷ 0 ∷ []))
    ∷ (text_of (0xE2 ∷ 0x81 ∷ 0xA6 ∷ []) (9 ∷ 9 ∷ []), called 0 [] [] (3 ∷ 0 ∷ []))
    ∷ (text_of (0xE2 ∷ 0x81 ∷ 0xA9 ∷ 0x41 ∷ []) (9 ∷ 9 ∷ []), called 0 [] [] (4 ∷ 0 ∷ []))
    ∷ (text_of (0x41 ∷ 0xFF ∷ 0x41 ∷ 0x1B ∷ []) (9 ∷ 9 ∷ []), called 36 [] [] (1 ∷ 3 ∷ []))
    ∷ (text_of (0xE2 ∷ 0x80 ∷ []) (9 ∷ 9 ∷ []), called 36 [] [] (0 ∷ 2 ∷ []))
    ∷ (text_of (0xC2 ∷ []) (9 ∷ 9 ∷ []), called 36 [] [] (0 ∷ 1 ∷ []))
    ∷ (text_of (0xC1 ∷ 0x80 ∷ []) (9 ∷ 9 ∷ []), called 36 [] [] (0 ∷ 2 ∷ []))
    ∷ (text_of (0xC2 ∷ 0x7F ∷ []) (9 ∷ 9 ∷ []), called 36 [] [] (0 ∷ 1 ∷ []))
    ∷ (text_of (0xE2 ∷ 0x7F ∷ 0x8E ∷ []) (9 ∷ 9 ∷ []), called 36 [] [] (0 ∷ 1 ∷ []))
    ∷ (text_of (0xE2 ∷ 0x7F ∷ 0xA8 ∷ []) (9 ∷ 9 ∷ []), called 36 [] [] (0 ∷ 1 ∷ []))
    ∷ []

-- each call leaves what its row says
unfoldable pub TextCalls : Type 0
TextCalls = map (λ c. c.0) texts_rows ≡ map (λ c. c.1) texts_rows
