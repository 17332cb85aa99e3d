-- The reply to a control transaction, called from C: what is left, and one table whose rows all hold.
use Rattle.std.specs.Prelude.{◌≡◌, List, [], ◌∷◌, ◌++◌, map, replicate}
use Rattle.c_reply.specs.Calls.{reply_write_of}
use Rattle.c_reply.specs.Convert.{features_of, members_of, link_of}
use Rattle.c_rows.specs.Called.{Called, called}

unfoldable pub reply_rows : List (Called × Called)
reply_rows =
    -- pito_reply_write: pins reply_write_of, link_of, answers, if_fit, reply_call, box_of, reply_row, ..
    (
      reply_write_of (0x08 ∷ 0x00 ∷ []) [] [] [] [] (features_of 0 0) (members_of 0 0) (link_of 20 0 0 16) [] (9 ∷ 9 ∷ 9 ∷ []),
      called 17 [] [] (0 ∷ 0 ∷ 0 ∷ []),
    )
    ∷ (
      reply_write_of (0x08 ∷ 0x00 ∷ 0x4A ∷ 0x00 ∷ []) [] [] [] [] (features_of 0 0) (members_of 0 0) (link_of 0 0 0 0) [] (9 ∷ 9 ∷ 9 ∷ []),
      called 0 [] [] (0 ∷ 0 ∷ 0 ∷ []),
    )
    ∷ (
      reply_write_of (0x08 ∷ 0x14 ∷ []) [] [] [] (2147483648 ∷ []) (features_of 0 0) (members_of 16 0) (link_of 20 1000 0 0) [] (9 ∷ 9 ∷ 9 ∷ []),
      called 15 [] [] (0 ∷ 0 ∷ 0 ∷ []),
    )
    ∷ (
      reply_write_of (0x08 ∷ 0x00 ∷ []) [] [] [] [] (features_of 0 0) (members_of 0 0) (link_of 263 65535 0 0) (replicate 10 0xEE) (replicate 4 9),
      called 1 [] (replicate 10 0xEE) (replicate 4 9),
    )
    ∷ (
      reply_write_of (0x08 ∷ 0x1C ∷ []) [] [] [] [] (features_of 0 1) (members_of 0 16) (link_of 262 1000 1 0) (replicate 15 0xEE) (9 ∷ 9 ∷ 9 ∷ []),
      called 0 [] (0x01 ∷ 0x00 ∷ 0x00 ∷ 0x00 ∷ 0x09 ∷ 0x09 ∷ 0x08 ∷ 0x1C ∷ 0x4A ∷ 0x05 ∷ 0x82 ∷ 0x01 ∷ 0x02 ∷ 0x10 ∷ 0x01 ∷ []) (15 ∷ 0 ∷ 0 ∷ []),
    )
    ∷ (
      reply_write_of (0x08 ∷ 0x14 ∷ []) (0xED ∷ 0x9F ∷ 0xBF ∷ []) (0xE0 ∷ 0xA0 ∷ 0x80 ∷ []) (0x80 ∷ []) [] (features_of 0 0) (members_of 4 4) (link_of 22 1000 1 1) (replicate 14 0xEE) (9 ∷ 9 ∷ 9 ∷ []),
      called 36 [] (replicate 14 0xEE) (0 ∷ 4 ∷ 0 ∷ []),
    )
    ∷ (
      reply_write_of (0x08 ∷ 0x14 ∷ []) [] (replicate 4 0x00) (0xF4 ∷ 0x8F ∷ 0xBF ∷ 0xBF ∷ []) (0 ∷ 300 ∷ 4 ∷ 300 ∷ 2 ∷ 4 ∷ 2 ∷ 4 ∷ []) (features_of 0 4294967295) (members_of 16 3) (link_of 21 1000 0 15) (replicate 60 0xEE) (9 ∷ 9 ∷ 9 ∷ []),
      called 0 [] (0x00 ∷ 0xF0 ∷ 0x00 ∷ 0x00 ∷ 0x1F ∷ 0x0F ∷ 0x08 ∷ 0x14 ∷ 0x4A ∷ 0x1B ∷ 0x82 ∷ 0x01 ∷ 0x18 ∷ 0x12 ∷ 0x04 ∷ (replicate 4 0x00 ++ (0x1A ∷ 0x0A ∷ 0x00 ∷ 0x08 ∷ 0x10 ∷ 0x00 ∷ 0xAC ∷ 0x02 ∷ 0x04 ∷ 0xAC ∷ 0x02 ∷ 0x02 ∷ 0x04 ∷ 0x02 ∷ 0x04 ∷ 0x22 ∷ 0x04 ∷ 0xF4 ∷ 0x8F ∷ 0xBF ∷ 0xBF ∷ (replicate 20 0xEE)))) (40 ∷ 0 ∷ 0 ∷ []),
    )
    ∷ []

-- each call leaves what its row says
unfoldable pub ReplyCalls : Type 0
ReplyCalls = map (λ c. c.0) reply_rows ≡ map (λ c. c.1) reply_rows
