-- The claims of specs/Recovery.antt.
use Prim.Native.Nat.{ℕ, zero, suc, ◌+◌}
use mathlib.Core.Path.{◌≡◌, refl, ap, ◌∙◌}
use mathlib.Core.Logic.{◌≢◌}
use mathlib.Core.Bool.{true, false, true≢false}
use mathlib.Core.List.{List, [], ◌∷◌, ◌++◌, append_assoc}
use native.Mathlib.Omega.{arith}
use native.Mathlib.Nat.{zero-add}
use lib.ListN.{length, set, length-append}
use lib.Seq.{sets, length-sets}
use Rattle.wire.specs.Bytes.{pair_bytes, AllBytes}
use Rattle.classic_frame.specs.declared.mark.Kind.TheVariants.{Plain}
use Rattle.classic_frame.specs.Mark.{end_mark, kind_of}
use Rattle.classic_frame.specs.Frame.{packet_id, error_id, escaped_of, checksum_of, content_of, header_of, framed, frame_of}
use Rattle.classic_writer.specs.Sending.{FrameToSend, Sendable}
use Rattle.classic_writer.proofs.Sending.{sent-frame}
use Rattle.classic_extractor.specs.declared.state.Progress.{Progress}
use Rattle.classic_extractor.specs.declared.state.Phase.TheVariants.{ErrorId, Sequence}
use Rattle.classic_extractor.specs.Outcome.{frame}
use Rattle.classic_extractor.specs.State.{outside, begun, body, lawful}
use Rattle.classic_extractor.specs.Step.{advance_of}
use Rattle.classic_feed.specs.Feed.{fed, feed_from}
use Rattle.classic_claims.specs.Run.{Given}
use Rattle.classic_claims.specs.Recovery.{given_of, sequence_place, Turned, ClosingFrame, whole, damaged, bytes_of, undamaged, Closing, DamageEnds, FrameReturns}
use Rattle.classic_claims.proofs.Ready.{is-ready, ready-size, feed-ready}
use Rattle.classic_claims.proofs.Cut.{calls-cut}
use Rattle.classic_claims.proofs.Frames.{frames_of, frame-begins, frame-ends, since-later}
use Rattle.classic_frame.proofs.Marks.{unmarked-plain}
use Rattle.classic_claims.proofs.TakesBytes.{fresh, header, TakesBytes, more, takes-then, takes-frames, takes-feed, header-taken, store-all}
use Rattle.classic_claims.proofs.Checksum.{handed-first, whole-report, spoilt-report}
use Rattle.classic_claims.proofs.Damage.{spelled, header-lost, turned_plain, turned-tail, outside-plain, rest-skipped, Hit, lost, changed, body-hit}

-- a frame hands out `given`, and what comes behind it finds the extractor outside, with a buffer of the same size
record Ends (limit : ℕ) (rest : List ℕ) (gs given : List Given) : Type 0 where
  pub after : List ℕ
  pub size : length after ≡ limit + 2
  pub same : gs ≡ given ++ frames_of limit outside after rest

module _ (limit : ℕ) (m : FrameToSend) (w : Sendable limit m) (l : List ℕ) (n : length l ≡ limit + 2) where
  abbrev q : ℕ
  q = m.sequence

  abbrev p : List ℕ
  p = m.payload

  plain : kind_of q ≡ Plain
  plain = unmarked-plain (kind_of q) w.unmarked

  size : length (content_of p) ≡ length p + 2
  size = length-append p (pair_bytes (checksum_of p))

  content-taken : TakesBytes limit (body q 0) l (escaped_of (content_of p)) (body q (length (content_of p))) (sets l 0 (content_of p))
  content-taken = rw zero-add at (store-all limit (content_of p) q 0 l (omega (arith, size)))

  module _ (rest : List ℕ) where
    whole-ends : (s : Progress) → Ends limit rest (frames_of limit s l (frame_of q p ++ rest)) (given_of m ∷ [])
    unfolding framed
    whole-ends s =
        let after = sets l 0 (content_of p) in
        record {
          after = after;
          size = length-sets l 0 (content_of p) ∙ n;
          same =
              header limit q l plain s (spelled (content_of p) ++ rest)
              ∙ rw append_assoc (takes-frames limit content-taken (end_mark ∷ rest))
              ∙ frame-ends limit q (length (content_of p)) after rest
              ∙ rw (whole-report p l (omega arith) q)
              (ap (λ (gs : List Given). gs ++ frames_of limit outside after rest) (handed-first p l (omega arith) q));
        }

    hit-ends : AllBytes p → {gs : List Given} → Hit limit q rest 0 (content_of p) l gs → Ends limit rest gs []
    hit-ends bytes (lost after k e) = record { after = after; size = k ∙ n; same = e }
    hit-ends bytes (changed i x h small other e) =
        let c = set (content_of p) i x in
        record {
          after = sets l 0 c;
          size = length-sets l 0 c ∙ n;
          same =
              rw zero-add at e
              ∙ frame-ends limit q (length (content_of p)) (sets l 0 c) rest
              ∙ rw (spoilt-report p l (omega arith) q i x bytes h small other);
        }

    -- a frame that is lost before its sequence byte
    lost-early : {gs : List Given} → gs ≡ frames_of limit outside l (q ∷ (spelled (content_of p) ++ rest)) → Ends limit rest gs []
    lost-early e =
        record {
          after = l;
          size = n;
          same = e ∙ outside-plain limit l q (spelled (content_of p) ++ rest) plain ∙ rest-skipped limit (content_of p) l rest;
        }

    damaged-ends : AllBytes p → (s : Progress) (k v : ℕ) → k ≢ sequence_place → Turned (frame_of q p) k v
        → Ends limit rest (frames_of limit s l (set (frame_of q p) k v ++ rest)) []
    unfolding framed kind_of advance_of frames_of
    damaged-ends bytes s zero v o t = absurd (true≢false t.was_plain)
    damaged-ends bytes s (suc zero) v o t =
        let behind = q ∷ (spelled (content_of p) ++ rest) in
        lost-early (frame-begins limit s l (v ∷ error_id ∷ behind) ∙ header-lost limit begun l v packet_id ErrorId (error_id ∷ behind) (turned_plain t) t.other)
    damaged-ends bytes s (suc (suc zero)) v o t =
        let behind = q ∷ (spelled (content_of p) ++ rest) in
        lost-early (frame-begins limit s l (packet_id ∷ v ∷ behind) ∙ header-lost limit (fresh ErrorId) l v error_id Sequence behind (turned_plain t) t.other)
    damaged-ends bytes s (suc (suc (suc zero))) v o t = absurd (o refl)
    damaged-ends bytes s (suc (suc (suc (suc j)))) v o t =
        rw (header limit q l plain s (set (spelled (content_of p)) j v ++ rest))
        (hit-ends bytes (body-hit limit q rest (content_of p) l 0 j v (omega (arith, size)) (turned-tail (turned-tail (turned-tail (turned-tail t))))))

  -- a whole frame in one call for many bytes
  frame-taken : TakesBytes limit outside l (header_of q ++ escaped_of (content_of p)) (body q (length (content_of p))) (sets l 0 (content_of p))
  unfolding advance_of kind_of
  frame-taken = more refl (takes-then limit (header-taken limit l q plain) content-taken)

  frame-fed : feed_from limit 0 outside l (frame_of q p) ≡ fed (frame q (length p)) (length (frame_of q p)) outside (sets l 0 (content_of p))
  unfolding framed feed_from advance_of kind_of
  frame-fed =
      takes-feed limit frame-taken 0 (end_mark ∷ [])
      ∙ rw (whole-report p l (omega arith) q, zero-add, length-append (header_of q ++ escaped_of (content_of p)) (end_mark ∷ []))

-- ---- the claims

closing-ends : (limit : ℕ) (is : List ClosingFrame) (s : Progress) (l : List ℕ) → length l ≡ limit + 2 → Closing limit is
    → frames_of limit s l (bytes_of limit is) ≡ undamaged is
unfolding bytes_of undamaged frames_of
closing-ends limit [] s l n c = refl
closing-ends limit (whole m ∷ is) s l n c =
    let e = whole-ends limit m c.0 l n (bytes_of limit is) s in
    rw (sent-frame limit m c.0) (e.same ∙ ap (λ (gs : List Given). given_of m ∷ gs) (closing-ends limit is outside e.after e.size c.1))
closing-ends limit (damaged m k v ∷ is) s l n c =
    let e = damaged-ends limit m c.0 l n (bytes_of limit is) c.1 s k v (omega (arith, c.2)) (rw (sent-frame limit m c.0) at c.3) in
    rw (sent-frame limit m c.0) (e.same ∙ closing-ends limit is outside e.after e.size c.4)

pub damage-ends : DamageEnds
damage-ends limit s l before closing calls a c e =
    let r = is-ready limit s l a.range a.state a.size in
    let k = since-later limit (length before) before (bytes_of limit closing) 0 s l r (zero-add (length before)) in
    calls-cut limit (length before) calls 0 s l (before ++ bytes_of limit closing) r e
    ∙ k.same
    ∙ closing-ends limit closing k.state k.buffer (ready-size limit k.state k.buffer k.lawful) c

pub frame-returns : FrameReturns
unfolding lawful
frame-returns limit m l w n =
    rw (sent-frame limit m w, feed-ready limit outside l (frame_of m.sequence m.payload) (is-ready limit outside l w.range refl n), frame-fed limit m w l n)
    (handed-first m.payload l (omega arith) m.sequence, refl)
