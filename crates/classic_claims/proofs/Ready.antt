-- A byte keeps a lawful state and the buffer's size. So in a run no call is refused by 1.
use Prim.Native.Nat.{ℕ, ◌+◌}
use mathlib.Core.Path.{◌≡◌, refl}
use mathlib.Core.Bool.{Bool, true, false, cond, not}
use mathlib.Core.List.{List, [], ◌∷◌}
use native.Mathlib.Numerals.{add-one}
use lib.ListN.{length, length-set}
use lib.Dec.{eqb, ltb, leb-zero}
use borrow.Author.Tests.{eq-eqb, eqb-true}
use Rattle.wire.specs.Limit.{limit_fits}
use Rattle.wire.proofs.Tests.{and_left, and_right}
use Rattle.classic_frame.specs.declared.mark.Kind.{Kind}
use Rattle.classic_frame.specs.declared.mark.Kind.TheVariants.{Start, End, Escape, Plain}
use Rattle.classic_frame.specs.Mark.{kind_of, is_mark}
use Rattle.classic_frame.specs.Frame.{packet_id, error_id, start_code, end_code, escape_code}
use Rattle.classic_extractor.specs.declared.state.Progress.{Progress}
use Rattle.classic_extractor.specs.declared.state.Phase.{Phase}
use Rattle.classic_extractor.specs.declared.state.Phase.TheVariants.{Outside, PacketId, ErrorId, Sequence, Body, Escaped}
use Rattle.classic_extractor.specs.Action.{Action, Skip, Begin, Restart, Go, Number, Store, Finish, Refuse, code_of, action_by, action_of}
use Rattle.classic_extractor.specs.State.{sequence_read, lawful_after, lawful, ready}
use Rattle.classic_extractor.specs.Step.{ByteStep, store_of, perform_of, advance_of, byte_step_of}
use Rattle.classic_feed.specs.Feed.{Feed, decides, feed_from, feed_of}

-- ---- tests

-- what holds of both cases holds of the one that a test picks
pub of-cond : {A : Type 0} (P : A → Type 0) (t : Bool) {x y : A} → P x → P y → P (cond t x y)
of-cond P true p q = p
of-cond P false p q = q

-- ---- one byte

-- what an action wants of the phase and the byte that ask for it
abbrev Apt : Phase → ℕ → Action → Type 0
Apt p b Skip = Unit {0}
Apt p b Begin = Unit {0}
Apt p b Restart = Unit {0}
Apt p b (Go next) = sequence_read next ≡ sequence_read p
Apt p b Number = (sequence_read p ≡ false) × (kind_of b ≡ Plain)
Apt p b (Store x) = sequence_read p ≡ true
Apt p b Finish = Unit {0}
Apt p b (Refuse r) = Unit {0}

apt-by : (b : ℕ) (p : Phase) (k : Kind) → kind_of b ≡ k → Apt p b (action_by p k b)
unfolding code_of
apt-by b Outside Start e = tt
apt-by b Outside End e = tt
apt-by b Outside Escape e = tt
apt-by b Outside Plain e = tt
apt-by b PacketId Start e = tt
apt-by b PacketId End e = tt
apt-by b PacketId Escape e = tt
apt-by b PacketId Plain e = of-cond (Apt PacketId b) (eqb b packet_id) refl tt
apt-by b ErrorId Start e = tt
apt-by b ErrorId End e = tt
apt-by b ErrorId Escape e = tt
apt-by b ErrorId Plain e = of-cond (Apt ErrorId b) (eqb b error_id) refl tt
apt-by b Sequence Start e = tt
apt-by b Sequence End e = tt
apt-by b Sequence Escape e = tt
apt-by b Sequence Plain e = (refl, e)
apt-by b Body Start e = tt
apt-by b Body End e = tt
apt-by b Body Escape e = refl
apt-by b Body Plain e = refl
apt-by b Escaped Start e = tt
apt-by b Escaped End e = tt
apt-by b Escaped Escape e = tt
apt-by b Escaped Plain e =
    let P = Apt Escaped b in
    of-cond P (eqb b start_code) refl (of-cond P (eqb b end_code) refl (of-cond P (eqb b escape_code) refl tt))

module _ (limit : ℕ) where
  -- a step that leaves a lawful state and a buffer as long as it was
  record Keeps (l : List ℕ) (r : ByteStep) : Type 0 where
    pub state : lawful limit r.next ≡ true
    pub size : length r.buffer ≡ length l

  module _ (s : Progress) (l : List ℕ) where
    store_keeps : (x : ℕ) → lawful_after limit s.sequence s.held ≡ true → Keeps l (store_of limit s l x)
    unfolding store_of lawful
    store_keeps x h = go (ltb s.held (limit + 2)) refl
      where
        go : (t : Bool) → ltb s.held (limit + 2) ≡ t → Keeps l (store_of limit s l x)
        go true e =
            rw e
            (record { state = rw (and_left (not (is_mark s.sequence)) _ h, add-one, e); size = length-set l s.held x })
        go false e = rw e (record { state = refl; size = refl })

    perform-keeps : (b : ℕ) (a : Action) → Apt s.phase b a → lawful limit s ≡ true → Keeps l (perform_of limit s l b a)
    unfolding lawful
    perform-keeps b Skip o h = record { state = h; size = refl }
    perform-keeps b Begin o h = record { state = refl; size = refl }
    perform-keeps b Restart o h = record { state = refl; size = refl }
    perform-keeps b (Go p) o h = record { state = rw o h; size = refl }
    perform-keeps b Number o h =
        let none : s.held ≡ 0 = eqb-true _ _ (and_right (eqb s.sequence 0) _ (rw o.0 at h)) in
        record { state = rw (o.1, none) (leb-zero (limit + 2)); size = refl }
    perform-keeps b (Store x) o h = store_keeps x (rw o at h)
    perform-keeps b Finish o h = record { state = refl; size = refl }
    perform-keeps b (Refuse r) o h = record { state = refl; size = refl }

    -- a byte in a lawful state with a buffer of the right size leaves such a state and such a buffer
    pub advance-ready : (b : ℕ) → ready limit s (length l) ≡ true
        → (let r = advance_of limit s l b in ready limit r.next (length r.buffer) ≡ true)
    unfolding ready advance_of
    advance-ready b h =
        let held = and_right (limit_fits limit) _ h in
        let k = perform-keeps b (action_of s.phase b) (apt-by b s.phase (kind_of b) refl) (and_right (eqb (length l) (limit + 2)) _ held) in
        rw (k.size, and_left (limit_fits limit) _ h, and_left (eqb (length l) (limit + 2)) _ held, k.state)

    pub step-ready : (b : ℕ) → ready limit s (length l) ≡ true → byte_step_of limit s l b ≡ advance_of limit s l b
    step-ready b h = rw h

    pub feed-ready : (bytes : List ℕ) → ready limit s (length l) ≡ true → feed_of limit s l bytes ≡ feed_from limit 0 s l bytes
    feed-ready bytes h = rw h

    pub is-ready : limit_fits limit ≡ true → lawful limit s ≡ true → length l ≡ limit + 2 → ready limit s (length l) ≡ true
    unfolding ready
    is-ready f h n = rw (f, eq-eqb _ _ n) h

    pub ready-size : ready limit s (length l) ≡ true → length l ≡ limit + 2
    unfolding ready
    ready-size h = eqb-true _ _ (and_left (eqb (length l) (limit + 2)) _ (and_right (limit_fits limit) _ h))

  -- many bytes leave such a state and such a buffer
  pub feed-keeps : (bytes : List ℕ) (n : ℕ) (s : Progress) (l : List ℕ) → ready limit s (length l) ≡ true
      → (let f = feed_from limit n s l bytes in ready limit f.next (length f.buffer) ≡ true)
  unfolding feed_from
  feed-keeps [] n s l h = h
  feed-keeps (b ∷ bs) n s l h =
      let r = advance_of limit s l b in
      let h' = advance-ready s l b h in
      of-cond (λ (f : Feed). ready limit f.next (length f.buffer) ≡ true) (decides r.report) h' (feed-keeps bs (n + 1) r.next r.buffer h')
