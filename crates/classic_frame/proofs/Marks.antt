-- Laws of the kinds of bytes.
use Rattle.std.proofs.Common.{◌≡◌, ℕ, Bool, true, false, cond, eqb, [], ◌∷◌, sym, refl, true≢false, lit≤, eqb-true}
use Rattle.wire.specs.Scan.{in_range}
use Rattle.wire.proofs.Runs.{out_of_range}
use Rattle.classic_frame.specs.declared.mark.Kind.{Kind}
use Rattle.classic_frame.specs.declared.mark.Kind.TheVariants.{Start, End, Escape, Plain}
use Rattle.classic_frame.specs.Frame.{packet_id, error_id, code_for, escaped_by}
use Rattle.classic_frame.specs.Mark.{start_mark, end_mark, escape_mark, kind_of, is_mark_kind, is_mark}

pub start-kind : kind_of start_mark ≡ Start
unfolding kind_of
start-kind = refl

pub escape-kind : kind_of escape_mark ≡ Escape
unfolding kind_of
escape-kind = refl

pub packet-kind : kind_of packet_id ≡ Plain
unfolding kind_of
packet-kind = refl

pub error_kind : kind_of error_id ≡ Plain
unfolding kind_of
error_kind = refl

-- a byte outside the range of the marks is plain
pub clear-plain : (b : ℕ) → in_range start_mark escape_mark b ≡ false → kind_of b ≡ Plain
unfolding kind_of
clear-plain b e =
    rw (
      out_of_range start_mark escape_mark start_mark b e (lit≤ tt) (lit≤ tt),
      out_of_range start_mark escape_mark end_mark b e (lit≤ tt) (lit≤ tt),
      out_of_range start_mark escape_mark escape_mark b e (lit≤ tt) (lit≤ tt),
    )

-- .. and so is one that is no mark
pub unmarked-plain : (k : Kind) → is_mark_kind k ≡ false → k ≡ Plain
unmarked-plain Start e = absurd (true≢false e)
unmarked-plain End e = absurd (true≢false e)
unmarked-plain Escape e = absurd (true≢false e)
unmarked-plain Plain e = refl

-- a mark as it stands in a frame: F2, and F2 xor the mark
code-of-kind : (b : ℕ) (s e x : Bool) → (s ≡ true → b ≡ start_mark) → (e ≡ true → b ≡ end_mark) → (x ≡ true → b ≡ escape_mark)
    → (let k = cond s Start (cond e End (cond x Escape Plain)) in is_mark_kind k ≡ true → escaped_by k b ≡ escape_mark ∷ code_for b ∷ [])
unfolding code_for
code-of-kind b true e x f g h m = rw (f refl)
code-of-kind b false true x f g h m = rw (g refl)
code-of-kind b false false true f g h m = rw (h refl)
code-of-kind b false false false f g h m = absurd (true≢false (sym m))

pub mark-escaped : (b : ℕ) → is_mark b ≡ true → escaped_by (kind_of b) b ≡ escape_mark ∷ code_for b ∷ []
unfolding kind_of
mark-escaped b =
    code-of-kind b (eqb b start_mark) (eqb b end_mark) (eqb b escape_mark) (eqb-true b start_mark) (eqb-true b end_mark) (eqb-true b escape_mark)
