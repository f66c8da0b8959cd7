-- What hearing cites, and that what was written is heard.
use Rattle.std.proofs.Common.{◌≡◌, refl, ap, ◌∙◌, Bool, true, false, true≢false, not, ◌&&◌, ◌||◌, List, [], ◌∷◌, ◌++◌, ℕ, zero, suc, ◌+◌, ◌-◌, ◌*◌, ◌/◌, ◌%◌, ◌≤◌, arith, eqb-true, le-ltb, le-leb, eq-eqb, ne_eqb, length, eqb, ltb}
use Rattle.std.proofs.lemmas.Bool.{not-true, not-false, lt-leb, or_parts, cond_both}
use lib.Seq.{take-append_seam, drop-append_seam}
use Rattle.fcs.specs.Checksum.{checksum_of}
use Rattle.frame.specs.declared.Format.{Format}
use Rattle.frame.specs.declared.Heard.{Heard}
use Rattle.frame.specs.declared.Heard.TheVariants.{Size, Sum, Code, ControlSize, Length, Reset, Ack, Nak, Data}
use Rattle.frame.specs.Bytes.{len_bytes, high_first, fcs_bytes, sealed, frame_of, reset_frame}
use Rattle.frame.specs.Steps.{fctr_of, len_of, same_bytes, fcs_at, is_control, is_nak, is_reset, number_of, acknowledged_of, used, accepted, judged, heard, len_in, acknowledged_in}
use Rattle.frame.specs.Promises.{DataHeard, AckHeard, NakHeard, ResetHeard, PacketHeard, LengthHeard, NumberHeard, right}
use Rattle.frame.proofs.Writing.{sealed-length, frame_of-length}

-- ---- step 1

same_bytes_refl : (s : List ℕ) → same_bytes s s ≡ true
same_bytes_refl [] = refl
same_bytes_refl (a ∷ s) = rw (eq-eqb a a refl) (same_bytes_refl s)

-- by search, so that a hearing by which it is not so is refused for that (must-fail/heard_turned_by_rule)
pub fcs_at-sealed : (format : Format) (covered : List ℕ) → fcs_at format (length covered) (sealed format covered) ≡ true
unfolding fcs_at sealed
fcs_at-sealed format covered =
    rw (take-append_seam covered (fcs_bytes format (checksum_of covered)), drop-append_seam covered (fcs_bytes format (checksum_of covered)))
    (search (same_bytes_refl))

-- a whole frame within D passes step 1, and its FCTR and LEN are read back
pub heard_framed : (format : Format) (fctr : ℕ) (packet : List ℕ) → length packet + 5 ≤ format.d
    → heard format (frame_of format fctr packet) ≡ judged fctr (length packet) (length packet + 5)
unfolding heard frame_of
heard_framed format fctr packet h =
    let covered : List ℕ = fctr ∷ (len_bytes (length packet) ++ packet) in
    let size : length (sealed format covered) ≡ length packet + 5 = frame_of-length format fctr packet in
    let seam : length (sealed format covered) - 2 ≡ length covered = omega (arith, sealed-length format covered) in
    let read : length packet / 256 * 256 + length packet % 256 ≡ length packet = omega arith in
    rw (le-ltb (length (sealed format covered)) 5 (omega arith), le-ltb format.d (length (sealed format covered)) (omega arith), seam, fcs_at-sealed format covered, size)
    (ap (λ (len : ℕ). judged fctr len (length packet + 5)) read)

-- ---- steps 2 to 4

judged_data : (number acknowledged len : ℕ) → number ≤ 3 → acknowledged ≤ 3 → 1 ≤ len
    → judged (number * 4 + acknowledged) len (len + 5) ≡ Data number false acknowledged len
unfolding judged used accepted
judged_data number acknowledged len hn ha hl =
    let fctr : ℕ = number * 4 + acknowledged in
    let n : fctr / 4 % 4 ≡ number = omega arith in
    let a : fctr % 4 ≡ acknowledged = omega arith in
    rw (
      le-leb 0 fctr (omega arith),
      le-leb fctr 15 (omega arith),
      lt-leb 128 fctr (omega arith),
      ne_eqb len 0 (λ e. omega arith),
      eq-eqb len (len + 5 - 5) (omega arith),
      n,
      a,
      ne_eqb (fctr / 32 % 4) 1 (λ e. omega arith),
    )

-- what holds of the four numbers holds of each
four : (P : ℕ → Type 0) → P 0 → P 1 → P 2 → P 3 → (k : ℕ) → k ≤ 3 → P k
four P p0 p1 p2 p3 zero h = p0
four P p0 p1 p2 p3 (suc zero) h = p1
four P p0 p1 p2 p3 (suc (suc zero)) h = p2
four P p0 p1 p2 p3 (suc (suc (suc zero))) h = p3
four P p0 p1 p2 p3 (suc (suc (suc (suc k)))) h = absurd (omega arith)

-- ---- the promises

pub data_heard : DataHeard
data_heard format number acknowledged packet hn ha hl h =
    heard_framed format (number * 4 + acknowledged) packet h ∙ judged_data number acknowledged (length packet) hn ha hl

-- four control codes in a row that are judged so are heard so
control_heard : (code : ℕ) (says : ℕ → Heard)
    → judged (code + 0) 0 5 ≡ says 0
    → judged (code + 1) 0 5 ≡ says 1
    → judged (code + 2) 0 5 ≡ says 2
    → judged (code + 3) 0 5 ≡ says 3
    → (format : Format) (k : ℕ) → k ≤ 3 → 5 ≤ format.d → heard format (frame_of format (code + k) []) ≡ says k
control_heard code says e0 e1 e2 e3 format k hk h =
    heard_framed format (code + k) [] h ∙ four (λ (n : ℕ). judged (code + n) 0 5 ≡ says n) e0 e1 e2 e3 k hk

pub ack_heard : AckHeard
unfolding judged
ack_heard = control_heard 0x80 Ack refl refl refl refl

pub nak_heard : NakHeard
unfolding judged
nak_heard = control_heard 0xA0 Nak refl refl refl refl

-- both strings are the frame of C0, each in its order
pub reset_frame_framed : (format : Format) → reset_frame format ≡ frame_of format 0xC0 []
unfolding frame_of checksum_of
reset_frame_framed format = go (eqb format.order high_first) refl
  where
    go : (t : Bool) → eqb format.order high_first ≡ t → reset_frame format ≡ frame_of format 0xC0 []
    go true e = rw e
    go false e = rw e

pub reset_heard : ResetHeard
unfolding judged
reset_heard format h = rw reset_frame_framed (heard_framed format 0xC0 [] h)

-- ---- what a frame that was heard brings

pub packet_heard : PacketHeard
unfolding frame_of sealed
packet_heard format number acknowledged packet = take-append_seam packet _

-- step 4 passed, of a data frame
even : (control : Bool) (len size : ℕ) → control ≡ false → (not control && (eqb len 0 || not (eqb len (size - 5)))) ≡ false → len ≡ size - 5
even true len size c e = absurd (true≢false c)
even false len size c e =
    eqb-true len (size - 5) (not-false (eqb len (size - 5)) (or_parts _ _ e).1)

accepted_holds : (P : Heard → Type 0) (fctr len : ℕ) → P Reset → P (Ack (acknowledged_of fctr)) → P (Nak (acknowledged_of fctr))
    → (is_control fctr ≡ false → P (Data (number_of fctr) (is_nak fctr) (acknowledged_of fctr) len)) → P (accepted fctr len)
unfolding accepted
accepted_holds P fctr len reset ack nak datum =
    cond_both (is_control fctr) _ _ P
    (λ c. cond_both (is_reset fctr) _ _ P (λ r. reset) (λ r. cond_both (is_nak fctr) _ _ P (λ n. nak) (λ n. ack)))
    datum

-- the tests of steps 3 and 4, beside that of bit 7
abbrev pub oversize : List ℕ → Bool
oversize frame = not (eqb (length frame) 5) || not (eqb (len_of frame) 0)

abbrev pub uneven : List ℕ → Bool
uneven frame = eqb (len_of frame) 0 || not (eqb (len_of frame) (length frame - 5))

-- what holds of each refusal, by what is so of the frame then, and of each frame that passes, a data frame's LEN being its size − 5, holds
-- of whatever is heard
pub heard_holds : (P : Heard → Type 0) (format : Format) (frame : List ℕ)
    → ((ltb (length frame) 5 || ltb format.d (length frame)) ≡ true → P Size)
    → (right format frame ≡ false → P Sum)
    → (right format frame ≡ true → used (fctr_of frame) ≡ false → P Code)
    → (right format frame ≡ true → (is_control (fctr_of frame) && oversize frame) ≡ true → P ControlSize)
    → (right format frame ≡ true → (not (is_control (fctr_of frame)) && uneven frame) ≡ true → P Length)
    → P Reset → P (Ack (acknowledged_of (fctr_of frame))) → P (Nak (acknowledged_of (fctr_of frame)))
    → (len_of frame ≡ length frame - 5 → P (Data (number_of (fctr_of frame)) (is_nak (fctr_of frame)) (acknowledged_of (fctr_of frame)) (len_of frame)))
    → P (heard format frame)
unfolding heard judged
heard_holds P format frame size sum code control len reset ack nak datum =
    cond_both (ltb (length frame) 5 || ltb format.d (length frame)) _ _ P size
    (λ e. cond_both (not (right format frame)) _ _ P (λ f. sum (not-true (right format frame) f))
    (λ f. let r : right format frame ≡ true = not-false (right format frame) f in
    cond_both (not (used (fctr_of frame))) _ _ P (λ u. code r (not-true (used (fctr_of frame)) u))
    (λ u. cond_both (is_control (fctr_of frame) && oversize frame) _ _ P (control r)
    (λ c. cond_both (not (is_control (fctr_of frame)) && uneven frame) _ _ P (len r)
    (λ l. accepted_holds P (fctr_of frame) (len_of frame) reset ack nak (λ k. datum (even (is_control (fctr_of frame)) (len_of frame) (length frame) k l)))))))

pub number_heard : NumberHeard
number_heard format frame =
    heard_holds (λ h. acknowledged_in h ≤ 3) format frame (λ e. omega arith) (λ f. omega arith) (λ r u. omega arith) (λ r c. omega arith) (λ r l. omega arith)
    (omega arith) (omega arith) (omega arith) (λ e. omega arith)

pub length-heard : LengthHeard
length-heard format frame =
    heard_holds (λ h. len_in h ≤ length frame - 5) format frame (λ e. omega arith) (λ f. omega arith) (λ r u. omega arith) (λ r c. omega arith) (λ r l. omega arith)
    (omega arith) (omega arith) (omega arith) (λ e. omega (arith, e))
