-- What a refusal's number tells: which refusal it was, and what is so of the frame.
use Rattle.std.proofs.Common.{◌≡◌, refl, ap, sym, ◌∙◌, Bool, true, false, cond, not, ◌||◌, ◌⊎◌, inl, inr, ◌≢◌, List, ℕ, ◌-◌, ◌<◌, ltb-true, eqb-true, lt-ltb, le-ltb, eq-eqb, ne_eqb, length, eqb, ltb}
use mathlib.Core.Bool.{or-true}
use Rattle.std.proofs.lemmas.Bool.{eqb-false, not-true, and_parts}
use Rattle.base.specs.Answer.{done, frame_sum, unused_code, control_size, frame_size}
use Rattle.frame.specs.declared.Format.{Format}
use Rattle.frame.specs.declared.Heard.{Heard}
use Rattle.frame.specs.declared.Heard.TheVariants.{Size, Sum, Code, ControlSize, Length, Reset, Ack, Nak, Data}
use Rattle.frame.specs.Steps.{fctr_of, len_of, is_control, is_nak, number_of, acknowledged_of, judged, heard, refusal_of}
use Rattle.frame.specs.Promises.{NumberTells, Reason, wrong_size, wrong-sum, wrong-code, wrong-control, wrong-len, passed, ReasonHeard, FaultHeard}
use Rattle.frame.proofs.Hearing.{uneven, heard_holds}

-- ---- the number

-- what holds of each refusal holds of whatever has another number than 0
pub refused_holds : (P : Heard → Type 0) → P Size → P Sum → P Code → P ControlSize → P Length → (h : Heard) → refusal_of h ≢ done → P h
refused_holds P size sum code control len Size n = size
refused_holds P size sum code control len Sum n = sum
refused_holds P size sum code control len Code n = code
refused_holds P size sum code control len ControlSize n = control
refused_holds P size sum code control len Length n = len
refused_holds P size sum code control len Reset n = absurd (n refl)
refused_holds P size sum code control len (Ack acknowledged) n = absurd (n refl)
refused_holds P size sum code control len (Nak acknowledged) n = absurd (n refl)
refused_holds P size sum code control len (Data number nak acknowledged length) n = absurd (n refl)

-- the refusal of a number
abbrev case_of : ℕ → Heard
case_of number =
    cond (eqb number frame_size) Size
    (cond (eqb number frame_sum) Sum (cond (eqb number unused_code) Code (cond (eqb number control_size) ControlSize Length)))

case_of_told : (h : Heard) → refusal_of h ≢ done → case_of (refusal_of h) ≡ h
case_of_told = refused_holds (λ h. case_of (refusal_of h) ≡ h) refl refl refl refl refl

pub number_tells : NumberTells
number_tells h k n e = sym (case_of_told k (λ d. n (sym e ∙ d))) ∙ ap case_of e ∙ case_of_told h n

-- ---- the reason

-- one of two tests passes, and brings its own; std's `or_cases` says which passes, and brings nothing
either : {A B : Type 0} (a b : Bool) → (a || b) ≡ true → (a ≡ true → A) → (b ≡ true → B) → A ⊎ B
either true b e left right = inl (left refl)
either false b e left right = inr (right e)

differs : (a b : ℕ) → not (eqb a b) ≡ true → a ≢ b
differs a b e = eqb-false a b (not-true (eqb a b) e)

pub reason_heard : ReasonHeard
reason_heard format frame =
    heard_holds (Reason format frame) format frame
    (λ e. wrong_size (either (ltb n 5) (ltb format.d n) e (ltb-true n 5) (ltb-true format.d n)))
    wrong-sum
    wrong-code
    (λ r c. wrong-control r (and_parts _ _ c).0
    (either (not (eqb n 5)) (not (eqb len 0)) (and_parts _ _ c).1 (differs n 5) (differs len 0)))
    (λ r l. wrong-len r (not-true control (and_parts _ _ l).0)
    (either (eqb len 0) (not (eqb len (n - 5))) (and_parts _ _ l).1 (eqb-true len 0) (differs len (n - 5))))
    (passed Reset refl)
    (passed (Ack (acknowledged_of (fctr_of frame))) refl)
    (passed (Nak (acknowledged_of (fctr_of frame))) refl)
    (λ e. passed (Data (number_of (fctr_of frame)) (is_nak (fctr_of frame)) (acknowledged_of (fctr_of frame)) len) refl)
  where
    n : ℕ
    n = length frame

    len : ℕ
    len = len_of frame

    control : Bool
    control = is_control (fctr_of frame)

pub fault-heard : (format : Format) (frame : List ℕ) → FaultHeard format frame
unfolding heard judged
fault-heard format frame = record {
  size = by_size;
  sum = λ low high r. rw (le-ltb (length frame) 5 low, le-ltb format.d (length frame) high, r);
  len = λ low high r u c wrong. rw (le-ltb (length frame) 5 low, le-ltb format.d (length frame) high, r, u, c, uneven-true wrong);
}
  where
    by_size : (length frame < 5) ⊎ (format.d < length frame) → heard format frame ≡ Size
    by_size (inl short) = rw (lt-ltb (length frame) 5 short)
    by_size (inr long) = rw (lt-ltb format.d (length frame) long, or-true)

    uneven-true : (len_of frame ≡ 0) ⊎ (len_of frame ≢ length frame - 5) → uneven frame ≡ true
    uneven-true (inl none) = rw (eq-eqb (len_of frame) 0 none)
    uneven-true (inr other) = rw (ne_eqb (len_of frame) (length frame - 5) other, or-true)
