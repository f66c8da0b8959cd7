-- Each row of the table, once for both orders: what differs is how the bytes of FCS stand.
use mathlib.Core.Path.{◌≡◌, refl, ap, sym, ◌∙◌}
use mathlib.Core.Bool.{true, false}
use mathlib.Core.List.{List, [], ◌∷◌, ◌++◌}
use Prim.Native.Nat.{ℕ, ◌/◌, ◌%◌, ◌≤◌}
use native.Mathlib.Omega.{arith}
use lib.ListN.{length}
use Rattle.base.specs.Answer.{done, unexpected, frame_sum, frame_length}
use Rattle.fcs.specs.Checksum.{checksum_of}
use Rattle.frame.specs.declared.Format.{Format}
use Rattle.frame.specs.declared.Heard.{Heard}
use Rattle.frame.specs.declared.Heard.TheVariants.{Sum, Length, Data}
use Rattle.frame.specs.Bytes.{fcs_bytes, sealed, frame_of, data_frame, ack_frame, nak_frame, reset_frame}
use Rattle.frame.specs.Steps.{heard, packet_in}
use Rattle.frame.specs.Orders.{in_other_order}
use Rattle.frame.proofs.Hearing.{data_heard, reset_frame_framed}
use Rattle.frame.proofs.Orders.{by_order_other, zeros_framed, zeros-heard, reset_other}
use Rattle.state.specs.declared.Link.{Link}
use Rattle.state.specs.declared.Outcome.{Outcome}
use Rattle.state.specs.Fields.{with_acking}
use Rattle.state.specs.State.{fresh_of}
use Rattle.state.specs.Gate.{After, after}
use Rattle.state.specs.Formed.{Formed, Sound}
use Rattle.state.proofs.Facts.{in_range_facts, well_formed_facts}
use Rattle.state.proofs.Keeps.{fresh_sound, changed_sound, sound_open}
use Rattle.receive.specs.Take.{obeyed, frame_taken}
use Rattle.receive.proofs.Facts.{frame_taken_open}
use Rattle.examples.specs.Table.{as_given, turned_round, format_in, End, taken, delivered0, told, sending, refusing, data0, Table, Examples}

-- ---- an end of the table

-- not lost, it hears the frame
opened : {order : ℕ} (e : End order) (l : Link) (ms : ℕ) (received : List ℕ) → Sound l → l.lost ≡ false → l.settings ≡ e.settings
    → frame_taken l e.slots e.frame ms received ≡ obeyed l e.slots e.frame ms (heard l.settings.format received)
opened e l ms received s alive same =
    frame_taken_open l e.slots e.frame ms received
    (sound_open l (length e.slots) (length e.frame) s alive (rw same e.slots_room) (rw same e.frame_room))

fresh_end : {order : ℕ} (e : End order) → Sound (fresh_of e.settings)
fresh_end e = fresh_sound e.settings (in_range_facts e.settings e.range)

-- the end that example 8 leaves
after_example8 : {order : ℕ} (e : End order) → Sound (delivered0 e)
unfolding fresh_of
after_example8 e =
    let s : Sound (fresh_of e.settings) = fresh_end e in
    let f : Formed (fresh_of e.settings) = well_formed_facts (fresh_of e.settings) s.formed in
    changed_sound (fresh_of e.settings) (0 ∷ 0 ∷ []) (0 ∷ 0 ∷ []) e.ms 1 0 true false false s refl refl (omega arith) (omega arith) f.repeated

-- D is at least 16
six_fit : {order : ℕ} (e : End order) → 6 ≤ e.settings.format.d
six_fit e = omega (arith, (in_range_facts e.settings e.range).d_lo)

-- fresh, it answers a frame that it hears as this
answered : {order : ℕ} (e : End order) (received : List ℕ) (h : Heard) → heard e.settings.format received ≡ h
    → taken e received ≡ obeyed (fresh_of e.settings) e.slots e.frame e.ms h
unfolding fresh_of
answered e received h same =
    opened e (fresh_of e.settings) e.ms received (fresh_end e) refl refl
    ∙ ap (obeyed (fresh_of e.settings) e.slots e.frame e.ms) same

-- ---- in one order

module _ (order : ℕ) (fcs : ℕ → ℕ → List ℕ) (stand : (format : Format) → format.order ≡ order → (sum : ℕ) → fcs_bytes format sum ≡ fcs (sum % 256) (sum / 256)) where
  laid : (format : Format) → format.order ≡ order → (covered : List ℕ)
      → sealed format covered ≡ covered ++ fcs (checksum_of covered % 256) (checksum_of covered / 256)
  unfolding sealed
  laid format same covered = ap (λ (bytes : List ℕ). covered ++ bytes) (stand format same (checksum_of covered))

  -- the two frames that the examples' ends send
  nak0 : (format : Format) → format.order ≡ order → nak_frame format 0 ≡ 0xA0 ∷ 0x00 ∷ 0x00 ∷ fcs 0xD7 0x0F
  unfolding frame_of checksum_of
  nak0 format same = laid format same (0xA0 ∷ 0x00 ∷ 0x00 ∷ [])

  ack0 : (format : Format) → format.order ≡ order → ack_frame format 0 ≡ 0x80 ∷ 0x00 ∷ 0x00 ∷ fcs 0xEC 0x0C
  unfolding frame_of checksum_of
  ack0 format same = laid format same (0x80 ∷ 0x00 ∷ 0x00 ∷ [])

  data0-framed : (format : Format) → format.order ≡ order → data_frame format 0 3 (0x00 ∷ []) ≡ data0 fcs
  unfolding frame_of checksum_of
  data0-framed format same = laid format same (0x03 ∷ 0x00 ∷ 0x01 ∷ 0x00 ∷ [])

  data0-heard : (format : Format) → format.order ≡ order → 6 ≤ format.d → heard format (data0 fcs) ≡ Data 0 false 3 1
  data0-heard format same h =
      ap (heard format) (sym (data0-framed format same)) ∙ data_heard format 0 3 (0x00 ∷ []) (omega arith) (omega arith) (omega arith) h

  -- in the other order the sum's two bytes change places
  reset-turned : (format : Format) → format.order ≡ order → 0xC0 ∷ 0x00 ∷ 0x00 ∷ fcs 0x0A 0x9A ≡ reset_frame (in_other_order format)
  unfolding frame_of sealed checksum_of
  reset-turned format same =
      ap (λ (bytes : List ℕ). 0xC0 ∷ 0x00 ∷ 0x00 ∷ bytes) (sym (stand format same 0x9A0A))
      ∙ sym (rw (reset_frame_framed (in_other_order format), by_order_other {A = ℕ} format 0x9A 0x0A, by_order_other {A = ℕ} format 0x0A 0x9A))

  reset_refused : (format : Format) → format.order ≡ order → 5 ≤ format.d → heard format (0xC0 ∷ 0x00 ∷ 0x00 ∷ fcs 0x0A 0x9A) ≡ Sum
  reset_refused format same h = ap (heard format) (reset-turned format same) ∙ reset_other format h

  delivered : (e : End order) → taken e (data0 fcs) ≡ after (told (delivered0 e) done 0 1) e.slots e.frame
  unfolding fresh_of obeyed
  delivered e = answered e (data0 fcs) (Data 0 false 3 1) (data0-heard e.settings.format e.ordered (six_fit e))

  -- a fresh end sends its NAK
  refused : (e : End order) (received : List ℕ) (h : Heard) (answer : ℕ) → heard e.settings.format received ≡ h
      → obeyed (fresh_of e.settings) e.slots e.frame e.ms h ≡ refusing e answer (nak_frame e.settings.format 0)
      → taken e received ≡ refusing e answer (0xA0 ∷ 0x00 ∷ 0x00 ∷ fcs 0xD7 0x0F)
  refused e received h answer same sent = answered e received h same ∙ sent ∙ ap (refusing e answer) (nak0 e.settings.format e.ordered)

  second : (e : End order) (later : ℕ)
      → frame_taken (delivered0 e) e.slots e.frame later (data0 fcs)
      ≡ sending e (with_acking (delivered0 e) false) unexpected (ack_frame e.settings.format 0)
  unfolding fresh_of obeyed frame_of sealed
  second e later =
      opened e (delivered0 e) later (data0 fcs) (after_example8 e) refl refl
      ∙ ap (obeyed (delivered0 e) e.slots e.frame later) (data0-heard e.settings.format e.ordered (six_fit e))

  table : Table order fcs
  unfolding checksum_of frame_of sealed fresh_of obeyed
  table = record {
    example1 = refl;
    example2 = λ d. ack0 (format_in order d) refl;
    example3 = λ d. laid (format_in order d) refl (0x81 ∷ 0x00 ∷ 0x00 ∷ []);
    example4 = λ d. nak0 (format_in order d) refl;
    example5 = λ d. laid (format_in order d) refl (0xC0 ∷ 0x00 ∷ 0x00 ∷ []);
    example5_reset = λ d. reset_frame_framed (format_in order d) ∙ laid (format_in order d) refl (0xC0 ∷ 0x00 ∷ 0x00 ∷ []);
    example6 = λ d. data0-framed (format_in order d) refl;
    example7_sum = λ d. sym (zeros_framed (format_in order d));
    example7_step4 = λ d. zeros-heard (format_in order d);
    example7 = λ e. refused e (0x00 ∷ 0x00 ∷ 0x00 ∷ 0x00 ∷ 0x00 ∷ []) Length frame_length (zeros-heard e.settings.format (omega (arith, six_fit e))) refl;
    example8 = delivered;
    example8_packet = λ e. ap (λ (a : After Outcome). packet_in (data0 fcs) a.told.delivered) (delivered e);
    example9 = λ e later.
        ap (λ (a : After Outcome). frame_taken a.told.state a.slots a.frame later (data0 fcs)) (delivered e)
        ∙ second e later
        ∙ ap (sending e (with_acking (delivered0 e) false) unexpected) (ack0 e.settings.format e.ordered);
    example10 = λ a b c d e f g h i j. refl;
    example11 = λ a b c d e f g h i j k. refl;
    example12 = refl;
    example14 = λ e. refused e (0xC0 ∷ 0x00 ∷ 0x00 ∷ fcs 0x0A 0x9A) Sum frame_sum (reset_refused e.settings.format e.ordered (omega (arith, six_fit e))) refl;
  }

-- ---- in both

pub shown : Examples
shown = record {
  low_first = low;
  high_first_lem = high;
  chips_ack = high.example2;
  chips_no_reset = high.example14;
}
  where
    low : Table 0 as_given
    low = table 0 as_given (λ format same sum. rw same)

    high : Table 1 turned_round
    high = table 1 turned_round (λ format same sum. rw same)
