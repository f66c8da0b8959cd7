-- The wrong ends of specs/FalseEnds.antt, each tried at one input or two, of numbers and bytes that code can hold, by computing.
use Rattle.std.proofs.Common.{◌≡◌, refl, ap, sym, ◌∙◌, ◌≢◌, Bool, true, false, cond, List, [], ◌∷◌, ◌++◌, ℕ, suc, ◌+◌, ◌-◌, ◌%◌, ◌≤◌, arith, eq-eqb, length, get_or, replicate}
use Rattle.std.proofs.lemmas.Bool.{eqb-false}
use Rattle.base.specs.Answer.{frame_sum, unused_code, frame_size, frame_length}
use Rattle.base.specs.Buffer.{put}
use Rattle.fcs.specs.Checksum.{checksum_of}
use Rattle.frame.specs.declared.Format.{Format}
use Rattle.frame.specs.Bytes.{frame_of, data_frame, ack_frame, nak_frame, reset_frame}
use Rattle.state.specs.declared.Settings.{Settings}
use Rattle.state.specs.declared.Link.{Link}
use Rattle.state.specs.declared.Outcome.{Outcome}
use Rattle.state.specs.Fields.{with_settings, with_starts, with_repeated, with_expected, with_acking, with_nakmark, with_lost}
use Rattle.state.specs.State.{fresh_of}
use Rattle.state.specs.Gate.{After, refused}
use Rattle.state.specs.Calls.{started, resynchronised}
use Rattle.send.specs.Makers.{concluded, sends_nak}
use Rattle.send.specs.Submit.{submitted}
use Rattle.receive.specs.Take.{frame_taken}
use Rattle.receive.specs.Refusals.{answering}
use Rattle.clock.specs.Look.{looked, acknowledged_now}
use Rattle.link.specs.FalseEnds.{StartCall, Call, LookCall, Bare, Change, submit_but, take_but, outcome_of, look_but, Shows, instead, answers, leaving, refuse, repeat, pretend, invent, spare_slots, spare_frame, overrun, smear, lengths_first, lost_first, refuse_done, stay, one_count, always_in, taken_hearing, TakenHearingTrue, looked_by, looked_when, LookedWhenTrue, RefusalShut, ShutOut, ShutOutAlone}

-- ---- where they are tried

abbrev format : Format
format = record { d = 16; order = 0 }

abbrev set_to : ℕ → ℕ → ℕ → Settings
set_to order window acktimeout =
    record { format = record { d = 16; order = order }; transtimeout = 100; acktimeout = acktimeout; window = window; repeats = 3 }

abbrev timed : ℕ → ℕ → Settings
timed = set_to 0

abbrev settings : ℕ → Settings
settings window = timed window 50

-- an end that has sent so many packets, of which so many wait, each of one byte and sent at 0; it has got two, and the acknowledge timer runs
-- since 0
abbrev end : ℕ → ℕ → ℕ → Link
end window next waiting = record {
  settings = settings window;
  starts = 0 ∷ 0 ∷ [];
  ackstart = 0;
  lengths = 1 ∷ 1 ∷ [];
  repeated = 0 ∷ 0 ∷ [];
  next = next;
  expected = 2;
  waiting = waiting;
  acking = true;
  nakmark = false;
  lost = false;
}

abbrev none : Link
none = end 2 1 0

abbrev one : Link
one = end 2 1 1

abbrev two : Link
two = end 2 2 2

-- `one`, high byte first
abbrev high : Link
high = with_settings one (set_to 1 2 50)

-- as many bytes as they need
abbrev slots : List ℕ
slots = replicate 22 0

-- packets of two kinds in them
abbrev filled : List ℕ
filled = replicate 11 1 ++ replicate 11 2

abbrev buffer : List ℕ
buffer = replicate 16 0

abbrev packet : List ℕ
packet = 1 ∷ []

-- a data frame with ACK 3, which frees nothing
abbrev numbered : ℕ → List ℕ
numbered number = data_frame format number 3 packet

-- the last byte of the frame that was sent
abbrev last_sent : After Outcome → ℕ
last_sent a = get_or a.frame (a.told.sent - 1) 0

-- a mark, or whether the acknowledge timer runs, as a number
abbrev bit : Bool → ℕ
bit b = cond b 1 0

-- ---- all five calls at a time

-- a change shows if each call is read otherwise with it: submit of the packet, take of NAK 0, look, at 100
each : (change : Change) (read : Bare → ℕ)
    → read (λ l slots frame. submit_but change l slots frame 100 packet) ≢ read (λ l slots frame. submitted l slots frame 100 packet)
    → read (λ l slots frame. take_but change l slots frame 100 (nak_frame format 0)) ≢ read (λ l slots frame. frame_taken l slots frame 100 (nak_frame format 0))
    → read (λ l slots frame. outcome_of (look_but change l slots frame 100)) ≢ read (λ l slots frame. outcome_of (looked l slots frame 100))
    → read (change acknowledged_now) ≢ read acknowledged_now → read (change resynchronised) ≢ read resynchronised → Shows change
each change read submit take look acknowledge resynchronise = record {
  submit = λ same. submit (ap (λ (f : Call). read (λ l slots frame. f l slots frame 100 packet)) same);
  take = λ same. take (ap (λ (f : Call). read (λ l slots frame. f l slots frame 100 (nak_frame format 0))) same);
  look = λ same. look (ap (λ (f : LookCall). read (λ l slots frame. outcome_of (f l slots frame 100))) same);
  acknowledge = λ same. acknowledge (ap read same);
  resynchronise = λ same. resynchronise (ap read same);
}

same_less_same : (n k : ℕ) → n - n ≢ suc k
same_less_same n k e = omega (arith, e)

-- another byte than this
abbrev other : ℕ → ℕ
other byte = (byte + 1) % 256

other_differs : (byte : ℕ) → byte ≢ other byte
other_differs byte e = omega (arith, e)

none_invented : (n k : ℕ) → 1 ≤ n + k → 0 + n + (0 + k) ≢ 0
none_invented n k more e = omega (arith, more, e)

-- ---- a refused frame

-- what `one` does where it refuses a frame with a NAK
abbrev refusal : ℕ → After Outcome
refusal answer = concluded (sends_nak one buffer) answer 0 slots

-- another outcome for this answer shows, by a frame that has this answer
refused_otherwise : (answer : ℕ) (received : List ℕ) (other : Link → List ℕ → List ℕ → After Outcome → After Outcome) (read : After Outcome → ℕ)
    → frame_taken one slots buffer 0 received ≡ refusal answer → read (other one slots buffer (refusal answer)) ≢ read (refusal answer)
    → take_but (instead (answers answer) other) ≢ frame_taken
refused_otherwise answer received other read right differs same =
    let wrong : take_but (instead (answers answer) other) one slots buffer 0 received ≡ other one slots buffer (refusal answer) = rw (right, eq-eqb answer answer refl) in
    differs (ap read (sym wrong ∙ ap (λ (f : Call). f one slots buffer 0 received) same ∙ right))

refusal_shut : (answer : ℕ) (received : List ℕ) → frame_taken one slots buffer 0 received ≡ refusal answer → RefusalShut answer
unfolding frame_of
refusal_shut answer received right = record {
  other_number = λ other differs. refused_otherwise answer received (λ l slots frame a. answering other a) (λ a. a.told.answer) right differs;
  no_mark = refused_otherwise answer received (λ l slots frame a. leaving l a) (λ a. bit a.told.state.nakmark) right (eqb-false 0 1 refl);
  no_nak = refused_otherwise answer received (λ l slots frame a. refused l answer slots frame) (λ a. a.told.sent) right (eqb-false 0 5 refl);
}

-- ---- the theorems

pub taken_hearing_true : TakenHearingTrue
unfolding taken_hearing frame_taken
taken_hearing_true = refl

pub looked_when_true : LookedWhenTrue
unfolding looked_when looked
looked_when_true = refl

pub shut_out_alone : ShutOutAlone
unfolding frame_taken looked put frame_of checksum_of
shut_out_alone = record {
  nak_frees_lem = λ same. eqb-false 1 2 refl (ap (λ (f : Call). (f two slots buffer 0 (nak_frame format 1)).told.state.waiting) same);
  nak_in_data_frees = λ same. eqb-false 1 2 refl (ap (λ (f : Call). (f two slots buffer 0 (frame_of format 0x29 packet)).told.state.waiting) same);
  ack_for_the_oldest_only = λ same. eqb-false 2 0 refl (ap (λ (f : Call). (f two slots buffer 0 (ack_frame format 1)).told.state.waiting) same);
  mark_kept = λ same. eqb-false 1 0 refl (ap (λ (f : Call). bit (f (with_nakmark one true) slots buffer 0 (numbered 2)).told.state.nakmark) same);
  silent_duplicate = λ same. eqb-false 0 5 refl (ap (λ (f : Call). (f one slots buffer 0 (numbered 1)).told.sent) same);
  nak_for_a_duplicate = λ same. eqb-false 0xA2 0x81 refl (ap (λ (f : Call). get_or (f one slots buffer 0 (numbered 1)).frame 0 0) same);
  lost_at_once = λ same. eqb-false 3 0 refl (ap (λ (f : LookCall). (f one slots buffer 100).told.outcome.answer) same);
}

pub shut_out : ShutOut
unfolding started submitted frame_taken looked acknowledged_now resynchronised taken_hearing looked_by looked_when fresh_of put frame_of checksum_of
shut_out = record {
  refuses = λ answer differs. each (refuse answer) (λ call. (call one slots buffer).told.answer) differs differs differs differs differs;
  refuses_done = λ answer differs. each (refuse_done answer) (λ call. (call one slots buffer).told.answer) differs differs differs differs differs;
  repeats = λ same.
      each (repeat same) (λ call. (call one slots buffer).told.sent - (call one slots []).told.sent)
      (same_less_same (length same) 5)
      (same_less_same (length same) 5)
      (same_less_same (length same) 5)
      (same_less_same (length same) 4)
      (same_less_same (length same) 4);
  idles =
      each (refuse 0) (λ call. (call one slots buffer).told.sent)
      (eqb-false 0 6 refl)
      (eqb-false 0 6 refl)
      (eqb-false 0 6 refl)
      (eqb-false 0 5 refl)
      (eqb-false 0 5 refl);
  idles_done =
      each (refuse_done 0) (λ call. (call one slots buffer).told.sent)
      (eqb-false 0 6 refl)
      (eqb-false 0 6 refl)
      (eqb-false 0 6 refl)
      (eqb-false 0 5 refl)
      (eqb-false 0 5 refl);
  pretends =
      each pretend (λ call. get_or (call one slots buffer).frame 0 0)
      (eqb-false 0 0x05 refl)
      (eqb-false 0 0x01 refl)
      (eqb-false 0 0x01 refl)
      (eqb-false 0 0x81 refl)
      (eqb-false 0 0xC0 refl);
  stays =
      let wrong : ◌≢◌ {A = ℕ} 1 0 = eqb-false 1 0 refl in
      each stay (λ call. bit (call one slots buffer).told.state.acking) wrong wrong wrong wrong wrong;
  invents = λ delivered dropped more.
      let none : 0 + delivered + (0 + dropped) ≢ 0 = none_invented delivered dropped more in
      each (invent delivered dropped) (λ call. (call one slots []).told.delivered + (call one slots []).told.dropped) none none none none none;
  short_slots =
      let wrong : ◌≢◌ {A = ℕ} 0 2 = eqb-false 0 2 refl in
      each spare_slots (λ call. (call one (replicate 21 0) buffer).told.answer) wrong wrong wrong wrong wrong;
  short_frame =
      let wrong : ◌≢◌ {A = ℕ} 0 2 = eqb-false 0 2 refl in
      each spare_frame (λ call. (call one slots (replicate 15 0)).told.answer) wrong wrong wrong wrong wrong;
  past_the_frame = λ byte.
      let wrong : byte ≢ other byte = other_differs byte in
      each (overrun byte) (λ call. let a : After Outcome = call one slots (replicate 16 (other byte)) in get_or a.frame a.told.sent 0) wrong wrong wrong wrong wrong;
  on_refusal = λ byte.
      let wrong : byte ≢ other byte = other_differs byte in
      each (smear byte) (λ call. get_or (call one [] (other byte ∷ [])).frame 0 0) wrong wrong wrong wrong wrong;
  short_before_range =
      let wrong : ◌≢◌ {A = ℕ} 2 1 = eqb-false 2 1 refl in
      each lengths_first (λ call. (call (end 2 4 0) [] []).told.answer) wrong wrong wrong wrong wrong;
  lost_before_short =
      let wrong : ◌≢◌ {A = ℕ} 3 2 = eqb-false 3 2 refl in
      each lost_first (λ call. (call (with_lost one true) [] []).told.answer) wrong wrong wrong wrong wrong;
  one_count_lem =
      let wrong : ◌≢◌ {A = ℕ} 0 1 = eqb-false 0 1 refl in
      each one_count (λ call. (call (with_repeated one (0 ∷ 4 ∷ [])) slots buffer).told.answer) wrong wrong wrong wrong wrong;
  always_low_first =
      each (always_in 0) (λ call. last_sent (call high slots buffer))
      (eqb-false 0x66 0x06 refl)
      (eqb-false 0x05 0x6F refl)
      (eqb-false 0x05 0x63 refl)
      (eqb-false 0x56 0x30 refl)
      (eqb-false 0x0A 0x9A refl);
  always_high_first =
      each (always_in 1) (λ call. last_sent (call one slots buffer))
      (eqb-false 0x06 0x66 refl)
      (eqb-false 0x6F 0x05 refl)
      (eqb-false 0x63 0x05 refl)
      (eqb-false 0x30 0x56 refl)
      (eqb-false 0x9A 0x0A refl);
  start = record {
    refuses = λ answer differs same. differs (ap (λ (f : StartCall). (f (settings 2) 22).answer) same);
    refuses_done = λ answer differs same. differs (ap (λ (f : StartCall). (f (settings 2) 22).answer) same);
    idles = λ same. eqb-false 0 2 refl (ap (λ (f : StartCall). (f (settings 2) 22).state.settings.window) same);
    invents = λ delivered dropped more same. none_invented delivered dropped more (ap (λ (f : StartCall). (f (settings 2) 22).delivered + (f (settings 2) 22).dropped) same);
    short_slots = λ same. eqb-false 0 2 refl (ap (λ (f : StartCall). (f (settings 2) 21).answer) same);
    short_before_range = λ same. eqb-false 2 1 refl (ap (λ (f : StartCall). (f (settings 3) 0).answer) same);
    other_state_with_1 = λ other differs same. differs (ap (λ (f : StartCall). (f (settings 3) 0).state) same);
    other_state_with_2 = λ other differs same. differs (ap (λ (f : StartCall). (f (settings 2) 0).state) same);
    acknowledge_as_long = λ same. eqb-false 0 1 refl (ap (λ (f : StartCall). (f (timed 2 100) 22).answer) same);
    window_of_three = λ same. eqb-false 0 1 refl (ap (λ (f : StartCall). (f (settings 3) 33).answer) same);
    order_of_two = λ same. eqb-false 0 1 refl (ap (λ (f : StartCall). (f (set_to 2 2 50) 22).answer) same);
    marked = λ same. eqb-false 1 0 refl (ap (λ (f : StartCall). bit (f (settings 2) 22).state.nakmark) same);
  };
  submit = record {
    repeats_where_sent = λ bytes same.
        same_less_same (get_or (put buffer 0 bytes) 3 0) 0
        (ap (λ (f : Call). get_or (f one slots buffer 0 (2 ∷ [])).frame 3 0 - get_or (f one slots buffer 0 packet).frame 3 0) same);
    full_before_size = λ same. eqb-false 5 4 refl (ap (λ (f : Call). (f two slots buffer 0 []).told.answer) same);
    slots_on_refusal = λ byte same. other_differs byte (ap (λ (f : Call). get_or (f one (other byte ∷ []) [] 0 packet).slots 0 0) same);
    past_the_packet = λ byte same. other_differs byte (ap (λ (f : Call). get_or (f none (replicate 22 (other byte)) buffer 0 packet).slots 12 0) same);
    slot_by_two = λ same. eqb-false 0 1 refl (ap (λ (f : Call). get_or (f (end 1 1 0) slots buffer 0 packet).slots 0 0) same);
    timer_left_lem = λ same. eqb-false 1 0 refl (ap (λ (f : Call). bit (f one slots buffer 0 packet).told.state.acking) same);
    below_m = λ same. eqb-false 4 0 refl (ap (λ (f : Call). (f one slots buffer 0 (replicate 11 1)).told.answer) same);
    first_slot_only = λ same. eqb-false 1 0 refl (ap (λ (f : Call). get_or (f one slots buffer 0 packet).slots 0 0) same);
    not_copied_lem = λ same. eqb-false 0 1 refl (ap (λ (f : Call). get_or (f one slots buffer 0 packet).slots 11 0) same);
    count_from_lem = λ count differs same. differs (ap (λ (f : Call). get_or (f one slots buffer 0 packet).told.state.repeated 1 0) same);
    other_timer_lem = λ same. eqb-false 7 0 refl (ap (λ (f : Call). get_or (f one slots buffer 7 packet).told.state.starts 0 0) same);
    number_0 = λ same. eqb-false 0x01 0x05 refl (ap (λ (f : Call). get_or (f one slots buffer 0 packet).frame 0 0) same);
    stale_ack = λ same. eqb-false 0x04 0x05 refl (ap (λ (f : Call). get_or (f one slots buffer 0 packet).frame 0 0) same);
    len_low_first = λ same. eqb-false 1 0 refl (ap (λ (f : Call). get_or (f one slots buffer 0 packet).frame 1 0) same);
    other_polynomial = λ same. eqb-false 0xCC 0x06 refl (ap (λ (f : Call). get_or (f one slots buffer 0 packet).frame 4 0) same);
    seed_up_lem = λ same. eqb-false 0x0E 0x06 refl (ap (λ (f : Call). get_or (f one slots buffer 0 packet).frame 4 0) same);
  };
  take = record {
    repeats_where_sent = λ bytes same.
        same_less_same (get_or (put buffer 0 bytes) 0 0) 0x7F
        (ap (λ (f : Call). get_or (f one slots buffer 0 (numbered 1)).frame 0 0 - get_or (f one slots buffer 0 (nak_frame format 0)).frame 0 0) same);
    on_silence = λ byte same. other_differs byte (ap (λ (f : Call). get_or (f one slots (replicate 16 (other byte)) 0 (ack_frame format 3)).frame 0 0) same);
    reset_when_lost = λ same. eqb-false 0 3 refl (ap (λ (f : Call). (f (with_lost one true) slots buffer 0 (reset_frame format)).told.answer) same);
    nak_in_step_3 = λ same. eqb-false 5 0 refl (ap (λ (f : Call). (f one slots buffer 0 (frame_of format 0x80 packet)).told.sent) same);
    over_gap_lem = λ same. eqb-false 1 0 refl (ap (λ (f : Call). (f one slots buffer 0 (numbered 3)).told.delivered) same);
    timer_left_by_repeat = λ same. eqb-false 1 0 refl (ap (λ (f : Call). bit (f one slots buffer 0 (nak_frame format 0)).told.state.acking) same);
    timer_left_by_ack = λ same. eqb-false 1 0 refl (ap (λ (f : Call). bit (f one slots buffer 0 (numbered 1)).told.state.acking) same);
    len_0 = λ same. eqb-false 0 18 refl (ap (λ (f : Call). (f (with_expected one 0) slots buffer 0 (replicate 5 0)).told.answer) same);
    over_d = λ same. eqb-false 12 0 refl (ap (λ (f : Call). (f one slots buffer 0 (data_frame format 2 3 (replicate 12 1))).told.delivered) same);
    sum_first = λ same. eqb-false 6 17 refl (ap (λ (f : Call). (f one slots buffer 0 (replicate 17 1)).told.answer) same);
    either_order = λ same. eqb-false 0 6 refl (ap (λ (f : Call). (f high slots buffer 0 (reset_frame format)).told.answer) same);
    size = refusal_shut frame_size [] refl;
    sum = refusal_shut frame_sum (0x80 ∷ 0 ∷ 0 ∷ 0 ∷ 0 ∷ []) refl;
    code = refusal_shut unused_code (frame_of format 0x10 packet) refl;
    len = refusal_shut frame_length (replicate 5 0) refl;
    nak_again = λ same. eqb-false 5 0 refl (ap (λ (f : Call). (f (with_nakmark one true) slots buffer 0 []).told.sent) same);
    nak_names_last = λ same. eqb-false 0xA1 0xA2 refl (ap (λ (f : Call). get_or (f one slots buffer 0 []).frame 0 0) same);
    nak_stops_timer = λ same. eqb-false 0 1 refl (ap (λ (f : Call). bit (f one slots buffer 0 []).told.state.acking) same);
    nak_ignored_lem = λ same. eqb-false 0 6 refl (ap (λ (f : Call). (f one slots buffer 0 (nak_frame format 0)).told.sent) same);
    frees_one_only = λ same. eqb-false 1 0 refl (ap (λ (f : Call). (f two slots buffer 0 (ack_frame format 1)).told.state.waiting) same);
    timer_restarted = λ same. eqb-false 7 0 refl (ap (λ (f : Call). (f one slots buffer 7 (numbered 2)).told.state.ackstart) same);
    duplicate_counted = λ delivered dropped more same.
        none_invented delivered dropped more
        (ap (λ (f : Call). (f one slots buffer 0 (numbered 1)).told.delivered + (f one slots buffer 0 (numbered 1)).told.dropped) same);
    reset_answered = λ same. eqb-false 5 0 refl (ap (λ (f : Call). (f one slots buffer 0 (reset_frame format)).told.sent) same);
    reset_no_drops = λ same. eqb-false 0 1 refl (ap (λ (f : Call). (f one slots buffer 0 (reset_frame format)).told.dropped) same);
    reset_mark_left = λ same. eqb-false 1 0 refl (ap (λ (f : Call). bit (f (with_nakmark one true) slots buffer 0 (reset_frame format)).told.state.nakmark) same);
    reset_order_lost = λ same.
        eqb-false 0 1 refl (ap (λ (f : Call). (f high slots buffer 0 (reset_frame high.settings.format)).told.state.settings.format.order) same);
    repeat_not_counted = λ same. eqb-false 0 1 refl (ap (λ (f : Call). get_or (f one slots buffer 0 (nak_frame format 0)).told.state.repeated 0 0) same);
    other_slot_lem = λ same. eqb-false 2 1 refl (ap (λ (f : Call). get_or (f one filled buffer 0 (nak_frame format 0)).frame 3 0) same);
  };
  look = record {
    repeats_where_sent = λ bytes same.
        same_less_same (get_or (put buffer 0 bytes) 0 0) 0x7F
        (ap (λ (f : LookCall). get_or (f none slots buffer 100).frame 0 0 - get_or (f one slots buffer 100).frame 0 0) same);
    on_silence = λ byte same. other_differs byte (ap (λ (f : LookCall). get_or (f one slots (replicate 16 (other byte)) 0).frame 0 0) same);
    passed_over = λ same. eqb-false 0 3 refl (ap (λ (f : LookCall). (f (with_repeated two (3 ∷ 0 ∷ [])) slots buffer 100).told.outcome.answer) same);
    timer_left_by_repeat = λ same. eqb-false 1 0 refl (ap (λ (f : LookCall). bit (f one slots buffer 100).told.outcome.state.acking) same);
    timer_left_by_ack = λ same. eqb-false 1 0 refl (ap (λ (f : LookCall). bit (f none slots buffer 100).told.outcome.state.acking) same);
    timer_never_sends = λ same. eqb-false 0 5 refl (ap (λ (f : LookCall). (f none slots buffer 100).told.outcome.sent) same);
    by_size_wrapped_lem = λ same.
        eqb-false 6 0 refl
        (ap (λ (f : LookCall). (f (with_starts (with_acking one false) (4294967276 ∷ 0 ∷ [])) slots buffer 4294967277).told.outcome.sent) same);
    by_size = λ same.
        eqb-false 0 6 refl (ap (λ (f : LookCall). (f (with_starts (with_acking one false) (4294967276 ∷ 0 ∷ [])) slots buffer 80).told.outcome.sent) same);
    backwards = λ same. eqb-false 6 0 refl (ap (λ (f : LookCall). (f one slots buffer 1).told.outcome.sent) same);
    clock_turned = λ same. eqb-false 6 0 refl (ap (λ (f : LookCall). (f one slots buffer 1).told.outcome.sent) same);
    wrong_timeout = λ same. eqb-false 6 5 refl (ap (λ (f : LookCall). (f one slots buffer 50).told.outcome.sent) same);
    freed_timer = λ same. eqb-false 6 5 refl (ap (λ (f : LookCall). (f none slots buffer 100).told.outcome.sent) same);
    repeat_not_counted = λ same. eqb-false 0 1 refl (ap (λ (f : LookCall). get_or (f one slots buffer 100).told.outcome.state.repeated 0 0) same);
    other_slot_lem = λ same. eqb-false 2 1 refl (ap (λ (f : LookCall). get_or (f one filled buffer 100).frame 3 0) same);
    other_timer_lem = λ same. eqb-false 0 100 refl (ap (λ (f : LookCall). get_or (f one slots buffer 100).told.outcome.state.starts 0 0) same);
    stale_ack = λ same. eqb-false 0x00 0x01 refl (ap (λ (f : LookCall). get_or (f one slots buffer 100).frame 0 0) same);
    nak_for_ack_lem = λ same. eqb-false 0xA1 0x81 refl (ap (λ (f : LookCall). get_or (f none slots buffer 100).frame 0 0) same);
  };
  acknowledge = record {
    repeats_where_sent = λ bytes same.
        same_less_same (get_or (put buffer 0 bytes) 0 0) 0
        (ap (λ (f : Bare). get_or (f one slots buffer).frame 0 0 - get_or (f (with_expected one 1) slots buffer).frame 0 0) same);
    on_silence = λ byte same. other_differs byte (ap (λ (f : Bare). get_or (f (with_acking one false) slots (replicate 16 (other byte))).frame 0 0) same);
    timer_left_lem = λ same. eqb-false 1 0 refl (ap (λ (f : Bare). bit (f one slots buffer).told.state.acking) same);
    nak_for_ack_lem = λ same. eqb-false 0xA1 0x81 refl (ap (λ (f : Bare). get_or (f one slots buffer).frame 0 0) same);
  };
  resynchronise_when_lost = λ same. eqb-false 3 0 refl (ap (λ (f : Bare). (f (with_lost one true) slots buffer).told.answer) same);
  resynchronise_no_drops = λ same. eqb-false 0 1 refl (ap (λ (f : Bare). (f one slots buffer).told.dropped) same);
  resynchronise_mark_left = λ same. eqb-false 1 0 refl (ap (λ (f : Bare). bit (f (with_nakmark one true) slots buffer).told.state.nakmark) same);
  resynchronise_order_lost = λ same. eqb-false 0 1 refl (ap (λ (f : Bare). (f high slots buffer).told.state.settings.format.order) same);
}
