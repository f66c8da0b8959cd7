-- The links of `Refuted` and the lines of `LineKept` (specs/FalseCalls.antt), each refuted by a history that is computed.
use Rattle.std.proofs.Common.{◌≡◌, refl, sym, ap, subst, List, [], ◌∷◌, ◌++◌, ℕ, ◌<◌, arith, length, get_or}
use Rattle.base.specs.Buffer.{put}
use Rattle.fcs.specs.Checksum.{checksum_of}
use Rattle.frame.specs.Bytes.{frame_of, data_frame}
use Rattle.state.specs.declared.Link.{Link}
use Rattle.state.specs.Bounds.{in_range}
use Rattle.state.specs.State.{fresh_of}
use Rattle.state.specs.Timer.{onward}
use Rattle.send.specs.Submit.{submitted}
use Rattle.receive.specs.Take.{frame_taken}
use Rattle.clock.specs.Look.{looked, acknowledged_now}
use Rattle.link.specs.FalseEnds.{repeating, idle, pretending, inventing, over_gap, look_but, never_acks, looked_when, compared_by_size, by_size_wrapped}
use Rattle.pair.specs.System.{Calls, swap, seen_both, look_of, looks, IsClock, Moment, start}
use Rattle.pair.specs.Round.{Enough, none, Passes, moves, stays, Looks, nothing, Round, round}
use Rattle.pair.specs.Demand3.{FirstSoMany, Within24, Through, Alive}
use Rattle.pair.specs.TrueCalls.{System, with_submit, with_take, with_look}
use Rattle.pair.specs.Run.{settings, buffer, loan_a, loan_b}
use Rattle.pair.specs.History.{submits-at, takes_at, looks-at, acknowledges-now, loses, Step, desk, chip, run, room, fresh}
use Rattle.pair.specs.FalseCalls.{keeping, taken_kept, looked_kept, as_kept, storing, late, Refuted, LineKept}
use Rattle.pair.proofs.Acts.{told_moment, still}

-- ---- what the histories share

reached : (calls : Calls Link) (steps : List Step) → Moment calls settings (run calls steps)
unfolding in_range
reached calls steps = told_moment calls settings (fresh calls) steps (start room room refl (omega arith) (omega arith))

-- a look at the end here that sends nothing and leaves all as it was
abbrev Silent : Calls Link → ℕ → System → Type 0
Silent calls ms S = ((look_of calls S buffer ms).told.sent ≡ 0) × (looks calls S buffer ms ≡ S)

silent-looks : (calls : Calls Link) (ms : ℕ) (S : System) → Enough calls S buffer → Silent calls ms S → Looks calls ms S S
silent-looks calls ms S room k = subst (λ T. Looks calls ms S T) k.1 (nothing S buffer room k.0)

-- the second half, at a moment that a round leaves as it is: so do 24
left_through : (calls : Calls Link) (steps : List Step) (ms : ℕ) → IsClock ms → (run calls steps).here.queue ≡ [] → (run calls steps).there.queue ≡ []
    → Passes (seen_both calls (run calls steps)) ms 0 → Enough calls (run calls steps) buffer → Enough calls (swap (run calls steps)) buffer
    → Silent calls (onward ms 0) (run calls steps) → Silent calls (onward ms 0) (swap (run calls steps)) → Alive (seen_both calls (run calls steps)) → Within24 calls
    → Through (seen_both calls (run calls steps))
left_through calls steps ms c no_here no_there p room_here room_there quiet_here quiet_there alive f =
    let S : System = run calls steps in
    let r : Round calls ms S 0 S = round S S S S 0 (none S) no_here no_there p (silent-looks calls (onward ms 0) S room_here quiet_here) (silent-looks calls (onward ms 0) (swap S) room_there quiet_there) in
    f settings S S ms 24 0 (reached calls steps) c (omega arith) (still calls ms S c r 24) alive

-- the byte at an index of the packet at an index
abbrev byte_of : ℕ → ℕ → List (List ℕ) → ℕ
byte_of i j packets = get_or (get_or packets i []) j 0

less : (n m : ℕ) → n < m → n ≡ m → ⊥
less n m h e = omega (arith, h, e)

-- ---- submit always sends the same frame: the chip delivers loan A, and the desk took loan B

abbrev same : List Step
same = desk (submits-at 0 loan_b) ∷ chip (takes_at 1) ∷ []

repeats : FirstSoMany (with_submit (repeating (data_frame settings.format 0 3 loan_a))) → ⊥
unfolding submitted frame_taken fresh_of put frame_of checksum_of
repeats f = let wrong : Calls Link = with_submit (repeating (data_frame settings.format 0 3 loan_a)) in less 0xA1 0xB2 (omega arith) (ap (byte_of 0 1) (f settings (run wrong same) (reached wrong same)).0)

-- ---- take invents a byte: the chip delivers loan A and a byte of its checksum

abbrev invent : List Step
invent = desk (submits-at 0 loan_a) ∷ chip (takes_at 1) ∷ []

invents : FirstSoMany (with_take (inventing 1 0)) → ⊥
unfolding submitted frame_taken fresh_of put frame_of checksum_of
invents f =
    let wrong : Calls Link = with_take (inventing 1 0) in
    less 2 3 (omega arith) (sym (ap (λ (packets : List (List ℕ)). length (get_or packets 0 [])) (f settings (run wrong invent) (reached wrong invent)).0))

-- ---- submit serves packet 0 and then pretends: of loan B the chip gets a blank frame and asks again, the desk repeats what stands in
-- the slot, which nobody wrote, and the chip delivers that

abbrev pretend : List Step
pretend = desk (submits-at 0 loan_a) ∷ chip (takes_at 1) ∷ desk (submits-at 2 loan_b) ∷ chip (takes_at 3) ∷ desk (takes_at 4) ∷ chip (takes_at 5) ∷ []

pretends : FirstSoMany (with_submit pretending) → ⊥
unfolding submitted frame_taken fresh_of put frame_of checksum_of
pretends f = let wrong : Calls Link = with_submit pretending in less 0x00 0xB2 (omega arith) (ap (byte_of 1 1) (f settings (run wrong pretend) (reached wrong pretend)).0)

-- the chip acknowledges both, and all is quiet: what was delivered is not what was taken, however many rounds are played
abbrev pretend_on : List Step
pretend_on = pretend ++ (chip acknowledges-now ∷ desk (takes_at 6) ∷ [])

pretends_on : Within24 (with_submit pretending) → ⊥
unfolding submitted frame_taken looked acknowledged_now fresh_of put frame_of checksum_of
pretends_on f =
    less 0x00 0xB2 (omega arith)
    (ap (byte_of 1 1) (left_through (with_submit pretending) pretend_on 6 (omega arith) refl refl (stays refl) (omega arith) (omega arith) (refl, refl) (refl, refl) (record { here = refl; there = refl }) f).forth)

-- ---- submit does nothing but claims to have taken: the desk submits loan A, and from then on nothing happens

abbrev claim : List Step
claim = desk (submits-at 0 loan_a) ∷ []

claims : Within24 (with_submit idle) → ⊥
unfolding looked fresh_of
claims f =
    less 0 1 (omega arith)
    (ap length (left_through (with_submit idle) claim 0 (omega arith) refl refl (stays refl) (omega arith) (omega arith) (refl, refl) (refl, refl) (record { here = refl; there = refl }) f).forth)

-- ---- the frame after a gap is delivered: the desk submits loan A, its frame is lost; it submits loan B, and the chip delivers that

abbrev skip : List Step
skip = desk (submits-at 0 loan_a) ∷ chip loses ∷ desk (submits-at 1 loan_b) ∷ chip (takes_at 2) ∷ []

skips : FirstSoMany (with_take over_gap) → ⊥
unfolding submitted frame_taken fresh_of put frame_of checksum_of
skips f = let wrong : Calls Link = with_take over_gap in less 0xA1 0xB2 (omega arith) (sym (ap (byte_of 0 1) (f settings (run wrong skip) (reached wrong skip)).0))

-- ---- the clock is compared by size: the desk submits loan A 20 ms before the clock wraps, its frame is lost, and its timer, due 80 ms after the
-- wrap, is never served

abbrev wrap : List Step
wrap = desk (submits-at 4294967276 loan_a) ∷ chip loses ∷ []

by_size : Within24 (with_look (looked_when compared_by_size)) → ⊥
unfolding submitted looked_when fresh_of put frame_of checksum_of
by_size f =
    less 0 1 (omega arith)
    (ap length (left_through (with_look (looked_when compared_by_size)) wrap 80 (omega arith) refl refl (moves 0 refl (λ k lt. absurd (omega arith))) (omega arith) (omega arith) (refl, refl) (refl, refl) (record { here = refl; there = refl }) f).forth)

-- ---- the same with a deadline that wraps: the desk submits loan A 101 ms before the clock wraps, its frame is lost, and the deadline is the last
-- millisecond before the wrap; first looked at after it, that is not reached for 49 days

abbrev wrap_before : List Step
wrap_before = desk (submits-at 4294967195 loan_a) ∷ chip loses ∷ []

by_size_wrapped_lem : Within24 (with_look (looked_when by_size_wrapped)) → ⊥
unfolding submitted looked_when fresh_of put frame_of checksum_of
by_size_wrapped_lem f =
    less 0 1 (omega arith)
    (ap length (left_through (with_look (looked_when by_size_wrapped)) wrap_before 5 (omega arith) refl refl (moves 0 refl (λ k lt. absurd (omega arith))) (omega arith) (omega arith) (refl, refl) (refl, refl) (record { here = refl; there = refl }) f).forth)

-- ---- no ACK that is owed: the chip delivers loan A, its acknowledge timer is due, and the desk's loan waits on

abbrev owe : List Step
owe = desk (submits-at 0 loan_a) ∷ chip (takes_at 1) ∷ []

owes : Within24 (with_look (look_but never_acks)) → ⊥
unfolding submitted frame_taken looked fresh_of put frame_of checksum_of
owes f =
    less 0 1 (omega arith)
    (sym (left_through (with_look (look_but never_acks)) owe 51 (omega arith) refl refl (moves 0 refl (λ k lt. absurd (omega arith))) (omega arith) (omega arith) (refl, refl) (refl, refl) (record { here = refl; there = refl }) f).window_here)

-- ---- stored frame bytes: the desk's loan A is lost; the chip's first two packets arrive and are acknowledged, its next two are lost; the desk
-- repeats loan A with the acknowledgement of its first sending, 3, and the chip frees the two that are lost

abbrev numbered : ℕ → List ℕ
numbered n = n ∷ []

abbrev store : List Step
store =
    desk (submits-at 0 loan_a) ∷ chip loses ∷ chip (submits-at 1 (numbered 1)) ∷ chip (submits-at 2 (numbered 2)) ∷ desk (takes_at 3) ∷ desk (takes_at 4)
    ∷ desk acknowledges-now ∷ chip (takes_at 5) ∷ chip (submits-at 6 (numbered 3)) ∷ chip (submits-at 7 (numbered 4)) ∷ desk loses ∷ desk loses
    ∷ desk (looks-at 100) ∷ chip (takes_at 101) ∷ []

-- the chip acknowledges loan A: both windows are empty, and the third and fourth packet are nowhere
abbrev forget : List Step
forget = store ++ (chip acknowledges-now ∷ desk (takes_at 102) ∷ [])

forgets : Within24 storing → ⊥
unfolding submitted frame_taken looked acknowledged_now keeping taken_kept looked_kept as_kept fresh_of put frame_of checksum_of
forgets f =
    less 2 4 (omega arith)
    (ap length (left_through storing forget 102 (omega arith) refl refl (stays refl) (omega arith) (omega arith) (refl, refl) (refl, refl) (record { here = refl; there = refl }) f).back)

-- or the chip submits two more, under the numbers 0 and 1: to the first the desk, which expects 2, answers with an acknowledgement of 1, and the
-- chip frees both; the next, its seventh, has the number 2, and the desk delivers it as the third
abbrev confuse : List Step
confuse =
    store
    ++ (chip (submits-at 102 (numbered 5)) ∷ chip (submits-at 103 (numbered 6)) ∷ desk (takes_at 104) ∷ desk loses ∷ chip (takes_at 105)
    ∷ chip (submits-at 106 (numbered 7)) ∷ desk (takes_at 107) ∷ [])

confuses : FirstSoMany storing → ⊥
unfolding submitted frame_taken looked acknowledged_now keeping taken_kept looked_kept as_kept fresh_of put frame_of checksum_of
confuses f = less 3 7 (omega arith) (sym (ap (byte_of 2 0) (f settings (run storing confuse) (reached storing confuse)).1))

-- ---- an end that expects number 2 when it begins: its acknowledgement of number 1 frees loans A and B, and the third packet is delivered first

abbrev begin_late : List Step
begin_late =
    desk (submits-at 0 loan_a) ∷ desk (submits-at 1 loan_b) ∷ chip (takes_at 2) ∷ chip (takes_at 3) ∷ desk (takes_at 4) ∷ desk (submits-at 5 (numbered 3)) ∷ chip (takes_at 6) ∷ []

begins_late : FirstSoMany late → ⊥
unfolding submitted frame_taken fresh_of put frame_of checksum_of
begins_late f = less 0 3 (omega arith) (sym (ap (byte_of 0 0) (f settings (run late begin_late) (reached late begin_late)).0))

-- ---- a line that forges or does not keep order

pub line_kept : LineKept
unfolding submitted frame_taken looked acknowledged_now fresh_of put frame_of checksum_of
line_kept = record {
  forges = λ e. less 0xA1 0xB2 (omega arith) (sym (ap (byte_of 0 1) e));
  reorders = λ e. less 4 5 (omega arith) (sym (ap length e));
}

pub refuted : Refuted
refuted = record {
  repeats = repeats;
  invents = invents;
  pretends = pretends;
  pretends_on = pretends_on;
  claims = claims;
  skips = skips;
  by_size = by_size;
  by_size_wrapped_lem = by_size_wrapped_lem;
  owes = owes;
  forgets = forgets;
  confuses = confuses;
  begins_late = begins_late;
}
