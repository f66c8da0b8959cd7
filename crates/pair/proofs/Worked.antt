-- The run of specs/Run.antt, computed.
use Rattle.std.proofs.Common.{◌≡◌, refl, sym, ◌∙◌, [], ◌∷◌, inl, arith}
use Rattle.base.specs.Buffer.{put}
use Rattle.fcs.specs.Checksum.{checksum_of}
use Rattle.frame.specs.Bytes.{frame_of, ack_frame, data_frame}
use Rattle.state.specs.Bounds.{in_range}
use Rattle.state.specs.State.{fresh_of}
use Rattle.send.specs.Submit.{submitted}
use Rattle.receive.specs.Take.{frame_taken}
use Rattle.clock.specs.Look.{looked}
use Rattle.pair.specs.System.{lost, damaged, submit, take_head, harm, start, here, there}
use Rattle.pair.specs.TrueCalls.{Played, Moment}
use Rattle.pair.specs.Run.{settings, buffer, slots, loan_a, loan_b, moment0, moment1, moment2, moment3, moment4, moment5, moment6, WorkedRun}
use Rattle.pair.proofs.Timers.{moved, some_soon, end_soon, least, search_from}
use Rattle.pair.proofs.Exist.{rounds_exist, led, a_round, emptied, emptied_by, stepped, watched, watched_by, blank}

reached : Moment settings moment6
unfolding submitted frame_taken fresh_of put frame_of checksum_of in_range
reached =
    let m0 : Moment settings moment0 = start slots slots refl (omega arith) (omega arith) in
    let m1 : Moment settings moment1 = here moment0 moment1 m0 (submit buffer loan_a 4294967276 (omega arith)) in
    let m2 : Moment settings moment2 = there moment1 moment2 m1 (harm [] (lost (data_frame settings.format 0 3 loan_a) [])) in
    let m3 : Moment settings moment3 = here moment2 moment3 m2 (submit buffer loan_b 4294967277 (omega arith)) in
    let m4 : Moment settings moment4 = there moment3 moment4 m3 (take_head buffer (data_frame settings.format 1 3 loan_b) [] 4294967278 (omega arith) refl) in
    let m5 : Moment settings moment5 = here moment4 moment5 m4 (harm ((0xFF ∷ []) ∷ []) (damaged (ack_frame settings.format 3) (0xFF ∷ []) [] (inl refl))) in
    here moment5 moment6 m5 (take_head buffer (0xFF ∷ []) [] 4294967279 (omega arith) refl)

rounds : Played 4294967290 moment6 24
rounds = rounds_exist settings moment6 4294967290 24 reached (omega arith)

pub worked : WorkedRun
unfolding rounds submitted frame_taken looked fresh_of put frame_of checksum_of in_range rounds_exist led a_round emptied emptied_by stepped watched watched_by moved some_soon end_soon least search_from blank
worked =
    let got : rounds.end.there.delivered ≡ loan_a ∷ loan_b ∷ [] = refl in
    let had : rounds.end.here.taken ≡ loan_a ∷ loan_b ∷ [] = refl in
    let got2 : rounds.end.here.delivered ≡ [] = refl in
    let had2 : rounds.end.there.taken ≡ [] = refl in
    record {
      moment = reached;
      nak = refl;
      played = rounds;
      total = refl;
      alive = record { here = refl; there = refl };
      through = record { forth = got ∙ sym had; back = got2 ∙ sym had2; window_here = refl; window_there = refl };
      delivered = got;
    }
