-- What holds at every moment, and how each small change keeps it.
use Rattle.std.proofs.Common.{◌≡◌, refl, sym, ap, subst, ◌∙◌, Bool, true, false, List, [], ◌∷◌, ◌++◌, ℕ, zero, suc, ◌%◌, ◌+◌, ◌-◌, ◌*◌, ◌≤◌, ◌<◌, arith, ltb-false, eqb-true, length, take, get_or, set, length-append, take-suc, eqb}
use Rattle.std.proofs.lemmas.Bool.{eqb-false, cond_both}
use lib.ListN.{get_or-append}
use lib.Seq.{take-append-le, get_or-append_seam}
use Rattle.base.specs.Buffer.{put}
use Rattle.base.proofs.Put.{set_cases}
use Rattle.frame.specs.declared.Heard.TheVariants.{Data}
use Rattle.frame.specs.Steps.{heard, packet_in}
use Rattle.state.specs.declared.Settings.{Settings}
use Rattle.state.specs.declared.Link.{Link}
use Rattle.state.specs.Bounds.{limit_of, slots_need}
use Rattle.state.specs.State.{fresh_of, behind, waits, sent_before, slot_of, length_of}
use Rattle.state.specs.Formed.{InRange, Formed, Sound}
use Rattle.state.proofs.Facts.{well_formed_facts, slot_of_lt, slot_of_small, slots_apart, part_inside}
use Rattle.state.proofs.Keeps.{changed, fresh_sound}
use Rattle.send.specs.Repeat.{part_of, packet_of}
use Rattle.send.specs.Submit.{sent_first}
use Rattle.send.proofs.Slots.{new_packet, old_packet}
use Rattle.receive.specs.Steps.{freed, after_delivery}
use Rattle.receive.proofs.Keeps.{freed_sound, after_delivery_sound}
use Rattle.pair.specs.System.{queued, requeued, swap, Harm, IsClock}
use Rattle.pair.specs.Demand3.{FirstSoManyOf}
use Rattle.pair.specs.TrueCalls.{Side, System, fresh_side}
use Rattle.pair.proofs.Line.{Line, clear, line_taken, line_freed, line_mono, line_tail, line_harm, line_data, line_more}

-- the start times are clock values
abbrev pub Timed : Link → Type 0
Timed l = ((i : ℕ) → IsClock (get_or l.starts i 0)) × IsClock l.ackstart

pub set_timed : (starts : List ℕ) (slot ms : ℕ) → ((i : ℕ) → IsClock (get_or starts i 0)) → IsClock ms → (i : ℕ) → IsClock (get_or (set starts slot ms) i 0)
set_timed starts slot ms f c i = set_cases (λ n. IsClock n) starts slot i ms (λ e. c) (f i)

-- an end: t is what the other end has taken, b how many of this end's packets are freed, g how many of the other's are delivered here
pub record Way (s : Settings) (x : Side) (t : List (List ℕ)) (b g : ℕ) : Type 0 where
  pub sound : Sound x.state
  pub timed : Timed x.state
  pub settings : x.state.settings ≡ s
  pub room : slots_need s ≤ length x.slots
  pub next : x.state.next ≡ length x.taken % 4
  pub window : b + x.state.waiting ≡ length x.taken
  pub expected : x.state.expected ≡ g % 4
  pub count : length x.delivered ≡ g
  pub first : x.delivered ≡ take g t
  pub holds : (f : ℕ) → b ≤ f → f < length x.taken → packet_of x.state x.slots (f % 4) ≡ get_or x.taken f []

pub record Inv (s : Settings) (S : System) : Type 0 where
  pub freed_here : ℕ
  pub freed_there : ℕ
  pub got_here : ℕ
  pub got_there : ℕ
  pub here : Way s S.here S.there.taken freed_here got_here
  pub there : Way s S.there S.here.taken freed_there got_there
  pub to_here : Line s.format S.there.taken got_here freed_here got_there S.here.queue
  pub to_there : Line s.format S.here.taken got_there freed_there got_here S.there.queue

pub inv_swap : (s : Settings) (S : System) → Inv s S → Inv s (swap S)
inv_swap s S I = record {
  freed_here = I.freed_there;
  freed_there = I.freed_here;
  got_here = I.got_there;
  got_there = I.got_here;
  here = I.there;
  there = I.here;
  to_here = I.to_there;
  to_there = I.to_here;
}

-- ---- an end's change that takes and delivers nothing

-- here another state, its queue, and frames sent
abbrev pub turned : System → Link → List (List ℕ) → List (List ℕ) → System
turned S l queue sent = record {
  here = record { state = l; slots = S.here.slots; queue = queue; taken = S.here.taken; delivered = S.here.delivered };
  there = requeued S.there (queued S.there.queue sent);
}

pub way_changed : (s : Settings) (x : Side) (t : List (List ℕ)) (b g : ℕ) (starts repeated : List ℕ) (ackstart : ℕ) (acking nakmark lost : Bool) (queue : List (List ℕ))
    → Way s x t b g → Sound (changed x.state starts repeated ackstart x.state.expected x.state.waiting acking nakmark lost)
    → Timed (changed x.state starts repeated ackstart x.state.expected x.state.waiting acking nakmark lost)
    → Way s (record { state = changed x.state starts repeated ackstart x.state.expected x.state.waiting acking nakmark lost; slots = x.slots; queue = queue; taken = x.taken; delivered = x.delivered }) t b g
way_changed s x t b g starts repeated ackstart acking nakmark lost queue w k c = record {
  sound = k;
  timed = c;
  settings = w.settings;
  room = w.room;
  next = w.next;
  window = w.window;
  expected = w.expected;
  count = w.count;
  first = w.first;
  holds = w.holds;
}

way_there : (s : Settings) (x : Side) (t : List (List ℕ)) (b g : ℕ) (queue : List (List ℕ)) → Way s x t b g
    → Way s (requeued x queue) t b g
way_there s x t b g queue w =
    way_changed s x t b g x.state.starts x.state.repeated x.state.ackstart x.state.acking x.state.nakmark x.state.lost queue w w.sound w.timed

-- ---- step 6

-- at most two wait
pub window_small : (s : Settings) (x : Side) (t : List (List ℕ)) (b g : ℕ) → Way s x t b g → x.state.waiting ≤ 2
window_small s x t b g w = let f = well_formed_facts x.state w.sound.formed in omega (arith, f.waiting, f.settings.window_hi)

-- an acknowledgement that x packets have arrived frees so many
pub freed_window : (l : Link) (n b x : ℕ) → l.next ≡ n % 4 → b + l.waiting ≡ n → l.waiting ≤ 2 → b ≤ x → x ≤ n → x + (freed l ((x + 3) % 4)).waiting ≡ n
freed_window l n b x e w small lo hi =
    let k : ℕ = (x + 3) % 4 in
    let at : behind l k ≡ n - x = omega arith in
    cond_both (waits l k) (behind l k) l.waiting (λ y. x + y ≡ n) (λ q. omega (arith, at)) (λ q. omega (arith, at, ltb-false (behind l k) l.waiting q))

-- ---- small changes

-- here another state and another queue
abbrev pub restated : System → Link → List (List ℕ) → System
restated S l queue = record {
  here = record { state = l; slots = S.here.slots; queue = queue; taken = S.here.taken; delivered = S.here.delivered };
  there = S.there;
}

-- marks, timers and counts change, and frames are sent
pub inv_turned : (s : Settings) (S : System) (starts repeated : List ℕ) (ackstart : ℕ) (acking nakmark lost : Bool) (sent : List (List ℕ)) (I : Inv s S)
    → Sound (changed S.here.state starts repeated ackstart S.here.state.expected S.here.state.waiting acking nakmark lost)
    → Timed (changed S.here.state starts repeated ackstart S.here.state.expected S.here.state.waiting acking nakmark lost)
    → Line s.format S.here.taken I.got_there I.freed_there I.got_here (queued S.there.queue sent)
    → Inv s (turned S (changed S.here.state starts repeated ackstart S.here.state.expected S.here.state.waiting acking nakmark lost) S.here.queue sent)
inv_turned s S starts repeated ackstart acking nakmark lost sent I k c w = record {
  freed_here = I.freed_here;
  freed_there = I.freed_there;
  got_here = I.got_here;
  got_there = I.got_there;
  here = way_changed s S.here S.there.taken I.freed_here I.got_here starts repeated ackstart acking nakmark lost S.here.queue I.here k
      c;
  there = way_there s S.there S.here.taken I.freed_there I.got_there (queued S.there.queue sent) I.there;
  to_here = I.to_here;
  to_there = w;
}

-- only the queue changes, to one that may stand there
inv_queue : (s : Settings) (S : System) (q : List (List ℕ)) (I : Inv s S) → Line s.format S.there.taken I.got_here I.freed_here I.got_there q
    → Inv s (restated S S.here.state q)
inv_queue s S q I w = record {
  freed_here = I.freed_here;
  freed_there = I.freed_there;
  got_here = I.got_here;
  got_there = I.got_there;
  here = way_there s S.here S.there.taken I.freed_here I.got_here q I.here;
  there = I.there;
  to_here = w;
  to_there = I.to_there;
}

-- the head of the queue is passed over
pub inv_passed : (s : Settings) (S : System) (frame : List ℕ) (q : List (List ℕ)) → S.here.queue ≡ frame ∷ q → Inv s S → Inv s (restated S S.here.state q)
inv_passed s S frame q e I =
    inv_queue s S q I (line_tail s.format S.there.taken frame q (subst (λ z. Line s.format S.there.taken I.got_here I.freed_here I.got_there z) e I.to_here))

-- a frame of it is lost or damaged
pub inv_harm : (s : Settings) (S : System) (q : List (List ℕ)) → Harm s.format S.here.queue q → Inv s S → Inv s (restated S S.here.state q)
inv_harm s S q k I = inv_queue s S q I (line_harm s.format S.there.taken S.here.queue q k I.to_here)

-- x packets of this end have arrived: those up to x are freed
pub inv_freed : (s : Settings) (S : System) (x : ℕ) (q : List (List ℕ)) (I : Inv s S) → I.freed_here ≤ x
    → Line s.format S.there.taken I.got_here x I.got_there q → Inv s (restated S (freed S.here.state ((x + 3) % 4)) q)
inv_freed s S x q I lo w =
    let l : Link = S.here.state in
    let hi : x ≤ length S.here.taken = omega (arith, line_freed s.format S.there.taken q w, line_taken s.format S.here.taken S.there.queue I.to_there) in
    record {
      freed_here = x;
      freed_there = I.freed_there;
      got_here = I.got_here;
      got_there = I.got_there;
      here = record {
        sound = freed_sound l ((x + 3) % 4) I.here.sound;
        timed = I.here.timed;
        settings = I.here.settings;
        room = I.here.room;
        next = I.here.next;
        window = freed_window l (length S.here.taken) I.freed_here x I.here.next I.here.window
            (window_small s S.here S.there.taken I.freed_here I.got_here I.here) lo hi;
        expected = I.here.expected;
        count = I.here.count;
        first = I.here.first;
        holds = λ f p q. I.here.holds f (omega arith) q;
      };
      there = I.there;
      to_here = w;
      to_there = I.to_there;
    }

-- so too where the expected packet is delivered
abbrev pub delivering : System → Link → List (List ℕ) → List ℕ → System
delivering S l queue packet = record {
  here = record { state = l; slots = S.here.slots; queue = queue; taken = S.here.taken; delivered = S.here.delivered ++ (packet ∷ []) };
  there = S.there;
}

pub inv_delivered : (s : Settings) (S : System) (ms x : ℕ) (q : List (List ℕ)) (packet : List ℕ) (I : Inv s S) → IsClock ms → I.freed_here ≤ x → I.got_here < length S.there.taken
    → packet ≡ get_or S.there.taken I.got_here [] → Line s.format S.there.taken (suc I.got_here) x I.got_there q
    → Inv s (delivering S (after_delivery (freed S.here.state ((x + 3) % 4)) ms) q packet)
inv_delivered s S ms x q packet I c lo more p w =
    let t : List (List ℕ) = S.there.taken in
    let l : Link = S.here.state in
    let g : ℕ = I.got_here in
    let hi : x ≤ length S.here.taken = omega (arith, line_freed s.format t q w, line_taken s.format S.here.taken S.there.queue I.to_there) in
    record {
      freed_here = x;
      freed_there = I.freed_there;
      got_here = suc g;
      got_there = I.got_there;
      here = record {
        sound = after_delivery_sound (freed l ((x + 3) % 4)) ms (freed_sound l ((x + 3) % 4) I.here.sound);
        timed = (I.here.timed.0, cond_both l.acking l.ackstart ms (λ n. IsClock n) (λ e. I.here.timed.1) (λ e. c));
        settings = I.here.settings;
        room = I.here.room;
        next = I.here.next;
        window = freed_window l (length S.here.taken) I.freed_here x I.here.next I.here.window
            (window_small s S.here t I.freed_here g I.here) lo hi;
        expected = omega (arith, I.here.expected);
        count = rw length-append (omega (arith, I.here.count));
        first = rw (I.here.first, p) (sym (take-suc t g [] more));
        holds = λ f p q. I.here.holds f (omega arith) q;
      };
      there = I.there;
      to_here = w;
      to_there = line_mono s.format S.here.taken {h = I.got_there} {b = I.freed_there} {e = g} {h₁ = I.got_there} {b₁ = I.freed_there} {e₁ = suc g} S.there.queue (omega arith) (omega arith) (omega arith) I.to_there;
    }

-- ---- one more packet taken

abbrev pub adding : System → Link → List ℕ → List ℕ → List (List ℕ) → System
adding S l slots packet sent = record {
  here = record { state = l; slots = slots; queue = S.here.queue; taken = S.here.taken ++ (packet ∷ []); delivered = S.here.delivered };
  there = requeued S.there (queued S.there.queue sent);
}

-- where it is added, each waiting packet stands in its slot
added_holds : (s : Settings) (x : Side) (t : List (List ℕ)) (b g : ℕ) (packet : List ℕ) (ms : ℕ) → Way s x t b g
    → length packet ≤ limit_of x.state.settings → x.state.waiting < x.state.settings.window
    → (f : ℕ) → b ≤ f → f < length (x.taken ++ (packet ∷ []))
    → packet_of (sent_first x.state ms (length packet)) (put x.slots (part_of x.state x.state.next) packet) (f % 4) ≡ get_or (x.taken ++ (packet ∷ [])) f []
added_holds s x t b g packet ms w hi place f lo lt = go (eqb f n) refl
  where
    l : Link
    l = x.state

    n : ℕ
    n = length x.taken

    formed : Formed l
    formed = well_formed_facts l w.sound.formed

    slots_room : slots_need l.settings ≤ length x.slots
    slots_room = rw w.settings w.room

    go : (y : Bool) → eqb f n ≡ y
        → packet_of (sent_first l ms (length packet)) (put x.slots (part_of l l.next) packet) (f % 4) ≡ get_or (x.taken ++ (packet ∷ [])) f []
    go true e =
        let at : f ≡ n = eqb-true f n e in
        let number : f % 4 ≡ l.next = omega (arith, w.next) in
        let slot : slot_of l l.next < length l.lengths = omega (arith, slot_of_small l l.next formed.settings, w.sound.lengths) in
        let part : part_of l l.next ≤ length x.slots =
        omega (arith, part_inside (slot_of l l.next) l.settings.window (limit_of l.settings) 0 (length x.slots) (slot_of_lt l l.next formed.settings.window_lo) (omega arith) slots_room) in
        rw (number) (new_packet l x.slots [] packet ms slot part)
        ∙ sym (ap (λ (k : ℕ). get_or (x.taken ++ (packet ∷ [])) k []) at ∙ get_or-append_seam x.taken packet [] [])
    go false e =
        let longer : length (x.taken ++ (packet ∷ [])) ≡ n + 1 = length-append x.taken (packet ∷ []) in
        let below : f < n = omega (arith, eqb-false f n e) in
        let two : l.settings.window ≡ 2 = omega (arith, w.window, formed.settings.window_hi) in
        let number : sent_before l 0 ≡ f % 4 = omega (arith, w.next, w.window, formed.settings.window_hi) in
        let len : length_of l (f % 4) ≤ limit_of l.settings = subst (λ k. length_of l k ≤ limit_of l.settings) number (formed.lengths 0 (omega (arith, w.window))).most in
        let room2 : 2 * limit_of l.settings ≤ length x.slots = subst (λ k. k * limit_of l.settings ≤ length x.slots) two slots_room in
        old_packet l x.slots packet ms (f % 4) two (slots_apart l (f % 4) two number) len hi room2
        ∙ w.holds f lo below
        ∙ sym (get_or-append x.taken (packet ∷ []) [] f below)

pub inv_added : (s : Settings) (S : System) (packet frame : List ℕ) (ms : ℕ) (I : Inv s S) → IsClock ms → Sound (sent_first S.here.state ms (length packet))
    → 1 ≤ length packet → length packet ≤ limit_of S.here.state.settings → S.here.state.waiting < S.here.state.settings.window
    → length (put S.here.slots (part_of S.here.state S.here.state.next) packet) ≡ length S.here.slots
    → heard s.format frame ≡ Data S.here.state.next false ((I.got_here + 3) % 4) (length packet) → packet_in frame (length packet) ≡ packet
    → Inv s (adding S (sent_first S.here.state ms (length packet)) (put S.here.slots (part_of S.here.state S.here.state.next) packet) packet (frame ∷ []))
inv_added s S packet frame ms I c k lo hi place same m p =
    let t : List (List ℕ) = S.here.taken in
    let n : ℕ = length t in
    let longer : length (t ++ (packet ∷ [])) ≡ n + 1 = length-append t (packet ∷ []) in
    let reached : I.got_there ≤ n = line_taken s.format t S.there.queue I.to_there in
    let read : heard s.format frame ≡ Data (n % 4) false ((I.got_here + 3) % 4) (length packet) = m ∙ ap (λ (x : ℕ). Data x false ((I.got_here + 3) % 4) (length packet)) I.here.next in
    let got : packet_in frame (length packet) ≡ get_or (t ++ (packet ∷ [])) n [] = p ∙ sym (get_or-append_seam t packet [] []) in
    record {
      freed_here = I.freed_here;
      freed_there = I.freed_there;
      got_here = I.got_here;
      got_there = I.got_there;
      here = record {
        sound = k;
        timed = (set_timed S.here.state.starts (slot_of S.here.state S.here.state.next) ms I.here.timed.0 c, I.here.timed.1);
        settings = I.here.settings;
        room = rw same I.here.room;
        next = rw longer (omega (arith, I.here.next));
        window = rw longer (omega (arith, I.here.window));
        expected = I.here.expected;
        count = I.here.count;
        first = I.here.first;
        holds = added_holds s S.here S.there.taken I.freed_here I.got_here packet ms I.here hi place;
      };
      there = record {
        sound = I.there.sound;
        timed = I.there.timed;
        settings = I.there.settings;
        room = I.there.room;
        next = I.there.next;
        window = I.there.window;
        expected = I.there.expected;
        count = I.there.count;
        first = I.there.first ∙ sym (take-append-le I.got_there t (packet ∷ []) reached);
        holds = I.there.holds;
      };
      to_here = I.to_here;
      to_there = line_data s.format (t ++ (packet ∷ [])) n (length packet) frame S.there.queue read got lo (rw longer (omega arith)) (rw longer (omega arith))
          (line_more s.format t packet S.there.queue I.to_there);
    }

-- ---- the start

no_starts : (i : ℕ) → IsClock (get_or (0 ∷ 0 ∷ []) i 0)
no_starts zero = omega arith
no_starts (suc zero) = omega arith
no_starts (suc (suc i)) = omega arith

fresh_way : (s : Settings) (slots : List ℕ) → InRange s → slots_need s ≤ length slots → Way s (fresh_side s slots) [] 0 0
unfolding fresh_of
fresh_way s slots r h = record {
  sound = fresh_sound s r;
  timed = (no_starts, omega arith);
  settings = refl;
  room = h;
  next = refl;
  window = refl;
  expected = refl;
  count = refl;
  first = refl;
  holds = λ f lo lt. absurd (omega arith);
}

pub inv_start : (s : Settings) (slots slots2 : List ℕ) → InRange s → slots_need s ≤ length slots → slots_need s ≤ length slots2
    → Inv s (record { here = fresh_side s slots; there = fresh_side s slots2 })
inv_start s slots slots2 r h k = record {
  freed_here = 0;
  freed_there = 0;
  got_here = 0;
  got_there = 0;
  here = fresh_way s slots r h;
  there = fresh_way s slots2 r k;
  to_here = clear {h = 0} {b = 0} {e = 0} (omega arith) (omega arith);
  to_there = clear {h = 0} {b = 0} {e = 0} (omega arith) (omega arith);
}

-- the first half, of what holds
pub inv_first : (s : Settings) (S : System) → Inv s S → FirstSoManyOf S.there.delivered S.here.taken × FirstSoManyOf S.here.delivered S.there.taken
inv_first s S I = (rw I.there.count I.there.first, rw I.here.count I.here.first)
