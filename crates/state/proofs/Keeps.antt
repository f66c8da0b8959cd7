-- Which changes keep a sound state sound, and that start and resynchronise do.
use Rattle.std.proofs.Common.{◌≡◌, ℕ, zero, suc, ◌<◌, ◌≤◌, Bool, true, false, cond, not, ltb, List, length, get_or, refl, ◌∙◌, arith, le-ltb}
use Rattle.base.specs.Answer.{done, out_of_range, short_buffer, link_lost}
use Rattle.std.proofs.lemmas.Bool.{cond-false}
use Rattle.state.specs.declared.Settings.{Settings}
use Rattle.state.specs.declared.Link.{Link}
use Rattle.state.specs.declared.Outcome.{Outcome}
use Rattle.state.specs.Bounds.{in_range, slots_need, frame_need}
use Rattle.state.specs.Fields.{with_starts, with_ackstart, with_repeated, with_expected, with_waiting, with_acking, with_nakmark, with_lost}
use Rattle.state.specs.State.{fresh_of}
use Rattle.state.specs.Gate.{After, only, gated, entry_of, gate_of}
use Rattle.state.specs.Calls.{zeros, started, reset_sent, resynchronised}
use Rattle.state.specs.Formed.{InRange, Formed, Sound}
use Rattle.state.proofs.Facts.{in_range_facts, well_formed_facts, facts_well_formed, gated_cases}

-- ---- changes of a state

-- all that a call but submit and a reset may change
abbrev pub changed : Link → List ℕ → List ℕ → ℕ → ℕ → ℕ → Bool → Bool → Bool → Link
changed l starts repeated ackstart expected waiting acking nakmark lost =
    let timed : Link = with_ackstart (with_repeated (with_starts l starts) repeated) ackstart in
    with_lost (with_nakmark (with_acking (with_waiting (with_expected timed expected) waiting) acking) nakmark) lost

pub changed_sound : (l : Link) (starts repeated : List ℕ) (ackstart expected waiting : ℕ) (acking nakmark lost : Bool) → Sound l
    → length starts ≡ 2 → length repeated ≡ 2 → expected ≤ 3 → waiting ≤ l.waiting → ((i : ℕ) → i < 2 → get_or repeated i 0 ≤ l.settings.repeats)
    → Sound (changed l starts repeated ackstart expected waiting acking nakmark lost)
changed_sound l starts repeated ackstart expected waiting acking nakmark lost s st co e w c =
    let f : Formed l = well_formed_facts l s.formed in
    let k : Link = changed l starts repeated ackstart expected waiting acking nakmark lost in
    record {
      starts = st;
      lengths = s.lengths;
      repeated = co;
      formed = facts_well_formed k (record {
        settings = f.settings;
        next = f.next;
        expected = e;
        waiting = omega (arith, f.waiting);
        lengths = λ n h. let waits : n < l.waiting = omega arith in record { least = (f.lengths n waits).least; most = (f.lengths n waits).most };
        repeated = c;
      });
    }

-- marks and the acknowledge timer: no more than these change
pub marked_sound : (l : Link) (ackstart : ℕ) (acking nakmark lost : Bool) → Sound l
    → Sound (changed l l.starts l.repeated ackstart l.expected l.waiting acking nakmark lost)
marked_sound l ackstart acking nakmark lost s =
    let f : Formed l = well_formed_facts l s.formed in
    changed_sound l l.starts l.repeated ackstart l.expected l.waiting acking nakmark lost s s.starts s.repeated f.expected (omega arith) f.repeated

no_repeated : (s : Settings) (i : ℕ) → i < 2 → get_or (fresh_of s).repeated i 0 ≤ s.repeats
unfolding fresh_of
no_repeated s zero h = omega arith
no_repeated s (suc zero) h = omega arith
no_repeated s (suc (suc i)) h = absurd (omega arith)

pub fresh_sound : (s : Settings) → InRange s → Sound (fresh_of s)
unfolding fresh_of
fresh_sound s r =
    record {
      starts = refl;
      lengths = refl;
      repeated = refl;
      formed = facts_well_formed (fresh_of s) (record {
        settings = r;
        next = omega arith;
        expected = omega arith;
        waiting = omega arith;
        lengths = λ n h. absurd (omega arith);
        repeated = no_repeated s;
      });
    }

-- ---- behind a gate

pub gated_sound : (answer : ℕ) (l : Link) (slots frame : List ℕ) (inside : After Outcome) → Sound l
    → (answer ≡ done → Sound inside.told.state) → Sound (gated answer l slots frame inside).told.state
gated_sound answer l slots frame inside s f = gated_cases (λ a. Sound a.told.state) answer l slots frame inside f (λ n. s)

-- with buffers that are long enough only the lost mark is left to stop a sound end
pub sound_gate : (l : Link) (slots frame : ℕ) → Sound l → slots_need l.settings ≤ slots → frame_need l.settings ≤ frame
    → gate_of l slots frame ≡ cond l.lost link_lost done
unfolding gate_of entry_of
sound_gate l slots frame s h k = rw (s.formed, le-ltb slots (slots_need l.settings) h, le-ltb frame (frame_need l.settings) k)

pub sound_open : (l : Link) (slots frame : ℕ) → Sound l → l.lost ≡ false → slots_need l.settings ≤ slots → frame_need l.settings ≤ frame
    → gate_of l slots frame ≡ done
sound_open l slots frame s alive h k = sound_gate l slots frame s h k ∙ cond-false l.lost link_lost done alive

-- ---- start and resynchronise

pub renewed_sound : (l : Link) → Sound l → Sound (fresh_of l.settings)
renewed_sound l s = fresh_sound l.settings (well_formed_facts l s.formed).settings

pub resynchronised_sound : (l : Link) (slots frame : List ℕ) → Sound l → Sound (resynchronised l slots frame).told.state
unfolding resynchronised
resynchronised_sound l slots frame s =
    gated_sound (entry_of l (length slots) (length frame)) l slots frame (reset_sent l slots frame) s (λ e. renewed_sound l s)

pub started_sound : (s : Settings) (slots : ℕ) → (started s slots).answer ≡ done → Sound (started s slots).state
unfolding started
started_sound s slots = go (in_range s) refl
  where
    room : (t : Bool) → in_range s ≡ true → (cond t (only zeros short_buffer) (only (fresh_of s) done)).answer ≡ done → Sound (cond t (only zeros short_buffer) (only (fresh_of s) done)).state
    room true e a = absurd (omega arith)
    room false e a = fresh_sound s (in_range_facts s e)

    go : (t : Bool) → in_range s ≡ t → (cond (not t) (only zeros out_of_range) (cond (ltb slots (slots_need s)) (only zeros short_buffer) (only (fresh_of s) done))).answer ≡ done
        → Sound (cond (not t) (only zeros out_of_range) (cond (ltb slots (slots_need s)) (only zeros short_buffer) (only (fresh_of s) done))).state
    go true e a = room (ltb slots (slots_need s)) e a
    go false e a = absurd (omega arith)
