-- start and resynchronise, and how an end becomes fresh, on every input: R1.3, R1.5, R4.5, R5.9, R8.1, R8.2.
use Rattle.std.specs.Prelude.{ℕ, cond, not, List, length, nat_lt}
use Rattle.base.specs.Answer.{done, out_of_range, short_buffer}
use Rattle.base.specs.Buffer.{put}
use Rattle.frame.specs.Bytes.{reset_frame}
use Rattle.state.specs.declared.Settings.{Settings}
use Rattle.state.specs.declared.Link.{Link}
use Rattle.state.specs.declared.Outcome.{Outcome}
use Rattle.state.specs.Bounds.{in_range, slots_need}
use Rattle.state.specs.State.{fresh_of, renewed}
use Rattle.state.specs.Gate.{After, after, only, gated, entry_of}

-- R8.1, R8.2: what a refused start gives. Its D is 0, so it is refused without a rule of its own (DECISIONS D20).
abbrev pub zeros : Link
zeros = fresh_of (record { format = record { d = 0; order = 0 }; transtimeout = 0; acktimeout = 0; window = 0; repeats = 0 })

-- R1.3: start, of the settings and the length of the slot buffer; it asks in the order of R9.1, and gives a fresh end (R5.2)
unfoldable pub started : Settings → ℕ → Outcome
unfolding in_range fresh_of
started s slots =
    cond (not (in_range s)) (only zeros out_of_range) (cond (nat_lt slots (slots_need s)) (only zeros short_buffer) (only (fresh_of s) done))

-- R4.5, R5.9: how an end becomes fresh, by whatever call, with a frame of so many bytes sent; all that waited is dropped (R1.5)
abbrev pub became_fresh : Link → ℕ → Outcome
became_fresh l sent = record { state = renewed l; sent = sent; delivered = 0; dropped = l.waiting; answer = done }

-- R5.9, behind its gate; the frame as R1.4 has it
abbrev pub reset_sent : Link → List ℕ → List ℕ → After Outcome
reset_sent l slots frame =
    let bytes : List ℕ = reset_frame l.settings.format in
    after (became_fresh l (length bytes)) slots (put frame 0 bytes)

-- R1.3, R5.9: 1 and 2 are asked, and not 3 (R9.1), for this is the way out of a lost link
unfoldable pub resynchronised : Link → List ℕ → List ℕ → After Outcome
unfolding entry_of fresh_of
resynchronised l slots frame = gated (entry_of l (length slots) (length frame)) l slots frame (reset_sent l slots frame)
