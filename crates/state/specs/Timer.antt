-- Time that has passed, and timers: R6.1, R6.2, R6.6.
use Rattle.std.specs.Prelude.{ℕ, ◌+◌, ◌-◌, ◌%◌, Bool, cond, ◌&&◌, ◌==◌, nat_lt}
use Rattle.base.specs.Range.{least_of}
use Rattle.state.specs.declared.Link.{Link}
use Rattle.state.specs.State.{sent_before, start_of, well_formed}

-- ---- one timer

-- R6.1: there is no deadline here (R11.2), and a wrap between start and now does not matter
abbrev pub elapsed : ℕ → ℕ → ℕ
elapsed start ms = (ms + 4294967296 - start) % 4294967296

-- R6.1: the milliseconds that are left of a timeout
abbrev pub left : ℕ → ℕ → ℕ → ℕ
left timeout start ms = timeout - elapsed start ms

-- R6.1: the difference stops at 0, so none left is the same as elapsed being at least the timeout
abbrev pub due : ℕ → ℕ → ℕ → Bool
due timeout start ms = left timeout start ms == 0

-- the clock so many milliseconds on: it wraps at 2^32. No call moves a clock; this is for the timer rounds (R6.5, pair).
abbrev pub onward : ℕ → ℕ → ℕ
onward ms passed = (ms + passed) % 4294967296

-- ---- the timers of an end

-- R6.2: the timer of the packet that n were sent after; it runs while the packet waits (R5.1)
abbrev pub packet_due : Link → ℕ → ℕ → Bool
packet_due l n ms = nat_lt n l.waiting && due l.settings.transtimeout (start_of l (sent_before l n)) ms

-- R6.2: the acknowledge timer
abbrev pub acknowledge_due : Link → ℕ → Bool
acknowledge_due l ms = l.acking && due l.settings.acktimeout l.ackstart ms

-- ---- R6.6: how long none of them is due

-- no timer runs. No timeout comes near it.
abbrev pub no_timer : ℕ
no_timer = 65535

-- a packet that was freed has no timer, whatever start time its slot still holds
abbrev pub packet_left : Link → ℕ → ℕ → ℕ
packet_left l n ms = cond (nat_lt n l.waiting) (left l.settings.transtimeout (start_of l (sent_before l n)) ms) no_timer

abbrev pub acknowledge_left : Link → ℕ → ℕ
acknowledge_left l ms = cond l.acking (left l.settings.acktimeout l.ackstart ms) no_timer

-- R6.6: 0 where a timer is due. Of a state that every call refuses with 1 no timer is read.
unfoldable pub time_left : Link → ℕ → ℕ
unfolding well_formed
time_left l ms =
    cond (well_formed l) (least_of (least_of (packet_left l 0 ms) (packet_left l 1 ms)) (acknowledge_left l ms)) no_timer
