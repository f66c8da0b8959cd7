-- What the gate of a chain says; the calls alone.
use Rattle.std.proofs.Common.{◌≡◌, sym, ap, ◌∙◌, Bool, cond, ◌&&◌, List, ℕ, ◌≤◌, arith, ltb-false, eqb-true, ne_eqb, ◌≢◌, false, length, get_or, ltb, leb, eqb}
use Rattle.base.specs.Answer.{done, chain_fault, fault_told, secured_packet, too_long}
use Rattle.std.proofs.lemmas.Bool.{lt-leb, cond_both}
use Rattle.base.proofs.Tests.{spared, first_refusal_four}
use Rattle.chain.specs.declared.Joining.{Joining}
use Rattle.chain.specs.declared.pctr.Chain.{Chain}
use Rattle.chain.specs.declared.pctr.Chain.TheVariants.{Whole, First, Middle, Last, Fault}
use Rattle.chain.specs.Pctr.{only_channel, secured_of, chain_of, whole, first, middle, last, fault, bits_of}
use Rattle.chain.specs.Cut.{longest, Cutting}
use Rattle.chain.specs.Join.{closed, grown, Joins, joins, drops_chain, refusal, join_gate, begins, finishes, faulty, total_of, chain_gate, part_told, part_added, part_joined, joined}
use Rattle.chain.specs.Promises.{CutSettled, JoinSettled, JoinKept}

pub chain_gate_fits : (m : ℕ) (j : Joining) (pctr size : ℕ) → chain_gate m j pctr size ≡ done → total_of j (chain_of pctr) size ≤ longest
unfolding chain_gate
chain_gate_fits m j pctr size e =
    let one : ℕ = cond (eqb (chain_of pctr) fault && eqb size 1) fault_told done in
    let two : ℕ = cond (faulty m j.opened (chain_of pctr) size) chain_fault done in
    let three : ℕ = cond (secured_of pctr && begins (chain_of pctr)) secured_packet done in
    let long : Bool = ltb longest (total_of j (chain_of pctr) size) in
    let four : ℕ = cond long too_long done in
    ltb-false longest (total_of j (chain_of pctr) size) (spared long too_long (omega arith) (first_refusal_four one two three four e).3)

-- R7.5: bits that are no CHAIN get 10, whatever else holds
pub other_bits_refused : (m : ℕ) (j : Joining) (pctr size : ℕ) → ((chain : Chain) → bits_of chain ≢ chain_of pctr) → chain_gate m j pctr size ≡ chain_fault
unfolding chain_gate faulty
other_bits_refused m j pctr size none =
    let bits : ℕ = chain_of pctr in
    let not_whole : bits ≢ whole = λ e. none Whole (sym e) in
    let not_first : bits ≢ first = λ e. none First (sym e) in
    let not_middle : eqb bits middle ≡ false = ne_eqb bits middle (λ e. none Middle (sym e)) in
    let not_last : eqb bits last ≡ false = ne_eqb bits last (λ e. none Last (sym e)) in
    let not_fault : eqb bits fault ≡ false = ne_eqb bits fault (λ e. none Fault (sym e)) in
    let goes_on : leb bits first ≡ false = lt-leb bits first (omega (arith, not_whole, not_first)) in
    rw (not_fault, goes_on, not_middle, not_last)

-- ---- the calls alone

pub cut_settled : CutSettled
cut_settled m message i packet told other written other_written p q =
    let e = p ∙ sym q in
    (ap (λ (c : Cutting). c.told) e, ap (λ (c : Cutting). c.buffer) e)

pub join_settled : JoinSettled
join_settled m j packet room told other written other_written p q =
    let e = p ∙ sym q in
    (ap (λ (j : Joins). j.told) e, ap (λ (j : Joins). j.room) e)

refusal_kept : (channel : ℕ) (j : Joining) (answer : ℕ) → j.length ≤ longest → (refusal channel j answer).state.length ≤ longest
refusal_kept channel j answer h = cond_both (drops_chain answer) (closed j) j (λ (k : Joining). k.length ≤ longest) (λ e. omega arith) (λ e. h)

part_kept : (j : Joining) (chain size : ℕ) → total_of j chain size ≤ longest → (part_told j chain size).state.length ≤ longest
part_kept j chain size h =
    cond_both (finishes chain) (closed j) (grown j (total_of j chain size)) (λ (k : Joining). k.length ≤ longest) (λ e. omega arith) (λ e. h)

part_joined_kept : (m channel : ℕ) (j : Joining) (packet room : List ℕ) → j.length ≤ longest → (part_joined m channel j packet room).told.state.length ≤ longest
unfolding part_joined
part_joined_kept m channel j packet room h =
    let pctr : ℕ = get_or packet 0 0 in
    let answer : ℕ = chain_gate m j pctr (length packet) in
    cond_both (eqb answer done) (part_added j packet (chain_of pctr) room) (joins (refusal channel j answer) room) (λ (a : Joins). a.told.state.length ≤ longest)
    (λ e. part_kept j (chain_of pctr) (length packet) (chain_gate_fits m j pctr (length packet) (eqb-true answer done e))) (λ e. refusal_kept channel j answer h)

pub join_kept : JoinKept
unfolding joined
join_kept m j packet room h =
    let answer : ℕ = join_gate m j packet (length room) in
    cond_both (eqb answer done) (part_joined m only_channel j packet room) (joins (refusal only_channel j answer) room) (λ (a : Joins). a.told.state.length ≤ longest)
    (λ e. part_joined_kept m only_channel j packet room h) (λ e. refusal_kept only_channel j answer h)
