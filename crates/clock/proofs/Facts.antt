-- What looking at the clock cites.
use Rattle.std.proofs.Common.{◌≡◌, true, ℕ, ◌<◌, ltb-true}
use Rattle.std.proofs.lemmas.Bool.{and_parts}
use Rattle.state.specs.declared.Link.{Link}
use Rattle.state.specs.Timer.{packet_due}

-- a due packet waits
pub due-waits : (l : Link) (n ms : ℕ) → packet_due l n ms ≡ true → n < l.waiting
due-waits l n ms e = ltb-true n l.waiting (and_parts _ _ e).0
