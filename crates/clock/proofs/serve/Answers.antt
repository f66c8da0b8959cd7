-- `clock::serve` meets its contract.
use Rattle.std.proofs.Common.{sym, ◌∙◌}
use Rattle.state.proofs.Facts.{gate_of_facts}
use Rattle.send.proofs.Facts.{waiting_ready}
use Rattle.clock.proofs.serve.Goals as goal

pub repeat-sent-requires : goal.repeat-sent-requires
repeat-sent-requires c = rw c.sent_before-number.ensures.0 (waiting_ready _ _ _ _ (gate_of_facts _ _ _ c.requires.0) c.requires.2 (rw (← c.sent_before-number.ensures.0) (sym c.may_repeat.ensures ∙ c.if-may_repeat.true)))
