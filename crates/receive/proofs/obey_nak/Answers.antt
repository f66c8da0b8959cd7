-- `receive::obey_nak` meets its contract.
use Rattle.std.proofs.Common.{sym, ◌∙◌}
use Rattle.state.proofs.Facts.{gate_of_facts}
use Rattle.receive.proofs.Facts.{repeatable_ready}
use Rattle.receive.proofs.obey_nak.Goals as goal

pub repeat-sent-requires : goal.repeat-sent-requires
repeat-sent-requires c = repeatable_ready _ _ _ _ (gate_of_facts _ _ _ c.requires.0) c.requires.2 (sym c.is_repeatable.ensures ∙ c.if-is_repeatable.true)
