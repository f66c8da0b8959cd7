-- `receive::take_data` meets its contract.
use Rattle.receive.proofs.Facts.{step6_ready, step6_expected}
use Rattle.receive.proofs.take_data.Goals as goal

pub deliver_data-requires : goal.deliver_data-requires
deliver_data-requires c = let p = c.requires in
    let a = c.args in (
      step6_expected a.l _ a.nak a.acknowledged c.obey_acknowledgement-sixth.ensures p.1.1.1,
      step6_ready _ _ a.nak _ _ _ _ p.0 p.2 c.is_repeatable.ensures c.obey_acknowledgement-sixth.ensures,
    )

pub pass_data-requires : goal.pass_data-requires
pass_data-requires c = let p = c.requires in
    (p.1.2, step6_ready _ _ c.args.nak _ _ _ _ p.0 p.2 c.is_repeatable.ensures c.obey_acknowledgement-sixth.ensures)
