-- `ends::queue::Queue::pop`: the first is gone.
use Rattle.std.proofs.Common.{arith}
use Rattle.ends.proofs.Windows.{first_gone}
use Rattle.ends.proofs.queue.Queue.pop.Goals as goal

pub returns-else-self-2 : goal.returns-else-self-2
returns-else-self-2 c = search (arith, first_gone)
