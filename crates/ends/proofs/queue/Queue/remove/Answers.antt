-- `ends::queue::Queue::remove`: those behind frame n are moved over it.
use Rattle.std.proofs.Common.{arith}
use Rattle.ends.proofs.Windows.{moved_over}
use Rattle.ends.proofs.queue.Queue.remove.Goals as goal

pub returns-then-n-self : goal.returns-then-n-self
returns-then-n-self c = search (arith, moved_over)
