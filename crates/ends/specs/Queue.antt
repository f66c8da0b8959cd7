-- The frames in a queue.
use Rattle.std.specs.Prelude.{List, slice_range}
use Rattle.ends.specs.declared.bytes.Bytes.{Bytes}
use Rattle.ends.specs.declared.queue.Queue.{Queue}

-- those of its room between its marks, the first to arrive first
abbrev pub frames_of : Queue → List Bytes
frames_of queue = slice_range queue.room queue.from queue.to
