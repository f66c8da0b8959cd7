-- What is given of a line.
use Rattle.std.specs.Prelude.{◌≤◌, length}
use Rattle.text.specs.declared.line.Line.{Line}
use Rattle.text.specs.declared.line.Line.TheVariants.{Silent, TooLong, Text}

-- what is given is no longer than the longest line
abbrev pub Short : Line → Type 0
Short (Silent text) = length text.now ≤ 20000
Short TooLong = Unit {0}
Short (Text text) = length text.now ≤ 20000
