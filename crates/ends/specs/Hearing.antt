-- What an end hears in a frame, as far as a teller asks: steps 1 to 4 (R4.1 to R4.4), and what they leave together.
use Rattle.std.specs.Prelude.{ℕ, Bool, true, false, List, length, eqb}
use Rattle.frame.specs.declared.Format.{Format}
use Rattle.frame.specs.declared.Heard.{Heard}
use Rattle.frame.specs.declared.Heard.TheVariants as frame
use Rattle.frame.specs.Steps.{heard}
use Rattle.frame.specs.Orders.{in_other_order}
use Rattle.ends.specs.declared.hearing.Hearing.{Hearing}
use Rattle.ends.specs.declared.hearing.Hearing.TheVariants.{Size, Sum, Turned, ControlSize, Length, Reset, Other}

-- of a frame with a wrong checksum, by what is heard in it in the other order of FCS
abbrev pub of_wrong_sum : Heard → Hearing
of_wrong_sum frame.Sum = Sum
of_wrong_sum _ = Turned

-- by what is heard in it, and in the other order of FCS, and by whether it has no more than what every frame has
abbrev pub told_of : Heard → Heard → Bool → Hearing
told_of frame.Size _ _ = Size
told_of frame.Sum other _ = of_wrong_sum other
told_of frame.ControlSize _ is_bare = ControlSize is_bare
told_of frame.Length _ is_bare = Length is_bare
told_of frame.Reset _ _ = Reset
told_of _ _ _ = Other

abbrev pub hearing_of : Format → List ℕ → Hearing
hearing_of format frame = told_of (heard format frame) (heard (in_other_order format) frame) (eqb (length frame) 5)

-- R4.1: its size and its checksum are right
abbrev pub passes : Hearing → Bool
passes Size = false
passes Sum = false
passes Turned = false
passes _ = true
