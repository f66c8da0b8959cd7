-- What is written to a page.
use Rattle.std.specs.Prelude.{ℕ, List}
use Rattle.std.specs.Io.KnownBytes.{append_known}
use Rattle.std.specs.declared.option.Option.{Option}
use Rattle.text.specs.declared.page.Page.{Page}

-- what its writer has, where that is known, and behind it what waits for the line's end
abbrev pub laid : {W : Type 0} → (W → Option (List ℕ)) → Page W → Option (List ℕ)
laid contents p = append_known (contents p.to) p.line.items
