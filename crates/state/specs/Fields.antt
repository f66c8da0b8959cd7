-- A state (R5.1) with one field set and the others as they were: read only the names. No other crate writes a state out field by field.
use Rattle.std.specs.Prelude.{ℕ, Bool, List}
use Rattle.state.specs.declared.Settings.{Settings}
use Rattle.state.specs.declared.Link.{Link}

abbrev pub with_settings : Link → Settings → Link
with_settings l settings = record {
  settings = settings;
  starts = l.starts;
  ackstart = l.ackstart;
  lengths = l.lengths;
  repeated = l.repeated;
  next = l.next;
  expected = l.expected;
  waiting = l.waiting;
  acking = l.acking;
  nakmark = l.nakmark;
  lost = l.lost;
}

abbrev pub with_starts : Link → List ℕ → Link
with_starts l starts = record {
  settings = l.settings;
  starts = starts;
  ackstart = l.ackstart;
  lengths = l.lengths;
  repeated = l.repeated;
  next = l.next;
  expected = l.expected;
  waiting = l.waiting;
  acking = l.acking;
  nakmark = l.nakmark;
  lost = l.lost;
}

abbrev pub with_ackstart : Link → ℕ → Link
with_ackstart l ackstart = record {
  settings = l.settings;
  starts = l.starts;
  ackstart = ackstart;
  lengths = l.lengths;
  repeated = l.repeated;
  next = l.next;
  expected = l.expected;
  waiting = l.waiting;
  acking = l.acking;
  nakmark = l.nakmark;
  lost = l.lost;
}

abbrev pub with_lengths : Link → List ℕ → Link
with_lengths l lengths = record {
  settings = l.settings;
  starts = l.starts;
  ackstart = l.ackstart;
  lengths = lengths;
  repeated = l.repeated;
  next = l.next;
  expected = l.expected;
  waiting = l.waiting;
  acking = l.acking;
  nakmark = l.nakmark;
  lost = l.lost;
}

abbrev pub with_repeated : Link → List ℕ → Link
with_repeated l repeated = record {
  settings = l.settings;
  starts = l.starts;
  ackstart = l.ackstart;
  lengths = l.lengths;
  repeated = repeated;
  next = l.next;
  expected = l.expected;
  waiting = l.waiting;
  acking = l.acking;
  nakmark = l.nakmark;
  lost = l.lost;
}

abbrev pub with_next : Link → ℕ → Link
with_next l next = record {
  settings = l.settings;
  starts = l.starts;
  ackstart = l.ackstart;
  lengths = l.lengths;
  repeated = l.repeated;
  next = next;
  expected = l.expected;
  waiting = l.waiting;
  acking = l.acking;
  nakmark = l.nakmark;
  lost = l.lost;
}

abbrev pub with_expected : Link → ℕ → Link
with_expected l expected = record {
  settings = l.settings;
  starts = l.starts;
  ackstart = l.ackstart;
  lengths = l.lengths;
  repeated = l.repeated;
  next = l.next;
  expected = expected;
  waiting = l.waiting;
  acking = l.acking;
  nakmark = l.nakmark;
  lost = l.lost;
}

abbrev pub with_waiting : Link → ℕ → Link
with_waiting l waiting = record {
  settings = l.settings;
  starts = l.starts;
  ackstart = l.ackstart;
  lengths = l.lengths;
  repeated = l.repeated;
  next = l.next;
  expected = l.expected;
  waiting = waiting;
  acking = l.acking;
  nakmark = l.nakmark;
  lost = l.lost;
}

abbrev pub with_acking : Link → Bool → Link
with_acking l acking = record {
  settings = l.settings;
  starts = l.starts;
  ackstart = l.ackstart;
  lengths = l.lengths;
  repeated = l.repeated;
  next = l.next;
  expected = l.expected;
  waiting = l.waiting;
  acking = acking;
  nakmark = l.nakmark;
  lost = l.lost;
}

abbrev pub with_nakmark : Link → Bool → Link
with_nakmark l nakmark = record {
  settings = l.settings;
  starts = l.starts;
  ackstart = l.ackstart;
  lengths = l.lengths;
  repeated = l.repeated;
  next = l.next;
  expected = l.expected;
  waiting = l.waiting;
  acking = l.acking;
  nakmark = nakmark;
  lost = l.lost;
}

abbrev pub with_lost : Link → Bool → Link
with_lost l lost = record {
  settings = l.settings;
  starts = l.starts;
  ackstart = l.ackstart;
  lengths = l.lengths;
  repeated = l.repeated;
  next = l.next;
  expected = l.expected;
  waiting = l.waiting;
  acking = l.acking;
  nakmark = l.nakmark;
  lost = lost;
}
