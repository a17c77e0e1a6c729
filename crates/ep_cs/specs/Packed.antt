-- What a packed change and a builder hold.
use Rattle.std.specs.Prelude.{◌≡◌, ◌≤◌, ◌^◌, ◌<◌, length}
use Rattle.ep_cs.specs.declared.packed.Packed.TheInside as packed
use Rattle.ep_cs.specs.declared.builder.Builder.TheInside as builder
use Rattle.ep_cs.specs.Runs.{steps_of, marks_of, all_passed}
use Rattle.ep_cs.specs.Change.{Change, change_of}
use Rattle.ep_cs.specs.Spelling.{new_len}
use Rattle.ep_cs.specs.Fits.{AreDocuments}
use Rattle.ep_cs.specs.NormalRuns.{AreNormal, AreLined}
use Rattle.ep_cs.specs.Written.{AreWritten}
use Rattle.ep_cs.specs.Draft.{Draft, new_length}

-- the change that the runs and the bank stand for
abbrev pub packed_change : packed.Inside → Change
packed_change c = change_of c.old_len c.ops.items c.bank

pub record IsPacked (c : packed.Inside) : Type 0 where
  pub inside : all_passed c.ops.items ≤ c.old_len
  pub normal : AreNormal c.ops.items c.bank
  pub lined : AreLined c.ops.items
  pub old : c.old_len < 2 ^ 32
  pub new : c.new_len ≡ new_len (packed_change c).edit
  pub short : c.new_len < 2 ^ 32
  pub pieces : AreDocuments (packed_change c).edit.places (packed_change c).edit.last

-- the draft that a builder has begun
abbrev pub begun : builder.Inside → Draft
begun b = record { old = b.old_len; steps = steps_of b.ops.items b.bank; marks = marks_of b.ops.items }

pub record IsBegun (b : builder.Inside) : Type 0 where
  pub inside : all_passed b.ops.items ≤ b.old_len
  pub written : AreWritten b.ops.items b.bank
  pub lined : AreLined b.ops.items
  pub new : b.new_len ≡ new_length (begun b)
  pub few : length b.bank < 2 ^ 32
  pub old : b.old_len < 2 ^ 32
