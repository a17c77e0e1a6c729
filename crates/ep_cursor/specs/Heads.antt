-- What stands first in what is left of a change.
use Rattle.std.specs.Prelude.{◌≡◌, ℕ, ◌-◌, ◌≤◌, List, [], ◌∷◌, take, drop}
use Rattle.ep_cs.specs.Runs.{inserted, all_passed}
use Rattle.ep_cs.specs.Written.{AreWritten}
use Rattle.ep_cs.specs.declared.op.Op.{Op}
use Rattle.ep_cursor.specs.declared.cursor.Head.{Head}
use Rattle.ep_cursor.specs.declared.cursor.Cursor.TheInside as cursor
use Rattle.ep_cursor.specs.Left.{Left}

abbrev pub op_of : Head → Op
op_of h = record { kind = h.kind; units = h.units; lines = h.lines; attrs = h.attrs.now }

pub record IsHead (h : Head) (l : Left) : Type 0 where
  pub first : l.ops ≡ op_of h ∷ drop 1 l.ops
  pub text : h.text.now ≡ take (inserted h.kind h.units) l.bank

-- runs of whose first so many units and newlines are left
abbrev pub with_first : ℕ → ℕ → List Op → List Op
with_first units lines [] = []
with_first units lines (o ∷ os) = record { kind = o.kind; units = units; lines = lines; attrs = o.attrs } ∷ os

abbrev pub cursor_ops : cursor.Inside → List Op
cursor_ops c = with_first c.units c.lines c.ops.now

-- the places that are left, but those that the runs pass, are kept after them
abbrev pub cursor_left : cursor.Inside → Left
cursor_left c = record { ops = cursor_ops c; bank = c.bank.now; rest = c.places - all_passed (cursor_ops c) }

pub record IsCursor (c : cursor.Inside) : Type 0 where
  pub written : AreWritten (cursor_ops c) c.bank.now
  pub inside : all_passed (cursor_ops c) ≤ c.places
