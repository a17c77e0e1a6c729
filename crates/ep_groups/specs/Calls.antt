-- Calls with what their types say of them, and replies that name no foreign value.
use Rattle.std.specs.Prelude.{ℕ, ◌≡◌, ◌<◌, ◌^◌, nat_lt, List, slice_index, length, IsTrue, Some, Result, Err}
use Rattle.std.specs.List.{list_all}
use Rattle.ep_units.specs.Text.{Text}
use Rattle.ep_units.specs.PadId.{is_own_id}
use Rattle.ep_outside.specs.declared.keeper.Pair.{Pair}
use Rattle.ep_dir_records.specs.Answers.{Seen}
use Rattle.ep_dir_records.specs.declared.dir_bad.DirBad.{DirBad}
use Rattle.ep_dir_records.specs.declared.dir_bad.DirBad.TheVariants.{Kept}
use Rattle.ep_groups.specs.declared.entries.DirEntry.{DirEntry}
use Rattle.ep_groups.specs.declared.entries.DirEntry.TheVariants as entry
use Rattle.ep_groups.specs.declared.entries.DirReply.{DirReply}
use Rattle.ep_groups.specs.declared.entries.DirReply.TheVariants as reply
use Rattle.ep_groups.specs.Ours.{AreOurs}

-- units are 16 bits wide
abbrev pub AreUnits : Text → Type 0
AreUnits us = (k : ℕ) → slice_index us k < 2 ^ 16

-- ten numbers below 36
abbrev pub IsDrawn : List ℕ → Type 0
IsDrawn digits = (length digits ≡ 10) × IsTrue (list_all (λ d. nat_lt d 36) digits)

-- a pad's own id
abbrev pub IsPad : Text → Type 0
IsPad pad = AreUnits pad × IsTrue (is_own_id pad)

-- the values of a call are values of their types
abbrev pub IsCall : DirEntry → Type 0
IsCall (entry.CreateGroup drawn) = IsDrawn drawn.digits
IsCall (entry.GroupFor mapper drawn) = IsDrawn drawn.digits
IsCall (entry.AddGroupPad group name) = AreUnits group × AreUnits name
IsCall (entry.CreateAuthor name drawn) = IsDrawn drawn.digits
IsCall (entry.AuthorFor mapper name drawn) = IsDrawn drawn.digits
IsCall (entry.CreateSession a) = (a.valid_until < 2 ^ 64) × IsDrawn a.drawn.digits
IsCall (entry.ReadOnly pad drawn) = IsPad pad × IsDrawn drawn.digits
IsCall (entry.Grant a) = IsDrawn a.drawn.digits
IsCall _ = Unit {0}

-- it is not refused for a value of another form
abbrev pub NotKept : {A : Type 0} → Result A DirBad → Type 0
NotKept r = (key : Text) → r ≡ Err (Kept key) → ⊥

abbrev pub IsNotKept : DirReply → Type 0
IsNotKept (reply.Text r) = NotKept r
IsNotKept (reply.Texts r) = NotKept r
IsNotKept (reply.Done r) = NotKept r
IsNotKept (reply.Pad r) = NotKept r
IsNotKept (reply.Pads r) = NotKept r
IsNotKept (reply.Session r) = NotKept r
IsNotKept (reply.Sessions r) = NotKept r
IsNotKept (reply.Grant r) = NotKept r

-- where a map is told afterwards, one was told before; and where that one was the directory's own, so is this one, and the reply names no value of another form
abbrev pub StaysOurs : Seen → Seen → DirReply → Type 0
StaysOurs old now r = (n : List Pair) → now.told ≡ Some n → (m : List Pair) × (old.told ≡ Some m) × (AreOurs m → AreOurs n × IsNotKept r)
