-- The headline: what holds of every world that some events lead to.
use Rattle.std.specs.Prelude.{◌≡◌, ℕ, suc, ◌≤◌, Bool, true, false, List, [], ◌∷◌, ◌++◌, length, Option, Some, None, is_some, ◌⊎◌}
use Rattle.ep_units.specs.Text.{Text}
use Rattle.ep_units.specs.declared.session.Session.{Session}
use Rattle.ep_outside.specs.declared.limits.Limits.{Limits}
use Rattle.ep_cs.specs.Fits.{is_identity}
use Rattle.ep_cs.specs.EditFits.{is_edit}
use Rattle.ep_cs.specs.Edit.{Edit, identity}
use Rattle.ep_cs.specs.NormalRuns.{IsNormal}
use Rattle.ep_cs.specs.declared.bad.FitBad.{FitBad}
use Rattle.ep_csread.specs.declared.bad.ReadBad.{ReadBad}
use Rattle.ep_history.specs.Lists.{at, numbered, Among}
use Rattle.ep_history.specs.History.{rev_by, nop_by, head, doc_at, head_doc, rebase, lacks_newline, newline_edit, newline_rev, nobody}
use Rattle.ep_history.specs.Pad.{PadState, birth_at}
use Rattle.ep_history.specs.Accept.{committed}
use Rattle.ep_history.specs.Admissible.{IsAdmissible}
use Rattle.ep_history.specs.declared.pad_bad.PadBad.TheVariants.{ReadOnly, NoBase, Fit}
use Rattle.ep_history.specs.Client.{has_sent, has_local, view}
use Rattle.ep_schedule.specs.World.{Name, author_of, Message, Conn, Member, Actor, Taken, Reason, WorldState, Event, start, run, happens, reason}
use Rattle.ep_schedule.specs.World.Actor.{Nobody, Guest, Named}
use Rattle.ep_schedule.specs.World.Event.{Take}
use Rattle.ep_schedule.specs.World.Reason.{Unread, Refused}
use Rattle.ep_history.specs.declared.rev.Rev.{Rev}
use Rattle.ep_history.specs.declared.nop.Nop.{Nop}

-- the world that some events lead to
abbrev pub after : Limits → Text → List Event → WorldState
after limits id events = run events (start limits id)

-- ---- what is admissible is taken

-- the message that a name's next take would be of, and the session that sent it
abbrev pub first_sent : Session → List Message → Option (Session × Message)
first_sent s [] = None
first_sent s (msg ∷ up) = Some (s, msg)

abbrev pub next_up : Actor → Option (Session × Message)
next_up Nobody = None
next_up (Guest c) = first_sent c.session c.up
next_up (Named m) = first_sent m.conn.session m.conn.up

-- a take of a well-formed edit of a live writer commits it, and it is answered so
pub record IsTaken (w : WorldState) (now : ℕ) (n : Name) (s : Session) (msg : Message) : Type 0 where
  pub pad : (happens w (Take now n)).pad ≡ committed w.pad s now msg.base msg.change
  pub known : (happens w (Take now n)).known ≡ msg.number ∷ w.known

abbrev pub TakesAdmissible : WorldState → Type 0
TakesAdmissible w = (now : ℕ) (n : Name) (s : Session) (msg : Message) → next_up (w.actors n) ≡ Some (s, msg)
    → is_edit msg.change.edit ≡ true → IsNormal msg.change → IsAdmissible w.pad s msg.base msg.change → IsTaken w now n s msg

-- ---- committed once

-- two marks of one number are one mark
abbrev pub AreOnce : List Taken → Type 0
AreOnce ts = (t u : Taken) → Among t ts → Among u ts → t.number ≡ u.number → t ≡ u

-- two marks of one birth say one revision, or one edit that became nothing
abbrev pub IsOneCarrier : Taken → Taken → Type 0
IsOneCarrier t u = ((t.nop ≡ None) × (u.nop ≡ None) × (t.head ≡ u.head)) ⊎ ((i : ℕ) × (t.nop ≡ Some i) × (u.nop ≡ Some i))

-- two marks of one carrier are one mark, so no two numbers share a carrier
abbrev pub AreApart : List Taken → Type 0
AreApart ts = (t u : Taken) → Among t ts → Among u ts → t.birth ≡ u.birth → IsOneCarrier t u → t ≡ u

-- the revision of a mark, or what became nothing, is in the records
abbrev pub is_there : PadState → Taken → Option ℕ → Bool
is_there pad t None = is_some (at (birth_at pad t.birth).later t.head)
is_there pad t (Some i) = is_some (at (birth_at pad t.birth).nops i)

-- a number is carried, and what carries it is in the records
abbrev pub IsCarried : WorldState → ℕ → Type 0
IsCarried w number = (t : Taken) × Among t w.taken × (t.number ≡ number) × (is_there w.pad t t.nop ≡ true)

-- this edit that became nothing is carried by a mark
abbrev pub IsMarked : List Taken → ℕ → ℕ → Type 0
IsMarked ts k i = (t : Taken) × Among t ts × (t.birth ≡ k) × (t.nop ≡ Some i)

-- so is this revision
abbrev pub IsMarkedRev : List Taken → ℕ → ℕ → Type 0
IsMarkedRev ts k i = (t : Taken) × Among t ts × (t.birth ≡ k) × (t.head ≡ i) × (t.nop ≡ None)

-- nothing is noted but what a take makes
abbrev pub AreNopsMarked : PadState → List Taken → Type 0
AreNopsMarked pad ts = (k i : ℕ) (x : Nop) → at (birth_at pad k).nops i ≡ Some x → IsMarked ts k i

-- and but for what nobody did there is no other revision
abbrev pub AreRevsMarked : PadState → List Taken → Type 0
AreRevsMarked pad ts = (k i : ℕ) (v : Rev) → at (birth_at pad k).later i ≡ Some v → (v.session ≡ nobody) ⊎ IsMarkedRev ts k i

-- whatever a session's edit made is carried by a mark
abbrev pub AreMarked : PadState → List Taken → Type 0
AreMarked pad ts = AreNopsMarked pad ts × AreRevsMarked pad ts

-- each number is carried once, and what was answered or heard as committed is carried
pub record IsCommittedOnce (w : WorldState) : Type 0 where
  pub once : AreOnce w.taken
  pub apart : AreApart w.taken
  pub known : (number : ℕ) → Among number w.known → IsCarried w number
  pub marked : AreMarked w.pad w.taken

-- ---- rebased

-- the revision is by the author of who made the edit of its number
abbrev pub IsByMaker : List Name → Taken → Type 0
IsByMaker edits t = (n : Name) × (numbered edits t.number ≡ Some n) × (t.by.author ≡ author_of n)

-- the edit of a mark, through every revision up to the head of then
abbrev pub brought : PadState → Taken → Edit
brought pad t = rebase (birth_at pad t.birth) t.change.edit t.base t.head

-- an edit that became nothing is noted, and no other is. Of any other the revision is there, by its session's author,
-- and where its result does not end in a newline the newline's revision is behind it.
pub record IsRebased (pad : PadState) (t : Taken) : Type 0 where
  pub there : t.head ≤ head (birth_at pad t.birth)
  pub nopped : is_some t.nop ≡ is_identity (brought pad t)
  pub nothing : (i : ℕ) → t.nop ≡ Some i → brought pad t ≡ identity (length (doc_at (birth_at pad t.birth) t.head))
  pub noted : (i : ℕ) → t.nop ≡ Some i → at (birth_at pad t.birth).nops i ≡ Some (nop_by t.by t.head)
  pub edit : t.nop ≡ None → at (birth_at pad t.birth).later t.head ≡ Some (rev_by t.by (brought pad t) (doc_at (birth_at pad t.birth) t.head))
  pub base : t.base ≤ t.head
  pub newline : t.nop ≡ None → lacks_newline (doc_at (birth_at pad t.birth) (suc t.head)) ≡ true
      → at (birth_at pad t.birth).later (suc t.head) ≡ Some (newline_rev t.by.time (doc_at (birth_at pad t.birth) (suc t.head)))

-- a revision by nobody that inserts just a newline at the end stands only where the document before it lacked one
abbrev pub AreNewlines : PadState → Type 0
AreNewlines pad = (k i : ℕ) (v : Rev) → at (birth_at pad k).later i ≡ Some v → v.session ≡ nobody
    → v.change.edit ≡ newline_edit (length (doc_at (birth_at pad k) i)) → lacks_newline (doc_at (birth_at pad k) i) ≡ true

-- what was taken was brought through every later revision, and stands as that in the records
pub record AreRebased (w : WorldState) : Type 0 where
  pub edits : (t : Taken) → Among t w.taken → IsRebased w.pad t
  pub makers : (t : Taken) → Among t w.taken → IsByMaker w.edits t
  pub newlines : AreNewlines w.pad

-- ---- nothing is lost

-- what was in the records is in the records
pub record Extends (old new : PadState) : Type 0 where
  pub births : (k : ℕ) → k ≤ length old.births
      → (vs : List Rev) × ((birth_at new k).later ≡ (birth_at old k).later ++ vs) × ((birth_at new k).first ≡ (birth_at old k).first) × ((xs : List Nop) × ((birth_at new k).nops ≡ (birth_at old k).nops ++ xs))
  pub count : length old.births ≤ length new.births

-- nothing that was recorded, and no mark of a take, is lost
pub record Grows (old new : WorldState) : Type 0 where
  pub records : Extends old.pad new.pad
  pub taken : (ts : List Taken) × (new.taken ≡ ts ++ old.taken)

-- ---- a live client is never refused

-- a submission is refused for none of these
pub record IsGoodReason (r : Option Reason) : Type 0 where
  pub read : (why : Option ReadBad) → r ≡ Some (Unread why) → ⊥
  pub writes : r ≡ Some (Refused ReadOnly) → ⊥
  pub base : (h : ℕ) → r ≡ Some (Refused (NoBase h)) → ⊥
  pub fits : (why : FitBad) → r ≡ Some (Refused (Fit why)) → ⊥

-- no submission on its way is refused for one of these
abbrev pub AreNeverFaulty : PadState → Conn → Type 0
AreNeverFaulty pad c = (msg : Message) → Among msg c.up → IsGoodReason (reason pad c.session msg)

-- so is no submission of a named client
abbrev pub NeverRefuses : WorldState → Type 0
NeverRefuses w = (n : Name) (m : Member) → w.actors n ≡ Named m → AreNeverFaulty w.pad m.conn

-- ---- the view

-- a client that has nothing pending and nothing undelivered shows the head of its birth
abbrev pub ShowsHead : WorldState → Type 0
ShowsHead w = (n : Name) (m : Member) → w.actors n ≡ Named m
    → has_sent m.client ≡ false → has_local m.client ≡ false → m.client.rev ≡ head (birth_at w.pad m.birth)
    → view (birth_at w.pad m.birth) m.client ≡ head_doc (birth_at w.pad m.birth)

-- ---- the headline

-- what holds of each such world
pub record Headline (w : WorldState) : Type 0 where
  pub taken : TakesAdmissible w
  pub once : IsCommittedOnce w
  pub rebased : AreRebased w
  pub shows : ShowsHead w
  pub fitting : NeverRefuses w
