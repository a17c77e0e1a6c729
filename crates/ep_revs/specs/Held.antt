-- Working words of private contracts: what revisions in code hold.
use Rattle.std.specs.Prelude.{◌≡◌, ℕ, ◌+◌, ◌-◌, ◌*◌, ◌/◌, ◌≤◌, ◌<◌, List, length, get_or, Option, Some, None, vec_len, vec_capacity, All}
use Rattle.ep_cs.specs.Doc.{Doc}
use Rattle.ep_cs.specs.Made.{AreMade}
use Rattle.ep_history.specs.declared.rev.Rev.{Rev}
use Rattle.ep_history.specs.History.{newline}
use Rattle.ep_revs.specs.Revisions.{Revisions, changes_of, doc_of, last_doc, spacing}
use Rattle.ep_revs.specs.Near.{IsNear}
use Rattle.ep_revs.specs.declared.revs.Revs.TheInside as revs

-- the revisions that it stands for
abbrev pub held : revs.Inside → Revisions
held r = record { revs = r.revs.items; room = r.room }

-- how many of the first n revisions are frames
abbrev pub frames_among : ℕ → ℕ
frames_among n = (n + (spacing - 1)) / spacing

-- each change fits the document of those before it, each frame's document is kept, and the head's: apart where it is past
-- the last frame
pub record AreKept (vs : List Rev) (frames : List Doc) (past : Option Doc) : Type 0 where
  pub made : AreMade newline (changes_of vs)
  pub count : length frames ≡ frames_among (length vs)
  pub each : (k : ℕ) (d : Doc) → k < length frames → get_or frames k d ≡ doc_of vs (k * spacing)
  pub head : (d : Doc) → past ≡ Some d → d ≡ last_doc vs
  pub level : past ≡ None → 1 ≤ length vs → (d : Doc) → get_or frames (length frames - 1) d ≡ last_doc vs

-- and both lists have the room that is told; what is kept near the head is right
pub record IsHeld (r : revs.Inside) : Type 0 where
  pub kept : AreKept r.revs.items r.frames.items r.past
  pub revs : vec_len r.revs + r.room ≤ vec_capacity r.revs
  pub frames : frames_among (vec_len r.revs + r.room) ≤ vec_capacity r.frames
  pub near : All (IsNear r.revs.items) r.near.items
