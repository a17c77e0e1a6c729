-- How far a session came, by the calls of its three passes.
use Rattle.std.specs.Prelude.{ℕ, ◌≡◌, ◌⊎◌, List, [], ◌∷◌, Option, Some, None, Result, Ok, Err}
use Rattle.atomic_table.specs.Seated.{TableId}
use Rattle.ep_units.specs.declared.grant.Grant.{Grant}
use Rattle.ep_dir_records.specs.declared.dir_bad.DirBad.{DirBad}
use Rattle.ep_dir_records.specs.declared.ids.Drawn.{Drawn}
use Rattle.ep_groups.specs.declared.entries.DirReply.TheVariants as dirs
use Rattle.ep_pad.specs.declared.pass_bad.PassBad.{PassBad}
use Rattle.ep_pad.specs.declared.entries.PadEntry.{PadEntry}
use Rattle.ep_pad.specs.declared.entries.PadEntry.TheVariants as entry
use Rattle.ep_pad.specs.declared.entries.PadReply.{PadReply}
use Rattle.ep_wire_words.specs.declared.client.ClientMsg.TheVariants as msgs
use Rattle.ep_wire_words.specs.declared.client.Resume.{Resume}
use Rattle.ep_link.specs.declared.passed.LinkGot.TheVariants as got
use Rattle.ep_session.specs.Ends.{end_of_dir, end_of_pass}
use Rattle.ep_session.specs.Session.{Did, Heard, Understood, Outcome, Ends, asking, calls_of, desk_of, hall_of, nowhere, wanting}
use Rattle.ep_session.specs.declared.ready.Ready.{Ready}

-- the log begins with receives that gave nothing, and then the first message, which says this
abbrev pub IsFirst : List Did → Ready → Type 0
IsFirst [] ready = ⊥
IsFirst (Heard got.Nothing n ∷ log) ready = IsFirst log ready
IsFirst (Heard (got.Message text) n ∷ Understood same r ∷ log) ready = r ≡ Ok (msgs.Ready ready.pad ready.token ready.sessions ready.resume)
IsFirst (d ∷ log) ready = ⊥

-- the first call of the pad logs in or resumes by the grant
abbrev pub IsJoin : Grant → Option Resume → PadEntry → Type 0
IsJoin grant None e = (now : ℕ) × (e ≡ entry.Login grant now)
IsJoin grant (Some again) e = (now : ℕ) × (e ≡ entry.Resume grant again.rev again.birth again.author now)

abbrev pub Joins : Grant → Option Resume → List (PadEntry × PadReply) → Type 0
Joins grant resume [] = Unit {0}
Joins grant resume (c ∷ calls) = IsJoin grant resume c.0

-- behind a grant: no pass was asked for, or it was refused and the session ended so, or it was given
abbrev pub IsHoused : Grant → Option Resume → List Did → Outcome → Type 0
IsHoused grant resume log out =
    ((hall_of log ≡ []) × (calls_of log ≡ []))
    ⊎ (((bad : PassBad) × (hall_of log ≡ (wanting grant resume, Err bad) ∷ []) × (calls_of log ≡ []) × (out ≡ Ends nowhere (end_of_pass grant resume bad)))
    ⊎ ((id : TableId) × (hall_of log ≡ (wanting grant resume, Ok id) ∷ []) × Joins grant resume (calls_of log)))

-- the directory was not asked; or it was asked once, by the first message, and refused, and the session ended so; or it gave a grant
abbrev pub IsBegun : Drawn → List Did → Outcome → Type 0
IsBegun drawn log out =
    ((desk_of log ≡ []) × (hall_of log ≡ []) × (calls_of log ≡ []))
    ⊎ ((ready : Ready) × (now : ℕ) × IsFirst log ready
    × (((bad : DirBad) × (desk_of log ≡ (asking drawn ready now, dirs.Grant (Err bad)) ∷ []) × (hall_of log ≡ []) × (calls_of log ≡ []) × (out ≡ Ends nowhere (end_of_dir bad)))
    ⊎ ((grant : Grant) × (desk_of log ≡ (asking drawn ready now, dirs.Grant (Ok grant)) ∷ []) × IsHoused grant ready.resume log out)))
