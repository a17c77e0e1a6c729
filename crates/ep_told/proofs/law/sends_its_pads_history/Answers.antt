use Rattle.std.proofs.Common.{◌≡◌, ℕ, Bool, true, false, List, [], ◌∷◌, Option, Some, None, refl, subst, sym}
use Rattle.std.specs.Prelude.{◌==◌, if◌then◌else◌}
use Rattle.ep_units.specs.declared.session.Session.{Session}
use Rattle.ep_outside.specs.Disk.{Contents}
use Rattle.ep_outside.specs.declared.limits.Limits.{Limits}
use Rattle.ep_cell.specs.History.{calls_by, pairs}
use Rattle.ep_cell.specs.Passes.{Known}
use Rattle.ep_cell.specs.declared.view.Call.{Call}
use Rattle.ep_dir_records.specs.declared.ids.Drawn.{Drawn}
use Rattle.ep_history.specs.History.{Birth}
use Rattle.ep_history.specs.Machine.{MachineState, Runs as Leads}
use Rattle.ep_history.specs.Pad.{birth_at}
use Rattle.ep_history.proofs.Steps.{first-kept}
use Rattle.ep_fetches.specs.Told.{AreTold}
use Rattle.ep_fetches.proofs.Whole.{run-told}
use Rattle.ep_pad.specs.Held.{Held}
use Rattle.ep_pad.specs.Histories.{HasMade, HasTold, IsFirstOf, calls_of as all_calls}
use Rattle.ep_pad.specs.Lazy.{HasCalled, IsOpenedBehind}
use Rattle.ep_pad.specs.declared.entries.PadEntry.{PadEntry}
use Rattle.ep_pad.specs.declared.entries.PadReply.{PadReply}
use Rattle.ep_pad_file.specs.Standing.{size}
use Rattle.ep_session.specs.Output.{place_at, said_of}
use Rattle.ep_session.specs.Passing.{own}
use Rattle.ep_session.specs.Session.{Did, Greet, Outcome, Runs, calls_of, nowhere}
use Rattle.ep_told.specs.Telling.{TellsHistory}
use Rattle.ep_told.proofs.Beginning.{AreOne, Fail, stays_outside, tells_one}
use Rattle.ep_told.proofs.Refused.{all_fail, fail_own, told_behind}
use Rattle.ep_told.proofs.law.sends_its_pads_history.Goals as goal

-- what all calls told, those of one pass told
told_own : (q k : ℕ) (b : Birth) (s : Session) (seen : List (Call PadEntry PadReply)) → AreTold k b s (all_calls (pairs seen)) → AreTold k b s (all_calls (pairs (calls_by q seen)))
told_own q k b s [] h = tt
told_own q k b s (c ∷ cs) h = go (c.by == q) (told_own q k b s cs h.1)
  where
    go : (mine : Bool) → AreTold k b s (all_calls (pairs (calls_by q cs))) → AreTold k b s (all_calls (pairs (if mine then c ∷ calls_by q cs else calls_by q cs)))
    go true rest = (h.0, rest)
    go false rest = rest

-- what the machine that was opened told
opened_tells : {D : Type 0} (told_by : D → Option Contents) (failures : D → ℕ) (limits : Limits) (disk : D) (pass : Known PadEntry PadReply) (opened m : Held D) (others : List (PadEntry × PadReply)) (drawn : Drawn) (log : List Did) (out : Outcome)
    → IsOpenedBehind told_by failures limits disk (pairs pass.seen) opened others → HasMade told_by failures opened m others
    → Runs nowhere (Greet drawn ∷ []) log out → own pass ≡ calls_of log → (place_at out).inside ≡ true → HasTold told_by opened
    → (first : MachineState) × (last : MachineState) × IsFirstOf told_by failures opened first × Leads size first (all_calls others) last × TellsHistory last.pad (place_at out) (said_of log)
opened_tells told_by failures limits disk pass opened m others drawn log out behind made runs mine inside told =
    let l = made.0 told in
    let one : AreOne l.1.pad log = λ s.
    let t = run-told size l.0 l.1 (all_calls others) s (first-kept l.0 l.2.first) l.3 in
    let b = birth_at l.1.pad t.0 in
    let all : AreTold t.0 b s (all_calls (pairs pass.seen)) = subst (λ calls. AreTold t.0 b s (all_calls calls)) (sym behind.are) (told_behind told_by failures limits t.0 b s disk behind.back behind.refused others behind.left t.2) in
    (t.0, t.1, subst (λ calls. AreTold t.0 b s (all_calls calls)) mine (told_own pass.number t.0 b s pass.seen all)) in
    (l.0, l.1, l.2, l.3, tells_one l.1.pad nowhere drawn log out refl one runs inside)

-- a pad that answered was opened
sends : {D : Type 0} (told_by : D → Option Contents) (failures : D → ℕ) (limits : Limits) (disk : D) (pass : Known PadEntry PadReply) (drawn : Drawn) (log : List Did) (out : Outcome) (now : Option D) (machine : Option (Held D))
    → HasCalled told_by failures limits disk now machine (pairs pass.seen)
    → Runs nowhere (Greet drawn ∷ []) log out → own pass ≡ calls_of log → (place_at out).inside ≡ true
    → (opened : Held D) × (others : List (PadEntry × PadReply)) × IsOpenedBehind told_by failures limits disk (pairs pass.seen) opened others
    × (HasTold told_by opened → (first : MachineState) × (last : MachineState) × IsFirstOf told_by failures opened first × Leads size first (all_calls others) last × TellsHistory last.pad (place_at out) (said_of log))
sends told_by failures limits disk pass drawn log out (Some back) None called runs mine inside =
    absurd (stays_outside nowhere drawn log out refl (subst Fail mine (fail_own pass.number pass.seen (all_fail told_by failures limits disk back (pairs pass.seen) called))) runs inside)
sends told_by failures limits disk pass drawn log out None (Some m) (opened, others, behind, made) runs mine inside =
    (opened, others, behind, λ told. opened_tells told_by failures limits disk pass opened m others drawn log out behind made runs mine inside told)
sends told_by failures limits disk pass drawn log out None None never runs mine inside = absurd never
sends told_by failures limits disk pass drawn log out (Some back) (Some m) never runs mine inside = absurd never

pub returns : goal.returns
returns g c = λ begun pass drawn log out legal runs mine inside.
    let called = legal.1 in
    let x = sends g.D.Disk.told g.D.Device.failures begun.limits called.0 pass drawn log out legal.0.disk legal.0.machine called.3 runs mine inside in
    (called.0, called.1, x.0, x.1, x.2, x.3)
