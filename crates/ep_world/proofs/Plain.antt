-- A refusal by the rules is neither the store's nor the journal's.
use Rattle.std.proofs.Common.{Bool, true, false, ℕ, List, [], ◌∷◌, Option, Some, None, if◌then◌else◌}
use Rattle.ep_units.specs.declared.session.Session.{Session}
use Rattle.ep_cs.specs.Change.{Change}
use Rattle.ep_cs.specs.declared.bad.FitBad.{FitBad}
use Rattle.ep_history.specs.Accept.{author_fault, edit_faults, fit_fault, live_fault, refusal, seat_fault}
use Rattle.ep_history.specs.Entries.{Entry, Outcome, logs_in, outcome, unless}
use Rattle.ep_history.specs.Entries.Entry.{Login, Resume, Accept, Fetch, Leave, Create, SetText, Delete, SetPublic, ReadText, ReadHistory, ReadStatus}
use Rattle.ep_history.specs.Entries.Outcome.{Refuses, Answers, Records}
use Rattle.ep_history.specs.Pad.{PadState, seat_of}
use Rattle.ep_history.specs.Readings.{dead_fault, dead_if, fetch_fault, fetch_faults, history_fault, history_faults, text_fault, text_faults}
use Rattle.ep_history.specs.Refusals.{fault_if, first_fault, login_fault, login_faults, resume_fault, resume_faults}
use Rattle.ep_history.specs.Server.{create_fault, create_faults, gone_fault, set_fault, set_faults}
use Rattle.ep_history.specs.declared.pad_bad.PadBad.{PadBad}
use Rattle.ep_history.specs.declared.pad_bad.PadBad.TheVariants as bad
use Rattle.ep_history.specs.declared.seat.Seat.{Seat}
use Rattle.ep_history.specs.declared.seat.Why.{Why}

-- it is neither the store's nor the journal's
abbrev pub IsPlain : PadBad → Type 0
IsPlain (bad.Store n) = ⊥
IsPlain (bad.JournalFull n) = ⊥
IsPlain b = Unit {0}

abbrev pub IsPlainIf : Option PadBad → Type 0
IsPlainIf None = Unit {0}
IsPlainIf (Some b) = IsPlain b

abbrev pub ArePlain : List (Option PadBad) → Type 0
ArePlain [] = Unit {0}
ArePlain (f ∷ fs) = IsPlainIf f × ArePlain fs

pub first-plain : (fs : List (Option PadBad)) → ArePlain fs → IsPlainIf (first_fault fs)
first-plain [] p = tt
first-plain (None ∷ fs) p = first-plain fs p.1
first-plain (Some b ∷ fs) p = p.0

pub if-plain : (t : Bool) (b : PadBad) → IsPlain b → IsPlainIf (fault_if t b)
if-plain true b p = p
if-plain false b p = tt

pub dead-plain : (o : Option Why) → IsPlainIf (dead_if o)
dead-plain None = tt
dead-plain (Some why) = tt

refusal-plain : (pad : PadState) (s : Session) (base : ℕ) (c : Change) → IsPlainIf (refusal pad s base c)
refusal-plain pad s base c = seat (seat_of pad s)
  where
    author : (o : Option ℕ) → IsPlainIf (author_fault o)
    author None = tt
    author (Some i) = tt

    fits : (o : Option FitBad) → IsPlainIf (fit_fault o)
    fits None = tt
    fits (Some why) = tt

    live : (l : Seat) (o : Option Why) → IsPlainIf (live_fault pad l o base c)
    live l (Some why) = tt
    live l None = first-plain (edit_faults pad l base c) (if-plain _ _ tt, (if-plain _ _ tt, (author _, (fits _, (if-plain _ _ tt, tt)))))

    seat : (o : Option Seat) → IsPlainIf (seat_fault pad o base c)
    seat None = tt
    seat (Some l) = live l l.end

-- so is the refusal of an entry
abbrev pub IsPlainOutcome : Outcome → Type 0
IsPlainOutcome (Refuses b) = IsPlain b
IsPlainOutcome (Answers a p) = Unit {0}
IsPlainOutcome (Records r a p) = Unit {0}

unless-plain : (f : Option PadBad) (o : Outcome) → IsPlainIf f → IsPlainOutcome o → IsPlainOutcome (unless f o)
unless-plain None o p q = q
unless-plain (Some b) o p q = p

pub outcome-plain : (pad : PadState) (e : Entry) → IsPlainOutcome (outcome pad e)
outcome-plain pad (Login g now) =
    unless-plain (login_fault pad g) (logs_in pad g now)
    (first-plain (login_faults pad g) (if-plain _ _ tt, (if-plain _ _ tt, (if-plain _ _ tt, (if-plain _ _ tt, tt)))))
    (one-of pad.present _ _ tt tt)
  where
    one-of : (t : Bool) (x y : Outcome) → IsPlainOutcome x → IsPlainOutcome y → IsPlainOutcome (if t then x else y)
    one-of true x y p q = p
    one-of false x y p q = q
outcome-plain pad (Resume g rev birth author now) =
    unless-plain (resume_fault pad g rev birth author) _
    (first-plain (resume_faults pad g rev birth author) (if-plain _ _ tt, (if-plain _ _ tt, (if-plain _ _ tt, (if-plain _ _ tt, (if-plain _ _ tt, (if-plain _ _ tt, tt))))))) tt
outcome-plain pad (Accept s base c now) = unless-plain (refusal pad s base c) _ (refusal-plain pad s base c) tt
outcome-plain pad (Fetch s from told) = unless-plain (fetch_fault pad s from) _ (first-plain (fetch_faults pad s from) (dead-plain _, (if-plain _ _ tt, tt))) tt
outcome-plain pad (Leave s) = unless-plain (dead_fault pad s) _ (dead-plain _) tt
outcome-plain pad (Create text now) = unless-plain (create_fault pad text) _ (first-plain (create_faults pad text) (if-plain _ _ tt, (if-plain _ _ tt, tt))) tt
outcome-plain pad (SetText text now) = unless-plain (set_fault pad text) _ (first-plain (set_faults pad text) (if-plain _ _ tt, (if-plain _ _ tt, tt))) tt
outcome-plain pad (Delete now) = unless-plain (gone_fault pad) _ (if-plain _ _ tt) tt
outcome-plain pad (SetPublic on) = unless-plain (gone_fault pad) _ (if-plain _ _ tt) tt
outcome-plain pad (ReadText rev) = unless-plain (text_fault pad rev) _ (first-plain (text_faults pad rev) (if-plain _ _ tt, (if-plain _ _ tt, tt))) tt
outcome-plain pad (ReadHistory s start count) = unless-plain (history_fault pad s start) _ (first-plain (history_faults pad s start) (dead-plain _, (if-plain _ _ tt, tt))) tt
outcome-plain pad ReadStatus = unless-plain (gone_fault pad) _ (if-plain _ _ tt) tt
