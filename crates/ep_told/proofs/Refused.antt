-- Calls that were refused before a pad was opened told nobody anything.
use Rattle.std.proofs.Common.{ℕ, List, [], ◌∷◌, ◌++◌, Bool, true, false, Option, sym, subst}
use Rattle.std.specs.Prelude.{◌==◌, if◌then◌else◌, Err}
use Rattle.ep_units.specs.declared.session.Session.{Session}
use Rattle.ep_outside.specs.Disk.{Contents}
use Rattle.ep_outside.specs.declared.limits.Limits.{Limits}
use Rattle.ep_cell.specs.History.{calls_by, pairs}
use Rattle.ep_cell.specs.declared.view.Call.{Call}
use Rattle.ep_history.specs.Entries.{Entry, Reply}
use Rattle.ep_history.specs.Entries.Entry.{Accept, Create, Delete, Fetch, Leave, Login, ReadHistory, ReadStatus, ReadText, Resume, SetPublic, SetText}
use Rattle.ep_history.specs.History.{Birth}
use Rattle.ep_history.specs.declared.pad_bad.PadBad.{PadBad}
use Rattle.ep_fetches.specs.Told.{AreTold, IsTold}
use Rattle.ep_pad.specs.Entries.{entry_of}
use Rattle.ep_pad.specs.Histories.{calls_of as all_calls}
use Rattle.ep_pad.specs.Lazy.{AreRefused}
use Rattle.ep_pad.specs.declared.entries.PadEntry.{PadEntry}
use Rattle.ep_pad.specs.declared.entries.PadReply.{PadReply}
use Rattle.ep_told.proofs.Beginning.{Fail}

nothing_told : (k : ℕ) (b : Birth) (s : Session) (e : Entry) (why : PadBad) → IsTold k b s e (Err why)
nothing_told k b s (Login grant now) why = tt
nothing_told k b s (Resume grant rev birth author now) why = tt
nothing_told k b s (Accept session base change now) why = tt
nothing_told k b s (Fetch session from told) why = tt
nothing_told k b s (Leave session) why = tt
nothing_told k b s (Create text now) why = tt
nothing_told k b s (SetText text now) why = tt
nothing_told k b s (Delete now) why = tt
nothing_told k b s (SetPublic on) why = tt
nothing_told k b s (ReadText rev) why = tt
nothing_told k b s (ReadHistory session start count) why = tt
nothing_told k b s ReadStatus why = tt

module _ {D : Type 0} (told_by : D → Option Contents) (failures : D → ℕ) (within : Limits) where
  -- what the others told is all that was told
  pub told_behind : (k : ℕ) (b : Birth) (s : Session) (disk back : D) (refused others : List (PadEntry × PadReply)) → AreRefused told_by failures within disk refused back
      → AreTold k b s (all_calls others) → AreTold k b s (all_calls (refused ++ others))
  told_behind k b s disk back [] others are told = told
  told_behind k b s disk back (c ∷ cs) others are told = (
    subst (λ (r : Reply). IsTold k b s (entry_of c.0) r) (sym are.1.reply) (nothing_told k b s (entry_of c.0) are.1.why),
    told_behind k b s are.0 back cs others are.2 told,
  )

  pub all_fail : (disk back : D) (h : List (PadEntry × PadReply)) → AreRefused told_by failures within disk h back → Fail h
  all_fail disk back [] are = tt
  all_fail disk back (c ∷ cs) are = ((are.1.why, are.1.reply), all_fail are.0 back cs are.2)

-- so were those of one pass
pub fail_own : (q : ℕ) (seen : List (Call PadEntry PadReply)) → Fail (pairs seen) → Fail (pairs (calls_by q seen))
fail_own q [] fail = tt
fail_own q (c ∷ cs) fail = go (c.by == q) (fail_own q cs fail.1)
  where
    go : (mine : Bool) → Fail (pairs (calls_by q cs)) → Fail (pairs (if mine then c ∷ calls_by q cs else calls_by q cs))
    go true rest = (fail.0, rest)
    go false rest = rest
