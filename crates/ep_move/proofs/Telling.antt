-- What the bytes of a file come to.
use Rattle.std.proofs.Common.{◌≡◌, ℕ, ◌≤◌, false, List, [], ◌∷◌, length, Option, Some, None, inl, inr, refl, sym, subst, arith}
use Rattle.std.specs.Prelude.{IfErr, IfSome, Result, Ok, Err}
use Rattle.ep_outside.specs.declared.limits.Limits.{Limits}
use Rattle.ep_history.specs.History.{Birth}
use Rattle.ep_history.specs.Lists.{Among, numbered, or_else}
use Rattle.ep_history.specs.Pad.{PadState, newest, no_birth}
use Rattle.ep_history.specs.Records.{AreLegal, told}
use Rattle.ep_history.specs.declared.record.Record.{Record}
use Rattle.ep_journal.specs.File.{is_foreign}
use Rattle.ep_past.specs.Revisions.{AreRevisions}
use Rattle.ep_pad.specs.Opening.{IsBadAt}
use Rattle.ep_verify.specs.Verdicts.{no_limits}
use Rattle.ep_move.specs.Reread.{IsLast, IsReread}
use Rattle.ep_move.specs.Untold.{IsUntold}
use Rattle.ep_move.specs.declared.last.Last.{Last}
use Rattle.ep_move.specs.declared.rereading.Reread.{Reread}
use Rattle.ep_move.specs.declared.told.Untold.{Untold}
use Rattle.ep_move.specs.declared.told.Untold.TheVariants as untold

untold_of : (file : List ℕ) (why : Untold) → is_foreign file ≡ false → ((k : ℕ) → why ≡ untold.Record k → IsBadAt no_limits file k) → (why ≡ untold.Foreign → ⊥) → IsUntold file why
untold_of file untold.Foreign own bad not = absurd (not refl)
untold_of file (untold.Record k) own bad not = (own, bad k refl)
untold_of file untold.NoMemory own bad not = tt

pub untold_result : (file : List ℕ) (r : Result Reread Untold) → is_foreign file ≡ false → ((k : ℕ) → IfErr r (λ why. why ≡ untold.Record k → IsBadAt no_limits file k))
    → IfErr r (λ why. why ≡ untold.Foreign → ⊥) → IfErr r (IsUntold file)
untold_result file (Ok v) own bad not = tt
untold_result file (Err why) own bad not = untold_of file why own bad not

-- the last birth is one of them
among_last : (b : Birth) (bs : List Birth) → Among (or_else (numbered (b ∷ bs) (length (b ∷ bs))) no_birth) (b ∷ bs)
among_last b [] = inl refl
among_last b (c ∷ bs) = inr (among_last c bs)

newest_among : (p : PadState) → 1 ≤ length p.births → Among (newest p) p.births
newest_among p some = go p.births some
  where
    go : (bs : List Birth) → 1 ≤ length bs → Among (or_else (numbered bs (length bs)) no_birth) bs
    go [] some = absurd (omega (arith, some))
    go (b ∷ bs) some = among_last b bs

abbrev BirthsAre : Type 0
BirthsAre = (limits : Limits) (rs : List Record) (b : Birth) → AreLegal limits rs → Among b (told limits rs).births → AreRevisions (b.first ∷ b.later)

pub revisions_of : (k : Reread) (rs : List Record) → BirthsAre → AreLegal no_limits rs → IsReread k (told no_limits rs) → IfSome k.last (λ l. AreRevisions l.revs.items)
revisions_of k rs law legal is = go k.last is.last
  where
    go : (o : Option Last) → IsLast o (told no_limits rs) → IfSome o (λ l. AreRevisions l.revs.items)
    go (Some l) h = subst AreRevisions (sym h.revs) (law no_limits rs (newest (told no_limits rs)) legal (newest_among (told no_limits rs) h.some))
    go None h = tt
