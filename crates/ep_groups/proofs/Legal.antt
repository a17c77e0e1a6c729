-- Legal histories where every map is told.
use Rattle.std.specs.Prelude.{◌≡◌, Bool, true, List, [], ◌∷◌, Option, Some, None, Result}
use Rattle.std.proofs.Common.{refl, sym, ◌∙◌, subst}
use Rattle.ep_outside.specs.Kept.{IsTold}
use Rattle.ep_outside.specs.declared.keeper.Pair.{Pair}
use Rattle.ep_outside.specs.declared.keeper.Put.{Put}
use Rattle.ep_dir_records.specs.Answers.{Answers, Makes, Seen}
use Rattle.ep_dir_records.specs.declared.dir_bad.DirBad.{DirBad}
use Rattle.ep_groups.specs.History.{Call, Follows, IsLegal, Leads, Runs, Step}
use Rattle.ep_groups.specs.declared.entries.DirEntry.{DirEntry}
use Rattle.ep_groups.specs.declared.entries.DirEntry.TheVariants as entry
use Rattle.ep_groups.specs.declared.entries.DirReply.{DirReply}
use Rattle.ep_groups.specs.declared.entries.DirReply.TheVariants as reply

-- what holds of each call whatever it asks
call_so : (P Q : (A : Type 0) → (List Pair → Result (A × List Put) DirBad) → Result A DirBad → Type 0) (T : Type 0) → ((A : Type 0) (f : List Pair → Result (A × List Put) DirBad) (r : Result A DirBad) → P A f r → T × Q A f r) → (e : DirEntry) (r : DirReply) → Call P e r → T × Call Q e r
call_so P Q T g (entry.CreateGroup drawn) (reply.Text r) h = g _ _ r h
call_so P Q T g (entry.GroupFor mapper drawn) (reply.Text r) h = g _ _ r h
call_so P Q T g (entry.DeleteGroup group) (reply.Done r) h = g _ _ r h
call_so P Q T g entry.Groups (reply.Texts r) h = g _ _ r h
call_so P Q T g (entry.AddGroupPad group name) (reply.Pad r) h = g _ _ r h
call_so P Q T g (entry.DropGroupPad pad) (reply.Done r) h = g _ _ r h
call_so P Q T g (entry.GroupPads group) (reply.Pads r) h = g _ _ r h
call_so P Q T g (entry.CreateAuthor name drawn) (reply.Text r) h = g _ _ r h
call_so P Q T g (entry.AuthorFor mapper name drawn) (reply.Text r) h = g _ _ r h
call_so P Q T g (entry.AuthorName author) (reply.Text r) h = g _ _ r h
call_so P Q T g (entry.CreateSession a) (reply.Text r) h = g _ _ r h
call_so P Q T g (entry.DeleteSession id) (reply.Done r) h = g _ _ r h
call_so P Q T g (entry.Session id) (reply.Session r) h = g _ _ r h
call_so P Q T g (entry.SessionsOfGroup group) (reply.Sessions r) h = g _ _ r h
call_so P Q T g (entry.SessionsOfAuthor author) (reply.Sessions r) h = g _ _ r h
call_so P Q T g (entry.ReadOnly pad drawn) (reply.Text r) h = g _ _ r h
call_so P Q T g (entry.Grant a) (reply.Grant r) h = g _ _ r h
call_so P Q T g _ _ h = absurd h

-- a call keeps the mark, and leads from any map that was told to the one that is
step_leads : (old now : Seen) (m n : List Pair) (e : DirEntry) (r : DirReply) → Step old now e r → old.told ≡ Some m → now.told ≡ Some n → (now.always_tells ≡ old.always_tells) × Leads m n e r
step_leads old now m n e r step was is =
    call_so (λ A f x. Answers {A = A} old now f x) (λ A f x. Makes {A = A} (f m) m x n) (now.always_tells ≡ old.always_tells) (λ A f x a. (a.counts.telling, makes A f x a)) e r step
  where
    same : (k : List Pair) → old.told ≡ Some k → k ≡ m
    same k at = let both : Some k ≡ Some m = sym at ∙ was in cc both

    makes : (A : Type 0) (f : List Pair → Result (A × List Put) DirBad) (x : Result A DirBad) → Answers {A = A} old now f x → Makes {A = A} (f m) m x n
    makes A f x a = let h = a.told n is in let P : List Pair → Type 0 = λ k. Makes {A = A} (f k) k x n in subst P (same h.0 h.1) h.2

step_marks : (old now : Seen) (e : DirEntry) (r : DirReply) → Step old now e r → now.always_tells ≡ old.always_tells
step_marks old now e r step = (call_so (λ A f x. Answers {A = A} old now f x) (λ A f x. Answers {A = A} old now f x) (now.always_tells ≡ old.always_tells) (λ A f x a. (a.counts.telling, a)) e r step).0

told_map : (o : Option (List Pair)) → IsTold o → (m : List Pair) × (o ≡ Some m)
told_map None t = absurd t
told_map (Some m) t = (m, refl)

runs_follow : (first last : Seen) (m : List Pair) (h : List (DirEntry × DirReply)) → first.always_tells ≡ true → first.told ≡ Some m → Runs first h last → Follows m h
runs_follow first last m [] always told run = tt
runs_follow first last m (c ∷ cs) always told run =
    let on = step_marks first run.0 c.0 c.1 run.1 ∙ always in
    let next = told_map run.0.told (run.2 on) in
    (next.0, (step_leads first run.0 m next.0 c.0 c.1 run.1 told next.1).1, runs_follow run.0 last next.0 cs on next.1 run.3)

pub legal_follows : {K : Type 0} (always_tells : K → Bool) (first : Seen) (h : List (DirEntry × DirReply)) → first.always_tells ≡ true → IsLegal always_tells first h → (m : List Pair) × (first.told ≡ Some m) × Follows m h
legal_follows always_tells first h on legal =
    let at = told_map first.told (legal.1.0.told on) in
    (at.0, at.1, runs_follow first legal.0 at.0 h on at.1 legal.1.1)
