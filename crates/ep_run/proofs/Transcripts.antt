-- Transcripts, line by line.
use Rattle.std.proofs.Common.{◌≡◌, ℕ, ◌+◌, Bool, false, List, [], ◌∷◌, ◌++◌, Option, Some, None, refl, sym, subst}
use Rattle.std.specs.Prelude.{Result, Ok, Err, MatchOption}
use Rattle.ep_csread.specs.Reading.{reading}
use Rattle.ep_event.specs.declared.event.Event.{Event as Told}
use Rattle.ep_event.specs.declared.event.Event.TheVariants as event
use Rattle.ep_event.specs.declared.shown.Shown.{Shown}
use Rattle.ep_event.specs.declared.shown.Shown.TheVariants as shown
use Rattle.ep_pool.specs.Pool.{number_of}
use Rattle.ep_schedule.specs.Headline.{next_up}
use Rattle.ep_schedule.specs.World.{WorldState}
use Rattle.ep_history.specs.declared.record.Record.{Record}
use Rattle.ep_script.specs.Seen.{Seen, whole, stopped}
use Rattle.ep_script.specs.declared.line.Line.{Line}
use Rattle.ep_script.specs.declared.line.Line.TheVariants as line
use Rattle.ep_event.specs.declared.shown.Verb.TheVariants as verb
use Rattle.ep_world.specs.Journal.{Decides, full_at, journal_full, keeps_record, reads_as}
use Rattle.ep_world.specs.Standing.{overfull_at}
use Rattle.ep_world.specs.Shows.{shows, shows_head, shows_marks, shows_text, shows_view, shows_view_marks}
use Rattle.ep_run.specs.Play.{Scene, Becomes, Happens, Shows, ShowsRead, ShowsSeen, Transcript, after, error_line, keeps_left, line_seen, line_stops, played, stop_at, stops, with_pair, written}
use Rattle.ep_run.specs.declared.reason.Reason.{Reason}

match-none : {A : Type 0} (o : Option A) (P : Type 0) (Q : A → Type 0) → o ≡ None → P → MatchOption o P Q
match-none o P Q e p = subst (λ x. MatchOption x P Q) (sym e) p

match-some : {A : Type 0} (o : Option A) (P : Type 0) (Q : A → Type 0) (x : A) → o ≡ Some x → Q x → MatchOption o P Q
match-some o P Q x e q = subst (λ y. MatchOption y P Q) (sym e) q

-- a line that is played, and those behind it
abbrev Goes : ℕ → Scene → Result Seen Reason → List (Result Seen Reason) → List ℕ → ℕ → Scene → Type 0
Goes k s r rs out status end = (o : Option Shown) × (next : Scene) × (rest : List ℕ) × ShowsRead k s r o next × (out ≡ written o ++ rest) × Transcript (k + 1) next rs rest status end

-- one that isn't
abbrev Stops : ℕ → Scene → List ℕ → ℕ → Scene → Reason → Type 0
Stops k s out status end reason = (out ≡ error_line k reason) × (status ≡ 3) × (end ≡ s)

module _ (k : ℕ) (s : Scene) (r : Result Seen Reason) (rs : List (Result Seen Reason)) where
  pub goes : (o : Option Shown) (next : Scene) (rest : List ℕ) (status : ℕ) (end : Scene) → stops s.world r ≡ None → ShowsRead k s r o next → Transcript (k + 1) next rs rest status end
      → Transcript k s (r ∷ rs) (written o ++ rest) status end
  goes o next rest status end e h t =
      match-none (stops s.world r) (Goes k s r rs (written o ++ rest) status end) (Stops k s (written o ++ rest) status end) e (o, next, rest, h, refl, t)

  pub stops-here : (reason : Reason) → stops s.world r ≡ Some reason → Transcript k s (r ∷ rs) (error_line k reason) 3 s
  stops-here reason e =
      match-some (stops s.world r) (Goes k s r rs (error_line k reason) 3 s) (Stops k s (error_line k reason) 3 s) reason e (refl, refl, refl)

-- ---- there always is one

-- what a line may show, and what stands then
abbrev SomeShown : ℕ → Scene → Line → Type 0
SomeShown k s l = (o : Option Shown) × (next : Scene) × Shows k s l o next

-- the record of a take that a crash comes into is kept, or isn't
some-decided : (rs : List Record) (w : WorldState) (k : ℕ) (e : Told) → (kept : Bool) × Decides rs w k e kept
some-decided rs w k (event.Stop (Some at)) = (keeps_record rs w.pad k (next_up (w.actors at.name)) at.calls at.image, refl)
some-decided rs w k (event.Stop None) = (false, tt)
some-decided rs w k (event.Create t) = (false, tt)
some-decided rs w k (event.SetText t) = (false, tt)
some-decided rs w k event.Delete = (false, tt)
some-decided rs w k (event.Login n) = (false, tt)
some-decided rs w k (event.Guest n r) = (false, tt)
some-decided rs w k (event.Edit n e) = (false, tt)
some-decided rs w k (event.Undo n) = (false, tt)
some-decided rs w k (event.Redo n) = (false, tt)
some-decided rs w k (event.Submit n) = (false, tt)
some-decided rs w k (event.Inject n b c) = (false, tt)
some-decided rs w k (event.Take n) = (false, tt)
some-decided rs w k (event.Late n) = (false, tt)
some-decided rs w k (event.Push n) = (false, tt)
some-decided rs w k (event.Hear n) = (false, tt)
some-decided rs w k (event.Lose n) = (false, tt)
some-decided rs w k (event.Resume n) = (false, tt)

-- and there is room, or there isn't
some-by : (k : ℕ) (s : Scene) (e : Told) (kept : Bool) (f : Option Shown) → (o : Option Shown) × (next : Scene) × Becomes kept k s e o next f
some-by k s e kept None = (Some (shows s.world s.kepts k kept e), played k s kept e, (refl, refl))
some-by k s e kept (Some x) = (Some x, after s e (overfull_at s.journal s.world k kept e) (journal_full s.journal s.world k kept e), (refl, refl))

some-event : (k : ℕ) (s : Scene) (e : Told) → (o : Option Shown) × (next : Scene) × Happens k s e o next
some-event k s e =
    let d = some-decided s.journal s.world k e in
    let x = some-by k s e d.0 (full_at s.journal s.world k d.0 e) in
    (x.0, x.1, (d.0, d.1, x.2))

some-shown : (k : ℕ) (s : Scene) (l : Line) → SomeShown k s l
some-shown k s line.Blank = (None, s, (refl, refl))
some-shown k s (line.Event e) = some-event k s e
some-shown k s (line.Inject n base text) = some-event k s (event.Inject n base (reading s.pool text))
some-shown k s (line.Attr key value) = (Some (shown.Attr (number_of s.pool (key, value))), with_pair s (key, value), (refl, refl))
some-shown k s (line.Show n) = (shows_view s.world n, s, (refl, refl))
some-shown k s line.Head = (Some (reads_as s.journal s.world.pad verb.Head (shows_head s.world.pad)), s, (refl, refl))
some-shown k s (line.Text rev) = (Some (reads_as s.journal s.world.pad verb.Text (shows_text s.world.pad rev)), s, (refl, refl))
some-shown k s line.Marks = (Some (reads_as s.journal s.world.pad verb.Marks (shows_marks s.world.pad)), s, (refl, refl))
some-shown k s (line.ViewMarks n) = (shows_view_marks s.world n, s, (refl, refl))

-- so of a line as it is seen
some-seen : (k : ℕ) (s : Scene) (l : Seen) → (o : Option Shown) × (next : Scene) × ShowsSeen k s l o next
some-seen k s (whole l) = some-shown k s l
some-seen k s (stopped n calls left) =
    let kept = keeps_left s k n calls left in
    some-by k s (stop_at n calls) kept (full_at s.journal s.world k kept (stop_at n calls))

abbrev pub SomeTranscript : ℕ → Scene → List (Result Seen Reason) → Type 0
SomeTranscript k s reads = (out : List ℕ) × (status : ℕ) × (end : Scene) × Transcript k s reads out status end

line-some : (k : ℕ) (s : Scene) (l : Seen) (rs : List (Result Seen Reason)) → ((next : Scene) → SomeTranscript (k + 1) next rs) → (o : Option Reason) → line_stops s.world (line_seen l) ≡ o
    → SomeTranscript k s (Ok l ∷ rs)
line-some k s l rs behind None e =
    let x = some-seen k s l in
    let t = behind x.1 in
    (written x.0 ++ t.0, t.1, t.2, goes k s (Ok l) rs x.0 x.1 t.0 t.1 t.2 e x.2 t.3)
line-some k s l rs behind (Some reason) e = (error_line k reason, 3, s, stops-here k s (Ok l) rs reason e)

pub some : (k : ℕ) (s : Scene) (reads : List (Result Seen Reason)) → SomeTranscript k s reads
some k s [] = ([], 0, s, (refl, refl, refl))
some k s (Ok l ∷ rs) = line-some k s l rs (λ next. some (k + 1) next rs) (line_stops s.world (line_seen l)) refl
some k s (Err reason ∷ rs) = (error_line k reason, 3, s, stops-here k s (Err reason) rs reason refl)
