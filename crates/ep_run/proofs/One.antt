-- A script has one transcript.
use Rattle.std.proofs.Common.{◌≡◌, ℕ, ◌+◌, Bool, true, false, List, [], ◌∷◌, ◌++◌, Option, Some, None, refl, sym, ap, ◌∙◌, subst}
use Rattle.std.specs.Prelude.{Result, Ok, Err, MatchOption}
use Rattle.ep_units.specs.Text.{Text}
use Rattle.ep_csread.specs.Reading.{reading}
use Rattle.ep_event.specs.declared.event.Event.{Event as Told}
use Rattle.ep_event.specs.declared.event.Event.TheVariants as event
use Rattle.ep_event.specs.declared.shown.Shown.{Shown}
use Rattle.ep_script.specs.Seen.{Seen, whole, stopped}
use Rattle.ep_script.specs.declared.line.Line.{Line}
use Rattle.ep_script.specs.declared.line.Line.TheVariants as line
use Rattle.ep_world.specs.Journal.{Decides, full_at}
use Rattle.ep_run.specs.Play.{Scene, Becomes, Happens, IsTranscript, Shows, ShowsRead, Transcript, error_line, keeps_left, opening, reads_of, stop_at, stops, written}
use Rattle.ep_run.specs.declared.reason.Reason.{Reason}

-- ---- events

abbrev By : ℕ → Scene → Told → Bool → Option Shown → Scene → Type 0
By k s e kept o n = Becomes kept k s e o n (full_at s.journal s.world k kept e)

-- what an event shows, and what stands behind it, is the same for two choices that are decided alike
same-choice : (k : ℕ) (s : Scene) (e : Told) (kept also : Bool) → Decides s.journal s.world k e kept → Decides s.journal s.world k e also → (o : Option Shown) (n : Scene) → By k s e also o n → By k s e kept o n
same-choice k s (event.Stop (Some at)) kept also d f o n h = subst (λ b. By k s (event.Stop (Some at)) b o n) (f ∙ sym d) h
same-choice k s (event.Stop None) kept also d f o n h = h
same-choice k s (event.Create t) kept also d f o n h = h
same-choice k s (event.SetText t) kept also d f o n h = h
same-choice k s event.Delete kept also d f o n h = h
same-choice k s (event.Login m) kept also d f o n h = h
same-choice k s (event.Guest m r) kept also d f o n h = h
same-choice k s (event.Edit m e) kept also d f o n h = h
same-choice k s (event.Undo m) kept also d f o n h = h
same-choice k s (event.Redo m) kept also d f o n h = h
same-choice k s (event.Submit m) kept also d f o n h = h
same-choice k s (event.Inject m b c) kept also d f o n h = h
same-choice k s (event.Take m) kept also d f o n h = h
same-choice k s (event.Late m) kept also d f o n h = h
same-choice k s (event.Push m) kept also d f o n h = h
same-choice k s (event.Hear m) kept also d f o n h = h
same-choice k s (event.Lose m) kept also d f o n h = h
same-choice k s (event.Resume m) kept also d f o n h = h

abbrev Both : Option Shown → Option Shown → Scene → Scene → Type 0
Both o p n m = (o ≡ p) × (n ≡ m)

one-by : (k : ℕ) (s : Scene) (e : Told) (kept : Bool) (o p : Option Shown) (n m : Scene) (f : Option Shown) → Becomes kept k s e o n f → Becomes kept k s e p m f → Both o p n m
one-by k s e kept o p n m None a b = (a.0 ∙ sym b.0, a.1 ∙ sym b.1)
one-by k s e kept o p n m (Some full) a b = (a.0 ∙ sym b.0, a.1 ∙ sym b.1)

one-event : (k : ℕ) (s : Scene) (e : Told) (o p : Option Shown) (n m : Scene) → Happens k s e o n → Happens k s e p m → Both o p n m
one-event k s e o p n m a b = one-by k s e a.0 o p n m (full_at s.journal s.world k a.0 e) a.2 (same-choice k s e a.0 b.0 a.1 b.1 p m b.2)

-- ---- lines

one-line : (k : ℕ) (s : Scene) (l : Line) (o p : Option Shown) (n m : Scene) → Shows k s l o n → Shows k s l p m → Both o p n m
one-line k s line.Blank o p n m a b = (a.0 ∙ sym b.0, a.1 ∙ sym b.1)
one-line k s (line.Event e) o p n m a b = one-event k s e o p n m a b
one-line k s (line.Inject name base text) o p n m a b = one-event k s (event.Inject name base (reading s.pool text)) o p n m a b
one-line k s (line.Attr key value) o p n m a b = (a.0 ∙ sym b.0, a.1 ∙ sym b.1)
one-line k s (line.Show name) o p n m a b = (a.0 ∙ sym b.0, a.1 ∙ sym b.1)
one-line k s line.Head o p n m a b = (a.0 ∙ sym b.0, a.1 ∙ sym b.1)
one-line k s (line.Text rev) o p n m a b = (a.0 ∙ sym b.0, a.1 ∙ sym b.1)
one-line k s line.Marks o p n m a b = (a.0 ∙ sym b.0, a.1 ∙ sym b.1)
one-line k s (line.ViewMarks name) o p n m a b = (a.0 ∙ sym b.0, a.1 ∙ sym b.1)

one-read : (k : ℕ) (s : Scene) (r : Result Seen Reason) (o p : Option Shown) (n m : Scene) → ShowsRead k s r o n → ShowsRead k s r p m → Both o p n m
one-read k s (Ok (whole l)) o p n m a b = one-line k s l o p n m a b
one-read k s (Ok (stopped name calls left)) o p n m a b =
    let kept = keeps_left s k name calls left in
    one-by k s (stop_at name calls) kept o p n m (full_at s.journal s.world k kept (stop_at name calls)) a b
one-read k s (Err reason) o p n m a b = absurd a

-- ---- scripts

abbrev Goes : ℕ → Scene → Result Seen Reason → List (Result Seen Reason) → List ℕ → ℕ → Scene → Type 0
Goes k s r rs out status end = (o : Option Shown) × (next : Scene) × (rest : List ℕ) × ShowsRead k s r o next × (out ≡ written o ++ rest) × Transcript (k + 1) next rs rest status end

abbrev Stops : ℕ → Scene → List ℕ → ℕ → Scene → Reason → Type 0
Stops k s out status end reason = (out ≡ error_line k reason) × (status ≡ 3) × (end ≡ s)

-- the lines from a scene on write one thing
abbrev WritesOne : ℕ → Scene → List (Result Seen Reason) → Type 0
WritesOne k s rs = (out other : List ℕ) (status code : ℕ) (end last : Scene) → Transcript k s rs out status end → Transcript k s rs other code last → (out ≡ other) × (status ≡ code)

one-more : (k : ℕ) (s : Scene) (r : Result Seen Reason) (rs : List (Result Seen Reason)) → ((next : Scene) → WritesOne (k + 1) next rs) → WritesOne k s (r ∷ rs)
one-more k s r rs rest out other status code end last = go (stops s.world r)
  where
    go : (o : Option Reason) → MatchOption o (Goes k s r rs out status end) (Stops k s out status end) → MatchOption o (Goes k s r rs other code last) (Stops k s other code last)
        → (out ≡ other) × (status ≡ code)
    go None a b =
        let e = one-read k s r a.0 b.0 a.1 b.1 a.3 b.3 in
        let t = rest b.1 a.2 b.2 status code end last (subst (λ x. Transcript (k + 1) x rs a.2 status end) e.1 a.5) b.5 in
        (a.4 ∙ ap (λ o. written o ++ a.2) e.0 ∙ ap (λ xs. written b.0 ++ xs) t.0 ∙ sym b.4, t.1)
    go (Some reason) a b = (a.0 ∙ sym b.0, a.1 ∙ sym b.1)

one : (k : ℕ) (s : Scene) (rs : List (Result Seen Reason)) → WritesOne k s rs
one k s [] = λ out other status code end last a b. (a.0 ∙ sym b.0, a.1 ∙ sym b.1)
one k s (r ∷ rs) = one-more k s r rs (λ next. one (k + 1) next rs)

pub one_transcript : (id : Text) (script out other : List ℕ) (status code : ℕ) → IsTranscript id script out status → IsTranscript id script other code → (out ≡ other) × (status ≡ code)
one_transcript id script out other status code a b = one 1 (opening id) (reads_of script) out other status code a.0 b.0 a.1 b.1
