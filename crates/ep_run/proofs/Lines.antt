-- How a line is played.
use Rattle.std.proofs.Common.{◌≡◌, ℕ, Bool, true, false, List, Option, Some, None, refl, sym, ap, ◌∙◌, subst}
use Rattle.std.specs.Prelude.{◌==◌, ◌&&◌, ◌||◌, nat_le, is_none, is_some, Result, Ok, Err, String}
use Rattle.std.specs.String.{string_bytes}
use Rattle.std.specs.declared.alloc.Global.{Global}
use Rattle.ep_units.specs.Text.{Text}
use Rattle.ep_csread.specs.Reading.{reading}
use Rattle.ep_outside.specs.Disk.{Contents}
use Rattle.ep_outside.specs.declared.image.Image.{Image}
use Rattle.ep_outside.specs.declared.image.Image.TheVariants.{Old, New, Torn}
use Rattle.ep_history.specs.declared.record.Record.{Record}
use Rattle.ep_pad_file.specs.Stopping.{gate_behind, opens_gate}
use Rattle.ep_schedule.specs.Headline.{next_up}
use Rattle.ep_schedule.specs.World.{Actor, Member, WorldState}
use Rattle.ep_schedule.specs.World.Actor.{Nobody, Guest, Named}
use Rattle.ep_world.specs.Kepts.{Kepts}
use Rattle.ep_event.specs.declared.event.Event.{Event as Told}
use Rattle.ep_event.specs.declared.event.Event.TheVariants as event
use Rattle.ep_event.specs.declared.shown.Shown.{Shown}
use Rattle.ep_script.specs.Left.{left}
use Rattle.ep_script.specs.Line.{Gives}
use Rattle.ep_script.specs.Seen.{Seen, seen}
use Rattle.ep_script.specs.declared.line.Line.{Line}
use Rattle.ep_script.specs.declared.line.Line.TheVariants as line
use Rattle.ep_script.specs.declared.line.LineBad.{LineBad}
use Rattle.ep_script.specs.declared.line.LineBad.TheVariants as line_bad
use Rattle.ep_world.specs.Events.{event_at, is_client, of_client}
use Rattle.ep_world.specs.Journal.{full_at, full_by, journal_full, keeps_record, record_taken}
use Rattle.ep_world.specs.Reading.{ShowsClient, ShowsPad}
use Rattle.ep_world.specs.Shows.{shows, shows_view, shows_view_marks}
use Rattle.ep_world.specs.Standing.{Comes, IsPlayed, StandsFor, overfull_at}
use Rattle.ep_world.specs.Standing.IsPlayed.{IsEvent as EventPlayed, HasNoRoom as NoRoomPlayed}
use Rattle.ep_world.specs.declared.bad.WorldBad.{WorldBad}
use Rattle.ep_world.specs.declared.bad.WorldBad.TheVariants as world_bad
use Rattle.ep_world.specs.declared.world.World.{World}
use Rattle.ep_world.proofs.Leading.{more-event, more-full}
use Rattle.ep_run.specs.Play.{Scene, Becomes, Happens, Shows, ShowsRead, ShowsSeen, after, keeps_left, leaves_gate, line_read, line_seen, line_stops, played, stop_at, stops, unless, written}
use Rattle.ep_run.specs.Played.{IsStage, Plays, PlaysLine, Puts, Steps}
use Rattle.ep_run.specs.Stops.{stop_of_line, stop_of_world}
use Rattle.ep_run.specs.declared.reason.Reason.TheVariants.{Unknown}
use Rattle.ep_run.specs.declared.stage.Stage.{Stage}
use Rattle.ep_run.specs.declared.stage.Stop.{Stop}
use Rattle.ep_run.specs.declared.stage.Stop.TheVariants.{At, Failed}

-- ---- clients

-- what is there of a client is told just where it is one
abbrev of-member : (Member → Shown) → Actor → Option Shown
of-member f a = of_client None (λ m. Some (f m)) a

is-told : (a : Actor) (f : Member → Shown) (x : Shown) → ShowsClient (of-member f a) (Ok x) → unless (is_client a) ≡ None
is-told Nobody f x e = cc
is-told (Guest c) f x e = cc
is-told (Named m) f x e = refl

is-that : (a : Actor) (f : Member → Shown) (x : Shown) → ShowsClient (of-member f a) (Ok x) → Some x ≡ of-member f a
is-that Nobody f x e = cc
is-that (Guest c) f x e = cc
is-that (Named m) f x e = ap Some e

is-nobody : (a : Actor) (f : Member → Shown) → ShowsClient (of-member f a) (Err world_bad.Unknown) → unless (is_client a) ≡ Some Unknown
is-nobody Nobody f e = refl
is-nobody (Guest c) f e = refl
is-nobody (Named m) f e = cc

-- ---- what is seen of a line is enough

-- what is seen of an image tells as much
gate-seen : (gate : ℕ) (image : Image) → opens_gate gate image ≡ leaves_gate gate (left image)
gate-seen gate Old = refl
gate-seen gate New = refl
gate-seen gate (Torn length fill) = refl

keeps-seen : (k : ℕ) (s : Scene) (n : Text) (calls : ℕ) (image : Image)
    → keeps_record s.journal s.world.pad k (next_up (s.world.actors n)) calls image ≡ keeps_left s k n calls (left image)
keeps-seen k s n calls image =
    ap (λ b. (nat_le 4 calls || (calls == 3 && b)) && is_none (full_by s.journal s.world.pad (record_taken s.world.pad k (next_up (s.world.actors n)))))
    (gate-seen (gate_behind s.journal) image)

event-seen : (k : ℕ) (s next : Scene) (e : Told) (o : Option Shown) → Shows k s (line.Event e) o next → ShowsSeen k s (seen (line.Event e)) o next
event-seen k s next (event.Stop (Some at)) o h =
    subst (λ b. Becomes b k s (stop_at at.name at.calls) o next (full_at s.journal s.world k b (stop_at at.name at.calls))) (h.1 ∙ keeps-seen k s at.name at.calls at.image) h.2
event-seen k s next (event.Stop None) o h = h
event-seen k s next (event.Create t) o h = h
event-seen k s next (event.SetText t) o h = h
event-seen k s next event.Delete o h = h
event-seen k s next (event.Login n) o h = h
event-seen k s next (event.Guest n r) o h = h
event-seen k s next (event.Edit n e) o h = h
event-seen k s next (event.Undo n) o h = h
event-seen k s next (event.Redo n) o h = h
event-seen k s next (event.Submit n) o h = h
event-seen k s next (event.Inject n b c) o h = h
event-seen k s next (event.Take n) o h = h
event-seen k s next (event.Late n) o h = h
event-seen k s next (event.Push n) o h = h
event-seen k s next (event.Hear n) o h = h
event-seen k s next (event.Lose n) o h = h
event-seen k s next (event.Resume n) o h = h

shows-seen : (k : ℕ) (s next : Scene) (l : Line) (o : Option Shown) → Shows k s l o next → ShowsSeen k s (seen l) o next
shows-seen k s next line.Blank o h = h
shows-seen k s next (line.Event e) o h = event-seen k s next e o h
shows-seen k s next (line.Inject n b t) o h = h
shows-seen k s next (line.Attr a v) o h = h
shows-seen k s next (line.Show n) o h = h
shows-seen k s next line.Head o h = h
shows-seen k s next (line.Text r) o h = h
shows-seen k s next line.Marks o h = h
shows-seen k s next (line.ViewMarks n) o h = h

stops-event : (s : Scene) (e : Told) → line_stops s.world (line_seen (seen (line.Event e))) ≡ line_stops s.world (line.Event e)
stops-event s (event.Stop (Some at)) = refl
stops-event s (event.Stop None) = refl
stops-event s (event.Create t) = refl
stops-event s (event.SetText t) = refl
stops-event s event.Delete = refl
stops-event s (event.Login n) = refl
stops-event s (event.Guest n r) = refl
stops-event s (event.Edit n e) = refl
stops-event s (event.Undo n) = refl
stops-event s (event.Redo n) = refl
stops-event s (event.Submit n) = refl
stops-event s (event.Inject n b c) = refl
stops-event s (event.Take n) = refl
stops-event s (event.Late n) = refl
stops-event s (event.Push n) = refl
stops-event s (event.Hear n) = refl
stops-event s (event.Lose n) = refl
stops-event s (event.Resume n) = refl

stops-seen : (s : Scene) (l : Line) → stops s.world (Ok (seen l)) ≡ line_stops s.world l
stops-seen s line.Blank = refl
stops-seen s (line.Event e) = stops-event s e
stops-seen s (line.Inject n b t) = refl
stops-seen s (line.Attr a v) = refl
stops-seen s (line.Show n) = refl
stops-seen s line.Head = refl
stops-seen s (line.Text r) = refl
stops-seen s line.Marks = refl
stops-seen s (line.ViewMarks n) = refl

module _ {D : Type 0} (told : D → Option Contents) (failures : D → ℕ) (stops_alone : D → Bool) where
  -- ---- events

  module _ (k : ℕ) (s : Scene) (e : Told) (world : World D) (new : Stage D) (at : new.world ≡ world) (pool : new.pool.pairs ≡ s.pool) (stage : Stage D) (is : IsStage told failures stops_alone stage s) where
    happens-so : (x : Shown) → IsPlayed told failures stops_alone true s.journal s.world s.kepts k e world x → (next : Scene) × Happens k s e (Some x) next × IsStage told failures stops_alone new next
    happens-so x (EventPlayed kept a r d b) =
        let next = played k s kept e in (
          next,
          (kept, d refl, subst (Becomes kept k s e (Some x) next) (sym r) (ap Some a, refl)),
          record {
            run = more-event s.world s.kepts k kept e is.run;
            world = subst (λ c. StandsFor told failures stops_alone true next.journal c next.world next.kepts) (sym at) b;
            pool = pool;
          },
        )
    happens-so x (NoRoomPlayed kept a d b) =
        let next = after s e (overfull_at s.journal s.world k kept e) (journal_full s.journal s.world k kept e) in (
          next,
          (kept, d refl, subst (Becomes kept k s e (Some x) next) (sym a) (refl, refl)),
          record {
            run = more-full s.journal s.world s.kepts k kept e is.run;
            world = subst (λ c. StandsFor told failures stops_alone true next.journal c next.world next.kepts) (sym at) b;
            pool = pool;
          },
        )

    pub steps : (x : Shown) → Comes told failures stops_alone true s.journal s.world s.kepts k e world (Ok x) → Steps told failures stops_alone k s e (Ok x) new
    steps x c = (ap unless c.0, happens-so x c.2)

  pub stopped : (k : ℕ) (s : Scene) (e : Told) (bad : WorldBad) (world : World D) (new : Stage D) → Comes told failures stops_alone true s.journal s.world s.kepts k e world (Err bad) → Steps told failures stops_alone k s e (Err (stop_of_world bad)) new
  stopped k s e world_bad.Unknown world new c = ap unless c.0
  stopped k s e world_bad.NoText world new c = tt
  stopped k s e (world_bad.Full n) world new c = tt
  stopped k s e (world_bad.Store n) world new c = tt
  stopped k s e world_bad.NoMemory world new c = tt

  pub step_stopped : (k : ℕ) (s : Scene) (e : Told) (bad : WorldBad) (world : World D) (new : Stage D) (r : Result Shown Stop) → r ≡ Err (stop_of_world bad)
      → Comes told failures stops_alone true s.journal s.world s.kepts k e world (Err bad) → Steps told failures stops_alone k s e r new
  step_stopped k s e bad world new r is c = subst (λ r. Steps told failures stops_alone k s e r new) (sym is) (stopped k s e bad world new c)

  -- ---- lines that stop

  pub plays-as : (k : ℕ) (s : Scene) (l : Line) (new : Stage D) (r q : Result (Option Shown) Stop) → r ≡ q → Plays told failures stops_alone k s l q new → Plays told failures stops_alone k s l r new
  plays-as k s l new r q is h = subst (λ r. Plays told failures stops_alone k s l r new) (sym is) h

  pub event-fails : (k : ℕ) (s : Scene) (e : Told) (stop : Stop) (new : Stage D) → Steps told failures stops_alone k s e (Err stop) new → Plays told failures stops_alone k s (line.Event e) (Err stop) new
  event-fails k s e (At reason) new h = h
  event-fails k s e Failed new h = tt

  pub inject-fails : (k : ℕ) (s : Scene) (n : Text) (base : ℕ) (text : Text) (stop : Stop) (new : Stage D) → Steps told failures stops_alone k s (event.Inject n base (reading s.pool text)) (Err stop) new
      → Plays told failures stops_alone k s (line.Inject n base text) (Err stop) new
  inject-fails k s n base text (At reason) new h = h
  inject-fails k s n base text Failed new h = tt

  pub put-fails : (k : ℕ) (s : Scene) (key value : Text) (stop : Stop) (new : Stage D) → Puts told failures stops_alone s (key, value) (Err stop) new → Plays told failures stops_alone k s (line.Attr key value) (Err stop) new
  put-fails k s key value (At reason) new h = absurd h
  put-fails k s key value Failed new h = tt

  -- ---- lines of bytes

  module _ (k : ℕ) (s : Scene) (new : Stage D) (bytes : Result Seen LineBad) where
    pub unread : (bad : LineBad) → Gives seen (Err bad) bytes → PlaysLine told failures stops_alone k s (line_read bytes) (Err (stop_of_line bad)) new
    unread line_bad.Utf8 e = ap (λ b. stops s.world (line_read b)) e
    unread line_bad.Syntax e = ap (λ b. stops s.world (line_read b)) e
    unread line_bad.NoMemory e = tt

    pub reads-as : (r q : Result (String Global) Stop) → r ≡ q → PlaysLine told failures stops_alone k s (line_read bytes) q new → PlaysLine told failures stops_alone k s (line_read bytes) r new
    reads-as r q is h = subst (λ r. PlaysLine told failures stops_alone k s (line_read bytes) r new) (sym is) h

    module _ (l : Line) (e : bytes ≡ Ok (seen l)) where
      stops-as : stops s.world (line_read bytes) ≡ line_stops s.world l
      stops-as = ap (λ b. stops s.world (line_read b)) e ∙ stops-seen s l

      pub line_stops_so : (stop : Stop) → Plays told failures stops_alone k s l (Err stop) new → PlaysLine told failures stops_alone k s (line_read bytes) (Err stop) new
      line_stops_so (At reason) h = stops-as ∙ h
      line_stops_so Failed h = tt

      pub line_plays : (o : Option Shown) (text : String Global) → Plays told failures stops_alone k s l (Ok o) new → string_bytes text ≡ written o → PlaysLine told failures stops_alone k s (line_read bytes) (Ok text) new
      line_plays o text h w = (
        stops-as ∙ h.0,
        (o, h.1.0, subst (λ b. ShowsRead k s (line_read b) o h.1.0) (sym e) (shows-seen k s h.1.0 l o h.1.1), w, h.1.2),
      )

  -- ---- readings

  -- the world stays, and the pool
  module _ (s : Scene) (new : Stage D) where
    pub view_told : (k : ℕ) (n : Text) (x : Shown) → ShowsClient (shows_view s.world n) (Ok x) → IsStage told failures stops_alone new s → Plays told failures stops_alone k s (line.Show n) (Ok (Some x)) new
    view_told k n x e is = (is-told (s.world.actors n) _ x e, (s, (is-that (s.world.actors n) _ x e, refl), is))

    pub view_untold : (k : ℕ) (n : Text) (bad : WorldBad) → ShowsClient (shows_view s.world n) (Err bad) → Plays told failures stops_alone k s (line.Show n) (Err (stop_of_world bad)) new
    view_untold k n world_bad.Unknown e = is-nobody (s.world.actors n) _ e
    view_untold k n world_bad.NoText e = tt
    view_untold k n (world_bad.Full c) e = tt
    view_untold k n (world_bad.Store c) e = tt
    view_untold k n world_bad.NoMemory e = tt

    pub marks_told : (k : ℕ) (n : Text) (x : Shown) → ShowsClient (shows_view_marks s.world n) (Ok x) → IsStage told failures stops_alone new s → Plays told failures stops_alone k s (line.ViewMarks n) (Ok (Some x)) new
    marks_told k n x e is = (is-told (s.world.actors n) _ x e, (s, (is-that (s.world.actors n) _ x e, refl), is))

    pub marks_untold : (k : ℕ) (n : Text) (bad : WorldBad) → ShowsClient (shows_view_marks s.world n) (Err bad) → Plays told failures stops_alone k s (line.ViewMarks n) (Err (stop_of_world bad)) new
    marks_untold k n world_bad.Unknown e = is-nobody (s.world.actors n) _ e
    marks_untold k n world_bad.NoText e = tt
    marks_untold k n (world_bad.Full c) e = tt
    marks_untold k n (world_bad.Store c) e = tt
    marks_untold k n world_bad.NoMemory e = tt

  -- a reading of the pad fails only where nothing is said
  pub reading_fails : (k : ℕ) (s : Scene) (rs : List Record) (before : ℕ) (w : WorldState) (ks : Kepts) (said : Shown) (l : Line) (bad : WorldBad) (world : World D) (new : Stage D) → ShowsPad told failures stops_alone true rs before w ks said (Err bad) world
      → Plays told failures stops_alone k s l (Err (stop_of_world bad)) new
  reading_fails k s rs before w ks said l world_bad.Unknown world new h = absurd h.0
  reading_fails k s rs before w ks said l world_bad.NoText world new h = tt
  reading_fails k s rs before w ks said l (world_bad.Full n) world new h = tt
  reading_fails k s rs before w ks said l (world_bad.Store n) world new h = tt
  reading_fails k s rs before w ks said l world_bad.NoMemory world new h = tt
