-- A script that is read and played line by line.
use Rattle.std.proofs.Common.{◌≡◌, ℕ, ◌+◌, Bool, true, false, List, [], ◌∷◌, ◌++◌, Option, Some, None, refl, sym, ap, ◌∙◌, subst, append_assoc}
use Rattle.std.specs.Prelude.{Result, Ok, Err, String}
use Rattle.std.specs.String.{string_bytes}
use Rattle.std.specs.declared.alloc.Global.{Global}
use Rattle.ep_outside.specs.Disk.{Contents}
use Rattle.ep_outside.specs.Outside.{Gives, IsAtEnd, Takes, TakesPart}
use Rattle.ep_script.specs.Lines.{Row, rows_of, said}
use Rattle.ep_script.specs.Line.{line_of}
use Rattle.ep_script.specs.Script.{IsNext, MayFollow, Unread, is_long, width}
use Rattle.ep_script.specs.Seen.{Seen}
use Rattle.ep_script.specs.declared.script.ScriptBad.{ScriptBad}
use Rattle.ep_script.specs.declared.script.ScriptLine.{ScriptLine}
use Rattle.ep_script.specs.declared.script.ScriptLine.TheVariants.{Text, Long as TooLong}
use Rattle.ep_world.specs.declared.world.World.{World}
use Rattle.ep_run.specs.Ending.{EndsLines, EndsScript}
use Rattle.ep_run.specs.Play.{Scene, error_line, line_read, read_at, reads_at, reads_of}
use Rattle.ep_run.specs.Played.{IsStage, PlaysLine, cut_read}
use Rattle.ep_run.specs.declared.script.PlayBad.{PlayBad}
use Rattle.ep_run.specs.declared.reason.Reason.{Reason}
use Rattle.ep_run.specs.declared.reason.Reason.TheVariants.{Long}
use Rattle.ep_run.specs.declared.stage.Stage.{Stage}
use Rattle.ep_run.specs.declared.stage.Stop.TheVariants.{At}
use Rattle.ep_run.proofs.Playing.{IsPlaying, begun, breaks, end_breaks, end_whole, ended, line_breaks, line_goes}

-- ---- what a source gives

gives-nil : (a : Option (List ℕ)) → Gives a a []
gives-nil None = tt
gives-nil (Some xs) = refl

gives-more : (a b c : Option (List ℕ)) (p q : List ℕ) → Gives a b p → Gives b c q → Gives a c (p ++ q)
gives-more None None None p q g h = tt
gives-more (Some xs) (Some ys) (Some zs) p q g h = g ∙ (ap (λ w. p ++ w) h ∙ sym (append_assoc p q zs))
gives-more None (Some ys) c p q g h = absurd g
gives-more (Some xs) None c p q g h = absurd g
gives-more None None (Some zs) p q g h = absurd h
gives-more (Some xs) (Some ys) None p q g h = absurd h

-- something may follow
some-more : (u : Unread) (a : Option (List ℕ)) → (u.is_over ≡ true → IsAtEnd a) → (more : List ℕ) × MayFollow u a more
some-more u None h = ([], record { over = λ o. refl; told = tt })
some-more u (Some xs) h = (xs, record { over = h; told = refl })

-- what comes next, whatever follows
abbrev pub Nexts : Unread → Unread → Option (List ℕ) → Option (List ℕ) → List ℕ → Result (Option ScriptLine) ScriptBad → Type 0
Nexts old new a b piece r = (more : List ℕ) → MayFollow new b more → MayFollow old a (piece ++ more) × IsNext old piece new more r

empty-behind : (xs ys zs : List ℕ) → xs ++ (ys ++ zs) ≡ [] → zs ≡ []
empty-behind [] [] zs e = e
empty-behind [] (y ∷ ys) zs e = cc
empty-behind (x ∷ xs) ys zs e = cc

-- behind the last line nothing is left
pub at-end : (u new : Unread) (a b : Option (List ℕ)) (piece : List ℕ) → (new.is_over ≡ true → IsAtEnd b)
    → ((more : List ℕ) → MayFollow new b more → MayFollow u a (piece ++ more) × IsNext u piece new more (Ok None)) → IsAtEnd b
at-end u new a None piece over n = tt
at-end u new a (Some ys) piece over n = empty-behind u.held piece ys (n ys (record { over = over; told = refl })).1

-- ---- the line that is cut off

not-long : (place : ℕ) (row : Row) (bytes : List ℕ) → is_long place row ≡ false → bytes ≡ said row → read_at place row ≡ line_read (line_of bytes)
not-long place row bytes e f = rw e (ap (λ xs. line_read (line_of xs)) (sym f))

too-long : (place : ℕ) (row : Row) → is_long place row ≡ true → read_at place row ≡ Err Long
too-long place row e = rw e

abbrev Behind : ScriptLine → Unread → List ℕ → List (Result Seen Reason) → Type 0
Behind (Text bytes) new more reads = reads ≡ reads_at new.place (rows_of (new.held ++ more))
Behind TooLong new more reads = Unit {0}

first-line : (old new : Unread) (piece more : List ℕ) (line : ScriptLine) → IsNext old piece new more (Ok (Some line))
    → (behind : List (Result Seen Reason)) × (reads_at old.place (rows_of (old.held ++ (piece ++ more))) ≡ cut_read line ∷ behind) × Behind line new more behind
first-line old new piece more (Text bytes) (row, is, short, text, place) = (
  reads_at new.place (rows_of (new.held ++ more)),
  ap (reads_at old.place) is ∙ (ap (λ r. r ∷ reads_at (old.place + width row) (rows_of (new.held ++ more))) (not-long old.place row bytes.items short text) ∙ ap (λ n. line_read (line_of bytes.items) ∷ reads_at n (rows_of (new.held ++ more))) (sym place)),
  refl,
)
first-line old new piece more TooLong (row, rows, is, long) = (
  reads_at (old.place + width row) rows,
  ap (reads_at old.place) is ∙ ap (λ r. r ∷ reads_at (old.place + width row) rows) (too-long old.place row long),
  tt,
)

module _ {D : Type 0} (told : D → Option Contents) (failures : D → ℕ) (stops_alone : D → Bool) where
  -- Of the source so much was taken; and whatever may follow, the stage stands where the first line begins of what is held.
  pub record IsRead (stage : Stage D) (u : Unread) (first : Scene) (a b held now : Option (List ℕ)) (k : ℕ) : Type 0 where
    pub taken : List ℕ
    pub gives : Gives a b taken
    pub playing : (more : List ℕ) → MayFollow u b more → IsPlaying told failures stops_alone stage first held now (reads_of (taken ++ more)) k (reads_at u.place (rows_of (u.held ++ more)))

  pub opens : (stage : Stage D) (u : Unread) (s : Scene) (a held : Option (List ℕ)) → u.held ≡ [] → u.place ≡ 0 → IsStage told failures stops_alone stage s → IsRead stage u s a a held held 1
  opens stage u s a held e f h = record {
    taken = [];
    gives = gives-nil a;
    playing = λ more m.
        subst (λ rs. IsPlaying told failures stops_alone stage s held held (reads_of more) 1 rs) (ap (λ n. reads_at n (rows_of more)) (sym f) ∙ ap (λ xs. reads_at u.place (rows_of (xs ++ more))) (sym e))
        (begun told failures stops_alone stage s held (reads_of more) h);
  }

  pub script-as : (first : Scene) (a held now : Option (List ℕ)) (r q : Result (Option (World D)) PlayBad) → r ≡ q → EndsScript told failures stops_alone first a held now q → EndsScript told failures stops_alone first a held now r
  script-as first a held now r q is h = subst (λ r. EndsScript told failures stops_alone first a held now r) (sym is) h

  -- a line passes where it wrote something
  passes : (k : ℕ) (s : Scene) (line : ScriptLine) (text : String Global) (new : Stage D) (u : Unread) (more : List ℕ) (reads : List (Result Seen Reason))
      → PlaysLine told failures stops_alone k s (cut_read line) (Ok text) new → Behind line u more reads → reads ≡ reads_at u.place (rows_of (u.held ++ more))
  passes k s (Text bytes) text new u more reads played b = b
  passes k s TooLong text new u more reads played b = cc (played.0)

  -- so many lines can end
  so : (first : Scene) (u : Unread) (a b held now : Option (List ℕ)) (taken more : List ℕ) (r : Result (Option (World D)) PlayBad) → Gives a b taken → MayFollow u b more
      → EndsLines told failures stops_alone first (reads_of (taken ++ more)) held now r → EndsScript told failures stops_alone first a held now r
  so first u None None held now taken more r g m h = (taken ++ more, h)
  so first u (Some xs) (Some ys) held now taken more r g m h =
      subst (λ t. EndsLines told failures stops_alone first (reads_of t) held now r) (ap (λ w. taken ++ w) m.told ∙ sym g) h
  so first u None (Some ys) held now taken more r g m h = absurd g
  so first u (Some xs) None held now taken more r g m h = absurd g

  module _ (stage : Stage D) (u : Unread) (first : Scene) (a b held now : Option (List ℕ)) (k : ℕ) (p : IsRead stage u first a b held now k) (over : u.is_over ≡ true → IsAtEnd b) where
    -- nothing more is played
    pub fails : (bad : PlayBad) → EndsScript told failures stops_alone first a held now (Err bad)
    fails bad =
        let m = some-more u b over in
        so first u a b held now p.taken m.0 (Err bad) p.gives m.1 (breaks told failures stops_alone stage first held now (reads_of (p.taken ++ m.0)) k (reads_at u.place (rows_of (u.held ++ m.0))) (p.playing m.0 m.1) bad)

  -- behind a piece that was read
  module _ (stage : Stage D) (u new-u : Unread) (first : Scene) (a b c held now : Option (List ℕ)) (k : ℕ) (piece : List ℕ) (p : IsRead stage u first a b held now k) (g : Gives b c piece) where
    module _ (over : new-u.is_over ≡ true → IsAtEnd c) where
      some-end : (more : List ℕ) × MayFollow new-u c more
      some-end = some-more new-u c over

      -- of what was read by then
      then : (after : Option (List ℕ)) (r : Result (Option (World D)) PlayBad) → EndsLines told failures stops_alone first (reads_of (p.taken ++ (piece ++ some-end.0))) held after r → EndsScript told failures stops_alone first a held after r
      then after r h =
          so first new-u a c held after (p.taken ++ piece) some-end.0 r (gives-more a b c p.taken piece p.gives g) some-end.1
          (subst (λ t. EndsLines told failures stops_alone first (reads_of t) held after r) (sym (append_assoc p.taken piece some-end.0)) h)

      -- no line is left
      pub over-all : ((more : List ℕ) → MayFollow new-u c more → MayFollow u b (piece ++ more) × IsNext u piece new-u more (Ok None)) → EndsScript told failures stops_alone first a held now (Ok (Some stage.world))
      over-all n =
          let x = n some-end.0 some-end.1 in
          then now (Ok (Some stage.world))
          (ended told failures stops_alone stage first held now (reads_of (p.taken ++ (piece ++ some-end.0))) k _ (p.playing (piece ++ some-end.0) x.0) (ap (λ t. reads_at u.place (rows_of t)) x.1))

      module _ (line : ScriptLine) (n : (more : List ℕ) → MayFollow new-u c more → MayFollow u b (piece ++ more) × IsNext u piece new-u more (Ok (Some line))) (new : Stage D) where
        at : IsPlaying told failures stops_alone stage first held now (reads_of (p.taken ++ (piece ++ some-end.0))) k (reads_at u.place (rows_of (u.held ++ (piece ++ some-end.0))))
        at = p.playing (piece ++ some-end.0) (n some-end.0 some-end.1).0

        cut : (behind : List (Result Seen Reason)) × (reads_at u.place (rows_of (u.held ++ (piece ++ some-end.0))) ≡ cut_read line ∷ behind) × Behind line new-u some-end.0 behind
        cut = first-line u new-u piece some-end.0 line (n some-end.0 some-end.1).1

        -- what it shows was not written whole
        pub unwritten : (text : String Global) (after : Option (List ℕ)) → ((s : Scene) → IsStage told failures stops_alone stage s → PlaysLine told failures stops_alone k s (cut_read line) (Ok text) new) → TakesPart now after (string_bytes text)
            → (bad : PlayBad) → EndsScript told failures stops_alone first a held after (Err bad)
        unwritten text after played t bad =
            then after (Err bad) (line_breaks told failures stops_alone stage new first held now after (reads_of (p.taken ++ (piece ++ some-end.0))) k _ cut.0 (cut_read line) cut.1 at text (played at.at at.stands) t bad)

        -- it can't be played, and why was written, whole or in part; or it can't go on
        pub stops-whole : (reason : Reason) (after : Option (List ℕ)) → ((s : Scene) → IsStage told failures stops_alone stage s → PlaysLine told failures stops_alone k s (cut_read line) (Err (At reason)) new) → Takes now after (error_line k reason)
            → EndsScript told failures stops_alone first a held after (Ok None)
        stops-whole reason after played t =
            then after (Ok None) (end_whole told failures stops_alone stage new first held now after (reads_of (p.taken ++ (piece ++ some-end.0))) k _ cut.0 (cut_read line) cut.1 at reason (played at.at at.stands) t)

        pub stops-part : (reason : Reason) (after : Option (List ℕ)) → ((s : Scene) → IsStage told failures stops_alone stage s → PlaysLine told failures stops_alone k s (cut_read line) (Err (At reason)) new) → TakesPart now after (error_line k reason)
            → (bad : PlayBad) → EndsScript told failures stops_alone first a held after (Err bad)
        stops-part reason after played t bad =
            then after (Err bad) (end_breaks told failures stops_alone stage new first held now after (reads_of (p.taken ++ (piece ++ some-end.0))) k _ cut.0 (cut_read line) cut.1 at reason (played at.at at.stands) t bad)

        pub gives-up : (bad : PlayBad) → EndsScript told failures stops_alone first a held now (Err bad)
        gives-up bad = then now (Err bad) (breaks told failures stops_alone stage first held now (reads_of (p.taken ++ (piece ++ some-end.0))) k _ at bad)

    -- the line is played
    pub goes-on : (line : ScriptLine) → ((more : List ℕ) → MayFollow new-u c more → MayFollow u b (piece ++ more) × IsNext u piece new-u more (Ok (Some line))) → (new : Stage D) (text : String Global) (after : Option (List ℕ))
        → ((s : Scene) → IsStage told failures stops_alone stage s → PlaysLine told failures stops_alone k s (cut_read line) (Ok text) new) → Takes now after (string_bytes text) → IsRead new new-u first a c held after (k + 1)
    goes-on line n new text after played t = record {
      taken = p.taken ++ piece;
      gives = gives-more a b c p.taken piece p.gives g;
      playing = λ more m.
          let x = n more m in
          let at = p.playing (piece ++ more) x.0 in
          let cut = first-line u new-u piece more line x.1 in
          let q = line_goes told failures stops_alone stage new first held now after (reads_of (p.taken ++ (piece ++ more))) k _ cut.0 (cut_read line) cut.1 at text (played at.at at.stands) t in
          subst (λ s. IsPlaying told failures stops_alone new first held after (reads_of s) (k + 1) (reads_at new-u.place (rows_of (new-u.held ++ more)))) (sym (append_assoc p.taken piece more))
          (subst (λ rs. IsPlaying told failures stops_alone new first held after (reads_of (p.taken ++ (piece ++ more))) (k + 1) rs) (passes k at.at line text new new-u more cut.0 (played at.at at.stands) cut.2) q);
    }
