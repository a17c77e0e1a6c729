-- What a run writes, of how its script ended.
use Rattle.std.proofs.Common.{◌≡◌, ℕ, ◌⊎◌, Bool, List, [], ◌∷◌, Option, Some, None, refl, sym, ap, ◌∙◌, subst, arith, append-nil, inl, inr, lit<}
use Rattle.std.specs.Prelude.{Result, Ok, Err, IfSome, IsSome, IsErrOf, Contains, ◌↔◌}
use Rattle.ep_units.specs.Text.{Text}
use Rattle.ep_outside.specs.Disk.{Contents, settled}
use Rattle.ep_outside.specs.Outside.{Takes, TakesPart}
use Rattle.ep_outside.proofs.Pieces.{started, stopped}
use Rattle.ep_pad_file.specs.Standing.{Holds}
use Rattle.ep_world.specs.declared.world.World.{World}
use Rattle.ep_world.proofs.Leading.{scheduled}
use Rattle.ep_run.specs.Ending.{EndsLines, EndsScript, code_of, world_of}
use Rattle.ep_run.specs.Play.{IsTranscript, opening, reads_of}
use Rattle.ep_words.specs.Lines.{Line}
use Rattle.ep_words.specs.Lines as line
use Rattle.ep_run.specs.Run.{IsEnd, IsMade, IsMadeOf, Writes, WritesPart, statuses}
use Rattle.ep_run.specs.declared.script.PlayBad.{PlayBad}
use Rattle.ep_run.specs.declared.script.PlayBad.TheVariants.{SourceFault, SinkFault, Failed}
use Rattle.ep_run.proofs.Transcripts.{some}

-- ---- transcripts of scripts

some-of : (id : Text) (script : List ℕ) → (out : List ℕ) × (status : ℕ) × IsTranscript id script out status
some-of id script = let x = some 1 (opening id) (reads_of script) in (x.0, x.1, (x.2, x.3))

takes_part : (held now : Option (List ℕ)) (bytes : List ℕ) → Takes held now bytes → TakesPart held now bytes
takes_part held now bytes t = ([], record { gone = bytes; whole = sym (append-nil bytes); takes = t })

pub part_nothing : (id : Text) (left held : Option (List ℕ)) → WritesPart id left held held
part_nothing id None held = let x = some-of id [] in ([], x.0, x.1, x.2, stopped held held x.0 x.0 (started held x.0))
part_nothing id (Some xs) held = let x = some-of id xs in (x.0, x.1, x.2, stopped held held x.0 x.0 (started held x.0))

-- ---- of how the lines ended

pub failed_code : {W : Type 0} (r : Result (Option W) PlayBad) → code_of r ≡ 5 → IsErrOf r SinkFault
failed_code (Ok (Some w)) e = absurd (omega (arith, e))
failed_code (Ok None) e = absurd (omega (arith, e))
failed_code (Err SourceFault) e = absurd (omega (arith, e))
failed_code (Err SinkFault) e = refl
failed_code (Err Failed) e = absurd (omega (arith, e))

pub unread_code : {W : Type 0} (r : Result (Option W) PlayBad) → code_of r ≡ 4 → IsErrOf r SourceFault
unread_code (Ok (Some w)) e = absurd (omega (arith, e))
unread_code (Ok None) e = absurd (omega (arith, e))
unread_code (Err SourceFault) e = refl
unread_code (Err SinkFault) e = absurd (omega (arith, e))
unread_code (Err Failed) e = absurd (omega (arith, e))

pub known_code : {W : Type 0} (r : Result (Option W) PlayBad) → Contains (0 ∷ 3 ∷ 4 ∷ 5 ∷ 7 ∷ []) (code_of r)
known_code (Ok (Some w)) = (0, lit< tt, refl)
known_code (Ok None) = (1, lit< tt, refl)
known_code (Err SourceFault) = (2, lit< tt, refl)
known_code (Err SinkFault) = (3, lit< tt, refl)
known_code (Err Failed) = (4, lit< tt, refl)

pub has_world : {W : Type 0} (r : Result (Option W) PlayBad) → IsSome (world_of r) ↔ (code_of r ≡ 0)
has_world (Ok (Some w)) = (λ h. refl, λ e. refl)
has_world (Ok None) = (λ h. cc, λ e. absurd (omega (arith, e)))
has_world (Err SourceFault) = (λ h. cc, λ e. absurd (omega (arith, e)))
has_world (Err SinkFault) = (λ h. cc, λ e. absurd (omega (arith, e)))
has_world (Err Failed) = (λ h. cc, λ e. absurd (omega (arith, e)))

-- all was read where all was played
pub read_all : {W : Type 0} (r : Result (Option W) PlayBad) (P : Type 0) → ((o : Option W) → r ≡ Ok o → IsSome o → P) → code_of r ≡ 0 → P
read_all (Ok (Some w)) P h e = h (Some w) refl refl
read_all (Ok None) P h e = absurd (omega (arith, e))
read_all (Err SourceFault) P h e = absurd (omega (arith, e))
read_all (Err SinkFault) P h e = absurd (omega (arith, e))
read_all (Err Failed) P h e = absurd (omega (arith, e))

no-end : (W : Type 0) (bad : PlayBad) → IsEnd (code_of {W = W} (Err bad)) → ⊥
no-end W SourceFault (inl k) = omega (arith, k)
no-end W SourceFault (inr k) = omega (arith, k)
no-end W SinkFault (inl k) = omega (arith, k)
no-end W SinkFault (inr k) = omega (arith, k)
no-end W Failed (inl k) = omega (arith, k)
no-end W Failed (inr k) = omega (arith, k)

-- an empty file stands for no records
pub holds_nothing : (o : Option Contents) (bytes : List ℕ) → o ≡ Some (settled bytes) → bytes ≡ [] → Holds o []
holds_nothing o bytes e n = subst (λ o. Holds o []) (sym (e ∙ ap (λ b. Some (settled b)) n)) (record { bytes = refl; records = tt })

module _ {D : Type 0} (told : D → Option Contents) (failures : D → ℕ) (stops_alone : D → Bool) (id : Text) (held now : Option (List ℕ)) where
  -- of one script
  writes : (script : List ℕ) (r : Result (Option (World D)) PlayBad) → EndsLines told failures stops_alone (opening id) (reads_of script) held now r → IsEnd (code_of r)
      → (out : List ℕ) × IsTranscript id script out (code_of r) × Takes held now out
  writes script (Ok (Some w)) h k = (h.1.0, (h.0, h.1.1), h.1.2)
  writes script (Ok None) h k = (h.1.0, (h.0, h.1.1), h.1.2)
  writes script (Err bad) h k = absurd (no-end (World D) bad k)

  part : (script : List ℕ) (r : Result (Option (World D)) PlayBad) → EndsLines told failures stops_alone (opening id) (reads_of script) held now r
      → (out : List ℕ) × (code : ℕ) × IsTranscript id script out code × TakesPart held now out
  part script (Ok (Some w)) h = (h.1.0, 0, (h.0, h.1.1), takes_part held now h.1.0 h.1.2)
  part script (Ok None) h = (h.1.0, 3, (h.0, h.1.1), takes_part held now h.1.0 h.1.2)
  part script (Err bad) h = (h.0, h.1, (h.2, h.3), h.4)

  made : (script : List ℕ) (w : World D) → EndsLines told failures stops_alone (opening id) (reads_of script) held now (Ok (Some w)) → IsMade told failures stops_alone id script held now w
  made script w h = record {
    out = h.1.0;
    end = h.0;
    transcript = h.1.1;
    written = h.1.2;
    run = h.2;
    stands = h.3;
    scheduled = scheduled h.0.world h.0.kepts h.2;
  }

  -- of what the source had left
  pub ends_writes : (left : Option (List ℕ)) (r : Result (Option (World D)) PlayBad) → EndsScript told failures stops_alone (opening id) left held now r → IsEnd (code_of r) → Writes id left held now (code_of r)
  ends_writes (Some script) r h k = writes script r h k
  ends_writes None r h k = let x = writes h.0 r h.1 k in (h.0, x.0, x.1, x.2)

  pub ends_part : (left : Option (List ℕ)) (r : Result (Option (World D)) PlayBad) → EndsScript told failures stops_alone (opening id) left held now r → WritesPart id left held now
  ends_part (Some script) r h = part script r h
  ends_part None r h = let x = part h.0 r h.1 in (h.0, x.0, x.1, x.2, x.3)

  pub ends_made : (left : Option (List ℕ)) (r : Result (Option (World D)) PlayBad) → EndsScript told failures stops_alone (opening id) left held now r → IfSome (world_of r) (IsMadeOf told failures stops_alone id left held now)
  ends_made (Some script) (Ok (Some w)) h = made script w h
  ends_made None (Ok (Some w)) h = (h.0, made h.0 w h.1)
  ends_made left (Ok None) h = tt
  ends_made left (Err bad) h = tt

-- nothing was played
pub nothing_played : {D : Type 0} (told : D → Option Contents) (failures : D → ℕ) (stops_alone : D → Bool) (id : Text) (left held : Option (List ℕ)) (r : Result (Option (World D)) PlayBad) (bad : PlayBad)
    → r ≡ Err bad → EndsScript told failures stops_alone (opening id) left held held r
nothing_played told failures stops_alone id (Some script) held r bad is =
    let x = some 1 (opening id) (reads_of script) in
    subst (λ r. EndsScript told failures stops_alone (opening id) (Some script) held held r) (sym is) (x.0, x.1, x.2, x.3, stopped held held x.0 x.0 (started held x.0))
nothing_played told failures stops_alone id None held r bad is =
    let x = some 1 (opening id) (reads_of []) in
    subst (λ r. EndsScript told failures stops_alone (opening id) None held held r) (sym is) ([], (x.0, x.1, x.2, x.3, stopped held held x.0 x.0 (started held x.0)))

-- ---- of the words

pub known_usage : (code : ℕ) → (code ≡ 2) ⊎ (code ≡ 5) → Contains (2 ∷ 5 ∷ 7 ∷ []) code
known_usage code (inl e) = (0, lit< tt, sym e)
known_usage code (inr e) = (1, lit< tt, sym e)

pub known_other : (o : Option Line) (code : ℕ) → o ≡ None → (code ≡ 2) ⊎ (code ≡ 5) → Contains (statuses o) code
known_other o code none e = subst (λ o. Contains (statuses o) code) (sym none) (known_usage code e)

-- memory may run out at any words
pub known_wanting : (o : Option Line) → Contains (statuses o) 7
known_wanting None = (2, lit< tt, refl)
known_wanting (Some (line.play id)) = (4, lit< tt, refl)
known_wanting (Some (line.serve pads api dir key)) = (2, lit< tt, refl)
known_wanting (Some (line.write addr pad token)) = (4, lit< tt, refl)
known_wanting (Some (line.verify dir workers)) = (4, lit< tt, refl)
known_wanting (Some (line.make number clients edits)) = (2, lit< tt, refl)
