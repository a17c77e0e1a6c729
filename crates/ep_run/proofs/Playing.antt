-- A script that is played line by line.
use Rattle.std.proofs.Common.{◌≡◌, ℕ, ◌+◌, Bool, List, [], ◌∷◌, ◌++◌, Option, Some, None, refl, sym, ap, subst, append_assoc, append-nil}
use Rattle.std.specs.Prelude.{Result, Ok, Err, String}
use Rattle.std.specs.String.{string_bytes}
use Rattle.std.specs.declared.alloc.Global.{Global}
use Rattle.ep_outside.specs.Disk.{Contents}
use Rattle.ep_outside.specs.Outside.{Takes, TakesPart}
use Rattle.ep_outside.proofs.Pieces.{Takes-append, Takes-nil, breaks_off, stopped}
use Rattle.ep_script.specs.Seen.{Seen}
use Rattle.ep_world.specs.declared.world.World.{World}
use Rattle.ep_run.specs.Ending.{EndsLines}
use Rattle.ep_run.specs.Play.{Scene, Transcript, error_line}
use Rattle.ep_run.specs.Played.{IsStage, PlaysLine}
use Rattle.ep_run.specs.declared.script.PlayBad.{PlayBad}
use Rattle.ep_run.specs.declared.reason.Reason.{Reason}
use Rattle.ep_run.specs.declared.stage.Stage.{Stage}
use Rattle.ep_run.specs.declared.stage.Stop.TheVariants.{At}
use Rattle.ep_run.proofs.Transcripts.{goes, some, stops-here}

abbrev Reads : Type 0
Reads = List (Result Seen Reason)

module _ {D : Type 0} (told : D → Option Contents) (failures : D → ℕ) (stops_alone : D → Bool) where
  -- the stage stands where the lines that are left begin; and any transcript of these goes on what was written
  pub record IsPlaying (stage : Stage D) (first : Scene) (held now : Option (List ℕ)) (all : Reads) (k : ℕ) (reads : Reads) : Type 0 where
    pub at : Scene
    pub stands : IsStage told failures stops_alone stage at
    pub gone : List ℕ
    pub takes : Takes held now gone
    pub leads : (rest : List ℕ) (status : ℕ) (end : Scene) → Transcript k at reads rest status end → Transcript 1 first all (gone ++ rest) status end

  pub begun : (stage : Stage D) (s : Scene) (held : Option (List ℕ)) (all : Reads) → IsStage told failures stops_alone stage s → IsPlaying stage s held held all 1 all
  begun stage s held all h = record { at = s; stands = h; gone = []; takes = Takes-nil held; leads = λ rest status end t. t }

  module _ (stage new : Stage D) (first : Scene) (a b c : Option (List ℕ)) (all : Reads) (k : ℕ) (reads behind : Reads) (r : Result Seen Reason) (is : reads ≡ r ∷ behind)
      (p : IsPlaying stage first a b all k reads) where
    -- a transcript of the lines that are left
    from-here : (out : List ℕ) (status : ℕ) (end : Scene) → Transcript k p.at (r ∷ behind) out status end → Transcript 1 first all (p.gone ++ out) status end
    from-here out status end t = p.leads out status end (subst (λ rs. Transcript k p.at rs out status end) (sym is) t)

    -- the line is played
    module _ (text : String Global) (played : PlaysLine told failures stops_alone k p.at r (Ok text) new) where
      on : (rest : List ℕ) (status : ℕ) (end : Scene) → Transcript (k + 1) played.1.1 behind rest status end
          → Transcript 1 first all (p.gone ++ (string_bytes text ++ rest)) status end
      on rest status end t =
          subst (λ w. Transcript 1 first all (p.gone ++ (w ++ rest)) status end) (sym played.1.3)
          (from-here _ status end (goes k p.at r behind played.1.0 played.1.1 rest status end played.0 played.1.2 t))

      pub line_goes : Takes b c (string_bytes text) → IsPlaying new first a c all (k + 1) behind
      line_goes t = record {
        at = played.1.1;
        stands = played.1.4;
        gone = p.gone ++ string_bytes text;
        takes = Takes-append a b c p.gone (string_bytes text) p.takes t;
        leads = λ rest status end tr. subst (λ w. Transcript 1 first all w status end) (sym (append_assoc p.gone (string_bytes text) rest)) (on rest status end tr);
      }

      pub line_breaks : TakesPart b c (string_bytes text) → (bad : PlayBad) → EndsLines told failures stops_alone first all a c (Err bad)
      line_breaks t bad =
          let x = some (k + 1) played.1.1 behind in (
            p.gone ++ (string_bytes text ++ x.0),
            x.1,
            x.2,
            on x.0 x.1 x.2 x.3,
            breaks_off a b c _ (string_bytes text) x.0 (record { gone = p.gone; whole = refl; takes = p.takes }) t,
          )

    -- it ends the script
    module _ (reason : Reason) (played : PlaysLine told failures stops_alone k p.at r (Err (At reason)) new) where
      here : Transcript 1 first all (p.gone ++ error_line k reason) 3 p.at
      here = from-here (error_line k reason) 3 p.at (stops-here k p.at r behind reason played)

      pub end_whole : Takes b c (error_line k reason) → EndsLines told failures stops_alone first all a c (Ok None)
      end_whole t = (p.at, (p.gone ++ error_line k reason, here, Takes-append a b c p.gone (error_line k reason) p.takes t))

      pub end_breaks : TakesPart b c (error_line k reason) → (bad : PlayBad) → EndsLines told failures stops_alone first all a c (Err bad)
      end_breaks t bad = (
        p.gone ++ error_line k reason,
        3,
        p.at,
        here,
        breaks_off a b c _ (error_line k reason) [] (record { gone = p.gone; whole = ap (λ w. p.gone ++ w) (sym (append-nil (error_line k reason))); takes = p.takes }) t,
      )

  module _ (stage : Stage D) (first : Scene) (a b : Option (List ℕ)) (all : Reads) (k : ℕ) (reads : Reads) (p : IsPlaying stage first a b all k reads) where
    -- nothing more can be played
    pub breaks : (bad : PlayBad) → EndsLines told failures stops_alone first all a b (Err bad)
    breaks bad =
        let x = some k p.at reads in
        (p.gone ++ x.0, x.1, x.2, p.leads x.0 x.1 x.2 x.3, stopped a b _ x.0 (record { gone = p.gone; whole = refl; takes = p.takes }))

    -- all were played
    pub ended : reads ≡ [] → EndsLines told failures stops_alone first all a b (Ok (Some stage.world))
    ended e = (
      p.at,
      (p.gone ++ [], p.leads [] 0 p.at (subst (λ rs. Transcript k p.at rs [] 0 p.at) (sym e) (refl, refl, refl)), subst (λ w. Takes a b w) (sym (append-nil p.gone)) p.takes),
      p.stands.run,
      p.stands.world,
    )

  pub ends-as : (first : Scene) (a b : Option (List ℕ)) (all : Reads) (r q : Result (Option (World D)) PlayBad) → r ≡ q → EndsLines told failures stops_alone first all a b q → EndsLines told failures stops_alone first all a b r
  ends-as first a b all r q is h = subst (λ r. EndsLines told failures stops_alone first all a b r) (sym is) h
