-- Records of revisions that may come next.
use Rattle.std.proofs.Common.{◌≡◌, ℕ, Bool, true, false, Result, Ok, Err, is_ok, is_err, refl, sym, ap, ◌∙◌, subst}
use Rattle.ep_units.specs.Text.{Text}
use Rattle.ep_units.specs.declared.session.Session.{Session}
use Rattle.ep_cs.specs.Doc.{Doc}
use Rattle.ep_cs.specs.Edit.{apply}
use Rattle.ep_cs.specs.Change.{Change}
use Rattle.ep_cs.specs.Fits.{Fits}
use Rattle.ep_cs.specs.NormalRuns.{IsNormal}
use Rattle.ep_history.specs.History.{head_doc, lacks_newline}
use Rattle.ep_history.specs.Pad.{PadState, newest}
use Rattle.ep_history.specs.Records.{IsNext}
use Rattle.ep_history.specs.declared.record.Record.TheVariants as record_of
use Rattle.ep_history.proofs.Answered.{normal-edit}

pub ok-of : {A E : Type 0} (r : Result A E) → is_err r ≡ false → is_ok r ≡ true
ok-of (Ok x) e = refl
ok-of (Err why) e = absurd cc

pub next-rev : (pad : PadState) (session : Session) (time : ℕ) (author : Text) (change : Change) (fixed : Bool) (head : Doc)
    → head ≡ head_doc (newest pad) → pad.present ≡ true → Fits change head → IsNormal change → fixed ≡ lacks_newline (apply change.edit head)
    → IsNext pad (record_of.Rev session time author fixed change)
next-rev pad session time author change fixed head h there fits normal e =
    (there, subst (λ d. Fits change d) h fits, normal-edit change normal, e ∙ ap (λ (d : Doc). lacks_newline (apply change.edit d)) h)
