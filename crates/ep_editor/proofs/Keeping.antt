-- Who enters with what was kept goes on with it.
use Rattle.std.proofs.Common.{◌≡◌, ◌⊎◌, inl, inr, false, length, if◌then◌else◌, Option, Some, None, Result, Ok, Err, refl, sym, ap, ◌∙◌, subst}
use Rattle.std.specs.Prelude.{option_map, unwrap_or, IfErr, IfSome, IsErrAnd}
use Rattle.ep_units.specs.declared.session.Session.{Session}
use Rattle.ep_cs.specs.Change.{Change}
use Rattle.ep_cs.specs.Doc.{Doc}
use Rattle.ep_cs.specs.Edit.{Edit, apply, identity}
use Rattle.ep_cs.specs.Fits.{Fits}
use Rattle.ep_cs.specs.Fitting.{fit_bad}
use Rattle.ep_cs.proofs.Refusals.{not_refused}
use Rattle.ep_history.proofs.Lists.{none_some}
use Rattle.ep_history.specs.Kept.{IsKeptSound}
use Rattle.ep_client.specs.Refusals.{Refuses, first_of, fit_fault}
use Rattle.ep_client.specs.Restored.{restore_fault, sent_edit, sent_session}
use Rattle.ep_client.specs.declared.bad.ClientBad.{ClientBad}
use Rattle.ep_client.specs.declared.bad.ClientBad.TheVariants as client_bad
use Rattle.ep_editor.specs.Bads.{IsBadOf, bad_of_client}
use Rattle.ep_editor.specs.Inside.{kept_of}
use Rattle.ep_editor.specs.Kept.{goes_on, kept_fault, work, work_in}
use Rattle.ep_editor.specs.Replies.{Reply, Work, refuses}
use Rattle.ep_editor.specs.Requests.{again_unless, answer, is_busy}
use Rattle.ep_editor.specs.Requests.Request.{EntersAgain}
use Rattle.ep_editor.specs.Rules.{IfInside, IsSameWork}
use Rattle.ep_editor.specs.declared.bad.EditorBad.{EditorBad}
use Rattle.ep_editor.specs.declared.bad.EditorBad.TheVariants as bad
use Rattle.ep_editor.specs.declared.editor.Editor.{Editor}
use Rattle.ep_editor.specs.declared.editor.Wanted.{Wanted}
use Rattle.ep_editor.specs.declared.entered.Entered.{Entered}
use Rattle.ep_editor.specs.declared.kept.Kept.{Kept}

-- the session, and the edit
pub sent-same : (o : Option (Session × Change)) (t : Option Session) (sent : Edit) (doc : Doc)
    → option_map {U = Session × Edit} (λ (s : Session × Change). (s.0, s.1.edit)) o ≡ option_map {U = Session × Edit} (λ (s : Session). (s, sent)) t → (t ≡ None → sent ≡ identity (length doc))
    → (t ≡ sent_session o) × (sent ≡ sent_edit doc o)
sent-same None None sent doc e n = (refl, n refl)
sent-same None (Some s) sent doc e n = none_some e
sent-same (Some x) None sent doc e n = none_some (sym e)
sent-same (Some x) (Some s) sent doc e n = (
  sym (ap (option_map (λ (p : Session × Edit). p.0)) e),
  sym (ap (λ (o : Option (Session × Edit)). unwrap_or (option_map (λ (p : Session × Edit). p.1) o) sent) e),
)

same_work : (wanted : Wanted) (k : Kept) (p : Entered) → IsKeptSound (kept_of p) → work_in k ≡ work p → IsSameWork (kept_of p) (kept_of (goes_on wanted k))
same_work wanted k p sound e =
    let doc : (kept_of p).doc ≡ k.doc = sym (ap (λ (w : Work). w.doc) e) in
    let local : (kept_of p).local ≡ k.local.edit = sym (ap (λ (w : Work). w.local) e) in
    let both = sent-same k.sent (kept_of p).sent_in (kept_of p).sent k.doc (ap (λ (w : Work). w.sent) e) (λ n. sound.nothing_sent n ∙ ap (λ (d : Doc). identity (length d)) doc) in
    (sym (ap (λ (w : Work). w.rev) e), doc, both.0, both.1, local, sound.view ∙ (λ i. apply (local i) (apply (both.1 i) (doc i))))

pub kept-goes-on : (wanted : Wanted) (k : Kept) (p : Entered) (s : Editor) → IsKeptSound (kept_of p) → work_in k ≡ work p → kept_fault k ≡ None → is_busy s ≡ false
    → IfInside (answer (EntersAgain wanted k) s).1 (λ q. IsSameWork (kept_of p) (kept_of q))
kept-goes-on wanted k p s sound e fit idle =
    let entered : answer (EntersAgain wanted k) s ≡ again_unless None wanted k s =
    ap (λ t. if t then refuses bad.Turn s else again_unless (kept_fault k) wanted k s) idle ∙ ap (λ o. again_unless o wanted k s) fit in
    subst (λ (a : Reply × Editor). IfInside a.1 (λ q. IsSameWork (kept_of p) (kept_of q))) (sym entered) (same_work wanted k p sound e)

-- what fits isn't refused
pub kept-fits : (doc : Doc) (sent : Option (Session × Change)) (local : Change) → IfSome sent (λ s. Fits s.1 doc) → Fits local (apply (sent_edit doc sent) doc)
    → restore_fault doc sent local ≡ None
kept-fits doc None local f g = ap fit_fault (not_refused local (apply (identity (length doc)) doc) g)
kept-fits doc (Some s) local f g =
    ap (λ o. first_of (fit_fault o) (fit_fault (fit_bad local (apply s.1.edit doc)))) (not_refused s.1 doc f) ∙ ap fit_fault (not_refused local (apply s.1.edit doc) g)

-- who was made wasn't refused
no_error : {A : Type 0} (x : A) (why : ClientBad) → Ok x ≡ Err why → ⊥
no_error x why e = cc

pub made-fits : {A : Type 0} (o : Option ClientBad) (x : A) → Refuses o (Ok x) ⊎ (Ok x ≡ Err client_bad.NoMemory) → o ≡ None
made-fits None x h = refl
made-fits (Some why) x (inl e) = absurd (no_error x why e)
made-fits (Some why) x (inr e) = absurd (no_error x client_bad.NoMemory e)

-- who wasn't is told the cause
same_error : {A : Type 0} (a b : ClientBad) → ◌≡◌ {A = Result A ClientBad} (Err a) (Err b) → a ≡ b
same_error a b e = cc

pub refused-cause : {A B : Type 0} (o : Option ClientBad) (b : ClientBad) (r : Result B EditorBad) → Refuses {A = A} o (Err b) ⊎ (◌≡◌ {A = Result A ClientBad} (Err b) (Err client_bad.NoMemory))
    → IsErrAnd r (λ why. why ≡ bad_of_client b) → IfErr r (λ why. IsBadOf why o)
refused-cause o b (Ok x) h e = absurd e
refused-cause None b (Err why) (inl m) e = e ∙ ap bad_of_client m
refused-cause {A = A} None b (Err why) (inr m) e = e ∙ ap bad_of_client (same_error {A = A} b client_bad.NoMemory m)
refused-cause {A = A} (Some x) b (Err why) (inl m) e = inr (e ∙ ap bad_of_client (same_error {A = A} b x m))
refused-cause {A = A} (Some x) b (Err why) (inr m) e = inl (e ∙ ap bad_of_client (same_error {A = A} b client_bad.NoMemory m))
