-- The change that a local edit is.
use Rattle.std.proofs.Common.{◌≡◌, ℕ, ◌+◌, true, [], ◌∷◌, length, None, Result, Ok, Err, sym, ap, ◌∙◌, subst}
use Rattle.std.specs.Prelude.{IfOk}
use Rattle.ep_units.specs.Text.{Text}
use Rattle.ep_attr.specs.AttrMap.{AttrMap, after, none, of_pairs}
use Rattle.ep_attr.proofs.Maps.{after-none}
use Rattle.ep_cs.specs.Change.{Change, stamped}
use Rattle.ep_cs.specs.Doc.{Doc, text_of}
use Rattle.ep_cs.specs.EditFits.{fits}
use Rattle.ep_cs.specs.Fits.{Fits}
use Rattle.ep_cs.specs.NormalRuns.{IsNormal}
use Rattle.ep_cs.specs.Plain.{plain}
use Rattle.ep_cs.specs.Runs.{cells}
use Rattle.ep_cs.specs.Splice.{splice}
use Rattle.ep_cs.proofs.EditFits.{true_fits}
use Rattle.ep_history.specs.Kept.{KeptClient, kept_edited}
use Rattle.ep_history.proofs.Answered.{normal-edit}
use Rattle.ep_history.proofs.Sound.{fit-of}
use Rattle.ep_invert.specs.Paint.{paint}
use Rattle.ep_invert.specs.Refusal.{refusal, splice_bad}
use Rattle.ep_invert.specs.declared.bad.SpliceBad.{SpliceBad}
use Rattle.ep_invert.specs.declared.bad.SpliceBad.TheVariants as bad
use Rattle.ep_event.specs.declared.event.Local.{Local}
use Rattle.ep_event.specs.declared.event.Local.TheVariants as local
use Rattle.ep_local.specs.Local.{local_bad, local_edit}
use Rattle.ep_local.specs.Makes.{EditsView, IsLocal}

-- what a change is made of, or why it isn't made
pub is-local : (e : Local) (doc : Doc) (r : Result Change SpliceBad) → IfOk r (λ c. c ≡ stamped (local_edit e doc) (text_of doc)) → IfOk r (λ c. Fits c doc)
    → refusal r ≡ local_bad e doc → IsLocal e doc r
is-local e doc (Ok c) a f b = (sym b, ap (λ (x : Change). x.edit) a, f)
is-local e doc (Err bad.Place) a f b = sym b
is-local e doc (Err (bad.CutsPair at)) a f b = sym b
is-local e doc (Err bad.NoMemory) a f b = tt

-- a text with the empty map
as-plain : (m : AttrMap) (us : Text) → m ≡ none → cells (after none m) us ≡ plain us
as-plain m us e = ap (λ a. cells (after none a) us) e ∙ ap (λ a. cells a us) (after-none none)

pub is-insertion : (doc : Doc) (at : ℕ) (text : Text) (m : AttrMap) (r : Result Change SpliceBad) → m ≡ none
    → IfOk r (λ c. c ≡ stamped (splice (length doc) at 0 (cells (after none m) text)) (text_of doc)) → IfOk r (λ c. Fits c doc)
    → refusal r ≡ splice_bad (splice (length doc) at 0 (cells (after none m) text)) (at + 0) doc → IsLocal (local.Insert at text) doc r
is-insertion doc at text m r e a f b =
    let p = as-plain m text e in
    is-local (local.Insert at text) doc r (subst (λ x. IfOk r (λ c. c ≡ stamped (splice (length doc) at 0 x) (text_of doc))) p a) f
    (subst (λ x. refusal r ≡ splice_bad (splice (length doc) at 0 x) (at + 0) doc) p b)

pub is-deletion : (doc : Doc) (at units : ℕ) (text : Text) (m : AttrMap) (r : Result Change SpliceBad) → text ≡ []
    → IfOk r (λ c. c ≡ stamped (splice (length doc) at units (cells (after none m) text)) (text_of doc)) → IfOk r (λ c. Fits c doc)
    → refusal r ≡ splice_bad (splice (length doc) at units (cells (after none m) text)) (at + units) doc → IsLocal (local.Delete at units) doc r
is-deletion doc at units text m r e a f b =
    let p : cells (after none m) text ≡ [] = ap (cells (after none m)) e in
    is-local (local.Delete at units) doc r (subst (λ x. IfOk r (λ c. c ≡ stamped (splice (length doc) at units x) (text_of doc))) p a) f
    (subst (λ x. refusal r ≡ splice_bad (splice (length doc) at units x) (at + units) doc) p b)

pub is-format : (doc : Doc) (at units : ℕ) (key value : Text) (m : AttrMap) (r : Result Change SpliceBad) → m ≡ of_pairs ((key, value) ∷ [])
    → IfOk r (λ c. c ≡ stamped (paint (length doc) at units m) (text_of doc)) → IfOk r (λ c. Fits c doc)
    → refusal r ≡ splice_bad (paint (length doc) at units m) (at + units) doc → IsLocal (local.Format at units key value) doc r
is-format doc at units key value m r e a f b =
    is-local (local.Format at units key value) doc r (subst (λ x. IfOk r (λ c. c ≡ stamped (paint (length doc) at units x) (text_of doc))) e a) f
    (subst (λ x. refusal r ≡ splice_bad (paint (length doc) at units x) (at + units) doc) e b)

-- a client makes it
pub edits-local : (e : Local) (old new : KeptClient) (doc : Doc) (c : Change) → doc ≡ old.view → IsLocal e doc (Ok c) → IsNormal c → new ≡ kept_edited c.edit old → EditsView e old new None
edits-local e old new doc c v l n m =
    let q : c.edit ≡ local_edit e old.view = l.1 ∙ ap (local_edit e) v in
    let f : fits c.edit doc ≡ true = true_fits c.edit doc (fit-of c doc l.2 (normal-edit c n)) in
    (subst (λ d. local_bad e d ≡ None) v l.0, subst (λ x. fits x old.view ≡ true) q (subst (λ d. fits c.edit d ≡ true) v f), m ∙ ap (λ x. kept_edited x old) q)
