-- A client of a writer: beside what it submitted it has no change of its own, and once that is committed it has none at all.
use Rattle.std.proofs.Common.{◌≡◌, ◌≤◌, ◌+◌, ◌-◌, ℕ, suc, Bool, true, false, not, ◌&&◌, ◌==◌, nat_lt, if◌then◌else◌, [], ◌∷◌, ◌++◌, length, Option, Some, None, refl, sym, ap, ◌∙◌, arith}
use Rattle.std.proofs.lemmas.Bool.Decides.{nat_tests}
use Rattle.ep_units.specs.declared.session.Session.{Session}
use Rattle.ep_attr.specs.AttrMap.{of_pairs}
use Rattle.ep_attr.proofs.SameMap.{second_true}
use Rattle.ep_cs.specs.Doc.{Doc, text_of}
use Rattle.ep_cs.specs.Change.{Change}
use Rattle.ep_cs.specs.Edit.{Edit, IsSettled, apply, compose, identity}
use Rattle.ep_cs.specs.Fits.{is_identity}
use Rattle.ep_cs.specs.Fitting.{cuts, first_cut, first_untrue, fit_bad, untrue_or}
use Rattle.ep_cs.specs.declared.bad.FitBad.TheVariants.{OldLen}
use Rattle.ep_cs.specs.Follow.{follow}
use Rattle.ep_cs.specs.Plain.{plain}
use Rattle.ep_cs.proofs.Composed.{apply-compose}
use Rattle.ep_cs.proofs.Diamond.{diamond}
use Rattle.ep_cs.proofs.EditFits.{follow-identity, length-follow}
use Rattle.ep_cs.proofs.Identity.{apply-identity, only_identity}
use Rattle.ep_cs.proofs.Insertions.{splice_settled}
use Rattle.ep_cs.proofs.Items.{identity-compose, length-identity, settle_settled}
use Rattle.ep_cs.proofs.Splices.{length-splice}
use Rattle.ep_cs.specs.Splice.{kept}
use Rattle.ep_history.proofs.Lists.{none_some}
use Rattle.ep_history.specs.Kept.{KeptClient, is_kept_own, is_kept_spent, kept_dropped, kept_edited, kept_nop, kept_other, kept_own, kept_submitted, kept_submitted_from}
use Rattle.ep_client.specs.declared.bad.ClientBad.{ClientBad}
use Rattle.ep_client.specs.declared.bad.ClientBad.TheVariants as bad
use Rattle.ep_client.specs.Refusals.{first_of, fit_fault, nop_fault, order_fault, rev_fault}
use Rattle.ep_event.specs.declared.event.Local.{Local}
use Rattle.ep_event.specs.declared.event.Local.TheVariants as local
use Rattle.ep_invert.specs.Paint.{paint_steps}
use Rattle.ep_invert.specs.Refusal.{cut_bad, splice_bad}
use Rattle.ep_invert.specs.declared.bad.SpliceBad.TheVariants as splice
use Rattle.ep_invert.proofs.Answered.{length-paint}
use Rattle.ep_local.specs.Local.{local_bad, local_edit}

-- what it sees is the document with its submission, and it has no other change
pub record IsStill (k : KeptClient) : Type 0 where
  pub connected : k.connected ≡ true
  pub long : length k.doc ≡ length k.sent.places
  pub view : k.view ≡ apply k.sent k.doc
  pub local : k.local ≡ identity (length k.view)

-- what it sees is the document, and it has no change
pub record IsIdle (k : KeptClient) : Type 0 where
  pub connected : k.connected ≡ true
  pub nothing : k.sent_in ≡ None
  pub view : k.view ≡ k.doc
  pub local : k.local ≡ identity (length k.view)

-- ---- the edit of a line

inside : (e : Edit) (end : ℕ) (doc : Doc) → splice_bad e end doc ≡ None → end ≤ length doc
inside e end doc h = go (nat_lt (length doc) end) refl h
  where
    go : (t : Bool) → nat_lt (length doc) end ≡ t → (if t then Some splice.Place else cut_bad (first_cut 0 e.places (text_of doc))) ≡ None → end ≤ length doc
    go true is none = none_some (sym none)
    go false is none = grind (arith, nat_tests)

-- it is one of as many units as the document, in order
pub line_long : (e : Local) (doc : Doc) → local_bad e doc ≡ None → length doc ≡ length (local_edit e doc).places
line_long (local.Insert at text) doc h = sym (length-splice (length doc) at 0 (plain text) (inside (local_edit (local.Insert at text) doc) (at + 0) doc h))
line_long (local.Delete at units) doc h = sym (length-splice (length doc) at units [] (inside (local_edit (local.Delete at units) doc) (at + units) doc h))
line_long (local.Format at units key value) doc h = sym (length-paint (length doc) at units (of_pairs ((key, value) ∷ [])) (inside (local_edit (local.Format at units key value) doc) (at + units) doc h))

pub line_settled : (e : Local) (doc : Doc) → IsSettled (local_edit e doc)
line_settled (local.Insert at text) doc = splice_settled (length doc) at 0 (plain text)
line_settled (local.Delete at units) doc = splice_settled (length doc) at units []
line_settled (local.Format at units key value) doc = settle_settled [] (kept at ++ (paint_steps units (of_pairs ((key, value) ∷ [])) ++ kept (length doc - (at + units))))

-- ---- an edit of an idle client

module _ (k : KeptClient) (edit : Edit) (h : IsIdle k) (long : length k.view ≡ length edit.places) (settled : IsSettled edit) where
  -- its local change is the edit
  pub only_edit : compose k.local edit ≡ edit
  only_edit = ap (λ x. compose x edit) (h.local ∙ ap identity long) ∙ identity-compose edit settled

  -- what it submits then, where that alters something
  abbrev pub sent_first : KeptClient
  sent_first = let new = kept_edited edit k in record new { sent = new.local; sent_in = Some new.session; local = identity (length new.view) }

  pub submits_first : kept_submitted (kept_edited edit k) ≡ (if is_identity (compose k.local edit) then None else Some sent_first)
  submits_first = let new = kept_edited edit k in ap (λ t. if t then kept_submitted_from new new.sent_in else None) h.connected ∙ ap (kept_submitted_from new) h.nothing

  -- where it alters nothing the client is as idle as before
  pub idle_on : is_identity (compose k.local edit) ≡ true → IsIdle (kept_edited edit k)
  idle_on e =
      let same : edit ≡ identity (length k.view) = only_identity edit (ap is_identity (sym only_edit) ∙ e) ∙ ap identity (sym long) in
      let seen : apply edit k.view ≡ k.view = ap (λ x. apply x k.view) same ∙ apply-identity k.view in
      record {
        connected = h.connected;
        nothing = h.nothing;
        view = seen ∙ h.view;
        local = only_edit ∙ (same ∙ ap (λ (d : Doc). identity (length d)) (sym seen));
      }

  -- else the edit is its submission, on what it saw
  pub still_first : IsStill sent_first
  still_first = record {
    connected = h.connected;
    long = ap (λ (d : Doc). length d) (sym h.view) ∙ (long ∙ ap (λ (x : Edit). length x.places) (sym only_edit));
    view = (λ i. apply (sym only_edit i) (h.view i));
    local = refl;
  }

-- ---- what a still client hears

-- the two ways to make both
meet : (side : Bool) (a b : Edit) (doc : Doc) → length doc ≡ length a.places → length doc ≡ length b.places
    → apply (follow side a b) (apply a doc) ≡ apply (follow (not side) b a) (apply b doc)
meet side a b doc f g =
    sym (apply-compose a (follow side a b) doc f)
    ∙ (ap (λ e. apply e doc) (diamond side a b (sym f ∙ g))
    ∙ apply-compose b (follow (not side) b a) doc g)

-- its own
pub idle_own : (k : KeptClient) → IsStill k → IsIdle (kept_own k)
idle_own k h = record { connected = h.connected; nothing = refl; view = h.view; local = h.local }

first_is : (x y : Option ClientBad) → first_of x y ≡ None → (x ≡ None) × (y ≡ None)
first_is None y e = (refl, e)
first_is (Some why) y e = none_some (sym e)

if_none : (t : Bool) (why : ClientBad) → (if t then None else Some why) ≡ None → t ≡ true
if_none true why e = refl
if_none false why e = none_some (sym e)

-- that its submission has become nothing
pub idle_nop : (k : KeptClient) (rev : ℕ) → IsStill k → nop_fault rev k ≡ None → IsIdle (kept_nop k)
idle_nop k rev h fault =
    let own = is_kept_own k.session k.sent_in in
    let w = first_is (order_fault k.rev rev) (if own && is_identity k.sent then None else Some bad.NotSubmitted) fault in
    let same = second_true own (is_identity k.sent) (if_none (own && is_identity k.sent) bad.NotSubmitted w.1) in
    record {
      connected = h.connected;
      nothing = refl;
      view = h.view ∙ (ap (λ x. apply x k.doc) (only_identity k.sent same ∙ ap identity (sym h.long)) ∙ apply-identity k.doc);
      local = h.local;
    }

-- another's, which comes before its submission
module _ (k : KeptClient) (e : Edit) (h : IsStill k) (fit : length k.doc ≡ length e.places) where
  -- the other, behind its submission
  abbrev below : Edit
  below = follow false k.sent e

  below_long : length k.view ≡ length below.places
  below_long = ap (λ (d : Doc). length d) h.view ∙ length-follow false k.sent e k.doc h.long fit

  -- it sees the other behind its submission
  seen : apply (follow true k.local below) k.view ≡ apply below k.view
  seen =
      ap (λ x. apply (follow true x below) k.view) h.local
      ∙ (ap (apply (follow true (identity (length k.view)) below)) (sym (apply-identity k.view))
      ∙ (meet true (identity (length k.view)) below k.view (sym (length-identity (length k.view))) below_long
      ∙ (ap (λ x. apply x (apply below k.view)) (follow-identity false below k.view below_long) ∙ apply-identity (apply below k.view))))

  pub still_other : IsStill (kept_other e k)
  still_other = record {
    connected = h.connected;
    long = length-follow true e k.sent k.doc fit h.long;
    view = seen ∙ (ap (apply below) h.view ∙ sym (meet true e k.sent k.doc fit h.long));
    local = ap (follow false below) h.local ∙ (follow-identity false below k.view below_long ∙ ap (λ (d : Doc). identity (length d)) (sym seen));
  }

pub still_dropped : (k : KeptClient) → IsStill k → IsStill (kept_dropped k)
still_dropped k h = go (is_kept_spent k)
  where
    go : (t : Bool) → IsStill (if t then kept_nop k else k)
    go true = record { connected = h.connected; long = h.long; view = h.view; local = h.local }
    go false = h

same_number : (a b : ℕ) → (a == b) ≡ true → a ≡ b
same_number a b e = grind (arith, nat_tests)

fit_long : (c : Change) (doc : Doc) → fit_fault (fit_bad c doc) ≡ None → length doc ≡ length c.edit.places
fit_long c doc h = go (length doc == length c.edit.places) refl h
  where
    go : (t : Bool) → (length doc == length c.edit.places) ≡ t
        → fit_fault (if t then untrue_or (first_untrue 0 c.runs (text_of doc)) (cuts (first_cut 0 c.edit.places (text_of doc))) else Some (OldLen (length doc) (length c.edit.places))) ≡ None
        → length doc ≡ length c.edit.places
    go true is none = same_number (length doc) (length c.edit.places) is
    go false is none = none_some (sym none)

-- a revision of another that isn't refused is of the document
pub rev_long : (rev : ℕ) (change : Change) (s : Session) (k : KeptClient) → is_kept_own s k.sent_in ≡ false → rev_fault rev change s k ≡ None → length k.doc ≡ length change.edit.places
rev_long rev change s k own fault =
    let w = first_is (order_fault (suc k.rev) rev) (if is_kept_own s k.sent_in then None else fit_fault (fit_bad change k.doc)) fault in
    fit_long change k.doc (sym (ap (λ t. if t then None else fit_fault (fit_bad change k.doc)) own) ∙ w.1)
