-- Changes that are made ready.
use Rattle.std.proofs.Common.{◌≡◌, ℕ, suc, ◌+◌, ◌<◌, ◌≤◌, ◌^◌, true, false, Bool, List, [], ◌∷◌, length, Option, Some, None, refl, sym, ap, ◌∙◌, subst, arith}
use Rattle.ep_units.specs.Text.{Text, is_well_formed}
use Rattle.ep_cs.specs.Doc.{Doc}
use Rattle.ep_cs.specs.Edit.{Edit}
use Rattle.ep_cs.specs.Change.{Change}
use Rattle.ep_cs.specs.Fits.{Fits}
use Rattle.ep_cs.specs.EditFits.{is_edit}
use Rattle.ep_history.specs.declared.rev.Rev.{Rev}
use Rattle.ep_history.specs.declared.nop.Nop.{Nop}
use Rattle.ep_history.specs.declared.record.Record.{Record}
use Rattle.ep_history.specs.declared.record.Record.TheVariants as record_of
use Rattle.ep_history.specs.History.{By, made, lacks_newline, first_rev, step_revs}
use Rattle.ep_history.specs.Pad.{PadState, newest, with_revs, with_nops, reopened}
use Rattle.ep_history.specs.Records.{IsSoundPad}
use Rattle.ep_history.proofs.Births.{made-step}
use Rattle.ep_history.proofs.Sound.{create-sound, next-sound}
use Rattle.ep_history.proofs.Texts.{ends-in-newline}
use Rattle.ep_revs.specs.Revisions.{last_doc}
use Rattle.ep_seats.specs.Kept.{KeptSeats, StandsFor, HasNext}
use Rattle.ep_step.specs.declared.revised.NewRev.{NewRev}
use Rattle.ep_step.specs.declared.revised.Revised.{Revised}
use Rattle.ep_step.specs.declared.step.Step.{Step}
use Rattle.ep_step.specs.Revised.{revs_of, newline_revs}
use Rattle.ep_step.specs.Step.{step_of}
use Rattle.ep_pad_state.specs.declared.birth.Birth.{Birth as Kept}
use Rattle.ep_pad_state.specs.declared.change.PadChange.TheVariants as made_by
use Rattle.ep_pad_state.specs.declared.pad.Last.TheVariants.{There}
use Rattle.ep_pad_state.specs.declared.pad.Pad.{Pad}
use Rattle.ep_pad_state.specs.Nops.{HasRoom, StandFor}
use Rattle.ep_pad_state.specs.Held.{IsPad}
use Rattle.ep_pad_state.specs.Making.{author_in, by_author, filled, with_birth, CanGrow, TakesRevs, TakesNop, IsReady}
use Rattle.ep_pad_state.proofs.Pads.{revs-sound, nops-sound, deleted-sound, public-sound, entered-sound}
use Rattle.ep_pad_state.proofs.Keeping.{present-of, birth-of, head-doc-of, head-of}

-- ---- a step's revisions

-- they are two at most
pub two-at-most : (r : Revised) → length (revs_of r) ≤ 2
two-at-most r = go r.newline
  where
    go : (o : Option NewRev) → length (r.edit.rev ∷ newline_revs o) ≤ 2
    go None = omega arith
    go (Some v) = omega arith

-- after them the document ends in a newline
pub step-ends : (r : Revised) (by : By) (e : Edit) (doc : Doc) → revs_of r ≡ step_revs by e doc → lacks_newline (made doc (revs_of r)) ≡ false
step-ends r by e doc h = ap (λ vs. lacks_newline (made doc vs)) h ∙ ap lacks_newline (made-step by e doc) ∙ ends-in-newline e doc

-- a step is the step of its own change
pub own-step : (s : Step) (e : Edit) (doc : Doc) → s ≡ step_of e doc → s ≡ step_of s.edit.change.edit doc
own-step s e doc h = h ∙ ap (λ x. step_of x doc) (sym (ap (λ (t : Step). t.edit.change.edit) h))

-- ---- the author of a step's edit

abbrev by-first : Text → List Rev → List Rev
by-first author [] = []
by-first author (v ∷ vs) = record v { author = author } ∷ vs

-- another author's are those of the same step
pub by-another : (r : Revised) (author : Text) (by : By) (e : Edit) (doc : Doc) → revs_of r ≡ step_revs by e doc
    → revs_of (by_author author r) ≡ step_revs (record { author = author; session = by.session; time = by.time }) e doc
by-another r author by e doc h = ap (by-first author) h

pub grows-by : (k : Kept) (r : Revised) (author : Text) (by : By) (e : Edit) → CanGrow k r → revs_of r ≡ step_revs by e (last_doc k.revs.revs) → CanGrow k (by_author author r)
grows-by k r author by e g h = record {
  follow = record { edit = record { fits = g.follow.edit.fits; doc = g.follow.edit.doc }; newline = g.follow.newline };
  ends = step-ends (by_author author r) (record { author = author; session = by.session; time = by.time }) e (last_doc k.revs.revs) (by-another r author by e (last_doc k.revs.revs) h);
  room = g.room;
}

-- ---- ready

pub ready-revs : (k : Pad) (b : Kept) (r : Revised) (by : By) (c : Change) → k.last ≡ There b → CanGrow b r
    → revs_of r ≡ step_revs by c.edit (last_doc b.revs.revs) → Fits c (last_doc b.revs.revs) → is_edit c.edit ≡ true → IsReady k (made_by.Revisions r)
ready-revs k b r by c l g er f e = record { takes = subst (λ x. TakesRevs x r) (sym l) g; sound = sound }
  where
    sound : (p : PadState) → IsPad k p → IsSoundPad (with_revs p (revs_of r))
    sound p h =
        let d = head-doc-of b (newest p) (birth-of k b p h.keeps l).revs in
        subst (λ vs. IsSoundPad (with_revs p vs)) (sym (er ∙ ap (step_revs by c.edit) d))
        (revs-sound p by c h.sound (present-of k b p h.keeps l) (subst (λ doc. Fits c doc) d f) e)

-- a step whose author its record keeps
pub ready-step : (k : Pad) (b : Kept) (r : Revised) (by : By) (c : Change) (entry : Record) → k.last ≡ There b → CanGrow b r
    → revs_of r ≡ step_revs by c.edit (last_doc b.revs.revs) → Fits c (last_doc b.revs.revs) → is_edit c.edit ≡ true → IsReady k (filled (made_by.Revisions r) entry)
ready-step k b r by c entry l g er f e =
    let author = author_in entry r.edit.rev.author in
    ready-revs k b (by_author author r) (record { author = author; session = by.session; time = by.time }) c l (grows-by b r author by c.edit g er)
    (by-another r author by c.edit (last_doc b.revs.revs) er) f e

pub ready-nop : (k : Pad) (b : Kept) (x : Nop) → k.last ≡ There b → HasRoom x.session b.nops → length b.revs.revs ≡ x.rev + 1 → IsReady k (made_by.Nop x)
ready-nop k b x l room e = record { takes = subst (λ y. TakesNop y x) (sym l) room; sound = sound }
  where
    sound : (p : PadState) → IsPad k p → IsSoundPad (with_nops p (x ∷ []))
    sound p h = nops-sound p x h.sound (present-of k b p h.keeps l) (head-of b (newest p) x.rev (birth-of k b p h.keeps l).revs e)

born-sound : (p : PadState) (vs : List Rev) (now : ℕ) (text : Text) → IsSoundPad p → vs ≡ first_rev now text ∷ [] → is_well_formed text ≡ true → IsSoundPad (with_birth p vs)
born-sound p vs now text s e w = subst (λ us. IsSoundPad (with_birth p us)) (sym e) (create-sound p now text s w)

pub ready-birth : (k : Pad) (c : Kept) (now : ℕ) (text : Text) → k.births + 1 < 2 ^ 64 → StandFor c.nops [] → c.revs.revs ≡ first_rev now text ∷ [] → is_well_formed text ≡ true
    → IsReady k (made_by.Birth c)
ready-birth k c now text n e r w = record { takes = record { count = n; nops = e }; sound = λ p h. born-sound p c.revs.revs now text h.sound r w }

pub ready-first : (k : Pad) (c : Kept) (now : ℕ) (text author : Text) (read_only : Bool) → k.births + 1 < 2 ^ 64 → StandFor c.nops [] → c.revs.revs ≡ first_rev now text ∷ []
    → is_well_formed text ≡ true → 0 < k.seats.room → HasNext k.seats → IsReady k (made_by.FirstLogin c author read_only)
ready-first k c now text author read_only n e r w room next = record {
  takes = (record { count = n; nops = e }, record { room = room; next = next });
  sound = λ p h. entered-sound (with_birth p c.revs.revs) author read_only (born-sound p c.revs.revs now text h.sound r w) refl;
}

pub ready-deletion : (k : Pad) → ((p : PadState) → IsPad k p → p.present ≡ true) → IsReady k made_by.Deletion
ready-deletion k t = record { takes = tt; sound = λ p h. deleted-sound p h.sound (t p h) }

pub ready-public : (k : Pad) (on : Bool) → ((p : PadState) → IsPad k p → p.present ≡ true) → IsReady k (made_by.Public on)
ready-public k on t = record { takes = tt; sound = λ p h. public-sound p on h.sound (t p h) }

pub ready-opening : (k : Pad) (s : KeptSeats) → ((p : PadState) → IsPad k p → StandsFor s (reopened p)) → IsReady k (made_by.Opening s)
ready-opening k s t = record { takes = t; sound = λ p h. next-sound p (record_of.Open (suc p.epoch)) h.sound refl }
