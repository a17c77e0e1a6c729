-- Legal lists step by step, and the record of each call.
use Rattle.std.proofs.Common.{◌≡◌, ℕ, zero, suc, ◌==◌, ◌≤◌, Bool, true, false, not, ◌&&◌, if◌then◌else◌, List, [], ◌∷◌, ◌++◌, length, Some, None, refl, sym, ap, ◌∙◌, subst, T, arith}
use Rattle.std.specs.Prelude.{nat_lt, is_some}
use Rattle.std.proofs.lemmas.Bool.Decides.{nat_tests}
use Rattle.ep_units.specs.Text.{Text, is_well_formed}
use Rattle.ep_units.specs.Clean.{clean}
use Rattle.ep_units.proofs.Cleaning.{is_well_formed-clean}
use Rattle.ep_units.specs.declared.session.Session.{Session}
use Rattle.ep_outside.specs.declared.limits.Limits.{Limits}
use Rattle.ep_cs.specs.Doc.{text_of}
use Rattle.ep_cs.specs.Edit.{Edit}
use Rattle.ep_cs.specs.Change.{Change, stamped}
use Rattle.ep_cs.specs.Fits.{is_identity}
use Rattle.ep_cs.specs.EditFits.{is_edit}
use Rattle.ep_cs.specs.Fitting.{fit_bad}
use Rattle.ep_cs.specs.Splice.{splice}
use Rattle.ep_cs.specs.Plain.{plain}
use Rattle.ep_cs.proofs.EditFits.{IsFit, fits_true}
use Rattle.ep_history.specs.History.{By, nop_by, step_revs, by_nobody, head, head_doc, doc_at, rev_by, newline}
use Rattle.ep_history.specs.Pad.{PadState, newest, seat_of, is_live, live_count, create, with_revs, with_nops}
use Rattle.ep_history.specs.Lists.{at, numbered}
use Rattle.ep_history.specs.Refusals.{fault_if}
use Rattle.ep_history.specs.declared.pad_bad.PadBad.{PadBad}
use Rattle.ep_history.specs.declared.pad_bad.PadBad.TheVariants.{NoBase, Exists, Gone}
use Rattle.ep_history.specs.declared.seat.Seat.{Seat}
use Rattle.ep_history.specs.Accept.{refusal, by_session, at_head, made_at_head, committed, edit_faults}
use Rattle.ep_history.specs.Server.{create_fault, create_faults, set_fault, set_faults, set_head, set_text, gone_fault}
use Rattle.ep_history.specs.declared.record.Record.{Record}
use Rattle.ep_history.specs.declared.record.Record.TheVariants as record_of
use Rattle.ep_history.specs.Records.{unopened, IsNext, next_pad, told_from, AreNext, AreLegal, without_sessions, rev_record, edit_record, accept_record, create_record, set_record, IsSoundPad}
use Rattle.ep_history.proofs.Lists.{none_some, some_same}
use Rattle.ep_history.proofs.Texts.{text-fits}
use Rattle.ep_history.proofs.Births.{true-fits, rebase-fits, text-doc}
use Rattle.ep_history.proofs.Refused.{AreNone, none-of, not-if, not-less, no-bad, unrefused, refusal-live}
use Rattle.ep_history.proofs.Cleaned.{clean-clean}
use Rattle.ep_history.proofs.Sound.{good-of, edit-of}

-- ---- lists of records

pub told-more : (pad : PadState) (rs : List Record) (r : Record) → told_from pad (rs ++ r ∷ []) ≡ next_pad (told_from pad rs) r
told-more pad [] r = refl
told-more pad (q ∷ rs) r = told-more (next_pad pad q) rs r

pub next-more : (pad : PadState) (rs : List Record) (r : Record) → AreNext pad rs → IsNext (told_from pad rs) r → AreNext pad (rs ++ r ∷ [])
next-more pad [] r n m = (m, tt)
next-more pad (q ∷ rs) r n m = (n.0, next-more (next_pad pad q) rs r n.1 m)

pub next-less : (pad : PadState) (rs : List Record) (r : Record) → AreNext pad (rs ++ r ∷ []) → AreNext pad rs × IsNext (told_from pad rs) r
next-less pad [] r n = (tt, n.0)
next-less pad (q ∷ rs) r n = let more = next-less (next_pad pad q) rs r n.1 in ((n.0, more.0), more.1)

pub opens : (limits : Limits) (r : Record) (rs : List Record) → AreLegal limits (r ∷ rs) → r ≡ record_of.Open 1
opens limits r rs n = first r n.0
  where
    first : (r : Record) → IsNext (unopened limits) r → r ≡ record_of.Open 1
    first (record_of.Open epoch) n = ap record_of.Open n
    first (record_of.Create birth time text) n = absurd (subst T (sym n.0) tt)
    first (record_of.Rev by time author fixed change) n = absurd (subst T (sym n.0) tt)
    first (record_of.Delete time) n = absurd (subst T (sym n) tt)
    first (record_of.Public on) n = absurd (subst T (sym n) tt)
    first (record_of.Nop by time) n = absurd (subst T (sym n) tt)

pub next-apart : (pad : PadState) (r : Record) → without_sessions (next_pad pad r) ≡ next_pad (without_sessions pad) r
next-apart pad (record_of.Open epoch) = refl
next-apart pad (record_of.Create birth time text) = refl
next-apart pad (record_of.Rev by time author fixed change) = refl
next-apart pad (record_of.Delete time) = refl
next-apart pad (record_of.Public on) = refl
next-apart pad (record_of.Nop by time) = refl

-- ---- live sessions

live-first : (l : Seat) (ls : List Seat) → is_live l ≡ true → 1 ≤ live_count (l ∷ ls)
live-first l ls v = let h : one (is_live l) ≡ one true = ap one v in omega (arith, h)
  where
    one : Bool → ℕ
    one b = if b then 1 else 0

pub at-live : (ls : List Seat) (i : ℕ) (l : Seat) → at ls i ≡ Some l → is_live l ≡ true → 1 ≤ live_count ls
at-live [] i l e v = none_some e
at-live (m ∷ ls) zero l e v = let h : is_live m ≡ true = ap is_live (some_same e) ∙ v in live-first m ls h
at-live (m ∷ ls) (suc i) l e v = let h = at-live ls i l e v in omega (arith, h)

pub live-some : (pad : PadState) (s : Session) (l : Seat) → seat_of pad s ≡ Some l → l.end ≡ None → 1 ≤ live_count pad.sessions
live-some pad s l f d = go (s.epoch == pad.epoch) s.count f
  where
    go : (b : Bool) (k : ℕ) → (if b then numbered pad.sessions k else None) ≡ Some l → 1 ≤ live_count pad.sessions
    go false k f = none_some f
    go true zero f = none_some f
    go true (suc i) f = at-live pad.sessions i l f (ap (λ o. not (is_some o)) d)

-- where a session is live the pad is there
pub live-present : (pad : PadState) (s : Session) (l : Seat) → IsSoundPad pad → seat_of pad s ≡ Some l → l.end ≡ None → pad.present ≡ true
live-present pad s l p f d = go pad.present refl
  where
    go : (b : Bool) → pad.present ≡ b → b ≡ true
    go true e = refl
    go false e = let n = p.absent e in let m = live-some pad s l f d in absurd (omega (arith, n, m))

-- ---- the record of each call

-- what an edit of the head records, and what that tells
rev-recorded : (pad : PadState) (by : By) (e : Edit) → pad.present ≡ true → IsFit e (head_doc (newest pad)) → IsNext pad (rev_record pad by e)
rev-recorded pad by e p f =
    let doc = head_doc (newest pad) in
    (p, true-fits (stamped e (text_of doc)) doc (record { fit = f; told = refl }), edit-of e doc f, refl)

edit-recorded : (pad : PadState) (by : By) (e : Edit) → pad.present ≡ true → IsFit e (head_doc (newest pad))
    → IsNext pad (edit_record pad by e) × (next_pad pad (edit_record pad by e) ≡ made_at_head pad by e)
edit-recorded pad by e p f = go (is_identity e)
  where
    go : (b : Bool) → IsNext pad (if b then record_of.Nop by.session by.time else rev_record pad by e)
        × (next_pad pad (if b then record_of.Nop by.session by.time else rev_record pad by e)
        ≡ (if b then with_nops pad (nop_by by (head (newest pad)) ∷ []) else with_revs pad (step_revs by e (head_doc (newest pad)))))
    go true = (p, refl)
    go false = (rev-recorded pad by e p f, refl)

pub accept-recorded : (pad : PadState) (s : Session) (now base : ℕ) (c : Change) → IsSoundPad pad → refusal pad s base c ≡ None → is_edit c.edit ≡ true
    → IsNext pad (accept_record pad s now base c) × (next_pad pad (accept_record pad s now base c) ≡ committed pad s now base c)
accept-recorded pad s now base c p h is =
    let l = refusal-live pad s base c h in
    let f : AreNone (edit_faults pad l.0 base c) = l.3 in
    let b = newest pad in
    let fit = unrefused c (doc_at b base) (no-bad (fit_bad c (doc_at b base)) f.1.1.1.0) is in
    let there = not-less (head b) base (not-if (nat_lt (head b) base) (NoBase (head b)) f.1.0) in
    edit-recorded pad (by_session pad s now) (at_head pad base c.edit) (live-present pad s l.0 p l.1 l.2)
    (rebase-fits b (good-of b (p.births (length pad.births))) c.edit base fit (head b) there (omega arith))

pub if-there : (b : Bool) (bad : PadBad) → fault_if (not b) bad ≡ None → b ≡ true
if-there true bad e = refl
if-there false bad e = none_some (sym e)

pub gone-present : (pad : PadState) → gone_fault pad ≡ None → pad.present ≡ true
gone-present pad e = if-there pad.present Gone e

pub set-fit : (pad : PadState) (text : Text) → IsSoundPad pad → is_well_formed text ≡ true → IsFit (set_head pad text) (head_doc (newest pad))
set-fit pad text p w =
    let b = newest pad in
    let s = p.births (length pad.births) in
    fits_true (set_head pad text) (head_doc b) (text-fits (clean text) (head_doc b) (is_well_formed-clean text w) (text-doc b (good-of b s) (head b) (omega arith)) s.ends)

pub set-recorded : (pad : PadState) (now : ℕ) (text : Text) → IsSoundPad pad → set_fault pad text ≡ None → is_well_formed text ≡ true
    → IsNext pad (set_record pad now text) × (next_pad pad (set_record pad now text) ≡ set_text pad now text)
set-recorded pad now text p h w =
    let f = none-of (set_faults pad text) h in
    (rev-recorded pad (by_nobody now) (set_head pad text) (if-there pad.present Gone f.0) (set-fit pad text p w), refl)

-- a birth's record, whatever its length
pub birth-recorded : (pad : PadState) (now : ℕ) (text : Text) → 1 ≤ pad.epoch → pad.present ≡ false → is_well_formed text ≡ true
    → IsNext pad (create_record pad now text) × (next_pad pad (create_record pad now text) ≡ create pad now text)
birth-recorded pad now text o a w = ((absent pad.present a, refl, is_well_formed-clean text w, clean-clean text), ap born (clean-clean text))
  where
    absent : (b : Bool) → b ≡ false → (nat_lt 0 pad.epoch && not b) ≡ true
    absent true e = absurd (subst T e tt)
    absent false e = grind (arith, nat_tests)

    -- a birth with this first text
    born : Text → PadState
    born text = record pad {
      births = pad.births ++ record { first = rev_by (by_nobody now) (splice 1 0 0 (plain text)) newline; later = []; nops = [] } ∷ [];
      present = true;
      public = false;
    }

pub create-recorded : (pad : PadState) (now : ℕ) (text : Text) → 1 ≤ pad.epoch → create_fault pad text ≡ None → is_well_formed text ≡ true
    → IsNext pad (create_record pad now text) × (next_pad pad (create_record pad now text) ≡ create pad now text)
create-recorded pad now text o h w =
    let f = none-of (create_faults pad text) h in birth-recorded pad now text o (not-if pad.present Exists f.0) w

-- a record that may come next may do so whatever the sessions are
pub next-without : (pad : PadState) (r : Record) → IsNext pad r → IsNext (without_sessions pad) r
next-without pad (record_of.Open epoch) n = n
next-without pad (record_of.Create birth time text) n = n
next-without pad (record_of.Rev by time author fixed change) n = n
next-without pad (record_of.Delete time) n = n
next-without pad (record_of.Public on) n = n
next-without pad (record_of.Nop by time) n = n
