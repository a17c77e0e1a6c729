-- What is told and recorded of an edit that was taken.
use Rattle.std.proofs.Common.{◌≡◌, Bool, true, false, if◌then◌else◌, [], ◌∷◌, refl, sym, ap, ◌∙◌}
use Rattle.ep_cs.specs.Doc.{Doc, text_of}
use Rattle.ep_cs.specs.Edit.{Edit}
use Rattle.ep_cs.specs.Change.{Change, stamped}
use Rattle.ep_cs.specs.Fits.{is_identity}
use Rattle.ep_history.specs.Accept.{made_at_head}
use Rattle.ep_history.specs.History.{By, head, head_doc, nop_by, step_revs}
use Rattle.ep_history.specs.Pad.{PadState, newest, with_nops, with_revs}
use Rattle.ep_history.specs.Records.{edit_record, rev_record}
use Rattle.ep_history.specs.declared.record.Record.TheVariants as record_of
use Rattle.ep_step.specs.Step.{step_of}
use Rattle.ep_step.specs.Taking.{taken_of}
use Rattle.ep_step.specs.declared.step.Step.{Step}
use Rattle.ep_step.specs.declared.taking.Taken.{Taken}
use Rattle.ep_step.specs.declared.taking.Taken.TheVariants as taken

-- nothing is left of the edit
pub is_nop : (e : Edit) (head : Doc) (c : Change) → taken_of e head ≡ taken.Nop c → (is_identity e ≡ true) × (c ≡ stamped e (text_of head))
is_nop e head c h = go (is_identity e) refl h
  where
    go : (b : Bool) → is_identity e ≡ b → (if b then taken.Nop (stamped e (text_of head)) else taken.Step (step_of e head)) ≡ taken.Nop c → (is_identity e ≡ true) × (c ≡ stamped e (text_of head))
    go true i h = (i, cc)
    go false i h = absurd cc

-- it makes a step
pub is_step : (e : Edit) (head : Doc) (s : Step) → taken_of e head ≡ taken.Step s → (is_identity e ≡ false) × (s ≡ step_of e head)
is_step e head s h = go (is_identity e) refl h
  where
    go : (b : Bool) → is_identity e ≡ b → (if b then taken.Nop (stamped e (text_of head)) else taken.Step (step_of e head)) ≡ taken.Step s → (is_identity e ≡ false) × (s ≡ step_of e head)
    go true i h = absurd cc
    go false i h = (i, cc)

pub nop-taken : (e : Edit) (head : Doc) → is_identity e ≡ true → taken_of e head ≡ taken.Nop (stamped e (text_of head))
nop-taken e head i = ap (λ b. if b then taken.Nop (stamped e (text_of head)) else taken.Step (step_of e head)) i

pub step-taken : (e : Edit) (head : Doc) → is_identity e ≡ false → taken_of e head ≡ taken.Step (step_of e head)
step-taken e head i = ap (λ b. if b then taken.Nop (stamped e (text_of head)) else taken.Step (step_of e head)) i

-- ---- the pad and its record then

pub committed-nop : (pad : PadState) (by : By) (e : Edit) (c : Change) → taken_of e (head_doc (newest pad)) ≡ taken.Nop c
    → (made_at_head pad by e ≡ with_nops pad (nop_by by (head (newest pad)) ∷ [])) × (edit_record pad by e ≡ record_of.Nop by.session by.time)
committed-nop pad by e c h =
    let i = (is_nop e (head_doc (newest pad)) c h).0 in (
      ap (λ b. if b then with_nops pad (nop_by by (head (newest pad)) ∷ []) else with_revs pad (step_revs by e (head_doc (newest pad)))) i,
      ap (λ b. if b then record_of.Nop by.session by.time else rev_record pad by e) i,
    )

pub committed-step : (pad : PadState) (by : By) (e : Edit) (s : Step) → taken_of e (head_doc (newest pad)) ≡ taken.Step s
    → (made_at_head pad by e ≡ with_revs pad (step_revs by e (head_doc (newest pad)))) × (edit_record pad by e ≡ rev_record pad by e) × (s ≡ step_of e (head_doc (newest pad)))
committed-step pad by e s h =
    let i = is_step e (head_doc (newest pad)) s h in (
      ap (λ b. if b then with_nops pad (nop_by by (head (newest pad)) ∷ []) else with_revs pad (step_revs by e (head_doc (newest pad)))) i.0,
      ap (λ b. if b then record_of.Nop by.session by.time else rev_record pad by e) i.0,
      i.1,
    )
