-- All of a change: what its steps are, and what its runs say of a document that it fits.
use Rattle.std.proofs.Common.{◌≡◌, ℕ, zero, suc, ◌+◌, ◌-◌, ◌≤◌, List, [], ◌∷◌, length, take, drop, sym, ap, ◌∙◌, subst, arith, length-drop}
use Rattle.ep_units.specs.Text.{Text}
use Rattle.ep_cs.specs.Doc.{Doc, text_of, painted}
use Rattle.ep_cs.specs.Edit.{Edit, Item, apply, apply_items, edit_of, painted_item, numbered}
use Rattle.ep_cs.specs.Edit.Item.{New}
use Rattle.ep_cs.specs.Steps.{passed as steps_passed}
use Rattle.ep_cs.specs.Change.{Change, bank_of}
use Rattle.ep_cs.specs.Spelling.{new_len}
use Rattle.ep_cs.specs.Fits.{Fits}
use Rattle.ep_cs.specs.NormalRuns.{IsRun, AreNormal, IsTrueRun, AreTrue, IsNormal}
use Rattle.ep_cs.specs.Runs.{inserted, passed, all_passed}
use Rattle.ep_cs.specs.declared.op.Kind.{Kind}
use Rattle.ep_cs.specs.declared.op.Kind.TheVariants as kind
use Rattle.ep_cs.specs.declared.op.Op.{Op}
use Rattle.ep_cs.proofs.Composed.{over-settle}
use Rattle.ep_cs.proofs.Items.{length-numbered}
use Rattle.ep_cs.proofs.Plain.{length-text_of}
use Rattle.ep_cs.proofs.RunBank.{passed_all}
use Rattle.ep_cs.proofs.TrueRuns.{stamped_true}
use Rattle.ep_cursor.specs.Left.{left_of, steps_left}
use Rattle.ep_cursor.specs.Made.{text_made, given}
use Rattle.ep_cursor.specs.Said.{source, IsSaid, AreSaid}
use Rattle.ep_cursor.proofs.Made.{text_run, length-run}

pub edit_left : (c : Change) → IsNormal c → c.edit ≡ edit_of (steps_left (left_of c))
edit_left c n = ap (λ (x : Change). x.edit) n.is

pub passed_left : (c : Change) → IsNormal c → steps_passed (steps_left (left_of c)) ≡ length c.edit.places
passed_left c n = passed_all c.runs (bank_of c.edit) (length c.edit.places - all_passed c.runs) ∙ omega (arith, n.inside)

pub given_left : (c : Change) → IsNormal c → given (steps_left (left_of c)) ≡ new_len c.edit
given_left c n =
    let s = steps_left (left_of c) in
    let places = length c.edit.places in
    let is : List Item = numbered 0 places in
    sym (length-run painted_item New s is (omega (arith, passed_left c n, length-numbered 0 places)))
    ∙ ap length (sym (over-settle painted_item New [] s is))
    ∙ ap (λ (e : Edit). length (apply_items e is)) (sym (edit_left c n))

-- the text of a document after the change
pub text_left : (c : Change) → IsNormal c → (doc : Doc) → text_of (apply c.edit doc) ≡ text_made (steps_left (left_of c)) (text_of doc)
text_left c n doc =
    let s = steps_left (left_of c) in
    ap (λ (e : Edit). text_of (apply e doc)) (edit_left c n) ∙ ap text_of (over-settle painted (λ c. c) [] s doc) ∙ text_run s doc

at_least : (n : ℕ) (us : Text) → length (take n us) ≡ n → n ≤ length us
at_least zero us e = omega arith
at_least (suc n) [] e = absurd (omega (arith, e))
at_least (suc n) (u ∷ us) e = omega (arith, at_least n us (omega (arith, e)))

-- runs in normal form that are true of a text say no more than that
pub normal_said : (ops : List Op) (bank us : Text) → AreNormal ops bank → AreTrue ops us → all_passed ops ≤ length us → AreSaid ops bank us
normal_said [] bank us n t h = tt
normal_said (o ∷ os) bank us n t h =
    (go o.kind n.0 t.0 h, normal_said os (drop (inserted o.kind o.units) bank) (drop (passed o.kind o.units) us) n.2 t.1 (omega (arith, h, length-drop (passed o.kind o.units) us)))
  where
    go : (k : Kind) → IsRun k o.units o.lines o.attrs (take (inserted k o.units) bank) → IsTrueRun k o.units o.lines (take (passed k o.units) us) → passed k o.units + all_passed os ≤ length us → IsSaid o.units o.lines (source k bank us)
    go kind.Keep is true h = (omega (arith, h), true.1)
    go kind.Drop is true h = (omega (arith, h), true.1)
    go kind.Insert is true h = (at_least o.units bank is.0, is.1)

-- a change says what is true of a document that it fits
pub said_left : (c : Change) → IsNormal c → (doc : Doc) → Fits c doc → AreSaid (left_of c).ops (left_of c).bank (text_of doc)
said_left c n doc fits =
    let long : length (text_of doc) ≡ length c.edit.places = length-text_of doc ∙ fits.length in
    let trues : AreTrue c.runs (text_of doc) = subst (λ ops. AreTrue ops (text_of doc)) (sym fits.runs) (stamped_true c.edit.places c.edit.last (text_of doc) (omega (arith, long))) in
    normal_said c.runs (bank_of c.edit) (text_of doc) n.normal trues (omega (arith, long, n.inside))
