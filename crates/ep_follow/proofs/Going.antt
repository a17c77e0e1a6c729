-- A follower stays under way.
use Rattle.std.proofs.Common.{◌≡◌, ℕ, zero, suc, ◌+◌, ◌<◌, ◌≤◌, ◌^◌, List, [], ◌∷◌, ◌++◌, length, take, drop, replicate, refl, sym, ap, ◌∙◌, subst, arith, length-take-le, length-drop, drop-drop}
use Rattle.std.proofs.Math.Seq.{drop-append_seam}
use Rattle.std.proofs.lemmas.List.{length-map}
use Rattle.ep_units.specs.Text.{Text}
use Rattle.ep_attr.specs.AttrMap.{none, after}
use Rattle.ep_cs.specs.Doc.{Cell}
use Rattle.ep_cs.specs.Edit.{Step, inserts}
use Rattle.ep_cs.specs.Edit.Fate.{Keep}
use Rattle.ep_cs.specs.Edit.Step.{Pass}
use Rattle.ep_cs.specs.Steps.{passed}
use Rattle.ep_cs.specs.Draft.{Draft, keeping, inserting, inserted_by}
use Rattle.ep_cs.specs.Runs.{cells, inserted, rest_kept}
use Rattle.ep_cs.specs.Change.{newlines}
use Rattle.ep_cs.specs.NormalRuns.{IsLined}
use Rattle.ep_cs.specs.Written.{AreWritten}
use Rattle.ep_cs.specs.Follow.{passes}
use Rattle.ep_cs.specs.declared.op.Kind.TheVariants as kind
use Rattle.ep_cs.specs.declared.op.Op.{Op}
use Rattle.ep_cs.proofs.Drafts.{inserted-append, kept_times, inserted_units}
use Rattle.ep_cursor.specs.declared.cursor.Head.{Head}
use Rattle.ep_cursor.specs.Heads.{IsHead}
use Rattle.ep_cursor.specs.Left.{Left, steps_left, advanced}
use Rattle.ep_cursor.specs.Made.{text_made, given}
use Rattle.ep_cursor.specs.Said.{IsSaid, AreSaid}
use Rattle.ep_cursor.specs.TrueDraft.{IsTrueDraft}
use Rattle.ep_cursor.proofs.Made.{run-append, passed-append, passed_times, passed_new, text_new, given-append, given_new, length-run}
use Rattle.ep_cursor.proofs.Lined.{lined_within}
use Rattle.ep_cursor.proofs.Advances.{IsTaken, taken_steps, taken_said, taken_bank, as_kind, head_first}
use Rattle.ep_cursor.proofs.TrueDrafts.{GoesOn, true_keep, true_insert}
use Rattle.ep_follow.specs.Following.{UnderWay}
use Rattle.ep_follow.proofs.Steps.{passes_are}

-- what is made of the text that is left, as the part that s makes and the rest
pub made_on : (made : Text) (out : Draft) (a b a' : Left) (s : List Step) → (u : UnderWay made out a b) → steps_left a ≡ s ++ steps_left a'
    → drop (passed out.steps) made ≡ text_made s (take (passed s) u.text) ++ text_made (steps_left a') (drop (passed s) u.text)
made_on made out a b a' s u e = u.here ∙ ap (λ steps. text_made steps u.text) e ∙ run-append (λ u m. u) (λ c. c.unit) s (steps_left a') u.text

-- s of the first change and t of the second are taken
pub go_on : (made : Text) (out out' : Draft) (a b a' b' : Left) (s t : List Step) (u : UnderWay made out a b)
    → steps_left a ≡ s ++ steps_left a' → steps_left b ≡ t ++ steps_left b' → passed s ≡ passed t
    → out'.old ≡ out.old → passed out'.steps ≡ passed out.steps + given s
    → inserted_by out'.steps + length b'.bank ≡ inserted_by out.steps + length b.bank
    → IsTrueDraft out' made
    → AreSaid a'.ops a'.bank (drop (passed s) u.text) → AreSaid b'.ops b'.bank (drop (passed s) u.text)
    → UnderWay made out' a' b'
go_on made out out' a b a' b' s t u ea eb level old places short written first second =
    let pa : passed (steps_left a) ≡ passed s + passed (steps_left a') = ap passed ea ∙ passed-append s (steps_left a') in
    let pb : passed (steps_left b) ≡ passed t + passed (steps_left b') = ap passed eb ∙ passed-append t (steps_left b') in
    let ga : given (steps_left a) ≡ given s + given (steps_left a') = ap given ea ∙ given-append s (steps_left a') in
    let within : passed s ≤ length u.text = omega (arith, u.all, pa) in
    let front : Text = text_made s (take (passed s) u.text) in
    let later : Text = text_made (steps_left a') (drop (passed s) u.text) in
    let long : length front ≡ given s = length-run (λ u m. u) (λ c. c.unit) s (take (passed s) u.text) (omega (arith, length-take-le (passed s) u.text within)) in
    record {
      level = omega (arith, u.level, pa, pb, level);
      places = omega (arith, u.places, ga, places, old);
      long = u.long ∙ sym old;
      short = omega (arith, u.short, short, old);
      written = written;
      text = drop (passed s) u.text;
      all = omega (arith, u.all, pa, length-drop (passed s) u.text);
      first = first;
      second = second;
      here =
          ap (λ (n : ℕ). drop n made) places ∙ sym (drop-drop (given s) (passed out.steps) made)
          ∙ ap (drop (given s)) (made_on made out a b a' s u ea)
          ∙ ap (λ (n : ℕ). drop n (front ++ later)) (sym long) ∙ drop-append_seam front later;
    }

said_first : (ops : List Op) (o : Op) (os : List Op) (bank us : Text) → ops ≡ o ∷ os → AreSaid ops bank us → AreSaid (o ∷ os) bank us
said_first ops o os bank us e h = subst (λ ops. AreSaid ops bank us) e h

pub some_units : (n lines : ℕ) (us : Text) → n ≤ length us → IsLined lines (newlines (take n us)) → 1 ≤ n
some_units zero lines us h is = absurd is
some_units (suc n) lines us h is = omega arith

-- ---- a run that a change inserts

-- a head that inserts, of which all is taken
pub record IsInsert (h : Head) (l l' : Left) : Type 0 where
  pub head : IsHead h l
  pub kind : h.kind ≡ kind.Insert
  pub is : l' ≡ advanced h.units h.lines l

insert_taken : (h : Head) (l l' : Left) → IsInsert h l l' → IsTaken l l' (as_kind kind.Insert h) h.units h.lines
insert_taken h l l' i = record { first = head_first kind.Insert h l i.head i.kind; is = i.is; within = omega arith }

insert_said : (h : Head) (l : Left) (us : Text) → IsHead h l → h.kind ≡ kind.Insert → AreSaid l.ops l.bank us → IsSaid h.units h.lines l.bank
insert_said h l us head e said = (said_first l.ops (as_kind kind.Insert h) (drop 1 l.ops) l.bank us (head_first kind.Insert h l head e) said).0

pub insert_units : (h : Head) (l : Left) (us : Text) → IsHead h l → h.kind ≡ kind.Insert → AreSaid l.ops l.bank us → 1 ≤ h.units
insert_units h l us head e said = let is = insert_said h l us head e said in some_units h.units h.lines l.bank is.0 is.1

pub insert_lines : (h : Head) (l : Left) (us : Text) → IsHead h l → h.kind ≡ kind.Insert → AreSaid l.ops l.bank us → h.lines ≤ h.units
insert_lines h l us head e said =
    let is = insert_said h l us head e said in
    omega (arith, lined_within h.lines (take h.units l.bank) is.1, length-take-le h.units l.bank is.0)

pub insert_text : (h : Head) (l : Left) → IsHead h l → h.kind ≡ kind.Insert → h.text.now ≡ take h.units l.bank
insert_text h l head e = head.text ∙ ap (λ k. take (inserted k h.units) l.bank) e

-- its cells
abbrev pub new_cells : Head → Left → List Cell
new_cells h l = cells h.attrs.now (take h.units l.bank)

pub insert_steps : (h : Head) (l l' : Left) → IsInsert h l l' → steps_left l ≡ inserts (new_cells h l) ++ steps_left l'
insert_steps h l l' i = taken_steps l l' (as_kind kind.Insert h) h.units h.lines (insert_taken h l l' i)

pub insert_length : (h : Head) (l : Left) (us : Text) → IsHead h l → h.kind ≡ kind.Insert → AreSaid l.ops l.bank us → length (new_cells h l) ≡ h.units
insert_length h l us head e said =
    length-map (take h.units l.bank) (λ u. record { unit = u; attrs = h.attrs.now }) ∙ length-take-le h.units l.bank (insert_said h l us head e said).0

pub keep_room : (made : Text) (out : Draft) (a b : Left) (h : Head) → UnderWay made out a b → IsHead h a → h.kind ≡ kind.Insert → passed out.steps + h.units ≤ out.old
keep_room made out a b h u head e =
    let a' : Left = advanced h.units h.lines a in
    let steps = insert_steps h a a' (record { head = head; kind = e; is = refl }) in
    omega (arith, u.places, ap given steps, given-append (inserts (new_cells h a)) (steps_left a'), given_new (new_cells h a), insert_length h a u.text head e u.first)

pub kept_steps : (made : Text) (out : Draft) (a b : Left) (h : Head) (lines : ℕ) → UnderWay made out a b → IsHead h a → h.kind ≡ kind.Insert → (keeping out h.units lines none).steps ≡ out.steps ++ passes (new_cells h a)
kept_steps made out a b h lines u head e = ap (λ s. out.steps ++ s) (sym (passes_are (new_cells h a) ∙ ap rest_kept (insert_length h a u.text head e u.first)))

-- where the first change's run is kept, the text goes on with it
pub keep_stretch : (made : Text) (out : Draft) (a b a' : Left) (h : Head) → IsInsert h a a' → (u : UnderWay made out a b)
    → GoesOn out made (take h.units a.bank) (text_made (steps_left a') (drop (passed (inserts (new_cells h a))) u.text)) h.units h.lines
keep_stretch made out a b a' h i u =
    let x : List Cell = new_cells h a in
    let text : Text = take h.units a.bank in
    let said = insert_said h a u.text i.head i.kind u.first in
    record {
      is = made_on made out a b a' (inserts x) u (insert_steps h a a' i) ∙ ap (λ us. us ++ text_made (steps_left a') (drop (passed (inserts x)) u.text)) (text_new h.attrs.now text (take (passed (inserts x)) u.text));
      long = length-take-le h.units a.bank said.0;
      some = insert_units h a u.text i.head i.kind u.first;
      lined = said.1;
    }

-- the first change's run is kept
pub keep_goes : (made : Text) (out out' : Draft) (a b a' : Left) (h : Head) → IsInsert h a a' → out' ≡ keeping out h.units h.lines none → UnderWay made out a b → UnderWay made out' a' b
keep_goes made out out' a b a' h i o u =
    let x : List Cell = new_cells h a in
    let text : Text = take h.units a.bank in
    let steps = insert_steps h a a' i in
    let none_passed = passed_new x in
    let kept = kept_times h.units none in
    go_on made out out' a b a' b (inserts x) [] u steps refl none_passed
    (ap (λ (d : Draft). d.old) o)
    (omega (arith, ap (λ (d : Draft). passed d.steps) o, passed-append out.steps (replicate h.units (Pass (Keep none))), passed_times h.units (Keep none), given_new x, insert_length h a u.text i.head i.kind u.first))
    (omega (arith, ap (λ (d : Draft). inserted_by d.steps) o, inserted-append out.steps (replicate h.units (Pass (Keep none))), kept.1))
    (subst (λ d. IsTrueDraft d made) (sym o) (true_keep out made text (text_made (steps_left a') (drop (passed (inserts x)) u.text)) h.units h.lines none u.written (keep_stretch made out a b a' h i u)))
    (subst (λ (n : ℕ). AreSaid a'.ops a'.bank (drop n u.text)) (sym none_passed) (taken_said a a' (as_kind kind.Insert h) h.units h.lines u.text (insert_taken h a a' i) (λ g. absurd (omega (arith, g))) u.first))
    (subst (λ (n : ℕ). AreSaid b.ops b.bank (drop n u.text)) (sym none_passed) u.second)

-- the second change's run is inserted
pub insert_goes : (made : Text) (out out' : Draft) (a b b' : Left) (h : Head) → IsInsert h b b' → out' ≡ inserting out h.text.now h.attrs.now → UnderWay made out a b → UnderWay made out' a b'
insert_goes made out out' a b b' h i o u =
    let x : List Cell = new_cells h b in
    let said = insert_said h b u.text i.head i.kind u.second in
    let text = insert_text h b i.head i.kind in
    let new : List Step = inserts (cells (after none h.attrs.now) h.text.now) in
    let counted = inserted_units (after none h.attrs.now) h.text.now in
    go_on made out out' a b a b' [] (inserts x) u refl (insert_steps h b b' i) (sym (passed_new x))
    (ap (λ (d : Draft). d.old) o)
    (omega (arith, ap (λ (d : Draft). passed d.steps) o, passed-append out.steps new, passed_new (cells (after none h.attrs.now) h.text.now)))
    (omega (
      arith,
      ap (λ (d : Draft). inserted_by d.steps) o,
      inserted-append out.steps new,
      counted.1,
      ap length text,
      length-take-le h.units b.bank said.0,
      said.0,
      ap length (taken_bank b b' (as_kind kind.Insert h) h.units h.lines (insert_taken h b b' i)),
      length-drop h.units b.bank,
    ))
    (subst (λ d. IsTrueDraft d made) (sym o) (true_insert out made h.text.now h.attrs.now u.written))
    u.first
    (taken_said b b' (as_kind kind.Insert h) h.units h.lines u.text (insert_taken h b b' i) (λ g. absurd (omega (arith, g))) u.second)

pub insert_room : (made : Text) (out : Draft) (a b : Left) (h : Head) → UnderWay made out a b → IsHead h b → h.kind ≡ kind.Insert → inserted_by out.steps + length h.text.now < 2 ^ 32
insert_room made out a b h u head e =
    let said = insert_said h b u.text head e u.second in
    omega (arith, u.short, ap length (insert_text h b head e), length-take-le h.units b.bank said.0, said.0)

pub inserted_steps : (out : Draft) (h : Head) (l : Left) → IsHead h l → h.kind ≡ kind.Insert → AreWritten l.ops l.bank → (inserting out h.text.now h.attrs.now).steps ≡ out.steps ++ inserts (new_cells h l)
inserted_steps out h l head e w =
    let here : AreWritten (as_kind kind.Insert h ∷ drop 1 l.ops) l.bank = subst (λ ops. AreWritten ops l.bank) (head_first kind.Insert h l head e) w in
    λ i. out.steps ++ inserts (cells (sym here.0.1 i) (insert_text h l head e i))
