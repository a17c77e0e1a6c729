-- The walk over a change whose insertions are signed, from its first run to its last.
use Rattle.std.proofs.Common.{◌≡◌, ℕ, suc, ◌+◌, ◌-◌, ◌<◌, ◌≤◌, ◌^◌, true, List, [], ◌∷◌, ◌++◌, length, take, drop, replicate, refl, sym, ap, ◌∙◌, subst, arith, append_assoc, append-nil, length-drop, length-take-le, drop-drop}
use Rattle.std.proofs.Math.Seq.{drop-append_seam}
use Rattle.ep_units.specs.Text.{Text}
use Rattle.ep_attr.specs.AttrMap.{AttrMap, none}
use Rattle.ep_cs.specs.Doc.{Doc, text_of, painted}
use Rattle.ep_cs.specs.Edit.{Edit, Step, apply, items, edit_of}
use Rattle.ep_cs.specs.Edit.Fate.{Drop, Keep}
use Rattle.ep_cs.specs.Edit.Step.{Pass}
use Rattle.ep_cs.specs.Steps.{passed}
use Rattle.ep_cs.specs.Change.{Change, stamped}
use Rattle.ep_cs.specs.Spelling.{new_len}
use Rattle.ep_cs.specs.Fits.{Fits, AreDocuments, keeps_pairs}
use Rattle.ep_cs.specs.NormalRuns.{IsRun, AreNormal, AreLined, IsNormal}
use Rattle.ep_cs.specs.Runs.{cells, inserted, passed as passed_by, all_passed, run_steps, rest_kept}
use Rattle.ep_cs.specs.Draft.{Draft, blank, drafted, inserted_by, new_length}
use Rattle.ep_cs.specs.declared.op.Kind.{Kind}
use Rattle.ep_cs.specs.declared.op.Kind.TheVariants as kind
use Rattle.ep_cs.specs.declared.op.Op.{Op}
use Rattle.ep_cs.proofs.Composed.{over-settle}
use Rattle.ep_cs.proofs.Drafts.{inserted-append}
use Rattle.ep_cs.proofs.Plain.{length-text_of}
use Rattle.ep_cursor.specs.Left.{Left, left_of, steps_left}
use Rattle.ep_cursor.specs.Made.{text_made, given}
use Rattle.ep_cursor.specs.Said.{source, IsSaid, AreSaid}
use Rattle.ep_cursor.specs.TrueDraft.{IsTrueDraft}
use Rattle.ep_cursor.proofs.Made.{run-append, passed-append, passed_times, passed_new, text_kept, text_new, given-append, given_kept, given_dropped, given_new, length-run}
use Rattle.ep_cursor.proofs.Starts.{edit_left, passed_left, given_left, text_left, said_left}
use Rattle.ep_cursor.proofs.TrueDrafts.{true_keep, true_blank, true_drafted}
use Rattle.ep_sign.specs.Signing.{mark, signing}
use Rattle.ep_sign.specs.Writing.{left, kept_run, keeps}
use Rattle.ep_sign.proofs.Signed.{placed_documents, length_placed, signing_pairs}
use Rattle.ep_sign.proofs.Steps.{keeps-append, keeps_kept, keeps_dropped, keeps_new, passed_keeps, inserted_keeps, signing_steps, some_lined}

-- a change of which these runs are left, and these units of those that it inserts
abbrev pub left_with : Change → List Op → Text → Left
left_with c os bank = record { ops = os; bank = bank; rest = length c.edit.places - all_passed c.runs }

-- what is written is true of a document after the change, of which this text is left before it
pub record IsTold (c : Change) (doc : Doc) (out : Draft) (l : Left) : Type 0 where
  pub rest : Text
  pub many : length rest ≡ passed (steps_left l)
  pub text : drop (passed out.steps) (text_of (apply c.edit doc)) ≡ text_made (steps_left l) rest
  pub said : AreSaid l.ops l.bank rest
  pub trues : IsTrueDraft out (text_of (apply c.edit doc))

-- what is written, and then what signs the rest, signs all of the change
pub record IsSigning (author : Text) (c : Change) (out : Draft) (l : Left) : Type 0 where
  pub old : out.old ≡ new_len c.edit
  pub same : out.steps ++ keeps author (steps_left l) ≡ keeps author (steps_left (left_of c))
  pub normal : AreNormal l.ops l.bank
  pub lined : AreLined l.ops
  pub told : (doc : Doc) → Fits c doc → IsTold c doc out l

pub starts : (author : Text) (c : Change) (n : ℕ) → IsNormal c → n ≡ new_len c.edit → IsSigning author c (blank n) (left_of c)
starts author c n is e = record {
  old = e;
  same = refl;
  normal = is.normal;
  lined = is.lined;
  told = λ doc f. record {
    rest = text_of doc;
    many = length-text_of doc ∙ f.length ∙ sym (passed_left c is);
    text = text_left c is doc;
    said = said_left c is doc f;
    trues = true_blank n (text_of (apply c.edit doc));
  };
}

-- ---- a run

passed_run : (k : Kind) (n : ℕ) (m : AttrMap) (text : Text) → passed (run_steps k n m text) ≡ passed_by k n
passed_run kind.Keep n m text = passed_times n (Keep m)
passed_run kind.Drop n m text = passed_times n Drop
passed_run kind.Insert n m text = passed_new (cells m text)

length_cells : (m : AttrMap) (us : Text) → length (cells m us) ≡ length us
length_cells m [] = refl
length_cells m (u ∷ us) = ap suc (length_cells m us)

given_run : (k : Kind) (n lines : ℕ) (m : AttrMap) (text : Text) → IsRun k n lines m text → given (run_steps k n m text) ≡ left k n
given_run kind.Keep n lines m text is = given_kept n m
given_run kind.Drop n lines m text is = given_dropped n
given_run kind.Insert n lines m text is = given_new (cells m text) ∙ length_cells m text ∙ is.0

old_kept : (author : Text) (k : Kind) (n lines : ℕ) (m : AttrMap) (d : Draft) → (kept_run author k n lines m d).old ≡ d.old
old_kept author kind.Keep n lines m d = refl
old_kept author kind.Drop n lines m d = refl
old_kept author kind.Insert n lines m d = refl

steps_kept : (author : Text) (k : Kind) (n lines : ℕ) (m : AttrMap) (text : Text) (d : Draft) → IsRun k n lines m text → (kept_run author k n lines m d).steps ≡ d.steps ++ keeps author (run_steps k n m text)
steps_kept author kind.Keep n lines m text d is = ap (λ (s : List Step). d.steps ++ s) (sym (keeps_kept author n m))
steps_kept author kind.Drop n lines m text d is = sym (append-nil d.steps) ∙ ap (λ (s : List Step). d.steps ++ s) (sym (keeps_dropped author n))
steps_kept author kind.Insert n lines m text d is =
    ap (λ (s : List Step). d.steps ++ s) (sym (keeps_new author m text ∙ ap (λ (j : ℕ). replicate j (Pass (Keep (mark author m)))) is.0))

-- what is written stays true of the document after the change
true_kept : (author : Text) (k : Kind) (n lines : ℕ) (m : AttrMap) (bank rest b us : Text) (d : Draft) → IsRun k n lines m (take (inserted k n) bank) → IsSaid n lines (source k bank rest)
    → drop (passed d.steps) us ≡ text_made (run_steps k n m (take (inserted k n) bank)) (take (passed_by k n) rest) ++ b → IsTrueDraft d us → IsTrueDraft (kept_run author k n lines m d) us
true_kept author kind.Keep n lines m bank rest b us d is said e t =
    let long : length (take n rest) ≡ n = length-take-le n rest said.0 in
    true_keep d us (take n rest) b n lines none t (record { is = e ∙ ap (λ (v : Text). v ++ b) (text_kept n m (take n rest) long); long = long; some = is; lined = said.1 })
true_kept author kind.Drop n lines m bank rest b us d is said e t = t
true_kept author kind.Insert n lines m bank rest b us d is said e t =
    let text : Text = take n bank in
    let some : 1 ≤ n = omega (arith, some_lined lines text said.1, is.0) in
    true_keep d us text b n lines (mark author m) t (record { is = e ∙ ap (λ (v : Text). v ++ b) (text_new m text (take 0 rest)); long = is.0; some = some; lined = said.1 })

first_steps : (c : Change) (o : Op) (os : List Op) (bank : Text)
    → steps_left (left_with c (o ∷ os) bank) ≡ run_steps o.kind o.units o.attrs (take (inserted o.kind o.units) bank) ++ steps_left (left_with c os (drop (inserted o.kind o.units) bank))
first_steps c o os bank = append_assoc (run_steps o.kind o.units o.attrs (take (inserted o.kind o.units) bank)) _ _

all_given : (author : Text) (c : Change) (out : Draft) (l : Left) → IsNormal c → IsSigning author c out l → passed out.steps + given (steps_left l) ≡ out.old
all_given author c out l n is =
    ap (λ (k : ℕ). passed out.steps + k) (sym (passed_keeps author (steps_left l))) ∙ sym (passed-append out.steps (keeps author (steps_left l))) ∙ ap passed is.same
    ∙ passed_keeps author (steps_left (left_of c)) ∙ given_left c n ∙ sym is.old

-- there is room for it
pub room : (author : Text) (c : Change) (out : Draft) (o : Op) (os : List Op) (bank : Text) → IsNormal c → IsSigning author c out (left_with c (o ∷ os) bank)
    → (passed out.steps + left o.kind o.units ≤ out.old) × (o.lines ≤ o.units)
room author c out o os bank n is =
    let text : Text = take (inserted o.kind o.units) bank in
    let here : List Step = run_steps o.kind o.units o.attrs text in
    let rest : List Step = steps_left (left_with c os (drop (inserted o.kind o.units) bank)) in
    let parts : given (steps_left (left_with c (o ∷ os) bank)) ≡ left o.kind o.units + given rest =
    ap given (first_steps c o os bank) ∙ given-append here rest ∙ ap (λ (k : ℕ). k + given rest) (given_run o.kind o.units o.lines o.attrs text is.normal.0) in
    (omega (arith, all_given author c out (left_with c (o ∷ os) bank) n is, parts), is.lined.0)

told_on : (author : Text) (c : Change) (doc : Doc) (out : Draft) (o : Op) (os : List Op) (bank : Text) → AreNormal (o ∷ os) bank → IsTold c doc out (left_with c (o ∷ os) bank)
    → IsTold c doc (kept_run author o.kind o.units o.lines o.attrs out) (left_with c os (drop (inserted o.kind o.units) bank))
told_on author c doc out o os bank n w = record {
  rest = drop p w.rest;
  many = length-drop p w.rest ∙ (let e : length w.rest - p ≡ passed t = omega (arith, inside) in e);
  text = ap (λ (k : ℕ). drop k us) at ∙ sym (drop-drop (length front) (passed out.steps) us) ∙ ap (drop (length front)) texts ∙ drop-append_seam front (text_made t (drop p w.rest));
  said = w.said.1;
  trues = true_kept author o.kind o.units o.lines o.attrs bank w.rest (text_made t (drop p w.rest)) us out n.0 w.said.0 texts w.trues;
}
  where
    us : Text
    us = text_of (apply c.edit doc)

    p : ℕ
    p = passed_by o.kind o.units

    text : Text
    text = take (inserted o.kind o.units) bank

    r : List Step
    r = run_steps o.kind o.units o.attrs text

    t : List Step
    t = steps_left (left_with c os (drop (inserted o.kind o.units) bank))

    front : Text
    front = text_made r (take p w.rest)

    inside : length w.rest ≡ p + passed t
    inside = w.many ∙ ap passed (first_steps c o os bank) ∙ passed-append r t ∙ ap (λ (k : ℕ). k + passed t) (passed_run o.kind o.units o.attrs text)

    texts : drop (passed out.steps) us ≡ front ++ text_made t (drop p w.rest)
    texts =
        w.text ∙ ap (λ (s : List Step). text_made s w.rest) (first_steps c o os bank) ∙ run-append (λ u m. u) (λ c. c.unit) r t w.rest
        ∙ ap (λ (k : ℕ). text_made r (take k w.rest) ++ text_made t (drop k w.rest)) (passed_run o.kind o.units o.attrs text)

    long : length front ≡ given r
    long = length-run (λ u m. u) (λ c. c.unit) r (take p w.rest) (omega (arith, passed_run o.kind o.units o.attrs text, length-take-le p w.rest (omega (arith, inside))))

    at : passed (kept_run author o.kind o.units o.lines o.attrs out).steps ≡ passed out.steps + length front
    at = ap passed (steps_kept author o.kind o.units o.lines o.attrs text out n.0) ∙ passed-append out.steps (keeps author r)
        ∙ ap (λ (k : ℕ). passed out.steps + k) (passed_keeps author r ∙ sym long)

pub goes_on : (author : Text) (c : Change) (out : Draft) (o : Op) (os : List Op) (bank : Text) → IsSigning author c out (left_with c (o ∷ os) bank)
    → IsSigning author c (kept_run author o.kind o.units o.lines o.attrs out) (left_with c os (drop (inserted o.kind o.units) bank))
goes_on author c out o os bank is = record {
  old = old_kept author o.kind o.units o.lines o.attrs out ∙ is.old;
  same =
      ap (λ (s : List Step). s ++ keeps author t) (steps_kept author o.kind o.units o.lines o.attrs text out is.normal.0) ∙ append_assoc out.steps (keeps author r) (keeps author t)
      ∙ ap (λ (s : List Step). out.steps ++ s) (sym (ap (keeps author) (first_steps c o os bank) ∙ keeps-append author r t)) ∙ is.same;
  normal = is.normal.2;
  lined = is.lined.1;
  told = λ doc f. told_on author c doc out o os bank is.normal (is.told doc f);
}
  where
    text : Text
    text = take (inserted o.kind o.units) bank

    r : List Step
    r = run_steps o.kind o.units o.attrs text

    t : List Step
    t = steps_left (left_with c os (drop (inserted o.kind o.units) bank))

-- ---- the end

pub ended : (author : Text) (c : Change) (out : Draft) (bank : Text) → IsNormal c → IsSigning author c out (left_with c [] bank) → (drafted out).edit ≡ signing author c.edit
ended author c out bank n is =
    let r : ℕ = length c.edit.places - all_passed c.runs in
    let all : passed out.steps + given (rest_kept r) ≡ out.old = all_given author c out (left_with c [] bank) n is in
    let rest : out.old - passed out.steps ≡ r = omega (arith, all, given_kept r none) in
    ap (λ (k : ℕ). edit_of (out.steps ++ rest_kept k)) rest ∙ ap (λ (s : List Step). edit_of (out.steps ++ s)) (sym (keeps_kept author r none)) ∙ ap edit_of is.same
    ∙ sym (signing_steps author (steps_left (left_of c))) ∙ ap (signing author) (sym (edit_left c n))

pub ends_short : (author : Text) (c : Change) (out : Draft) (l : Left) → IsNormal c → IsSigning author c out l → new_length out < 2 ^ 32
ends_short author c out l n is =
    omega (arith, is.old, n.new, sym (inserted-append out.steps (keeps author (steps_left l))) ∙ ap inserted_by is.same ∙ inserted_keeps author (steps_left (left_of c)))

pub ends_whole : (author : Text) (c : Change) (out : Draft) (bank : Text) → IsNormal c → IsSigning author c out (left_with c [] bank) → AreDocuments (drafted out).edit.places (drafted out).edit.last
ends_whole author c out bank n is =
    subst (λ (x : Edit). AreDocuments x.places x.last) (sym (ended author c out bank n is)) (placed_documents author (items c.edit))

length_after : (c : Change) (doc : Doc) → IsNormal c → Fits c doc → length (apply c.edit doc) ≡ new_len c.edit
length_after c doc n f =
    let s = steps_left (left_of c) in
    ap (λ (e : Edit). length (apply e doc)) (edit_left c n) ∙ ap length (over-settle painted (λ c. c) [] s doc) ∙ length-run painted (λ c. c) s doc (omega (arith, passed_left c n, f.length)) ∙ given_left c n

-- the change that was written fits what the change makes
pub written_fits : (author : Text) (c p : Change) (out : Draft) (bank : Text) → IsNormal c → IsSigning author c out (left_with c [] bank) → p ≡ drafted out → (doc : Doc) → Fits c doc → Fits p (apply c.edit doc)
written_fits author c p out bank n is e doc f =
    let us : Text = text_of (apply c.edit doc) in
    let edit : (drafted out).edit ≡ signing author c.edit = ended author c out bank n is in
    let after : length (apply c.edit doc) ≡ new_len c.edit = length_after c doc n f in
    let all : drafted out ≡ stamped (drafted out).edit us = true_drafted out us (is.told doc f).trues (length-text_of (apply c.edit doc) ∙ after ∙ sym is.old) in
    subst (λ (x : Change). Fits x (apply c.edit doc)) (sym e)
    (record {
      length = after ∙ sym (length_placed author (items c.edit)) ∙ sym (ap (λ (x : Edit). length x.places) edit);
      runs = ap (λ (x : Change). x.runs) all;
      pairs = subst (λ (x : Edit). keeps_pairs x.places us ≡ true) (sym edit) (signing_pairs author c.edit doc f.length n.pieces f.pairs);
    })
