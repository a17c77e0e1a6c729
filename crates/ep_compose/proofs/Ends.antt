-- A composition from its start to its end.
use Rattle.std.proofs.Common.{◌≡◌, ℕ, zero, suc, ◌+◌, ◌-◌, ◌<◌, ◌≤◌, ◌^◌, Bool, true, false, MatchBool, true≢false, List, [], ◌∷◌, ◌++◌, length, take, drop, refl, sym, ap, ◌∙◌, subst, arith, length-drop}
use Rattle.ep_attr.specs.AttrMap.{none}
use Rattle.ep_cs.specs.Doc.{Doc, text_of, painted}
use Rattle.ep_cs.specs.Edit.{Edit, Step, Item, apply, apply_items, compose, edit_of, items, numbered, painted_item}
use Rattle.ep_cs.specs.Edit.Fate.{Drop, Keep}
use Rattle.ep_cs.specs.Edit.Step.{Insert, Pass}
use Rattle.ep_cs.specs.Edit.Item.{New}
use Rattle.ep_cs.specs.Steps.{passed, run}
use Rattle.ep_cs.specs.Change.{Change, stamped}
use Rattle.ep_cs.specs.Fits.{Fits, AreDocuments}
use Rattle.ep_cs.specs.NormalRuns.{IsNormal}
use Rattle.ep_cs.specs.Runs.{rest_kept}
use Rattle.ep_cs.specs.Draft.{Draft, blank, drafted, dropped_by, inserted_by, new_length}
use Rattle.ep_cs.proofs.Composed.{over-settle}
use Rattle.ep_cs.proofs.Items.{items_act, same_edit, settle_settled, settled-compose, length-settle, length-compose, length-numbered, items-compose}
use Rattle.ep_cs.proofs.Pairs.{compose_keeps_pairs}
use Rattle.ep_cs.proofs.Plain.{length-text_of}
use Rattle.ep_cursor.specs.Left.{Left, left_of, steps_left}
use Rattle.ep_cursor.specs.Said.{AreSaid}
use Rattle.ep_cursor.specs.Made.{given}
use Rattle.ep_cursor.proofs.Lefts.{rest_left}
use Rattle.ep_cursor.proofs.Made.{run-append, passed-append, passed_times, length-run}
use Rattle.ep_cursor.proofs.Starts.{edit_left, passed_left, given_left, text_left, said_left}
use Rattle.ep_cursor.proofs.TrueDrafts.{true_blank, true_drafted}
use Rattle.ep_compose.specs.Composing.{AreTrueOf, Advances, IsAll, IsComposing}
use Rattle.ep_compose.proofs.Moves.{places_of_rest}
use Rattle.ep_compose.proofs.Pieces.{composed_documents}

-- ---- the start

acts : (c : Change) → IsNormal c → (xs : List Item) → run painted_item New (steps_left (left_of c)) xs ≡ apply_items c.edit xs
acts c n xs = sym (over-settle painted_item New [] (steps_left (left_of c)) xs) ∙ ap (λ (e : Edit). apply_items e xs) (sym (edit_left c n))

length_after : (c : Change) → IsNormal c → (doc : Doc) → length doc ≡ length c.edit.places → length (apply c.edit doc) ≡ given (steps_left (left_of c))
length_after c n doc e =
    let s = steps_left (left_of c) in
    ap (λ (e : Edit). length (apply e doc)) (edit_left c n) ∙ ap length (over-settle painted (λ c. c) [] s doc) ∙ length-run painted (λ c. c) s doc (omega (arith, passed_left c n, e))

true_start : (p q : Change) → IsNormal p → IsNormal q → (doc : Doc) → Fits p doc → Fits q (apply p.edit doc) → AreTrueOf (blank (length p.edit.places)) (left_of p) (left_of q) (text_of doc)
true_start p q np nq doc fp fq = record {
  written = true_blank (length p.edit.places) (text_of doc);
  first = said_left p np doc fp;
  second = subst (AreSaid (left_of q).ops (left_of q).bank) (text_left p np doc) (said_left q nq (apply p.edit doc) fq);
}

pub starts : (p q : Change) → IsNormal p → IsNormal q → (doc : Doc) → Fits p doc → Fits q (apply p.edit doc) → IsComposing p q (blank (length p.edit.places)) (left_of p) (left_of q)
starts p q np nq doc fp fq = record {
  old = refl;
  same = λ xs e. ap (run painted_item New (steps_left (left_of q))) (acts p np xs) ∙ acts q nq (apply_items p.edit xs);
  go = record {
    places = omega (arith, passed_left p np);
    fits = sym (length_after p np doc fp.length) ∙ fq.length ∙ sym (passed_left q nq);
    short = omega (arith, given_left q nq, nq.new);
    text = text_of doc;
    long = length-text_of doc ∙ fp.length;
    trues = true_start p q np nq doc fp fq;
  };
  trues = λ doc fp fq. true_start p q np nq doc fp fq;
}

-- ---- a step

pub goes_on : (p q : Change) (out out' : Draft) (a b a' b' : Left) → IsComposing p q out a b → Advances out a b out' a' b' → IsComposing p q out' a' b'
goes_on p q out out' a b a' b' c h = record {
  old = h.old ∙ c.old;
  same = λ xs e. h.same xs (e ∙ h.old) ∙ c.same xs (e ∙ h.old);
  go = record {
    places = h.places ∙ c.go.places ∙ sym h.old;
    fits = h.fits;
    short = omega (arith, h.made, c.go.short);
    text = c.go.text;
    long = c.go.long ∙ sym h.old;
    trues = h.trues c.go.text c.go.long c.go.trues;
  };
  trues = λ doc fp fq. h.trues (text_of doc) (length-text_of doc ∙ fp.length ∙ sym c.old) (c.trues doc fp fq);
}

-- ---- the end

rest_same : (r : ℕ) (ys : List Item) → length ys ≡ r → run painted_item New (rest_kept r) ys ≡ ys
rest_same zero [] e = refl
rest_same zero (y ∷ ys) e = absurd (omega (arith, e))
rest_same (suc r) [] e = absurd (omega (arith, e))
rest_same (suc r) (y ∷ ys) e = λ i. items_act.nothing y i ∷ rest_same r ys (omega (arith, e)) i

rest_acts : (l : Left) (ys : List Item) → l.ops ≡ [] → length ys ≡ passed (steps_left l) → run painted_item New (steps_left l) ys ≡ ys
rest_acts l ys e long = ap (λ s. run painted_item New s ys) (rest_left l e) ∙ rest_same l.rest ys (long ∙ (places_of_rest l e).0)

-- what is written is the composition
pub ended : (p q : Change) (out : Draft) (a b : Left) → IsComposing p q out a b → a.ops ≡ [] → b.ops ≡ [] → (drafted out).edit ≡ compose p.edit q.edit
ended p q out a b c ea eb =
    same_edit e (compose p.edit q.edit) (settle_settled [] all) (settled-compose p.edit q.edit) (long ∙ c.old ∙ sym (length-compose p.edit q.edit))
    (told ∙ sym (items-compose p.edit q.edit))
  where
    left : ℕ
    left = out.old - passed out.steps

    all : List Step
    all = out.steps ++ rest_kept left

    e : Edit
    e = edit_of all

    within : passed out.steps ≤ out.old
    within = omega (arith, c.go.places)

    long : length e.places ≡ out.old
    long = length-settle [] all ∙ passed-append out.steps (rest_kept left) ∙ omega (arith, passed_times left (Keep none), within)

    xs : List Item
    xs = numbered 0 out.old

    behind : List Item
    behind = drop (passed out.steps) xs

    many : length behind ≡ left
    many = length-drop (passed out.steps) xs ∙ ap (λ (n : ℕ). n - passed out.steps) (length-numbered 0 out.old)

    through : run painted_item New (steps_left b) (run painted_item New (steps_left a) behind) ≡ behind
    through =
        let first = rest_acts a behind ea (omega (arith, many, c.go.places)) in
        ap (run painted_item New (steps_left b)) first ∙ rest_acts b behind eb (omega (arith, many, c.go.places, c.go.fits, (places_of_rest a ea).0, (places_of_rest a ea).1))

    told : items e ≡ apply_items q.edit (items p.edit)
    told =
        ap (λ (n : ℕ). apply_items e (numbered 0 n)) long
        ∙ over-settle painted_item New [] all xs
        ∙ run-append painted_item New out.steps (rest_kept left) xs
        ∙ ap (λ ys. run painted_item New out.steps (take (passed out.steps) xs) ++ ys) (rest_same left behind many ∙ sym through)
        ∙ c.same xs (length-numbered 0 out.old)
        ∙ ap (λ (n : ℕ). apply_items q.edit (apply_items p.edit (numbered 0 n))) c.old

given_length : (s : List Step) → given s + dropped_by s ≡ passed s + inserted_by s
given_length [] = refl
given_length (Insert c ∷ s) = omega (arith, given_length s)
given_length (Pass Drop ∷ s) = omega (arith, given_length s)
given_length (Pass (Keep m) ∷ s) = omega (arith, given_length s)

dropped_within : (s : List Step) → dropped_by s ≤ passed s
dropped_within [] = omega arith
dropped_within (Insert c ∷ s) = dropped_within s
dropped_within (Pass Drop ∷ s) = omega (arith, dropped_within s)
dropped_within (Pass (Keep m) ∷ s) = omega (arith, dropped_within s)

pub ends_short : (p q : Change) (out : Draft) (a b : Left) → IsComposing p q out a b → a.ops ≡ [] → b.ops ≡ [] → new_length out < 2 ^ 32
ends_short p q out a b c ea eb =
    omega (arith, given_length out.steps, dropped_within out.steps, c.go.short, c.go.places, c.go.fits, (places_of_rest a ea).0, (places_of_rest a ea).1, (places_of_rest b eb).0, (places_of_rest b eb).1)

-- its pieces are documents
pub ends_whole : (p q : Change) (out : Draft) (a b : Left) → IsNormal p → IsNormal q → (doc : Doc) → Fits p doc → Fits q (apply p.edit doc) → IsComposing p q out a b → a.ops ≡ [] → b.ops ≡ []
    → AreDocuments (drafted out).edit.places (drafted out).edit.last
ends_whole p q out a b np nq doc fp fq c ea eb =
    subst (λ (e : Edit). AreDocuments e.places e.last) (sym (ended p q out a b c ea eb)) (composed_documents p.edit q.edit doc fp.length fq.length np.pieces nq.pieces fq.pairs)

pub composed : (p q : Change) (out : Draft) (a b : Left) → IsComposing p q out a b → a.ops ≡ [] → b.ops ≡ []
    → (doc : Doc) → Fits p doc → Fits q (apply p.edit doc) → drafted out ≡ stamped (compose p.edit q.edit) (text_of doc)
composed p q out a b c ea eb doc fp fq =
    true_drafted out (text_of doc) (c.trues doc fp fq).written (length-text_of doc ∙ fp.length ∙ sym c.old) ∙ ap (λ (e : Edit). stamped e (text_of doc)) (ended p q out a b c ea eb)

pub composed_fits : (p q c : Change) (doc : Doc) → Fits p doc → Fits q (apply p.edit doc) → c ≡ stamped (compose p.edit q.edit) (text_of doc) → Fits c doc
composed_fits p q c doc fp fq e =
    subst (λ (c : Change). Fits c doc) (sym e)
    (record {
      length = fp.length ∙ sym (length-compose p.edit q.edit);
      runs = refl;
      pairs = compose_keeps_pairs p.edit q.edit doc fp.length fp.pairs fq.pairs;
    })

-- after a step, whether or not it did something
pub all_done : (p q : Change) (out : Draft) (a b : Left) (out' : Draft) (a' b' : Left) (more : Bool) → IsComposing p q out a b
    → MatchBool more (Advances out a b out' a' b') (IsAll out a b out' a' b')
    → IsComposing p q out' a' b' × (more ≡ false → (a'.ops ≡ []) × (b'.ops ≡ []))
all_done p q out a b out' a' b' true c h = (goes_on p q out out' a b a' b' c h, λ e. absurd (true≢false e))
all_done p q out a b out' a' b' false c h = (
  subst (λ (x : Draft × (Left × Left)). IsComposing p q x.0 x.1.0 x.1.1) (λ i. (sym h.out_is i, (sym h.a_is i, sym h.b_is i))) c,
  λ e. (ap (λ (l : Left). l.ops) h.a_is ∙ h.first, ap (λ (l : Left). l.ops) h.b_is ∙ h.second),
)
