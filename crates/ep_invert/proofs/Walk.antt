-- The walk over a change that is undone, from its start to its end.
use Rattle.std.proofs.Common.{◌≡◌, ℕ, suc, ◌+◌, ◌-◌, ◌<◌, ◌≤◌, ◌^◌, false, cond, nat_lt, List, [], ◌∷◌, ◌++◌, length, take, drop, replicate, refl, sym, ap, ap₂, ◌∙◌, subst, arith, append_assoc, append-nil, length-drop, length-take-le, drop-drop}
use Rattle.std.proofs.Math.Seq.{drop-append_seam}
use Rattle.std.proofs.lemmas.List.{take-map, drop-map}
use Rattle.std.proofs.lemmas.Bool.Decides.{nat_tests}
use Rattle.ep_units.specs.Text.{Text}
use Rattle.ep_attr.specs.AttrMap.{AttrMap, none}
use Rattle.ep_cs.specs.Doc.{Cell, Doc, text_of, painted}
use Rattle.ep_cs.specs.Edit.{Edit, Step, apply, inserts, edit_of}
use Rattle.ep_cs.specs.Edit.Fate.{Drop, Keep}
use Rattle.ep_cs.specs.Edit.Step.{Insert, Pass}
use Rattle.ep_cs.specs.Steps.{passed}
use Rattle.ep_cs.specs.Splice.{dropped}
use Rattle.ep_cs.specs.Change.{Change, stamped, newlines}
use Rattle.ep_cs.specs.Spelling.{new_len}
use Rattle.ep_cs.specs.Fits.{Fits, AreDocuments}
use Rattle.ep_cs.specs.NormalRuns.{IsNormal, IsLined}
use Rattle.ep_cs.specs.Runs.{cells, inserted, passed as passed_by, run_steps, rest_kept}
use Rattle.ep_cs.specs.Written.{IsWritten, AreWritten}
use Rattle.ep_cs.specs.Draft.{Draft, blank, drafted, dropped_by, inserted_by, new_length}
use Rattle.ep_cs.specs.declared.op.Kind.{Kind}
use Rattle.ep_cs.specs.declared.op.Kind.TheVariants as kind
use Rattle.ep_cs.proofs.Composed.{over-settle}
use Rattle.ep_cs.proofs.Drafts.{passed_are}
use Rattle.ep_cs.proofs.Plain.{length-text_of}
use Rattle.ep_apply.specs.Documents.{HasNoEmpty, IsDocument}
use Rattle.ep_blocks.proofs.Pieces.{length_cells}
use Rattle.ep_cursor.specs.declared.cursor.Head.{Head}
use Rattle.ep_cursor.specs.Heads.{op_of, IsHead}
use Rattle.ep_cursor.specs.Left.{Left, left_of, steps_left, advanced, first_units, first_lines, cut, without}
use Rattle.ep_cursor.specs.Made.{text_made, given}
use Rattle.ep_cursor.specs.Said.{source, IsSaid, AreSaid}
use Rattle.ep_cursor.specs.TrueDraft.{IsTrueDraft}
use Rattle.ep_cs.proofs.Documents.{pieces_of}
use Rattle.ep_cursor.proofs.Lefts.{left_cut, left_said, first_said, first_written, rest_left}
use Rattle.ep_cursor.proofs.Made.{run-append, passed-append, passed_times, passed_new, text_kept, text_dropped, text_new, given-append, given_kept, length-run, inserted_within}
use Rattle.ep_cursor.proofs.Starts.{edit_left, passed_left, given_left, text_left, said_left}
use Rattle.ep_cursor.proofs.TrueDrafts.{true_blank, true_drafted}
use Rattle.ep_invert.specs.Inverse.{undoing, inverse}
use Rattle.ep_invert.specs.Undoing.{undone, left_by, CanUndo}
use Rattle.ep_invert.specs.Writing.{GoesOn}
use Rattle.ep_invert.proofs.Undone.{inverse_steps, undoing-append, undoing_inserts, undoing_kept, undoing_dropped, undoing_rest, given_undoing, inverse_undoes, length-inverse}
use Rattle.ep_invert.proofs.Whole.{inverse_pieces, inverse_pairs}
use Rattle.ep_invert.proofs.Pieces.{passed_restored, maps_dropped}

-- what is written, and then what undoes the rest, undoes all of the change
pub record IsInverting (c : Change) (doc : Doc) (out : Draft) (l : Left) (rest : List Cell) : Type 0 where
  pub old : out.old ≡ length (apply c.edit doc)
  pub same : out.steps ++ undoing (steps_left l) rest ≡ undoing (steps_left (left_of c)) doc
  pub many : length rest ≡ passed (steps_left l)
  pub text : drop (passed out.steps) (text_of (apply c.edit doc)) ≡ text_made (steps_left l) (text_of rest)
  pub said : AreSaid l.ops l.bank (text_of rest)
  pub trues : IsTrueDraft out (text_of (apply c.edit doc))
  pub maps : HasNoEmpty rest

-- a change and a document that it fits
pub record IsAsked (c : Change) (doc : Doc) : Type 0 where
  pub normal : IsNormal c
  pub fits : Fits c doc
  pub document : IsDocument doc

length_after : (c : Change) (doc : Doc) → IsAsked c doc → length (apply c.edit doc) ≡ given (steps_left (left_of c))
length_after c doc a =
    let s = steps_left (left_of c) in
    ap (λ (e : Edit). length (apply e doc)) (edit_left c a.normal) ∙ ap length (over-settle painted (λ c. c) [] s doc) ∙ length-run painted (λ c. c) s doc (omega (arith, passed_left c a.normal, a.fits.length))

pub starts : (c : Change) (doc : Doc) (out : Draft) (l : Left) (rest : List Cell) (n : ℕ) → IsAsked c doc → out ≡ blank n → n ≡ new_len c.edit → l ≡ left_of c → rest ≡ doc → IsInverting c doc out l rest
starts c doc out l rest n a o k e r =
    subst (λ (x : Draft × (Left × List Cell)). IsInverting c doc x.0 x.1.0 x.1.1) (λ i. (sym o i, (sym e i, sym r i)))
    (record {
      old = k ∙ sym (given_left c a.normal) ∙ sym (length_after c doc a);
      same = refl;
      many = a.fits.length ∙ sym (passed_left c a.normal);
      text = text_left c a.normal doc;
      said = said_left c a.normal doc a.fits;
      trues = true_blank n (text_of (apply c.edit doc));
      maps = a.document.values;
    })

-- ---- a run

passed_run : (k : Kind) (n : ℕ) (m : AttrMap) (text : Text) → passed (run_steps k n m text) ≡ passed_by k n
passed_run kind.Keep n m text = passed_times n (Keep m)
passed_run kind.Drop n m text = passed_times n Drop
passed_run kind.Insert n m text = passed_new (cells m text)

run_undone : (k : Kind) (n : ℕ) (m : AttrMap) (text : Text) (cs : List Cell) → length cs ≡ passed_by k n → (k ≡ kind.Insert → length text ≡ n) → undoing (run_steps k n m text) cs ≡ undone k n m cs
run_undone kind.Keep n m text cs e h = ap (λ (j : ℕ). undoing (replicate j (Pass (Keep m))) cs) (sym e) ∙ undoing_kept m cs
run_undone kind.Drop n m text cs e h = ap (λ (j : ℕ). undoing (replicate j (Pass Drop)) cs) (sym e) ∙ undoing_dropped cs
run_undone kind.Insert n m text [] e h =
    ap (λ (s : List Step). undoing s []) (sym (append-nil (inserts (cells m text)))) ∙ undoing_inserts (cells m text) [] [] ∙ append-nil (dropped (length (cells m text))) ∙ ap (λ (j : ℕ). dropped j) (length_cells m text ∙ h refl)
run_undone kind.Insert n m text (c ∷ cs) e h = absurd (omega (arith, e))

run_leaves : (k : Kind) (n : ℕ) (m : AttrMap) (text : Text) (cs : List Cell) → length cs ≡ passed_by k n → text_made (run_steps k n m text) (text_of cs) ≡ left_by k text cs
run_leaves kind.Keep n m text cs e = text_kept n m (text_of cs) (length-text_of cs ∙ e)
run_leaves kind.Drop n m text cs e = text_dropped n (text_of cs)
run_leaves kind.Insert n m text cs e = text_new m text (text_of cs)

passed_undone : (k : Kind) (n : ℕ) (m : AttrMap) (text : Text) (cs : List Cell) → (k ≡ kind.Insert → length text ≡ n) → passed (undone k n m cs) ≡ length (left_by k text cs)
passed_undone kind.Keep n m text cs h = passed_restored m cs ∙ sym (length-text_of cs)
passed_undone kind.Drop n m text cs h = passed_new cs
passed_undone kind.Insert n m text cs h = passed_times n Drop ∙ sym (h refl)

-- the first run of what is left
pub record IsFirst (h : Head) (l : Left) : Type 0 where
  pub head : IsHead h l
  pub written : AreWritten l.ops l.bank

first_text : (h : Head) (l : Left) → IsFirst h l → h.kind ≡ kind.Insert → length h.text.now ≡ h.units
first_text h l f e = go h.kind e (subst (λ us. IsWritten h.kind h.units h.attrs.now us) (sym f.head.text) (first_written l (op_of h) (drop 1 l.ops) f.head.first f.written))
  where
    go : (k : Kind) → k ≡ kind.Insert → IsWritten k h.units h.attrs.now h.text.now → length h.text.now ≡ h.units
    go kind.Keep e w = absurd cc
    go kind.Drop e w = absurd cc
    go kind.Insert e w = w.0

first_steps : (h : Head) (l : Left) → IsFirst h l → steps_left l ≡ run_steps h.kind h.units h.attrs.now h.text.now ++ steps_left (advanced h.units h.lines l)
first_steps h l f =
    left_cut l (op_of h) (drop 1 l.ops) h.units h.lines f.head.first (omega arith)
    ∙ ap (λ (us : Text). run_steps h.kind h.units h.attrs.now us ++ steps_left (advanced h.units h.lines l)) (sym f.head.text)

-- how much the run passes is there
first_inside : (h : Head) (l : Left) (rest : List Cell) → IsFirst h l → length rest ≡ passed (steps_left l) → length rest ≡ passed_by h.kind h.units + passed (steps_left (advanced h.units h.lines l))
first_inside h l rest f n =
    n ∙ ap passed (first_steps h l f) ∙ passed-append (run_steps h.kind h.units h.attrs.now h.text.now) (steps_left (advanced h.units h.lines l))
    ∙ ap (λ (k : ℕ). k + passed (steps_left (advanced h.units h.lines l))) (passed_run h.kind h.units h.attrs.now h.text.now)

units_of : (h : Head) (l : Left) → IsFirst h l → first_units l.ops ≡ h.units
units_of h l f = ap first_units f.head.first

pub can_advance : (h : Head) (l : Left) → IsFirst h l → (h.units ≤ first_units l.ops) × (h.lines ≤ first_lines l.ops)
can_advance h l f = (omega (arith, ap first_units f.head.first), omega (arith, ap first_lines f.head.first))

pub fewer_runs : (h : Head) (l : Left) → IsFirst h l → length (advanced h.units h.lines l).ops < length l.ops
fewer_runs h l f =
    let all : cut h.units h.lines l.ops ≡ drop 1 l.ops = ap (cut h.units h.lines) f.head.first ∙ ap (λ b. cond b (without h.units h.lines (op_of h) ∷ drop 1 l.ops) (drop 1 l.ops)) (not_below h.units) in
    omega (arith, ap length all, ap length f.head.first)
  where
    not_below : (n : ℕ) → nat_lt n n ≡ false
    not_below n = grind (arith, nat_tests)

-- ---- a step

pub goes_on : (c : Change) (doc : Doc) (out out' : Draft) (l l' : Left) (rest rest' : List Cell) (h : Head) → IsInverting c doc out l rest → IsFirst h l → l' ≡ advanced h.units h.lines l
    → GoesOn out out' (undone h.kind h.units h.attrs.now (take (passed_by h.kind h.units) rest)) (left_by h.kind h.text.now (take (passed_by h.kind h.units) rest))
    → rest' ≡ drop (passed_by h.kind h.units) rest → IsInverting c doc out' l' rest'
goes_on c doc out out' l l' rest rest' h is f le g re =
    subst (λ (x : Left × List Cell). IsInverting c doc out' x.0 x.1) (λ i. (sym le i, sym re i))
    (record {
      old = g.old ∙ is.old;
      same =
          ap (λ s. s ++ undoing t behind) g.steps ∙ append_assoc out.steps now (undoing t behind)
          ∙ ap (λ s. out.steps ++ (s ++ undoing t behind)) (sym (run_undone h.kind h.units h.attrs.now h.text.now front long (first_text h l f)))
          ∙ ap (λ s. out.steps ++ s) (sym undoing_parts) ∙ is.same;
      many = length-drop p rest ∙ (omega (arith, inside));
      text =
          ap (λ (k : ℕ). drop k us) at ∙ sym (drop-drop (length left) (passed out.steps) us) ∙ ap (drop (length left)) texts ∙ drop-append_seam left (text_made t (text_of behind));
      said = subst (AreSaid (advanced h.units h.lines l).ops (advanced h.units h.lines l).bank) (drop-map (λ (c : Cell). c.unit) p rest)
          (left_said l (op_of h) (drop 1 l.ops) (text_of rest) h.units h.lines f.head.first (omega arith) is.said (λ k. absurd (omega (arith, k))));
      trues = g.trues us (text_made t (text_of behind)) texts is.trues;
      maps = maps_dropped p rest is.maps;
    })
  where
    us : Text
    us = text_of (apply c.edit doc)

    p : ℕ
    p = passed_by h.kind h.units

    r : List Step
    r = run_steps h.kind h.units h.attrs.now h.text.now

    t : List Step
    t = steps_left (advanced h.units h.lines l)

    front : List Cell
    front = take p rest

    behind : List Cell
    behind = drop p rest

    now : List Step
    now = undone h.kind h.units h.attrs.now front

    left : Text
    left = left_by h.kind h.text.now front

    inside : length rest ≡ p + passed t
    inside = first_inside h l rest f is.many

    long : length front ≡ p
    long = length-take-le p rest (omega (arith, inside))

    undoing_parts : undoing (steps_left l) rest ≡ undoing r front ++ undoing t behind
    undoing_parts = ap (λ (s : List Step). undoing s rest) (first_steps h l f) ∙ undoing-append r t rest ∙ ap (λ (k : ℕ). undoing r (take k rest) ++ undoing t (drop k rest)) (passed_run h.kind h.units h.attrs.now h.text.now)

    texts : drop (passed out.steps) us ≡ left ++ text_made t (text_of behind)
    texts =
        is.text ∙ ap (λ (s : List Step). text_made s (text_of rest)) (first_steps h l f) ∙ run-append (λ u m. u) (λ c. c.unit) r t (text_of rest)
        ∙ ap (λ (k : ℕ). text_made r (take k (text_of rest)) ++ text_made t (drop k (text_of rest))) (passed_run h.kind h.units h.attrs.now h.text.now)
        ∙ ap₂ (λ (a b : Text). text_made r a ++ text_made t b) (take-map (λ (c : Cell). c.unit) p rest) (drop-map (λ (c : Cell). c.unit) p rest)
        ∙ ap (λ (a : Text). a ++ text_made t (text_of behind)) (run_leaves h.kind h.units h.attrs.now h.text.now front long)

    at : passed out'.steps ≡ passed out.steps + length left
    at = ap passed g.steps ∙ passed-append out.steps now ∙ ap (λ (k : ℕ). passed out.steps + k) (passed_undone h.kind h.units h.attrs.now h.text.now front (first_text h l f))

-- ---- a run can be undone

some_lined : (lines : ℕ) (us : Text) → IsLined lines (newlines us) → 1 ≤ length us
some_lined lines [] h = absurd h
some_lined lines (u ∷ us) h = omega arith

room : (c : Change) (doc : Doc) (out : Draft) (l : Left) (rest : List Cell) (n : ℕ) → IsInverting c doc out l rest → 1 ≤ n → n ≤ given (steps_left l) → passed out.steps + n ≤ out.old
room c doc out l rest n is some h =
    let us = text_of (apply c.edit doc) in
    let left : length (drop (passed out.steps) us) ≡ given (steps_left l) = ap length is.text ∙ length-run (λ u m. u) (λ c. c.unit) (steps_left l) (text_of rest) (omega (arith, length-text_of rest, is.many)) in
    omega (arith, left, length-drop (passed out.steps) us, length-text_of (apply c.edit doc), is.old, some, h)

all_given : (c : Change) (doc : Doc) (out : Draft) (l : Left) (rest : List Cell) → IsAsked c doc → IsInverting c doc out l rest → given out.steps + length rest ≡ length doc
all_given c doc out l rest a is =
    ap (λ (k : ℕ). given out.steps + k) (sym (given_undoing (steps_left l) rest is.many)) ∙ sym (given-append out.steps (undoing (steps_left l) rest)) ∙ ap given is.same
    ∙ given_undoing (steps_left (left_of c)) doc (a.fits.length ∙ sym (passed_left c a.normal))

pub can_undo : (c : Change) (doc : Doc) (out : Draft) (l : Left) (rest : List Cell) (h : Head) → IsAsked c doc → IsInverting c doc out l rest → IsFirst h l → CanUndo h.kind h.units h.lines h.text.now rest out
can_undo c doc out l rest h a is f =
    go h.kind h.text.now f.head.text (first_said l (op_of h) (drop 1 l.ops) (text_of rest) f.head.first is.said)
    (subst (λ us. IsWritten h.kind h.units h.attrs.now us) (sym f.head.text) (first_written l (op_of h) (drop 1 l.ops) f.head.first f.written)) (ap given (first_steps h l f) ∙ given-append (run_steps h.kind h.units h.attrs.now h.text.now) (steps_left (advanced h.units h.lines l)))
  where
    n : ℕ
    n = h.units

    short : out.old < 2 ^ 32
    short = omega (arith, is.old, length_after c doc a, given_left c a.normal, a.normal.new)

    lines : IsLined h.lines (newlines (take n (text_of rest))) → IsLined h.lines (newlines (text_of (take n rest)))
    lines s = subst (λ us. IsLined h.lines (newlines us)) (take-map (λ (c : Cell). c.unit) n rest) s

    go : (k : Kind) (text : Text) → text ≡ take (inserted k n) l.bank → IsSaid n h.lines (source k l.bank (text_of rest)) → IsWritten k n h.attrs.now text
        → given (steps_left l) ≡ given (run_steps k n h.attrs.now text) + given (steps_left (advanced h.units h.lines l)) → CanUndo k n h.lines text rest out
    go kind.Keep text t s w g = (w, omega (arith, s.0, length-text_of rest), lines s.1, room c doc out l rest n is w (omega (arith, g, given_kept n h.attrs.now)), short)
    go kind.Drop text t s w g =
        let inside : n ≤ length rest = omega (arith, s.0, length-text_of rest) in
        (inside, omega (arith, inside, inserted_within out.steps, all_given c doc out l rest a is, a.normal.old, a.fits.length), is.maps)
    go kind.Insert text t s w g =
        let lined : IsLined h.lines (newlines text) = subst (λ us. IsLined h.lines (newlines us)) (sym t) s.1 in
        let some : 1 ≤ n = omega (arith, some_lined h.lines text lined, w.0) in
        (some, w.0, lined, room c doc out l rest n is some (omega (arith, g, given_text h.attrs.now text, w.0)))
      where
        given_text : (m : AttrMap) (us : Text) → given (inserts (cells m us)) ≡ length us
        given_text m [] = refl
        given_text m (u ∷ us) = ap suc (given_text m us)

-- ---- the end

given_length : (s : List Step) → given s + dropped_by s ≡ passed s + inserted_by s
given_length [] = refl
given_length (Insert c ∷ s) = omega (arith, given_length s)
given_length (Pass Drop ∷ s) = omega (arith, given_length s)
given_length (Pass (Keep m) ∷ s) = omega (arith, given_length s)

dropped_within : (s : List Step) → dropped_by s ≤ passed s
dropped_within [] = omega arith
dropped_within (Insert c ∷ s) = dropped_within s
dropped_within (Pass Drop ∷ s) = omega (arith, dropped_within s)
dropped_within (Pass (Keep m) ∷ s) = omega (arith, dropped_within s)

-- nothing is left but places that are kept
record IsOver (c : Change) (doc : Doc) (out : Draft) (l : Left) (rest : List Cell) : Type 0 where
  many : length rest ≡ l.rest
  left : out.old ≡ passed out.steps + l.rest
  same : out.steps ++ rest_kept l.rest ≡ undoing (steps_left (left_of c)) doc

over : (c : Change) (doc : Doc) (out : Draft) (l : Left) (rest : List Cell) → IsInverting c doc out l rest → l.ops ≡ [] → IsOver c doc out l rest
over c doc out l rest is e =
    let us = text_of (apply c.edit doc) in
    let s = rest_left l e in
    let many : length rest ≡ l.rest = is.many ∙ ap passed s ∙ passed_times l.rest (Keep none) in
    let behind : length (drop (passed out.steps) us) ≡ l.rest = ap length (is.text ∙ ap (λ (s : List Step). text_made s (text_of rest)) s ∙ text_kept l.rest none (text_of rest) (length-text_of rest ∙ many)) ∙ length-text_of rest ∙ many in
    let inside : passed out.steps ≤ length us = omega (arith, ap passed is.trues.steps, passed_are is.trues.ops is.trues.bank, is.trues.inside) in
    record {
      many = many;
      left = omega (arith, behind, inside, length-drop (passed out.steps) us, length-text_of (apply c.edit doc), is.old);
      same = ap (λ x. out.steps ++ x) (sym (ap (λ (s : List Step). undoing s rest) s ∙ undoing_rest l.rest rest many)) ∙ is.same;
    }

-- what is written is the inverse
pub ended : (c : Change) (doc : Doc) (out : Draft) (l : Left) (rest : List Cell) → IsAsked c doc → IsInverting c doc out l rest → l.ops ≡ [] → (drafted out).edit ≡ inverse c.edit doc
ended c doc out l rest a is e =
    let o = over c doc out l rest is e in
    let r : out.old - passed out.steps ≡ l.rest = omega (arith, o.left) in
    ap (λ (k : ℕ). edit_of (out.steps ++ rest_kept k)) r ∙ ap edit_of o.same ∙ inverse_steps (steps_left (left_of c)) doc (a.fits.length ∙ sym (passed_left c a.normal))
    ∙ ap (λ (x : Edit). inverse x doc) (sym (edit_left c a.normal))

pub ends_short : (c : Change) (doc : Doc) (out : Draft) (l : Left) (rest : List Cell) → IsAsked c doc → IsInverting c doc out l rest → l.ops ≡ [] → new_length out < 2 ^ 32
ends_short c doc out l rest a is e =
    let o = over c doc out l rest is e in
    omega (arith, given_length out.steps, dropped_within out.steps, o.left, o.many, all_given c doc out l rest a is, a.normal.old, a.fits.length)

pub ends_whole : (c : Change) (doc : Doc) (out : Draft) (l : Left) (rest : List Cell) → IsAsked c doc → IsInverting c doc out l rest → l.ops ≡ [] → AreDocuments (drafted out).edit.places (drafted out).edit.last
ends_whole c doc out l rest a is e =
    subst (λ (x : Edit). AreDocuments x.places x.last) (sym (ended c doc out l rest a is e)) (inverse_pieces c.edit doc a.fits.length a.fits.pairs a.document.pairs)

pub inverted : (c : Change) (doc : Doc) (out : Draft) (l : Left) (rest : List Cell) → IsAsked c doc → IsInverting c doc out l rest → l.ops ≡ [] → drafted out ≡ stamped (inverse c.edit doc) (text_of (apply c.edit doc))
inverted c doc out l rest a is e =
    true_drafted out (text_of (apply c.edit doc)) is.trues (length-text_of (apply c.edit doc) ∙ sym is.old) ∙ ap (λ (x : Edit). stamped x (text_of (apply c.edit doc))) (ended c doc out l rest a is e)

pub inverse_fits : (c i : Change) (doc : Doc) → IsAsked c doc → i ≡ stamped (inverse c.edit doc) (text_of (apply c.edit doc)) → Fits i (apply c.edit doc)
inverse_fits c i doc a e =
    subst (λ (x : Change). Fits x (apply c.edit doc)) (sym e)
    (record {
      length = sym (length-inverse c.edit doc a.fits.length);
      runs = refl;
      pairs = inverse_pairs c.edit doc a.fits.length (pieces_of c.edit.places c.edit.last a.normal.pieces) a.fits.pairs a.document.pairs;
    })

pub inverse_gives_back : (c i : Change) (doc : Doc) → IsAsked c doc → i ≡ stamped (inverse c.edit doc) (text_of (apply c.edit doc)) → apply i.edit (apply c.edit doc) ≡ doc
inverse_gives_back c i doc a e = ap (λ (x : Change). apply x.edit (apply c.edit doc)) e ∙ inverse_undoes c.edit doc a.fits.length a.document.values
