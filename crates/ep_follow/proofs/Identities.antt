-- What follows the identity, what follows through it, and where two followers meet.
use Rattle.std.proofs.Common.{◌≡◌, ℕ, zero, suc, ◌+◌, Bool, true, false, cond, not, List, [], ◌∷◌, ◌++◌, length, refl, sym, ap, ◌∙◌, subst, arith, append-nil}
use Rattle.ep_cs.specs.Doc.{Cell, Doc, text_of}
use Rattle.ep_cs.specs.Edit.{Fate, Place, Edit, Step, Item, IsSettled, inserts, steps_from, edit_of, with_place, identity, items, apply, compose, painted_item, numbered}
use Rattle.ep_cs.specs.Edit.Fate.{Drop, Keep}
use Rattle.ep_cs.specs.Edit.Step.{Pass}
use Rattle.ep_cs.specs.Edit.Item.{New}
use Rattle.ep_cs.specs.Steps.{passed}
use Rattle.ep_cs.specs.Runs.{rest_kept}
use Rattle.ep_cs.specs.Change.{Change, stamped}
use Rattle.ep_cs.specs.Fits.{Fits, is_identity}
use Rattle.ep_cs.specs.Follow.{goes_first, passes, follow_gap, follow_place, follow_steps, follow}
use Rattle.ep_cs.specs.NormalRuns.{IsNormal}
use Rattle.ep_cs.proofs.Composed.{passed-steps_from, run-steps_from, apply-compose}
use Rattle.ep_cs.proofs.Diamond.{diamond}
use Rattle.ep_cs.proofs.Identity.{apply-identity, is_identity-identity, only_identity}
use Rattle.ep_cs.proofs.Items.{settle_settled, length-settle, length-numbered, length-identity, identity-compose, compose-identity}
use Rattle.ep_cs.proofs.Packings.{all_kept}
use Rattle.ep_cursor.specs.Left.{left_of, steps_left}
use Rattle.ep_cursor.specs.Made.{given}
use Rattle.ep_cursor.proofs.Made.{passed-append, passed_times, passed_new, given-append, given_new, length-run}
use Rattle.ep_cursor.proofs.Starts.{edit_left}
use Rattle.ep_follow.specs.Gaps.{gather}
use Rattle.ep_follow.proofs.Steps.{gather-inserts, passes_are, followed_rest}

gather-steps_from : (ps : List Place) (last : List Cell) → gather [] (steps_from ps last) ≡ record { places = ps; last = last }
gather-steps_from [] last = ap (gather []) (sym (append-nil (inserts last))) ∙ gather-inserts [] last []
gather-steps_from (p ∷ ps) last = gather-inserts [] p.before (Pass p.fate ∷ steps_from ps last) ∙ ap (with_place p) (gather-steps_from ps last)

gather-rest : (n : ℕ) → gather [] (rest_kept n) ≡ identity n
gather-rest zero = refl
gather-rest (suc n) = ap (with_place (record { before = []; fate = Keep _ })) (gather-rest n)

-- how many units an edit makes
abbrev made_by : Edit → ℕ
made_by e = given (steps_from e.places e.last)

made_items : (e : Edit) → made_by e ≡ length (items e)
made_items e =
    let is : List Item = numbered 0 (length e.places) in
    sym (length-run painted_item New (steps_from e.places e.last) is (omega (arith, passed-steps_from e.places e.last, length-numbered 0 (length e.places))))
    ∙ ap length (run-steps_from painted_item New e.places e.last is)

-- what follows of the identity
pub identity_follows : (side : Bool) (a : Edit) → follow side a (identity (length a.places)) ≡ identity (made_by a)
identity_follows side a =
    let s = steps_from a.places a.last in
    let n = length a.places in
    ap edit_of
    ((λ i. between_edits (sym (gather-steps_from a.places a.last) i) (sym (gather-rest n) i))
    ∙ followed_rest side s n (passed-steps_from a.places a.last))
    ∙ all_kept (made_by a)
  where
    between_edits : Edit → Edit → List Step
    between_edits a b = follow_steps side a.places b.places a.last b.last

passed_gap : (side : Bool) (x y : List Cell) (s : List Step) → passed (follow_gap side x y ++ s) ≡ length x + passed s
passed_gap side x y s = passed-append (follow_gap side x y) s ∙ ap (λ (n : ℕ). n + passed s) (go (goes_first side x y))
  where
    kept : passed (passes x) ≡ length x
    kept = ap passed (passes_are x) ∙ passed_times (length x) (Keep _)

    go : (t : Bool) → passed (cond t (passes x ++ inserts y) (inserts y ++ passes x)) ≡ length x
    go true = omega (arith, passed-append (passes x) (inserts y), passed_new y, kept)
    go false = omega (arith, passed-append (inserts y) (passes x), passed_new y, kept)

-- what follows is a change of what the first makes
passed-follow_steps : (side : Bool) (ps qs : List Place) (la lb : List Cell) → length ps ≡ length qs → passed (follow_steps side ps qs la lb) ≡ given (steps_from ps la)
passed-follow_steps side [] qs la lb n = ap passed (sym (append-nil (follow_gap side la lb))) ∙ passed_gap side la lb [] ∙ omega (arith, given_new la)
passed-follow_steps side (p ∷ ps) [] la lb n = absurd (omega (arith, n))
passed-follow_steps side (p ∷ ps) (q ∷ qs) la lb n =
    passed_gap side p.before q.before (follow_place p.fate q.fate ++ follow_steps side ps qs la lb)
    ∙ place p.fate q.fate (passed-follow_steps side ps qs la lb (omega (arith, n)))
  where
    place : (f g : Fate) → passed (follow_steps side ps qs la lb) ≡ given (steps_from ps la)
        → length p.before + passed (follow_place f g ++ follow_steps side ps qs la lb) ≡ given (inserts p.before ++ (Pass f ∷ steps_from ps la))
    place Drop g e = omega (arith, e, given-append (inserts p.before) (Pass Drop ∷ steps_from ps la), given_new p.before)
    place (Keep a) Drop e = omega (arith, e, given-append (inserts p.before) (Pass (Keep a) ∷ steps_from ps la), given_new p.before)
    place (Keep a) (Keep b) e = omega (arith, e, given-append (inserts p.before) (Pass (Keep a) ∷ steps_from ps la), given_new p.before)

length-follow : (side : Bool) (a b : Edit) → length a.places ≡ length b.places → length (follow side a b).places ≡ made_by a
length-follow side a b n = length-settle [] (follow_steps side a.places b.places a.last b.last) ∙ passed-follow_steps side a.places b.places a.last b.last n

made_of_identity : (n : ℕ) → made_by (identity n) ≡ n
made_of_identity zero = refl
made_of_identity (suc n) = ap suc (made_of_identity n)

-- what follows through the identity
pub follow_through : (side : Bool) (b : Edit) → IsSettled b → follow side (identity (length b.places)) b ≡ b
follow_through side b s =
    let n = length b.places in
    let i : Edit = identity n in
    let f : Edit = follow side i b in
    let long : length f.places ≡ n = length-follow side i b (length-identity n) ∙ made_of_identity n in
    sym (identity-compose f (settle_settled [] (follow_steps side i.places b.places i.last b.last)))
    ∙ ap (λ (k : ℕ). compose (identity k) f) long
    ∙ diamond side i b (length-identity n)
    ∙ ap (compose b) (identity_follows (not side) b ∙ ap identity (made_items b))
    ∙ compose-identity b s

-- ---- changes

settled : (c : Change) → IsNormal c → IsSettled c.edit
settled c n = subst IsSettled (sym (edit_left c n)) (settle_settled [] (steps_left (left_of c)))

pub through_identity : (side : Bool) (a b : Change) (doc : Doc) → IsNormal b → Fits a doc → Fits b doc → is_identity a.edit ≡ true → stamped (follow side a.edit b.edit) (text_of (apply a.edit doc)) ≡ b
through_identity side a b doc nb fa fb e =
    let is : a.edit ≡ identity (length doc) = only_identity a.edit e ∙ ap identity (sym fa.length) in
    (λ i. stamped (follow side (is i) b.edit) (text_of (apply (is i) doc)))
    ∙ ap (λ (d : Doc). stamped (follow side (identity (length doc)) b.edit) (text_of d)) (apply-identity doc)
    ∙ ap (λ (n : ℕ). stamped (follow side (identity n) b.edit) (text_of doc)) fb.length
    ∙ ap (λ (x : Edit). stamped x (text_of doc)) (follow_through side b.edit (settled b nb))
    ∙ (λ i. record { edit = b.edit; runs = sym fb.runs i })

pub nothing_left : (side : Bool) (a b : Change) (doc : Doc) → Fits a doc → Fits b doc → is_identity b.edit ≡ true → follow side a.edit b.edit ≡ identity (length (items a.edit))
nothing_left side a b doc fa fb e =
    ap (λ (x : Edit). follow side a.edit x) (only_identity b.edit e ∙ ap identity (sym fb.length ∙ fa.length))
    ∙ identity_follows side a.edit
    ∙ ap identity (made_items a.edit)

pub follows_nothing : (side : Bool) (a b : Change) (doc : Doc) → Fits a doc → Fits b doc → is_identity b.edit ≡ true → is_identity (follow side a.edit b.edit) ≡ true
follows_nothing side a b doc fa fb e =
    ap (λ (x : Edit). is_identity (follow side a.edit x)) (only_identity b.edit e ∙ ap identity (sym fb.length ∙ fa.length))
    ∙ ap (λ (x : Edit). is_identity x) (identity_follows side a.edit)
    ∙ is_identity-identity (made_by a.edit)

-- two followers meet
pub meets : (side : Bool) (a b f g : Change) (doc : Doc) → Fits a doc → Fits b doc
    → f ≡ stamped (follow side a.edit b.edit) (text_of (apply a.edit doc)) → g ≡ stamped (follow (not side) b.edit a.edit) (text_of (apply b.edit doc))
    → compose a.edit f.edit ≡ compose b.edit g.edit
meets side a b f g doc fa fb e h =
    ap (λ (x : Change). compose a.edit x.edit) e
    ∙ diamond side a.edit b.edit (sym fa.length ∙ fb.length)
    ∙ ap (λ (x : Change). compose b.edit x.edit) (sym h)

pub meets_there : (side : Bool) (a b f g : Change) (doc : Doc) → Fits a doc → Fits b doc
    → f ≡ stamped (follow side a.edit b.edit) (text_of (apply a.edit doc)) → g ≡ stamped (follow (not side) b.edit a.edit) (text_of (apply b.edit doc))
    → apply f.edit (apply a.edit doc) ≡ apply g.edit (apply b.edit doc)
meets_there side a b f g doc fa fb e h =
    sym (apply-compose a.edit f.edit doc fa.length)
    ∙ ap (λ (x : Edit). apply x doc) (meets side a b f g doc fa fb e h)
    ∙ apply-compose b.edit g.edit doc fb.length
