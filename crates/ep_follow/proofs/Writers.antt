-- What is written, and the kept units that wait behind it.
use Rattle.std.proofs.Common.{◌≡◌, ℕ, zero, suc, ◌+◌, ◌-◌, ◌≤◌, ◌⊎◌, inl, inr, Bool, cond, List, [], ◌∷◌, ◌++◌, length, drop, refl, sym, ap, ◌∙◌, subst, arith, append_assoc, append-nil, length-append, drop-drop}
use Rattle.std.proofs.Math.Seq.{drop-append_seam}
use Rattle.std.proofs.lemmas.List.{map-append, replicate-append-replicate}
use Rattle.ep_units.specs.Text.{Text, is_newline}
use Rattle.ep_attr.specs.AttrMap.{AttrMap, none, rest}
use Rattle.ep_cs.specs.Doc.{Doc}
use Rattle.ep_cs.specs.Edit.{Fate, Step, apply, edit_of}
use Rattle.ep_cs.specs.Edit.Fate.{Drop, Keep}
use Rattle.ep_cs.specs.Edit.Step.{Pass}
use Rattle.ep_cs.specs.Steps.{passed}
use Rattle.ep_cs.specs.Runs.{rest_kept}
use Rattle.ep_cs.specs.Change.{Change, stamped, newlines}
use Rattle.ep_cs.specs.NormalRuns.{IsLined}
use Rattle.ep_cs.specs.Fits.{Fits, AreDocuments, is_identity}
use Rattle.ep_cs.specs.Draft.{Draft, keeping, dropping, drafted, dropped_by, inserted_by, new_length}
use Rattle.ep_cs.proofs.Canonical.{IsLined-before}
use Rattle.ep_cs.proofs.Drafts.{dropped-append, inserted-append, kept_times}
use Rattle.ep_cursor.specs.Left.{Left}
use Rattle.ep_cursor.specs.TrueDraft.{IsTrueDraft}
use Rattle.ep_cursor.proofs.Lined.{lined_within}
use Rattle.ep_cursor.proofs.Made.{passed-append, passed_times}
use Rattle.ep_cursor.proofs.TrueDrafts.{GoesOn, true_keep, true_drafted}
use Rattle.ep_follow.specs.declared.writer.Writer.{Writer}
use Rattle.ep_follow.specs.Gaps.{followed_run}
use Rattle.ep_follow.specs.Following.{UnderWay, IsFollower}
use Rattle.ep_follow.specs.Writing.{said, settled, waiting, IsKept, IsFollowedRun, HasRoom, AreLinedAll, IsTrueWriter, IsGoing}

-- ---- the steps that are said

pub said_steps : (w : Writer) → (said w).steps ≡ w.out.steps ++ rest_kept (w.lined + w.plain)
said_steps w = append_assoc w.out.steps (rest_kept w.lined) (rest_kept w.plain) ∙ ap (λ s. w.out.steps ++ s) (replicate-append-replicate w.lined w.plain (Pass (Keep none)))

pub kept_passed : (s : List Step) (n : ℕ) → passed (s ++ rest_kept n) ≡ passed s + n
kept_passed s n = passed-append s (rest_kept n) ∙ ap (λ (k : ℕ). passed s + k) (passed_times n (Keep none))

pub said_passed : (w : Writer) → passed (said w).steps ≡ passed w.out.steps + (w.lined + w.plain)
said_passed w = ap passed (said_steps w) ∙ kept_passed w.out.steps (w.lined + w.plain)

kept_none : (d : Draft) (l : ℕ) → keeping d 0 l none ≡ d
kept_none d l = λ i. record { old = d.old; steps = append-nil d.steps i; marks = append-nil d.marks i }

pub said_settled : (d : Draft) → said (settled d) ≡ d
said_settled d = kept_none (keeping d 0 0 none) 0 ∙ kept_none d 0

grown : (s : List Step) (k n m : ℕ) → m ≡ k + n → s ++ rest_kept m ≡ (s ++ rest_kept k) ++ rest_kept n
grown s k n m e =
    ap (λ (j : ℕ). s ++ rest_kept j) e ∙ ap (λ t. s ++ t) (sym (replicate-append-replicate k n (Pass (Keep none)))) ∙ sym (append_assoc s (rest_kept k) (rest_kept n))

pub waiting_steps : (w : Writer) (n l : ℕ) → (said (waiting w n l)).steps ≡ (said w).steps ++ rest_kept n
waiting_steps w n zero =
    said_steps (waiting w n zero) ∙ grown w.out.steps (w.lined + w.plain) n (w.lined + (w.plain + n)) (omega arith)
    ∙ ap (λ s. s ++ rest_kept n) (sym (said_steps w))
waiting_steps w n (suc l) =
    said_steps (waiting w n (suc l)) ∙ grown w.out.steps (w.lined + w.plain) n (w.lined + (w.plain + n) + 0) (omega arith)
    ∙ ap (λ s. s ++ rest_kept n) (sym (said_steps w))

waiting_old : (w : Writer) (n l : ℕ) → (said (waiting w n l)).old ≡ w.out.old
waiting_old w n zero = refl
waiting_old w n (suc l) = refl

-- ---- newlines

lined_append : (a c : ℕ) (xs zs : List ℕ) → AreLinedAll a xs → IsLined c zs → (a ≡ 0) ⊎ (1 ≤ c) → IsLined (a + c) (xs ++ zs)
lined_append a c [] zs h k g = let e : c ≡ a + c = omega (arith, h) in subst (λ (n : ℕ). IsLined n zs) e k
lined_append a c (x ∷ []) zs h k g =
    let e : x + c ≡ a + c = omega (arith, h) in
    subst (λ (n : ℕ). IsLined n (x ∷ zs)) e (IsLined-before x c zs k (elim g as (λ _. (x ≡ 0) ⊎ (1 ≤ c)) [ inl z ↦ inl (omega (arith, h, z)) | inr s ↦ inr s ]))
lined_append a c (x ∷ (y ∷ xs)) zs h k g = (
  h.0 + c,
  omega (arith, h.1),
  elim h.2 as (λ _. (x ≡ 0) ⊎ (1 ≤ h.0 + c)) [ inl z ↦ inl z | inr s ↦ inr (omega (arith, s)) ],
  lined_append h.0 c (y ∷ xs) zs h.3 k (elim g as (λ _. (h.0 ≡ 0) ⊎ (1 ≤ c)) [ inl z ↦ inl (omega (arith, z, h.1)) | inr s ↦ inr s ]),
)

lined_all : (l : ℕ) (xs : List ℕ) → IsLined l xs → AreLinedAll l xs
lined_all l [] h = absurd h
lined_all l (x ∷ xs) h = h

newlines-append : (us vs : Text) → newlines (us ++ vs) ≡ newlines us ++ newlines vs
newlines-append us vs = map-append (λ u. cond (is_newline u) 1 0) us vs

lines_within : (l : ℕ) (us : Text) → AreLinedAll l (newlines us) → l ≤ length us
lines_within l [] h = omega (arith, h)
lines_within l (u ∷ us) h = lined_within l (u ∷ us) h

-- two stretches are one, where the second has newlines or the first has none
stretches : (a c : ℕ) (us vs : Text) → AreLinedAll a (newlines us) → IsLined c (newlines vs) → (a ≡ 0) ⊎ (1 ≤ c) → IsLined (a + c) (newlines (us ++ vs))
stretches a c us vs h k g = subst (IsLined (a + c)) (sym (newlines-append us vs)) (lined_append a c (newlines us) (newlines vs) h k g)

-- ---- what is written is true

-- the text behind the units that wait
behind_said : (w : Writer) (us : Text) (t : IsTrueWriter w us) → drop (passed (said w).steps) us ≡ t.behind
behind_said w us t =
    let long : length (t.front ++ t.plain) ≡ w.lined + w.plain = omega (arith, length-append t.front t.plain, t.front_long, t.plain_long) in
    ap (λ (n : ℕ). drop n us) (said_passed w) ∙ sym (drop-drop (w.lined + w.plain) (passed w.out.steps) us)
    ∙ ap (drop (w.lined + w.plain)) (t.is ∙ sym (append_assoc t.front t.plain t.behind))
    ∙ ap (λ (n : ℕ). drop n ((t.front ++ t.plain) ++ t.behind)) (sym long) ∙ drop-append_seam (t.front ++ t.plain) t.behind

keep_all : (d : Draft) (us front later : Text) (n l : ℕ) → IsTrueDraft d us → drop (passed d.steps) us ≡ front ++ later → length front ≡ n → AreLinedAll l (newlines front) → IsTrueDraft (keeping d n l none) us
keep_all d us [] later n l t is long lined =
    subst (λ (k : ℕ). IsTrueDraft (keeping d k l none) us) long (subst (λ d. IsTrueDraft d us) (sym (kept_none d l)) t)
keep_all d us (u ∷ front) later n l t is long lined =
    true_keep d us (u ∷ front) later n l none t (record { is = is; long = long; some = omega (arith, long); lined = lined })

pub true_said : (w : Writer) (us : Text) → IsTrueWriter w us → IsTrueDraft (said w) us
true_said w us t =
    let d : Draft = keeping w.out w.lined w.lines none in
    let here : drop (passed d.steps) us ≡ t.plain ++ t.behind =
    ap (λ (n : ℕ). drop n us) (kept_passed w.out.steps w.lined) ∙ sym (drop-drop w.lined (passed w.out.steps) us)
    ∙ ap (drop w.lined) t.is
    ∙ ap (λ (n : ℕ). drop n (t.front ++ (t.plain ++ t.behind))) (sym t.front_long) ∙ drop-append_seam t.front (t.plain ++ t.behind) in
    keep_all d us t.plain t.behind w.plain 0 (keep_all w.out us t.front (t.plain ++ t.behind) w.lined w.lines t.out t.is t.front_long t.front_lined) here t.plain_long t.plain_lined

pub true_settled : (d : Draft) (us : Text) → IsTrueDraft d us → IsTrueWriter (settled d) us
true_settled d us t = record { out = t; front = []; plain = []; behind = drop (passed d.steps) us; is = refl; front_long = refl; plain_long = refl; front_lined = refl; plain_lined = refl }

true_waiting : (w : Writer) (us f later : Text) (n l : ℕ) → IsTrueWriter w us → GoesOn (said w) us f later n l → IsTrueWriter (waiting w n l) us
true_waiting w us f later n zero t g =
    let parts : t.behind ≡ f ++ later = sym (behind_said w us t) ∙ g.is in
    record {
      out = t.out;
      front = t.front;
      plain = t.plain ++ f;
      behind = later;
      is = t.is ∙ ap (λ vs. t.front ++ (t.plain ++ vs)) parts ∙ ap (λ vs. t.front ++ vs) (sym (append_assoc t.plain f later));
      front_long = t.front_long;
      plain_long = omega (arith, length-append t.plain f, t.plain_long, g.long);
      front_lined = t.front_lined;
      plain_lined =
          let none_more : 0 + 0 ≡ 0 = omega arith in
          lined_all 0 (newlines (t.plain ++ f)) (subst (λ (k : ℕ). IsLined k (newlines (t.plain ++ f))) none_more (stretches 0 0 t.plain f t.plain_lined g.lined (inl refl)));
    }
true_waiting w us f later n (suc l) t g =
    let parts : t.behind ≡ f ++ later = sym (behind_said w us t) ∙ g.is in
    let same : 0 + suc l ≡ suc l = omega arith in
    let end : IsLined (suc l) (newlines (t.plain ++ f)) = subst (λ (k : ℕ). IsLined k (newlines (t.plain ++ f))) same (stretches 0 (suc l) t.plain f t.plain_lined g.lined (inl refl)) in
    record {
      out = t.out;
      front = t.front ++ (t.plain ++ f);
      plain = [];
      behind = later;
      is =
          t.is ∙ ap (λ vs. t.front ++ (t.plain ++ vs)) parts ∙ ap (λ vs. t.front ++ vs) (sym (append_assoc t.plain f later))
          ∙ sym (append_assoc t.front (t.plain ++ f) later);
      front_long = omega (arith, length-append t.front (t.plain ++ f), length-append t.plain f, t.front_long, t.plain_long, g.long);
      plain_long = refl;
      front_lined = lined_all (w.lines + suc l) (newlines (t.front ++ (t.plain ++ f))) (stretches w.lines (suc l) t.front (t.plain ++ f) t.front_lined end (inr (omega arith)));
      plain_lined = refl;
    }

-- ---- what is said goes on

-- the same steps, whose newlines are said in another way
said_otherwise : (made : Text) (d e : Draft) (a b : Left) → UnderWay made d a b → e.old ≡ d.old → e.steps ≡ d.steps → IsTrueDraft e made → UnderWay made e a b
said_otherwise made d e a b u old steps t = record {
  level = u.level;
  places = omega (arith, u.places, old, ap passed steps);
  long = u.long ∙ sym old;
  short = omega (arith, u.short, old, ap inserted_by steps);
  written = t;
  text = u.text;
  all = u.all;
  first = u.first;
  second = u.second;
  here = ap (λ s. drop (passed s) made) steps ∙ u.here;
}

pub settled_goes : (made : Text) (d : Draft) (w : Writer) (a b : Left) → w ≡ settled d → UnderWay made d a b → IsGoing made w a b
settled_goes made d w a b e u =
    subst (λ w. IsGoing made w a b) (sym e) (record { way = subst (λ d. UnderWay made d a b) (sym (said_settled d)) u; writer = true_settled d made u.written })

pub waiting_goes : (made : Text) (w w' : Writer) (a b : Left) (f later : Text) (n l : ℕ) → w' ≡ waiting w n l → IsTrueWriter w made → GoesOn (said w) made f later n l → UnderWay made (keeping (said w) n l none) a b → IsGoing made w' a b
waiting_goes made w w' a b f later n l e t g u =
    let more = true_waiting w made f later n l t g in
    subst (λ w. IsGoing made w a b) (sym e) (record {
      way = said_otherwise made (keeping (said w) n l none) (said (waiting w n l)) a b u (waiting_old w n l) (waiting_steps w n l) (true_said (waiting w n l) made more);
      writer = more;
    })

pub has_room : (made : Text) (w : Writer) (a b : Left) (n : ℕ) → IsGoing made w a b → passed (said w).steps + n ≤ w.out.old → HasRoom w n
has_room made w a b n g h = record { inside = h; short = omega (arith, g.way.short); lined = omega (arith, lines_within w.lines g.writer.front g.writer.front_lined, g.writer.front_long) }

pub has_place : (made : Text) (w : Writer) (a b : Left) → IsGoing made w a b → HasRoom w 0
has_place made w a b g = has_room made w a b 0 g (omega (arith, g.way.places))

-- ---- what follows at places of one fate

pub run_steps_said : (w w' : Writer) (n l : ℕ) (f g : Fate) → IsFollowedRun w n l f g w' → (said w').steps ≡ (followed_run (said w) n l f g).steps
run_steps_said w w' n l Drop g e = ap (λ w. (said w).steps) e
run_steps_said w w' n l (Keep a) Drop e = ap (λ w. (said w).steps) e ∙ ap (λ (d : Draft). d.steps) (said_settled (dropping (said w) n l))
run_steps_said w w' n l (Keep a) (Keep b) h = go h
  where
    go : IsKept w n l (rest a b) w' → (said w').steps ≡ (keeping (said w) n l (rest a b)).steps
    go (inl e) = ap (λ w. (said w).steps) e.1 ∙ waiting_steps w n l ∙ ap (λ m. (keeping (said w) n l m).steps) (sym e.0)
    go (inr e) = ap (λ w. (said w).steps) e ∙ ap (λ (d : Draft). d.steps) (said_settled (keeping (said w) n l (rest a b)))

pub run_goes_said : (made : Text) (w w' : Writer) (a b : Left) (us later : Text) (n l : ℕ) (f g : Fate) → IsFollowedRun w n l f g w' → IsTrueWriter w made
    → ((m : AttrMap) → f ≡ Keep m → GoesOn (said w) made us later n l) → UnderWay made (followed_run (said w) n l f g) a b → IsGoing made w' a b
run_goes_said made w w' a b us later n l Drop g e t goes u = subst (λ w. IsGoing made w a b) (sym e) (record { way = u; writer = t })
run_goes_said made w w' a b us later n l (Keep x) Drop e t goes u = settled_goes made (dropping (said w) n l) w' a b e u
run_goes_said made w w' a b us later n l (Keep x) (Keep y) h t goes u = go h
  where
    go : IsKept w n l (rest x y) w' → IsGoing made w' a b
    go (inl e) = waiting_goes made w w' a b us later n l e.1 t (goes x refl) (subst (λ m. UnderWay made (keeping (said w) n l m) a b) e.0 u)
    go (inr e) = settled_goes made (keeping (said w) n l (rest x y)) w' a b e u

-- ---- the end

-- the units that wait at the end are kept, written or not
unsaid : (made : Text) (w : Writer) (a b : Left) → IsGoing made w a b → drafted w.out ≡ drafted (said w)
unsaid made w a b g =
    let all : w.out.steps ++ rest_kept (w.out.old - passed w.out.steps) ≡ (said w).steps ++ rest_kept (w.out.old - passed (said w).steps) =
    grown w.out.steps (w.lined + w.plain) (w.out.old - passed (said w).steps) (w.out.old - passed w.out.steps) (omega (arith, said_passed w, g.way.places))
    ∙ ap (λ s. s ++ rest_kept (w.out.old - passed (said w).steps)) (sym (said_steps w)) in
    true_drafted w.out made g.writer.out g.way.long
    ∙ ap (λ s. stamped (edit_of s) made) all
    ∙ sym (true_drafted (said w) made g.way.written g.way.long)

said_length : (w : Writer) → new_length (said w) ≡ new_length w.out
said_length w =
    let k = kept_times (w.lined + w.plain) none in
    let dropped : dropped_by (said w).steps ≡ dropped_by w.out.steps = omega (arith, ap dropped_by (said_steps w), dropped-append w.out.steps (rest_kept (w.lined + w.plain)), k.0) in
    let inserted : inserted_by (said w).steps ≡ inserted_by w.out.steps = omega (arith, ap inserted_by (said_steps w), inserted-append w.out.steps (rest_kept (w.lined + w.plain)), k.1) in
    λ i. w.out.old - dropped i + inserted i

pub unsaid_follower : (side : Bool) (a b : Change) (doc : Doc) (made : Text) (w : Writer) (left right : Left) → IsGoing made w left right → IsFollower side a b doc (said w) → IsFollower side a b doc w.out
unsaid_follower side a b doc made w left right g f =
    let e = unsaid made w left right g in
    record {
      short = omega (arith, f.short, said_length w);
      pieces = subst (λ (c : Change). AreDocuments c.edit.places c.edit.last) (sym e) f.pieces;
      is = e ∙ f.is;
      fits = subst (λ c. Fits c (apply a.edit doc)) (sym e) f.fits;
      through = λ h. e ∙ f.through h;
      nothing = λ h. ap (λ (c : Change). is_identity c.edit) e ∙ f.nothing h;
    }
