-- What follows, gap by gap and run by run.
use Rattle.std.proofs.Common.{◌≡◌, ℕ, zero, suc, ◌+◌, Bool, true, false, cond, List, [], ◌∷◌, ◌++◌, length, take, replicate, refl, sym, ap, ap₂, ◌∙◌, subst, T, arith, append_assoc, append-nil, length-append}
use Rattle.std.proofs.lemmas.List.{map-append, replicate-append-replicate}
use Rattle.ep_units.specs.Text.{Text}
use Rattle.ep_attr.specs.AttrMap.{none, rest}
use Rattle.ep_attr.proofs.Maps.{rest-none}
use Rattle.ep_cs.specs.Doc.{Cell}
use Rattle.ep_cs.specs.Edit.{Fate, Step, inserts}
use Rattle.ep_cs.specs.Edit.Fate.{Drop, Keep}
use Rattle.ep_cs.specs.Edit.Step.{Insert, Pass}
use Rattle.ep_cs.specs.Steps.{passed}
use Rattle.ep_cs.specs.Runs.{inserted, steps_of, rest_kept}
use Rattle.ep_cs.specs.Written.{IsWritten, AreWritten}
use Rattle.ep_cs.specs.Follow.{goes_first, passes, follow_gap, follow_place}
use Rattle.ep_cs.specs.declared.op.Kind.{Kind}
use Rattle.ep_cs.specs.declared.op.Kind.TheVariants as kind
use Rattle.ep_cs.specs.declared.op.Op.{Op}
use Rattle.ep_cursor.specs.Made.{given}
use Rattle.ep_follow.specs.Gaps.{gather, between, followed, piece, behind, Moves, is_insert, begins_with_insert}

pub gather-inserts : (w x : List Cell) (s : List Step) → gather w (inserts x ++ s) ≡ gather (w ++ x) s
gather-inserts w [] s = ap (λ v. gather v s) (sym (append-nil w))
gather-inserts w (c ∷ x) s = gather-inserts (w ++ c ∷ []) x s ∙ ap (λ v. gather v s) (append_assoc w (c ∷ []) x)

gather-piece : (w : List Cell) (s : List Step) → gather w s ≡ gather (w ++ piece s) (behind s)
gather-piece w [] = ap (λ v. gather v []) (sym (append-nil w))
gather-piece w (Insert c ∷ s) = gather-piece (w ++ c ∷ []) s ∙ ap (λ v. gather v (behind s)) (append_assoc w (c ∷ []) (piece s))
gather-piece w (Pass f ∷ s) = ap (λ v. gather v (Pass f ∷ s)) (sym (append-nil w))

passed-behind : (s : List Step) → passed (behind s) ≡ passed s
passed-behind [] = refl
passed-behind (Insert c ∷ s) = passed-behind s
passed-behind (Pass f ∷ s) = refl

abbrev no_insert : List Step → Bool
no_insert [] = true
no_insert (Insert c ∷ s) = false
no_insert (Pass f ∷ s) = true

no_insert-behind : (s : List Step) → no_insert (behind s) ≡ true
no_insert-behind [] = refl
no_insert-behind (Insert c ∷ s) = no_insert-behind s
no_insert-behind (Pass f ∷ s) = refl

no_gap : (side : Bool) → follow_gap side [] [] ≡ []
no_gap true = refl
no_gap false = refl

-- what waits in a gap, before the next place
waiting : (side : Bool) (x y : List Cell) (s t : List Step) → no_insert s ≡ true → no_insert t ≡ true → passed s ≡ passed t → between side (gather x s) (gather y t) ≡ follow_gap side x y ++ followed side s t
waiting side x y [] [] h k e = sym (ap (λ g. follow_gap side x y ++ g) (no_gap side) ∙ append-nil (follow_gap side x y))
waiting side x y [] (Insert c ∷ t) h k e = absurd (subst T (sym k) tt)
waiting side x y [] (Pass g ∷ t) h k e = absurd (omega (arith, e))
waiting side x y (Insert c ∷ s) t h k e = absurd (subst T (sym h) tt)
waiting side x y (Pass f ∷ s) [] h k e = absurd (omega (arith, e))
waiting side x y (Pass f ∷ s) (Insert c ∷ t) h k e = absurd (subst T (sym k) tt)
waiting side x y (Pass f ∷ s) (Pass g ∷ t) h k e = ap (λ gap. follow_gap side x y ++ (gap ++ (follow_place f g ++ followed side s t))) (sym (no_gap side))

-- the next gap, and what follows behind it
pub followed_gap : (side : Bool) (s t : List Step) → passed s ≡ passed t → followed side s t ≡ follow_gap side (piece s) (piece t) ++ followed side (behind s) (behind t)
followed_gap side s t e =
    (λ i. between side (gather-piece [] s i) (gather-piece [] t i))
    ∙ waiting side (piece s) (piece t) (behind s) (behind t) (no_insert-behind s) (no_insert-behind t) (passed-behind s ∙ e ∙ sym (passed-behind t))

-- what follows at so many places of one fate in both
abbrev pub run_of : ℕ → Fate → Fate → List Step
run_of k Drop g = []
run_of k (Keep a) Drop = replicate k (Pass Drop)
run_of k (Keep a) (Keep b) = replicate k (Pass (Keep (rest a b)))

no_run : (f g : Fate) → run_of 0 f g ≡ []
no_run Drop g = refl
no_run (Keep a) Drop = refl
no_run (Keep a) (Keep b) = refl

one_more : (k : ℕ) (f g : Fate) (t : List Step) → follow_place f g ++ (run_of k f g ++ t) ≡ run_of (suc k) f g ++ t
one_more k Drop g t = refl
one_more k (Keep a) Drop t = refl
one_more k (Keep a) (Keep b) t = refl

pub followed_runs : (side : Bool) (k : ℕ) (f g : Fate) (s t : List Step) → followed side (replicate k (Pass f) ++ s) (replicate k (Pass g) ++ t) ≡ run_of k f g ++ followed side s t
followed_runs side zero f g s t = ap (λ r. r ++ followed side s t) (sym (no_run f g))
followed_runs side (suc k) f g s t =
    ap (λ gap. gap ++ (follow_place f g ++ followed side (replicate k (Pass f) ++ s) (replicate k (Pass g) ++ t))) (no_gap side)
    ∙ ap (λ r. follow_place f g ++ r) (followed_runs side k f g s t)
    ∙ one_more k f g (followed side s t)

pub passes_are : (cs : List Cell) → passes cs ≡ rest_kept (length cs)
passes_are [] = refl
passes_are (c ∷ cs) = ap (λ s. Pass (Keep none) ∷ s) (passes_are cs)

-- the second change inserts nothing
last_gap : (side : Bool) (w : List Cell) → follow_gap side w [] ≡ rest_kept (length w)
last_gap side w = go (goes_first side w []) ∙ passes_are w
  where
    go : (b : Bool) → cond b (passes w ++ []) (passes w) ≡ passes w
    go true = append-nil (passes w)
    go false = refl

rest_and : (a b c : ℕ) → c ≡ a + b → rest_kept a ++ rest_kept b ≡ rest_kept c
rest_and a b c e = replicate-append-replicate a b (Pass (Keep none)) ∙ ap rest_kept (sym e)

-- where the second change keeps all that is left, all that the first makes is kept
kept_behind : (side : Bool) (w : List Cell) (s : List Step) (r : ℕ) → passed s ≡ r → between side (gather w s) (gather [] (rest_kept r)) ≡ rest_kept (length w + given s)
kept_behind side w [] zero e = last_gap side w ∙ ap rest_kept (omega arith)
kept_behind side w [] (suc r) e = absurd (omega (arith, e))
kept_behind side w (Insert c ∷ s) r e = kept_behind side (w ++ c ∷ []) s r e ∙ ap rest_kept (omega (arith, length-append w (c ∷ [])))
kept_behind side w (Pass f ∷ s) zero e = absurd (omega (arith, e))
kept_behind side w (Pass Drop ∷ s) (suc r) e =
    ap₂ (λ (x y : List Step). x ++ y) (last_gap side w) (kept_behind side [] s r (omega (arith, e))) ∙ rest_and (length w) (0 + given s) (length w + given s) (omega arith)
kept_behind side w (Pass (Keep m) ∷ s) (suc r) e =
    ap₂ (λ (x y : List Step). x ++ (Pass (Keep (rest m none)) ∷ y)) (last_gap side w) (kept_behind side [] s r (omega (arith, e)))
    ∙ ap (λ k. rest_kept (length w) ++ (Pass (Keep k) ∷ rest_kept (0 + given s))) (rest-none m)
    ∙ rest_and (length w) (suc (0 + given s)) (length w + suc (given s)) (omega arith)

pub followed_rest : (side : Bool) (s : List Step) (r : ℕ) → passed s ≡ r → followed side s (rest_kept r) ≡ rest_kept (given s)
followed_rest side s r e = kept_behind side [] s r e ∙ ap rest_kept (omega arith)

-- ---- pieces

pub piece-inserts : (x : List Cell) (s : List Step) → piece (inserts x ++ s) ≡ x ++ piece s
piece-inserts [] s = refl
piece-inserts (c ∷ x) s = ap (λ cs. c ∷ cs) (piece-inserts x s)

behind-inserts : (x : List Cell) (s : List Step) → behind (inserts x ++ s) ≡ behind s
behind-inserts [] s = refl
behind-inserts (c ∷ x) s = behind-inserts x s

-- a front of a piece is taken
pub keep_moves : (out out' from from' : List Step) (x : List Cell) → out' ≡ out ++ passes x → from ≡ inserts x ++ from' → Moves passes out from out' from'
keep_moves out out' from from' x o e = record {
  same =
      ap (λ s. s ++ passes (piece from')) o ∙ append_assoc out (passes x) (passes (piece from'))
      ∙ ap (λ s. out ++ s) (sym (map-append (λ _. Pass (Keep none)) x (piece from')) ∙ ap passes (sym (piece-inserts x from')) ∙ ap (λ s. passes (piece s)) (sym e));
  behind = sym (behind-inserts x from') ∙ ap behind (sym e);
}

pub insert_moves : (out out' from from' : List Step) (x : List Cell) → out' ≡ out ++ inserts x → from ≡ inserts x ++ from' → Moves inserts out from out' from'
insert_moves out out' from from' x o e = record {
  same =
      ap (λ s. s ++ inserts (piece from')) o ∙ append_assoc out (inserts x) (inserts (piece from'))
      ∙ ap (λ s. out ++ s) (sym (map-append Insert x (piece from')) ∙ ap inserts (sym (piece-inserts x from')) ∙ ap (λ s. inserts (piece s)) (sym e));
  behind = sym (behind-inserts x from') ∙ ap behind (sym e);
}

-- no insert stands first
pub no_piece : (ops : List Op) (bank : Text) (r : ℕ) → begins_with_insert ops ≡ false → AreWritten ops bank → (piece (steps_of ops bank ++ rest_kept r) ≡ []) × (behind (steps_of ops bank ++ rest_kept r) ≡ steps_of ops bank ++ rest_kept r)
no_piece [] bank zero e w = (refl, refl)
no_piece [] bank (suc r) e w = (refl, refl)
no_piece (o ∷ os) bank r e w = go o.kind o.units e w.0
  where
    go : (k : Kind) (n : ℕ) → is_insert k ≡ false → IsWritten k n o.attrs (take (inserted k n) bank)
        → (piece (steps_of (record { kind = k; units = n; lines = o.lines; attrs = o.attrs } ∷ os) bank ++ rest_kept r) ≡ [])
        × (behind (steps_of (record { kind = k; units = n; lines = o.lines; attrs = o.attrs } ∷ os) bank ++ rest_kept r) ≡ steps_of (record { kind = k; units = n; lines = o.lines; attrs = o.attrs } ∷ os) bank ++ rest_kept r)
    go kind.Keep zero e w = absurd (omega (arith, w))
    go kind.Keep (suc n) e w = (refl, refl)
    go kind.Drop zero e w = absurd (omega (arith, w.0))
    go kind.Drop (suc n) e w = (refl, refl)
    go kind.Insert n e w = absurd (subst T e tt)

pub length-behind : (s : List Step) → length (behind s) + length (piece s) ≡ length s
length-behind [] = refl
length-behind (Insert c ∷ s) = omega (arith, length-behind s)
length-behind (Pass f ∷ s) = omega arith

-- where all of a piece is taken
pub all_taken : (write : List Cell → List Step) → write [] ≡ [] → (out from out' from' : List Step) → Moves write out from out' from' → piece from' ≡ [] → behind from' ≡ from' → (out' ≡ out ++ write (piece from)) × (from' ≡ behind from)
all_taken write none_written out from out' from' m e b =
    (sym (append-nil out') ∙ ap (λ s. out' ++ s) (sym (ap write e ∙ none_written)) ∙ m.same, sym b ∙ m.behind)

-- ---- both pieces of a gap are taken

gap_of : (side : Bool) (sa sb : List Step) (t : Bool) → goes_first side (piece sa) (piece sb) ≡ t → passed sa ≡ passed sb
    → followed side sa sb ≡ cond t (passes (piece sa) ++ inserts (piece sb)) (inserts (piece sb) ++ passes (piece sa)) ++ followed side (behind sa) (behind sb)
gap_of side sa sb t e level =
    followed_gap side sa sb level
    ∙ ap (λ t. cond t (passes (piece sa) ++ inserts (piece sb)) (inserts (piece sb) ++ passes (piece sa)) ++ followed side (behind sa) (behind sb)) e

two_more : (out mid end x y t : List Step) → mid ≡ out ++ x → end ≡ mid ++ y → end ++ t ≡ out ++ ((x ++ y) ++ t)
two_more out mid end x y t m e =
    ap (λ s. s ++ t) (e ∙ ap (λ s. s ++ y) m ∙ append_assoc out x y) ∙ append_assoc out (x ++ y) t

pub first_then_second : (side : Bool) (out mid end sa sa' sb sb' : List Step) → goes_first side (piece sa) (piece sb) ≡ true → passed sa ≡ passed sb
    → mid ≡ out ++ passes (piece sa) → sa' ≡ behind sa → end ≡ mid ++ inserts (piece sb) → sb' ≡ behind sb
    → end ++ followed side sa' sb' ≡ out ++ followed side sa sb
first_then_second side out mid end sa sa' sb sb' t level m ea e eb =
    (λ i. end ++ followed side (ea i) (eb i))
    ∙ two_more out mid end (passes (piece sa)) (inserts (piece sb)) (followed side (behind sa) (behind sb)) m e
    ∙ ap (λ s. out ++ s) (sym (gap_of side sa sb true t level))

pub second_then_first : (side : Bool) (out mid end sa sa' sb sb' : List Step) → goes_first side (piece sa) (piece sb) ≡ false → passed sa ≡ passed sb
    → mid ≡ out ++ inserts (piece sb) → sb' ≡ behind sb → end ≡ mid ++ passes (piece sa) → sa' ≡ behind sa
    → end ++ followed side sa' sb' ≡ out ++ followed side sa sb
second_then_first side out mid end sa sa' sb sb' t level m eb e ea =
    (λ i. end ++ followed side (ea i) (eb i))
    ∙ two_more out mid end (inserts (piece sb)) (passes (piece sa)) (followed side (behind sa) (behind sb)) m e
    ∙ ap (λ s. out ++ s) (sym (gap_of side sa sb false t level))

-- ---- a run of the one piece of a gap is taken

level_on : (from from' s : List Step) → behind from' ≡ behind from → passed from ≡ passed s → passed from' ≡ passed s
level_on from from' s e level = sym (passed-behind from') ∙ ap passed e ∙ passed-behind from ∙ level

no_second : (side : Bool) (x : List Cell) → follow_gap side x [] ≡ passes x
no_second side x = go (goes_first side x [])
  where
    go : (t : Bool) → cond t (passes x ++ []) ([] ++ passes x) ≡ passes x
    go true = append-nil (passes x)
    go false = refl

no_first : (side : Bool) (y : List Cell) → follow_gap side [] y ≡ inserts y
no_first side y = go (goes_first side [] y)
  where
    go : (t : Bool) → cond t ([] ++ inserts y) (inserts y ++ []) ≡ inserts y
    go true = refl
    go false = append-nil (inserts y)

-- where only the first inserts, its piece is kept
gap_of_first : (side : Bool) (sa sb : List Step) → piece sb ≡ [] → passed sa ≡ passed sb → followed side sa sb ≡ passes (piece sa) ++ followed side (behind sa) (behind sb)
gap_of_first side sa sb e level =
    followed_gap side sa sb level
    ∙ ap (λ t. t ++ followed side (behind sa) (behind sb)) (ap (follow_gap side (piece sa)) e ∙ no_second side (piece sa))

gap_of_second : (side : Bool) (sa sb : List Step) → piece sa ≡ [] → passed sa ≡ passed sb → followed side sa sb ≡ inserts (piece sb) ++ followed side (behind sa) (behind sb)
gap_of_second side sa sb e level =
    followed_gap side sa sb level
    ∙ ap (λ t. t ++ followed side (behind sa) (behind sb)) (ap (λ x. follow_gap side x (piece sb)) e ∙ no_first side (piece sb))

pub kept_run : (side : Bool) (out out' sa sa' sb : List Step) → Moves passes out sa out' sa' → piece sb ≡ [] → passed sa ≡ passed sb → out' ++ followed side sa' sb ≡ out ++ followed side sa sb
kept_run side out out' sa sa' sb m e level =
    ap (λ t. out' ++ t) (gap_of_first side sa' sb e (level_on sa sa' sb m.behind level) ∙ ap (λ s. passes (piece sa') ++ followed side s (behind sb)) m.behind)
    ∙ sym (append_assoc out' (passes (piece sa')) (followed side (behind sa) (behind sb)))
    ∙ ap (λ s. s ++ followed side (behind sa) (behind sb)) m.same
    ∙ append_assoc out (passes (piece sa)) (followed side (behind sa) (behind sb))
    ∙ ap (λ t. out ++ t) (sym (gap_of_first side sa sb e level))

pub inserted_run : (side : Bool) (out out' sa sb sb' : List Step) → Moves inserts out sb out' sb' → piece sa ≡ [] → passed sa ≡ passed sb → out' ++ followed side sa sb' ≡ out ++ followed side sa sb
inserted_run side out out' sa sb sb' m e level =
    ap (λ t. out' ++ t) (gap_of_second side sa sb' e (sym (level_on sb sb' sa m.behind (sym level))) ∙ ap (λ s. inserts (piece sb') ++ followed side (behind sa) s) m.behind)
    ∙ sym (append_assoc out' (inserts (piece sb')) (followed side (behind sa) (behind sb)))
    ∙ ap (λ s. s ++ followed side (behind sa) (behind sb)) m.same
    ∙ append_assoc out (inserts (piece sb)) (followed side (behind sa) (behind sb))
    ∙ ap (λ t. out ++ t) (sym (gap_of_second side sa sb e level))
