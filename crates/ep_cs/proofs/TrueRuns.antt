-- The runs of an edit are true of the places that they were made for.
use Rattle.std.proofs.Common.{◌≡◌, ℕ, zero, suc, ◌+◌, ◌≤◌, Bool, true, false, cond, ◌&&◌, ◌⊎◌, inl, inr, List, [], ◌∷◌, length, take, drop, refl, sym, ap, subst, arith}
use Rattle.ep_units.specs.Text.{Text, is_newline}
use Rattle.ep_attr.specs.AttrMap.{AttrMap, none, is_none, same_map}
use Rattle.ep_cs.specs.Doc.{Cell}
use Rattle.ep_cs.specs.Edit.{Fate, Place}
use Rattle.ep_cs.specs.Edit.Fate.{Drop, Keep}
use Rattle.ep_cs.specs.declared.op.Kind.{Kind}
use Rattle.ep_cs.specs.declared.op.Kind.TheVariants as kind
use Rattle.ep_cs.specs.declared.op.Op.{Op}
use Rattle.ep_cs.specs.Runs.{passed}
use Rattle.ep_cs.specs.Normal.{same_kind, joins, joined, put, one, put_cells, put_place, runs_from}
use Rattle.ep_cs.specs.NormalRuns.{IsLined, IsTrueRun, AreTrue}
use Rattle.ep_cs.specs.Change.{newlines}
use Rattle.ep_cs.proofs.Put.{run, lined, lined_is}
use Rattle.ep_cs.proofs.Canonical.{IsLined-before}
use Rattle.ep_cs.proofs.Fronts.{insert_kind}

-- runs are true of places that hold so many newlines each
abbrev IsTrueOf : Kind → ℕ → ℕ → List ℕ → Type 0
IsTrueOf kind.Keep n lines ks = (1 ≤ n) × IsLined lines ks
IsTrueOf kind.Drop n lines ks = (1 ≤ n) × IsLined lines ks
IsTrueOf kind.Insert n lines ks = Unit {0}

abbrev AreTrueOf : List Op → List ℕ → Type 0
AreTrueOf [] ks = Unit {0}
AreTrueOf (o ∷ os) ks = IsTrueOf o.kind o.units o.lines (take (passed o.kind o.units) ks) × AreTrueOf os (drop (passed o.kind o.units) ks)

none_or_more : (l p : ℕ) → lined p l ≡ true → (l ≡ 0) ⊎ (1 ≤ p)
none_or_more l p e = elim (lined_is p l e) as (λ _. (l ≡ 0) ⊎ (1 ≤ p)) [ inl h ↦ inr h | inr z ↦ inl z ]

-- a place that is kept, before runs that are true of the places after it
keep_true : (m : AttrMap) (mark : ℕ) (os : List Op) (ks : List ℕ) → AreTrueOf os ks → AreTrueOf (put (one kind.Keep m mark) os) (mark ∷ ks)
keep_true m mark [] ks h = elim (is_none m) as (λ b. AreTrueOf (cond b [] (one kind.Keep m mark ∷ [])) (mark ∷ ks)) [ true ↦ tt | false ↦ ((omega arith, refl), tt) ]
keep_true m mark (p ∷ ps) ks h = go p.kind p.units h
  where
    joined_true : (u : ℕ) (b c : Bool) → lined p.lines mark ≡ c → AreTrueOf (run kind.Keep u p.lines p.attrs ∷ ps) ks
        → AreTrueOf (cond (b && c) (run kind.Keep (1 + u) (mark + p.lines) p.attrs ∷ ps) (one kind.Keep m mark ∷ (run kind.Keep u p.lines p.attrs ∷ ps))) (mark ∷ ks)
    joined_true u true true e h =
        let s : suc u ≡ 1 + u = omega arith in
        subst (λ (n : ℕ). ((1 ≤ n) × IsLined (mark + p.lines) (take n (mark ∷ ks))) × AreTrueOf ps (drop n (mark ∷ ks))) s ((omega arith, IsLined-before mark p.lines (take u ks) h.0.1 (none_or_more mark p.lines e)), h.1)
    joined_true u true false e h = ((omega arith, refl), h)
    joined_true u false c e h = ((omega arith, refl), h)

    go : (k : Kind) (u : ℕ) → AreTrueOf (run k u p.lines p.attrs ∷ ps) ks
        → AreTrueOf (cond (same_kind kind.Keep k && (same_map m p.attrs && lined p.lines mark)) (run k (1 + u) (mark + p.lines) p.attrs ∷ ps) (one kind.Keep m mark ∷ (run k u p.lines p.attrs ∷ ps))) (mark ∷ ks)
    go kind.Keep u h = joined_true u (same_map m p.attrs) (lined p.lines mark) refl h
    go kind.Drop u h = ((omega arith, refl), h)
    go kind.Insert u h = ((omega arith, refl), h)

-- a place that is dropped, before runs that are true of the places after it
drop_true : (m : AttrMap) (mark : ℕ) (os : List Op) (ks : List ℕ) → AreTrueOf os ks → AreTrueOf (put (one kind.Drop m mark) os) (mark ∷ ks)
drop_true m mark [] ks h = ((omega arith, refl), tt)
drop_true m mark (p ∷ ps) ks h = go p.kind p.units h
  where
    joined_true : (u : ℕ) (b c : Bool) → lined p.lines mark ≡ c → AreTrueOf (run kind.Drop u p.lines p.attrs ∷ ps) ks
        → AreTrueOf (cond (b && c) (run kind.Drop (1 + u) (mark + p.lines) p.attrs ∷ ps) (one kind.Drop m mark ∷ (run kind.Drop u p.lines p.attrs ∷ ps))) (mark ∷ ks)
    joined_true u true true e h =
        let s : suc u ≡ 1 + u = omega arith in
        subst (λ (n : ℕ). ((1 ≤ n) × IsLined (mark + p.lines) (take n (mark ∷ ks))) × AreTrueOf ps (drop n (mark ∷ ks))) s ((omega arith, IsLined-before mark p.lines (take u ks) h.0.1 (none_or_more mark p.lines e)), h.1)
    joined_true u true false e h = ((omega arith, refl), h)
    joined_true u false c e h = ((omega arith, refl), h)

    go : (k : Kind) (u : ℕ) → AreTrueOf (run k u p.lines p.attrs ∷ ps) ks
        → AreTrueOf (cond (same_kind kind.Drop k && (same_map m p.attrs && lined p.lines mark)) (run k (1 + u) (mark + p.lines) p.attrs ∷ ps) (one kind.Drop m mark ∷ (run k u p.lines p.attrs ∷ ps))) (mark ∷ ks)
    go kind.Keep u h = ((omega arith, refl), h)
    go kind.Drop u h = joined_true u (same_map m p.attrs) (lined p.lines mark) refl h
    go kind.Insert u h = ((omega arith, refl), h)

-- an inserted unit before runs that are true of the places after it
unit_true : (m : AttrMap) (l : ℕ) (os : List Op) (ks : List ℕ) → AreTrueOf os ks → AreTrueOf (put (one kind.Insert m l) os) ks
unit_true m l [] ks h = (tt, tt)
unit_true m l (p ∷ ps) ks h = go (joins (one kind.Insert m l) p) refl
  where
    go : (b : Bool) → joins (one kind.Insert m l) p ≡ b → AreTrueOf (cond b (joined (one kind.Insert m l) p ∷ ps) (one kind.Insert m l ∷ (p ∷ ps))) ks
    go true e =
        let k = (insert_kind m l p e).0 in
        let rest : AreTrueOf ps ks = subst (λ k. AreTrueOf ps (drop (passed k p.units) ks)) k h.1 in
        (subst (λ k. IsTrueOf k (1 + p.units) (l + p.lines) (take (passed k (1 + p.units)) ks)) (sym k) tt, subst (λ k. AreTrueOf ps (drop (passed k (1 + p.units)) ks)) (sym k) rest)
    go false e = (tt, h)

cells_true : (cs : List Cell) (os : List Op) (ks : List ℕ) → AreTrueOf os ks → AreTrueOf (put_cells cs os) ks
cells_true [] os ks h = h
cells_true (c ∷ cs) os ks h = unit_true c.attrs (cond (is_newline c.unit) 1 0) (put_cells cs os) ks (cells_true cs os ks h)

place_true : (f : Fate) (mark : ℕ) (os : List Op) (ks : List ℕ) → AreTrueOf os ks → AreTrueOf (put_place f mark os) (mark ∷ ks)
place_true Drop mark os ks h = drop_true none mark os ks h
place_true (Keep m) mark os ks h = keep_true m mark os ks h

runs_true : (ps : List Place) (last : List Cell) (ks : List ℕ) → length ps ≤ length ks → AreTrueOf (runs_from ps last ks) ks
runs_true [] last ks h = cells_true last [] ks tt
runs_true (p ∷ ps) last [] h = absurd (omega (arith, h))
runs_true (p ∷ ps) last (k ∷ ks) h = cells_true p.before (put_place p.fate k (runs_from ps last ks)) (k ∷ ks) (place_true p.fate k (runs_from ps last ks) ks (runs_true ps last ks (omega (arith, h))))

length-newlines : (us : Text) → length (newlines us) ≡ length us
length-newlines [] = refl
length-newlines (u ∷ us) = ap suc (length-newlines us)

newlines_take : (n : ℕ) (us : Text) → take n (newlines us) ≡ newlines (take n us)
newlines_take zero us = refl
newlines_take (suc n) [] = refl
newlines_take (suc n) (u ∷ us) = ap (λ ks. cond (is_newline u) 1 0 ∷ ks) (newlines_take n us)

newlines_drop : (n : ℕ) (us : Text) → drop n (newlines us) ≡ newlines (drop n us)
newlines_drop zero us = refl
newlines_drop (suc n) [] = refl
newlines_drop (suc n) (u ∷ us) = newlines_drop n us

of_text : (os : List Op) (text : Text) → AreTrueOf os (newlines text) → AreTrue os text
of_text [] text h = tt
of_text (o ∷ os) text h = (go o.kind h.0, of_text os (drop (passed o.kind o.units) text) (subst (AreTrueOf os) (newlines_drop (passed o.kind o.units) text) h.1))
  where
    go : (k : Kind) → IsTrueOf k o.units o.lines (take (passed k o.units) (newlines text)) → IsTrueRun k o.units o.lines (take (passed k o.units) text)
    go kind.Keep is = (is.0, subst (IsLined o.lines) (newlines_take o.units text) is.1)
    go kind.Drop is = (is.0, subst (IsLined o.lines) (newlines_take o.units text) is.1)
    go kind.Insert is = tt

-- the runs of an edit that is stamped with a text are true of it
pub stamped_true : (ps : List Place) (last : List Cell) (text : Text) → length ps ≤ length text → AreTrue (runs_from ps last (newlines text)) text
stamped_true ps last text h = of_text _ text (runs_true ps last (newlines text) (omega (arith, h, length-newlines text)))
