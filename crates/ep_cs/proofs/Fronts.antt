-- Runs that are written in any order and pieces, and the normal ones.
use Rattle.std.proofs.Common.{◌≡◌, ℕ, zero, suc, ◌+◌, ◌-◌, Bool, true, false, cond, not, ◌&&◌, ◌||◌, nat_lt, List, [], ◌∷◌, ◌++◌, take, drop, refl, sym, ap, ◌∙◌, subst, arith, append_assoc}
use Rattle.ep_units.specs.Text.{Text, is_newline}
use Rattle.ep_attr.specs.AttrMap.{AttrMap, none, is_none, same_map}
use Rattle.ep_attr.proofs.SameMap.{exact_map}
use Rattle.ep_cs.specs.Doc.{Cell}
use Rattle.ep_cs.specs.Edit.{settle}
use Rattle.ep_cs.specs.declared.op.Kind.{Kind}
use Rattle.ep_cs.specs.declared.op.Kind.TheVariants as kind
use Rattle.ep_cs.specs.declared.op.Op.{Op}
use Rattle.ep_cs.specs.Runs.{cells, inserted, run_steps, op_steps, steps_of, run_marks, marks_of, all_passed, rest_kept}
use Rattle.ep_cs.specs.Normal.{same_kind, joins, joined, put, one, put_cells}
use Rattle.ep_cs.specs.Change.{change_of}
use Rattle.ep_cs.specs.Written.{Front, front_of, put_front, normal_of, IsWritten, AreWritten}
use Rattle.ep_cs.proofs.Put.{run}
use Rattle.ep_cs.proofs.Canonical.{runs_in, keep_is, drop_is, settle-inserts, put_cells-append, rest_after}

-- ---- the drops before the rest

abbrev pub AreDrops : List Op → Type 0
AreDrops [] = Unit {0}
AreDrops (d ∷ ds) = (d.kind ≡ kind.Drop) × (d.attrs ≡ none) × AreDrops ds

abbrev pub head_is_drop : Kind → Bool
head_is_drop kind.Keep = false
head_is_drop kind.Drop = true
head_is_drop kind.Insert = false

-- what drops don't join
abbrev pub NoDrop : List Op → Type 0
NoDrop [] = Unit {0}
NoDrop (o ∷ os) = head_is_drop o.kind ≡ false

put_drops : (n l : ℕ) (ds : List Op) → AreDrops ds → AreDrops (put (run kind.Drop n l none) ds)
put_drops n l [] h = (refl, refl, tt)
put_drops n l (d ∷ ds) h = elim (joins (run kind.Drop n l none) d) as (λ b. AreDrops (cond b (joined (run kind.Drop n l none) d ∷ ds) (run kind.Drop n l none ∷ (d ∷ ds)))) [ true ↦ h | false ↦ (refl, refl, h) ]

drop_alone : (n l : ℕ) (xs : List Op) → NoDrop xs → put (run kind.Drop n l none) xs ≡ run kind.Drop n l none ∷ xs
drop_alone n l [] h = refl
drop_alone n l (x ∷ xs) h = go x.kind h
  where
    go : (k : Kind) → head_is_drop k ≡ false → cond (same_kind kind.Drop k && (same_map none x.attrs && (nat_lt 0 x.lines || not (nat_lt 0 l)))) (joined (run kind.Drop n l none) x ∷ xs) (run kind.Drop n l none ∷ (x ∷ xs)) ≡ run kind.Drop n l none ∷ (x ∷ xs)
    go kind.Keep e = refl
    go kind.Drop e = absurd cc
    go kind.Insert e = refl

pub put-drops : (n l : ℕ) (ds xs : List Op) → NoDrop xs → put (run kind.Drop n l none) (ds ++ xs) ≡ put (run kind.Drop n l none) ds ++ xs
put-drops n l [] xs h = drop_alone n l xs h
put-drops n l (d ∷ ds) xs h = elim (joins (run kind.Drop n l none) d) as (λ b. cond b (joined (run kind.Drop n l none) d ∷ (ds ++ xs)) (run kind.Drop n l none ∷ (d ∷ (ds ++ xs))) ≡ cond b (joined (run kind.Drop n l none) d ∷ ds) (run kind.Drop n l none ∷ (d ∷ ds)) ++ xs) [ true ↦ refl | false ↦ refl ]

pub insert_kind : (m : AttrMap) (l : ℕ) (p : Op) → joins (one kind.Insert m l) p ≡ true → (p.kind ≡ kind.Insert) × (m ≡ p.attrs) × ((nat_lt 0 p.lines || not (nat_lt 0 l)) ≡ true)
insert_kind m l p e = go p.kind e
  where
    go : (k : Kind) → (same_kind kind.Insert k && (same_map m p.attrs && (nat_lt 0 p.lines || not (nat_lt 0 l)))) ≡ true → (k ≡ kind.Insert) × (m ≡ p.attrs) × ((nat_lt 0 p.lines || not (nat_lt 0 l)) ≡ true)
    go kind.Keep e = absurd cc
    go kind.Drop e = absurd cc
    go kind.Insert e = inner (same_map m p.attrs) refl e
      where
        inner : (b : Bool) → same_map m p.attrs ≡ b → (b && (nat_lt 0 p.lines || not (nat_lt 0 l))) ≡ true → (kind.Insert ≡ kind.Insert) × (m ≡ p.attrs) × ((nat_lt 0 p.lines || not (nat_lt 0 l)) ≡ true)
        inner true b e = (refl, exact_map m p.attrs b, e)
        inner false b e = absurd cc

put_no_drop : (m : AttrMap) (l : ℕ) (xs : List Op) → NoDrop (put (one kind.Insert m l) xs)
put_no_drop m l [] = refl
put_no_drop m l (p ∷ ps) = go (joins (one kind.Insert m l) p) refl
  where
    go : (b : Bool) → joins (one kind.Insert m l) p ≡ b → NoDrop (cond b (joined (one kind.Insert m l) p ∷ ps) (one kind.Insert m l ∷ (p ∷ ps)))
    go true e = ap head_is_drop (insert_kind m l p e).0
    go false e = refl

pub cells_no_drop : (cs : List Cell) (xs : List Op) → NoDrop xs → NoDrop (put_cells cs xs)
cells_no_drop [] xs h = h
cells_no_drop (c ∷ cs) xs h = put_no_drop c.attrs (cond (is_newline c.unit) 1 0) (put_cells cs xs)

keep_no_drop : (n l : ℕ) (m : AttrMap) (xs : List Op) → NoDrop (put (run kind.Keep n l m) xs)
keep_no_drop n l m [] = elim (is_none m) as (λ b. NoDrop (cond b [] (run kind.Keep n l m ∷ []))) [ true ↦ tt | false ↦ refl ]
keep_no_drop n l m (p ∷ ps) = go p.kind
  where
    go : (k : Kind) → NoDrop (cond (same_kind kind.Keep k && (same_map m p.attrs && (nat_lt 0 p.lines || not (nat_lt 0 l)))) (record { kind = k; units = n + p.units; lines = l + p.lines; attrs = p.attrs } ∷ ps) (run kind.Keep n l m ∷ (p ∷ ps)))
    go kind.Keep = elim (same_map m p.attrs && (nat_lt 0 p.lines || not (nat_lt 0 l))) as (λ b. NoDrop (cond b (record { kind = kind.Keep; units = n + p.units; lines = l + p.lines; attrs = p.attrs } ∷ ps) (run kind.Keep n l m ∷ (p ∷ ps)))) [ true ↦ refl | false ↦ refl ]
    go kind.Drop = refl
    go kind.Insert = refl

pub record IsFront (f : Front) : Type 0 where
  pub drops : AreDrops f.drops
  pub rest : NoDrop f.rest

pub is_front : (ops : List Op) (bank : Text) → AreWritten ops bank → IsFront (front_of ops bank)
is_front [] bank h = record { drops = tt; rest = tt }
is_front (o ∷ os) bank h = go o.kind o.attrs h.0 (is_front os (drop (inserted o.kind o.units) bank) h.1)
  where
    go : (k : Kind) (m : AttrMap) → IsWritten k o.units m (take (inserted o.kind o.units) bank) → IsFront (front_of os (drop (inserted o.kind o.units) bank)) → IsFront (put_front k (run k o.units o.lines m) (take (inserted o.kind o.units) bank) (front_of os (drop (inserted o.kind o.units) bank)))
    go kind.Keep m is f = record { drops = tt; rest = keep_no_drop o.units o.lines m _ }
    go kind.Drop m is f = record { drops = subst (λ m. AreDrops (put (run kind.Drop o.units o.lines m) (front_of os (drop (inserted o.kind o.units) bank)).drops)) (sym is.1) (put_drops o.units o.lines _ f.drops); rest = f.rest }
    go kind.Insert m is f = record { drops = f.drops; rest = cells_no_drop (cells m (take (inserted o.kind o.units) bank)) _ f.rest }

-- the runs of what is written are the normal ones
pub runs_are : (ops : List Op) (bank : Text) (w : List Cell) (r : ℕ) → AreWritten ops bank
    → runs_in (settle w (steps_of ops bank ++ rest_kept r)) (marks_of ops) ≡ (front_of ops bank).drops ++ put_cells w (front_of ops bank).rest
runs_are [] bank w r h = rest_after w r
runs_are (o ∷ os) bank w r h =
    let text = take (inserted o.kind o.units) bank in
    let later = drop (inserted o.kind o.units) bank in
    ap (λ steps. runs_in (settle w steps) (run_marks o.kind o.units o.lines ++ marks_of os)) (append_assoc (op_steps o text) (steps_of os later) (rest_kept r))
    ∙ go o.kind o.units o.attrs text h.0 (is_front os later h.1) (λ v. runs_are os later v r h.1)
  where
    go : (k : Kind) (n : ℕ) (m : AttrMap) (text : Text) → IsWritten k n m text → IsFront (front_of os (drop (inserted o.kind o.units) bank))
        → ((v : List Cell) → runs_in (settle v (steps_of os (drop (inserted o.kind o.units) bank) ++ rest_kept r)) (marks_of os) ≡ (front_of os (drop (inserted o.kind o.units) bank)).drops ++ put_cells v (front_of os (drop (inserted o.kind o.units) bank)).rest)
        → runs_in (settle w (run_steps k n m text ++ (steps_of os (drop (inserted o.kind o.units) bank) ++ rest_kept r))) (run_marks k n o.lines ++ marks_of os)
        ≡ (put_front k (run k n o.lines m) text (front_of os (drop (inserted o.kind o.units) bank))).drops ++ put_cells w (put_front k (run k n o.lines m) text (front_of os (drop (inserted o.kind o.units) bank))).rest
    go kind.Keep zero m text is front again = absurd (omega arith)
    go kind.Drop zero m text is front again = absurd (omega (arith, is.0))
    go kind.Keep (suc n) m text is front again =
        keep_is w n o.lines m (marks_of os) _ ∙ ap (λ ops. put_cells w (put (run kind.Keep (suc n) o.lines m) ops)) (again [])
    go kind.Drop (suc n) m text is front again =
        drop_is w n o.lines (marks_of os) _ ∙ ap (put (run kind.Drop (suc n) o.lines none)) (again w)
        ∙ put-drops (suc n) o.lines (front_of os (drop (inserted o.kind o.units) bank)).drops (put_cells w (front_of os (drop (inserted o.kind o.units) bank)).rest) (cells_no_drop w _ front.rest)
        ∙ ap (λ m. put (run kind.Drop (suc n) o.lines m) (front_of os (drop (inserted o.kind o.units) bank)).drops ++ put_cells w (front_of os (drop (inserted o.kind o.units) bank)).rest) (sym is.1)
    go kind.Insert n m text is front again =
        ap (λ e. runs_in e (marks_of os)) (settle-inserts w (cells m text) _) ∙ again (w ++ cells m text)
        ∙ ap (λ ops. (front_of os (drop (inserted o.kind o.units) bank)).drops ++ ops) (put_cells-append w (cells m text) (front_of os (drop (inserted o.kind o.units) bank)).rest)

-- what is written is a change whose runs are those
pub runs_of_written : (n : ℕ) (ops : List Op) (bank : Text) → AreWritten ops bank → (change_of n ops bank).runs ≡ normal_of ops bank
runs_of_written n ops bank h = runs_are ops bank [] (n - all_passed ops) h
