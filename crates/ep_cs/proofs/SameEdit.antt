-- The normal runs do what the written ones do.
use Rattle.std.proofs.Common.{◌≡◌, ℕ, zero, suc, ◌+◌, Bool, true, false, cond, not, ◌&&◌, ◌||◌, nat_lt, List, [], ◌∷◌, ◌++◌, take, drop, refl, sym, ap, ◌∙◌, arith, append_assoc, take-append-drop}
use Rattle.std.proofs.lemmas.List.{replicate-append-replicate}
use Rattle.ep_units.specs.Text.{Text, is_newline}
use Rattle.ep_attr.specs.AttrMap.{AttrMap, none, is_none, same_map}
use Rattle.ep_attr.proofs.SameMap.{exact_map}
use Rattle.ep_cs.specs.Doc.{Cell}
use Rattle.ep_cs.specs.Edit.{Fate, Step, inserts, settle, with_place}
use Rattle.ep_cs.specs.Edit.Fate.{Drop, Keep}
use Rattle.ep_cs.specs.Edit.Step.{Insert, Pass}
use Rattle.ep_cs.specs.declared.op.Kind.{Kind}
use Rattle.ep_cs.specs.declared.op.Kind.TheVariants as kind
use Rattle.ep_cs.specs.declared.op.Op.{Op}
use Rattle.ep_cs.specs.Runs.{cells, inserted, steps_of, all_passed, rest_kept}
use Rattle.ep_cs.specs.Normal.{same_kind, put, one, put_cells}
use Rattle.ep_cs.specs.Written.{front_of, put_front, normal_of, IsWritten, AreWritten}
use Rattle.ep_cs.proofs.Put.{run}
use Rattle.ep_cs.proofs.Canonical.{times, settle-inserts}
use Rattle.ep_cs.proofs.Fronts.{AreDrops, IsFront, is_front, put-drops}

times_more : (a b : ℕ) (f : Fate) (t : List Step) → times (a + b) f ++ t ≡ times a f ++ (times b f ++ t)
times_more a b f t = ap (λ s. s ++ t) (sym (replicate-append-replicate a b (Pass f))) ∙ append_assoc (times a f) (times b f) t

-- runs, and what is kept behind them, do these steps
record Does (os : List Op) (bank : Text) (n : ℕ) (steps : List Step) : Type 0 where
  left : ℕ
  all : all_passed os + left ≡ n
  does : steps_of os bank ++ rest_kept left ≡ steps

keep_does : (n l : ℕ) (m : AttrMap) (os : List Op) (bank : Text) (r : ℕ) → Does (put (run kind.Keep n l m) os) bank (n + (all_passed os + r)) (times n (Keep m) ++ (steps_of os bank ++ rest_kept r))
keep_does n l m [] bank r = go (is_none m) refl
  where
    go : (b : Bool) → is_none m ≡ b → Does (cond b [] (run kind.Keep n l m ∷ [])) bank (n + (0 + r)) (times n (Keep m) ++ ([] ++ rest_kept r))
    go true e = record {
      left = n + r;
      all = omega arith;
      does = sym (replicate-append-replicate n r (Pass (Keep none))) ∙ ap (λ m. times n (Keep m) ++ rest_kept r) (sym (exact_map m none e));
    }
    go false e = record { left = r; all = omega arith; does = append_assoc (times n (Keep m)) [] (rest_kept r) }
keep_does n l m (p ∷ ps) bank r = go p.kind
  where
    o : Op
    o = run kind.Keep n l m

    go : (k : Kind) → Does (cond (same_kind kind.Keep k && (same_map m p.attrs && (nat_lt 0 p.lines || not (nat_lt 0 l)))) (run k (n + p.units) (l + p.lines) p.attrs ∷ ps) (run kind.Keep n l m ∷ (run k p.units p.lines p.attrs ∷ ps))) bank
        (n + (all_passed (run k p.units p.lines p.attrs ∷ ps) + r)) (times n (Keep m) ++ (steps_of (run k p.units p.lines p.attrs ∷ ps) bank ++ rest_kept r))
    go kind.Keep = same (same_map m p.attrs) refl (nat_lt 0 p.lines || not (nat_lt 0 l))
      where
        same : (b : Bool) → same_map m p.attrs ≡ b → (c : Bool) → Does (cond (b && c) (run kind.Keep (n + p.units) (l + p.lines) p.attrs ∷ ps) (run kind.Keep n l m ∷ (run kind.Keep p.units p.lines p.attrs ∷ ps))) bank
            (n + (all_passed (run kind.Keep p.units p.lines p.attrs ∷ ps) + r)) (times n (Keep m) ++ (steps_of (run kind.Keep p.units p.lines p.attrs ∷ ps) bank ++ rest_kept r))
        same true e true = record {
          left = r;
          all = omega arith;
          does =
              append_assoc (times (n + p.units) (Keep p.attrs)) (steps_of ps bank) (rest_kept r)
              ∙ times_more n p.units (Keep p.attrs) (steps_of ps bank ++ rest_kept r)
              ∙ ap (λ m. times n (Keep m) ++ (times p.units (Keep p.attrs) ++ (steps_of ps bank ++ rest_kept r))) (sym (exact_map m p.attrs e))
              ∙ ap (λ t. times n (Keep m) ++ t) (sym (append_assoc (times p.units (Keep p.attrs)) (steps_of ps bank) (rest_kept r)));
        }
        same true e false = record { left = r; all = omega arith; does = append_assoc (times n (Keep m)) (steps_of (run kind.Keep p.units p.lines p.attrs ∷ ps) bank) (rest_kept r) }
        same false e c = record { left = r; all = omega arith; does = append_assoc (times n (Keep m)) (steps_of (run kind.Keep p.units p.lines p.attrs ∷ ps) bank) (rest_kept r) }
    go kind.Drop = record { left = r; all = omega arith; does = append_assoc (times n (Keep m)) (steps_of (run kind.Drop p.units p.lines p.attrs ∷ ps) bank) (rest_kept r) }
    go kind.Insert = record { left = r; all = omega arith; does = append_assoc (times n (Keep m)) (steps_of (run kind.Insert p.units p.lines p.attrs ∷ ps) bank) (rest_kept r) }

drop_does : (n l : ℕ) (os : List Op) (bank : Text) (r : ℕ) → Does (put (run kind.Drop n l none) os) bank (n + (all_passed os + r)) (times n Drop ++ (steps_of os bank ++ rest_kept r))
drop_does n l [] bank r = record { left = r; all = omega arith; does = append_assoc (times n Drop) [] (rest_kept r) }
drop_does n l (p ∷ ps) bank r = go p.kind
  where
    go : (k : Kind) → Does (cond (same_kind kind.Drop k && (same_map none p.attrs && (nat_lt 0 p.lines || not (nat_lt 0 l)))) (run k (n + p.units) (l + p.lines) p.attrs ∷ ps) (run kind.Drop n l none ∷ (run k p.units p.lines p.attrs ∷ ps))) bank
        (n + (all_passed (run k p.units p.lines p.attrs ∷ ps) + r)) (times n Drop ++ (steps_of (run k p.units p.lines p.attrs ∷ ps) bank ++ rest_kept r))
    go kind.Keep = record { left = r; all = omega arith; does = append_assoc (times n Drop) (steps_of (run kind.Keep p.units p.lines p.attrs ∷ ps) bank) (rest_kept r) }
    go kind.Drop = same (same_map none p.attrs && (nat_lt 0 p.lines || not (nat_lt 0 l)))
      where
        same : (b : Bool) → Does (cond b (run kind.Drop (n + p.units) (l + p.lines) p.attrs ∷ ps) (run kind.Drop n l none ∷ (run kind.Drop p.units p.lines p.attrs ∷ ps))) bank
            (n + (all_passed (run kind.Drop p.units p.lines p.attrs ∷ ps) + r)) (times n Drop ++ (steps_of (run kind.Drop p.units p.lines p.attrs ∷ ps) bank ++ rest_kept r))
        same true = record {
          left = r;
          all = omega arith;
          does =
              append_assoc (times (n + p.units) Drop) (steps_of ps bank) (rest_kept r)
              ∙ times_more n p.units Drop (steps_of ps bank ++ rest_kept r)
              ∙ ap (λ t. times n Drop ++ t) (sym (append_assoc (times p.units Drop) (steps_of ps bank) (rest_kept r)));
        }
        same false = record { left = r; all = omega arith; does = append_assoc (times n Drop) (steps_of (run kind.Drop p.units p.lines p.attrs ∷ ps) bank) (rest_kept r) }
    go kind.Insert = record { left = r; all = omega arith; does = append_assoc (times n Drop) (steps_of (run kind.Insert p.units p.lines p.attrs ∷ ps) bank) (rest_kept r) }

-- one inserted unit
unit_does : (u l : ℕ) (m : AttrMap) (os : List Op) (bank : Text) → (steps_of (put (one kind.Insert m l) os) (u ∷ bank) ≡ Insert (record { unit = u; attrs = m }) ∷ steps_of os bank) × (all_passed (put (one kind.Insert m l) os) ≡ all_passed os)
unit_does u l m [] bank = (refl, omega arith)
unit_does u l m (p ∷ ps) bank = go p.kind
  where
    go : (k : Kind) → (steps_of (cond (same_kind kind.Insert k && (same_map m p.attrs && (nat_lt 0 p.lines || not (nat_lt 0 l)))) (run k (1 + p.units) (l + p.lines) p.attrs ∷ ps) (one kind.Insert m l ∷ (run k p.units p.lines p.attrs ∷ ps))) (u ∷ bank) ≡ Insert (record { unit = u; attrs = m }) ∷ steps_of (run k p.units p.lines p.attrs ∷ ps) bank)
        × (all_passed (cond (same_kind kind.Insert k && (same_map m p.attrs && (nat_lt 0 p.lines || not (nat_lt 0 l)))) (run k (1 + p.units) (l + p.lines) p.attrs ∷ ps) (one kind.Insert m l ∷ (run k p.units p.lines p.attrs ∷ ps))) ≡ all_passed (run k p.units p.lines p.attrs ∷ ps))
    go kind.Keep = (refl, omega arith)
    go kind.Drop = (refl, omega arith)
    go kind.Insert = same (same_map m p.attrs) refl (nat_lt 0 p.lines || not (nat_lt 0 l))
      where
        same : (b : Bool) → same_map m p.attrs ≡ b → (c : Bool)
            → (steps_of (cond (b && c) (run kind.Insert (1 + p.units) (l + p.lines) p.attrs ∷ ps) (one kind.Insert m l ∷ (run kind.Insert p.units p.lines p.attrs ∷ ps))) (u ∷ bank) ≡ Insert (record { unit = u; attrs = m }) ∷ steps_of (run kind.Insert p.units p.lines p.attrs ∷ ps) bank)
            × (all_passed (cond (b && c) (run kind.Insert (1 + p.units) (l + p.lines) p.attrs ∷ ps) (one kind.Insert m l ∷ (run kind.Insert p.units p.lines p.attrs ∷ ps))) ≡ all_passed (run kind.Insert p.units p.lines p.attrs ∷ ps))
        same true e true =
            let s : 1 + p.units ≡ suc p.units = omega arith in (
              ap (λ (n : ℕ). inserts (cells p.attrs (take n (u ∷ bank))) ++ steps_of ps (drop n (u ∷ bank))) s
                  ∙ ap (λ m. Insert (record { unit = u; attrs = m }) ∷ (inserts (cells p.attrs (take p.units bank)) ++ steps_of ps (drop p.units bank))) (sym (exact_map m p.attrs e)),
              omega arith,
            )
        same true e false = (refl, omega arith)
        same false e c = (refl, omega arith)

cells_do : (m : AttrMap) (us : Text) (os : List Op) (bank : Text) → (steps_of (put_cells (cells m us) os) (us ++ bank) ≡ inserts (cells m us) ++ steps_of os bank) × (all_passed (put_cells (cells m us) os) ≡ all_passed os)
cells_do m [] os bank = (refl, refl)
cells_do m (u ∷ us) os bank =
    let again = cells_do m us os bank in
    let here = unit_does u (cond (is_newline u) 1 0) m (put_cells (cells m us) os) (us ++ bank) in
    (here.0 ∙ ap (λ t. Insert (record { unit = u; attrs = m }) ∷ t) again.0, here.1 ∙ again.1)

-- drops before other runs
record Drops (ds : List Op) : Type 0 where
  units : ℕ
  steps : (xs : List Op) (bank : Text) → steps_of (ds ++ xs) bank ≡ times units Drop ++ steps_of xs bank
  passed_all : (xs : List Op) → all_passed (ds ++ xs) ≡ units + all_passed xs

drops_do : (ds : List Op) → AreDrops ds → Drops ds
drops_do [] h = record { units = 0; steps = λ xs bank. refl; passed_all = λ xs. omega arith }
drops_do (d ∷ ds) h = go d.kind h.0 (drops_do ds h.2)
  where
    go : (k : Kind) → k ≡ kind.Drop → Drops ds → Drops (run k d.units d.lines d.attrs ∷ ds)
    go kind.Keep e ih = absurd cc
    go kind.Insert e ih = absurd cc
    go kind.Drop e ih = record {
      units = d.units + ih.units;
      steps = λ xs bank. ap (λ t. times d.units Drop ++ t) (ih.steps xs bank) ∙ sym (times_more d.units ih.units Drop (steps_of xs bank));
      passed_all = λ xs. omega (arith, ih.passed_all xs);
    }

settle_after : (s t t' : List Step) (w : List Cell) → ((v : List Cell) → settle v t ≡ settle v t') → settle w (s ++ t) ≡ settle w (s ++ t')
settle_after [] t t' w h = h w
settle_after (Insert c ∷ s) t t' w h = settle_after s t t' (w ++ c ∷ []) h
settle_after (Pass Drop ∷ s) t t' w h = ap (with_place (record { before = []; fate = Drop })) (settle_after s t t' w h)
settle_after (Pass (Keep m) ∷ s) t t' w h = ap (with_place (record { before = w; fate = Keep m })) (settle_after s t t' [] h)

settle_drops : (w cs : List Cell) (n : ℕ) (t : List Step) → settle w (inserts cs ++ (times n Drop ++ t)) ≡ settle w (times n Drop ++ (inserts cs ++ t))
settle_drops w cs n t = settle-inserts w cs (times n Drop ++ t) ∙ go n
  where
    go : (n : ℕ) → settle (w ++ cs) (times n Drop ++ t) ≡ settle w (times n Drop ++ (inserts cs ++ t))
    go zero = sym (settle-inserts w cs t)
    go (suc n) = ap (with_place (record { before = []; fate = Drop })) (go n)

pub record SameEdit (ops : List Op) (bank : Text) (r : ℕ) (normal : List Op) : Type 0 where
  pub left : ℕ
  pub all : all_passed normal + left ≡ all_passed ops + r
  pub same : (w : List Cell) → settle w (steps_of ops bank ++ rest_kept r) ≡ settle w (steps_of normal bank ++ rest_kept left)

pub same_edit : (ops : List Op) (bank : Text) (r : ℕ) → AreWritten ops bank → SameEdit ops bank r (normal_of ops bank)
same_edit [] bank r h = record { left = r; all = refl; same = λ w. refl }
same_edit (o ∷ os) bank r h = go o.kind o.attrs h.0 (is_front os (drop (inserted o.kind o.units) bank) h.1) (same_edit os (drop (inserted o.kind o.units) bank) r h.1)
  where
    go : (k : Kind) (m : AttrMap) → IsWritten k o.units m (take (inserted k o.units) bank) → IsFront (front_of os (drop (inserted k o.units) bank)) → SameEdit os (drop (inserted k o.units) bank) r (normal_of os (drop (inserted k o.units) bank))
        → SameEdit (run k o.units o.lines m ∷ os) bank r ((put_front k (run k o.units o.lines m) (take (inserted k o.units) bank) (front_of os (drop (inserted k o.units) bank))).drops ++ (put_front k (run k o.units o.lines m) (take (inserted k o.units) bank) (front_of os (drop (inserted k o.units) bank))).rest)
    go kind.Keep m is front ih =
        let d = keep_does o.units o.lines m (normal_of os bank) bank ih.left in
        record {
          left = d.left;
          all = omega (arith, d.all, ih.all);
          same = λ w.
              ap (settle w) (append_assoc (times o.units (Keep m)) (steps_of os bank) (rest_kept r))
              ∙ settle_after (times o.units (Keep m)) (steps_of os bank ++ rest_kept r) (steps_of (normal_of os bank) bank ++ rest_kept ih.left) w ih.same
              ∙ ap (settle w) (sym d.does);
        }
    go kind.Drop m is front ih =
        let f = front_of os bank in
        let d = drop_does o.units o.lines (f.drops ++ f.rest) bank ih.left in
        let joined_are : put (run kind.Drop o.units o.lines none) (f.drops ++ f.rest) ≡ put (run kind.Drop o.units o.lines m) f.drops ++ f.rest =
        put-drops o.units o.lines f.drops f.rest front.rest ∙ ap (λ m. put (run kind.Drop o.units o.lines m) f.drops ++ f.rest) (sym is.1) in
        record {
          left = d.left;
          all = omega (arith, d.all, ih.all, ap all_passed joined_are);
          same = λ w.
              ap (settle w) (append_assoc (times o.units Drop) (steps_of os bank) (rest_kept r))
              ∙ settle_after (times o.units Drop) (steps_of os bank ++ rest_kept r) (steps_of (f.drops ++ f.rest) bank ++ rest_kept ih.left) w ih.same
              ∙ ap (settle w) (sym d.does)
              ∙ ap (λ os. settle w (steps_of os bank ++ rest_kept d.left)) joined_are;
        }
    go kind.Insert m is front ih =
        let text = take o.units bank in
        let later = drop o.units bank in
        let f = front_of os later in
        let ds = drops_do f.drops front.drops in
        let whole : text ++ later ≡ bank = take-append-drop o.units bank in
        let made = cells_do m text f.rest later in
        let behind = rest_kept ih.left in
        let n = ds.units in
        record {
          left = ih.left;
          all = omega (arith, ih.all, ds.passed_all f.rest, ds.passed_all (put_cells (cells m text) f.rest), made.1);
          same = λ w.
              ap (settle w) (append_assoc (inserts (cells m text)) (steps_of os later) (rest_kept r))
              ∙ settle_after (inserts (cells m text)) (steps_of os later ++ rest_kept r) (steps_of (f.drops ++ f.rest) later ++ behind) w ih.same
              ∙ ap (λ t. settle w (inserts (cells m text) ++ (t ++ behind))) (ds.steps f.rest later)
              ∙ ap (λ t. settle w (inserts (cells m text) ++ t)) (append_assoc (times n Drop) (steps_of f.rest later) behind)
              ∙ settle_drops w (cells m text) n (steps_of f.rest later ++ behind)
              ∙ ap (λ t. settle w (times n Drop ++ t)) (sym (append_assoc (inserts (cells m text)) (steps_of f.rest later) behind))
              ∙ ap (λ t. settle w (times n Drop ++ (t ++ behind))) (sym made.0)
              ∙ ap (λ b. settle w (times n Drop ++ (steps_of (put_cells (cells m text) f.rest) b ++ behind))) whole
              ∙ ap (settle w) (sym (append_assoc (times n Drop) (steps_of (put_cells (cells m text) f.rest) bank) behind))
              ∙ ap (λ t. settle w (t ++ behind)) (sym (ds.steps (put_cells (cells m text) f.rest) bank));
        }
