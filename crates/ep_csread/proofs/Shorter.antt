-- Each item that is read takes a unit at least.
use Rattle.std.proofs.Common.{◌≡◌, ℕ, suc, ◌<◌, ◌≤◌, Bool, true, false, cond, eqb, List, [], ◌∷◌, length, Result, Ok, Err, refl, ap, arith}
use Rattle.ep_units.specs.Text.{Text}
use Rattle.ep_cs.specs.declared.op.Kind.{Kind}
use Rattle.ep_cs.specs.declared.op.Kind.TheVariants as kinds
use Rattle.ep_csread.specs.declared.written.Number.{Number}
use Rattle.ep_csread.specs.Syntax.{◌>>=◌, Operation, begins_star, goes_on, star_at, number_at, stars_at, lines_at, kind_at, op_at, unit_at, attrib_at, is_some_text}
use Rattle.ep_csread.proofs.Many.{Shortens, many_shorter}
use Rattle.ep_csread.proofs.Numbers.{number_shorter}

pub star_shortens : Shortens begins_star star_at
star_shortens = record { shorter = go }
  where
    go : (t : Text) (x : Number × Text) → begins_star t ≡ true → star_at t ≡ Ok x → length x.1 < length t
    go [] x b e = absurd cc
    go (u ∷ us) x b e = omega (arith, number_shorter us x e)

pub bind_ok : {A B : Type 0} (r : Result A ℕ) (f : A → Result B ℕ) (y : B) → (r >>= f) ≡ Ok y → (x : A) × (r ≡ Ok x) × (f x ≡ Ok y)
bind_ok (Ok x) f y e = (x, refl, e)
bind_ok (Err d) f y e = absurd cc

stars_shorter : (t : Text) (x : List Number × Text) → stars_at t ≡ Ok x → length x.1 ≤ length t
stars_shorter t x e = many_shorter begins_star star_at star_shortens t x e

lines_shorter : (t : Text) (x : Number × Text) → lines_at t ≡ Ok x → length x.1 ≤ length t
lines_shorter [] x e = let r : [] ≡ x.1 = cc in omega (arith, ap length r)
lines_shorter (u ∷ us) x e = go (eqb u 124) e
  where
    go : (b : Bool) → cond b (number_at us) (Ok (record { value = 0; left = 0 }, u ∷ us)) ≡ Ok x → length x.1 ≤ suc (length us)
    go true e = omega (arith, number_shorter us x e)
    go false e = let r : u ∷ us ≡ x.1 = cc in omega (arith, ap length r)

kind_shorter : (t : Text) (x : Kind × Text) → kind_at t ≡ Ok x → length x.1 ≤ length t
kind_shorter [] x e = absurd cc
kind_shorter (u ∷ us) x e = go (eqb u 61) (eqb u 45) (eqb u 43) e
  where
    okay : Kind × Text → Result (Kind × Text) ℕ
    okay y = Ok y

    go : (a b c : Bool) → cond a (Ok (kinds.Keep, us)) (cond b (Ok (kinds.Drop, us)) (cond c (Ok (kinds.Insert, us)) (Err (suc (length us))))) ≡ Ok x → length x.1 ≤ suc (length us)
    go true b c e = let r : us ≡ x.1 = cc in omega (arith, ap length r)
    go false true c e = let r : us ≡ x.1 = cc in omega (arith, ap length r)
    go false false true e = let r : us ≡ x.1 = cc in omega (arith, ap length r)
    go false false false e = absurd cc

op_shorter : (t : Text) (x : Operation × Text) → op_at t ≡ Ok x → length x.1 < length t
unfolding op_at
op_shorter t x e =
    let a = bind_ok (stars_at t) (λ stars. lines_at stars.1 >>= λ lines. kind_at lines.1 >>= λ kind. number_at kind.1 >>= λ units. Ok (record { stars = stars.0; lines = lines.0; kind = kind.0; units = units.0 }, units.1)) x e in
    let b = bind_ok (lines_at a.0.1) (λ lines. kind_at lines.1 >>= λ kind. number_at kind.1 >>= λ units. Ok (record { stars = a.0.0; lines = lines.0; kind = kind.0; units = units.0 }, units.1)) x a.2 in
    let c = bind_ok (kind_at b.0.1) (λ kind. number_at kind.1 >>= λ units. Ok (record { stars = a.0.0; lines = b.0.0; kind = kind.0; units = units.0 }, units.1)) x b.2 in
    let d = bind_ok (number_at c.0.1) (λ units. Ok (record { stars = a.0.0; lines = b.0.0; kind = c.0.0; units = units.0 }, units.1)) x c.2 in
    let r : d.0.1 ≡ x.1 = let q = d.2 in cc in
    let l : length d.0.1 ≡ length x.1 = ap length r in
    omega (arith, stars_shorter t a.0 a.1, lines_shorter a.0.1 b.0 b.1, kind_shorter b.0.1 c.0 c.1, number_shorter c.0.1 d.0 d.1)

pub op_shortens : Shortens goes_on op_at
op_shortens = record { shorter = λ t x b e. op_shorter t x e }

unit_shorter : (c : ℕ) (t x : Text) → unit_at c t ≡ Ok x → length x ≤ length t
unit_shorter c [] x e = absurd cc
unit_shorter c (u ∷ us) x e = go (eqb u c) e
  where
    go : (b : Bool) → cond b (Ok us) (Err (suc (length us))) ≡ Ok x → length x ≤ suc (length us)
    go true e = let r : us ≡ x = cc in omega (arith, ap length r)
    go false e = absurd cc

attrib_shorter : (t : Text) (x : Operation × Text) → attrib_at t ≡ Ok x → length x.1 < length t
unfolding attrib_at
attrib_shorter t x e =
    let a = bind_ok (stars_at t) (λ stars. lines_at stars.1 >>= λ lines. unit_at 43 lines.1 >>= λ plus. number_at plus >>= λ units. Ok (record { stars = stars.0; lines = lines.0; kind = kinds.Insert; units = units.0 }, units.1)) x e in
    let b = bind_ok (lines_at a.0.1) (λ lines. unit_at 43 lines.1 >>= λ plus. number_at plus >>= λ units. Ok (record { stars = a.0.0; lines = lines.0; kind = kinds.Insert; units = units.0 }, units.1)) x a.2 in
    let c = bind_ok (unit_at 43 b.0.1) (λ plus. number_at plus >>= λ units. Ok (record { stars = a.0.0; lines = b.0.0; kind = kinds.Insert; units = units.0 }, units.1)) x b.2 in
    let d = bind_ok (number_at c.0) (λ units. Ok (record { stars = a.0.0; lines = b.0.0; kind = kinds.Insert; units = units.0 }, units.1)) x c.2 in
    let r : d.0.1 ≡ x.1 = let q = d.2 in cc in
    let l : length d.0.1 ≡ length x.1 = ap length r in
    omega (arith, stars_shorter t a.0 a.1, lines_shorter a.0.1 b.0 b.1, unit_shorter 43 b.0.1 c.0 c.1, number_shorter c.0 d.0 d.1)

pub attrib_shortens : Shortens is_some_text attrib_at
attrib_shortens = record { shorter = λ t x b e. attrib_shorter t x e }
