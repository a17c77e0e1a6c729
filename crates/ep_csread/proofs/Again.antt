-- What is spelled is read again.
use Rattle.std.proofs.Common.{◌≡◌, ℕ, zero, suc, ◌+◌, ◌*◌, ◌/◌, ◌%◌, ◌<◌, ◌≤◌, Bool, true, false, cond, List, [], ◌∷◌, ◌++◌, map, length, min, nat_lt, Result, Ok, refl, sym, ap, ap₂, subst, ◌∙◌, append_assoc, arith, length-append}
use Rattle.std.proofs.lemmas.Bool.Decides.{nat_tests}
use Rattle.std.specs.List.{flat_map}
use Rattle.std.proofs.lemmas.List.Concat.{flat_map-cons}
use Rattle.std.proofs.lemmas.List.Sums.{fold_push}
use Rattle.ep_units.specs.Text.{Text}
use Rattle.ep_cs.specs.declared.op.Kind.{Kind}
use Rattle.ep_cs.specs.declared.op.Kind.TheVariants as kinds
use Rattle.ep_csread.specs.declared.written.Number.{Number}
use Rattle.ep_units.specs.Base36.{digit, digits_in, write36, is_digit, digit_value, digits_of, behind, value36}
use Rattle.ep_cs.specs.Spelling.{star_text, lines_text, kind_text}
use Rattle.ep_csread.specs.Syntax.{◌>>=◌, number_in, number_at, begins_star, star_at, stars_at, lines_at, kind_at, sign_at, unit_at, op_at, attrib_at, ops_at, attribs_at, is_some_text, parts_of, goes_on, Operation, Parts, with_first, many, no_lines, too_large}
use Rattle.ep_csread.specs.Spelling.{Numbered, said}
use Rattle.ep_csread.proofs.Many.{many_more, many_none}
use Rattle.ep_csread.proofs.Shorter.{star_shortens, op_shortens, attrib_shortens}

abbrev pub AreSmall : List ℕ → Type 0
AreSmall [] = Unit {0}
AreSmall (n ∷ ns) = (n < 4294967296) × AreSmall ns

pub record IsSmall (o : Numbered) : Type 0 where
  pub stars : AreSmall o.stars
  pub lines : o.lines < 4294967296
  pub units : o.units < 4294967296

abbrev pub AreSmallOps : List Numbered → Type 0
AreSmallOps [] = Unit {0}
AreSmallOps (o ∷ os) = IsSmall o × AreSmallOps os

abbrev pub op_text : Numbered → Text
op_text o = flat_map star_text o.stars ++ (lines_text o.lines ++ kind_text o.kind ∷ write36 o.units)

abbrev pub ops_text : List Numbered → Text
ops_text os = flat_map op_text os

abbrev pub sign_text : Bool → ℕ
sign_text false = 62
sign_text true = 60

-- a text that is taken apart again
abbrev pub spelled : ℕ → Bool → ℕ → List Numbered → Text → Text
spelled old shrinks difference ops bank = 90 ∷ 58 ∷ (write36 old ++ sign_text shrinks ∷ (write36 difference ++ (ops_text ops ++ 36 ∷ bank)))

abbrev AreDigits : Text → Type 0
AreDigits [] = Unit {0}
AreDigits (u ∷ us) = (is_digit u ≡ true) × AreDigits us

are_digits-append : (a b : Text) → AreDigits a → AreDigits b → AreDigits (a ++ b)
are_digits-append [] b h k = k
are_digits-append (u ∷ a) b h k = (h.0, are_digits-append a b h.1 k)

digit_is : (d : ℕ) → d < 36 → is_digit (digit d) ≡ true
digit_is d h = grind (arith, nat_tests)

digit_value-digit : (d : ℕ) → d < 36 → digit_value (digit d) ≡ d
digit_value-digit d h = grind (arith, nat_tests)

-- no digit stands first
abbrev pub Ends : Text → Type 0
Ends [] = Unit {0}
Ends (u ∷ us) = is_digit u ≡ false

digits_of-ends : (rest : Text) → Ends rest → digits_of rest ≡ []
digits_of-ends [] h = refl
digits_of-ends (u ∷ us) h = ap (λ b. cond b (u ∷ digits_of us) []) h

behind-ends : (rest : Text) → Ends rest → behind rest ≡ rest
behind-ends [] h = refl
behind-ends (u ∷ us) h = ap (λ b. cond b (behind us) (u ∷ us)) h

digits_of-all : (ds rest : Text) → AreDigits ds → Ends rest → digits_of (ds ++ rest) ≡ ds
digits_of-all [] rest h k = digits_of-ends rest k
digits_of-all (d ∷ ds) rest h k = ap (λ b. cond b (d ∷ digits_of (ds ++ rest)) []) h.0 ∙ ap (λ x. d ∷ x) (digits_of-all ds rest h.1 k)

behind-all : (ds rest : Text) → AreDigits ds → Ends rest → behind (ds ++ rest) ≡ rest
behind-all [] rest h k = behind-ends rest k
behind-all (d ∷ ds) rest h k = ap (λ b. cond b (behind (ds ++ rest)) (d ∷ (ds ++ rest))) h.0 ∙ behind-all ds rest h.1 k

digits_in-digits : (k n : ℕ) → AreDigits (digits_in k n)
digits_in-digits zero n = tt
digits_in-digits (suc k) n = go (nat_lt n 36) refl (digits_in-digits k (n / 36))
  where
    go : (b : Bool) → nat_lt n 36 ≡ b → AreDigits (digits_in k (n / 36)) → AreDigits (cond b (digit n ∷ []) (digits_in k (n / 36) ++ digit (n % 36) ∷ []))
    go true b h = let l : n < 36 = grind (arith, nat_tests) in (digit_is n l, tt)
    go false b h = are_digits-append (digits_in k (n / 36)) (digit (n % 36) ∷ []) h (digit_is (n % 36) (omega arith), tt)

value_digits_in : (k n : ℕ) → n < k → value36 (digits_in k n) ≡ n
value_digits_in zero n h = absurd (omega arith)
value_digits_in (suc k) n h = go (nat_lt n 36) refl (λ (l : 36 ≤ n). value_digits_in k (n / 36) (omega arith))
  where
    go : (b : Bool) → nat_lt n 36 ≡ b → (36 ≤ n → value36 (digits_in k (n / 36)) ≡ n / 36) → value36 (cond b (digit n ∷ []) (digits_in k (n / 36) ++ digit (n % 36) ∷ [])) ≡ n
    go true b h =
        let l : n < 36 = grind (arith, nat_tests) in
        let d : digit_value (digit n) ≡ n = digit_value-digit n l in
        omega (arith, d)
    go false b h =
        let l : 36 ≤ n = grind (arith, nat_tests) in
        let d : digit_value (digit (n % 36)) ≡ n % 36 = digit_value-digit (n % 36) (omega arith) in
        fold_push (λ (value u : ℕ). value * 36 + digit_value u) 0 (digits_in k (n / 36)) (digit (n % 36)) ∙ ap₂ (λ (v d : ℕ). v * 36 + d) (h l) d ∙ omega arith

pub write36-digits : (n : ℕ) → AreDigits (write36 n)
unfolding write36
write36-digits n = digits_in-digits (suc n) n

pub value-write36 : (n : ℕ) → n < 4294967296 → min (value36 (write36 n)) too_large ≡ n
unfolding write36
value-write36 n s = ap (λ (v : ℕ). min v too_large) (value_digits_in (suc n) n (omega arith)) ∙ omega arith

nonempty : (k n : ℕ) → 0 < length (digits_in (suc k) n)
nonempty k n = elim (nat_lt n 36) as (λ b. 0 < length (cond b (digit n ∷ []) (digits_in k (n / 36) ++ digit (n % 36) ∷ []))) [ true ↦ omega arith | false ↦ omega (arith, length-append (digits_in k (n / 36)) (digit (n % 36) ∷ [])) ]

write36-nonempty : (n : ℕ) → 0 < length (write36 n)
unfolding write36
write36-nonempty n = nonempty n n

abbrev done : {A : Type 0} → A × Text → Result (A × Text) ℕ
done x = Ok x

abbrev at : ℕ → Text → Number
at v text = record { value = v; left = length text }

number_in_is : (ds text : Text) → 0 < length ds → number_in ds text ≡ done (at (min (value36 ds) too_large) text, behind text)
number_in_is [] text h = absurd (omega arith)
number_in_is (d ∷ ds) text h = refl

-- a number is read again
pub number_again : (n : ℕ) (rest : Text) → n < 4294967296 → Ends rest → number_at (write36 n ++ rest) ≡ done (at n (write36 n ++ rest), rest)
number_again n rest s h =
    ap (λ ds. number_in ds (write36 n ++ rest)) (digits_of-all (write36 n) rest (write36-digits n) h)
    ∙ number_in_is (write36 n) (write36 n ++ rest) (write36-nonempty n)
    ∙ ap₂ (λ v r. done (at v (write36 n ++ rest), r)) (value-write36 n s) (behind-all (write36 n) rest (write36-digits n) h)

-- ---- operations

-- neither a digit nor a star stands first
record Stops (rest : Text) : Type 0 where
  ends : Ends rest
  star : begins_star rest ≡ false

ends_stars : (ns : List ℕ) (rest : Text) → Ends rest → Ends (flat_map star_text ns ++ rest)
ends_stars [] rest h = h
ends_stars (n ∷ ns) rest h = subst (λ t. Ends (t ++ rest)) (sym (flat_map-cons star_text n ns)) refl

abbrev value : Number → ℕ
value n = n.value

abbrev pub okays : {A : Type 0} → A → Result A ℕ
okays x = Ok x

stars_again : (ns : List ℕ) (rest : Text) → AreSmall ns → Stops rest → (xs : List Number) × (stars_at (flat_map star_text ns ++ rest) ≡ done (xs, rest)) × (map value xs ≡ ns)
stars_again [] rest small stops = ([], many_none begins_star star_at rest stops.star, refl)
stars_again (n ∷ ns) rest small stops =
    let again = stars_again ns rest small.1 stops in
    let more = flat_map star_text ns ++ rest in
    let one = number_again n more small.0 (ends_stars ns rest stops.ends) in
    let grouped : flat_map star_text (n ∷ ns) ++ rest ≡ 42 ∷ (write36 n ++ more) =
    ap (λ (t : Text). t ++ rest) (flat_map-cons star_text n ns) ∙ append_assoc (star_text n) (flat_map star_text ns) rest in
    let first = at n (write36 n ++ more) in (
      first ∷ again.0,
      ap stars_at grouped ∙ many_more begins_star star_at star_shortens (42 ∷ (write36 n ++ more)) first more refl one ∙ ap (with_first first) again.1,
      ap (λ ms. n ∷ ms) again.2,
    )

kind_stops : (k : Kind) (rest : Text) → Stops (kind_text k ∷ rest)
kind_stops kinds.Keep rest = record { ends = refl; star = refl }
kind_stops kinds.Drop rest = record { ends = refl; star = refl }
kind_stops kinds.Insert rest = record { ends = refl; star = refl }

lines_stops : (l : ℕ) (k : Kind) (rest : Text) → Stops (lines_text l ++ kind_text k ∷ rest)
lines_stops l k rest = go (nat_lt 0 l)
  where
    go : (b : Bool) → Stops (cond b (124 ∷ write36 l) [] ++ kind_text k ∷ rest)
    go true = record { ends = refl; star = refl }
    go false = kind_stops k rest

kind_again : (k : Kind) (rest : Text) → kind_at (kind_text k ∷ rest) ≡ done (k, rest)
kind_again kinds.Keep rest = refl
kind_again kinds.Drop rest = refl
kind_again kinds.Insert rest = refl

no_lines_at : (k : Kind) (rest : Text) → lines_at (kind_text k ∷ rest) ≡ done (no_lines, kind_text k ∷ rest)
no_lines_at kinds.Keep rest = refl
no_lines_at kinds.Drop rest = refl
no_lines_at kinds.Insert rest = refl

lines_again : (l : ℕ) (k : Kind) (rest : Text) → l < 4294967296 → (x : Number) × (lines_at (lines_text l ++ kind_text k ∷ rest) ≡ done (x, kind_text k ∷ rest)) × (x.value ≡ l)
lines_again l k rest small = go (nat_lt 0 l) refl
  where
    go : (b : Bool) → nat_lt 0 l ≡ b → (x : Number) × (lines_at (cond b (124 ∷ write36 l) [] ++ kind_text k ∷ rest) ≡ done (x, kind_text k ∷ rest)) × (x.value ≡ l)
    go true b = (at l (write36 l ++ kind_text k ∷ rest), number_again l (kind_text k ∷ rest) small (kind_stops k rest).ends, refl)
    go false b = (no_lines, no_lines_at k rest, let z : l ≡ 0 = grind (arith, nat_tests) in sym z)

pub op_again : (o : Numbered) (rest : Text) → IsSmall o → Ends rest → (w : Operation) × (op_at (op_text o ++ rest) ≡ done (w, rest)) × (said w ≡ o)
unfolding op_at
op_again o rest small ends =
    let k = o.kind in
    let behind_kind = write36 o.units ++ rest in
    let behind_stars = lines_text o.lines ++ kind_text k ∷ behind_kind in
    let s = stars_again o.stars behind_stars small.stars (lines_stops o.lines k behind_kind) in
    let l = lines_again o.lines k behind_kind small.lines in
    let u = number_again o.units rest small.units ends in
    let grouped : op_text o ++ rest ≡ flat_map star_text o.stars ++ behind_stars =
    append_assoc (flat_map star_text o.stars) (lines_text o.lines ++ kind_text k ∷ write36 o.units) rest
    ∙ ap (λ (t : Text). flat_map star_text o.stars ++ t) (append_assoc (lines_text o.lines) (kind_text k ∷ write36 o.units) rest) in
    let w : Operation = record { stars = s.0; lines = l.0; kind = k; units = at o.units behind_kind } in (
      w,
      ap op_at grouped
          ∙ ap (λ (r : Result (List Number × Text) ℕ). r >>= λ stars. lines_at stars.1 >>= λ lines. kind_at lines.1 >>= λ kind. number_at kind.1 >>= λ units. done (record { stars = stars.0; lines = lines.0; kind = kind.0; units = units.0 }, units.1)) s.1
          ∙ ap (λ (r : Result (Number × Text) ℕ). r >>= λ lines. kind_at lines.1 >>= λ kind. number_at kind.1 >>= λ units. done (record { stars = s.0; lines = lines.0; kind = kind.0; units = units.0 }, units.1)) l.1
          ∙ ap (λ (r : Result (Kind × Text) ℕ). r >>= λ kind. number_at kind.1 >>= λ units. done (record { stars = s.0; lines = l.0; kind = kind.0; units = units.0 }, units.1)) (kind_again k behind_kind)
          ∙ ap (λ (r : Result (Number × Text) ℕ). r >>= λ units. done (record { stars = s.0; lines = l.0; kind = k; units = units.0 }, units.1)) u,
      λ i. record { stars = s.2 i; lines = l.2 i; kind = k; units = o.units },
    )

-- an insertion is read again among attributes alone
attrib_again : (stars : List ℕ) (lines units : ℕ) (rest : Text) → AreSmall stars → lines < 4294967296 → units < 4294967296 → Ends rest
    → (w : Operation) × (attrib_at (op_text (record { stars = stars; lines = lines; kind = kinds.Insert; units = units }) ++ rest) ≡ done (w, rest)) × (said w ≡ record { stars = stars; lines = lines; kind = kinds.Insert; units = units })
unfolding attrib_at
attrib_again stars lines units rest small few many ends =
    let behind_kind = write36 units ++ rest in
    let behind_stars = lines_text lines ++ 43 ∷ behind_kind in
    let s = stars_again stars behind_stars small (lines_stops lines kinds.Insert behind_kind) in
    let l = lines_again lines kinds.Insert behind_kind few in
    let u = number_again units rest many ends in
    let grouped : op_text (record { stars = stars; lines = lines; kind = kinds.Insert; units = units }) ++ rest ≡ flat_map star_text stars ++ behind_stars =
    append_assoc (flat_map star_text stars) (lines_text lines ++ 43 ∷ write36 units) rest
    ∙ ap (λ (t : Text). flat_map star_text stars ++ t) (append_assoc (lines_text lines) (43 ∷ write36 units) rest) in
    let w : Operation = record { stars = s.0; lines = l.0; kind = kinds.Insert; units = at units behind_kind } in (
      w,
      ap attrib_at grouped
          ∙ ap (λ (r : Result (List Number × Text) ℕ). r >>= λ stars. lines_at stars.1 >>= λ lines. unit_at 43 lines.1 >>= λ plus. number_at plus >>= λ units. done (record { stars = stars.0; lines = lines.0; kind = kinds.Insert; units = units.0 }, units.1)) s.1
          ∙ ap (λ (r : Result (Number × Text) ℕ). r >>= λ lines. unit_at 43 lines.1 >>= λ plus. number_at plus >>= λ units. done (record { stars = s.0; lines = lines.0; kind = kinds.Insert; units = units.0 }, units.1)) l.1
          ∙ ap (λ (r : Result (Number × Text) ℕ). r >>= λ units. done (record { stars = s.0; lines = l.0; kind = kinds.Insert; units = units.0 }, units.1)) u,
      λ i. record { stars = s.2 i; lines = l.2 i; kind = kinds.Insert; units = units },
    )

-- an operation begins with no digit and no `$`
op_begins : (o : Numbered) (rest : Text) → Ends (op_text o ++ rest) × (goes_on (op_text o ++ rest) ≡ true)
op_begins o rest = go o.stars
  where
    kind_begins : (k : Kind) (us : Text) → Ends ((kind_text k ∷ us) ++ rest) × (goes_on ((kind_text k ∷ us) ++ rest) ≡ true)
    kind_begins kinds.Keep us = (refl, refl)
    kind_begins kinds.Drop us = (refl, refl)
    kind_begins kinds.Insert us = (refl, refl)

    lines_begin : (b : Bool) → Ends ((cond b (124 ∷ write36 o.lines) [] ++ kind_text o.kind ∷ write36 o.units) ++ rest) × (goes_on ((cond b (124 ∷ write36 o.lines) [] ++ kind_text o.kind ∷ write36 o.units) ++ rest) ≡ true)
    lines_begin true = (refl, refl)
    lines_begin false = kind_begins o.kind (write36 o.units)

    go : (ns : List ℕ) → Ends ((flat_map star_text ns ++ (lines_text o.lines ++ kind_text o.kind ∷ write36 o.units)) ++ rest) × (goes_on ((flat_map star_text ns ++ (lines_text o.lines ++ kind_text o.kind ∷ write36 o.units)) ++ rest) ≡ true)
    go [] = lines_begin (nat_lt 0 o.lines)
    go (n ∷ ns) = subst (λ t. Ends ((t ++ (lines_text o.lines ++ kind_text o.kind ∷ write36 o.units)) ++ rest) × (goes_on ((t ++ (lines_text o.lines ++ kind_text o.kind ∷ write36 o.units)) ++ rest) ≡ true)) (sym (flat_map-cons star_text n ns)) (refl, refl)

some_text : (o : Numbered) (rest : Text) → is_some_text (op_text o ++ rest) ≡ true
some_text o rest = go o.stars
  where
    lines_some : (b : Bool) → is_some_text ((cond b (124 ∷ write36 o.lines) [] ++ kind_text o.kind ∷ write36 o.units) ++ rest) ≡ true
    lines_some true = refl
    lines_some false = refl

    go : (ns : List ℕ) → is_some_text ((flat_map star_text ns ++ (lines_text o.lines ++ kind_text o.kind ∷ write36 o.units)) ++ rest) ≡ true
    go [] = lines_some (nat_lt 0 o.lines)
    go (n ∷ ns) = subst (λ t. is_some_text ((t ++ (lines_text o.lines ++ kind_text o.kind ∷ write36 o.units)) ++ rest) ≡ true) (sym (flat_map-cons star_text n ns)) refl

abbrev pub AreInserts : List Numbered → Type 0
AreInserts [] = Unit {0}
AreInserts (o ∷ os) = (o.kind ≡ kinds.Insert) × AreInserts os

attribs_end : (os : List Numbered) → Ends (ops_text os)
attribs_end [] = tt
attribs_end (o ∷ os) = subst Ends (sym (flat_map-cons op_text o os)) (op_begins o (ops_text os)).0

-- insertions alone are read again
pub attribs_again : (os : List Numbered) → AreSmallOps os → AreInserts os → (ws : List Operation) × (attribs_at (ops_text os) ≡ done (ws, [])) × (map said ws ≡ os)
attribs_again [] small inserts = ([], many_none is_some_text attrib_at [] refl, refl)
attribs_again (o ∷ os) small inserts =
    let again = attribs_again os small.1 inserts.1 in
    let rest = ops_text os in
    let p : Numbered = record { stars = o.stars; lines = o.lines; kind = kinds.Insert; units = o.units } in
    let same : p ≡ o = λ i. record { stars = o.stars; lines = o.lines; kind = back inserts.0 i; units = o.units } in
    let one = attrib_again o.stars o.lines o.units rest small.0.stars small.0.lines small.0.units (attribs_end os) in
    let grouped : ops_text (o ∷ os) ≡ op_text p ++ rest = flat_map-cons op_text o os ∙ ap (λ (q : Numbered). op_text q ++ rest) (sym same) in (
      one.0 ∷ again.0,
      ap attribs_at grouped ∙ many_more is_some_text attrib_at attrib_shortens (op_text p ++ rest) one.0 rest (some_text p rest) one.1 ∙ ap (with_first one.0) again.1,
      ap₂ (λ w ws. w ∷ ws) (one.2 ∙ same) again.2,
    )
  where
    back : o.kind ≡ kinds.Insert → kinds.Insert ≡ o.kind
    back e = sym e

ops_end : (os : List Numbered) (bank : Text) → Ends (ops_text os ++ 36 ∷ bank)
ops_end [] bank = refl
ops_end (o ∷ os) bank = subst (λ t. Ends (t ++ 36 ∷ bank)) (sym (flat_map-cons op_text o os)) (subst Ends (sym (append_assoc (op_text o) (ops_text os) (36 ∷ bank))) (op_begins o (ops_text os ++ 36 ∷ bank)).0)

pub ops_again : (os : List Numbered) (bank : Text) → AreSmallOps os → (ws : List Operation) × (ops_at (ops_text os ++ 36 ∷ bank) ≡ done (ws, 36 ∷ bank)) × (map said ws ≡ os)
ops_again [] bank small = ([], many_none goes_on op_at (36 ∷ bank) refl, refl)
ops_again (o ∷ os) bank small =
    let again = ops_again os bank small.1 in
    let rest = ops_text os ++ 36 ∷ bank in
    let one = op_again o rest small.0 (ops_end os bank) in
    let grouped : ops_text (o ∷ os) ++ 36 ∷ bank ≡ op_text o ++ rest = ap (λ (t : Text). t ++ 36 ∷ bank) (flat_map-cons op_text o os) ∙ append_assoc (op_text o) (ops_text os) (36 ∷ bank) in (
      one.0 ∷ again.0,
      ap ops_at grouped ∙ many_more goes_on op_at op_shortens (op_text o ++ rest) one.0 rest (op_begins o rest).1 one.1 ∙ ap (with_first one.0) again.1,
      ap₂ (λ w ws. w ∷ ws) one.2 again.2,
    )

sign_again : (shrinks : Bool) (rest : Text) → sign_at (sign_text shrinks ∷ rest) ≡ done (shrinks, rest)
sign_again false rest = refl
sign_again true rest = refl

sign_ends : (shrinks : Bool) (rest : Text) → Ends (sign_text shrinks ∷ rest)
sign_ends false rest = refl
sign_ends true rest = refl

-- a whole text is read again
pub parts_again : (old : ℕ) (shrinks : Bool) (difference : ℕ) (os : List Numbered) (bank : Text) → old < 4294967296 → difference < 4294967296 → AreSmallOps os
    → (p : Parts) × (parts_of (spelled old shrinks difference os bank) ≡ okays p) × (p.old.value ≡ old) × (p.shrinks ≡ shrinks) × (p.difference.value ≡ difference) × (map said p.ops ≡ os) × (p.bank ≡ bank)
unfolding parts_of
parts_again old shrinks difference os bank old_small difference_small small =
    let c = ops_text os ++ 36 ∷ bank in
    let b = write36 difference ++ c in
    let a = sign_text shrinks ∷ b in
    let x = ops_again os bank small in
    let n = number_again old a old_small (sign_ends shrinks b) in
    let d = number_again difference c difference_small (ops_end os bank) in
    let on = at old (write36 old ++ a) in
    let dn = at difference b in (
      record { old = on; shrinks = shrinks; difference = dn; ops = x.0; bank = bank },
      ap (λ (r : Result (Number × Text) ℕ). r >>= λ old. sign_at old.1 >>= λ sign. number_at sign.1 >>= λ difference. ops_at difference.1 >>= λ ops. unit_at 36 ops.1 >>= λ bank. okays (record { old = old.0; shrinks = sign.0; difference = difference.0; ops = ops.0; bank = bank })) n
          ∙ ap (λ (r : Result (Bool × Text) ℕ). r >>= λ sign. number_at sign.1 >>= λ difference. ops_at difference.1 >>= λ ops. unit_at 36 ops.1 >>= λ bank. okays (record { old = on; shrinks = sign.0; difference = difference.0; ops = ops.0; bank = bank })) (sign_again shrinks b)
          ∙ ap (λ (r : Result (Number × Text) ℕ). r >>= λ difference. ops_at difference.1 >>= λ ops. unit_at 36 ops.1 >>= λ bank. okays (record { old = on; shrinks = shrinks; difference = difference.0; ops = ops.0; bank = bank })) d
          ∙ ap (λ (r : Result (List Operation × Text) ℕ). r >>= λ ops. unit_at 36 ops.1 >>= λ bank. okays (record { old = on; shrinks = shrinks; difference = dn; ops = ops.0; bank = bank })) x.1,
      refl,
      refl,
      refl,
      x.2,
      refl,
    )
