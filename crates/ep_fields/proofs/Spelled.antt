-- The spelling of a change is ASCII up to its bank.
use Rattle.std.proofs.Common.{◌≡◌, ℕ, zero, suc, ◌-◌, ◌/◌, ◌%◌, ◌<◌, Bool, true, false, cond, nat_lt, nat_le, List, [], ◌∷◌, ◌++◌, refl, sym, ap, ◌∙◌, arith, append_assoc}
use Rattle.std.proofs.lemmas.Bool.{and_from, ltb-true}
use Rattle.std.proofs.lemmas.Bool.Decides.{nat_tests}
use Rattle.std.proofs.lemmas.List.{append_cancel_right}
use Rattle.std.proofs.lemmas.List.Folds.{list_all-append}
use Rattle.std.specs.List.{flat_map}
use Rattle.ep_units.specs.Text.{Text}
use Rattle.ep_units.specs.Base36.{digit, digits_in, write36}
use Rattle.ep_attr.specs.AttrMap.{Pair}
use Rattle.ep_cs.specs.Change.{Change, bank_of}
use Rattle.ep_cs.specs.Spelling.{star_text, lines_text, kind_text, op_text, difference_text, old_len, new_len}
use Rattle.ep_cs.specs.declared.op.Kind.{Kind}
use Rattle.ep_cs.specs.declared.op.Kind.TheVariants as kinds
use Rattle.ep_cs.specs.declared.op.Op.{Op}
use Rattle.ep_csread.specs.Spelling.{numbers_in, ops_text, printed}
use Rattle.ep_fields.specs.Writing.{is_ascii}

pub ascii_both : (us vs : Text) → is_ascii us ≡ true → is_ascii vs ≡ true → is_ascii (us ++ vs) ≡ true
ascii_both us vs a b = list_all-append (λ u. nat_lt u 128) us vs ∙ and_from (is_ascii us) (is_ascii vs) a b

digit_ascii : (d : ℕ) → d < 36 → is_ascii (digit d ∷ []) ≡ true
digit_ascii d h = let below : nat_lt (digit d) 128 ≡ true = grind (arith, nat_tests) in and_from (nat_lt (digit d) 128) true below refl

digits_ascii : (k n : ℕ) → is_ascii (digits_in k n) ≡ true
digits_ascii zero n = refl
digits_ascii (suc k) n = go (digits_ascii k (n / 36)) (nat_lt n 36) refl
  where
    go : is_ascii (digits_in k (n / 36)) ≡ true → (b : Bool) → nat_lt n 36 ≡ b → is_ascii (cond b (digit n ∷ []) (digits_in k (n / 36) ++ digit (n % 36) ∷ [])) ≡ true
    go high true e = digit_ascii n (ltb-true n 36 e)
    go high false e = ascii_both (digits_in k (n / 36)) (digit (n % 36) ∷ []) high (digit_ascii (n % 36) (omega arith))

write36_ascii : (n : ℕ) → is_ascii (write36 n) ≡ true
unfolding write36
write36_ascii n = digits_ascii (suc n) n

stars_ascii : (ns : List ℕ) → is_ascii (flat_map star_text ns) ≡ true
stars_ascii [] = refl
stars_ascii (n ∷ ns) = ascii_both (star_text n) (flat_map star_text ns) (write36_ascii n) (stars_ascii ns)

lines_ascii : (l : ℕ) → is_ascii (lines_text l) ≡ true
lines_ascii l = go (nat_lt 0 l)
  where
    go : (b : Bool) → is_ascii (cond b (124 ∷ write36 l) []) ≡ true
    go true = write36_ascii l
    go false = refl

sign_ascii : (k : Kind) (n : ℕ) → is_ascii (kind_text k ∷ write36 n) ≡ true
sign_ascii kinds.Keep n = write36_ascii n
sign_ascii kinds.Drop n = write36_ascii n
sign_ascii kinds.Insert n = write36_ascii n

op_ascii : (stars : List ℕ) (o : Op) → is_ascii (op_text stars o) ≡ true
op_ascii stars o =
    ascii_both (flat_map star_text stars) (lines_text o.lines ++ kind_text o.kind ∷ write36 o.units) (stars_ascii stars)
    (ascii_both (lines_text o.lines) (kind_text o.kind ∷ write36 o.units) (lines_ascii o.lines) (sign_ascii o.kind o.units))

ops_ascii : (pool : List Pair) (os : List Op) → is_ascii (ops_text pool os) ≡ true
ops_ascii pool [] = refl
ops_ascii pool (o ∷ os) = ascii_both (op_text (numbers_in pool o.attrs) o) (ops_text pool os) (op_ascii (numbers_in pool o.attrs) o) (ops_ascii pool os)

difference_ascii : (old new : ℕ) → is_ascii (difference_text old new) ≡ true
difference_ascii old new = go (nat_le old new)
  where
    go : (b : Bool) → is_ascii (cond b (62 ∷ write36 (new - old)) (60 ∷ write36 (old - new))) ≡ true
    go true = write36_ascii (new - old)
    go false = write36_ascii (old - new)

-- what stands before the bank
pub front_ascii : (pool : List Pair) (c : Change) (front : Text) → front ++ bank_of c.edit ≡ printed pool c → is_ascii front ≡ true
front_ascii pool c front whole =
    let bank = bank_of c.edit in
    let old = write36 (old_len c.edit) in
    let longer : Text = difference_text (old_len c.edit) (new_len c.edit) in
    let ops : Text = ops_text pool c.runs in
    let rest : Text = longer ++ (ops ++ 36 ∷ []) in
    let joined : (old ++ rest) ++ bank ≡ old ++ (longer ++ (ops ++ 36 ∷ bank)) =
    append_assoc old rest bank ∙ ap (λ (us : Text). old ++ us) (append_assoc longer (ops ++ 36 ∷ []) bank ∙ ap (λ (us : Text). longer ++ us) (append_assoc ops (36 ∷ []) bank)) in
    let same : front ≡ 90 ∷ 58 ∷ (old ++ rest) = append_cancel_right front (90 ∷ 58 ∷ (old ++ rest)) bank (whole ∙ sym (ap (λ (us : Text). 90 ∷ 58 ∷ us) joined)) in
    ap is_ascii same
    ∙ ascii_both old rest (write36_ascii (old_len c.edit))
    (ascii_both longer (ops ++ 36 ∷ []) (difference_ascii (old_len c.edit) (new_len c.edit)) (ascii_both ops (36 ∷ []) (ops_ascii pool c.runs) refl))
