-- What is written so is read.
use Rattle.std.proofs.Common.{◌≡◌, ℕ, ◌<◌, Bool, true, false, cond, List, [], ◌∷◌, ◌++◌, map, length, min, Result, refl, sym, ap, ap₂, subst, ◌∙◌, arith, inl, inr, append_assoc, append-nil, length-append}
use Rattle.std.specs.List.{list_all, AllByRecursion}
use Rattle.ep_units.specs.Text.{Text}
use Rattle.ep_units.specs.Base36.{is_digit, digits_of, behind, value36}
use Rattle.ep_cs.specs.declared.op.Kind.{Kind}
use Rattle.ep_cs.specs.declared.op.Kind.TheVariants as kinds
use Rattle.ep_cs.specs.Spelling.{kind_text}
use Rattle.ep_csread.specs.declared.written.Number.{Number}
use Rattle.ep_csread.specs.Spelling.{Numbered, said}
use Rattle.ep_csread.specs.Reading.{values}
use Rattle.ep_csread.specs.Syntax.{◌>>=◌, Operation, Parts, number_in, number_at, begins_star, goes_on, star_at, stars_at, lines_at, no_lines, kind_at, sign_at, unit_at, op_at, ops_at, attrib_at, attribs_at, is_some_text, parts_of, many, with_first, too_large}
use Rattle.ep_csread.specs.Grammar.{IsNumeral, AreItems, IsStar, IsLines, IsOp, Writing, sign, IsWritten}
use Rattle.ep_csread.proofs.Many.{Shortens, many_more, many_none}
use Rattle.ep_csread.proofs.Shorter.{star_shortens, op_shortens, attrib_shortens}
use Rattle.ep_csread.proofs.Takes.{okay, writing_of}
use Rattle.ep_csread.proofs.Checked.{first_of_two, second_of_two}

-- reading what stands before a rest gives this, seen by a view
pub record Reads {A B : Type 0} (view : A → B) (read : Result (A × Text) ℕ) (b : B) (rest : Text) : Type 0 where
  pub item : A
  pub is : read ≡ okay (item, rest)
  pub seen : view item ≡ b

abbrev pub begins_digit : Text → Bool
begins_digit [] = false
begins_digit (u ∷ us) = is_digit u

-- ---- numbers

pub digits_end : (ds rest : Text) → list_all is_digit ds ≡ true → begins_digit rest ≡ false → (digits_of (ds ++ rest) ≡ ds) × (behind (ds ++ rest) ≡ rest)
digits_end [] [] a b = (refl, refl)
digits_end [] (u ∷ us) a b = (ap (λ (c : Bool). cond c (u ∷ digits_of us) []) b, ap (λ (c : Bool). cond c (behind us) (u ∷ us)) b)
digits_end (d ∷ ds) rest a b =
    let e = digits_end ds rest (second_of_two (is_digit d) (list_all is_digit ds) a) b in
    let h : is_digit d ≡ true = first_of_two (is_digit d) (list_all is_digit ds) a in (
      ap (λ (c : Bool). cond c (d ∷ digits_of (ds ++ rest)) []) h ∙ ap (λ (us : Text). d ∷ us) e.0,
      ap (λ (c : Bool). cond c (behind (ds ++ rest)) (d ∷ (ds ++ rest))) h ∙ e.1,
    )

abbrev value_of : Number → ℕ
value_of n = n.value

pub number_follows : (n : ℕ) (ds rest : Text) → IsNumeral n ds → begins_digit rest ≡ false → Reads value_of (number_at (ds ++ rest)) n rest
number_follows n [] rest d b = absurd (omega (arith, d.some))
number_follows n (u ∷ us) rest d b =
    let e = digits_end (u ∷ us) rest d.only b in
    let text : Text = (u ∷ us) ++ rest in
    record {
      item = record { value = min (value36 (u ∷ us)) too_large; left = length text };
      is = ap (λ (ds : Text). number_in ds text) e.0 ∙ ap (λ (r : Text). okay (record { value = min (value36 (u ∷ us)) too_large; left = length text }, r)) e.1;
      seen = sym d.value;
    }

-- ---- items

module _ {A B : Type 0} (P : B → Text → Type 0) (view : A → B) (more : Text → Bool) (item : Text → Result (A × Text) ℕ) (Ends : Text → Type 0) where
  -- an item is read where something that may stand behind it follows, and so does what begins an item
  pub record AreReadable : Type 0 where
    pub goes : (b : B) (front rest : Text) → P b front → Ends rest → (more (front ++ rest) ≡ true) × Reads view (item (front ++ rest)) b rest
    pub next : (b : B) (front rest : Text) → P b front → Ends (front ++ rest)

  pub items_follow : AreReadable → Shortens more item → (bs : List B) (front rest : Text) → AreItems P bs front → Ends rest → more rest ≡ false → Reads (map view) (many more item (front ++ rest)) bs rest
  items_follow r s [] front rest e ends stop =
      record { item = []; is = ap (λ (us : Text). many more item (us ++ rest)) e ∙ many_none more item rest stop; seen = refl }
  items_follow r s (b ∷ bs) front rest (first, others, whole, is, are) ends stop =
      let again = items_follow r s bs others rest are ends stop in
      let one = r.goes b first (others ++ rest) is (behind_first bs others rest are ends) in
      record {
        item = one.1.item ∷ again.item;
        is =
            ap (λ (us : Text). many more item (us ++ rest)) whole ∙ ap (many more item) (append_assoc first others rest)
            ∙ many_more more item s (first ++ (others ++ rest)) one.1.item (others ++ rest) one.0 one.1.is
            ∙ ap (with_first one.1.item) again.is;
        seen = ap₂ (λ (b : B) (bs : List B). b ∷ bs) one.1.seen again.seen;
      }
    where
      behind_first : (bs : List B) (others rest : Text) → AreItems P bs others → Ends rest → Ends (others ++ rest)
      behind_first [] others rest e ends = subst (λ (us : Text). Ends (us ++ rest)) (sym e) ends
      behind_first (b ∷ bs) others rest (first, more, whole, is, are) ends =
          subst Ends (sym (ap (λ (us : Text). us ++ rest) whole ∙ append_assoc first more rest)) (r.next b first (more ++ rest) is)

-- ---- stars

-- what may stand behind a number
abbrev NoDigit : Text → Type 0
NoDigit rest = begins_digit rest ≡ false

stars_readable : AreReadable IsStar value_of begins_star star_at NoDigit
stars_readable = record {
  goes = λ n front rest is ends. goes n front rest is ends;
  next = λ n front rest is. next front rest is.1;
}
  where
    goes : (n : ℕ) (front rest : Text) → IsStar n front → NoDigit rest → (begins_star (front ++ rest) ≡ true) × Reads value_of (star_at (front ++ rest)) n rest
    goes n front rest (digits, whole, is) ends =
        let r = number_follows n digits rest is ends in (
          ap (λ (us : Text). begins_star (us ++ rest)) whole,
          record { item = r.item; is = ap (λ (us : Text). star_at (us ++ rest)) whole ∙ r.is; seen = r.seen },
        )

    next : (front rest : Text) {digits : Text} → front ≡ 42 ∷ digits → NoDigit (front ++ rest)
    next front rest whole = ap (λ (us : Text). begins_digit (us ++ rest)) whole

stars_follow : (ns : List ℕ) (front rest : Text) → AreItems IsStar ns front → NoDigit rest → begins_star rest ≡ false → Reads values (stars_at (front ++ rest)) ns rest
stars_follow ns front rest are ends stop = items_follow IsStar value_of begins_star star_at NoDigit stars_readable star_shortens ns front rest are ends stop

-- ---- an operation

lines_follow : (l : ℕ) (front rest : Text) → IsLines l front → NoDigit rest → lines_at rest ≡ okay (no_lines, rest) → Reads value_of (lines_at (front ++ rest)) l rest
lines_follow l front rest (inl (e, z)) ends stop = record { item = no_lines; is = ap (λ (us : Text). lines_at (us ++ rest)) e ∙ stop; seen = sym z }
lines_follow l front rest (inr (digits, whole, is)) ends stop =
    let r = number_follows l digits rest is ends in
    record { item = r.item; is = ap (λ (us : Text). lines_at (us ++ rest)) whole ∙ r.is; seen = r.seen }

kind_no_digit : (k : Kind) (us : Text) → NoDigit (kind_text k ∷ us)
kind_no_digit kinds.Keep us = refl
kind_no_digit kinds.Drop us = refl
kind_no_digit kinds.Insert us = refl

kind_no_star : (k : Kind) (us : Text) → begins_star (kind_text k ∷ us) ≡ false
kind_no_star kinds.Keep us = refl
kind_no_star kinds.Drop us = refl
kind_no_star kinds.Insert us = refl

kind_no_lines : (k : Kind) (us : Text) → lines_at (kind_text k ∷ us) ≡ okay (no_lines, kind_text k ∷ us)
kind_no_lines kinds.Keep us = refl
kind_no_lines kinds.Drop us = refl
kind_no_lines kinds.Insert us = refl

kind_follows : (k : Kind) (us : Text) → kind_at (kind_text k ∷ us) ≡ okay (k, us)
kind_follows kinds.Keep us = refl
kind_follows kinds.Drop us = refl
kind_follows kinds.Insert us = refl

kind_no_dollar : (k : Kind) (us : Text) → goes_on (kind_text k ∷ us) ≡ true
kind_no_dollar kinds.Keep us = refl
kind_no_dollar kinds.Drop us = refl
kind_no_dollar kinds.Insert us = refl

-- lines and what is behind them begin so
record Begins (us : Text) : Type 0 where
  no_digit : begins_digit us ≡ false
  no_star : begins_star us ≡ false
  no_dollar : goes_on us ≡ true

lines_begin : (l : ℕ) (front : Text) (k : Kind) (us : Text) → IsLines l front → Begins (front ++ kind_text k ∷ us)
lines_begin l front k us (inl (e, z)) =
    subst (λ (f : Text). Begins (f ++ kind_text k ∷ us)) (sym e) (record { no_digit = kind_no_digit k us; no_star = kind_no_star k us; no_dollar = kind_no_dollar k us })
lines_begin l front k us (inr (digits, whole, is)) =
    subst (λ (f : Text). Begins (f ++ kind_text k ∷ us)) (sym whole) (record { no_digit = refl; no_star = refl; no_dollar = refl })

-- the parts of an operation, one behind the other
record IsSplit (o : Numbered) (front rest : Text) (is : IsOp o front) : Type 0 where
  whole : front ++ rest ≡ is.stars ++ (is.lines ++ (kind_text o.kind ∷ (is.units ++ rest)))

split : (o : Numbered) (front rest : Text) (is : IsOp o front) → IsSplit o front rest is
split o front rest is = record {
  whole =
      ap (λ (us : Text). us ++ rest) is.whole ∙ append_assoc is.stars (is.lines ++ (kind_text o.kind ∷ is.units)) rest
      ∙ ap (λ (us : Text). is.stars ++ us) (append_assoc is.lines (kind_text o.kind ∷ is.units) rest);
}

-- the three readings before the units, and the units
record ReadsParts (o : Numbered) (text rest : Text) : Type 0 where
  stars : List Number
  behind_stars : Text
  lines : Number
  units : Number
  after : Text
  are_stars : stars_at text ≡ okay (stars, behind_stars)
  are_lines : lines_at behind_stars ≡ okay (lines, kind_text o.kind ∷ after)
  are_units : number_at after ≡ okay (units, rest)
  same : said (record { stars = stars; lines = lines; kind = o.kind; units = units }) ≡ o

reads_parts : (o : Numbered) (front rest : Text) → IsOp o front → NoDigit rest → ReadsParts o (front ++ rest) rest
reads_parts o front rest is ends =
    let tail = kind_text o.kind ∷ (is.units ++ rest) in
    let begins = lines_begin o.lines is.lines o.kind (is.units ++ rest) is.is_lines in
    let stars = stars_follow o.stars is.stars (is.lines ++ tail) is.are_stars begins.no_digit begins.no_star in
    let lines = lines_follow o.lines is.lines tail is.is_lines (kind_no_digit o.kind (is.units ++ rest)) (kind_no_lines o.kind (is.units ++ rest)) in
    let units = number_follows o.units is.units rest is.is_units ends in
    record {
      stars = stars.item;
      behind_stars = is.lines ++ tail;
      lines = lines.item;
      units = units.item;
      after = is.units ++ rest;
      are_stars = ap stars_at (split o front rest is).whole ∙ stars.is;
      are_lines = lines.is;
      are_units = units.is;
      same = λ i. record { stars = stars.seen i; lines = lines.seen i; kind = o.kind; units = units.seen i };
    }

op_follows : (o : Numbered) (front rest : Text) → IsOp o front → NoDigit rest → Reads said (op_at (front ++ rest)) o rest
unfolding op_at
op_follows o front rest is ends =
    let p = reads_parts o front rest is ends in
    record {
      item = record { stars = p.stars; lines = p.lines; kind = o.kind; units = p.units };
      is =
          ap (λ (r : Result (List Number × Text) ℕ). r >>= λ stars. lines_at stars.1 >>= λ lines. kind_at lines.1 >>= λ kind. number_at kind.1 >>= λ units. okay (record { stars = stars.0; lines = lines.0; kind = kind.0; units = units.0 }, units.1)) p.are_stars
          ∙ ap (λ (r : Result (Number × Text) ℕ). r >>= λ lines. kind_at lines.1 >>= λ kind. number_at kind.1 >>= λ units. okay (record { stars = p.stars; lines = lines.0; kind = kind.0; units = units.0 }, units.1)) p.are_lines
          ∙ ap (λ (r : Result (Kind × Text) ℕ). r >>= λ kind. number_at kind.1 >>= λ units. okay (record { stars = p.stars; lines = p.lines; kind = kind.0; units = units.0 }, units.1)) (kind_follows o.kind p.after)
          ∙ ap (λ (r : Result (Number × Text) ℕ). r >>= λ units. okay (record { stars = p.stars; lines = p.lines; kind = o.kind; units = units.0 }, units.1)) p.are_units;
      seen = p.same;
    }

op_begins : (o : Numbered) (front rest : Text) → IsOp o front → (begins_digit (front ++ rest) ≡ false) × (goes_on (front ++ rest) ≡ true)
op_begins o front rest is =
    let tail = is.lines ++ (kind_text o.kind ∷ (is.units ++ rest)) in
    let b = go o.stars is.stars is.are_stars (lines_begin o.lines is.lines o.kind (is.units ++ rest) is.is_lines) in
    let w = (split o front rest is).whole in
    (ap begins_digit w ∙ b.0, ap goes_on w ∙ b.1)
  where
    go : {tail : Text} (ns : List ℕ) (stars : Text) → AreItems IsStar ns stars → Begins tail → (begins_digit (stars ++ tail) ≡ false) × (goes_on (stars ++ tail) ≡ true)
    go {tail} [] stars e b = (ap (λ (us : Text). begins_digit (us ++ tail)) e ∙ b.no_digit, ap (λ (us : Text). goes_on (us ++ tail)) e ∙ b.no_dollar)
    go {tail} (n ∷ ns) stars (first, rest, whole, (digits, star, is), are) b =
        let w : stars ++ tail ≡ 42 ∷ ((digits ++ rest) ++ tail) = ap (λ (us : Text). us ++ tail) (whole ∙ ap (λ (us : Text). us ++ rest) star) in
        (ap begins_digit w, ap goes_on w)

ops_readable : AreReadable IsOp said goes_on op_at NoDigit
ops_readable = record {
  goes = λ o front rest is ends. ((op_begins o front rest is).1, op_follows o front rest is ends);
  next = λ o front rest is. (op_begins o front rest is).0;
}

ops_follow : (os : List Numbered) (front bank : Text) → AreItems IsOp os front → Reads (map said) (ops_at (front ++ 36 ∷ bank)) os (36 ∷ bank)
ops_follow os front bank are = items_follow IsOp said goes_on op_at NoDigit ops_readable op_shortens os front (36 ∷ bank) are refl refl

-- ---- whole texts

sign_follows : (b : Bool) (us : Text) → sign_at (sign b ∷ us) ≡ okay (b, us)
sign_follows false us = refl
sign_follows true us = refl

sign_no_digit : (b : Bool) (us : Text) → begins_digit (sign b ∷ us) ≡ false
sign_no_digit false us = refl
sign_no_digit true us = refl

ops_no_digit : (os : List Numbered) (front bank : Text) → AreItems IsOp os front → begins_digit (front ++ 36 ∷ bank) ≡ false
ops_no_digit [] front bank e = ap (λ (us : Text). begins_digit (us ++ 36 ∷ bank)) e
ops_no_digit (o ∷ os) front bank (first, rest, whole, is, are) =
    ap begins_digit (ap (λ (us : Text). us ++ 36 ∷ bank) whole ∙ append_assoc first rest (36 ∷ bank)) ∙ (op_begins o first (rest ++ 36 ∷ bank) is).0

pub text_follows : (w : Writing) (text : Text) → IsWritten w text → (p : Parts) × (parts_of text ≡ okay p) × (writing_of p ≡ w)
unfolding parts_of
text_follows w text t =
    let tail = t.ops ++ 36 ∷ w.bank in
    let behind_sign = t.difference ++ tail in
    let behind_old = sign w.shrinks ∷ behind_sign in
    let old = number_follows w.old t.old behind_old t.is_old (sign_no_digit w.shrinks behind_sign) in
    let difference = number_follows w.difference t.difference tail t.is_difference (ops_no_digit w.ops t.ops w.bank t.are_ops) in
    let ops = ops_follow w.ops t.ops w.bank t.are_ops in (
      record { old = old.item; shrinks = w.shrinks; difference = difference.item; ops = ops.item; bank = w.bank },
      ap (λ (us : Text). unit_at 90 us >>= λ z. unit_at 58 z >>= λ colon. number_at colon >>= λ old. sign_at old.1 >>= λ sign. number_at sign.1 >>= λ difference. ops_at difference.1 >>= λ ops. unit_at 36 ops.1 >>= λ bank. okay (record { old = old.0; shrinks = sign.0; difference = difference.0; ops = ops.0; bank = bank })) t.whole
          ∙ ap (λ (r : Result (Number × Text) ℕ). r >>= λ old. sign_at old.1 >>= λ sign. number_at sign.1 >>= λ difference. ops_at difference.1 >>= λ ops. unit_at 36 ops.1 >>= λ bank. okay (record { old = old.0; shrinks = sign.0; difference = difference.0; ops = ops.0; bank = bank })) old.is
          ∙ ap (λ (r : Result (Bool × Text) ℕ). r >>= λ sign. number_at sign.1 >>= λ difference. ops_at difference.1 >>= λ ops. unit_at 36 ops.1 >>= λ bank. okay (record { old = old.item; shrinks = sign.0; difference = difference.0; ops = ops.0; bank = bank })) (sign_follows w.shrinks behind_sign)
          ∙ ap (λ (r : Result (Number × Text) ℕ). r >>= λ difference. ops_at difference.1 >>= λ ops. unit_at 36 ops.1 >>= λ bank. okay (record { old = old.item; shrinks = w.shrinks; difference = difference.0; ops = ops.0; bank = bank })) difference.is
          ∙ ap (λ (r : Result (List Operation × Text) ℕ). r >>= λ ops. unit_at 36 ops.1 >>= λ bank. okay (record { old = old.item; shrinks = w.shrinks; difference = difference.item; ops = ops.0; bank = bank })) ops.is,
      λ i. record { old = old.seen i; shrinks = w.shrinks; difference = difference.seen i; ops = ops.seen i; bank = w.bank },
    )

-- ---- attributed text

-- an operation that inserts
abbrev IsInsert : Numbered → Text → Type 0
IsInsert o us = IsOp o us × (o.kind ≡ kinds.Insert)

plus_follows : (k : Kind) (us : Text) → k ≡ kinds.Insert → unit_at 43 (kind_text k ∷ us) ≡ okay us
plus_follows k us e = ap (λ (k : Kind). unit_at 43 (kind_text k ∷ us)) e

attrib_follows : (o : Numbered) (front rest : Text) → IsOp o front → o.kind ≡ kinds.Insert → NoDigit rest → Reads said (attrib_at (front ++ rest)) o rest
unfolding attrib_at
attrib_follows o front rest is k ends =
    let p = reads_parts o front rest is ends in
    record {
      item = record { stars = p.stars; lines = p.lines; kind = kinds.Insert; units = p.units };
      is =
          ap (λ (r : Result (List Number × Text) ℕ). r >>= λ stars. lines_at stars.1 >>= λ lines. unit_at 43 lines.1 >>= λ plus. number_at plus >>= λ units. okay (record { stars = stars.0; lines = lines.0; kind = kinds.Insert; units = units.0 }, units.1)) p.are_stars
          ∙ ap (λ (r : Result (Number × Text) ℕ). r >>= λ lines. unit_at 43 lines.1 >>= λ plus. number_at plus >>= λ units. okay (record { stars = p.stars; lines = lines.0; kind = kinds.Insert; units = units.0 }, units.1)) p.are_lines
          ∙ ap (λ (r : Result Text ℕ). r >>= λ plus. number_at plus >>= λ units. okay (record { stars = p.stars; lines = p.lines; kind = kinds.Insert; units = units.0 }, units.1)) (plus_follows o.kind p.after k)
          ∙ ap (λ (r : Result (Number × Text) ℕ). r >>= λ units. okay (record { stars = p.stars; lines = p.lines; kind = kinds.Insert; units = units.0 }, units.1)) p.are_units;
      seen = (λ i. said (record { stars = p.stars; lines = p.lines; kind = sym k i; units = p.units })) ∙ p.same;
    }

some_text : (o : Numbered) (front rest : Text) → IsOp o front → is_some_text (front ++ rest) ≡ true
some_text o front rest is = go (front ++ rest) (op_begins o front rest is).1 (length_is (front ++ rest) (split o front rest is).whole)
  where
    go : (us : Text) → goes_on us ≡ true → 0 < length us → is_some_text us ≡ true
    go [] e h = absurd (omega (arith, h))
    go (u ∷ us) e h = refl

    length_is : (us : Text) → us ≡ is.stars ++ (is.lines ++ (kind_text o.kind ∷ (is.units ++ rest))) → 0 < length us
    length_is us e = omega (arith, ap length e, length-append is.stars (is.lines ++ (kind_text o.kind ∷ (is.units ++ rest))), length-append is.lines (kind_text o.kind ∷ (is.units ++ rest)))

attribs_readable : AreReadable IsInsert said is_some_text attrib_at NoDigit
attribs_readable = record {
  goes = λ o front rest is ends. (some_text o front rest is.0, attrib_follows o front rest is.0 is.1 ends);
  next = λ o front rest is. (op_begins o front rest is.0).0;
}

both : (os : List Numbered) (t : Text) → AreItems IsOp os t → AllByRecursion (λ (o : Numbered). o.kind ≡ kinds.Insert) os → AreItems IsInsert os t
both [] t e h = e
both (o ∷ os) t (first, rest, whole, is, are) h = (first, rest, whole, (is, h.0), both os rest are h.1)

pub attribs_follow : (os : List Numbered) (t : Text) → AreItems IsOp os t → AllByRecursion (λ (o : Numbered). o.kind ≡ kinds.Insert) os → Reads (map said) (attribs_at t) os []
attribs_follow os t are h =
    let r = items_follow IsInsert said is_some_text attrib_at NoDigit attribs_readable attrib_shortens os t [] (both os t are h) refl refl in
    record { item = r.item; is = ap attribs_at (sym (append-nil t)) ∙ r.is; seen = r.seen }
