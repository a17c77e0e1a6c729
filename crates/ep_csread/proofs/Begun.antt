-- Where the syntax of changeset text stops, the units before that place begin some text.
use Rattle.std.proofs.Common.{◌≡◌, ℕ, ◌-◌, Bool, true, false, cond, not, eqb, ◌&&◌, inl, inr, None, List, [], ◌∷◌, ◌++◌, length, take, Result, Ok, Err, IfErr, refl, sym, ap, ap₂, subst, ◌∙◌, arith, length-append}
use Rattle.std.proofs.lemmas.Bool.{and_parts, eqb-true}
use Rattle.ep_units.specs.Text.{Text}
use Rattle.ep_units.specs.Base36.{is_digit}
use Rattle.ep_csread.specs.Syntax.{◌>>=◌, Parts, number_at, begins_with, begins_star, goes_on, star_at, stars_at, lines_at, kind_at, op_at, unit_at, parts_of}
use Rattle.ep_csread.specs.Grammar.{IsWritten, BeginsSome, SyntaxEnds}
use Rattle.ep_attr.specs.AttrMap.{Pair}
use Rattle.ep_csread.specs.Answer.{IsRefused}
use Rattle.ep_csread.specs.Reading.{reading}
use Rattle.ep_csread.specs.declared.bad.ReadBad.{ReadBad}
use Rattle.ep_csread.specs.declared.bad.ReadBad.TheVariants.{Syntax}
use Rattle.ep_csread.proofs.Shorter.{star_shortens, op_shortens}
use Rattle.ep_csread.proofs.Takes.{text_takes, writing_of}
use Rattle.ep_csread.proofs.Local.{Reader, okay, stop, then, head, got, left_of, rest_of, number, is_kind, kind_is, op_is, is_sign, sign_is, unit_is, ops, sign as sign_of, text_parts, text_fault, fault_of, fault_is, syntax_left, syntax_none, syntax_stops}
use Rattle.ep_csread.proofs.Mended.{Test, ByHead, Starts, not_true, Extended, Mended, Mends, Fresh, Takes, same_mends, same_fresh, after, after_takes, after_fresh, after_none, anything, head_mends, head_fresh, head_takes, no_digit, no_digit_head, digits_then, number_extend, number_mend, number_mends, number_fresh, number_takes, many_mends, many_skips}

-- ---- stars and lines

abbrev star : Reader
star t = rest_of (star_at t)

abbrev stars : Reader
stars t = rest_of (stars_at t)

abbrev lines : Reader
lines t = rest_of (lines_at t)

abbrev kind : Reader
kind t = rest_of (kind_at t)

-- a star that was seen
star_extend : (t s : Text) → star t ≡ okay s → Extended star no_digit t s
star_extend [] s e = absurd cc
star_extend (u ∷ us) s e =
    let x = number_extend us s e in
    record { before = u ∷ x.before; whole = ap (λ (vs : Text). u ∷ vs) x.whole; allowed = x.allowed; by_head = x.by_head; may = x.may; whenever = x.whenever; so = x.so }

star_mend : (t : Text) (left : ℕ) → star t ≡ stop left → Mended star no_digit (42 ∷ []) t left
star_mend [] left e = record {
  front = [];
  rest = [];
  more = 42 ∷ 48 ∷ [];
  whole = refl;
  width = ap (left_of 0) e;
  begins = λ p h st pt s. st.0 (48 ∷ s);
  so = λ s h. digits_then 48 [] s refl h;
}
star_mend (u ∷ us) left e =
    let m = number_mend us left e in
    record { front = u ∷ m.front; rest = m.rest; more = m.more; whole = ap (λ (vs : Text). u ∷ vs) m.whole; width = m.width; begins = λ p h st pt s. (h u (m.front ++ (m.more ++ s)) us ∙ pt); so = m.so }

abbrev no_star : Test
no_star t = not (begins_star t) && no_digit t

begins_head : (c : ℕ) → ByHead (begins_with c)
begins_head c u us vs = refl

stars_fol : (r : Text) → no_star r ≡ true → no_digit r ≡ true
stars_fol r h = (and_parts (not (begins_star r)) (no_digit r) h).1

stars_stop : (r : Text) → no_star r ≡ true → begins_star r ≡ false
stars_stop r h = not_true (begins_star r) (and_parts (not (begins_star r)) (no_digit r) h).0

star_mends : Mends star no_digit (42 ∷ [])
star_mends = record { extend = star_extend; mend = star_mend }

stars_mends : Mends stars no_star (42 ∷ [])
stars_mends = many_mends begins_star star_at star_shortens (begins_head 42) no_star no_digit (42 ∷ []) star_mends stars_fol stars_stop (λ us. refl, tt) (λ us. refl, tt)

stars_skip : (s : Text) → no_star s ≡ true → stars s ≡ okay s
stars_skip = many_skips begins_star star_at star_shortens (begins_head 42) no_star no_digit (42 ∷ []) star_mends stars_fol stars_stop (λ us. refl, tt) (λ us. refl, tt)

abbrev no_line : Test
no_line t = not (begins_with 124 t) && no_digit t

lines_skip : (r : Text) → begins_with 124 r ≡ false → lines r ≡ okay r
lines_skip [] e = refl
lines_skip (u ∷ us) e = ap (λ (c : Bool). rest_of (cond c (number_at us) (Ok (record { value = 0; left = 0 }, u ∷ us)))) e

lines_none : (t s : Text) → t ≡ s → begins_with 124 t ≡ false → Extended lines no_line t s
lines_none t s is none = record {
  before = [];
  whole = is;
  allowed = λ r. not (begins_with 124 r);
  by_head = λ u us vs. refl;
  may = ap not (ap (begins_with 124) (sym is) ∙ none);
  whenever = λ r h. (and_parts (not (begins_with 124 r)) (no_digit r) h).0;
  so = λ r h. lines_skip r (not_true (begins_with 124 r) h);
}

lines_at_bar : (b : Bool) (u : ℕ) (us : Text) → eqb u 124 ≡ b → lines (u ∷ us) ≡ rest_of (cond b (number_at us) (Ok (record { value = 0; left = 0 }, u ∷ us)))
lines_at_bar b u us e = ap (λ (c : Bool). rest_of (cond c (number_at us) (Ok (record { value = 0; left = 0 }, u ∷ us)))) e

lines_extend : (t s : Text) → lines t ≡ okay s → Extended lines no_line t s
lines_extend [] s e = lines_none [] s (ap (got []) e) refl
lines_extend (u ∷ us) s e = go (eqb u 124) refl
  where
    go : (b : Bool) → eqb u 124 ≡ b → Extended lines no_line (u ∷ us) s
    go true b =
        let x = number_extend us s (sym (lines_at_bar true u us b) ∙ e) in
        record {
          before = u ∷ x.before;
          whole = ap (λ (vs : Text). u ∷ vs) x.whole;
          allowed = x.allowed;
          by_head = x.by_head;
          may = x.may;
          whenever = λ r h. x.whenever r (and_parts (not (begins_with 124 r)) (no_digit r) h).1;
          so = λ r h. (lines_at_bar true u (x.before ++ r) b ∙ x.so r h);
        }
    go false b = lines_none (u ∷ us) s (ap (got []) (sym (lines_at_bar false u us b) ∙ e)) b

lines_mend : (t : Text) (left : ℕ) → lines t ≡ stop left → Mended lines no_line (124 ∷ []) t left
lines_mend [] left e = absurd cc
lines_mend (u ∷ us) left e = go (eqb u 124) refl
  where
    go : (b : Bool) → eqb u 124 ≡ b → Mended lines no_line (124 ∷ []) (u ∷ us) left
    go true b =
        let m = number_mend us left (sym (lines_at_bar true u us b) ∙ e) in
        record {
          front = u ∷ m.front;
          rest = m.rest;
          more = m.more;
          whole = ap (λ (vs : Text). u ∷ vs) m.whole;
          width = m.width;
          begins = λ p h st pt s. (h u (m.front ++ (m.more ++ s)) us ∙ pt);
          so = λ s h. (lines_at_bar true u (m.front ++ (m.more ++ s)) b ∙ m.so s (and_parts (not (begins_with 124 s)) (no_digit s) h).1);
        }
    go false b = let bad : okay (u ∷ us) ≡ stop left = sym (lines_at_bar false u us b) ∙ e in absurd cc

lines_mends : Mends lines no_line (124 ∷ [])
lines_mends = record { extend = lines_extend; mend = lines_mend }

-- ---- an operation

kind_mends : Mends kind anything (61 ∷ [])
kind_mends = same_mends (head is_kind) kind anything (61 ∷ []) kind_is (head_mends is_kind 61 refl)

kind_fresh : Fresh kind anything (61 ∷ [])
kind_fresh = same_fresh (head is_kind) kind anything (61 ∷ []) kind_is (head_fresh is_kind 61 refl)

kind_takes : Takes kind
kind_takes t s e = head_takes is_kind 61 refl t s (kind_is t ∙ e)

-- the kind and the units
abbrev units : Reader
units = then kind number

units_mends : Mends units no_digit (61 ∷ [])
units_mends = after kind number anything no_digit (61 ∷ []) (48 ∷ []) (61 ∷ []) kind_mends number_mends number_fresh number_takes (λ u us vs. refl) (λ us. refl, tt) (λ p st. st) (inl kind_takes)

units_fresh : Fresh units no_digit (61 ∷ [])
units_fresh = after_fresh kind number anything no_digit (61 ∷ []) (48 ∷ []) (61 ∷ []) kind_mends number_mends number_fresh number_takes (λ u us vs. refl) (λ us. refl, tt) (λ p st. st) (inl kind_takes) kind_fresh

units_takes : Takes units
units_takes = after_takes kind number anything no_digit (61 ∷ []) (48 ∷ []) (61 ∷ []) kind_mends number_mends number_fresh number_takes (λ u us vs. refl) (λ us. refl, tt) (λ p st. st) (inl kind_takes)

no_line_head : ByHead no_line
no_line_head u us vs = refl

abbrev lined : Reader
lined = then lines units

abbrev lined_starts : List ℕ
lined_starts = 124 ∷ 61 ∷ []

lined_mends : Mends lined no_digit lined_starts
lined_mends = after lines units no_line no_digit (124 ∷ []) (61 ∷ []) lined_starts lines_mends units_mends units_fresh units_takes no_line_head (λ us. refl, tt) (λ p st. (st.0, tt)) (inr (λ p st. st.1))

lined_fresh : Fresh lined no_digit lined_starts
lined_fresh =
    after_none lines units no_line no_digit (124 ∷ []) (61 ∷ []) lined_starts lines_mends units_mends units_fresh units_takes no_line_head (λ us. refl, tt) (λ p st. (st.0, tt)) (inr (λ p st. st.1))
    (λ s h. lines_skip s (not_true (begins_with 124 s) (and_parts (not (begins_with 124 s)) (no_digit s) h).0)) (λ p st. st.1)

lined_takes : Takes lined
lined_takes = after_takes lines units no_line no_digit (124 ∷ []) (61 ∷ []) lined_starts lines_mends units_mends units_fresh units_takes no_line_head (λ us. refl, tt) (λ p st. (st.0, tt)) (inr (λ p st. st.1))

no_star_head : ByHead no_star
no_star_head u us vs = refl

abbrev op : Reader
op t = rest_of (op_at t)

abbrev op_starts : List ℕ
op_starts = 42 ∷ lined_starts

op_nested : (t : Text) → then stars lined t ≡ op t
op_nested t = go (stars t) ∙ op_is t
  where
    by_lines : (r : Result Text ℕ) → (r >>= units) ≡ ((r >>= kind) >>= number)
    by_lines (Err x) = refl
    by_lines (Ok a) = refl

    go : (r : Result Text ℕ) → (r >>= lined) ≡ (((r >>= lines) >>= kind) >>= number)
    go (Err x) = refl
    go (Ok a) = by_lines (lines a)

op_mends : Mends op no_digit op_starts
op_mends =
    same_mends (then stars lined) op no_digit op_starts op_nested
    (after stars lined no_star no_digit (42 ∷ []) lined_starts op_starts stars_mends lined_mends lined_fresh lined_takes no_star_head (λ us. refl, (λ us. refl, tt)) (λ p st. (st.0, tt)) (inr (λ p st. st.1)))

abbrev dollar : Test
dollar t = begins_with 36 t

dollar_fol : (r : Text) → dollar r ≡ true → no_digit r ≡ true
dollar_fol [] h = refl
dollar_fol (u ∷ us) h = ap (λ (v : ℕ). not (is_digit v)) (same u 36 h)
  where
    same : (a b : ℕ) → eqb a b ≡ true → a ≡ b
    same a b e = eqb-true a b e

dollar_stops : (r : Text) → dollar r ≡ true → goes_on r ≡ false
dollar_stops r h = ap not h

ops_mends : Mends ops dollar op_starts
ops_mends =
    many_mends goes_on op_at op_shortens (λ u us vs. refl) dollar no_digit op_starts op_mends dollar_fol dollar_stops
    (λ us. refl, (λ us. refl, (λ us. refl, tt))) (λ us. refl, (λ us. refl, (λ us. refl, tt)))

ops_skip : (s : Text) → dollar s ≡ true → ops s ≡ okay s
ops_skip =
    many_skips goes_on op_at op_shortens (λ u us vs. refl) dollar no_digit op_starts op_mends dollar_fol dollar_stops
    (λ us. refl, (λ us. refl, (λ us. refl, tt))) (λ us. refl, (λ us. refl, (λ us. refl, tt)))

-- ---- whole texts

abbrev is_unit : ℕ → ℕ → Bool
is_unit c u = eqb u c

unit_mends : (c : ℕ) → is_unit c c ≡ true → Mends (unit_at c) anything (c ∷ [])
unit_mends c is = same_mends (head (is_unit c)) (unit_at c) anything (c ∷ []) (unit_is c) (head_mends (is_unit c) c is)

unit_fresh : (c : ℕ) → is_unit c c ≡ true → Fresh (unit_at c) anything (c ∷ [])
unit_fresh c is = same_fresh (head (is_unit c)) (unit_at c) anything (c ∷ []) (unit_is c) (head_fresh (is_unit c) c is)

unit_takes : (c : ℕ) → is_unit c c ≡ true → Takes (unit_at c)
unit_takes c is t s e = head_takes (is_unit c) c is t s (unit_is c t ∙ e)

sign_mends : Mends sign_of anything (62 ∷ [])
sign_mends = same_mends (head is_sign) sign_of anything (62 ∷ []) sign_is (head_mends is_sign 62 refl)

sign_fresh : Fresh sign_of anything (62 ∷ [])
sign_fresh = same_fresh (head is_sign) sign_of anything (62 ∷ []) sign_is (head_fresh is_sign 62 refl)

sign_takes : Takes sign_of
sign_takes t s e = head_takes is_sign 62 refl t s (sign_is t ∙ e)

-- the parts of a text, each with all that follows it
abbrev closed : Reader
closed = then ops (unit_at 36)

abbrev closed_starts : List ℕ
closed_starts = 42 ∷ 124 ∷ 61 ∷ 36 ∷ []

closed_low : (p : Test) → Starts closed_starts p → Starts op_starts p
closed_low p st = (st.0, (st.1.0, (st.1.1.0, tt)))

closed_high : (p : Test) → Starts closed_starts p → Starts (36 ∷ []) p
closed_high p st = (st.1.1.1.0, tt)

closed_mends : Mends closed anything closed_starts
closed_mends = after ops (unit_at 36) dollar anything op_starts (36 ∷ []) closed_starts ops_mends (unit_mends 36 refl) (unit_fresh 36 refl) (unit_takes 36 refl) (λ u us vs. refl) (λ us. refl, tt) closed_low (inr closed_high)

closed_fresh : Fresh closed anything closed_starts
closed_fresh = after_none ops (unit_at 36) dollar anything op_starts (36 ∷ []) closed_starts ops_mends (unit_mends 36 refl) (unit_fresh 36 refl) (unit_takes 36 refl) (λ u us vs. refl) (λ us. refl, tt) closed_low (inr closed_high) ops_skip closed_high

closed_takes : Takes closed
closed_takes = after_takes ops (unit_at 36) dollar anything op_starts (36 ∷ []) closed_starts ops_mends (unit_mends 36 refl) (unit_fresh 36 refl) (unit_takes 36 refl) (λ u us vs. refl) (λ us. refl, tt) closed_low (inr closed_high)

abbrev changed : Reader
changed = then number closed

closed_may : Starts closed_starts no_digit
closed_may = (λ us. refl, (λ us. refl, (λ us. refl, (λ us. refl, tt))))

changed_mends : Mends changed anything (48 ∷ [])
changed_mends = after number closed no_digit anything (48 ∷ []) closed_starts (48 ∷ []) number_mends closed_mends closed_fresh closed_takes no_digit_head closed_may (λ p st. st) (inl number_takes)

changed_fresh : Fresh changed anything (48 ∷ [])
changed_fresh = after_fresh number closed no_digit anything (48 ∷ []) closed_starts (48 ∷ []) number_mends closed_mends closed_fresh closed_takes no_digit_head closed_may (λ p st. st) (inl number_takes) number_fresh

changed_takes : Takes changed
changed_takes = after_takes number closed no_digit anything (48 ∷ []) closed_starts (48 ∷ []) number_mends closed_mends closed_fresh closed_takes no_digit_head closed_may (λ p st. st) (inl number_takes)

abbrev signed : Reader
signed = then sign_of changed

signed_mends : Mends signed anything (62 ∷ [])
signed_mends = after sign_of changed anything anything (62 ∷ []) (48 ∷ []) (62 ∷ []) sign_mends changed_mends changed_fresh changed_takes (λ u us vs. refl) (λ us. refl, tt) (λ p st. st) (inl sign_takes)

signed_fresh : Fresh signed anything (62 ∷ [])
signed_fresh = after_fresh sign_of changed anything anything (62 ∷ []) (48 ∷ []) (62 ∷ []) sign_mends changed_mends changed_fresh changed_takes (λ u us vs. refl) (λ us. refl, tt) (λ p st. st) (inl sign_takes) sign_fresh

signed_takes : Takes signed
signed_takes = after_takes sign_of changed anything anything (62 ∷ []) (48 ∷ []) (62 ∷ []) sign_mends changed_mends changed_fresh changed_takes (λ u us vs. refl) (λ us. refl, tt) (λ p st. st) (inl sign_takes)

abbrev measured : Reader
measured = then number signed

measured_mends : Mends measured anything (48 ∷ [])
measured_mends = after number signed no_digit anything (48 ∷ []) (62 ∷ []) (48 ∷ []) number_mends signed_mends signed_fresh signed_takes no_digit_head (λ us. refl, tt) (λ p st. st) (inl number_takes)

measured_fresh : Fresh measured anything (48 ∷ [])
measured_fresh = after_fresh number signed no_digit anything (48 ∷ []) (62 ∷ []) (48 ∷ []) number_mends signed_mends signed_fresh signed_takes no_digit_head (λ us. refl, tt) (λ p st. st) (inl number_takes) number_fresh

measured_takes : Takes measured
measured_takes = after_takes number signed no_digit anything (48 ∷ []) (62 ∷ []) (48 ∷ []) number_mends signed_mends signed_fresh signed_takes no_digit_head (λ us. refl, tt) (λ p st. st) (inl number_takes)

abbrev colon : Reader
colon = then (unit_at 58) measured

colon_mends : Mends colon anything (58 ∷ [])
colon_mends = after (unit_at 58) measured anything anything (58 ∷ []) (48 ∷ []) (58 ∷ []) (unit_mends 58 refl) measured_mends measured_fresh measured_takes (λ u us vs. refl) (λ us. refl, tt) (λ p st. st) (inl (unit_takes 58 refl))

colon_fresh : Fresh colon anything (58 ∷ [])
colon_fresh = after_fresh (unit_at 58) measured anything anything (58 ∷ []) (48 ∷ []) (58 ∷ []) (unit_mends 58 refl) measured_mends measured_fresh measured_takes (λ u us vs. refl) (λ us. refl, tt) (λ p st. st) (inl (unit_takes 58 refl)) (unit_fresh 58 refl)

colon_takes : Takes colon
colon_takes = after_takes (unit_at 58) measured anything anything (58 ∷ []) (48 ∷ []) (58 ∷ []) (unit_mends 58 refl) measured_mends measured_fresh measured_takes (λ u us vs. refl) (λ us. refl, tt) (λ p st. st) (inl (unit_takes 58 refl))

text_nested : (t : Text) → then (unit_at 90) colon t ≡ text_parts t
text_nested t = by_z (unit_at 90 t)
  where
    by_difference : (r : Result Text ℕ) → (r >>= closed) ≡ ((r >>= ops) >>= unit_at 36)
    by_difference (Err x) = refl
    by_difference (Ok a) = refl

    by_sign : (r : Result Text ℕ) → (r >>= changed) ≡ (((r >>= number) >>= ops) >>= unit_at 36)
    by_sign (Err x) = refl
    by_sign (Ok a) = by_difference (number a)

    by_old : (r : Result Text ℕ) → (r >>= signed) ≡ ((((r >>= sign_of) >>= number) >>= ops) >>= unit_at 36)
    by_old (Err x) = refl
    by_old (Ok a) = by_sign (sign_of a)

    by_colon : (r : Result Text ℕ) → (r >>= measured) ≡ (((((r >>= number) >>= sign_of) >>= number) >>= ops) >>= unit_at 36)
    by_colon (Err x) = refl
    by_colon (Ok a) = by_old (number a)

    by_z : (r : Result Text ℕ) → (r >>= colon) ≡ ((((((r >>= unit_at 58) >>= number) >>= sign_of) >>= number) >>= ops) >>= unit_at 36)
    by_z (Err x) = refl
    by_z (Ok a) = by_colon (unit_at 58 a)

text_mends : Mends text_parts anything (90 ∷ [])
text_mends =
    same_mends (then (unit_at 90) colon) text_parts anything (90 ∷ []) text_nested
    (after (unit_at 90) colon anything anything (90 ∷ []) (58 ∷ []) (90 ∷ []) (unit_mends 90 refl) colon_mends colon_fresh colon_takes (λ u us vs. refl) (λ us. refl, tt) (λ p st. st) (inl (unit_takes 90 refl)))

no_fault : (r : Result Parts ℕ) → fault_of r ≡ None → (p : Parts) × (r ≡ Ok p)
no_fault (Ok p) e = (p, refl)
no_fault (Err x) e = absurd cc

taken : (us vs : Text) → take (length us) (us ++ vs) ≡ us
taken [] vs = refl
taken (u ∷ us) vs = ap (λ (t : Text). u ∷ t) (taken us vs)

-- where the syntax stops, the units before that place begin a text
pub begun : (text : Text) (left at : ℕ) → parts_of text ≡ Err left → at ≡ length text - left → BeginsSome (take at text)
begun text left at e place =
    let m = text_mends.mend text left (fault_is (text_parts text) left (text_fault text ∙ ap fault_of e)) in
    let others : Text = m.more ++ [] in
    let p = no_fault (parts_of (m.front ++ others)) (sym (text_fault (m.front ++ others)) ∙ ap fault_of (m.so [] refl)) in
    let at_is : at ≡ length m.front = omega (arith, place, ap length m.whole, length-append m.front m.rest, m.width) in
    let front : take at text ≡ m.front = ap₂ (λ (n : ℕ) (t : Text). take n t) at_is m.whole ∙ taken m.front m.rest in
    (writing_of p.0, others, subst (λ (us : Text). IsWritten (writing_of p.0) (us ++ others)) (sym front) (text_takes (m.front ++ others) p.0 p.1))

abbrev refused : {A : Type 0} → ReadBad → Result A ReadBad
refused e = Err e

pub syntax_ends : (pool : List Pair) (text : Text) (at : ℕ) → reading pool text ≡ Err (Syntax at) → SyntaxEnds text at
syntax_ends pool text at e =
    let s = syntax_left pool text at e in record {
      within = omega (arith, s.2);
      before = begun text s.0 at s.1 s.2;
      with = λ below some. syntax_stops pool text some.1 at some.0 e below some.2;
      none = λ w is. syntax_none pool text at w e is;
    }

-- what a call that answers so refuses by the syntax
pub syntax_of : {A : Type 0} (pool : List Pair) (text : Text) (r : Result A ReadBad) → IfErr r (λ why. IsRefused why (reading pool text)) → (at : ℕ) → r ≡ refused (Syntax at) → SyntaxEnds text at
syntax_of pool text (Ok x) why at is = absurd cc
syntax_of pool text (Err e) why at is =
    syntax_ends pool text at (subst (λ (e : ReadBad). IsRefused e (reading pool text)) (ap (λ r. cause e r) is) why)
  where
    cause : {A : Type 0} → ReadBad → Result A ReadBad → ReadBad
    cause d (Ok x) = d
    cause d (Err e) = e
