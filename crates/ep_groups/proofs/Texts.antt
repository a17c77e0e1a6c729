-- Ids, numbers, pads and sessions that are written are read back.
use Rattle.std.proofs.Common.{◌≡◌, ℕ, zero, suc, ◌+◌, ◌-◌, ◌*◌, ◌/◌, ◌%◌, ◌^◌, ◌<◌, ◌≤◌, Bool, true, false, cond, not, ◌&&◌, nat_lt, nat_le, ◌==◌, List, [], ◌∷◌, ◌++◌, map, length, take, drop, Option, Some, None, is_some, if◌then◌else◌, refl, sym, ap, ◌∙◌, arith, append_assoc, length-append, decimal, IsAscii, flat_map, take_at, drop_at, slice_index}
use Rattle.std.proofs.lemmas.Bool.{and_parts, and_from, false≢true, lt-ltb, le-leb, eq-eqb}
use Rattle.std.proofs.lemmas.Bool.Decides.{nat_tests}
use Rattle.std.proofs.lemmas.Str.{chars-IsAscii, IsUtf8-from_ascii}
use Rattle.std.proofs.lemmas.Str.Ascii.{IsAscii-nil}
use Rattle.std.proofs.lemmas.Slice.Eq.{bytes_eq-Decides}
use Rattle.std.proofs.lemmas.Fmt.{decimal_by_steps}
use Rattle.std.proofs.lemmas.List.{length-map}
use Rattle.std.proofs.str.Utf16.{one_unit}
use Rattle.std.specs.Char.{is_ascii_alphanumeric, is_ascii_digit}
use Rattle.std.specs.List.{list_all, position_or_len}
use Rattle.std.specs.Str.{bytes_eq}
use Rattle.std.specs.Char.Escape.{encode_utf16}
use Rattle.ep_units.specs.Text.{Text, is_well_formed}
use Rattle.ep_units.specs.Utf8.{units_of, utf8_of}
use Rattle.ep_units.specs.Base36.{digit}
use Rattle.ep_units.specs.PadId.{is_own_id, is_name, name_of}
use Rattle.ep_units.proofs.Back.{units_of-utf8_of, utf8_of-units_of}
use Rattle.ep_dir_records.specs.Ids.{dot, id_of, letter, six_digits, most_ids}
use Rattle.ep_dir_records.specs.Values.{◌>>=◌, only_if, number_from, number_in, count_in, is_id, is_space, cut_at_space, session_in, session_text}
use Rattle.ep_dir_records.specs.declared.values.SessionInfo.{SessionInfo}
use Rattle.ep_dir_records.specs.declared.ids.IdKind.{IdKind}
use Rattle.ep_dir_records.specs.declared.ids.IdKind.TheVariants.{Group, Author, Session, ReadOnly}
use Rattle.ep_groups.specs.Calls.{AreUnits, IsDrawn}

-- ASCII
low : (b : ℕ) → is_ascii_alphanumeric b ≡ true → b < 128
low b h = grind (arith, nat_tests)

no_space : (b : ℕ) → is_ascii_alphanumeric b ≡ true → is_space b ≡ false
no_space b h = grind (arith, nat_tests)

ascii_cons : (b : ℕ) (bs : List ℕ) → b < 128 → IsAscii bs → (i : ℕ) → slice_index (b ∷ bs) i < 128
ascii_cons b bs l a zero = l
ascii_cons b bs l a (suc i) = a i

alphanumeric_ascii : (bs : List ℕ) → list_all is_ascii_alphanumeric bs ≡ true → IsAscii bs
alphanumeric_ascii [] h = IsAscii-nil
alphanumeric_ascii (b ∷ bs) h =
    let parts = and_parts (is_ascii_alphanumeric b) (list_all is_ascii_alphanumeric bs) h in
    ascii_cons b bs (low b parts.0) (alphanumeric_ascii bs parts.1)

units_as : (bs : List ℕ) → IsAscii bs → flat_map encode_utf16 bs ≡ bs
units_as [] a = refl
units_as (b ∷ bs) a = let first : b < 128 = a 0 in rw (one_unit b (omega arith)) (ap (λ t. b ∷ t) (units_as bs (λ i. a (suc i))))

ascii_units : (bs : List ℕ) → IsAscii bs → units_of bs ≡ bs
ascii_units bs a = ap (flat_map encode_utf16) (chars-IsAscii bs a) ∙ units_as bs a

back : (bs : List ℕ) → IsAscii bs → utf8_of (units_of bs) ≡ bs
back bs a = utf8_of-units_of bs (IsUtf8-from_ascii bs a)

ascii_utf8 : (bs : List ℕ) → IsAscii bs → utf8_of bs ≡ bs
ascii_utf8 bs a = ap utf8_of (sym (ascii_units bs a)) ∙ back bs a

-- IDS
id_parts : (kind : IdKind) (a b : ℕ) (rest : List ℕ) → is_id kind (a ∷ b ∷ rest) ≡ true → (a ≡ letter kind) × (b ≡ dot) × (list_all is_ascii_alphanumeric rest ≡ true)
id_parts kind a b rest h =
    let parts = and_parts (a == letter kind && b == dot) (length rest == 16 && list_all is_ascii_alphanumeric rest) h in
    let head = and_parts (a == letter kind) (b == dot) parts.0 in
    let tail = and_parts (length rest == 16) (list_all is_ascii_alphanumeric rest) parts.1 in
    (grind (arith, nat_tests, head.0), grind (arith, nat_tests, head.1), tail.1)

letter_is : (kind : IdKind) → (32 < letter kind) × (letter kind < 128)
letter_is Group = (omega arith, omega arith)
letter_is Author = (omega arith, omega arith)
letter_is Session = (omega arith, omega arith)
letter_is ReadOnly = (omega arith, omega arith)

id_ascii : (kind : IdKind) (bs : List ℕ) → is_id kind bs ≡ true → IsAscii bs
id_ascii kind [] h = absurd (false≢true h)
id_ascii kind (a ∷ []) h = absurd (false≢true h)
id_ascii kind (a ∷ b ∷ rest) h =
    let parts = id_parts kind a b rest h in
    ascii_cons a (b ∷ rest) (omega (arith, parts.0, (letter_is kind).1)) (ascii_cons b rest (omega (arith, parts.1)) (alphanumeric_ascii rest parts.2))

abbrev pub IsIdOf : IdKind → Text → Type 0
IsIdOf kind id = is_id kind (utf8_of id) ≡ true

-- an id that is read is one
pub id_is_read : (kind : IdKind) (value : List ℕ) → is_id kind value ≡ true → IsIdOf kind (units_of value)
id_is_read kind value h = ap (is_id kind) (back value (id_ascii kind value h)) ∙ h

digit_is : (d : ℕ) → d < 36 → is_ascii_alphanumeric (digit d) ≡ true
digit_is d l = grind (arith, nat_tests)

all_append : (xs ys : List ℕ) → list_all is_ascii_alphanumeric xs ≡ true → list_all is_ascii_alphanumeric ys ≡ true → list_all is_ascii_alphanumeric (xs ++ ys) ≡ true
all_append [] ys a b = b
all_append (x ∷ xs) ys a b = let parts = and_parts (is_ascii_alphanumeric x) (list_all is_ascii_alphanumeric xs) a in and_from _ _ parts.0 (all_append xs ys parts.1 b)

drawn_are : (ds : List ℕ) → list_all (λ d. nat_lt d 36) ds ≡ true → list_all is_ascii_alphanumeric (map digit ds) ≡ true
drawn_are [] h = refl
drawn_are (d ∷ ds) h =
    let parts = and_parts (nat_lt d 36) (list_all (λ e. nat_lt e 36) ds) h in
    and_from _ _ (digit_is d (grind (arith, nat_tests, parts.0))) (drawn_are ds parts.1)

six_are : (n : ℕ) → list_all is_ascii_alphanumeric (six_digits n) ≡ true
six_are n =
    and_from _ _ (digit_is (n / 36 ^ 5 % 36) (omega arith)) (
    and_from _ _ (digit_is (n / 36 ^ 4 % 36) (omega arith)) (
    and_from _ _ (digit_is (n / 36 ^ 3 % 36) (omega arith)) (
    and_from _ _ (digit_is (n / 36 ^ 2 % 36) (omega arith)) (
    and_from _ _ (digit_is (n / 36 % 36) (omega arith)) (
    and_from _ _ (digit_is (n % 36) (omega arith)) refl)))))

made_is : (kind : IdKind) (ds : List ℕ) (n : ℕ) → IsDrawn ds → is_id kind (id_of kind ds n) ≡ true
made_is kind ds n drawn =
    let long : length (map digit ds ++ six_digits n) ≡ 16 = length-append (map digit ds) (six_digits n) ∙ ap (λ k. k + 6) (length-map ds digit ∙ drawn.0) in
    and_from _ _ (and_from _ _ (eq-eqb (letter kind) (letter kind) refl) refl) (and_from _ _ (eq-eqb _ _ long) (all_append (map digit ds) (six_digits n) (drawn_are ds drawn.1) (six_are n)))

-- a new id is one
pub id_is_made : (kind : IdKind) (ds : List ℕ) (n : ℕ) → IsDrawn ds → IsIdOf kind (id_of kind ds n)
id_is_made kind ds n drawn =
    let is = made_is kind ds n drawn in
    ap (is_id kind) (ascii_utf8 (id_of kind ds n) (id_ascii kind (id_of kind ds n) is)) ∙ is

pub some_if : {A : Type 0} (b : Bool) (x : A) → b ≡ true → is_some (only_if b x) ≡ true
some_if true x h = refl
some_if false x h = absurd (false≢true h)

-- NUMBERS
number_next : (a m c : ℕ) (t : Bool) → (is_ascii_digit c && nat_lt (10 * a + (c - 48)) (2 ^ 64)) ≡ t → a ≡ m → is_ascii_digit c ≡ true → 10 * m + (c - 48) < 2 ^ 64 → (if t then Some (10 * a + (c - 48)) else None) ≡ Some (10 * m + (c - 48))
number_next a m c true e same d l = ap (λ k. Some (10 * k + (c - 48))) same
number_next a m c false e same d l = absurd (false≢true (sym e ∙ and_from _ _ d (lt-ltb _ _ (omega arith))))

number_more : (a m c : ℕ) (ds : List ℕ) → number_from a ds ≡ Some m → is_ascii_digit c ≡ true → 10 * m + (c - 48) < 2 ^ 64 → number_from a (ds ++ c ∷ []) ≡ Some (10 * m + (c - 48))
number_more a m c [] e d l = let same : a ≡ m = cc in number_next a m c (is_ascii_digit c && nat_lt (10 * a + (c - 48)) (2 ^ 64)) refl same d l
number_more a m c (b ∷ bs) e d l = go (is_ascii_digit b && nat_lt (10 * a + (b - 48)) (2 ^ 64)) (number_more (10 * a + (b - 48)) m c bs) e
  where
    go : (t : Bool) → (number_from (10 * a + (b - 48)) bs ≡ Some m → is_ascii_digit c ≡ true → 10 * m + (c - 48) < 2 ^ 64 → number_from (10 * a + (b - 48)) (bs ++ c ∷ []) ≡ Some (10 * m + (c - 48)))
        → (if t then number_from (10 * a + (b - 48)) bs else None) ≡ Some m
        → (if t then number_from (10 * a + (b - 48)) (bs ++ c ∷ []) else None) ≡ Some (10 * m + (c - 48))
    go true rest e = rest e d l
    go false rest e = absurd (cc e)

digit_code : (d : ℕ) → d < 10 → is_ascii_digit (48 + d) ≡ true
digit_code d l = grind (arith, nat_tests)

abbrev IsNumberOf : ℕ → List ℕ → Type 0
IsNumberOf n ds = n < 2 ^ 64 → number_from 0 ds ≡ Some n

number_one : (n : ℕ) → n < 10 → IsNumberOf n ((48 + n) ∷ [])
number_one n small fits =
    let same : 10 * 0 + (48 + n - 48) ≡ n = omega arith in number_more 0 0 (48 + n) [] refl (digit_code n small) (omega arith) ∙ ap (λ j. Some j) same

number_ten : (n : ℕ) (ds : List ℕ) → 10 ≤ n → IsNumberOf (n / 10) ds → IsNumberOf n (ds ++ ((48 + n % 10) ∷ []))
number_ten n ds large front fits =
    let same : 10 * (n / 10) + (48 + n % 10 - 48) ≡ n = omega arith in
    number_more 0 (n / 10) (48 + n % 10) ds (front (omega arith)) (digit_code (n % 10) (omega arith)) (omega arith) ∙ ap (λ j. Some j) same

number_decimal : (n : ℕ) → n < 2 ^ 64 → number_from 0 (decimal n) ≡ Some n
number_decimal n l = decimal_by_steps IsNumberOf number_one number_ten n l l

only_true : {A : Type 0} (b : Bool) (x : A) → b ≡ true → only_if b x ≡ Some x
only_true true x h = refl
only_true false x h = absurd (false≢true h)

number_back : (n : ℕ) → n < 2 ^ 64 → number_in (decimal n) ≡ Some n
number_back n l = ap (λ o. o >>= (λ k. only_if (bytes_eq (decimal k) (decimal n)) k)) (number_decimal n l) ∙ only_true _ n ((bytes_eq-Decides (decimal n) (decimal n)).1 refl)

-- a count that is put is read back
pub count_is_read : (n : ℕ) → n ≤ most_ids → is_some (count_in (decimal n)) ≡ true
count_is_read n l = ap (λ o. is_some (o >>= (λ k. only_if (nat_le k most_ids) k))) (number_back n (omega arith)) ∙ some_if (nat_le n most_ids) n (le-leb _ _ l)

-- PADS
-- an own id is one again when it is read back
pub own_again : (pad : Text) → AreUnits pad → is_own_id pad ≡ true → is_own_id (units_of (utf8_of pad)) ≡ true
own_again pad units is =
    let named = (and_parts _ _ (and_parts _ _ is).0).0 in
    let formed = (and_parts (is_well_formed pad) (is_name (name_of pad)) named).0 in
    ap is_own_id (units_of-utf8_of pad units formed) ∙ is

-- SESSIONS
NoSpace : List ℕ → Type 0
NoSpace [] = Unit {0}
NoSpace (b ∷ bs) = (is_space b ≡ false) × NoSpace bs

alphanumeric_spaceless : (bs : List ℕ) → list_all is_ascii_alphanumeric bs ≡ true → NoSpace bs
unfolding NoSpace
alphanumeric_spaceless [] h = tt
alphanumeric_spaceless (b ∷ bs) h =
    let parts = and_parts (is_ascii_alphanumeric b) (list_all is_ascii_alphanumeric bs) h in (no_space b parts.0, alphanumeric_spaceless bs parts.1)

id_spaceless : (kind : IdKind) (bs : List ℕ) → is_id kind bs ≡ true → NoSpace bs
unfolding NoSpace
id_spaceless kind [] h = tt
id_spaceless kind (a ∷ []) h = absurd (false≢true h)
id_spaceless kind (a ∷ b ∷ rest) h =
    let parts = id_parts kind a b rest h in
    let one : 32 < a = omega (arith, parts.0, (letter_is kind).0) in
    let two : 32 < b = omega (arith, parts.1) in (grind (arith, nat_tests), (grind (arith, nat_tests), alphanumeric_spaceless rest parts.2))

space_at : (a b : List ℕ) → NoSpace a → position_or_len is_space (a ++ 32 ∷ b) ≡ length a
unfolding NoSpace
space_at [] b none = refl
space_at (x ∷ xs) b none =
    ap (λ t. cond (not t) (1 + position_or_len is_space (xs ++ 32 ∷ b)) 0) none.0 ∙ ap (λ k. 1 + k) (space_at xs b none.1) ∙ omega arith

abbrev Cut : Type 0
Cut = Option (List ℕ × List ℕ)

cut_at : (n : ℕ) (xs a b : List ℕ) → n ≡ length a → xs ≡ a ++ 32 ∷ b → (let some : List ℕ × List ℕ → Cut = λ c. Some c in let none : Cut = None in cond (nat_lt n (length xs)) (some (take n xs, drop (n + 1) xs)) none ≡ some (a, b))
cut_at n xs a b at is =
    let inside : nat_lt n (length xs) ≡ true = lt-ltb _ _ (omega (arith, ap length is, length-append a (32 ∷ b))) in
    let front : take n xs ≡ a = ap (take n) is ∙ take_at a (32 ∷ b) n (sym at) in
    let again : xs ≡ (a ++ 32 ∷ []) ++ b = is ∙ sym (append_assoc a (32 ∷ []) b) in
    let long : length (a ++ 32 ∷ []) ≡ n + 1 = length-append a (32 ∷ []) ∙ ap (λ k. k + 1) (sym at) in
    let rest : drop (n + 1) xs ≡ b = ap (drop (n + 1)) again ∙ drop_at (a ++ 32 ∷ []) b (n + 1) long in
    rw (inside, front, rest) refl

cut : (a b : List ℕ) → NoSpace a → (let c : Cut = Some (a, b) in cut_at_space (a ++ 32 ∷ b) ≡ c)
cut a b none = cut_at (position_or_len is_space (a ++ 32 ∷ b)) (a ++ 32 ∷ b) a b (space_at a b none) refl

-- the session of its parts
abbrev session_by : Text → List ℕ → List ℕ → ℕ → Option SessionInfo
session_by id group author until = only_if (is_id Group group && is_id Author author) (record { id = id; group = units_of group; author = units_of author; valid_until = until })

session_parts : (id : Text) (group author : List ℕ) (until : ℕ) → is_id Group group ≡ true → is_id Author author ≡ true → until < 2 ^ 64
    → is_some (session_in id (group ++ 32 ∷ (author ++ 32 ∷ decimal until))) ≡ true
session_parts id group author until g a l =
    ap (λ o. is_some (o >>= (λ c. cut_at_space c.1 >>= (λ d. number_in d.1 >>= (λ n. session_by id c.0 d.0 n))))) (cut group (author ++ 32 ∷ decimal until) (id_spaceless Group group g))
    ∙ ap (λ o. is_some (o >>= (λ d. number_in d.1 >>= (λ n. session_by id group d.0 n)))) (cut author (decimal until) (id_spaceless Author author a))
    ∙ ap (λ o. is_some (o >>= (λ n. session_by id group author n))) (number_back until l)
    ∙ some_if (is_id Group group && is_id Author author) _ (and_from _ _ g a)

-- a session that is put is read back
pub session_is_read : (id group author : Text) (until : ℕ) → IsIdOf Group group → IsIdOf Author author → until < 2 ^ 64 → is_some (session_in id (session_text group author until)) ≡ true
session_is_read id group author until g a l =
    let flat : session_text group author until ≡ utf8_of group ++ 32 ∷ (utf8_of author ++ 32 ∷ decimal until) = simp append_assoc in
    ap (λ v. is_some (session_in id v)) flat ∙ session_parts id (utf8_of group) (utf8_of author) until g a l

some_any : {A : Type 0} (t : Bool) (x y : A) → is_some (only_if t x) ≡ is_some (only_if t y)
some_any true x y = refl
some_any false x y = refl

some_then : {A B C : Type 0} (o : Option A) (f : A → Option B) (g : A → Option C) → ((x : A) → is_some (f x) ≡ is_some (g x)) → is_some (o >>= f) ≡ is_some (o >>= g)
some_then None f g same = refl
some_then (Some x) f g same = same x

-- whether a value is a session's does not hang on the id
pub session_any : (i j : Text) (value : List ℕ) → is_some (session_in i value) ≡ is_some (session_in j value)
session_any i j value =
    some_then (cut_at_space value) _ _ (λ c. some_then (cut_at_space c.1) _ _ (λ d. some_then (number_in d.1) _ _ (λ n. some_any (is_id Group c.0 && is_id Author d.0) _ _)))
