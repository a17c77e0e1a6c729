-- The units before the place where reading stops begin some changeset text.
use Rattle.std.proofs.Common.{◌≡◌, ℕ, zero, suc, ◌<◌, Bool, true, false, true≢false, cond, not, ◌&&◌, ◌⊎◌, inl, inr, List, [], ◌∷◌, ◌++◌, length, Result, Ok, Err, refl, sym, ap, ap₂, ◌∙◌, arith, append_assoc, length-append}
use Rattle.std.specs.List.{list_all}
use Rattle.std.proofs.lemmas.Bool.{and_from, and_parts}
use Rattle.ep_units.specs.Text.{Text}
use Rattle.ep_units.specs.Base36.{is_digit, digits_of, behind}
use Rattle.ep_csread.specs.Syntax.{◌>>=◌, number_in, number_at}
use Rattle.ep_csread.proofs.Many.{Shortens}
use Rattle.ep_csread.proofs.Numbers.{number_shorter}
use Rattle.ep_csread.proofs.Takes.{only_digits, split_digits}
use Rattle.ep_csread.proofs.Follows.{begins_digit, digits_end}
use Rattle.ep_csread.proofs.Local.{Reader, okay, stop, then, head, got, left_of, rest_of, number, one, all, unfolded, shorter_one, behind_stops}

abbrev pub Test : Type 0
Test = Text → Bool

-- the first unit decides
abbrev pub ByHead : Test → Type 0
ByHead p = (u : ℕ) (us vs : Text) → p (u ∷ us) ≡ p (u ∷ vs)

-- a text that begins with one of these passes
abbrev pub Starts : List ℕ → Test → Type 0
Starts [] p = Unit {0}
Starts (c ∷ cs) p = ((us : Text) → p (c ∷ us) ≡ true) × Starts cs p

pub starts_more : (cs : List ℕ) (p q : Test) → ((r : Text) → p r ≡ true → q r ≡ true) → Starts cs p → Starts cs q
starts_more [] p q f h = tt
starts_more (c ∷ cs) p q f h = (λ us. f (c ∷ us) (h.0 us), starts_more cs p q f h.1)

pub head_same : (p : Test) → ByHead p → (b a s r : Text) → a ≡ b ++ s → 0 < length b → p a ≡ true → p (b ++ r) ≡ true
head_same p h [] a s r e l pa = absurd (omega (arith, l))
head_same p h (v ∷ b) a s r e l pa = h v (b ++ r) (b ++ s) ∙ (sym (ap p e) ∙ pa)

pub not_true : (b : Bool) → not b ≡ true → b ≡ false
not_true true e = absurd (true≢false (sym e))
not_true false e = refl

-- what was read may stand before other texts too
pub record Extended (f : Reader) (fol : Test) (t s : Text) : Type 0 where
  pub before : Text
  pub whole : t ≡ before ++ s
  pub allowed : Test
  pub by_head : ByHead allowed
  pub may : allowed s ≡ true
  pub whenever : (r : Text) → fol r ≡ true → allowed r ≡ true
  pub so : (r : Text) → allowed r ≡ true → f (before ++ r) ≡ okay r

-- what stands before the place where reading stops is read with more behind it
pub record Mended (f : Reader) (fol : Test) (starts : List ℕ) (t : Text) (left : ℕ) : Type 0 where
  pub front : Text
  pub rest : Text
  pub more : Text
  pub whole : t ≡ front ++ rest
  pub width : length rest ≡ left
  pub begins : (p : Test) → ByHead p → Starts starts p → p t ≡ true → (s : Text) → p (front ++ (more ++ s)) ≡ true
  pub so : (s : Text) → fol s ≡ true → f (front ++ (more ++ s)) ≡ okay s

pub record Mends (f : Reader) (fol : Test) (starts : List ℕ) : Type 0 where
  pub extend : (t s : Text) → f t ≡ okay s → Extended f fol t s
  pub mend : (t : Text) (left : ℕ) → f t ≡ stop left → Mended f fol starts t left

-- a text that is read from the beginning
pub record Fresh (f : Reader) (fol : Test) (starts : List ℕ) : Type 0 where
  pub text : Text
  pub some : 0 < length text
  pub begins : (p : Test) → ByHead p → Starts starts p → (s : Text) → p (text ++ s) ≡ true
  pub so : (s : Text) → fol s ≡ true → f (text ++ s) ≡ okay s

abbrev pub Takes : Reader → Type 0
Takes f = (t s : Text) → f t ≡ okay s → length s < length t

-- equal readers
pub same_mends : (f g : Reader) (fol : Test) (cs : List ℕ) → ((t : Text) → f t ≡ g t) → Mends f fol cs → Mends g fol cs
same_mends f g fol cs e m = record {
  extend = λ t s i.
      let x = m.extend t s (e t ∙ i) in
      record { before = x.before; whole = x.whole; allowed = x.allowed; by_head = x.by_head; may = x.may; whenever = x.whenever; so = λ r h. sym (e (x.before ++ r)) ∙ x.so r h };
  mend = λ t left i.
      let x = m.mend t left (e t ∙ i) in
      record { front = x.front; rest = x.rest; more = x.more; whole = x.whole; width = x.width; begins = x.begins; so = λ s h. sym (e (x.front ++ (x.more ++ s))) ∙ x.so s h };
}

pub same_fresh : (f g : Reader) (fol : Test) (cs : List ℕ) → ((t : Text) → f t ≡ g t) → Fresh f fol cs → Fresh g fol cs
same_fresh f g fol cs e m = record { text = m.text; some = m.some; begins = m.begins; so = λ s h. sym (e (m.text ++ s)) ∙ m.so s h }

-- ---- one reader behind the other

module _ (f g : Reader) (fol_f fol_g : Test) (cs_f cs_g cs : List ℕ) (F : Mends f fol_f cs_f) (G : Mends g fol_g cs_g) (fresh : Fresh g fol_g cs_g) (takes : Takes g)
    (by_head : ByHead fol_f) (may : Starts cs_g fol_f) (low : (p : Test) → Starts cs p → Starts cs_f p) (high : Takes f ⊎ ((p : Test) → Starts cs p → Starts cs_g p)) where
  after_extend : (t u : Text) → then f g t ≡ okay u → Extended (then f g) fol_g t u
  after_extend t u e = go (f t) refl
    where
      go : (r : Result Text ℕ) → f t ≡ r → Extended (then f g) fol_g t u
      go (Err x) i = let bad : stop x ≡ okay u = sym (ap (λ (r : Result Text ℕ). r >>= g) i) ∙ e in absurd cc
      go (Ok s) i =
          let gi : g s ≡ okay u = sym (ap (λ (r : Result Text ℕ). r >>= g) i) ∙ e in
          let a = F.extend t s i in
          let b = G.extend s u gi in
          let long : 0 < length b.before = omega (arith, takes s u gi, ap length b.whole, length-append b.before u) in
          record {
            before = a.before ++ b.before;
            whole = a.whole ∙ ap (λ (us : Text). a.before ++ us) b.whole ∙ sym (append_assoc a.before b.before u);
            allowed = b.allowed;
            by_head = b.by_head;
            may = b.may;
            whenever = b.whenever;
            so = λ r h.
                (ap (then f g) (append_assoc a.before b.before r)
                ∙ ap (λ (q : Result Text ℕ). q >>= g) (a.so (b.before ++ r) (head_same a.allowed a.by_head b.before s u r b.whole long a.may))
                ∙ b.so r h);
          }

  after_mend : (t : Text) (left : ℕ) → then f g t ≡ stop left → Mended (then f g) fol_g cs t left
  after_mend t left e = go (f t) refl
    where
      go : (r : Result Text ℕ) → f t ≡ r → Mended (then f g) fol_g cs t left
      go (Err x) i =
          let m = F.mend t left (i ∙ (sym (ap (λ (r : Result Text ℕ). r >>= g) i) ∙ e)) in
          record {
            front = m.front;
            rest = m.rest;
            more = m.more ++ fresh.text;
            whole = m.whole;
            width = m.width;
            begins = λ p h st pt s. (ap p (ap (λ (us : Text). m.front ++ us) (append_assoc m.more fresh.text s)) ∙ m.begins p h (low p st) pt (fresh.text ++ s));
            so = λ s h.
                (ap (then f g) (ap (λ (us : Text). m.front ++ us) (append_assoc m.more fresh.text s))
                ∙ ap (λ (q : Result Text ℕ). q >>= g) (m.so (fresh.text ++ s) (fresh.begins fol_f by_head may s))
                ∙ fresh.so s h);
          }
      go (Ok s) i =
          let gi : g s ≡ stop left = sym (ap (λ (r : Result Text ℕ). r >>= g) i) ∙ e in
          let a = F.extend t s i in
          let m = G.mend s left gi in
          record {
            front = a.before ++ m.front;
            rest = m.rest;
            more = m.more;
            whole = a.whole ∙ ap (λ (us : Text). a.before ++ us) m.whole ∙ sym (append_assoc a.before m.front m.rest);
            width = m.width;
            begins = λ p h st pt r. (ap p (append_assoc a.before m.front (m.more ++ r)) ∙ begun s i m a.before a.whole p h st pt r);
            so = λ r h.
                (ap (then f g) (append_assoc a.before m.front (m.more ++ r))
                ∙ ap (λ (q : Result Text ℕ). q >>= g) (a.so (m.front ++ (m.more ++ r)) (m.begins a.allowed a.by_head (starts_more cs_g fol_f a.allowed a.whenever may) a.may r))
                ∙ m.so r h);
          }
        where
          begun : (s : Text) → f t ≡ okay s → (m : Mended g fol_g cs_g s left) → (b : Text) → t ≡ b ++ s → (p : Test) → ByHead p → Starts cs p → p t ≡ true → (r : Text) → p (b ++ (m.front ++ (m.more ++ r))) ≡ true
          begun s i m [] w p h st pt r =
              elim high [
                | inl takes_f ↦ absurd (omega (arith, takes_f t s i, ap length w))
                | inr starts ↦ m.begins p h (starts p st) (sym (ap p w) ∙ pt) r
              ]
          begun s i m (v ∷ b) w p h st pt r = head_same p h (v ∷ b) t s (m.front ++ (m.more ++ r)) w (omega arith) pt

  pub after : Mends (then f g) fol_g cs
  after = record { extend = after_extend; mend = after_mend }

  pub after_takes : Takes (then f g)
  after_takes t u e = go (f t) refl
    where
      go : (r : Result Text ℕ) → f t ≡ r → length u < length t
      go (Err x) i = let bad : stop x ≡ okay u = sym (ap (λ (r : Result Text ℕ). r >>= g) i) ∙ e in absurd cc
      go (Ok s) i =
          let a = F.extend t s i in
          omega (arith, takes s u (sym (ap (λ (r : Result Text ℕ). r >>= g) i) ∙ e), ap length a.whole, length-append a.before s)

  pub after_fresh : Fresh f fol_f cs_f → Fresh (then f g) fol_g cs
  after_fresh first = record {
    text = first.text ++ fresh.text;
    some = omega (arith, first.some, length-append first.text fresh.text);
    begins = λ p h st s. (ap p (append_assoc first.text fresh.text s) ∙ first.begins p h (low p st) (fresh.text ++ s));
    so = λ s h.
        (ap (then f g) (append_assoc first.text fresh.text s)
        ∙ ap (λ (q : Result Text ℕ). q >>= g) (first.so (fresh.text ++ s) (fresh.begins fol_f by_head may s))
        ∙ fresh.so s h);
  }

  -- where the first reads nothing of what may follow it
  pub after_none : ((s : Text) → fol_f s ≡ true → f s ≡ okay s) → ((p : Test) → Starts cs p → Starts cs_g p) → Fresh (then f g) fol_g cs
  after_none skips starts = record {
    text = fresh.text;
    some = fresh.some;
    begins = λ p h st s. fresh.begins p h (starts p st) s;
    so = λ s h. (ap (λ (q : Result Text ℕ). q >>= g) (skips (fresh.text ++ s) (fresh.begins fol_f by_head may s)) ∙ fresh.so s h);
  }

-- ---- one unit

abbrev pub anything : Test
anything t = true

module _ (test : ℕ → Bool) (c : ℕ) (is : test c ≡ true) where
  head_extend : (t s : Text) → head test t ≡ okay s → Extended (head test) anything t s
  head_extend [] s e = absurd cc
  head_extend (u ∷ us) s e = go (test u) refl e
    where
      go : (b : Bool) → test u ≡ b → cond b (okay us) (stop (suc (length us))) ≡ okay s → Extended (head test) anything (u ∷ us) s
      go true b e = record {
        before = u ∷ [];
        whole = ap (λ (vs : Text). u ∷ vs) (ap (got us) e);
        allowed = anything;
        by_head = λ v vs ws. refl;
        may = refl;
        whenever = λ r h. refl;
        so = λ r h. ap (λ (k : Bool). cond k (okay r) (stop (suc (length r)))) b;
      }
      go false b e = absurd cc

  head_mended : (t : Text) (left : ℕ) → length t ≡ left → Mended (head test) anything (c ∷ []) t left
  head_mended t left width = record {
    front = [];
    rest = t;
    more = c ∷ [];
    whole = refl;
    width = width;
    begins = λ p h st pt s. st.0 s;
    so = λ s h. ap (λ (k : Bool). cond k (okay s) (stop (suc (length s)))) is;
  }

  head_mend : (t : Text) (left : ℕ) → head test t ≡ stop left → Mended (head test) anything (c ∷ []) t left
  head_mend [] left e = head_mended [] left (ap (left_of 0) e)
  head_mend (u ∷ us) left e = go (test u) e
    where
      go : (b : Bool) → cond b (okay us) (stop (suc (length us))) ≡ stop left → Mended (head test) anything (c ∷ []) (u ∷ us) left
      go true e = absurd cc
      go false e = head_mended (u ∷ us) left (ap (left_of 0) e)

  pub head_mends : Mends (head test) anything (c ∷ [])
  head_mends = record { extend = head_extend; mend = head_mend }

  pub head_fresh : Fresh (head test) anything (c ∷ [])
  head_fresh = record { text = c ∷ []; some = omega arith; begins = λ p h st s. st.0 s; so = λ s h. ap (λ (k : Bool). cond k (okay s) (stop (suc (length s)))) is }

  pub head_takes : Takes (head test)
  head_takes [] s e = absurd cc
  head_takes (u ∷ us) s e = go (test u) e
    where
      go : (b : Bool) → cond b (okay us) (stop (suc (length us))) ≡ okay s → length s < suc (length us)
      go true e = omega (arith, ap length (ap (got us) e))
      go false e = absurd cc

-- ---- numbers

abbrev pub no_digit : Test
no_digit t = not (begins_digit t)

pub no_digit_head : ByHead no_digit
no_digit_head u us vs = refl

pub digits_then : (d : ℕ) (ds r : Text) → list_all is_digit (d ∷ ds) ≡ true → no_digit r ≡ true → number ((d ∷ ds) ++ r) ≡ okay r
digits_then d ds r only h =
    let x = digits_end (d ∷ ds) r only (not_true (begins_digit r) h) in
    ap (λ (us : Text). rest_of (number_in us ((d ∷ ds) ++ r))) x.0 ∙ ap okay x.1

pub number_extend : (t s : Text) → number t ≡ okay s → Extended number no_digit t s
number_extend t s e = go (digits_of t) refl e
  where
    go : (ds : Text) → digits_of t ≡ ds → rest_of (number_in ds t) ≡ okay s → Extended number no_digit t s
    go [] d e = absurd cc
    go (v ∷ ds) d e =
        let is : behind t ≡ s = ap (got []) e in
        record {
          before = v ∷ ds;
          whole = split_digits t ∙ ap₂ (λ (a b : Text). a ++ b) d is;
          allowed = no_digit;
          by_head = no_digit_head;
          may = ap not (ap begins_digit (sym is) ∙ behind_stops t);
          whenever = λ r h. h;
          so = λ r h. digits_then v ds r (ap (list_all is_digit) (sym d) ∙ only_digits t) h;
        }

pub number_mend : (t : Text) (left : ℕ) → number t ≡ stop left → Mended number no_digit (48 ∷ []) t left
number_mend t left e = go (digits_of t) e
  where
    go : (ds : Text) → rest_of (number_in ds t) ≡ stop left → Mended number no_digit (48 ∷ []) t left
    go [] e = record {
      front = [];
      rest = t;
      more = 48 ∷ [];
      whole = refl;
      width = ap (left_of 0) e;
      begins = λ p h st pt s. st.0 s;
      so = λ s h. digits_then 48 [] s refl h;
    }
    go (v ∷ ds) e = absurd cc

pub number_mends : Mends number no_digit (48 ∷ [])
number_mends = record { extend = number_extend; mend = number_mend }

pub number_fresh : Fresh number no_digit (48 ∷ [])
number_fresh = record { text = 48 ∷ []; some = omega arith; begins = λ p h st s. st.0 s; so = λ s h. digits_then 48 [] s refl h }

pub number_takes : Takes number
number_takes t s e = go (number_at t) refl e
  where
    go : (r : Result (_ × Text) ℕ) → number_at t ≡ r → rest_of r ≡ okay s → length s < length t
    go (Ok x) i e = omega (arith, number_shorter t x i, ap length (ap (got []) e))
    go (Err x) i e = absurd cc

-- ---- items

module _ {A : Type 0} (more : Test) (item : Text → Result (A × Text) ℕ) (short : Shortens more item) (more_head : ByHead more) (fol fol_i : Test) (cs : List ℕ)
    (I : Mends (one more item) fol_i cs) (below : (r : Text) → fol r ≡ true → fol_i r ≡ true) (stops : (r : Text) → fol r ≡ true → more r ≡ false)
    (goes : Starts cs more) (starts_i : Starts cs fol_i) where
  abbrev Many : Reader
  Many = all more item

  abbrev One : Reader
  One = one more item

  stepped : (b : Bool) (u : Text) → more u ≡ b → Many u ≡ cond b (then One Many u) (okay u)
  stepped b u e = unfolded more item short u ∙ ap (λ (c : Bool). cond c (then One Many u) (okay u)) e

  long : (t a s : Text) → more t ≡ true → One t ≡ okay a → (x : Extended One fol_i t a) → 0 < length x.before
  long t a s b i x = omega (arith, shorter_one more item short t a b i, ap length x.whole, length-append x.before a)

  -- one item, and then others
  joined : (t a s : Text) → more t ≡ true → One t ≡ okay a → (x : Extended One fol_i t a) → (y : Extended Many fol a s) → Extended Many fol t s
  joined t a s b i x y = go y.before y.whole y.so
    where
      again : (us : Text) → more (x.before ++ us) ≡ true
      again us = head_same more more_head x.before t a us x.whole (long t a s b i x) b

      go : (front : Text) → a ≡ front ++ s → ((r : Text) → y.allowed r ≡ true → Many (front ++ r) ≡ okay r) → Extended Many fol t s
      go [] w so = record {
        before = x.before;
        whole = x.whole ∙ ap (λ (us : Text). x.before ++ us) w;
        allowed = λ r. y.allowed r && x.allowed r;
        by_head = λ u us vs. ap₂ (λ (p q : Bool). p && q) (y.by_head u us vs) (x.by_head u us vs);
        may = and_from (y.allowed s) (x.allowed s) y.may (ap x.allowed (sym w) ∙ x.may);
        whenever = λ r h. and_from (y.allowed r) (x.allowed r) (y.whenever r h) (x.whenever r (below r h));
        so = λ r h.
            (stepped true (x.before ++ r) (again r) ∙ ap (λ (q : Result Text ℕ). q >>= Many) (x.so r (and_parts (y.allowed r) (x.allowed r) h).1)
            ∙ so r (and_parts (y.allowed r) (x.allowed r) h).0);
      }
      go (v ∷ front) w so = record {
        before = x.before ++ (v ∷ front);
        whole = x.whole ∙ ap (λ (us : Text). x.before ++ us) w ∙ sym (append_assoc x.before (v ∷ front) s);
        allowed = y.allowed;
        by_head = y.by_head;
        may = y.may;
        whenever = y.whenever;
        so = λ r h.
            (ap Many (append_assoc x.before (v ∷ front) r) ∙ stepped true (x.before ++ ((v ∷ front) ++ r)) (again ((v ∷ front) ++ r))
            ∙ ap (λ (q : Result Text ℕ). q >>= Many) (x.so ((v ∷ front) ++ r) (head_same x.allowed x.by_head (v ∷ front) a s r w (omega arith) x.may))
            ∙ so r h);
      }

  many_extend_in : (k : ℕ) (t s : Text) → length t < k → Many t ≡ okay s → Extended Many fol t s
  many_extend_in zero t s k e = absurd (omega (arith, k))
  many_extend_in (suc n) t s k e = go (more t) refl (λ u v l j. many_extend_in n u v l j)
    where
      go : (b : Bool) → more t ≡ b → ((u v : Text) → length u < n → Many u ≡ okay v → Extended Many fol u v) → Extended Many fol t s
      go false b again =
          let is : t ≡ s = ap (got t) (sym (stepped false t b) ∙ e) in
          record {
            before = [];
            whole = is;
            allowed = λ r. not (more r);
            by_head = λ u us vs. ap not (more_head u us vs);
            may = ap not (ap more (sym is) ∙ b);
            whenever = λ r h. ap not (stops r h);
            so = λ r h. stepped false r (not_true (more r) h);
          }
      go true b again = by_item (One t) refl
        where
          by_item : (r : Result Text ℕ) → One t ≡ r → Extended Many fol t s
          by_item (Err x) i = let bad : stop x ≡ okay s = sym (ap (λ (r : Result Text ℕ). r >>= Many) i) ∙ (sym (stepped true t b) ∙ e) in absurd cc
          by_item (Ok a) i =
              let rest : Many a ≡ okay s = sym (ap (λ (r : Result Text ℕ). r >>= Many) i) ∙ (sym (stepped true t b) ∙ e) in
              joined t a s b i (I.extend t a i) (again a s (omega (arith, k, shorter_one more item short t a b i)) rest)

  many_mend_in : (k : ℕ) (t : Text) (left : ℕ) → length t < k → Many t ≡ stop left → Mended Many fol cs t left
  many_mend_in zero t left k e = absurd (omega (arith, k))
  many_mend_in (suc n) t left k e = go (more t) refl (λ u l j. many_mend_in n u left l j)
    where
      go : (b : Bool) → more t ≡ b → ((u : Text) → length u < n → Many u ≡ stop left → Mended Many fol cs u left) → Mended Many fol cs t left
      go false b again = let bad : okay t ≡ stop left = sym (stepped false t b) ∙ e in absurd cc
      go true b again = by_item (One t) refl
        where
          by_item : (r : Result Text ℕ) → One t ≡ r → Mended Many fol cs t left
          by_item (Err x) i =
              let m = I.mend t left (i ∙ (sym (ap (λ (r : Result Text ℕ). r >>= Many) i) ∙ (sym (stepped true t b) ∙ e))) in
              record {
                front = m.front;
                rest = m.rest;
                more = m.more;
                whole = m.whole;
                width = m.width;
                begins = m.begins;
                so = λ s h.
                    (stepped true (m.front ++ (m.more ++ s)) (m.begins more more_head goes b s) ∙ ap (λ (q : Result Text ℕ). q >>= Many) (m.so s (below s h))
                    ∙ stepped false s (stops s h));
              }
          by_item (Ok a) i =
              let x = I.extend t a i in
              let m = again a (omega (arith, k, shorter_one more item short t a b i)) (sym (ap (λ (r : Result Text ℕ). r >>= Many) i) ∙ (sym (stepped true t b) ∙ e)) in
              let far = long t a [] b i x in
              record {
                front = x.before ++ m.front;
                rest = m.rest;
                more = m.more;
                whole = x.whole ∙ ap (λ (us : Text). x.before ++ us) m.whole ∙ sym (append_assoc x.before m.front m.rest);
                width = m.width;
                begins = λ p h st pt s.
                    (ap p (append_assoc x.before m.front (m.more ++ s)) ∙ head_same p h x.before t a (m.front ++ (m.more ++ s)) x.whole far pt);
                so = λ s h.
                    (ap Many (append_assoc x.before m.front (m.more ++ s))
                    ∙ stepped true (x.before ++ (m.front ++ (m.more ++ s))) (head_same more more_head x.before t a (m.front ++ (m.more ++ s)) x.whole far b)
                    ∙ ap (λ (q : Result Text ℕ). q >>= Many) (x.so (m.front ++ (m.more ++ s)) (m.begins x.allowed x.by_head (starts_more cs fol_i x.allowed x.whenever starts_i) x.may s))
                    ∙ m.so s h);
              }

  pub many_mends : Mends Many fol cs
  many_mends = record { extend = λ t s e. many_extend_in (suc (length t)) t s (omega arith) e; mend = λ t left e. many_mend_in (suc (length t)) t left (omega arith) e }

  pub many_skips : (s : Text) → fol s ≡ true → Many s ≡ okay s
  many_skips s h = stepped false s (stops s h)
