-- One call behind another.
use Rattle.std.specs.Prelude.{ℕ, ◌≡◌, ◌≤◌, List, Result, Ok, Err, []}
use Rattle.std.proofs.Common.{refl, sym, ◌∙◌, ap, subst, arith}
use Rattle.ep_outside.specs.declared.keeper.Pair.{Pair}
use Rattle.ep_outside.specs.Outside.{HasRisen}
use Rattle.ep_dir_records.specs.declared.dir_bad.DirBad.{DirBad}
use Rattle.ep_dir_records.specs.declared.dir_bad.DirBad.TheVariants.{Keeper, NoMemory}
use Rattle.ep_dir_records.specs.Answers.{Seen, Counts, Says, Reads, Makes, Answers, IsOwn, ◌>>=◌, only}

rose_on : (a b c : ℕ) → a ≤ b → HasRisen b c → HasRisen a c
rose_on a b c le r = omega (arith, le, r)

abbrev err_in : {A : Type 0} → Result A DirBad → DirBad
err_in (Ok x) = NoMemory
err_in (Err e) = e

-- a refusal of one type's result is that of another's
same_err : {A : Type 0} (B : Type 0) {e d : DirBad} → (let r : Result A DirBad = Err e in r ≡ Err d) → (let r : Result B DirBad = Err e in r ≡ Err d)
same_err B h = ap (λ x. Err x) (ap err_in h)

counts_then : {A B : Type 0} {o n p : Seen} {x : A} {r : Result B DirBad} → Counts o n (Ok x) → Counts n p r → Counts o p r
counts_then {o = o} {n = n} {p = p} a b = record { later = omega (arith, a.later, b.later); fault = λ k e. ((b.fault k e).0, rose_on o.failures n.failures p.failures a.later (b.fault k e).1); steady = b.steady ∙ a.steady; telling = b.telling ∙ a.telling }

counts_stop : {A : Type 0} (B : Type 0) {o n : Seen} {e : DirBad} → Counts {A = A} o n (Err e) → Counts {A = B} o n (Err e)
counts_stop {A = A} B a = record { later = a.later; fault = λ k h. a.fault k (same_err A h); steady = a.steady; telling = a.telling }

on_ok_at : {A B : Type 0} {r : Result A DirBad} {x : A} (f : A → Result B DirBad) → r ≡ Ok x → ◌>>=◌ r f ≡ f x
on_ok_at f h = ap (λ s. ◌>>=◌ s f) h

on_err_at : {A B : Type 0} {r : Result A DirBad} {e : DirBad} (f : A → Result B DirBad) → r ≡ Err e → ◌>>=◌ r f ≡ Err e
on_err_at f h = ap (λ s. ◌>>=◌ s f) h

-- the same in other words
says_as : {A : Type 0} {a b : Result A DirBad} (r : Result A DirBad) → a ≡ b → Says b r → Says a r
says_as r h s = subst (λ z. Says z r) (sym h) s

pub reads_then : {A B : Type 0} {o n p : Seen} {f : List Pair → Result A DirBad} (g : A → List Pair → Result B DirBad) {x : A} {r : Result B DirBad} → Reads o n f (Ok x) → Reads n p (g x) r → Reads o p (λ m. ◌>>=◌ (f m) (λ y. g y m)) r
reads_then g {r = r} a b = record {
  counts = counts_then a.counts b.counts;
  told = λ m is. let k = b.told m is in let h = a.told m k.0 in (h.0, says_as r (on_ok_at (λ z. g z m) h.1) k.1);
}

pub reads_stop : {A B : Type 0} {o n : Seen} {f : List Pair → Result A DirBad} (g : A → List Pair → Result B DirBad) {e : DirBad} → Reads o n f (Err e) → Reads o n (λ m. ◌>>=◌ (f m) (λ y. g y m)) (Err e)
reads_stop {B = B} g a = record {
  counts = counts_stop B a.counts;
  told = λ m is. let h = a.told m is in (h.0, λ own. on_err_at (λ z. g z m) (h.1 own));
}

-- nothing was asked of the keeper
counts_still : {A : Type 0} {o : Seen} {r : Result A DirBad} → ((n : ℕ) → r ≡ Err (Keeper n) → ⊥) → Counts o o r
counts_still never = record { later = omega arith; fault = λ n h. absurd (never n h); steady = refl; telling = refl }

abbrev pub IsPlain : {A : Type 0} → Result A DirBad → Type 0
IsPlain (Ok x) = Unit {0}
IsPlain (Err e) = IsOwn e

not_keeper : {A : Type 0} {r : Result A DirBad} → IsPlain r → (n : ℕ) → r ≡ Err (Keeper n) → ⊥
not_keeper plain n h = subst IsPlain h plain

says_same : {A : Type 0} (a r : Result A DirBad) → a ≡ r → Says a r
says_same a (Ok x) h = h
says_same a (Err e) h = λ own. h

pub reads_still : {A : Type 0} {o : Seen} (f : List Pair → Result A DirBad) (r : Result A DirBad) → IsPlain r → ((m : List Pair) → f m ≡ r) → Reads o o f r
reads_still f r plain same = record { counts = counts_still (not_keeper plain); told = λ m is. (is, says_same (f m) r (same m)) }

-- the same reading in other words
pub reads_as : {A : Type 0} {o n : Seen} {f : List Pair → Result A DirBad} (h : List Pair → Result A DirBad) {r : Result A DirBad} → ((m : List Pair) → h m ≡ f m) → Reads o n f r → Reads o n h r
reads_as h {r = r} same a = record { counts = a.counts; told = λ m is. let k = a.told m is in (k.0, says_as r (same m) k.1) }

-- the same reading at an equal key
pub reads_at : {A : Type 0} {o n : Seen} {r : Result A DirBad} (F : List ℕ → List Pair → Result A DirBad) {k l : List ℕ} → k ≡ l → Reads o n (F k) r → Reads o n (F l) r
reads_at {o = o} {n = n} {r = r} F e a = let P : List ℕ → Type 0 = λ x. Reads o n (F x) r in subst P e a

-- a reading alone is a call that puts nothing
makes_only : {A : Type 0} (a r : Result A DirBad) (m : List Pair) → Says a r → Makes (◌>>=◌ a (λ x. Ok (x, []))) m r m
makes_only a (Ok x) m h = ([], on_ok_at (λ z. Ok (z, [])) h, refl)
makes_only a (Err e) m h = (refl, λ own. on_err_at (λ z. Ok (z, [])) (h own))

pub reads_only : {A : Type 0} {o n : Seen} {f : List Pair → Result A DirBad} {r : Result A DirBad} → Reads o n f r → Answers o n (only f) r
reads_only {f = f} {r = r} a = record { counts = a.counts; told = λ m is. let h = a.told m is in (m, h.0, makes_only (f m) r m h.1) }
