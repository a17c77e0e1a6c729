-- What is told, one thing after the other.
use Rattle.std.proofs.Common.{◌≡◌, ◌+◌, ◌-◌, ◌<◌, ◌≤◌, ℕ, zero, suc, drop, length, arith, List, [], ◌∷◌, ◌++◌, Option, refl, sym, ap, ◌∙◌, subst, append-nil}
use Rattle.std.specs.Prelude.{Result, Ok, Err, OnOk, OnErr, true, false, nat_le, if◌then◌else◌}
use Rattle.std.proofs.lemmas.Bool.Decides.{nat_tests}
use Rattle.ep_history.specs.declared.rev.Rev.{Rev}
use Rattle.ep_link.specs.Traffic.{Adds}
use Rattle.ep_link.specs.declared.passed.Passed.{Passed}
use Rattle.ep_session.specs.Session.{Duty, Tell, TellNop, nops_due, news_due, due_at, counted, telling, told, nop_telling, nop_told}
use Rattle.ep_session.specs.Says.{OnLink, SendsAs}
use Rattle.ep_session.specs.declared.end.End.{End}
use Rattle.ep_session.specs.declared.place.Place.{Place}
use Rattle.ep_session.proofs.Running.{Sending, adds_nothing, none_yet, sends_on, link_on}

-- nothing was sent yet
pub nothing_sent : (x : Option (List Passed)) (at : Place) (due left : List Duty) → left ≡ due → Sending x x at at due left
nothing_sent x at due left is = record { log = []; traffic = adds_nothing x; calls = refl; moments = refl; inside = tt; performs = none_yet {X = Unit {0}} at due tt (λ _. left) is }

nops_next : (n k : ℕ) → k < n → nops_due (n - k) ≡ TellNop ∷ nops_due (n - (k + 1))
nops_next n k h = ap nops_due (go n k h)
  where
    go : (n k : ℕ) → k < n → n - k ≡ suc (n - (k + 1))
    go n k h = omega (arith, h)

-- one more is told to have become nothing
pub nop_on : (x y z : Option (List Passed)) (old mid new : Place) (due : List Duty) (n k : ℕ) (r : Result (Unit {0}) End) → k < n → Sending x y old mid due (nops_due (n - k)) → SendsAs (nop_telling mid) y z r → OnOk r (new ≡ nop_told mid) → OnErr r (new ≡ mid) → OnLink x z old new due r (λ _. [] ++ nops_due (n - (k + 1)))
nop_on x y z old mid new due n k r h p s ok err = sends_on x y z old mid (nop_told mid) new due TellNop (nops_due (n - (k + 1))) (nops_due (n - k)) (nop_telling mid) r (λ did out w. w) (nops_next n k h) p s ok err

-- those that became nothing before a revision are told
pub nops_on : (x y z : Option (List Passed)) (old mid new : Place) (due : List Duty) (rev : Rev) (revs : List Rev) (nops : List ℕ) (n : ℕ) (r : Result (Unit {0}) End) → n ≡ due_at mid.rev nops → Sending x y old mid due (news_due mid.rev (rev ∷ revs) nops) → OnLink y z mid new (nops_due n) r (λ _. [])
    → OnLink x z old new due r (λ _. [] ++ Tell rev ∷ news_due (counted mid.rev 1) revs (drop n nops))
nops_on x y z old mid new due rev revs nops n r is p q =
    link_on x y z old mid new due (nops_due n) (Tell rev ∷ news_due (counted mid.rev 1) revs (drop n nops)) tt r (λ _. news_due mid.rev (rev ∷ revs) nops) (λ _. [])
    (ap (λ k. nops_due k ++ Tell rev ∷ news_due (counted mid.rev 1) revs (drop k nops)) (sym is)) p q

-- and then the revision
pub rev_on : (x y z : Option (List Passed)) (old mid new : Place) (due : List Duty) (rev : Rev) (left : List Duty) (r : Result (Unit {0}) End) → Sending x y old mid due (Tell rev ∷ left) → SendsAs (telling mid rev) y z r → OnOk r (new ≡ told mid rev) → OnErr r (new ≡ mid) → OnLink x z old new due r (λ _. [] ++ left)
rev_on x y z old mid new due rev left r p s ok err = sends_on x y z old mid (told mid rev) new due (Tell rev) left (Tell rev ∷ left) (telling mid rev) r (λ did out w. w) refl p s ok err

-- and at last those that are left
pub last_on : (x y z : Option (List Passed)) (old mid new : Place) (due : List Duty) (revs : List Rev) (nops : List ℕ) (n : ℕ) (r : Result (Unit {0}) End) → revs ≡ [] → n ≡ length nops → Sending x y old mid due (news_due mid.rev revs nops) → OnLink y z mid new (nops_due n) r (λ _. []) → OnLink x z old new due r (λ _. [])
last_on x y z old mid new due revs nops n r none is p q =
    link_on x y z old mid new due (nops_due n) [] tt r (λ _. news_due mid.rev revs nops) (λ _. [])
    (ap (λ l. news_due mid.rev l nops) none ∙ ap nops_due (sym is) ∙ sym (append-nil (nops_due n))) p q

pub no_length : {A : Type 0} (xs : List A) → length xs ≡ 0 → xs ≡ []
no_length [] h = refl
no_length (x ∷ xs) h = absurd (omega (arith, h))

pub news_as : (a b : ℕ) (revs : List Rev) (x y : List ℕ) → a ≡ b → x ≡ y → news_due a revs x ≡ news_due b revs y
news_as a b revs x y p q = ap (λ n. news_due n revs x) p ∙ ap (λ l. news_due b revs l) q

-- the count goes on behind one at a revision or before it, and ends before a later one
pub due_on : (rev h : ℕ) (hs : List ℕ) → nat_le h rev ≡ true → due_at rev (h ∷ hs) ≡ suc (due_at rev hs)
due_on rev h hs is = ap (λ b. if b then suc (due_at rev hs) else 0) is

pub due_ends : (rev h : ℕ) (hs : List ℕ) → nat_le h rev ≡ false → due_at rev (h ∷ hs) ≡ 0
due_ends rev h hs is = ap (λ b. if b then suc (due_at rev hs) else 0) is

pub due_few : (rev : ℕ) (hs : List ℕ) → due_at rev hs ≤ length hs
due_few rev [] = omega arith
due_few rev (h ∷ hs) = go (nat_le h rev) (due_few rev hs)
  where
    go : (b : _) → due_at rev hs ≤ length hs → (if b then suc (due_at rev hs) else 0) ≤ suc (length hs)
    go true h = omega (arith, h)
    go false h = omega arith
