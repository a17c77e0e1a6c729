-- A slot put in its place.
use Rattle.std.proofs.Common.{◌≡◌, ℕ, zero, suc, ◌+◌, ◌<◌, Bool, true, false, List, [], ◌∷◌, ◌++◌, length, get_or, take, drop, Option, Some, None, Result, Ok, Err, refl, sym, ◌∙◌, ap, subst, arith, true≢false, add-one}
use Rattle.std.specs.Prelude.{IsTrue, ◌↔◌, ◌&&◌, ◌==◌, if◌then◌else◌, cond, bytes_eq, Contains, slice_set, OnOk, OnErr}
use Rattle.std.specs.Ordering.{is_eq}
use Rattle.std.specs.declared.cmp.Ordering.{Ordering}
use Rattle.std.specs.declared.cmp.Ordering.TheVariants.{Less, Equal, Greater}
use Rattle.std.specs.Cmp.Lexicographic.{bytes_decides}
use Rattle.std.proofs.lemmas.Map.Text.{is_eq-slice_cmp}
use Rattle.std.proofs.Math.Seq.{drop-cons}
use Rattle.std.proofs.lemmas.List.{take-append-drop, take-set, drop-set}
use Rattle.ep_units.specs.Text.{text_cmp}
use Rattle.ep_outside.specs.Disk.{Contents, settled}
use Rattle.ep_outside.specs.Kept.{by_order}
use Rattle.ep_outside.specs.Shelf.{Holds, rises, with_name}
use Rattle.ep_outside.proofs.Shelved.{rises_with}
use Rattle.ep_outside.proofs.Rising.{and_left, and_right, and_both}
use Rattle.ep_disk_mem.specs.declared.slots.Slot.{Slot}
use Rattle.ep_disk_mem.specs.declared.mem_file.MemFile.{MemFile}
use Rattle.ep_disk_mem.specs.Files.{told_in, names_in, are_sure}
use Rattle.ep_disk_mem.specs.Slots.{told_file, told_of, names_of, has_name, is_sure, all_sure, put_in, slot_of}

tested : (a b : List ℕ) (o : Ordering) → text_cmp a b ≡ o → bytes_eq a b ≡ is_eq o
tested a b o e = sym (is_eq-slice_cmp a b) ∙ ap is_eq e

same_name : (a b : List ℕ) → text_cmp a b ≡ Equal → a ≡ b
same_name a b e = (bytes_decides a b).0 (tested a b Equal e)

pub itself : (a : List ℕ) → bytes_eq a a ≡ true
itself a = (bytes_decides a a).1 refl

pub unequal : (a b : List ℕ) → (a ≡ b → ⊥) → bytes_eq a b ≡ false
unequal a b other = by (bytes_eq a b) (bytes_decides a b).0 where
  by : (t : Bool) → (t ≡ true → a ≡ b) → t ≡ false
  by true same = absurd (other (same refl))
  by false same = refl

swapped : (a b : Bool) (x y z : Option Contents) → (a ≡ true → b ≡ true → ⊥) → cond a x (cond b y z) ≡ cond b y (cond a x z)
swapped true true x y z apart = absurd (apart refl refl)
swapped true false x y z apart = refl
swapped false true x y z apart = refl
swapped false false x y z apart = refl

hidden : (a b : Bool) (x y z : Option Contents) → a ≡ b → cond a x z ≡ cond a x (cond b y z)
hidden true b x y z e = refl
hidden false true x y z e = absurd (true≢false (sym e))
hidden false false x y z e = refl

-- it tells of its own name, and of no other
pub told_put : (ss : List Slot) (slot : Slot) (n : List ℕ) → told_of (put_in ss slot) n ≡ cond (bytes_eq n slot.name) (told_file slot.file) (told_of ss n)
told_put [] slot n = refl
told_put (s ∷ ss) slot n = by (text_cmp slot.name s.name) refl (told_put ss slot n) where
  own : Option Contents
  own = told_file slot.file

  by : (o : Ordering) → text_cmp slot.name s.name ≡ o → told_of (put_in ss slot) n ≡ cond (bytes_eq n slot.name) own (told_of ss n)
      → told_of (by_order o (slot ∷ s ∷ ss) (slot ∷ ss) (s ∷ put_in ss slot)) n ≡ cond (bytes_eq n slot.name) own (told_of (s ∷ ss) n)
  by Less e more = refl
  by Equal e more = hidden (bytes_eq n slot.name) (bytes_eq n s.name) own (told_file s.file) (told_of ss n) (ap (λ (m : List ℕ). bytes_eq n m) (same_name slot.name s.name e))
  by Greater e more = ap (λ (o : Option Contents). cond (bytes_eq n s.name) (told_file s.file) o) more
      ∙ swapped (bytes_eq n s.name) (bytes_eq n slot.name) (told_file s.file) own (told_of ss n) (λ there here.
      let a : n ≡ s.name = (bytes_decides n s.name).0 there in
      let b : n ≡ slot.name = (bytes_decides n slot.name).0 here in
      true≢false (sym ((bytes_decides slot.name s.name).1 (sym b ∙ a)) ∙ tested slot.name s.name Greater e))

pub names_put : (ss : List Slot) (slot : Slot) → names_of (put_in ss slot) ≡ with_name (names_of ss) slot.name
names_put [] slot = refl
names_put (s ∷ ss) slot = by (text_cmp slot.name s.name) refl (names_put ss slot) where
  by : (o : Ordering) → text_cmp slot.name s.name ≡ o → names_of (put_in ss slot) ≡ with_name (names_of ss) slot.name
      → names_of (by_order o (slot ∷ s ∷ ss) (slot ∷ ss) (s ∷ put_in ss slot)) ≡ by_order o (slot.name ∷ s.name ∷ names_of ss) (s.name ∷ names_of ss) (s.name ∷ with_name (names_of ss) slot.name)
  by Less e more = refl
  by Equal e more = ap (λ (n : List ℕ). n ∷ names_of ss) (same_name slot.name s.name e)
  by Greater e more = ap (λ (ns : List (List ℕ)). s.name ∷ ns) more

pub sure_put : (ss : List Slot) (slot : Slot) → IsTrue (is_sure slot.file) → IsTrue (all_sure ss) → IsTrue (all_sure (put_in ss slot))
sure_put [] slot own h = and_both (is_sure slot.file) true own refl
sure_put (s ∷ ss) slot own h = by (text_cmp slot.name s.name) (sure_put ss slot own rest) where
  rest : IsTrue (all_sure ss)
  rest = and_right (is_sure s.file) (all_sure ss) h

  by : (o : Ordering) → IsTrue (all_sure (put_in ss slot)) → IsTrue (all_sure (by_order o (slot ∷ s ∷ ss) (slot ∷ ss) (s ∷ put_in ss slot)))
  by Less more = and_both (is_sure slot.file) (all_sure (s ∷ ss)) own h
  by Equal more = and_both (is_sure slot.file) (all_sure ss) own rest
  by Greater more = and_both (is_sure s.file) (all_sure (put_in ss slot)) (and_left (is_sure s.file) (all_sure ss) h) more

behind : (n : List ℕ) (ns : List (List ℕ)) (name : List ℕ) → (n ≡ name → ⊥) → Contains (n ∷ ns) name → Contains ns name
behind n ns name other (zero, lt, is) = absurd (other is)
behind n ns name other (suc k, lt, is) = (k, omega (arith, lt), is)

-- one of them has the name, or it isn't among theirs
pub among : (ss : List Slot) (name : List ℕ) → IsTrue (has_name ss name) ↔ Contains (names_of ss) name
among [] name = (λ h. absurd (true≢false (sym h)), λ there. absurd (omega (arith, there.1)))
among (s ∷ ss) name = by (bytes_eq name s.name) refl (among ss name) where
  by : (b : Bool) → bytes_eq name s.name ≡ b → (IsTrue (has_name ss name) ↔ Contains (names_of ss) name) → IsTrue (if b then true else has_name ss name) ↔ Contains (s.name ∷ names_of ss) name
  by true e more = (λ h. (0, omega arith, sym ((bytes_decides name s.name).0 e)), λ there. refl)
  by false e more = (
    λ h. let t = more.0 h in (suc t.0, omega (arith, t.1), t.2),
    λ there. more.1 (behind s.name (names_of ss) name (λ same. true≢false (sym ((bytes_decides name s.name).1 (sym same)) ∙ e)) there),
  )

-- a name that isn't there has an empty disk
pub new_told : (ss : List Slot) (name : List ℕ) → (Contains (names_of ss) name → ⊥) → told_of ss name ≡ Some (settled [])
new_told [] name new = refl
new_told (s ∷ ss) name new = ap (λ (t : Bool). cond t (told_file s.file) (told_of ss name)) (unequal name s.name (λ same. new (0, omega arith, sym same))) ∙ new_told ss name (λ there. new (suc there.0, omega arith, there.2))

-- a slot in place of one of its name
set_parts : (xs : List Slot) (i : ℕ) (p : Slot) → i < length xs → slice_set xs i p ≡ take i xs ++ p ∷ drop (i + 1) xs
set_parts xs i p below = sym (take-append-drop i (slice_set xs i p)) ∙ (ap (λ t. t ++ drop i (slice_set xs i p)) (take-set xs i p) ∙ ap (λ t. take i xs ++ t) (drop-set xs i p below))

in_place : (s : Slot) (rest : List Slot) (slot : Slot) → text_cmp slot.name s.name ≡ Equal → put_in (s ∷ rest) slot ≡ slot ∷ rest
in_place s rest slot e = ap (λ o. by_order o (slot ∷ s ∷ rest) (slot ∷ rest) (s ∷ put_in rest slot)) e

pub put_equal : (xs : List Slot) (i : ℕ) (s slot : Slot) → i < length xs → s ≡ get_or xs i s → text_cmp slot.name s.name ≡ Equal → slice_set xs i slot ≡ take i xs ++ put_in (drop i xs) slot
put_equal xs i s slot below is e =
    let d : drop i xs ≡ s ∷ drop (suc i) xs = drop-cons xs i s below ∙ ap (λ x. x ∷ drop (suc i) xs) (sym is) in
    let w : put_in (drop i xs) slot ≡ slot ∷ drop (suc i) xs = ap (λ t. put_in t slot) d ∙ in_place s (drop (suc i) xs) slot e in
    set_parts xs i slot below ∙ (ap (λ n. take i xs ++ slot ∷ drop n xs) (add-one i) ∙ ap (λ t. take i xs ++ t) (sym w))

-- what is told once the file of a name was opened
module _ (ss new : List Slot) (slot : Slot) (name : List ℕ) (own : slot.name ≡ name) (put : new ≡ put_in ss slot) where
  pub opened : told_file slot.file ≡ None → told_of new name ≡ None
  opened gone = ap (λ (l : List Slot). told_of l name) put ∙ told_put ss slot name
      ∙ ap (λ (t : Bool). cond t (told_file slot.file) (told_of ss name)) (ap (λ (n : List ℕ). bytes_eq name n) own ∙ itself name) ∙ gone

  pub others : (other : List ℕ) → (other ≡ name → ⊥) → told_of new other ≡ told_of ss other
  others other apart = ap (λ (l : List Slot). told_of l other) put ∙ told_put ss slot other
      ∙ ap (λ (t : Bool). cond t (told_file slot.file) (told_of ss other)) (unequal other slot.name (λ same. apart (same ∙ own)))

  pub named : names_of new ≡ with_name (names_of ss) name
  named = ap (λ (l : List Slot). names_of l) put ∙ names_put ss slot ∙ ap (λ (n : List ℕ). with_name (names_of ss) n) own

-- whether it was put or not
module _ {E : Type 0} (old new : List Slot) (slot : Slot) where
  pub still_rises : (r : Result (Unit {0}) E) → OnOk r (new ≡ put_in old slot) → OnErr r (new ≡ old) → IsTrue (rises (names_of old)) → IsTrue (rises (names_of new))
  still_rises (Ok u) put same h = ap (λ (l : List Slot). rises (names_of l)) put ∙ ap rises (names_put old slot) ∙ rises_with (names_of old) slot.name h
  still_rises (Err e) put same h = ap (λ (l : List Slot). rises (names_of l)) same ∙ h

  pub still_sure : (r : Result (Unit {0}) E) → OnOk r (new ≡ put_in old slot) → OnErr r (new ≡ old) → IsTrue (is_sure slot.file) → IsTrue (all_sure old) → IsTrue (all_sure new)
  still_sure (Ok u) put same own h = ap (λ (l : List Slot). all_sure l) put ∙ sure_put old slot own h
  still_sure (Err e) put same own h = ap (λ (l : List Slot). all_sure l) same ∙ h

pub empty_when_new : (ss : List Slot) (name : List ℕ) (c : Contents) → Holds (told_of ss name) (Some c) → (Contains (names_of ss) name → ⊥) → c ≡ settled []
empty_when_new ss name c holds new =
    let e : told_of ss name ≡ Some (settled []) = new_told ss name new in
    let h : Some c ≡ Some (settled []) = subst (λ (o : Option Contents). Holds o (Some c)) e holds in
    cc

-- a shelf of these files
pub record IsFiled (files : List MemFile) (slots : List Slot) : Type 0 where
  pub told : (n : List ℕ) → told_of slots n ≡ told_in files n
  pub names : names_of slots ≡ names_in files
  pub rising : IsTrue (rises (names_of slots))
  pub sure : are_sure files ≡ true → IsTrue (all_sure slots)

pub none_filed : IsFiled [] []
none_filed = record { told = λ n. refl; names = refl; rising = refl; sure = λ s. refl }

pub one_filed : (files : List MemFile) (slots new : List Slot) (f : MemFile) → IsFiled files slots → new ≡ put_in slots (slot_of f) → IsFiled (f ∷ files) new
one_filed files slots new f so_far put = record {
  told = λ n. ap (λ (l : List Slot). told_of l n) put ∙ told_put slots (slot_of f) n ∙ ap (λ (o : Option Contents). cond (bytes_eq n f.name) (Some (settled f.bytes.items)) o) (so_far.told n);
  names = ap (λ (l : List Slot). names_of l) put ∙ names_put slots (slot_of f) ∙ ap (λ (ns : List (List ℕ)). with_name ns f.name) so_far.names;
  rising = ap (λ (l : List Slot). rises (names_of l)) put ∙ ap rises (names_put slots (slot_of f)) ∙ rises_with (names_of slots) f.name so_far.rising;
  sure = λ s. ap (λ (l : List Slot). all_sure l) put ∙ sure_put slots (slot_of f) (and_left (length f.fails.items == 0) (are_sure files) s) (so_far.sure (and_right (length f.fails.items == 0) (are_sure files) s));
}
