-- Names that rise, taken one after the other.
use Rattle.std.proofs.Common.{◌≡◌, ◌≢◌, inl, inr, Option, Some, None, ℕ, Bool, true, false, List, [], ◌∷◌, ◌++◌, map, length, refl, sym, ◌∙◌, ap, subst, true≢false, append_assoc, append-nil}
use Rattle.std.specs.Prelude.{IsTrue, ◌&&◌, All, option_map}
use Rattle.std.specs.Ordering.{is_lt, ordering_reverse}
use Rattle.std.specs.declared.cmp.Ordering.{Ordering}
use Rattle.std.specs.declared.cmp.Ordering.TheVariants.{Less, Equal, Greater}
use Rattle.std.specs.Cmp.Lexicographic.{nat_list_cmp_total}
use Rattle.std.proofs.lemmas.List.Elements.{All-nil, All-cons}
use Rattle.ep_units.specs.Text.{text_cmp}
use Rattle.ep_outside.specs.Kept.{by_order}
use Rattle.ep_outside.specs.Shelf.{AreTold, is_before, rises, with_name}
use Rattle.ep_verify.specs.declared.verdict.Verdict.{Verdict}
use Rattle.ep_verify.specs.declared.running.Running.{Running}
use Rattle.ep_verify.specs.Files.{MayPut, names_in}
use Rattle.ep_verify.proofs.Telling.{nil}

and_left : (a b : Bool) → IsTrue (a && b) → IsTrue a
and_left true b h = refl
and_left false b h = h

and_right : (a b : Bool) → IsTrue (a && b) → IsTrue b
and_right true b h = h
and_right false b h = absurd (true≢false (sym h))

less : (o : Ordering) → IsTrue (is_lt o) → o ≡ Less
less Less h = refl
less Equal h = absurd (true≢false (sym h))
less Greater h = absurd (true≢false (sym h))

before_all : (a b : List ℕ) (ns : List (List ℕ)) → text_cmp a b ≡ Less → IsTrue (is_before b ns) → IsTrue (is_before a ns)
before_all a b [] e h = refl
before_all a b (n ∷ ns) e h = ap is_lt (nat_list_cmp_total.trans a b n e (less (text_cmp b n) h))

later : (n : List ℕ) (ns : List (List ℕ)) → IsTrue (is_before n ns) → IsTrue (rises ns) → All (λ m. text_cmp n m ≡ Less) ns
later n [] h k = All-nil (λ m. text_cmp n m ≡ Less)
later n (m ∷ ms) h k =
    let first : text_cmp n m ≡ Less = less (text_cmp n m) h in
    All-cons (λ m. text_cmp n m ≡ Less) m ms first (later n ms (before_all n m ms first (and_left (is_before m ms) (rises ms) k)) (and_right (is_before m ms) (rises ms) k))

apart : (n m : List ℕ) → text_cmp n m ≡ Less → m ≢ n
apart n m e same =
    let self : text_cmp n n ≡ Less = subst (λ (l : List ℕ). text_cmp n l ≡ Less) same e in
    true≢false (sym (ap is_lt self) ∙ ap is_lt (nat_list_cmp_total.antisymm n n ∙ ap ordering_reverse self))

pub others_rise : (n : List ℕ) (ns : List (List ℕ)) → IsTrue (rises (n ∷ ns)) → IsTrue (rises ns)
others_rise n ns h = and_right (is_before n ns) (rises ns) h

-- none of the names behind it is this one
pub others_apart : (n : List ℕ) (ns : List (List ℕ)) → IsTrue (rises (n ∷ ns)) → All (λ m. m ≢ n) ns
others_apart n ns h k d lt = apart n _ (later n ns (and_left (is_before n ns) (rises ns) h) (and_right (is_before n ns) (rises ns) h) k d lt)

pub one_more_name : (old new rest others all : List (List ℕ)) (n : List ℕ) → old ++ rest ≡ all → rest ≡ n ∷ others → new ≡ old ++ n ∷ [] → new ++ others ≡ all
one_more_name old new rest others all n h e put =
    ap (λ (l : List (List ℕ)). l ++ others) put ∙ (append_assoc old (n ∷ []) others ∙ (ap (λ (l : List (List ℕ)). old ++ l) (sym e) ∙ h))

pub all_named : (vs : List Verdict) (held : List Running) (old rest all : List (List ℕ)) → names_in vs held ≡ old → held ≡ [] → old ++ rest ≡ all → length rest ≡ 0 → map (λ v. v.name) vs ≡ all
all_named vs held old rest all named empty h none =
    sym (append-nil (map (λ v. v.name) vs)) ∙ (ap (λ (l : List Running). names_in vs l) (sym empty) ∙ (named ∙ (sym (append-nil old) ∙ (ap (λ (l : List (List ℕ)). old ++ l) (sym (nil rest none)) ∙ h))))

-- ---- a name that is there already

self-equal : (n : List ℕ) → text_cmp n n ≡ Equal
self-equal n = go (text_cmp n n) refl
  where
    go : (o : Ordering) → text_cmp n n ≡ o → text_cmp n n ≡ Equal
    go Less e = absurd (true≢false (sym (ap is_lt e) ∙ ap is_lt (nat_list_cmp_total.antisymm n n ∙ ap ordering_reverse e)))
    go Equal e = e
    go Greater e = absurd (true≢false (sym (ap is_lt (nat_list_cmp_total.antisymm n n ∙ ap ordering_reverse e)) ∙ ap is_lt e))

less-through : (b : List ℕ) (before : List (List ℕ)) (name : List ℕ) (others : List (List ℕ)) → IsTrue (is_before b (before ++ name ∷ others)) → IsTrue (rises (before ++ name ∷ others)) → text_cmp b name ≡ Less
less-through b [] name others h k = less (text_cmp b name) h
less-through b (m ∷ before) name others h k =
    nat_list_cmp_total.trans b m name (less (text_cmp b m) h)
    (less-through m before name others (and_left (is_before m (before ++ name ∷ others)) (rises (before ++ name ∷ others)) k) (and_right (is_before m (before ++ name ∷ others)) (rises (before ++ name ∷ others)) k))

stays-in : (before : List (List ℕ)) (name : List ℕ) (others : List (List ℕ)) → IsTrue (rises (before ++ name ∷ others)) → with_name (before ++ name ∷ others) name ≡ before ++ name ∷ others
stays-in [] name others h = ap (λ (o : Ordering). by_order o (name ∷ name ∷ others) (name ∷ others) (name ∷ with_name others name)) (self-equal name)
stays-in (b ∷ before) name others h =
    let xs = before ++ name ∷ others in
    let first = less-through b before name others (and_left (is_before b xs) (rises xs) h) (and_right (is_before b xs) (rises xs) h) in
    let back : text_cmp name b ≡ Greater = nat_list_cmp_total.antisymm name b ∙ ap ordering_reverse first in
    ap (λ (o : Ordering). by_order o (name ∷ b ∷ xs) (b ∷ xs) (b ∷ with_name xs name)) back
    ∙ ap (λ (l : List (List ℕ)). b ∷ l) (stays-in before name others (and_right (is_before b xs) (rises xs) h))

pub names-stay : (told : Option (List (List ℕ))) (found before others : List (List ℕ)) (name : List ℕ) → AreTold told found → IsTrue (rises found) → before ++ name ∷ others ≡ found
    → option_map (λ (ns : List (List ℕ)). with_name ns name) told ≡ told
names-stay None found before others name is up whole = refl
names-stay (Some ns) found before others name is up whole =
    let rise : IsTrue (rises ns) = subst (λ (l : List (List ℕ)). IsTrue (rises l)) is up in
    let same : with_name ns name ≡ ns = subst (λ (l : List (List ℕ)). IsTrue (rises l) → with_name l name ≡ l) (whole ∙ is) (stays-in before name others) rise in
    ap (λ (l : List (List ℕ)). Some l) same

-- after a call that leaves them, or puts one among them
pub names-after : (first old new : Option (List (List ℕ))) (found before others : List (List ℕ)) (name : List ℕ) → MayPut name old new → old ≡ first → AreTold first found → IsTrue (rises found)
    → before ++ name ∷ others ≡ found → new ≡ first
names-after first old new found before others name (inl stays) e is up whole = stays ∙ e
names-after first old new found before others name (inr put) e is up whole =
    put ∙ ap (option_map (λ (ns : List (List ℕ)). with_name ns name)) e ∙ names-stay first found before others name is up whole
