-- Pads that are deleted one after another.
use Rattle.std.proofs.Common.{◌≡◌, ◌<◌, ◌+◌, ℕ, suc, List, [], ◌∷◌, drop, get_or, length, refl, sym, ap, ◌∙◌, add-one, subst, Result, Ok, Err}
use Rattle.std.proofs.Math.Seq.{drop-cons}
use Rattle.ep_units.specs.Text.{Text}
use Rattle.ep_ask.specs.declared.bad.ApiBad.{ApiBad}
use Rattle.ep_api.specs.Functions.{delete_all, delete_if_there}
use Rattle.ep_api.specs.Passes.{Does, Seen}
use Rattle.ep_api.proofs.Doing.{goes, rests, stops}

-- what is left is nothing
pub all_deleted : (now : ℕ) (a : Seen) (ids : List Text) → ids ≡ [] → Does a (delete_all now ids) (Ok tt) a
all_deleted now a ids none =
    let P : List Text → Type 0 = λ l. Does a (delete_all now l) (Ok tt) a in
    subst P (sym none) (rests a (delete_all now []) (Ok tt) (refl, refl))

-- one is deleted, and then the others
pub next_deleted : (now : ℕ) (a b c : Seen) (ids rest : List Text) (id : Text) (r : Result (Unit {0}) ApiBad) → ids ≡ id ∷ rest
    → Does a (delete_if_there id now) (Ok tt) b → Does b (delete_all now rest) r c → Does a (delete_all now ids) r c
next_deleted now a b c ids rest id r is first next =
    let P : List Text → Type 0 = λ l. Does a (delete_all now l) r c in
    subst P (sym is) (goes a b c (delete_if_there id now) (λ _. delete_all now rest) tt r first next)

-- one is refused
pub none_deleted : (now : ℕ) (a b : Seen) (ids rest : List Text) (id : Text) (why : ApiBad) → ids ≡ id ∷ rest
    → Does a (delete_if_there id now) (Err why) b → Does a (delete_all now ids) (Err why) b
none_deleted now a b ids rest id why is first =
    let P : List Text → Type 0 = λ l. Does a (delete_all now l) (Err why) b in
    subst P (sym is) (stops a b (delete_if_there id now) (λ _. delete_all now rest) why first)

-- the next of those that are left
pub next_left : (ids : List Text) (i : ℕ) (id : Text) → i < length ids → id ≡ get_or ids i id → drop i ids ≡ id ∷ drop (i + 1) ids
next_left ids i id below is = drop-cons ids i id below ∙ (ap (λ x. x ∷ drop (suc i) ids) (sym is) ∙ ap (λ n. id ∷ drop n ids) (sym (add-one i)))

-- the same list
pub of_list : (now : ℕ) (a b : Seen) (ids others : List Text) (r : Result (Unit {0}) ApiBad) → others ≡ ids → Does a (delete_all now others) r b → Does a (delete_all now ids) r b
of_list now a b ids others r is does =
    let P : List Text → Type 0 = λ l. Does a (delete_all now l) r b in
    subst P is does
