-- The search for a member, a session at a time.
use Rattle.std.proofs.Common.{◌≡◌, ℕ, suc, ◌+◌, ◌<◌, ◌≤◌, List, [], ◌∷◌, length, get_or, drop, sym, ◌∙◌, ap, add-one}
use Rattle.std.proofs.Math.Seq.{drop-cons}
use Rattle.std.proofs.lemmas.List.{drop_all}
use Rattle.ep_outside.specs.declared.keeper.Pair.{Pair}
use Rattle.ep_dir_records.specs.Keys.{key}
use Rattle.ep_dir_records.specs.Values.{session_in}
use Rattle.ep_dir_records.specs.declared.keys.Kind.TheVariants as kind
use Rattle.ep_dir_records.specs.Answers.{◌>>=◌}
use Rattle.ep_groups.specs.Policy.{member, member_or}
use Rattle.ep_dir_records.specs.Readings.{read}

pub member_cons : (group : List ℕ) (now : ℕ) (ids : List (List ℕ)) (i : ℕ) (id : List ℕ) → i < length ids → id ≡ get_or ids i id → (m : List Pair) → member group now (drop i ids) m ≡ ◌>>=◌ (read (session_in id) (key kind.Session id) m) (λ x. member_or group now x (member group now (drop (i + 1) ids) m))
member_cons group now ids i id below is m =
    let c : drop i ids ≡ id ∷ drop (i + 1) ids = drop-cons ids i id below ∙ (ap (λ x. x ∷ drop (suc i) ids) (sym is) ∙ ap (λ n. id ∷ drop n ids) (sym (add-one i))) in
    ap (λ z. member group now z m) c

pub member_end : (group : List ℕ) (now : ℕ) (ids : List (List ℕ)) (i : ℕ) → length ids ≤ i → (m : List Pair) → member group now (drop i ids) m ≡ member group now [] m
member_end group now ids i past m = ap (λ z. member group now z m) (drop_all i ids past)
