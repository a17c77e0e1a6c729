-- Each call over a map that a directory alone has written, and histories of them.
use Rattle.std.proofs.Common.{◌≡◌, ℕ, List, [], ◌∷◌, All, Option, Some, Result, Ok, Err, sym, ap, ◌∙◌, subst}
use Rattle.std.proofs.lemmas.List.Elements.{All-nil, All-cons, All-head, All-tail}
use Rattle.ep_outside.specs.declared.keeper.Pair.{Pair}
use Rattle.ep_outside.specs.declared.keeper.Put.{Put}
use Rattle.ep_dir_records.specs.Answers.{Answers, IsOwn, Makes, Seen, only}
use Rattle.ep_dir_records.specs.Readings.{groups, name_of, session}
use Rattle.ep_dir_records.specs.declared.dir_bad.DirBad.{DirBad}
use Rattle.ep_dir_records.specs.declared.dir_bad.DirBad.TheVariants.{Kept}
use Rattle.ep_groups.specs.Directory.{group_pads, sessions_of_author, sessions_of_group}
use Rattle.ep_groups.specs.History.{Runs, Step}
use Rattle.ep_groups.specs.declared.entries.DirEntry.{DirEntry}
use Rattle.ep_groups.specs.declared.entries.DirEntry.TheVariants as entry
use Rattle.ep_groups.specs.declared.entries.DirReply.{DirReply}
use Rattle.ep_groups.specs.declared.entries.DirReply.TheVariants as reply
use Rattle.ep_groups.specs.Ours.{AreOurs, IsOurs}
use Rattle.ep_groups.specs.Calls.{IsCall, IsNotKept, NotKept, StaysOurs}
use Rattle.ep_groups.proofs.Pairs.{after_ours}
use Rattle.ep_groups.proofs.Fine.{Fine, Any, IsKeptBad}
use Rattle.ep_groups.proofs.Plans.{Plans, only_fine, create_group_fine, group_for_fine, delete_group_fine, add_group_pad_fine, drop_group_pad_fine, group_pads_fine, create_author_fine, author_for_fine, author_name_fine, create_session_fine, delete_session_fine, sessions_of_group_fine, sessions_of_author_fine, read_only_fine, grant_fine}
use Rattle.ep_groups.proofs.Found.{groups_fine, session_fine}

no_kept : (bad : DirBad) (key : List ℕ) → bad ≡ Kept key → (IsOwn bad → IsKeptBad bad → ⊥) → ⊥
no_kept bad key same fine = let P : DirBad → Type 0 = λ b. IsOwn b → IsKeptBad b → ⊥ in subst P same fine tt tt

-- what a fine plan makes of a map
made_ours : {A : Type 0} (asked : Result (A × List Put) DirBad) (m n : List Pair) (r : Result A DirBad) → Fine Plans asked → Makes asked m r n → AreOurs m → AreOurs n × NotKept r
made_ours asked m n (Ok x) fine made ours =
    let plan : Fine Plans (Ok (x, made.0)) = subst (Fine Plans) made.1 fine in
    (subst AreOurs (sym made.2) (after_ours m made.0 plan ours), λ key e. cc e)
made_ours asked m n (Err bad) fine made ours =
    (subst AreOurs (sym made.0) ours, λ key e. let same : bad ≡ Kept key = cc e in no_kept bad key same (λ own. subst (Fine Plans) (made.1 own) fine))

abbrev Stays : {A : Type 0} → Seen → Seen → Result A DirBad → Type 0
Stays old now r = (n : List Pair) → now.told ≡ Some n → (m : List Pair) × (old.told ≡ Some m) × (AreOurs m → AreOurs n × NotKept r)

stays : {A : Type 0} {old now : Seen} (f : List Pair → Result (A × List Put) DirBad) (r : Result A DirBad) → Answers old now f r → ((m : List Pair) → AreOurs m → Fine Plans (f m)) → Stays old now r
stays f r a fine n told =
    let h = a.told n told in (h.0, h.1, λ ours. made_ours (f h.0) h.0 n r (fine h.0 ours) h.2 ours)

stays_only : {A : Type 0} {old now : Seen} (f : List Pair → Result A DirBad) (r : Result A DirBad) → Answers old now (only f) r → ((m : List Pair) → AreOurs m → Fine Any (f m)) → Stays old now r
stays_only f r a fine = stays (only f) r a (λ m ours. only_fine f m (fine m ours))

pub step_stays : (old now : Seen) (e : DirEntry) (r : DirReply) → IsCall e → Step old now e r → StaysOurs old now r
step_stays old now (entry.CreateGroup drawn) (reply.Text r) c s = stays _ r s (λ m ours. create_group_fine drawn.digits m c ours)
step_stays old now (entry.GroupFor mapper drawn) (reply.Text r) c s = stays _ r s (λ m ours. group_for_fine mapper drawn.digits m c ours)
step_stays old now (entry.DeleteGroup group) (reply.Done r) c s = stays _ r s (λ m ours. delete_group_fine group m ours)
step_stays old now entry.Groups (reply.Texts r) c s = stays_only groups r s groups_fine
step_stays old now (entry.AddGroupPad group name) (reply.Pad r) c s = stays _ r s (λ m ours. add_group_pad_fine group name m c.0 c.1 ours)
step_stays old now (entry.DropGroupPad pad) (reply.Done r) c s = stays _ r s (λ m ours. drop_group_pad_fine pad m ours)
step_stays old now (entry.GroupPads group) (reply.Pads r) c s = stays_only (group_pads group) r s (λ m ours. group_pads_fine group m ours)
step_stays old now (entry.CreateAuthor name drawn) (reply.Text r) c s = stays _ r s (λ m ours. create_author_fine name drawn.digits m c ours)
step_stays old now (entry.AuthorFor mapper name drawn) (reply.Text r) c s = stays _ r s (λ m ours. author_for_fine mapper name drawn.digits m c ours)
step_stays old now (entry.AuthorName author) (reply.Text r) c s = stays_only (name_of author) r s (λ m ours. author_name_fine author m ours)
step_stays old now (entry.CreateSession a) (reply.Text r) c s = stays _ r s (λ m ours. create_session_fine a.group a.author a.valid_until a.at a.drawn.digits m c.0 c.1 ours)
step_stays old now (entry.DeleteSession id) (reply.Done r) c s = stays _ r s (λ m ours. delete_session_fine id m ours)
step_stays old now (entry.Session id) (reply.Session r) c s = stays_only (session id) r s (λ m ours. session_fine id m ours)
step_stays old now (entry.SessionsOfGroup group) (reply.Sessions r) c s = stays_only (sessions_of_group group) r s (λ m ours. sessions_of_group_fine group m ours)
step_stays old now (entry.SessionsOfAuthor author) (reply.Sessions r) c s = stays_only (sessions_of_author author) r s (λ m ours. sessions_of_author_fine author m ours)
step_stays old now (entry.ReadOnly pad drawn) (reply.Text r) c s = stays _ r s (λ m ours. read_only_fine pad drawn.digits m c.0 c.1 ours)
step_stays old now (entry.Grant a) (reply.Grant r) c s = stays _ r s (λ m ours. grant_fine a.asked a.sessions a.token a.at a.drawn.digits m c ours)
step_stays old now _ _ c s = absurd s

-- the map that was told before the calls, where one is told after them
told_before : (first last : Seen) (h : List (DirEntry × DirReply)) (n : List Pair) → Runs first h last → last.told ≡ Some n → All (λ c. IsCall c.0) h → (m : List Pair) × (first.told ≡ Some m) × (AreOurs m → AreOurs n × All (λ c. IsNotKept c.1) h)
told_before first last [] n run told calls = (n, ap (λ s. s.told) run ∙ told, λ ours. (ours, All-nil (λ c. IsNotKept c.1)))
told_before first last (c ∷ cs) n run told calls =
    let IsC : DirEntry × DirReply → Type 0 = λ d. IsCall d.0 in
    let IsN : DirEntry × DirReply → Type 0 = λ d. IsNotKept d.1 in
    let rest = told_before run.0 last cs n run.3 told (All-tail IsC c cs calls) in
    let one = step_stays first run.0 c.0 c.1 (All-head IsC c cs calls) run.1 rest.0 rest.1 in
    (one.0, one.1, λ ours. let now = one.2 ours in let then = rest.2 now.0 in (then.0, All-cons IsN c cs now.1 then.1))

some_same : (m n : List Pair) → (let o : Option (List Pair) = Some m in o ≡ Some n) → m ≡ n
some_same m n e = cc e

pub runs_stay : (first last : Seen) (h : List (DirEntry × DirReply)) (m n : List Pair) → first.told ≡ Some m → AreOurs m → Runs first h last → last.told ≡ Some n → All (λ c. IsCall c.0) h → AreOurs n × All (λ c. IsNotKept c.1) h
runs_stay first last h m n began ours run told calls =
    let all = told_before first last h n run told calls in
    all.2 (subst AreOurs (some_same m all.0 (sym began ∙ all.1)) ours)

pub empty_is_ours : AreOurs []
empty_is_ours = All-nil IsOurs
