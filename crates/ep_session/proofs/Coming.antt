-- How a session comes to its end.
use Rattle.std.proofs.Common.{◌≡◌, ◌≤◌, ℕ, true, false, List, [], ◌∷◌, ◌++◌, Option, Some, None, refl, sym, ap, ◌∙◌, subst, append-nil, inl, inr, rules}
use Rattle.std.specs.Prelude.{◌⊎◌, ◌&&◌, Bool, IfSome, Result, Ok, Err}
use Rattle.std.specs.List.{AllByRecursion}
use Rattle.atomic_table.specs.Seated.{TableId}
use Rattle.ep_outside.specs.Outside.{HasRisen}
use Rattle.ep_units.specs.declared.grant.Grant.{Grant}
use Rattle.ep_cell.specs.Passes.{Known}
use Rattle.ep_dir_records.specs.declared.dir_bad.DirBad.{DirBad}
use Rattle.ep_dir_records.specs.declared.dir_bad.DirBad.TheVariants as dirbad
use Rattle.ep_dir_records.specs.declared.ids.Drawn.{Drawn}
use Rattle.ep_groups.specs.Asking.{AsksOrLacks}
use Rattle.ep_groups.specs.declared.entries.DirEntry.{DirEntry}
use Rattle.ep_groups.specs.declared.entries.DirReply.{DirReply}
use Rattle.ep_groups.specs.declared.entries.DirReply.TheVariants as dirs
use Rattle.ep_pad.specs.declared.wanted.Wanted.{Wanted}
use Rattle.ep_pad.specs.Halls.{Answer, NotesOrNone, told_of, want}
use Rattle.ep_pad.specs.declared.entries.PadEntry.{PadEntry}
use Rattle.ep_pad.specs.declared.entries.PadReply.{PadReply}
use Rattle.ep_pad.specs.declared.pass_bad.PassBad.{PassBad}
use Rattle.ep_pad.specs.declared.pass_bad.PassBad.TheVariants as passbad
use Rattle.ep_wire_words.specs.declared.client.Resume.{Resume}
use Rattle.ep_wire_words.specs.declared.server.Word.{Word}
use Rattle.ep_link.specs.Traffic.{Adds}
use Rattle.ep_link.specs.declared.passed.Passed.{Passed}
use Rattle.ep_session.specs.Passing.{Goes, IfBoth, IsGiven, own, own_of}
use Rattle.ep_session.specs.Ends.{end_of_pass, end_of_dir, closing_of, may_make}
use Rattle.ep_session.specs.Session.{Did, Heard, Understood, Said, Unsaid, Called, Granted, Entered, Duty, Fetch, Hear, Ask, Enter, Then, Ends, Runs, asking, granted, joining, traffic_of, calls_of, desk_of, hall_of, moments_of, wanting}
use Rattle.ep_session.specs.Says.{OnLink, Done, Ended, Came, IsCaused, IsInside, IsFault, no_moment}
use Rattle.ep_session.specs.Served.{LeavesBy, last_of}
use Rattle.ep_session.specs.declared.end.End.{End}
use Rattle.ep_session.specs.declared.end.End.TheVariants as ends
use Rattle.ep_session.specs.declared.place.Place.{Place}
use Rattle.ep_session.specs.declared.ready.Ready.{Ready}
use Rattle.ep_session.proofs.Passes.{same_err, first_made, desk_answered, desk_refused, noted}
use Rattle.ep_session.proofs.Running.{PadView, caused_before, done_on, done_anyway, runs_on, traffic_on, calls_on, moments_on, adds_on, adds_nothing}

-- the login or the resumption, and what is new
pub begin_on : (shows : ℕ → Type 0) (a b c : Option (List Passed)) (u v w : PadView) (old mid new : Place) (d : Duty) (x : Unit {0}) (r : Result (Unit {0}) End) → Done shows a b u v old mid (d ∷ []) (Ok x) (λ _. Fetch ∷ Hear ∷ []) → Done no_moment b c v w mid new (Fetch ∷ []) r (λ _. [])
    → Done shows a c u w old new (d ∷ []) r (λ _. Hear ∷ [])
begin_on shows a b c u v w old mid new d x r p q = done_on shows a b c u v w old mid new (d ∷ []) (Fetch ∷ []) (Hear ∷ []) x r (λ _. Fetch ∷ Hear ∷ []) (λ _. []) refl p (done_anyway shows b c v w mid new (Fetch ∷ []) r (λ _. []) q)

-- and then all turns
pub pad_on : (shows : ℕ → Type 0) (a b c : Option (List Passed)) (u v w : PadView) (old mid new : Place) (d : Duty) (x : Unit {0}) (e : End) → Done shows a b u v old mid (d ∷ []) (Ok x) (λ _. Hear ∷ []) → Ended shows b c v w mid new (Hear ∷ []) e → Ended shows a c u w old new (d ∷ []) e
pad_on shows a b c u v w old mid new d x e p q = done_on {X = Unit {0}} {Y = Unit {0}} shows a b c u v w old mid new (d ∷ []) (Hear ∷ []) [] x (Err e) (λ _. Hear ∷ []) (λ _. []) refl p q

pub inside_desk : (log : List Did) → IsInside log → desk_of log ≡ []
inside_desk [] h = refl
inside_desk (Heard g n ∷ log) h = inside_desk log h
inside_desk (Understood text r ∷ log) h = inside_desk log h
inside_desk (Said text ∷ log) h = inside_desk log h
inside_desk (Unsaid n ∷ log) h = inside_desk log h
inside_desk (Called e r ∷ log) h = inside_desk log h
inside_desk (Granted now e r ∷ log) h = absurd h
inside_desk (Entered pad r ∷ log) h = absurd h

pub inside_hall : (log : List Did) → IsInside log → hall_of log ≡ []
inside_hall [] h = refl
inside_hall (Heard g n ∷ log) h = inside_hall log h
inside_hall (Understood text r ∷ log) h = inside_hall log h
inside_hall (Said text ∷ log) h = inside_hall log h
inside_hall (Unsaid n ∷ log) h = inside_hall log h
inside_hall (Called e r ∷ log) h = inside_hall log h
inside_hall (Granted now e r ∷ log) h = absurd h
inside_hall (Entered pad r ∷ log) h = absurd h

desk_on : (a b : List Did) → IsInside a → desk_of (a ++ b) ≡ desk_of b
desk_on [] b h = refl
desk_on (Heard g n ∷ a) b h = desk_on a b h
desk_on (Understood text r ∷ a) b h = desk_on a b h
desk_on (Said text ∷ a) b h = desk_on a b h
desk_on (Unsaid n ∷ a) b h = desk_on a b h
desk_on (Called e r ∷ a) b h = desk_on a b h
desk_on (Granted now e r ∷ a) b h = absurd h
desk_on (Entered pad r ∷ a) b h = absurd h

hall_on : (a b : List Did) → IsInside a → hall_of (a ++ b) ≡ hall_of b
hall_on [] b h = refl
hall_on (Heard g n ∷ a) b h = hall_on a b h
hall_on (Understood text r ∷ a) b h = hall_on a b h
hall_on (Said text ∷ a) b h = hall_on a b h
hall_on (Unsaid n ∷ a) b h = hall_on a b h
hall_on (Called e r ∷ a) b h = hall_on a b h
hall_on (Granted now e r ∷ a) b h = absurd h
hall_on (Entered pad r ∷ a) b h = absurd h

abbrev pub HallView : Type 0
HallView = Known Wanted Answer

-- the first call of a hall
hall_first : (h0 h1 : HallView) (name : Wanted) (r : Answer) → own h0 ≡ [] → own h1 ≡ own h0 ++ (name, r) ∷ [] → own h1 ≡ (name, r) ∷ []
hall_first h0 h1 name r none more = more ∙ ap (λ l. l ++ (name, r) ∷ []) none

-- a session on its pad, once the registry gave the pass
pub came_in : (shows : ℕ → Type 0) (a b : Option (List Passed)) (h0 h1 : HallView) (u v : PadView) (old new : Place) (grant : Grant) (resume : Option Resume) (id : TableId) (e : End)
    → own h0 ≡ [] → own h1 ≡ own h0 ++ (wanting grant resume, Ok id) ∷ [] → own u ≡ [] → Ended shows a b u v old new (joining grant resume ∷ []) e → Came shows a b [] (own h1) (own v) old new (Enter grant resume ∷ []) e
came_in shows a b h0 h1 u v old new grant resume id e none call fresh p =
    let w = p.performs [] in
    record {
      log = Entered (wanting grant resume) (Ok id) ∷ p.log;
      traffic = p.traffic;
      desk_calls = sym (inside_desk p.log p.inside);
      hall_calls = hall_first h0 h1 (wanting grant resume) (Ok id) none call ∙ ap (λ l. (wanting grant resume, Ok id) ∷ l) (sym (inside_hall p.log p.inside));
      calls = first_made u v _ fresh p.calls;
      moments = p.moments;
      out = w.0;
      runs = inl (old, joining grant resume ∷ [], (Ok id, refl, refl), w.1);
      ends = w.2;
    }

-- memory ran out before anything was done
pub came_short : (shows : ℕ → Type 0) (a : Option (List Passed)) (at : Place) (due : List Duty) → Came shows a a [] [] [] at at due ends.NoMemory
came_short shows a at due = record { log = []; traffic = adds_nothing a; desk_calls = refl; hall_calls = refl; calls = refl; moments = tt; out = Then at due; runs = refl; ends = inr (refl, refl) }

pass_refused : (shows : ℕ → Type 0) (a : Option (List Passed)) (h0 h1 : HallView) (at : Place) (grant : Grant) (resume : Option Resume) (b : PassBad) → own h0 ≡ [] → own h1 ≡ own h0 ++ (wanting grant resume, Err b) ∷ [] → Came shows a a [] (own h1) [] at at (Enter grant resume ∷ []) (end_of_pass grant resume b)
pass_refused shows a h0 h1 at grant resume b none call = record {
  log = Entered (wanting grant resume) (Err b) ∷ [];
  traffic = adds_nothing a;
  desk_calls = refl;
  hall_calls = hall_first h0 h1 (wanting grant resume) (Err b) none call;
  calls = refl;
  moments = tt;
  out = Ends at (end_of_pass grant resume b);
  runs = inr (at, end_of_pass grant resume b, (Err b, refl, refl), refl, refl);
  ends = inl refl;
}

not_given : {X E : Type 0} (x : X) (e : E) → Ok x ≡ Err e → ⊥
not_given x e h = search rules

-- the registry refused, or memory ran out before it was asked
pub came_refused : {P : Type 0} (Legal : List (Wanted × Answer) → Type 0) (cell_of : P → TableId) (shows : ℕ → Type 0) (a : Option (List Passed)) (h0 h1 : HallView) (at : Place) (grant : Grant) (resume : Option Resume) (r : Result P PassBad) (b : PassBad) (e : End)
    → own h0 ≡ [] → NotesOrNone Legal h0 (wanting grant resume) (told_of cell_of r) h1 → r ≡ Err b → e ≡ end_of_pass grant resume b → Came shows a a [] (own h1) [] at at (Enter grant resume ∷ []) e
came_refused {P = P} Legal cell_of shows a h0 h1 at grant resume r b e none notes is same = subst (λ e. Came shows a a [] (own h1) [] at at (Enter grant resume ∷ []) e) (sym same) (go (subst (λ r. NotesOrNone Legal h0 (wanting grant resume) (told_of cell_of r) h1) is notes))
  where
    go : NotesOrNone Legal h0 (wanting grant resume) (Err b) h1 → Came shows a a [] (own h1) [] at at (Enter grant resume ∷ []) (end_of_pass grant resume b)
    go (inl n) = pass_refused shows a h0 h1 at grant resume b none (noted Legal h0 h1 (wanting grant resume) (Err b) n)
    go (inr (short, same)) =
        subst (λ l. Came shows a a [] l [] at at (Enter grant resume ∷ []) (end_of_pass grant resume b)) (sym (ap own same ∙ none))
        (subst (λ b. Came shows a a [] [] [] at at (Enter grant resume ∷ []) (end_of_pass grant resume b)) (sym (same_err {X = TableId} (Err b) b passbad.NoMemory refl short)) (came_short shows a at (Enter grant resume ∷ [])))

-- what is asked for is the granted pad, which is made where it may be
pub noted_as : (grant : Grant) (resume : Option Resume) (Legal : List (Wanted × Answer) → Type 0) (h0 h1 : HallView) (r : Answer) (makes : Bool) → makes ≡ may_make grant resume → NotesOrNone Legal h0 (want grant.pad makes) r h1 → NotesOrNone Legal h0 (wanting grant resume) r h1
noted_as grant resume Legal h0 h1 r makes is = subst (λ b. NotesOrNone Legal h0 (want grant.pad b) r h1) is

-- the pass that was given is the one that the hall was answered
pub given_still : {P : Type 0} (name_of : P → List ℕ) (cell_of : P → TableId) (h0 h1 : HallView) (pad : List ℕ) (makes : Bool) (old new : P) → own h0 ≡ [] → own h1 ≡ own h0 ++ (want pad makes, Ok (cell_of old)) ∷ [] → name_of old ≡ pad → (name_of new ≡ name_of old) × (cell_of new ≡ cell_of old) → IsGiven (own h1) (name_of new) (cell_of new)
given_still name_of cell_of h0 h1 pad makes old new none call is stays = (
  makes,
  hall_first h0 h1 (want pad makes) (Ok (cell_of old)) none call
      ∙ (ap (λ (x : List ℕ). (want x makes, Ok (cell_of old)) ∷ []) (sym (stays.0 ∙ is)) ∙ ap (λ (x : TableId). (want (name_of new) makes, Ok x) ∷ []) (sym stays.1)),
)

-- the registry gave a pass, so it was asked
pub was_noted : {P : Type 0} (Legal : List (Wanted × Answer) → Type 0) (cell_of : P → TableId) (h0 h1 : HallView) (pad : Wanted) (r : Result P PassBad) (p : P) → NotesOrNone Legal h0 pad (told_of cell_of r) h1 → r ≡ Ok p → own h1 ≡ own h0 ++ (pad, Ok (cell_of p)) ∷ []
was_noted Legal cell_of h0 h1 pad r p notes is = go (subst (λ r. NotesOrNone Legal h0 pad (told_of cell_of r) h1) is notes)
  where
    go : NotesOrNone Legal h0 pad (Ok (cell_of p)) h1 → own h1 ≡ own h0 ++ (pad, Ok (cell_of p)) ∷ []
    go (inl n) = noted Legal h0 h1 pad (Ok (cell_of p)) n
    go (inr (short, same)) = absurd (not_given (cell_of p) passbad.NoMemory short)

-- a session whose grant was given
pub came_granted : (Legal : List (DirEntry × DirReply) → Type 0) (shows : ℕ → Type 0) (a b : Option (List Passed)) (d0 d1 : Known DirEntry DirReply) (hall : List (Wanted × Answer)) (made : List (PadEntry × PadReply)) (old new : Place) (drawn : Drawn) (ready : Ready) (now : ℕ) (res : Result Grant DirBad) (grant : Grant) (e : End)
    → own d0 ≡ [] → AsksOrLacks Legal d0 (asking drawn ready now) dirs.Grant res d1 → shows now → res ≡ Ok grant → Came shows a b [] hall made old new (Enter grant ready.resume ∷ []) e → Came shows a b (own d1) hall made old new (Ask drawn ready ∷ []) e
came_granted Legal shows a b d0 d1 hall made old new drawn ready now res grant e none asks shown is p = record {
  log = Granted now (asking drawn ready now) (dirs.Grant res) ∷ p.log;
  traffic = p.traffic;
  desk_calls = first_made d0 d1 _ none (desk_answered Legal d0 d1 (asking drawn ready now) dirs.Grant res grant asks is) ∙ ap (λ l. (asking drawn ready now, dirs.Grant res) ∷ l) p.desk_calls;
  hall_calls = p.hall_calls;
  calls = p.calls;
  moments = (shown, p.moments);
  out = p.out;
  runs = inl (old, Enter grant ready.resume ∷ [], (now, res, refl, sym (ap (granted old ready) is)), p.runs);
  ends = p.ends;
}

pub came_denied : (Legal : List (DirEntry × DirReply) → Type 0) (shows : ℕ → Type 0) (a : Option (List Passed)) (d0 d1 : Known DirEntry DirReply) (at : Place) (drawn : Drawn) (ready : Ready) (now : ℕ) (res : Result Grant DirBad) (b : DirBad) (e : End)
    → own d0 ≡ [] → AsksOrLacks Legal d0 (asking drawn ready now) dirs.Grant res d1 → shows now → res ≡ Err b → e ≡ end_of_dir b → Came shows a a (own d1) [] [] at at (Ask drawn ready ∷ []) e
came_denied Legal shows a d0 d1 at drawn ready now res b e none asks shown is ended = subst (λ e. Came shows a a (own d1) [] [] at at (Ask drawn ready ∷ []) e) (sym ended) (go (desk_refused Legal d0 d1 (asking drawn ready now) dirs.Grant res b asks is))
  where
    go : Goes d0 d1 ((asking drawn ready now, dirs.Grant res) ∷ []) ⊎ ((b ≡ dirbad.NoMemory) × Goes d0 d1 []) → Came shows a a (own d1) [] [] at at (Ask drawn ready ∷ []) (end_of_dir b)
    go (inl goes) = record {
      log = Granted now (asking drawn ready now) (dirs.Grant res) ∷ [];
      traffic = adds_nothing a;
      desk_calls = first_made d0 d1 _ none goes;
      hall_calls = refl;
      calls = refl;
      moments = (shown, tt);
      out = Ends at (end_of_dir b);
      runs = inr (at, end_of_dir b, (now, res, refl, sym (ap (granted at ready) is)), refl, refl);
      ends = inl refl;
    }
    go (inr (short, goes)) =
        subst (λ l. Came shows a a l [] [] at at (Ask drawn ready ∷ []) (end_of_dir b)) (sym (first_made d0 d1 [] none goes))
        (subst (λ b. Came shows a a [] [] [] at at (Ask drawn ready ∷ []) (end_of_dir b)) (sym short) (came_short shows a at (Ask drawn ready ∷ [])))

-- what came before on the link alone
pub came_behind : {X : Type 0} (shows : ℕ → Type 0) (a b c : Option (List Passed)) (desk : List (DirEntry × DirReply)) (hall : List (Wanted × Answer)) (made : List (PadEntry × PadReply)) (old mid new : Place) (due : List Duty) (x : X) (left : X → List Duty) (e : End)
    → OnLink a b old mid due (Ok x) left → Came shows b c desk hall made mid new (left x) e → Came shows a c desk hall made old new due e
came_behind shows a b c desk hall made old mid new due x left e p q = record {
  log = p.log ++ q.log;
  traffic = subst (Adds a c) (sym (traffic_on p.log q.log)) (adds_on a b c (traffic_of p.log) (traffic_of q.log) p.traffic q.traffic);
  desk_calls = q.desk_calls ∙ sym (desk_on p.log q.log p.inside);
  hall_calls = q.hall_calls ∙ sym (hall_on p.log q.log p.inside);
  calls = q.calls ∙ sym (calls_on p.log q.log ∙ ap (λ l. l ++ calls_of q.log) p.calls);
  moments = moments_on shows p.log q.log (subst (AllByRecursion shows) (sym p.moments) tt) q.moments;
  out = q.out;
  runs = runs_on old due p.log mid (left x) q.log q.out (subst (λ l. Runs old l p.log (Then mid (left x))) (append-nil due) (subst (λ l. Runs old (due ++ []) p.log (Then mid l)) (append-nil (left x)) (p.performs []))) q.runs;
  ends = q.ends;
}

pub came_ended : {X : Type 0} (shows : ℕ → Type 0) (a b : Option (List Passed)) (old new : Place) (due : List Duty) (left : X → List Duty) (e : End) → OnLink {X = X} a b old new due (Err e) left → Came shows a b [] [] [] old new due e
came_ended shows a b old new due left e p =
    let w = p.performs [] in
    record {
      log = p.log;
      traffic = p.traffic;
      desk_calls = sym (inside_desk p.log p.inside);
      hall_calls = sym (inside_hall p.log p.inside);
      calls = sym p.calls;
      moments = subst (AllByRecursion shows) (sym p.moments) tt;
      out = w.0;
      runs = subst (λ l. Runs old l p.log w.0) (append-nil due) w.1;
      ends = w.2;
    }

-- a fault of the link has its cause still where the count of faults stays
fault_on : (e : End) (a b c : ℕ) → (closing_of e ≡ None → c ≡ b) → IsFault e a b → IsFault e a c
fault_on (ends.LinkFault n) a b c stays (rose, is) = (subst (λ m. HasRisen a m) (sym (stays refl)) rose, is ∙ sym (stays refl))
fault_on ends.Closed a b c stays h = tt
fault_on (ends.Bad k) a b c stays h = tt
fault_on (ends.Replaced by) a b c stays h = tt
fault_on (ends.Deleted k) a b c stays h = tt
fault_on (ends.Reopened k) a b c stays h = tt
fault_on (ends.Denied k) a b c stays h = tt
fault_on (ends.Full k) a b c stays h = tt
fault_on ends.Gone a b c stays h = tt
fault_on (ends.BadRev k) a b c stays h = tt
fault_on (ends.Pads k) a b c stays h = tt
fault_on ends.IdsSpent a b c stays h = tt
fault_on (ends.JournalFull k) a b c stays h = tt
fault_on (ends.Broken k) a b c stays h = tt
fault_on (ends.Kept k) a b c stays h = tt
fault_on (ends.Directory k) a b c stays h = tt
fault_on (ends.StoreFault k) a b c stays h = tt
fault_on (ends.ShelfFault k) a b c stays h = tt
fault_on (ends.KeeperFault k) a b c stays h = tt
fault_on ends.NoMemory a b c stays h = tt

-- so has the end at last
pub last_caused : (reason : End) (closed : Result (Unit {0}) End) (a b c : ℕ) → a ≤ b → (closing_of reason ≡ None → c ≡ b) → IsFault reason a b → IsCaused closed b c → IsFault (last_of reason closed) a c
last_caused reason (Ok u) a b c h stays was is = fault_on reason a b c stays was
last_caused reason (Err e) a b c h stays was is = caused_before {X = Unit {0}} (Err e) a b c h is

-- without a pass there is no session to be left
pub none_left : {A : Type 0} (pass : Option A) (inside leaves both : Bool) → both ≡ (inside && leaves) → (pass ≡ None → inside ≡ false) → pass ≡ None → both ≡ false
none_left pass inside leaves both is stays none = is ∙ ap (λ b. b && leaves) (stays none)

pub left_so : (leaves : Bool) (at : Place) (made all : List (PadEntry × PadReply)) → leaves ≡ true → LeavesBy true at made all → LeavesBy leaves at made all
left_so leaves at made all is h = subst (λ b. LeavesBy b at made all) (sym is) h

pub not_left : (leaves : Bool) (at : Place) (made : List (PadEntry × PadReply)) → leaves ≡ false → LeavesBy leaves at made made
not_left leaves at made is = subst (λ b. LeavesBy b at made made) (sym is) refl

pub both_none : {A : Type 0} (P : A → A → Type 0) (o : Option A) → o ≡ None → IfBoth o None P
both_none {A = A} P o is = subst (λ (o : Option A). IfBoth o None P) (sym is) tt

pub both_some : {A : Type 0} (P : A → A → Type 0) (o : Option A) (a b : A) → o ≡ Some a → P a b → IfBoth o (Some b) P
both_some {A = A} P o a b is h = subst (λ (o : Option A). IfBoth o (Some b) P) (sym is) h

-- the pass that is left is still the one that the registry gave
pub one_kept : {A M : Type 0} (name : A → List ℕ) (cell : A → TableId) (begun : A → M) (hall : List (Wanted × Answer)) (old new : Option A) → IfSome old (λ p. IsGiven hall (name p) (cell p)) → IfBoth old new (λ o n. (name n ≡ name o) × (cell n ≡ cell o) × (begun n ≡ begun o)) → IfSome new (λ p. IsGiven hall (name p) (cell p))
one_kept name cell begun hall None None h k = tt
one_kept name cell begun hall (Some o) (Some n) h k = (h.0, h.1 ∙ (ap (λ (x : List ℕ). (want x h.0, Ok (cell o)) ∷ []) (sym k.0) ∙ ap (λ (x : TableId). (want (name n) h.0, Ok x) ∷ []) (sym k.1)))
one_kept name cell begun hall (Some o) None h k = absurd k
one_kept name cell begun hall None (Some n) h k = absurd k
