-- Parts of a session, one after the other.
use Rattle.std.proofs.Common.{◌≡◌, ◌≢◌, ◌+◌, ◌<◌, ◌≤◌, ◌-◌, ℕ, suc, map, length, drop, arith, List, [], ◌∷◌, ◌++◌, Option, Some, None, refl, sym, ap, ◌∙◌, subst, append_assoc, append-nil, inl, inr, rules}
use Rattle.std.specs.Prelude.{Result, Ok, Err, OnOk, OnErr, Bool, true, false, ◌==◌, ◌⊎◌, if◌then◌else◌, ◌*◌}
use Rattle.std.specs.Result.{IsErrAnd}
use Rattle.std.proofs.lemmas.Bool.Decides.{nat_tests}
use Rattle.std.specs.List.{AllByRecursion}
use Rattle.ep_cell.specs.Passes.{Known}
use Rattle.ep_cs.specs.Change.{Change}
use Rattle.ep_cs.specs.Doc.{Doc}
use Rattle.ep_cs.specs.declared.bad.FitBad.{FitBad}
use Rattle.ep_history.specs.declared.pad_bad.PadBad.{PadBad}
use Rattle.ep_history.specs.declared.pad_bad.PadBad.TheVariants as bad
use Rattle.ep_history.specs.declared.rev.Rev.{Rev}
use Rattle.ep_dir_records.specs.declared.ids.Drawn.{Drawn}
use Rattle.ep_pad_state.specs.declared.answers.CatchUp.{CatchUp}
use Rattle.ep_pad_state.specs.declared.answers.Fetched.{Fetched}
use Rattle.ep_pad_state.specs.declared.answers.Piece.{Piece}
use Rattle.ep_pad.specs.declared.entries.PadEntry.{PadEntry}
use Rattle.ep_pad.specs.declared.entries.PadEntry.TheVariants as entry
use Rattle.ep_pad.specs.declared.entries.PadReply.{PadReply}
use Rattle.ep_pad.specs.declared.entries.PadReply.TheVariants as reply
use Rattle.ep_wire_words.specs.Client.{ReadsClient}
use Rattle.ep_wire_words.specs.declared.bad.WireBad.{WireBad}
use Rattle.ep_wire_words.specs.declared.client.ClientMsg.{ClientMsg}
use Rattle.ep_wire_words.specs.declared.client.ClientMsg.TheVariants as msgs
use Rattle.ep_wire_words.specs.declared.client.Resume.{Resume}
use Rattle.ep_wire_words.specs.declared.server.ServerMsg.{ServerMsg}
use Rattle.ep_wire_words.specs.declared.server.ServerMsg.TheVariants as msg
use Rattle.ep_slider.specs.Slides.{AreSlides}
use Rattle.ep_link.specs.Traffic.{Adds, came}
use Rattle.ep_link.specs.declared.passed.LinkGot.{LinkGot}
use Rattle.ep_link.specs.declared.passed.LinkGot.TheVariants as got
use Rattle.ep_link.specs.declared.passed.Passed.{Passed}
use Rattle.ep_link.specs.declared.passed.Passed.TheVariants.{Sent}
use Rattle.ep_session.specs.Passing.{Goes}
use Rattle.ep_outside.specs.Disk.{Contents}
use Rattle.ep_pad.specs.Asking.{AsksOrLacks}
use Rattle.ep_session.specs.Ends.{end_of}
use Rattle.ep_session.specs.Session.{Did, Heard, Understood, Said, Unsaid, Called, Granted, Entered, Duty, Outcome, Then, Ends, Runs, Does, Sends, Begin, Understand, Tell, TellNop, Say, Show, Fetch, Look, Hear, Greet, Ask, telling, told, nop_telling, nop_told, nops_due, news_due, due_at, counted, fetched, is_full, looked, shown, slid, unfit, changes_of, heard, asked, most_bytes, nowhere, begun, greeted, none_missed, rejoined, rejoin_place, text_of, traffic_of, calls_of, desk_of, hall_of, moment_of, moments_of}
use Rattle.ep_session.specs.Says.{Performs, SendsAs, IsCaused, OnLink, Done, IsInside, Hears, GotAs, AskedBy, Greets, GreetedAs, BegunAs, no_moment, MayLack, due_of, outcome_of, first_of, as_first, greeting_of, greeting_due}
use Rattle.ep_session.specs.declared.end.End.{End}
use Rattle.ep_session.specs.declared.end.End.TheVariants as ends
use Rattle.ep_session.specs.Steps.{StepsOf}
use Rattle.ep_session.specs.declared.act.Steps.{Steps}
use Rattle.ep_session.specs.declared.hear.Asked.{Asked}
use Rattle.ep_session.specs.declared.place.Place.{Place}
use Rattle.ep_session.specs.declared.ready.Ready.{Ready}
use Rattle.ep_session.proofs.Passes.{goes_nowhere, goes_on, refused, same_err}

abbrev pub PadView : Type 0
PadView = Known PadEntry PadReply

data_of : Outcome → List Duty
data_of (Then at due) = due
data_of (Ends at e) = []

at_of : Outcome → Place → Place
at_of (Then at due) d = at
at_of (Ends at e) d = d

is_end : Outcome → ℕ
is_end (Then at due) = 0
is_end (Ends at e) = 1

pub not_both : (at to : Place) (due : List Duty) (e : End) → Then at due ≡ Ends to e → ⊥
not_both at to due e h = search rules

pub runs_on : (at : Place) (due : List Duty) (log : List Did) (mid : Place) (left : List Duty) (more : List Did) (out : Outcome) → Runs at due log (Then mid left) → Runs mid left more out → Runs at due (log ++ more) out
unfolding data_of at_of
runs_on at due [] mid left more out r s =
    subst (λ a. Runs a due more out) (ap (λ o. at_of o at) r) (subst (λ d. Runs mid d more out) (ap data_of r) s)
runs_on at [] (did ∷ log) mid left more out r s = absurd r
runs_on at (d ∷ due) (did ∷ log) mid left more out (inl (to, new, does, r)) s = inl (to, new, does, runs_on to (new ++ due) log mid left more out r s)
runs_on at (d ∷ due) (did ∷ log) mid left more out (inr (to, e, does, none, is)) s = absurd (not_both mid to left e is)

-- the parts of a log
pub traffic_on : (a b : List Did) → traffic_of (a ++ b) ≡ traffic_of a ++ traffic_of b
traffic_on [] b = refl
traffic_on (Heard g n ∷ a) b = ap (λ t. came g ++ t) (traffic_on a b) ∙ sym (append_assoc (came g) (traffic_of a) (traffic_of b))
traffic_on (Understood text r ∷ a) b = traffic_on a b
traffic_on (Said m ∷ a) b = ap (λ t. Sent (text_of m) ∷ t) (traffic_on a b)
traffic_on (Unsaid n ∷ a) b = traffic_on a b
traffic_on (Called e r ∷ a) b = traffic_on a b
traffic_on (Granted now e r ∷ a) b = traffic_on a b
traffic_on (Entered pad r ∷ a) b = traffic_on a b

pub calls_on : (a b : List Did) → calls_of (a ++ b) ≡ calls_of a ++ calls_of b
calls_on [] b = refl
calls_on (Heard g n ∷ a) b = calls_on a b
calls_on (Understood text r ∷ a) b = calls_on a b
calls_on (Said text ∷ a) b = calls_on a b
calls_on (Unsaid n ∷ a) b = calls_on a b
calls_on (Called e r ∷ a) b = ap (λ t. (e, r) ∷ t) (calls_on a b)
calls_on (Granted now e r ∷ a) b = calls_on a b
calls_on (Entered pad r ∷ a) b = calls_on a b

pub inside_on : (a b : List Did) → IsInside a → IsInside b → IsInside (a ++ b)
inside_on [] b h k = k
inside_on (Heard g n ∷ a) b h k = inside_on a b h k
inside_on (Understood text r ∷ a) b h k = inside_on a b h k
inside_on (Said text ∷ a) b h k = inside_on a b h k
inside_on (Unsaid n ∷ a) b h k = inside_on a b h k
inside_on (Called e r ∷ a) b h k = inside_on a b h k
inside_on (Granted now e r ∷ a) b h k = absurd h
inside_on (Entered pad r ∷ a) b h k = absurd h

moments_append : (a b : List Did) → moments_of (a ++ b) ≡ moments_of a ++ moments_of b
moments_append [] b = refl
moments_append (Heard g n ∷ a) b = moments_append a b
moments_append (Understood text r ∷ a) b = moments_append a b
moments_append (Said m ∷ a) b = moments_append a b
moments_append (Unsaid n ∷ a) b = moments_append a b
moments_append (Called e r ∷ a) b = ap (λ t. moment_of e ++ t) (moments_append a b) ∙ sym (append_assoc (moment_of e) (moments_of a) (moments_of b))
moments_append (Granted now e r ∷ a) b = ap (λ t. now ∷ t) (moments_append a b)
moments_append (Entered pad r ∷ a) b = moments_append a b

moments_none : (a b : List Did) → moments_of a ≡ [] → moments_of (a ++ b) ≡ moments_of b
moments_none a b h = moments_append a b ∙ ap (λ t. t ++ moments_of b) h

pub adds_on : (x y z : Option (List Passed)) (a b : List Passed) → Adds x y a → Adds y z b → Adds x z (a ++ b)
adds_on None None None a b h k = tt
adds_on None None (Some z) a b h k = k
adds_on None (Some y) z a b h k = absurd h
adds_on (Some x) None z a b h k = absurd h
adds_on (Some x) (Some y) None a b h k = k
adds_on (Some x) (Some y) (Some z) a b h k = k ∙ ap (λ t. t ++ b) h ∙ append_assoc x a b

-- what was called alone
pub adds_nothing : (x : Option (List Passed)) → Adds x x []
adds_nothing None = tt
adds_nothing (Some x) = sym (append-nil x)

-- what is done after what was done: of the duties that are left the first ones
pub performs_on : {X Y : Type 0} (old mid new : Place) (due next behind : List Duty) (a b : List Did) (x : X) (r : Result Y End) (left : X → List Duty) (rest : Y → List Duty)
    → left x ≡ next ++ behind → Performs old due a (Ok x) mid left → Performs mid next b r new rest → Performs old due (a ++ b) r new (λ y. rest y ++ behind)
performs_on old mid new due next behind a b x (Ok y) left rest is p q = λ others.
    runs_on old (due ++ others) a mid (left x ++ others) b (Then new ((rest y ++ behind) ++ others)) (p others)
    (subst (λ d. Runs mid d b (Then new ((rest y ++ behind) ++ others))) (sym (append_assoc next behind others) ∙ ap (λ d. d ++ others) (sym is))
    (subst (λ d. Runs mid (next ++ (behind ++ others)) b (Then new d)) (sym (append_assoc (rest y) behind others)) (q (behind ++ others))))
performs_on old mid new due next behind a b x (Err e) left rest is p q = λ others.
    let w = q (behind ++ others) in (
      w.0,
      runs_on old (due ++ others) a mid (left x ++ others) b w.0 (p others)
          (subst (λ d. Runs mid d b w.0) (sym (append_assoc next behind others) ∙ ap (λ d. d ++ others) (sym is)) w.1),
      w.2,
    )

-- ---- one duty

pub one_then : {X : Type 0} (at to : Place) (d : Duty) (did : Did) (more : List Duty) (x : X) (left : X → List Duty) → Does at d did (Then to more) → left x ≡ more → Performs at (d ∷ []) (did ∷ []) (Ok x) to left
one_then at to d did more x left does is = λ others. inl (to, more, does, ap (λ l. Then to (l ++ others)) is)

pub one_ends : {X : Type 0} (at : Place) (d : Duty) (did : Did) (e : End) (r : Result X End) (left : X → List Duty) → r ≡ Err e → Does at d did (Ends at e) → Performs at (d ∷ []) (did ∷ []) r at left
one_ends at d did e r left is does = subst (λ r. Performs at (d ∷ []) (did ∷ []) r at left) (sym is) (λ others. (Ends at e, inr (at, e, does, refl, refl), inl refl))

-- memory ran out behind it
pub one_short : {X : Type 0} (at : Place) (d : Duty) (did : Did) (out : Outcome) (new : Place) (left : X → List Duty) → MayLack out new → Does at d did out → Performs at (d ∷ []) (did ∷ []) (Err ends.NoMemory) new left
one_short at d did (Then to more) new left lacks does = λ others. (Then to (more ++ others), inl (to, more, does, refl), inr (lacks, refl))
one_short at d did (Ends to e) new left lacks does = λ others. (Ends to e, inr (to, e, does, refl, refl), inr (lacks, refl))

-- memory ran out before it
pub none_short : {X : Type 0} (at : Place) (due : List Duty) (left : X → List Duty) → Performs at due [] (Err ends.NoMemory) at left
none_short at due left = λ others. (Then at (due ++ others), refl, inr (refl, refl))

-- nothing is done yet
pub none_yet : {X : Type 0} (at : Place) (due : List Duty) (x : X) (left : X → List Duty) → left x ≡ due → Performs at due [] (Ok x) at left
none_yet at due x left is = λ others. ap (λ l. Then at (l ++ others)) is

-- what was sent so far, and what is due still
abbrev pub Sending : Option (List Passed) → Option (List Passed) → Place → Place → List Duty → List Duty → Type 0
Sending x y old new due left = OnLink {X = Unit {0}} x y old new due (Ok tt) (λ _. left)

pub sends : (x y : Option (List Passed)) (at to new : Place) (d : Duty) (m : ServerMsg) (r : Result (Unit {0}) End) → ((did : Did) (out : Outcome) → Sends at m did out (Then to []) → Does at d did out)
    → SendsAs m x y r → OnOk r (new ≡ to) → OnErr r (new ≡ at) → OnLink x y at new (d ∷ []) r (λ _. [])
sends x y at to new d m (Ok u) does s ok err = record { log = Said m ∷ []; traffic = s; calls = refl; moments = refl; inside = tt; performs = one_then at new d (Said m) [] u (λ _. []) (does _ _ (inl (refl, ap (λ p. Then p []) ok))) refl }
sends x y at to new d m (Err (ends.LinkFault n)) does s ok err = record { log = Unsaid n ∷ []; traffic = s; calls = refl; moments = refl; inside = tt; performs = subst (λ p. Performs {X = Unit {0}} at (d ∷ []) (Unsaid n ∷ []) (Err (ends.LinkFault n)) p (λ _. [])) (sym err) (one_ends {X = Unit {0}} at d (Unsaid n) (ends.LinkFault n) (Err (ends.LinkFault n)) (λ _. []) refl (does _ _ (inr (n, refl, refl)))) }
sends x y at to new d m (Err ends.NoMemory) does s ok err = record { log = []; traffic = s; calls = refl; moments = refl; inside = tt; performs = subst (λ p. Performs {X = Unit {0}} at (d ∷ []) [] (Err ends.NoMemory) p (λ _. [])) (sym err) (none_short {X = Unit {0}} at (d ∷ []) (λ _. [])) }
sends x y at to new d m (Err ends.Closed) does s ok err = absurd s
sends x y at to new d m (Err (ends.Bad k)) does s ok err = absurd s
sends x y at to new d m (Err (ends.Replaced k)) does s ok err = absurd s
sends x y at to new d m (Err (ends.Deleted k)) does s ok err = absurd s
sends x y at to new d m (Err (ends.Reopened k)) does s ok err = absurd s
sends x y at to new d m (Err (ends.Denied k)) does s ok err = absurd s
sends x y at to new d m (Err (ends.Full k)) does s ok err = absurd s
sends x y at to new d m (Err ends.Gone) does s ok err = absurd s
sends x y at to new d m (Err (ends.BadRev k)) does s ok err = absurd s
sends x y at to new d m (Err (ends.JournalFull k)) does s ok err = absurd s
sends x y at to new d m (Err (ends.Broken k)) does s ok err = absurd s
sends x y at to new d m (Err (ends.StoreFault k)) does s ok err = absurd s
sends x y at to new d m (Err (ends.Pads k)) does s ok err = absurd s
sends x y at to new d m (Err ends.IdsSpent) does s ok err = absurd s
sends x y at to new d m (Err (ends.Directory k)) does s ok err = absurd s
sends x y at to new d m (Err (ends.Kept k)) does s ok err = absurd s
sends x y at to new d m (Err (ends.ShelfFault k)) does s ok err = absurd s
sends x y at to new d m (Err (ends.KeeperFault k)) does s ok err = absurd s

pub link_on : {X Y : Type 0} (a b c : Option (List Passed)) (old mid new : Place) (due next behind : List Duty) (x : X) (r : Result Y End) (left : X → List Duty) (rest : Y → List Duty)
    → left x ≡ next ++ behind → OnLink a b old mid due (Ok x) left → OnLink b c mid new next r rest → OnLink a c old new due r (λ y. rest y ++ behind)
link_on a b c old mid new due next behind x r left rest is p q = record {
  log = p.log ++ q.log;
  traffic = subst (Adds a c) (sym (traffic_on p.log q.log)) (adds_on a b c (traffic_of p.log) (traffic_of q.log) p.traffic q.traffic);
  calls = calls_on p.log q.log ∙ ap (λ t. t ++ calls_of q.log) p.calls ∙ q.calls;
  moments = moments_none p.log q.log p.moments ∙ q.moments;
  inside = inside_on p.log q.log p.inside q.inside;
  performs = performs_on old mid new due next behind p.log q.log x r left rest is p.performs q.performs;
}

-- a count that rose since a later one rose since an earlier one
pub caused_before : {X : Type 0} (r : Result X End) (a b c : ℕ) → a ≤ b → IsCaused r b c → IsCaused r a c
caused_before (Err (ends.LinkFault n)) a b c h (rose, is) = (omega (arith, rose), is)
caused_before (Err ends.NoMemory) a b c h k = tt
caused_before (Err ends.Closed) a b c h k = tt
caused_before (Err (ends.Bad x)) a b c h k = tt
caused_before (Err (ends.Replaced x)) a b c h k = tt
caused_before (Err (ends.Deleted x)) a b c h k = tt
caused_before (Err (ends.Reopened x)) a b c h k = tt
caused_before (Err (ends.Denied x)) a b c h k = tt
caused_before (Err (ends.Full x)) a b c h k = tt
caused_before (Err ends.Gone) a b c h k = tt
caused_before (Err (ends.BadRev x)) a b c h k = tt
caused_before (Err (ends.JournalFull x)) a b c h k = tt
caused_before (Err (ends.Broken x)) a b c h k = tt
caused_before (Err (ends.StoreFault x)) a b c h k = tt
caused_before (Err (ends.Pads x)) a b c h k = tt
caused_before (Err ends.IdsSpent) a b c h k = tt
caused_before (Err (ends.Directory x)) a b c h k = tt
caused_before (Err (ends.Kept x)) a b c h k = tt
caused_before (Err (ends.ShelfFault x)) a b c h k = tt
caused_before (Err (ends.KeeperFault x)) a b c h k = tt
caused_before (Ok x) a b c h k = tt

pub err_is : {X : Type 0} (r : Result X End) (e : End) → IsErrAnd r (λ x. x ≡ e) → r ≡ Err e
err_is (Ok x) e h = absurd h
err_is (Err x) e h = ap Err h

-- the next duty is one that sends, where others were done already
pub sends_on : (x y z : Option (List Passed)) (old mid to new : Place) (due : List Duty) (d : Duty) (behind : List Duty) (left : List Duty) (m : ServerMsg) (r : Result (Unit {0}) End) → ((did : Did) (out : Outcome) → Sends mid m did out (Then to []) → Does mid d did out) → left ≡ d ∷ behind
    → Sending x y old mid due left → SendsAs m y z r → OnOk r (new ≡ to) → OnErr r (new ≡ mid) → OnLink x z old new due r (λ _. [] ++ behind)
sends_on x y z old mid to new due d behind left m r does is p s ok err =
    link_on x y z old mid new due (d ∷ []) behind tt r (λ _. left) (λ _. []) is p (sends y z mid to new d m r does s ok err)

-- what is left doesn't count where it ended
performs_ended : {X Y : Type 0} (old new : Place) (due : List Duty) (log : List Did) (r : Result X End) (left : X → List Duty) (q : Result Y End) (rest : Y → List Duty) (e : End) → r ≡ Err e → q ≡ Err e → Performs old due log r new left → Performs old due log q new rest
performs_ended {X = X} {Y = Y} old new due log r left q rest e is too p =
    let w : Performs {X = X} old due log (Err e) new left = subst (λ r. Performs old due log r new left) is p in
    subst (λ q. Performs old due log q new rest) (sym too) w

pub link_ended : {X Y : Type 0} (x y : Option (List Passed)) (old new : Place) (due : List Duty) (r : Result X End) (left : X → List Duty) (q : Result Y End) (rest : Y → List Duty) (e : End) → r ≡ Err e → q ≡ Err e → OnLink x y old new due r left → OnLink x y old new due q rest
link_ended x y old new due r left q rest e is too p = record { log = p.log; traffic = p.traffic; calls = p.calls; moments = p.moments; inside = p.inside; performs = performs_ended old new due p.log r left q rest e is too p.performs }

pub done_ended : {X Y : Type 0} (shows : ℕ → Type 0) (x y : Option (List Passed)) (u v : PadView) (old new : Place) (due : List Duty) (r : Result X End) (left : X → List Duty) (q : Result Y End) (rest : Y → List Duty) (e : End) → r ≡ Err e → q ≡ Err e → Done shows x y u v old new due r left → Done shows x y u v old new due q rest
done_ended shows x y u v old new due r left q rest e is too p = record { log = p.log; traffic = p.traffic; calls = p.calls; moments = p.moments; inside = p.inside; performs = performs_ended old new due p.log r left q rest e is too p.performs }

-- ---- parts with calls

all_on : (P : ℕ → Type 0) (xs ys : List ℕ) → AllByRecursion P xs → AllByRecursion P ys → AllByRecursion P (xs ++ ys)
all_on P [] ys h k = k
all_on P (x ∷ xs) ys h k = (h.0, all_on P xs ys h.1 k)

pub moments_on : (shows : ℕ → Type 0) (a b : List Did) → AllByRecursion shows (moments_of a) → AllByRecursion shows (moments_of b) → AllByRecursion shows (moments_of (a ++ b))
moments_on shows a b h k = subst (AllByRecursion shows) (sym (moments_append a b)) (all_on shows (moments_of a) (moments_of b) h k)

pub done_on : {X Y : Type 0} (shows : ℕ → Type 0) (a b c : Option (List Passed)) (u v w : PadView) (old mid new : Place) (due next behind : List Duty) (x : X) (r : Result Y End) (left : X → List Duty) (rest : Y → List Duty)
    → left x ≡ next ++ behind → Done shows a b u v old mid due (Ok x) left → Done shows b c v w mid new next r rest → Done shows a c u w old new due r (λ y. rest y ++ behind)
done_on shows a b c u v w old mid new due next behind x r left rest is p q = record {
  log = p.log ++ q.log;
  traffic = subst (Adds a c) (sym (traffic_on p.log q.log)) (adds_on a b c (traffic_of p.log) (traffic_of q.log) p.traffic q.traffic);
  calls = subst (Goes u w) (sym (calls_on p.log q.log)) (goes_on u v w (calls_of p.log) (calls_of q.log) p.calls q.calls);
  moments = moments_on shows p.log q.log p.moments q.moments;
  inside = inside_on p.log q.log p.inside q.inside;
  performs = performs_on old mid new due next behind p.log q.log x r left rest is p.performs q.performs;
}

pub done_link : {X : Type 0} (shows : ℕ → Type 0) (a b : Option (List Passed)) (v : PadView) (old new : Place) (due : List Duty) (r : Result X End) (left : X → List Duty) → OnLink a b old new due r left → Done shows a b v v old new due r left
done_link shows a b v old new due r left p = record { log = p.log; traffic = p.traffic; calls = subst (Goes v v) (sym p.calls) (goes_nowhere v); moments = subst (AllByRecursion shows) (sym p.moments) tt; inside = p.inside; performs = p.performs }

-- a clock may show more
all_more : (shows more : ℕ → Type 0) (ns : List ℕ) → ((n : ℕ) → shows n → more n) → AllByRecursion shows ns → AllByRecursion more ns
all_more shows more [] f h = tt
all_more shows more (n ∷ ns) f h = (f n h.0, all_more shows more ns f h.1)

pub done_anyway : {X : Type 0} (shows : ℕ → Type 0) (a b : Option (List Passed)) (u v : PadView) (old new : Place) (due : List Duty) (r : Result X End) (left : X → List Duty) → Done no_moment a b u v old new due r left → Done shows a b u v old new due r left
done_anyway shows a b u v old new due r left p = record { log = p.log; traffic = p.traffic; calls = p.calls; moments = all_more no_moment shows (moments_of p.log) (λ n h. absurd h) p.moments; inside = p.inside; performs = p.performs }

-- one call of the pad
pub called : {X : Type 0} (shows : ℕ → Type 0) (a : Option (List Passed)) (u v : PadView) (old new : Place) (due : List Duty) (e : PadEntry) (r : PadReply) (x : Result X End) (left : X → List Duty)
    → Goes u v ((e, r) ∷ []) → AllByRecursion shows (moments_of (Called e r ∷ [])) → Performs old due (Called e r ∷ []) x new left → Done shows a a u v old new due x left
called shows a u v old new due e r x left goes moments performs = record { log = Called e r ∷ []; traffic = adds_nothing a; calls = goes; moments = moments; inside = tt; performs = performs }

-- memory ran out behind a call of the pad
pub called_short : {X : Type 0} (shows : ℕ → Type 0) (a : Option (List Passed)) (u v : PadView) (at to : Place) (d : Duty) (e : PadEntry) (r : PadReply) (more : List Duty) (x : Result X End) (left : X → List Duty)
    → x ≡ Err ends.NoMemory → Does at d (Called e r) (Then to more) → Goes u v ((e, r) ∷ []) → AllByRecursion shows (moments_of (Called e r ∷ [])) → Done shows a a u v at to (d ∷ []) x left
called_short {X = X} shows a u v at to d e r more x left is does goes shown =
    called {X = X} shows a u v at to (d ∷ []) e r x left goes shown
    (subst (λ (q : Result X End). Performs {X = X} at (d ∷ []) (Called e r ∷ []) q to left) (sym is) (one_short {X = X} at d (Called e r) (Then to more) to left refl does))

-- memory ran out before a call of the pad
uncalled : {X : Type 0} (shows : ℕ → Type 0) (a : Option (List Passed)) (u v : PadView) (at : Place) (d : Duty) (x : Result X End) (left : X → List Duty) → x ≡ Err ends.NoMemory → Goes u v [] → Done shows a a u v at at (d ∷ []) x left
uncalled {X = X} shows a u v at d x left is goes = record {
  log = [];
  traffic = adds_nothing a;
  calls = goes;
  moments = tt;
  inside = tt;
  performs = subst (λ (q : Result X End). Performs {X = X} at (d ∷ []) [] q at left) (sym is) (none_short {X = X} at (d ∷ []) left);
}

end_short : {X : Type 0} (x : Result X End) (b : PadBad) → x ≡ Err (end_of b) → b ≡ bad.NoMemory → x ≡ Err ends.NoMemory
end_short x b same is = subst (λ (b : PadBad). x ≡ Err (end_of b)) is same

-- a call of the pad that was refused, or for which there was no memory
pub asked_failed : {A X : Type 0} (Legal : List (PadEntry × PadReply) → Type 0) (shows : ℕ → Type 0) (a : Option (List Passed)) (u v : PadView) (at : Place) (d : Duty) (e : PadEntry) (kind : Result A PadBad → PadReply) (res : Result A PadBad) (b : PadBad) (x : Result X End) (left : X → List Duty)
    → AsksOrLacks Legal u e kind res v → res ≡ Err b → x ≡ Err (end_of b) → AllByRecursion shows (moments_of (Called e (kind res) ∷ [])) → Does at d (Called e (kind res)) (Ends at (end_of b)) → Done shows a a u v at at (d ∷ []) x left
asked_failed {X = X} Legal shows a u v at d e kind res b x left asks is same shown does = go (refused Legal u v e kind res b asks is)
  where
    go : Goes u v ((e, kind res) ∷ []) ⊎ ((b ≡ bad.NoMemory) × Goes u v []) → Done shows a a u v at at (d ∷ []) x left
    go (inl goes) = called {X = X} shows a u v at at (d ∷ []) e (kind res) x left goes shown (one_ends {X = X} at d (Called e (kind res)) (end_of b) x left same does)
    go (inr (short, goes)) = uncalled {X = X} shows a u v at d x left (end_short {X = X} x b same short) goes

-- what was done so far, and what is due still
abbrev pub SoFar : (ℕ → Type 0) → Option (List Passed) → Option (List Passed) → PadView → PadView → Place → Place → List Duty → List Duty → Type 0
SoFar shows x y u v old new due left = Done {X = Unit {0}} shows x y u v old new due (Ok tt) (λ _. left)

pub nothing_yet : (shows : ℕ → Type 0) (x : Option (List Passed)) (v : PadView) (at : Place) (due : List Duty) → SoFar shows x x v v at at due due
nothing_yet shows x v at due = record { log = []; traffic = adds_nothing x; calls = goes_nowhere v; moments = tt; inside = tt; performs = none_yet {X = Unit {0}} at due tt (λ _. due) refl }

ok_same : {X E A : Type 0} (r : Result X E) (a : A) → OnOk r (a ≡ a)
ok_same (Ok x) a = refl
ok_same (Err e) a = tt

err_same : {X E A : Type 0} (r : Result X E) (a : A) → OnErr r (a ≡ a)
err_same (Ok x) a = tt
err_same (Err e) a = refl

pub says : (x y : Option (List Passed)) (at : Place) (m : ServerMsg) (r : Result (Unit {0}) End) → SendsAs m x y r → OnLink x y at at (Say m ∷ []) r (λ _. [])
says x y at m r s = sends x y at at at (Say m) m r (λ did out w. w) s (ok_same r at) (err_same r at)

-- the steps of a timeslider
pub shows_part : (x y : Option (List Passed)) (at : Place) (start granularity request : ℕ) (doc : Doc) (cs forward backward : List Change) (m : ServerMsg) (r : Result (Unit {0}) End)
    → m ≡ slid start granularity request (length cs) forward backward → AreSlides granularity doc cs forward backward → SendsAs m x y r → OnLink x y at at (Show start granularity request doc cs ∷ []) r (λ _. [])
shows_part x y at start granularity request doc cs forward backward m r is slides sent =
    sends x y at at at (Show start granularity request doc cs) (slid start granularity request (length cs) forward backward) r (λ did out w. (forward, backward, slides, w))
    (subst (λ m. SendsAs m x y r) is sent) (ok_same r at) (err_same r at)

pub done_as : {X Y : Type 0} (shows : ℕ → Type 0) (a b : Option (List Passed)) (u v : PadView) (old new : Place) (due : List Duty) (x : X) (y : Y) (left : X → List Duty) (rest : Y → List Duty) → left x ≡ rest y → Done shows a b u v old new due (Ok x) left → Done shows a b u v old new due (Ok y) rest
done_as shows a b u v old new due x y left rest is p = record { log = p.log; traffic = p.traffic; calls = p.calls; moments = p.moments; inside = p.inside; performs = λ others. subst (λ l. Runs old (due ++ others) p.log (Then new (l ++ others))) is (p.performs others) }

-- what is due behind what a fetch told
abbrev pub after : Place → Fetched → List Duty
after at f = if is_full at f then [] else (Fetch ∷ [])

-- a fetch, and the telling of what came
pub fetch_part : (x y : Option (List Passed)) (u v : PadView) (at new : Place) (f : Fetched) (res : Result Fetched PadBad) (r : Result (Unit {0}) End)
    → res ≡ Ok f → Goes u v ((entry.Fetch at.me at.rev at.nops, reply.Fetched res) ∷ []) → OnLink x y at new (news_due at.rev f.revs.items f.nops.items) r (λ _. []) → Done no_moment x y u v at new (Fetch ∷ []) r (λ _. [] ++ after at f)
fetch_part x y u v at new f res r is goes p =
    let due = news_due at.rev f.revs.items f.nops.items in
    done_on {X = Unit {0}} no_moment x x y u v v at at new (Fetch ∷ []) due (after at f) tt r (λ _. due ++ after at f) (λ _. []) refl
    (called {X = Unit {0}} no_moment x u v at at (Fetch ∷ []) (entry.Fetch at.me at.rev at.nops) (reply.Fetched res) (Ok tt) (λ _. due ++ after at f) goes tt
    (one_then {X = Unit {0}} at at Fetch (Called (entry.Fetch at.me at.rev at.nops) (reply.Fetched res)) (due ++ after at f) tt (λ _. due ++ after at f) (res, refl, sym (ap (fetched at) is)) refl))
    (done_link no_moment x y v at new due r (λ _. []) p)

-- a piece of history whose changes fit, and its steps
pub look_part : (x y : Option (List Passed)) (u v : PadView) (at : Place) (start granularity request : ℕ) (p : Piece) (res : Result Piece PadBad) (r : Result (Unit {0}) End)
    → res ≡ Ok p → unfit p.doc (changes_of p.revs.items) ≡ None → Goes u v ((entry.History at.me start (100 * granularity), reply.Piece res) ∷ []) → OnLink x y at at (Show start granularity request p.doc (changes_of p.revs.items) ∷ []) r (λ _. [])
    → Done no_moment x y u v at at (Look start granularity request ∷ []) r (λ _. [])
look_part x y u v at start granularity request p res r is fit goes part =
    let d = Show start granularity request p.doc (changes_of p.revs.items) in
    done_on {X = Unit {0}} no_moment x x y u v v at at at (Look start granularity request ∷ []) (d ∷ []) [] tt r (λ _. d ∷ []) (λ _. []) refl
    (called {X = Unit {0}} no_moment x u v at at (Look start granularity request ∷ []) (entry.History at.me start (100 * granularity)) (reply.Piece res) (Ok tt) (λ _. d ∷ []) goes tt
    (one_then {X = Unit {0}} at at (Look start granularity request) (Called (entry.History at.me start (100 * granularity)) (reply.Piece res)) (d ∷ []) tt (λ _. d ∷ [])
    (res, refl, sym (ap (looked at start granularity request) is ∙ ap (shown at d) fit)) refl))
    (done_link no_moment x y v at at (d ∷ []) r (λ _. []) part)

shown_lacks : (at : Place) (d : Duty) (o : Option FitBad) → MayLack (shown at d o) at
shown_lacks at d None = refl
shown_lacks at d (Some why) = refl

-- a piece of history whose changes don't fit, or for which there was no memory
pub look_failed : (x : Option (List Passed)) (u v : PadView) (at : Place) (start granularity request : ℕ) (p : Piece) (res : Result Piece PadBad) (e : End) (r : Result (Unit {0}) End)
    → res ≡ Ok p → StepsOf p.doc (changes_of p.revs.items) (Err e) → r ≡ Err e → Goes u v ((entry.History at.me start (100 * granularity), reply.Piece res) ∷ []) → Done no_moment x x u v at at (Look start granularity request ∷ []) r (λ _. [])
look_failed x u v at start granularity request p res e r is (inl short) same goes =
    let cs = changes_of p.revs.items in
    let call = Called (entry.History at.me start (100 * granularity)) (reply.Piece res) in
    called {X = Unit {0}} no_moment x u v at at (Look start granularity request ∷ []) (entry.History at.me start (100 * granularity)) (reply.Piece res) r (λ _. []) goes tt
    (subst (λ (q : Result (Unit {0}) End). Performs at (Look start granularity request ∷ []) (call ∷ []) q at (λ _. [])) (sym (subst (λ (e : End). r ≡ Err e) short same))
    (one_short {X = Unit {0}} at (Look start granularity request) call (looked at start granularity request (Ok p)) at (λ _. []) (shown_lacks at (Show start granularity request p.doc cs) (unfit p.doc cs)) (res, refl, sym (ap (looked at start granularity request) is))))
look_failed x u v at start granularity request p res e r is (inr (why, unfits, broken)) same goes =
    let cs = changes_of p.revs.items in
    let d = Show start granularity request p.doc cs in
    called {X = Unit {0}} no_moment x u v at at (Look start granularity request ∷ []) (entry.History at.me start (100 * granularity)) (reply.Piece res) r (λ _. []) goes tt
    (one_ends {X = Unit {0}} at (Look start granularity request) (Called (entry.History at.me start (100 * granularity)) (reply.Piece res)) e r (λ _. []) same
    (res, refl, ap (Ends at) broken ∙ sym (ap (looked at start granularity request) is ∙ ap (shown at d) unfits)))

-- a piece of history, and its steps
pub look_done : (x y : Option (List Passed)) (u v : PadView) (at : Place) (start granularity request : ℕ) (p : Piece) (res : Result Piece PadBad) (s : Steps) (r : Result (Unit {0}) End)
    → res ≡ Ok p → StepsOf p.doc (changes_of p.revs.items) (Ok s) → Goes u v ((entry.History at.me start (100 * granularity), reply.Piece res) ∷ []) → OnLink x y at at (Show start granularity request s.doc s.changes.items ∷ []) r (λ _. []) → Done no_moment x y u v at at (Look start granularity request ∷ []) r (λ _. [])
look_done x y u v at start granularity request p res s r is (doc, changes, fit, made) goes part =
    look_part x y u v at start granularity request p res r is fit goes
    (subst (λ d. OnLink x y at at (Show start granularity request d (changes_of p.revs.items) ∷ []) r (λ _. [])) doc
    (subst (λ cs. OnLink x y at at (Show start granularity request s.doc cs ∷ []) r (λ _. [])) changes part))

-- a fetch that wasn't full goes before the others
pub fetch_on : (x y z : Option (List Passed)) (u v w : PadView) (old mid new : Place) (r : Result Bool End) → SoFar no_moment x y u v old mid (Fetch ∷ []) (Fetch ∷ []) → Done no_moment y z v w mid new (Fetch ∷ []) r (λ full. if full then [] else (Fetch ∷ []))
    → Done no_moment x z u w old new (Fetch ∷ []) r (λ full. (if full then [] else (Fetch ∷ [])) ++ [])
fetch_on x y z u v w old mid new r p q = done_on no_moment x y z u v w old mid new (Fetch ∷ []) (Fetch ∷ []) [] tt r (λ _. Fetch ∷ []) (λ full. if full then [] else (Fetch ∷ [])) refl p q

-- ---- a turn

abbrev pub left_by : Asked → List Duty
left_by x = due_of x ++ Fetch ∷ Hear ∷ []

performs_plain : {X : Type 0} (old new : Place) (due : List Duty) (log : List Did) (r : Result X End) (left : X → List Duty) → Performs old due log r new (λ y. left y ++ []) → Performs old due log r new left
performs_plain old new due log (Ok x) left p = λ others. subst (λ l. Runs old (due ++ others) log (Then new (l ++ others))) (append-nil (left x)) (p others)
performs_plain old new due log (Err e) left p = p

pub link_plain : {X : Type 0} (a b : Option (List Passed)) (old new : Place) (due : List Duty) (r : Result X End) (left : X → List Duty) → OnLink a b old new due r (λ y. left y ++ []) → OnLink a b old new due r left
link_plain a b old new due r left p = record { log = p.log; traffic = p.traffic; calls = p.calls; moments = p.moments; inside = p.inside; performs = performs_plain old new due p.log r left p.performs }

-- a receive that brought no message
hears_none : (at : Place) (g : LinkGot) (n : ℕ) (r : Result Asked End) → ((at : Place) → heard at g n ≡ outcome_of r at) → Performs at (Hear ∷ []) (Heard g n ∷ []) r at left_by
hears_none at g n (Ok x) f = one_then at at Hear (Heard g n) (left_by x) x left_by (g, n, refl, sym (f at)) refl
hears_none at g n (Err e) f = one_ends {X = Asked} at Hear (Heard g n) e (Err e) left_by refl (g, n, refl, sym (f at))

-- a message, read
reads_next : (at : Place) (text : List ℕ) (m : Result ClientMsg WireBad) (r : Result Asked End) → ReadsClient text most_bytes m → ((at : Place) → asked at m ≡ outcome_of r at) → Performs at (Understand text ∷ []) (Understood text m ∷ []) r at left_by
reads_next at text m (Ok x) reads f = one_then at at (Understand text) (Understood text m) (left_by x) x left_by (m, reads, refl, sym (f at)) refl
reads_next at text m (Err e) reads f = one_ends {X = Asked} at (Understand text) (Understood text m) e (Err e) left_by refl (m, reads, refl, sym (f at))

abbrev HeardPart : Option (List Passed) → Option (List Passed) → Place → Result Asked End → Type 0
HeardPart a b at r = OnLink a b at at (Hear ∷ []) r left_by

hears_first : (a b : Option (List Passed)) (at : Place) (text : List ℕ) (n : ℕ) → Adds a b (came (got.Message text)) → Sending a b at at (Hear ∷ []) (Understand text ∷ [])
hears_first a b at text n t = record { log = Heard (got.Message text) n ∷ []; traffic = t; calls = refl; moments = refl; inside = tt; performs = one_then {X = Unit {0}} at at Hear (Heard (got.Message text) n) (Understand text ∷ []) tt (λ _. Understand text ∷ []) (got.Message text, n, refl, refl) refl }

hears_text : (a b : Option (List Passed)) (at : Place) (text : List ℕ) (n : ℕ) (r : Result Asked End) → Adds a b (came (got.Message text)) → AskedBy text r → HeardPart a b at r
hears_text a b at text n r t (inl is) = subst (HeardPart a b at) (sym is)
    (record { log = Heard (got.Message text) n ∷ []; traffic = t; calls = refl; moments = refl; inside = tt; performs = one_short {X = Asked} at Hear (Heard (got.Message text) n) (Then at (Understand text ∷ [])) at left_by refl (got.Message text, n, refl, refl) })
hears_text a b at text n r t (inr (m, reads, f)) =
    link_plain a b at at (Hear ∷ []) r left_by (link_on a b b at at at (Hear ∷ []) (Understand text ∷ []) [] tt r (λ _. Understand text ∷ []) left_by refl (hears_first a b at text n t)
    (record { log = Understood text m ∷ []; traffic = adds_nothing b; calls = refl; moments = refl; inside = tt; performs = reads_next at text m r reads f }))

hears_other : (a b : Option (List Passed)) (at : Place) (g : LinkGot) (n : ℕ) (r : Result Asked End) → Adds a b (came g) → ((at : Place) → heard at g n ≡ outcome_of r at) → HeardPart a b at r
hears_other a b at g n r t f = record { log = Heard g n ∷ []; traffic = subst (Adds a b) (sym (append-nil (came g))) t; calls = refl; moments = refl; inside = tt; performs = hears_none at g n r f }

pub heard_part : (a b : Option (List Passed)) (at : Place) (r : Result Asked End) → Hears a b r → OnLink a b at at (Hear ∷ []) r left_by
heard_part a b at r (got.Message text, n, t, h) = hears_text a b at text n r t h
heard_part a b at r (got.Binary, n, t, h) = hears_other a b at got.Binary n r t h
heard_part a b at r (got.Nothing, n, t, h) = hears_other a b at got.Nothing n r t h
heard_part a b at r (got.Closed, n, t, h) = hears_other a b at got.Closed n r t h
heard_part a b at r (got.Failed, n, t, h) = hears_other a b at got.Failed n r t h
heard_part a b at r (got.NoMemory, n, t, h) = hears_other a b at got.NoMemory n r t h

pub act_on : (shows : ℕ → Type 0) (a b c : Option (List Passed)) (v w : PadView) (at new : Place) (x : Asked) (r : Result (Unit {0}) End) → Hears a b (Ok x) → Done shows b c v w at new (due_of x) r (λ _. []) → Done shows a c v w at new (Hear ∷ []) r (λ _. [] ++ Fetch ∷ Hear ∷ [])
act_on shows a b c v w at new x r h p = done_on shows a b c v v w at at new (Hear ∷ []) (due_of x) (Fetch ∷ Hear ∷ []) x r left_by (λ _. []) refl (done_link shows a b v at at (Hear ∷ []) (Ok x) left_by (heard_part a b at (Ok x) h)) p

pub turn_on : (shows : ℕ → Type 0) (a b c d : Option (List Passed)) (u v w : PadView) (at mid new : Place) (x : Asked) (u1 : Unit {0}) (r : Result (Unit {0}) End) → Hears a b (Ok x) → Done shows b c u v at mid (due_of x) (Ok u1) (λ _. []) → Done no_moment c d v w mid new (Fetch ∷ []) r (λ _. [])
    → Done shows a d u w at new (Hear ∷ []) r (λ _. Hear ∷ [])
turn_on shows a b c d u v w at mid new x u1 r h p q = done_on shows a c d u v w at mid new (Hear ∷ []) (Fetch ∷ []) (Hear ∷ []) u1 r (λ _. [] ++ Fetch ∷ Hear ∷ []) (λ _. []) refl (act_on shows a b c u v at mid x (Ok u1) h p) (done_anyway shows c d v w mid new (Fetch ∷ []) r (λ _. []) q)

-- turns
pub turns_on : (shows : ℕ → Type 0) (a b c : Option (List Passed)) (u v w : PadView) (old mid new : Place) (r : Result (Unit {0}) End) → SoFar shows a b u v old mid (Hear ∷ []) (Hear ∷ []) → Done shows b c v w mid new (Hear ∷ []) r (λ _. Hear ∷ []) → Done shows a c u w old new (Hear ∷ []) r (λ _. Hear ∷ [])
turns_on shows a b c u v w old mid new r p q = done_on shows a b c u v w old mid new (Hear ∷ []) (Hear ∷ []) [] tt r (λ _. Hear ∷ []) (λ _. Hear ∷ []) refl p q

-- ---- the beginning

-- a call, and a message that its answer makes due
pub called_say : (shows : ℕ → Type 0) (x y : Option (List Passed)) (u v : PadView) (at to : Place) (d : Duty) (e : PadEntry) (r : PadReply) (m : ServerMsg) (res : Result (Unit {0}) End) (behind : List Duty)
    → Does at d (Called e r) (Then to (Say m ∷ behind)) → Goes u v ((e, r) ∷ []) → AllByRecursion shows (moments_of (Called e r ∷ [])) → SendsAs m x y res → Done shows x y u v at to (d ∷ []) res (λ _. behind)
called_say shows x y u v at to d e r m res behind does goes moments sent =
    done_on {X = Unit {0}} shows x x y u v v at to to (d ∷ []) (Say m ∷ []) behind tt res (λ _. Say m ∷ behind) (λ _. []) refl
    (called {X = Unit {0}} shows x u v at to (d ∷ []) e r (Ok tt) (λ _. Say m ∷ behind) goes moments (one_then {X = Unit {0}} at to d (Called e r) (Say m ∷ behind) tt (λ _. Say m ∷ behind) does refl))
    (done_link shows x y v to to (Say m ∷ []) res (λ _. []) (says x y to m res sent))

none_missed_is : (rev : ℕ) (c : CatchUp) (b : Bool) → (rev == c.head) ≡ b → none_missed rev c ≡ (if b then msg.ReconnectNone c.session c.birth c.head c.head ∷ [] else [])
none_missed_is rev c b is = ap (λ b. if b then msg.ReconnectNone c.session c.birth c.head c.head ∷ [] else []) is

pub rejoined_none : (at : Place) (rev : ℕ) (c : CatchUp) (res : Result CatchUp PadBad) → res ≡ Ok c → (rev == c.head) ≡ true
    → Then (rejoin_place rev c) (Say (msg.ReconnectNone c.session c.birth c.head c.head) ∷ Fetch ∷ Hear ∷ []) ≡ rejoined at rev res
rejoined_none at rev c res is same = sym (ap (rejoined at rev) is ∙ ap (λ l. Then (rejoin_place rev c) (map Say l ++ Fetch ∷ Hear ∷ [])) (none_missed_is rev c true same))

pub rejoined_some : (at : Place) (rev : ℕ) (c : CatchUp) (res : Result CatchUp PadBad) → res ≡ Ok c → (rev == c.head) ≡ false
    → Then (rejoin_place rev c) (Fetch ∷ Hear ∷ []) ≡ rejoined at rev res
rejoined_some at rev c res is same = sym (ap (rejoined at rev) is ∙ ap (λ l. Then (rejoin_place rev c) (map Say l ++ Fetch ∷ Hear ∷ [])) (none_missed_is rev c false same))

abbrev GreetPart : Option (List Passed) → Option (List Passed) → Drawn → Place → Result (Option Ready) End → Type 0
GreetPart a b drawn at r = OnLink a b at at (Greet drawn ∷ []) r (greeting_due drawn)

greets_first : (a b : Option (List Passed)) (drawn : Drawn) (at : Place) (text : List ℕ) (n : ℕ) → Adds a b (came (got.Message text)) → Sending a b at at (Greet drawn ∷ []) (Begin drawn text ∷ [])
greets_first a b drawn at text n t = record { log = Heard (got.Message text) n ∷ []; traffic = t; calls = refl; moments = refl; inside = tt; performs = one_then {X = Unit {0}} at at (Greet drawn) (Heard (got.Message text) n) (Begin drawn text ∷ []) tt (λ _. Begin drawn text ∷ []) (got.Message text, n, refl, refl) refl }

greets_short : (a b : Option (List Passed)) (drawn : Drawn) (at : Place) (text : List ℕ) (n : ℕ) → Adds a b (came (got.Message text)) → GreetPart a b drawn at (Err ends.NoMemory)
greets_short a b drawn at text n t = record { log = Heard (got.Message text) n ∷ []; traffic = t; calls = refl; moments = refl; inside = tt; performs = one_short {X = Option Ready} at (Greet drawn) (Heard (got.Message text) n) (Then at (Begin drawn text ∷ [])) at (greeting_due drawn) refl (got.Message text, n, refl, refl) }

-- a first message, read
begins_next : (drawn : Drawn) (at : Place) (text : List ℕ) (m : Result ClientMsg WireBad) (o : Result (Option Ready) End) (r : Result Ready End) → as_first o r → ReadsClient text most_bytes m → ((at : Place) (drawn : Drawn) → begun at drawn m ≡ first_of r at drawn) → Performs at (Begin drawn text ∷ []) (Understood text m ∷ []) o at (greeting_due drawn)
begins_next drawn at text m (Ok (Some ready)) r is reads f = one_then at at (Begin drawn text) (Understood text m) (Ask drawn ready ∷ []) (Some ready) (greeting_due drawn) (m, reads, refl, sym (f at drawn ∙ ap (λ r. first_of r at drawn) is)) refl
begins_next drawn at text m (Ok None) r is reads f = absurd is
begins_next drawn at text m (Err e) r is reads f = one_ends {X = Option Ready} at (Begin drawn text) (Understood text m) e (Err e) (greeting_due drawn) refl (m, reads, refl, sym (f at drawn ∙ ap (λ r. first_of r at drawn) is))

ok_not_err : {X : Type 0} (x : X) (e : End) → Ok x ≡ Err e → ⊥
ok_not_err x e h = search rules

greets_text : (a b : Option (List Passed)) (drawn : Drawn) (at : Place) (text : List ℕ) (n : ℕ) (o : Result (Option Ready) End) (r : Result Ready End) → Adds a b (came (got.Message text)) → as_first o r → BegunAs text r → GreetPart a b drawn at o
greets_text a b drawn at text n (Ok (Some ready)) r t first (inl is) = absurd (ok_not_err ready ends.NoMemory (sym first ∙ is))
greets_text a b drawn at text n (Ok None) r t first (inl is) = absurd first
greets_text a b drawn at text n (Err e) r t first (inl is) = subst (λ (e : End). GreetPart a b drawn at (Err e)) (sym (same_err r e ends.NoMemory first is)) (greets_short a b drawn at text n t)
greets_text a b drawn at text n o r t first (inr (m, reads, f)) =
    link_plain a b at at (Greet drawn ∷ []) o (greeting_due drawn) (link_on a b b at at at (Greet drawn ∷ []) (Begin drawn text ∷ []) [] tt o (λ _. Begin drawn text ∷ []) (greeting_due drawn) refl (greets_first a b drawn at text n t)
    (record { log = Understood text m ∷ []; traffic = adds_nothing b; calls = refl; moments = refl; inside = tt; performs = begins_next drawn at text m o r first reads f }))

-- a receive that brought no message
greets_none : (drawn : Drawn) (at : Place) (g : LinkGot) (n : ℕ) (o : Result (Option Ready) End) → ((at : Place) (drawn : Drawn) → greeted at drawn g n ≡ greeting_of o at drawn) → Performs at (Greet drawn ∷ []) (Heard g n ∷ []) o at (greeting_due drawn)
greets_none drawn at g n (Ok x) f = one_then at at (Greet drawn) (Heard g n) (greeting_due drawn x) x (greeting_due drawn) (g, n, refl, sym (f at drawn)) refl
greets_none drawn at g n (Err e) f = one_ends {X = Option Ready} at (Greet drawn) (Heard g n) e (Err e) (greeting_due drawn) refl (g, n, refl, sym (f at drawn))

greets_other : (a b : Option (List Passed)) (drawn : Drawn) (at : Place) (g : LinkGot) (n : ℕ) (o : Result (Option Ready) End) → Adds a b (came g) → ((at : Place) (drawn : Drawn) → greeted at drawn g n ≡ greeting_of o at drawn) → GreetPart a b drawn at o
greets_other a b drawn at g n o t f = record { log = Heard g n ∷ []; traffic = subst (Adds a b) (sym (append-nil (came g))) t; calls = refl; moments = refl; inside = tt; performs = greets_none drawn at g n o f }

pub greets_part : (a b : Option (List Passed)) (at : Place) (drawn : Drawn) (r : Result (Option Ready) End) → Greets a b r → OnLink a b at at (Greet drawn ∷ []) r (greeting_due drawn)
greets_part a b at drawn r (got.Message text, n, t, (first, is, h)) = greets_text a b drawn at text n r first t is h
greets_part a b at drawn r (got.Binary, n, t, h) = greets_other a b drawn at got.Binary n r t h
greets_part a b at drawn r (got.Nothing, n, t, h) = greets_other a b drawn at got.Nothing n r t h
greets_part a b at drawn r (got.Closed, n, t, h) = greets_other a b drawn at got.Closed n r t h
greets_part a b at drawn r (got.Failed, n, t, h) = greets_other a b drawn at got.Failed n r t h
greets_part a b at drawn r (got.NoMemory, n, t, h) = greets_other a b drawn at got.NoMemory n r t h

-- nothing came so far
pub Waiting : Option (List Passed) → Option (List Passed) → Type 0
Waiting a b = (drawn : Drawn) → Sending a b nowhere nowhere (Greet drawn ∷ []) (Greet drawn ∷ [])

pub waits_on : (a b c : Option (List Passed)) (drawn : Drawn) (r : Result (Option Ready) End) → Sending a b nowhere nowhere (Greet drawn ∷ []) (Greet drawn ∷ []) → Greets b c r → OnLink a c nowhere nowhere (Greet drawn ∷ []) r (λ o. greeting_due drawn o ++ [])
waits_on a b c drawn r p h = link_on a b c nowhere nowhere nowhere (Greet drawn ∷ []) (Greet drawn ∷ []) [] tt r (λ _. Greet drawn ∷ []) (greeting_due drawn) refl p (greets_part b c nowhere drawn r h)

pub link_as : {X Y : Type 0} (a b : Option (List Passed)) (old new : Place) (due : List Duty) (x : X) (y : Y) (left : X → List Duty) (rest : Y → List Duty) → left x ≡ rest y → OnLink a b old new due (Ok x) left → OnLink a b old new due (Ok y) rest
link_as a b old new due x y left rest is p = record { log = p.log; traffic = p.traffic; calls = p.calls; moments = p.moments; inside = p.inside; performs = λ others. subst (λ l. Runs old (due ++ others) p.log (Then new (l ++ others))) is (p.performs others) }

pub waits_first : (a : Option (List Passed)) (drawn : Drawn) → Sending a a nowhere nowhere (Greet drawn ∷ []) (Greet drawn ∷ [])
waits_first a drawn = record { log = []; traffic = adds_nothing a; calls = refl; moments = refl; inside = tt; performs = none_yet {X = Unit {0}} nowhere (Greet drawn ∷ []) tt (λ _. Greet drawn ∷ []) refl }

pub same_true : (a b : ℕ) → a ≡ b → (a == b) ≡ true
same_true a b h = grind (arith, nat_tests)

pub other_false : (a b : ℕ) → a ≢ b → (a == b) ≡ false
other_false a b h = grind (arith, nat_tests)

abbrev pub Greeted : Option (List Passed) → Option (List Passed) → Result (Option Ready) End → Type 0
Greeted a b r = Greets a b r

pub greet_some : (a b c : Option (List Passed)) (drawn : Drawn) (o : Option Ready) (ready : Ready) → o ≡ Some ready → Sending a b nowhere nowhere (Greet drawn ∷ []) (Greet drawn ∷ []) → Greeted b c (Ok o) → OnLink {X = Ready} a c nowhere nowhere (Greet drawn ∷ []) (Ok ready) (λ r. Ask drawn r ∷ [])
greet_some a b c drawn o ready is p h = link_as a c nowhere nowhere (Greet drawn ∷ []) (Some ready) ready (λ o. greeting_due drawn o ++ []) (λ r. Ask drawn r ∷ []) refl
    (waits_on a b c drawn (Ok (Some ready)) p (subst (λ o. Greeted b c (Ok o)) is h))

pub greet_none : (a b c : Option (List Passed)) (drawn : Drawn) (o : Option Ready) → o ≡ None → Sending a b nowhere nowhere (Greet drawn ∷ []) (Greet drawn ∷ []) → Greeted b c (Ok o) → Sending a c nowhere nowhere (Greet drawn ∷ []) (Greet drawn ∷ [])
greet_none a b c drawn o is p h = link_as {X = Option Ready} {Y = Unit {0}} a c nowhere nowhere (Greet drawn ∷ []) None tt (λ o. greeting_due drawn o ++ []) (λ _. Greet drawn ∷ []) refl
    (waits_on a b c drawn (Ok None) p (subst (λ o. Greeted b c (Ok o)) is h))

pub greet_err : (a b c : Option (List Passed)) (drawn : Drawn) (e : End) → Sending a b nowhere nowhere (Greet drawn ∷ []) (Greet drawn ∷ []) → Greeted b c (Err e) → OnLink {X = Ready} a c nowhere nowhere (Greet drawn ∷ []) (Err e) (λ r. Ask drawn r ∷ [])
greet_err a b c drawn e p h = link_ended {X = Option Ready} {Y = Ready} a c nowhere nowhere (Greet drawn ∷ []) (Err e) (λ o. greeting_due drawn o ++ []) (Err e) (λ r. Ask drawn r ∷ []) e refl refl (waits_on a b c drawn (Err e) p h)
