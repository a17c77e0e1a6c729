-- What clients see, and the head.
use Rattle.std.proofs.Common.{◌≡◌, ℕ, ◌+◌, Bool, true, false, Option, Some, None, if◌then◌else◌, List, length, refl, sym, ap, ◌∙◌, add-one}
use mir.Val.{bool_byte}
use Rattle.std.specs.Option.{option_map}
use Rattle.std.proofs.Common.{◌≤◌, arith}
use Rattle.ep_cs.specs.Doc.{Doc}
use Rattle.ep_history.specs.History.{head, head_doc}
use Rattle.ep_history.specs.Kept.{KeptClient}
use Rattle.ep_history.specs.Pad.{PadState, newest}
use Rattle.ep_history.proofs.Lists.{none_some, some_same}
use Rattle.ep_schedule.specs.World.{Name, Actor, Member, WorldState}
use Rattle.ep_schedule.specs.World.Actor.{Nobody, Guest, Named}
use Rattle.ep_schedule.specs.Kepts.{KeepsActor}
use Rattle.ep_world.specs.Kepts.{Kepts}
use Rattle.ep_event.specs.declared.shown.Shown.{Shown}
use Rattle.ep_event.specs.declared.shown.Shown.TheVariants as shown
use Rattle.ep_event.specs.declared.shown.Verb.TheVariants as verb
use Rattle.ep_world.specs.Events.{of_client, view_of}
use Rattle.ep_world.specs.Reading.{client_kept}
use Rattle.ep_history.specs.declared.pad_bad.PadBad.{PadBad}
use Rattle.ep_history.specs.declared.record.Record.{Record}
use Rattle.ep_world.specs.Journal.{full_in, reads_as, reads_if}
use Rattle.ep_world.specs.Shows.{pad_refuses, shows_head}
use Rattle.ep_world.specs.Standing.{IsRun}
use Rattle.ep_world.proofs.Leading.{kept}
use Rattle.ep_make.specs.Draws.{name_of}
use Rattle.ep_make.specs.Lines.{five_lines, lines_of, seen_by, sees}

-- ---- clients

of_none : {A : Type 0} (a : Actor) (k : KeptClient) (d : A) (f : Member → A) → of_client None (λ m. Some k) a ≡ None → of_client d f a ≡ d
of_none Nobody k d f e = refl
of_none (Guest c) k d f e = refl
of_none (Named m) k d f e = none_some (sym e)

of_some : {A : Type 0} (w : WorldState) (a : Actor) (k c : KeptClient) (d : A) (f : Doc → A) → KeepsActor w.pad a k → of_client None (λ m. Some k) a ≡ Some c
    → of_client d (λ m. f (view_of w.pad m)) a ≡ f c.view
of_some w Nobody k c d f h e = none_some e
of_some w (Guest x) k c d f h e = none_some e
of_some w (Named m) k c d f h e = ap f (sym h.view) ∙ ap (λ (k : KeptClient). f k.view) (some_same e)

module _ (w : WorldState) (ks : Kepts) (n : Name) where
  -- a client's view is what it sees
  pub seen : {A : Type 0} (c : KeptClient) (d : A) (f : Doc → A) → IsRun w ks → client_kept w ks n ≡ Some c → of_client d (λ m. f (view_of w.pad m)) (w.actors n) ≡ f c.view
  seen c d f run e = of_some w (w.actors n) (ks n).client c d f (kept w ks run n) e

  pub unseen : {A : Type 0} (d : A) (f : Doc → A) → client_kept w ks n ≡ None → of_client d (λ m. f (view_of w.pad m)) (w.actors n) ≡ d
  unseen d f e = of_none (w.actors n) (ks n).client d (λ m. f (view_of w.pad m)) e

-- what is found is what is kept
pub map_some : {A B : Type 0} (f : A → B) (o : Option A) (x : A) (k : Option B) → option_map f o ≡ k → o ≡ Some x → k ≡ Some (f x)
map_some f o x k h e = sym h ∙ ap (option_map f) e

pub map_none : {A B : Type 0} (f : A → B) (o : Option A) (k : Option B) → option_map f o ≡ k → o ≡ None → k ≡ None
map_none f o k h e = sym h ∙ ap (option_map f) e

-- ---- the head

rev_of : Shown → ℕ
rev_of (shown.Head r d) = r
rev_of s = 0

doc_of : Shown → Doc → Doc
doc_of (shown.Head r d) e = d
doc_of s e = e

head_if : (b : Bool) (r h : ℕ) (d e : Doc) → shown.Head r d ≡ (if b then shown.Head h e else shown.Gone verb.Head) → (r ≡ h) × (d ≡ e)
unfolding rev_of doc_of
head_if true r h d e q = (ap rev_of q, ap (λ s. doc_of s d) q)
head_if false r h d e q = absurd (let k : shown.Head r d ≡ shown.Gone verb.Head = q in cc)

-- a pad that shows its head isn't shut
head_open : (r : ℕ) (d : Doc) (said : Shown) (o : Option PadBad) → shown.Head r d ≡ reads_if verb.Head said o → shown.Head r d ≡ said
head_open r d said None q = q
head_open r d said (Some b) q = absurd (let k : shown.Head r d ≡ pad_refuses verb.Head None b = q in cc)

pub head_shown : (rs : List Record) (pad : PadState) (r : ℕ) (d : Doc) → shown.Head r d ≡ reads_as rs pad verb.Head (shows_head pad) → (r ≡ head (newest pad)) × (d ≡ head_doc (newest pad))
head_shown rs pad r d q = head_if pad.present r (head (newest pad)) d (head_doc (newest pad)) (head_open r d (shows_head pad) (full_in rs pad None) q)

-- ---- how many agree

pub seen_more : (w : WorldState) (doc : Doc) (k : ℕ) (n : Name) (b : Bool) (count : ℕ) → n ≡ name_of (k + 1) → b ≡ sees w n doc → count ≡ seen_by w doc k
    → count + (if b then 1 else 0) ≡ seen_by w doc (k + 1)
seen_more w doc k n b count is sees_it c =
    ap (λ i. i + (if b then 1 else 0)) c
    ∙ ap (λ t. seen_by w doc k + (if t then 1 else 0)) (sees_it ∙ ap (λ m. sees w m doc) (is ∙ ap name_of (add-one k)))
    ∙ ap (λ j. seen_by w doc j) (sym (add-one k))

-- ---- the lines

pub five : (rs : List Record) (w : WorldState) (clients edits rev : ℕ) (doc : Doc) (count agree : ℕ) (text : List ℕ) → shown.Head rev doc ≡ reads_as rs w.pad verb.Head (shows_head w.pad) → count ≡ length doc → agree ≡ seen_by w doc clients
    → text ≡ lines_of clients edits (rev + 1) count agree → text ≡ five_lines clients edits w
five rs w clients edits rev doc count agree text is has agrees lines =
    let h = head_shown rs w.pad rev doc is in
    lines
    ∙ ap (λ r. lines_of clients edits (r + 1) count agree) h.0
    ∙ ap (λ k. lines_of clients edits (head (newest w.pad) + 1) k agree) (has ∙ ap length h.1)
    ∙ ap (λ k. lines_of clients edits (head (newest w.pad) + 1) (length (head_doc (newest w.pad))) k) (agrees ∙ ap (λ d. seen_by w d clients) h.1)

-- ---- a test as a number

pub as_number : (b : Bool) → bool_byte b ≡ (if b then 1 else 0)
as_number true = refl
as_number false = refl

pub at_most_one : (b : Bool) (n : ℕ) → n ≡ bool_byte b → n ≤ 1
at_most_one true n e = omega (arith, e)
at_most_one false n e = omega (arith, e)
