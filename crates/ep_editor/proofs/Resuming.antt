-- What is heard with the answer to the message that resumes may be heard first.
use Rattle.std.proofs.Common.{◌≡◌, inl, inr, Err, ℕ, ◌==◌, nat_lt, Bool, true, false, not, ◌&&◌, if◌then◌else◌, Option, Some, None, refl, sym, ap, ◌∙◌}
use Rattle.ep_units.specs.Text.{Text}
use Rattle.ep_units.specs.declared.session.Session.{Session}
use Rattle.ep_attr.proofs.SameMap.{second_true}
use Rattle.ep_cs.specs.Change.{Change}
use Rattle.ep_cs.specs.Edit.{Edit}
use Rattle.ep_cs.specs.Fits.{is_identity}
use Rattle.ep_history.specs.Kept.{KeptClient, is_kept_elsewhere, is_kept_own, kept_dropped, kept_nop, kept_other, kept_own, kept_resumed, kept_resumes}
use Rattle.ep_client.specs.Hearing.{shown_change, told_of, view_change}
use Rattle.ep_client.specs.Refusals.{hear_fault}
use Rattle.ep_client.specs.declared.bad.ClientBad.{ClientBad}
use Rattle.ep_client.specs.declared.heard.Heard.TheVariants.{Rev}
use Rattle.ep_client.specs.declared.heard.Told.{Told}
use Rattle.ep_client.specs.declared.heard.Told.TheVariants as told
use Rattle.ep_undo.specs.Undo.{UndoState, undo_hears, undo_other, undo_resumes}
use Rattle.ep_undo.specs.Undo as undo
use Rattle.ep_hearing.specs.Meaning.{heard_of}
use Rattle.ep_hearing.specs.declared.meaning.Back.{Back}
use Rattle.ep_hearing.specs.declared.meaning.News.{News}
use Rattle.ep_editor.specs.Comes.{Comes, said}
use Rattle.ep_editor.specs.Inside.{comes_back, kept_of, hears_if, hears_news, hears_unless, is_due, resumed_with, told_reply, with_client}
use Rattle.ep_editor.specs.Replies.{Reply, Nothing, Refuses}
use Rattle.ep_editor.specs.declared.bad.EditorBad.{EditorBad}
use Rattle.ep_editor.specs.declared.editor.Said.{Said}
use Rattle.ep_editor.specs.declared.editor.Said.TheVariants as says
use Rattle.ep_editor.specs.declared.entered.Entered.{Entered}
use Rattle.ep_timeslider.specs.declared.slider.Slid.TheVariants as slides

-- nothing is dropped while there is something to hear
pub resumes-early : (session : Session) (head : ℕ) (k : KeptClient) → nat_lt k.rev head ≡ true → kept_resumes session head k ≡ kept_resumed session head k
resumes-early session head k h =
    ap (λ t. if not t && (is_kept_elsewhere session k.sent_in && is_identity k.sent) then kept_nop (kept_resumed session head k) else kept_resumed session head k) h

-- who isn't connected drops nothing
off-stays : (k : KeptClient) → k.connected ≡ false → kept_dropped k ≡ k
off-stays k h = ap (λ t. if t && (not (nat_lt k.rev k.told) && (is_kept_elsewhere k.session k.sent_in && is_identity k.sent)) then kept_nop k else k) h

-- a client without a submission drops none
none-stays : (session : Session) (head : ℕ) (k : KeptClient) → k.sent_in ≡ None → kept_dropped (kept_resumed session head k) ≡ kept_resumed session head k
none-stays session head k h =
    ap (λ s. if not (nat_lt k.rev head) && (is_kept_elsewhere session s && is_identity k.sent) then kept_nop (kept_resumed session head k) else kept_resumed session head k) h
    ∙ go (nat_lt k.rev head)
  where
    go : (t : Bool) → (if not t && (false && is_identity k.sent) then kept_nop (kept_resumed session head k) else kept_resumed session head k) ≡ kept_resumed session head k
    go true = refl
    go false = refl

-- both ways lead to the same
either-way : (rev : ℕ) (change : Change) (session at : Session) (head : ℕ) (s : UndoState) → s.client.connected ≡ false
    → undo_resumes at head (undo_hears (Rev rev change session) s) ≡ undo_hears (Rev rev change session) (undo.with_client s (kept_resumed at head s.client))
either-way rev change session at head s off = go (is_kept_own session s.client.sent_in)
  where
    go : (t : Bool) → undo_resumes at head (if t then undo.with_client s (kept_own s.client) else undo_other change.edit s)
        ≡ (if t then undo.with_client (undo.with_client s (kept_resumed at head s.client)) (kept_own (kept_resumed at head s.client)) else undo_other change.edit (undo.with_client s (kept_resumed at head s.client)))
    go true = ap (undo.with_client s) (none-stays at head (kept_own s.client) refl)
    go false =
        ap (λ (k : KeptClient). record { client = kept_resumes at head k; undos = undo.down (shown_change change.edit s.client) s.undos; redos = undo.down (shown_change change.edit s.client) s.redos })
        (off-stays (kept_other change.edit s.client) off)

-- behind a reply it is connected again; a refusal leaves it
abbrev pub again : Back → Reply → Entered → Reply × Entered
again b (Refuses why) q = (Refuses why, q)
again b reply q = (reply, comes_back b q)

told-again : (t : Told) (e : Edit) (by : Text) (b : Back) (q : Entered) → again b (told_reply t e by) q ≡ (told_reply t e by, comes_back b q)
told-again told.Commit e by b q = refl
told-again told.News e by b q = refl

pub said-again : (x : Said) (b : Back) (q : Entered) → again b (said x) q ≡ (said x, comes_back b q)
said-again says.Shown b q = refl
said-again (says.Changed change by) b q = refl
said-again says.Nothing b q = refl
said-again (says.Closed word) b q = refl
said-again says.Renewed b q = refl
said-again (says.Slid (slides.Past doc)) b q = refl
said-again (says.Slid (slides.Asks m)) b q = refl

-- the pad with a client that is connected again
abbrev up : Entered → UndoState → Entered
up p s = record p { client = s; returning = false }

news-first : (b : Back) (n : News) (p : Entered) → (kept_of p).connected ≡ false → nat_lt (kept_of p).rev b.head ≡ true
    → resumed_with b (Some n) p ≡ again b (hears_news n p).0 (hears_news n p).1
news-first b n p off early =
    ap (λ (k : KeptClient). hears_unless (hear_fault (heard_of n) k) n (up p (undo.with_client p.client k)) p) (resumes-early b.session b.head (kept_of p) early)
    ∙ go (hear_fault (heard_of n) (kept_of p))
  where
    go : (o : Option ClientBad) → hears_unless o n (up p (undo.with_client p.client (kept_resumed b.session b.head (kept_of p)))) p ≡ again b (hears_unless o n p p).0 (hears_unless o n p p).1
    go None =
        ap (λ (s : UndoState). (told_reply (told_of (heard_of n) (kept_of p)) (view_change (heard_of n) (kept_of p)) n.by, up p s))
        (sym (either-way n.rev n.change n.session b.session b.head p.client off))
        ∙ sym (told-again (told_of (heard_of n) (kept_of p)) (view_change (heard_of n) (kept_of p)) n.by b (with_client p (undo_hears (heard_of n) p.client)))
    go (Some why) = refl

-- who was told news is connected again
pub resumed-ok : (b : Back) (n : Option News) (p q : Entered) (x : Said) → (kept_of p).connected ≡ false → is_due b n p ≡ true → hears_if n p ≡ (said x, q)
    → resumed_with b n p ≡ (said x, comes_back b q)
resumed-ok b None p q x off due h = λ i. ((h i).0, comes_back b (h i).1)
resumed-ok b (Some n) p q x off due h =
    news-first b n p off (second_true (b.birth == p.birth) _ (second_true p.returning _ due)) ∙ (λ i. again b (h i).0 (h i).1) ∙ said-again x b q

-- and who refuses what was told is as before
resumed-err : (b : Back) (n : Option News) (p : Entered) (why : EditorBad) → (kept_of p).connected ≡ false → is_due b n p ≡ true → hears_if n p ≡ (Refuses why, p)
    → resumed_with b n p ≡ (Refuses why, p)
resumed-err b None p why off due h = absurd (no (ap (λ (o : Reply × Entered). o.0) h))
  where
    no : Nothing ≡ Refuses why → ⊥
    no e = cc
resumed-err b (Some n) p why off due h = news-first b n p off (second_true (b.birth == p.birth) _ (second_true p.returning _ due)) ∙ (λ i. again b (h i).0 (h i).1)

pub comes-err : (b : Back) (n : Option News) (p q : Entered) (why : EditorBad) → (kept_of p).connected ≡ false → is_due b n p ≡ true
    → Comes said (Err why) p q (hears_if n p) → Comes said (Err why) p q (resumed_with b n p)
comes-err b n p q why off due (e, inl m) = (e, inl m)
comes-err b n p q why off due (e, inr h) = (e, inr (resumed-err b n p why off due h))
