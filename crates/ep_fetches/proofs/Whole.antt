-- All that one session is told in a history is of one birth.
use Rattle.std.proofs.Common.{◌≡◌, ℕ, ◌+◌, ◌≤◌, List, [], ◌∷◌, ◌++◌, ◌⊎◌, inl, inr, length, take, drop, Ok, refl, sym, ap, ◌∙◌, subst, arith}
use Rattle.std.proofs.Math.Seq.{take-add}
use Rattle.ep_units.specs.declared.session.Session.{Session}
use Rattle.ep_units.specs.declared.grant.Grant.{Grant}
use Rattle.ep_cs.specs.Doc.{Doc}
use Rattle.ep_cs.specs.Edit.{apply}
use Rattle.ep_history.specs.History.{Birth, doc_at, first_doc, made}
use Rattle.ep_history.specs.Pad.{birth_at}
use Rattle.ep_history.specs.Readings.{Welcome}
use Rattle.ep_history.specs.Entries.{Entry, Reply}
use Rattle.ep_history.specs.Entries.Answer.{CommitAnswer, FetchAnswer, HistoryAnswer, LoginAnswer, ResumeAnswer}
use Rattle.ep_history.specs.Entries.Entry.{Accept, Fetch, Login, ReadHistory, Resume}
use Rattle.ep_history.specs.Machine.{Call, IsKeptState, IsLegal, IsStep, MachineState, Runs, Size}
use Rattle.ep_history.specs.Fetches.{GoOn, all_given}
use Rattle.ep_history.specs.declared.rev.Rev.{Rev}
use Rattle.ep_history.proofs.Steps.{first-kept, step-kept}
use Rattle.ep_history.proofs.Growing.{IsOf, runs-later, step-later, step-of}
use Rattle.ep_fetches.specs.Told.{AreTold, IsCatchUp, IsCommitted, IsFetched, IsPiece, IsTold, IsWelcome}
use Rattle.ep_fetches.proofs.Lists.{decide-session, revs-follow}
use Rattle.ep_fetches.proofs.Answers.{HasEntered, IsSeated, fetch-answered, history-answered, login-answered, resume-answered}
use Rattle.ep_fetches.proofs.Commits.{commit-answered}
use Rattle.ep_fetches.proofs.Grown.{fetched-grown, piece-grown, told-grown}

-- ---- one step

-- what a session of a birth is told is of that birth; and who enters is another session
step-told : (size : Size) (me : Session) (k : ℕ) (st : MachineState) (e : Entry) (reply : Reply) (new : MachineState) → IsKeptState st → IsOf me k st.pad st.is_open
    → IsStep size st e reply new → IsTold k (birth_at new.pad k) me e reply
step-told size me k st (Login g now) (Ok (LoginAnswer w)) new kept o step = λ is.
    absurd ((login-answered size st g now w new step).0.fresh k (subst (λ s. IsOf s k st.pad st.is_open) (sym is) o))
step-told size me k st (Resume g rev birth author now) (Ok (ResumeAnswer w)) new kept o step = λ is.
    absurd ((resume-answered size st g rev birth author now w new step).0.fresh k (subst (λ s. IsOf s k st.pad st.is_open) (sym is) o))
step-told size me k st (Accept s base c now) (Ok (CommitAnswer w)) new kept o step = λ is.
    let f = commit-answered size st s base c now w new kept step in
    let n = f.0.last k (subst (λ t. IsOf t k st.pad st.is_open) (sym is) o) in
    subst (λ t. IsCommitted (birth_at new.pad k) t base c w) is (subst (λ j. IsCommitted (birth_at new.pad j) s base c w) (sym n) f.1)
step-told size me k st (Fetch s from told) (Ok (FetchAnswer x)) new kept o step = λ is.
    let f = fetch-answered size st s from told x new step in
    let n = f.0.last k (subst (λ t. IsOf t k st.pad st.is_open) (sym is) o) in
    let grown = (step-later size st (Fetch s from told) (Ok (FetchAnswer x)) new kept step).births k o.there in
    fetched-grown (birth_at st.pad k) (birth_at new.pad k) grown me from told x
    (subst (λ t. IsFetched (birth_at st.pad k) t from told x) is (subst (λ j. IsFetched (birth_at st.pad j) s from told x) (sym n) f.1))
step-told size me k st (ReadHistory s start count) (Ok (HistoryAnswer x)) new kept o step = λ is.
    let f = history-answered size st s start count x new step in
    let n = f.0.last k (subst (λ t. IsOf t k st.pad st.is_open) (sym is) o) in
    let grown = (step-later size st (ReadHistory s start count) (Ok (HistoryAnswer x)) new kept step).births k o.there in
    piece-grown (birth_at st.pad k) (birth_at new.pad k) grown start count x (subst (λ j. IsPiece (birth_at st.pad j) start count x) (sym n) f.1)
step-told size me k st e reply new kept o step = tt

-- a call tells a session nothing; or it was there; or it enters
abbrev IsSight : Session → MachineState → Entry → Reply → MachineState → Type 0
IsSight me st e reply new =
    ((k : ℕ) (b : Birth) → IsTold k b me e reply)
    ⊎ (IsSeated st me ⊎ ((k : ℕ) × IsOf me k new.pad new.is_open × IsTold k (birth_at new.pad k) me e reply))

sight : (size : Size) (me : Session) (st : MachineState) (e : Entry) (reply : Reply) (new : MachineState) → IsKeptState st → IsStep size st e reply new → IsSight me st e reply new
sight size me st (Login g now) (Ok (LoginAnswer w)) new kept step = go (decide-session w.session me)
  where
    a : HasEntered st w.session w.birth new × IsWelcome w.birth (birth_at new.pad w.birth) w
    a = login-answered size st g now w new step

    go : (w.session ≡ me) ⊎ (w.session ≡ me → ⊥) → IsSight me st (Login g now) (Ok (LoginAnswer w)) new
    go (inl is) = inr (inr (w.birth, subst (λ s. IsOf s w.birth new.pad new.is_open) is a.0.of, λ _. a.1))
    go (inr other) = inl (λ k b is. absurd (other is))
sight size me st (Resume g rev birth author now) (Ok (ResumeAnswer w)) new kept step = go (decide-session w.session me)
  where
    a : HasEntered st w.session w.birth new × IsCatchUp w.birth (birth_at new.pad w.birth) rev w
    a = resume-answered size st g rev birth author now w new step

    go : (w.session ≡ me) ⊎ (w.session ≡ me → ⊥) → IsSight me st (Resume g rev birth author now) (Ok (ResumeAnswer w)) new
    go (inl is) = inr (inr (w.birth, subst (λ s. IsOf s w.birth new.pad new.is_open) is a.0.of, λ _. a.1))
    go (inr other) = inl (λ k b is. absurd (other is))
sight size me st (Fetch s from told) (Ok (FetchAnswer x)) new kept step = go (decide-session s me)
  where
    go : (s ≡ me) ⊎ (s ≡ me → ⊥) → IsSight me st (Fetch s from told) (Ok (FetchAnswer x)) new
    go (inl is) = inr (inl (subst (λ t. IsSeated st t) is (fetch-answered size st s from told x new step).0))
    go (inr other) = inl (λ k b is. absurd (other is))
sight size me st (ReadHistory s start count) (Ok (HistoryAnswer x)) new kept step = go (decide-session s me)
  where
    go : (s ≡ me) ⊎ (s ≡ me → ⊥) → IsSight me st (ReadHistory s start count) (Ok (HistoryAnswer x)) new
    go (inl is) = inr (inl (subst (λ t. IsSeated st t) is (history-answered size st s start count x new step).0))
    go (inr other) = inl (λ k b is. absurd (other is))
sight size me st (Accept s base c now) (Ok (CommitAnswer w)) new kept step = go (decide-session s me)
  where
    go : (s ≡ me) ⊎ (s ≡ me → ⊥) → IsSight me st (Accept s base c now) (Ok (CommitAnswer w)) new
    go (inl is) = inr (inl (subst (λ t. IsSeated st t) is (commit-answered size st s base c now w new kept step).0))
    go (inr other) = inl (λ k b is. absurd (other is))
sight size me st e reply new kept step = inl (λ k b. tt)

-- ---- a whole history

-- of a session that is there
there-told : (size : Size) (me : Session) (k : ℕ) (st : MachineState) (calls : List Call) (last : MachineState) → IsKeptState st → IsOf me k st.pad st.is_open
    → Runs size st calls last → (k ≤ length last.pad.births) × AreTold k (birth_at last.pad k) me calls
there-told size me k st [] last g o run = (subst (λ (x : MachineState). k ≤ length x.pad.births) (sym run) o.there, tt)
there-told size me k st (c ∷ cs) last g o run =
    let next = run.0 in
    let kept = step-kept size st c.entry c.reply next g run.1 in
    let of = step-of size me k st c.entry c.reply next g o run.1 in
    let rest = there-told size me k next cs last kept of run.2 in
    let grown = (runs-later size next cs last kept run.2).births k of.there in
    (rest.0, (told-grown k (birth_at next.pad k) (birth_at last.pad k) grown me c.entry c.reply (step-told size me k st c.entry c.reply next g o run.1), rest.1))

pub run-told : (size : Size) (first last : MachineState) (calls : List Call) (me : Session) → IsKeptState first → Runs size first calls last
    → (k : ℕ) × (k ≤ length last.pad.births) × AreTold k (birth_at last.pad k) me calls
run-told size st last [] me g run = (0, omega arith, tt)
run-told size st last (c ∷ cs) me g run = go (sight size me st c.entry c.reply next g run.1) (run-told size next last cs me kept run.2)
  where
    next : MachineState
    next = run.0

    kept : IsKeptState next
    kept = step-kept size st c.entry c.reply next g run.1

    go : IsSight me st c.entry c.reply next → (k : ℕ) × (k ≤ length last.pad.births) × AreTold k (birth_at last.pad k) me cs
        → (k : ℕ) × (k ≤ length last.pad.births) × AreTold k (birth_at last.pad k) me (c ∷ cs)
    go (inl other) r = (r.0, r.1, (other r.0 (birth_at last.pad r.0), r.2))
    go (inr (inl was)) r =
        let all = there-told size me (length st.pad.births) st (c ∷ cs) last g was.of run in
        (length st.pad.births, all.0, all.1)
    go (inr (inr (k, of, h))) r =
        let rest = there-told size me k next cs last kept of run.2 in
        let grown = (runs-later size next cs last kept run.2).births k of.there in
        (k, rest.0, (told-grown k (birth_at next.pad k) (birth_at last.pad k) grown me c.entry c.reply h, rest.1))

pub legal-told : (size : Size) (calls : List Call) (me : Session) → IsLegal size calls → (k : ℕ) × (b : Birth) × AreTold k b me calls
legal-told size calls me h =
    let r = run-told size h.0 h.1 calls me (first-kept h.0 h.2) h.3 in
    (r.0, birth_at h.1.pad r.0, r.2)

-- ---- documents

made-append : (doc : Doc) (us vs : List Rev) → made doc (us ++ vs) ≡ made (made doc us) vs
made-append doc [] vs = refl
made-append doc (u ∷ us) vs = made-append (apply u.change.edit doc) us vs

-- the document of a revision, changed by those fetched behind it
pub start-document : (k : ℕ) (b : Birth) (me : Session) (calls : List Call) (start : ℕ) → AreTold k b me calls → GoOn me start calls
    → made (doc_at b start) (all_given me calls) ≡ doc_at b (start + length (all_given me calls))
start-document k b me calls start a on =
    let n = length (all_given me calls) in
    ap (made (doc_at b start)) (revs-follow k b me calls start a on)
    ∙ sym (made-append (first_doc b) (take start b.later) (take n (drop start b.later)))
    ∙ ap (made (first_doc b)) (sym (take-add start n b.later))

pub login-document : (k : ℕ) (b : Birth) (g : Grant) (now : ℕ) (w : Welcome) (after : List Call)
    → AreTold k b w.session (record { entry = Login g now; reply = Ok (LoginAnswer w) } ∷ after) → GoOn w.session w.rev after
    → made w.doc (all_given w.session after) ≡ doc_at b (w.rev + length (all_given w.session after))
login-document k b g now w after a on =
    ap (λ doc. made doc (all_given w.session after)) (a.0 refl).doc ∙ start-document k b w.session after w.rev a.1 on
